-- After room is made for a pin, the cell that was found is still as it was found; and if there is no room no load begins.
use Rattle.pagable_pager_spec.specs.{Calls.is_handle_here, LoadCalls.{BeginCall, begin_fault}}
use Rattle.pagable_tables.proofs.{SameViews.{owner-self, room-alike}, Words.{Core, HandleNumber, None, OnlyRoom, Owner, inl, inr, refl, subst, ◌≡◌, basics}}
use Rattle.pagable_tables.specs.{Leaf.IsLeaf, declared.leaf.Leaf.Leaf}
use Rattle.pagable_value_spec.specs.declared.error.Error.{Error}
use Rattle.std.specs.Prelude.{Err, false}

pub leaf-roomier : {w w' : Core} {me : Owner} {leaf : Leaf} → OnlyRoom w w' → IsLeaf w me leaf → IsLeaf w' me leaf
leaf-roomier room is = grind basics

no-fault : {w : Core} {me : Owner} {leaf : Leaf} → IsLeaf w me leaf → begin_fault w me leaf.row.number ≡ None
no-fault {w} {me} is = grind (basics, owner-self)

-- so where one is refused, memory is wanting
pub begin-wants : {w w' : Core} {me : Owner} {leaf : Leaf} {e : Error} → IsLeaf w me leaf → BeginCall w me leaf.row.number (Err e) w' → e ≡ Error.OutOfMemory
begin-wants {me = me} {leaf = leaf} is call = elim call.refused.why [
  | inl fault ↦ absurd (let none = no-fault is in cc)
  | inr (wanting, before, away) ↦ wanting
]

pub begin-refused : {w w' : Core} {me : Owner} {leaf : Leaf} (h : HandleNumber) → leaf.row.number ≡ h → OnlyRoom w w' → IsLeaf w me leaf
    → BeginCall w me h (Err Error.OutOfMemory) w'
begin-refused {w} {w'} {me} {leaf} h same room is =
    let away : is_handle_here w leaf.row.number ≡ false = grind (basics, is.owned.live, is.away) in
    subst (λ q. BeginCall w me q (Err Error.OutOfMemory) w') same (record {
      begins = tt;
      refused = record { why = inr (refl, no-fault is, away); stays = room-alike room };
    })
