-- A value that was read under a key is what a publisher's blob without references says.
use Rattle.pagable_load.proofs.Keyed.{leaves_are_right}
use Rattle.pagable_load.specs.Keyed.{HoldsKeyed}
use Rattle.pagable_pager_spec.specs.{Pager.PagerState, World.Values}
use Rattle.std.proofs.Common.{Err, Ok, Option, Result, ℕ}
use Rattle.std.specs.Prelude.{IfOk}
use Rattle.uses.specs.Published.{IsPublished, over}

module _ {N T E : Type 0} {v : Values N} {s : PagerState N E} {held : N → Option T} {key t : ℕ} where
  pub is_published : {a : T} → HoldsKeyed v held key t a → IsPublished v s held key t a
  is_published h = record {
    x = h.x;
    holds = h.holds;
    read = h.keyed.blob;
    named = h.keyed.named;
    right = λ published tree lawful readable keys clash leaf typed reads.
        leaves_are_right v (over published s) key t h.x h.keyed tree lawful readable keys clash leaf typed reads;
  }

-- what holds of each value that is returned
pub if-ok : {A F : Type 0} {P Q : A → Type 0} → ((a : A) → P a → Q a) → (r : Result A F) → IfOk r P → IfOk r Q
if-ok so (Ok a) h = so a h
if-ok so (Err e) h = tt
