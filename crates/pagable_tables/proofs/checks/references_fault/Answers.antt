use Rattle.pagable_tables.proofs.{SameViews.{fault-at, named-other, seen-more}, Words.{ArcRef, None, arith, get_or, sym, ◌∙◌, ◌∷◌}}
use Rattle.pagable_tables.specs.Core.{StorageView}

abbrev blank : ArcRef
blank = record { kind = record { 0 = 0 }; node = record { 0 = 0 }; handle = record { 0 = 0 } }

pub loop-i-preserved : Rattle.pagable_tables.proofs.checks.references_fault.Goals.loop-i-preserved
loop-i-preserved c =
    let l = c.loop-i in
    let rs = c.args.references.now in
    let named = l.invariant.same _ ∙ sym c.is_named-is_seen.ensures in
    let none = λ (storage : StorageView). sym (c.reference_fault.ensures storage l.invariant.seen named) ∙ c.in_default.is in
    record {
      seen = (get_or rs l.i blank).handle.0 ∷ l.invariant.seen;
      same = seen-more _ rs l.i blank (omega arith) l.invariant.same;
      lowest = λ q below. named-other rs l.i blank q (omega arith) (omega arith)
          (l.invariant.lowest q (omega arith));
      highest = λ q above. named-other rs l.i blank q (omega arith) (omega arith)
          (l.invariant.highest q (omega arith));
      rest = λ storage. l.invariant.rest storage ∙ fault-at _ _ _ rs l.i blank None (omega arith)
          (none storage);
    }

pub returns-in-Some : Rattle.pagable_tables.proofs.checks.references_fault.Goals.returns-in-Some
returns-in-Some c storage =
    let l = c.loop-i in
    let fault = sym (c.reference_fault.ensures storage l.invariant.seen (l.invariant.same _ ∙ sym c.is_named-is_seen.ensures)) ∙ c.in-Some.is in
    sym (l.invariant.rest storage ∙ fault-at _ _ _ _ l.i _ _
    (omega arith) fault)
