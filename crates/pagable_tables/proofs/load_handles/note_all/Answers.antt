use Rattle.pagable_tables.proofs.{LastHandles.{core-same, noted-later}, Words.{refl, subst, sym}}
use Rattle.pagable_pager_spec.specs.Pager as pager
use Rattle.pagable_tables.proofs.load_handles.note_all.Goals as goal

pub returns-clause-notes : goal.returns-clause-notes
returns-clause-notes c =
    let t = c.args.t.now in
    let t1 = record t { loads = c.note_above.new.loads; noted = t.ref_counts.last_handle } in
    record {
      same = refl;
      rows = c.note_above.ensures.rows;
      whole = record {
        steady = c.requires.whole.steady;
        core = subst pager.IsWhole (sym (core-same t t1 refl c.note_above.ensures.rows _))
            c.requires.whole.core;
      };
      later = noted-later t t1 refl c.note_above.ensures.rows refl c.note_above.ensures.noted c.requires.later;
    }
