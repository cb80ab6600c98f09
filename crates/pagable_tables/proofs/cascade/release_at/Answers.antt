use Rattle.pagable_tables.proofs.{CascadeEnd.{gives-fewer, gives-on, gives-unlisted, stays-first}, CascadeStep.unowned, Words.{arith, [], ◌∙◌}}
use Rattle.pagable_tables.proofs.cascade.release_at.Goals as goal

pub release_without_cascade-requires-clause-falling : goal.release_without_cascade-requires-clause-falling
release_without_cascade-requires-clause-falling g c = ([], unowned _ c.args.at.row [] c.requires.not_a_value c.requires.steady)

pub cascade-requires : goal.cascade-requires
cascade-requires g c = let e = c.release_without_cascade.ensures [] (unowned _ c.args.at.row [] c.requires.not_a_value c.requires.steady) in
    record { falling = (e.more, e.falling, omega arith) }

pub returns : goal.returns
returns g c =
    let s = c.requires.steady in
    let e = c.release_without_cascade.ensures [] (unowned _ c.args.at.row [] c.requires.not_a_value s) in
    record {
      steady = c.cascade.ensures.whole;
      fewer = omega (arith, gives-fewer e);
      so_far = λ before w given f few free. c.cascade.ensures.so_far before w _
          (gives-on f s.fits.pinned free few e);
      unlisting = λ none. c.cascade.ensures.unlisting none ∙ gives-unlisted none e;
      drops = stays-first e.values c.cascade.ensures.drops;
    }
