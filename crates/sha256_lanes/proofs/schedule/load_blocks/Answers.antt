use Rattle.sha256_lanes.proofs.ByLane.{first_word, one_more_word}
use Rattle.sha256_lanes.specs.Lanes.{four}
use Rattle.std.proofs.{Common.{arith, ◌∙◌}, lemmas.List.length-set}
use Rattle.sha256_lanes.proofs.schedule.load_blocks.Goals as goal

pub loop-t-preserved : goal.loop-t-preserved
loop-t-preserved c =
    let b = four c.args.first.now c.args.second.now c.args.third.now c.args.fourth.now in
    let t = c.loop-t.t in
    let long = c.loop-t.invariant.0 in (
      length-set c.loop-t.words t c.load_words.result ∙ long,
      one_more_word c.loop-t.words b t c.load_words.result long (omega arith) c.loop-t.invariant.1
          (c.load_words.ensures ∙ first_word b t (omega arith)),
    )
