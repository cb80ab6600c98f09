use Rattle.sha2.specs.Sha256.{hash_after, initial_hash_256, padded_message}
use Rattle.sha256_lanes.proofs.{ByLane.same_states, Messages.{all_blocks_of_four, one_more_block}}
use Rattle.sha256_lanes.specs.Lanes.{four}
use Rattle.std.proofs.Common.{arith, ◌∙◌}
use Rattle.sha256_lanes.proofs.digest.hash_four.Goals as goal

pub loop-number-init : goal.loop-number-init
unfolding hash_after
loop-number-init c = c.make_state-state.ensures

pub loop-number-preserved : goal.loop-number-preserved
loop-number-preserved c =
    let messages = four c.args.first.now c.args.second.now c.args.third.now c.args.fourth.now in
    c.compress-next.ensures (λ i. hash_after initial_hash_256 (padded_message (messages i)) c.loop-number.number) c.loop-number.invariant
    ∙ same_states _ _
    (one_more_block initial_hash_256 c.args.first.now c.args.second.now c.args.third.now c.args.fourth.now _ _ _ _ c.loop-number.number
    c.find_block.ensures.value c.find_block-in-loop-number.ensures.value c.find_block-in-loop-number-2.ensures.value
    c.find_block-in-loop-number-3.ensures.value)

pub returns : goal.returns
returns c =
    c.loop-number.invariant
    ∙ same_states _ _
    (all_blocks_of_four initial_hash_256 c.args.first.now c.args.second.now c.args.third.now c.args.fourth.now c.loop-number.number
    (omega arith) (omega arith) (omega arith) (omega arith))
