use Rattle.sha2.proofs.Absorbing256.{digest_more}
use Rattle.sha2.specs.Sha256.{digest_bytes}
use Rattle.sha256_lanes.proofs.Messages.{word_of_lane}
use Rattle.std.proofs.{
  Common.{List, ap, arith, refl, rules, slice_index, slice_index_or, sym, ℕ, [], ◌∙◌, ◌≡◌},
  lemmas.{List.take_all, Slice.overwrites},
}
use Rattle.std.specs.Int.{to_be_bytes, w32}
use Rattle.sha256_lanes.proofs.digest.read_digest.Goals as goal

pub loop-place-init : goal.loop-place-init
unfolding digest_bytes
loop-place-init c = (refl, λ s state. refl)

pub loop-place-preserved : goal.loop-place-preserved
loop-place-preserved c = (
  search (rules, overwrites),
  λ s state.
      let word : slice_index (slice_index_or c.args.state.now c.loop-place.place []) c.args.lane ≡ slice_index (s c.args.lane) c.loop-place.place =
      ap (λ (v : List (List ℕ)). slice_index (slice_index_or v c.loop-place.place []) c.args.lane) state
      ∙ word_of_lane s c.loop-place.place c.args.lane (omega arith) c.requires in
      digest_more c.loop-place.digest (s c.args.lane) c.copy_from_slice.new.self c.loop-place.place _ (c.loop-place.invariant.1 s state) (omega arith)
      (c.copy_from_slice.ensures.after ∙ c.to_be_bytes.ensures ∙ ap (to_be_bytes w32) word),
)

pub returns : goal.returns
returns c s state =
    let done : c.loop-place.place ≡ 8 = omega arith in
    sym (take_all 32 c.loop-place.digest (omega arith)) ∙ rw done at (c.loop-place.invariant.1 s state)
