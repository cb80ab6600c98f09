use Rattle.sha256_lanes.proofs.Tails.{tail_is}
use Rattle.std.proofs.{Common.{drop, length, refl, replicate, ℕ, ◌%◌, ◌-◌, ◌∙◌, ◌≡◌}, lemmas.List.{drop-replicate, take_rest}}
use Rattle.sha256_lanes.proofs.padding.make_tail.Goals as goal

pub returns : goal.returns
returns c =
    let m = c.args.message.now in
    let rest : ℕ = length m % 64 in
    let zeros : drop rest (replicate 128 0) ≡ replicate (128 - rest) 0 = drop-replicate _ _ _ in
    tail_is m c.copy_from_slice.new.self _ c.copy_from_slice-2.new.self rest _ _ refl refl
    (c.copy_from_slice.ensures.after ∙ take_rest m (length m - rest)) zeros
    (c.copy_from_slice-2.ensures.after ∙ c.to_be_bytes.ensures)
