use Rattle.pagable_value_spec.proofs.Cut.{cut_in_two}
use Rattle.pagable_value_spec.specs.Reasons.{IsCut, kept_of}
use Rattle.std.proofs.{Common.{ap, arith, length, rules, subst, take, [], ◌++◌, ◌∙◌, ◌∷◌, ◌≡◌, ◌≤◌}, lemmas.List.length-take}
use Rattle.pagable_value_spec.proofs.reason.Reason.append_and_cut.Goals as goal

pub returns-clause-kept : goal.returns-clause-kept
returns-clause-kept c =
    let front = c.as_str-front.result.now in
    let text = c.args.text.now in
    let self = c.args.self.now in
    let first = c.floor_char_boundary in
    let second = c.floor_char_boundary-2 in
    let short : length front ≤ 61 =
    let same : length front ≡ length (take self.length self.bytes) = ap length c.as_str-front.ensures in
    let taken = length-take self.length self.bytes in
    let within : self.length ≤ 61 = self.within in
    omega (arith, same, taken, within) in
    let kept : c.range-kept.result.now ≡ take first.result front = search rules in
    let more : c.range-more.result.now ≡ take second.result text = search rules in
    let whole : kept_of c.append_whole-whole.result ≡ take first.result front =
    c.append_whole-whole.ensures.value ∙ ap (λ xs. xs ++ c.range-kept.result.now) c.empty.ensures.value ∙ kept in
    let both : kept_of c.append_whole.result ≡ take first.result front ++ take second.result text =
    c.append_whole.ensures.value ∙ ap (λ xs. xs ++ c.range-more.result.now) whole ∙ ap (λ ys. take first.result front ++ ys) more in
    let cut : IsCut (front ++ text) (kept_of c.append_whole-2.result) =
    cut_in_two front text _ first.result second.result c.saturating_sub.result short c.saturating_sub.ensures first.ensures.bound first.ensures.boundary
    first.ensures.nearest
    second.ensures.bound second.ensures.boundary second.ensures.nearest (c.append_whole-2.ensures.value ∙ ap (λ xs. xs ++ (46 ∷ 46 ∷ [])) both) in
    subst (λ f. IsCut (f ++ text) (kept_of c.append_whole-2.result)) c.as_str-front.ensures cut
