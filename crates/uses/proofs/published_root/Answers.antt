use Rattle.std.proofs.Common.{List, Option, Some, ap, ℕ, ◌∙◌}
use Rattle.uses.proofs.Published.{if-ok}
use Rattle.uses.proofs.published_root.Goals as goal

pub returns : goal.returns
returns g c honest =
    let fetched = c.root.ensures.asks.honest honest in
    let stored = c.in_ok-fetch.ensures.asks.honest fetched in
    let published = c.in_ok-key.ensures.asks.honest stored in
    let same = (c.in_ok-fetch.ensures.same_names fetched).0 ∙ c.in_ok-key.ensures.same_names stored in
    let publish = c.in_ok-publish.ensures in
    if-ok (λ found is. is ∙ ap (λ (f : List ℕ → Option ℕ). f c.args.name.now) same ∙ publish.found published ∙ ap Some publish.key) c.root.result
    (c.root.ensures.ok honest)
