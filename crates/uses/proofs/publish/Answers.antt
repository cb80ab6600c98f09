use Rattle.pagable_value_spec.specs.Blob.{Blob}
use Rattle.std.proofs.Common.{List, Option, ap, ℕ, ◌∙◌}
use Rattle.uses.proofs.Names.{sets-so, stands-so, stays-stored}
use Rattle.uses.proofs.publish.Goals as goal

pub returns-clause-stands : goal.returns-clause-stands
returns-clause-stands g c honest =
    let flush = c.in_ok-flush.ensures in
    let named = c.in_ok-set_root.ensures.sets (flush.asks.honest honest) in
    ap (λ (f : List ℕ → Option ℕ). f c.args.name.now) (flush.sure_names honest ∙ flush.same_names honest) ∙ stands-so _ _ _ _ named

pub returns-clause-stored : goal.returns-clause-stored
returns-clause-stored g c honest =
    let flush = c.in_ok-flush.ensures in
    let set = c.in_ok-set_root.ensures in
    let named = flush.asks.honest honest in
    let stored = c.in_ok-key.ensures.asks.step (set.asks.honest named) in
    ap (λ (f : ℕ → Option Blob). f c.in_ok-key.key) (flush.sure honest) ∙ stays-stored stored (set.asks.step named) (flush.asks.step honest).asked

pub returns-clause-others : goal.returns-clause-others
returns-clause-others g c honest =
    let flush = c.in_ok-flush.ensures in
    let set = c.in_ok-set_root.ensures in
    let named = flush.asks.honest honest in
    sets-so _ _ _ _ _ _ (c.in_ok-key.ensures.same_names (set.asks.honest named)) (set.sets named) (flush.sure_names honest ∙ flush.same_names honest)

pub returns-clause-found : goal.returns-clause-found
returns-clause-found g c honest =
    let flush = c.in_ok-flush.ensures in
    ap (λ (f : List ℕ → Option ℕ). f c.args.name.now) (flush.same_names honest) ∙ stands-so _ _ _ _ (c.in_ok-set_root.ensures.sets (flush.asks.honest honest))
