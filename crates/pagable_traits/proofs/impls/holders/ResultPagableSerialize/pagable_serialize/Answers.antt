use Rattle.pagable_traits.proofs.{
  JsonSteps.whole-wrote,
  Parts.{no-failure, no-success},
  Words.{IsOutOfMemory, MeansResult, bool_form, err-form, failure, false, inl, inr, means-err, means-ok, ok-form, rules, success, true, ◌≡◌},
}
use Rattle.pagable_traits.proofs.impls.holders.ResultPagableSerialize.pagable_serialize.Goals as goal

pub returns-in-Ok : goal.returns-in-Ok
returns-in-Ok g c =
    let f = c.in_ok-write_flag.ensures in
    let good : c.is_ok.result ≡ true = search rules in
    whole-wrote {X = Unit {0}} {p = IsOutOfMemory} {u = tt} success (bool_form true) _ _ _
    (MeansResult g.T.Carried.means.of g.X.Carried.means.of c.args.self.now)
    (λ m is. rw c.in-Ok.is (means-ok _ m is)) (λ n m b k f. ok-form _ _ _ m b k f) (λ n. no-success n _ _)
    (record { ok = rw good at f.ok; refused = tt; only = tt; grows = f.grows; same_env = f.same_env; same_levels = f.same_levels })
    (rw f.same_env at c.pagable_serialize.ensures) (λ e h. inr (inl h))

pub returns-in-Err : goal.returns-in-Err
returns-in-Err g c =
    let f = c.in_ok-write_flag.ensures in
    let bad : c.is_ok.result ≡ false = search rules in
    whole-wrote {X = Unit {0}} {p = IsOutOfMemory} {u = tt} failure (bool_form false) _ _ _
    (MeansResult g.T.Carried.means.of g.X.Carried.means.of c.args.self.now)
    (λ m is. rw c.in-Err.is (means-err _ m is)) (λ n m b k f. err-form _ _ _ m b k f) (λ n. no-failure n _ _)
    (record { ok = rw bad at f.ok; refused = tt; only = tt; grows = f.grows; same_env = f.same_env; same_levels = f.same_levels })
    (rw f.same_env at c.pagable_serialize-in-Err.ensures) (λ e h. inr (inr h))
