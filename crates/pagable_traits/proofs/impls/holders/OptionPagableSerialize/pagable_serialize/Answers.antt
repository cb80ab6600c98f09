use Rattle.pagable_traits.proofs.{
  JsonSteps.{whole-wrote, wrote-err},
  Parts.{err_along, no-some, ok_along, writes_absent},
  Words.{IsOutOfMemory, MeansOption, bool_form, bytes, inl, inr, means-some, memory_refuses, present, refused_memory, some-form, true, []},
}
use Rattle.pagable_traits.proofs.impls.holders.OptionPagableSerialize.pagable_serialize.Goals as goal

pub returns-in-None : goal.returns-in-None
returns-in-None g c =
    let f = c.write_flag.ensures in
    record {
      ok = rw c.in-None.is (ok_along c.write_flag.result f.ok (λ e. writes_absent _ _ _ _ _ e));
      refused = refused_memory c.write_flag.result _ _ _ f.only;
      only = err_along c.write_flag.result f.only (λ e h. inl h);
      grows = f.grows;
      same_env = f.same_env;
      same_levels = f.same_levels;
    }

pub returns-in_err-write_flag-in-Some : goal.returns-in_err-write_flag-in-Some
returns-in_err-write_flag-in-Some g c =
    let f = c.in_err-write_flag-in-Some.ensures in
    wrote-err {X = Unit {0}} {P = bytes []} {first = IsOutOfMemory} c.from_residual.ensures.1
    (record { ok = tt; refused = tt; only = f.only; grows = f.grows; same_env = f.same_env; same_levels = f.same_levels }) (λ n l h. memory_refuses _ _ n _ h)
    (λ h. inl h)

pub returns-in_ok-write_flag-in-Some : goal.returns-in_ok-write_flag-in-Some
returns-in_ok-write_flag-in-Some g c =
    let f = c.in_ok-write_flag-in-Some.ensures in
    whole-wrote {X = Unit {0}} {p = IsOutOfMemory} {u = tt} present (bool_form true) _ _ _ (MeansOption g.T.Carried.means.of c.args.self.now)
    (λ m is. rw c.in-Some.is (means-some _ m is)) (λ n m b k f. some-form _ _ m b k f) (λ n. no-some n _)
    (record { ok = f.ok; refused = tt; only = tt; grows = f.grows; same_env = f.same_env; same_levels = f.same_levels })
    (rw f.same_env at c.pagable_serialize.ensures) (λ e h. inr h)
