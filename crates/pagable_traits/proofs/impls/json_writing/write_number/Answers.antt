use Rattle.pagable_traits.proofs.{
  Json.{case-err, json-memory, no_json_fault, number_written, refuses-number},
  JsonSteps.wrote-then-err,
  Parts.{err_along, ok_along},
  Words.{Error, IsOutOfMemory, None, Option, Some, as_i64, bytes, grows_refl, grows_trans, inl, inr, nested_in, number_view, refl, rules, to_z-of_z, w64, ℤ},
  Words.{[], ◌∙◌, ◌≡◌},
}
use Rattle.pagable_traits.specs.JsonFaults.{number-fault}
use Rattle.serde_json.specs.Data.{number}
use Rattle.serde_json.specs.declared.value.Value as values
use Rattle.pagable_traits.proofs.impls.json_writing.write_number.Goals as goal

pub returns-in_default : goal.returns-in_default
returns-in_default g c =
    let none : as_i64 (number_view c.args.value.now) ≡ (let o : Option ℤ = None in o) = search rules in
    record {
      ok = tt;
      refused = (refuses-number _ _ Error.JsonNumber none, λ fault. number-fault _ c.args.value.now none);
      only = inr (inr (inl refl));
      grows = grows_refl _;
      same_env = refl;
      same_levels = refl;
    }

pub returns-in_err-write_case : goal.returns-in_err-write_case
returns-in_err-write_case g c = case-err (number (number_view c.args.value.now)) c.from_residual.ensures.1 c.in_err-write_case.ensures

pub returns-in_err-write_flag : goal.returns-in_err-write_flag
returns-in_err-write_flag g c =
    let flag = c.in_err-write_flag.ensures in
    wrote-then-err {Z = Unit {0}} {Q = bytes []} {second = IsOutOfMemory} c.from_residual-in_err-write_flag.ensures.1 c.in_ok-write_case.ensures
    (record { ok = tt; refused = tt; only = flag.only; grows = flag.grows; same_env = flag.same_env; same_levels = flag.same_levels })
    (λ n old mid e l h. no_json_fault (values.Number c.args.value.now) (number (number_view c.args.value.now)) n _ h) (λ h. json-memory _ h)

pub returns : goal.returns
returns g c =
    let whole : as_i64 (number_view c.args.value.now) ≡ Some c.in-Some.whole = search rules in
    let first = c.in_ok-write_case.ensures in
    let flag = c.in_ok-write_flag.ensures in
    let w = c.pagable_serialize.ensures in
    let form = rw (to_z-of_z w64 c.in-Some.whole (search rules), flag.same_levels, flag.same_env, first.same_levels, first.same_env) at w.ok in
    record {
      ok = ok_along _ form (λ v. number_written _ _ _ _ _ _ _ whole first.ok flag.ok v);
      refused = err_along _ w.only (no_json_fault (values.Number c.args.value.now) (number (number_view c.args.value.now))
          (nested_in g.E.Env g.S.PagableSerializer c.args.serializer.now));
      only = err_along _ w.only json-memory;
      grows = grows_trans _ _ _ (grows_trans _ _ _ first.grows flag.grows) w.grows;
      same_env = w.same_env ∙ flag.same_env ∙ first.same_env;
      same_levels = w.same_levels ∙ flag.same_levels ∙ first.same_levels;
    }
