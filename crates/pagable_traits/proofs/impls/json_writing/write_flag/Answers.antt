use Rattle.pagable_traits.proofs.{
  Json.{case-byte, case-err, flag-up, json-memory, no_json_fault},
  JsonSteps.wrote-then,
  Parts.writes_whole,
  Words.{refl, variant, ◌∷◌, []},
}
use Rattle.serde_json.specs.Data.{boolean}
use Rattle.serde_json.specs.declared.value.Value as values
use Rattle.pagable_traits.proofs.impls.json_writing.write_flag.Goals as goal

pub returns-in_err-write_case : goal.returns-in_err-write_case
returns-in_err-write_case g c = case-err (boolean c.args.flag) c.from_residual.ensures.1 c.in_err-write_case.ensures

pub returns : goal.returns
returns g c = wrote-then c.in_ok-write_case.ensures c.pagable_serialize.ensures
    (λ n old mid new e w. writes_whole n n (λ m. variant 1 m) _ _ _ _ (λ m is. rw is refl) (1 ∷ []) old mid new (λ m b k f. flag-up n f)
    (rw (case-byte 1 refl) at e) w) (λ n e l h. no_json_fault (values.Bool c.args.flag) (boolean c.args.flag) n e h) json-memory
