use Rattle.pagable_traits.proofs.{
  Json.{case-byte, case-err, json-text, no-text, text-up, text_faults},
  JsonSteps.wrote-then,
  Parts.{refuses_whole, writes_whole},
  Words.{refl, string_bytes, variant, ◌∷◌, []},
}
use Rattle.pagable_traits.specs.JsonFaults.{Fault, text-fault}
use Rattle.serde_json.specs.Data.{string}
use Rattle.serde_json.specs.declared.value.Value as values
use Rattle.pagable_traits.proofs.impls.json_writing.write_text.Goals as goal

pub returns-in_err-write_case : goal.returns-in_err-write_case
returns-in_err-write_case g c = case-err (string (string_bytes c.args.text.now)) c.from_residual.ensures.1 c.in_err-write_case.ensures

pub returns : goal.returns
returns g c = wrote-then c.in_ok-write_case.ensures c.pagable_serialize.ensures
    (λ n old mid new e w. writes_whole n n (λ m. variant 3 m) _ _ _ _ (λ m is. rw is refl) (3 ∷ []) old mid new (λ m b k f. text-up n f)
    (rw (case-byte 3 refl) at e) w)
    (λ n e l h. (
      refuses_whole n n (λ m. variant 3 m) _ _ _ _ (λ m is. rw is refl) e (no-text n) l,
      text_faults (Fault n (values.String c.args.text.now)) c.args.text.now n e (text-fault n c.args.text.now) l h,
    )) json-text
