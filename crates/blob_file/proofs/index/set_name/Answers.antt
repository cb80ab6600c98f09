use Rattle.std.proofs.Common.{◌≡◌, ◌∙◌, sym, ap, ℕ, Option, Some, None, arith}
use Rattle.std.proofs.lemmas.Map.Text.{text_keys, hash_map_updates_text}
use Rattle.std.specs.HashMap.{get_by_text}
use Rattle.std.specs.Map.{update}
use Rattle.std.specs.Str.{bytes_eq}
use Rattle.blob_file.proofs.RowCuts.{given_none, given_some}
use Rattle.blob_file.proofs.index.set_name.Goals as goal

pub returns-then-key-eq0-clause-named : goal.returns-then-key-eq0-clause-named
returns-then-key-eq0-clause-named c q =
    hash_map_updates_text c.args.name.now c.args.names.now c.remove.new.self None c.remove.ensures.updates q
    ∙ ap (λ (k : Option ℕ). update bytes_eq (get_by_text c.args.names.now) c.args.name.now k q) (sym (given_none c.args.key c.if-key-eq0.true))

pub returns-in_ok-insert-clause-named : goal.returns-in_ok-insert-clause-named
returns-in_ok-insert-clause-named c q =
    let text = c.in_ok-from_str.ensures.ok in
    let done : get_by_text c.insert.new.self q ≡ update bytes_eq (get_by_text c.args.names.now) c.args.name.now (Some c.args.key) q = grind
    (arith, text_keys) in
    done ∙ ap (λ (k : Option ℕ). update bytes_eq (get_by_text c.args.names.now) c.args.name.now k q) (sym (given_some c.args.key c.if-key-eq0.false))
