use Rattle.std.proofs.Common.{◌≡◌, ◌∙◌, ap, ap₂, ℕ, List, ◌++◌, append_assoc}
use Rattle.blob_file.proofs.rows.extend_row.Goals as goal

pub returns-clause-ok : goal.returns-clause-ok
returns-clause-ok c =
    let a : List ℕ = c.args.rows.now.items in
    let x : List ℕ = c.to_le_bytes.result in
    let y : List ℕ = c.to_le_bytes-2.result in
    let z : List ℕ = c.to_le_bytes-3.result in
    let name : List ℕ = c.args.name.now in
    let second : c.extend_from_slice-2.new.self.items ≡ (a ++ x) ++ y =
    c.in_ok-extend_from_slice-2.ensures.items ∙ ap (λ (l : List ℕ). l ++ y) c.in_ok-extend_from_slice.ensures.items in
    let third : c.extend_from_slice-3.new.self.items ≡ a ++ (x ++ (y ++ z)) =
    c.in_ok-extend_from_slice-3.ensures.items ∙ ap (λ (l : List ℕ). l ++ z) second ∙ append_assoc (a ++ x) y z ∙ append_assoc a x (y ++ z) in
    c.in_ok-extend_from_slice-4.ensures.items ∙ ap (λ (l : List ℕ). l ++ name) third ∙ append_assoc a (x ++ (y ++ z)) name
    ∙ ap (λ (l : List ℕ). a ++ (l ++ name)) (ap₂ (λ (l m : List ℕ). l ++ m) c.to_le_bytes.ensures
    (ap₂ (λ (l m : List ℕ). l ++ m) c.to_le_bytes-2.ensures c.to_le_bytes-3.ensures))
