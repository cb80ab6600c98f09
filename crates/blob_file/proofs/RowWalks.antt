-- The walk over the rows of a batch: what holds when some are taken and the rest are left.
use Rattle.std.proofs.Common.{◌≡◌, refl, sym, ◌∙◌, ap, subst, ℕ, ◌+◌, ◌-◌, ◌≤◌, List, [], ◌++◌, take, drop, arith, append_assoc, append-nil}
use Rattle.std.proofs.Common.{take-append-drop}
use Rattle.blob_file.specs.Rows.{row_len, AreWhole, Learns}
use Rattle.blob_file.specs.declared.index.Index.{Index}
use Rattle.blob_file.proofs.RowCuts.{learns-append, learns_nil, whole-append, whole_behind, whole_nil}

pub record Takes (first bodies left : ℕ) (rows rest : List ℕ) (old new : Index) : Type 0 where
  pub before : List ℕ
  pub parts : rows ≡ before ++ rest
  pub low : left ≤ bodies
  pub whole : AreWhole (bodies - left) before
  pub learns : Learns first before old new

pub takes_none : (first bodies : ℕ) (rows : List ℕ) (index : Index) → Takes first bodies bodies rows rows index index
takes_none first bodies rows index =
    let none : 0 ≡ bodies - bodies = omega arith in
    record {
      before = [];
      parts = refl;
      low = omega arith;
      whole = subst (λ (n : ℕ). AreWhole n []) none whole_nil;
      learns = learns_nil first index;
    }

pub takes_next : (first bodies left more : ℕ) (rows rest behind : List ℕ) (old mid new : Index) → Takes first bodies left rows rest old mid → more ≤ left
    → AreWhole (left - more) (take (row_len rest) rest)
    → Learns (first + (bodies - left)) (take (row_len rest) rest) mid new → behind ≡ drop (row_len rest) rest → Takes first bodies more rows behind old new
takes_next first bodies left more rows rest behind old mid new t fewer whole learns is =
    let row = take (row_len rest) rest in
    let size : bodies - left + (left - more) ≡ bodies - more = omega (arith, t.low, fewer) in
    record {
      before = t.before ++ row;
      parts = t.parts ∙ ap (λ (l : List ℕ). t.before ++ l) (sym (take-append-drop (row_len rest) rest) ∙ ap (λ (l : List ℕ). row ++ l) (sym is))
          ∙ sym (append_assoc t.before row behind);
      low = omega (arith, t.low, fewer);
      whole = subst (λ (n : ℕ). AreWhole n (t.before ++ row)) size (whole-append (bodies - left) (left - more) t.before row t.whole whole);
      learns = learns-append first (bodies - left) t.before row old mid new t.whole t.learns learns;
    }

-- the rows are whole only if those that are left are
pub takes_not : (first bodies left : ℕ) (rows rest : List ℕ) (old new : Index) → Takes first bodies left rows rest old new → (AreWhole left rest → ⊥)
    → AreWhole bodies rows → ⊥
takes_not first bodies left rows rest old new t not all =
    let size : bodies - (bodies - left) ≡ left = omega (arith, t.low) in
    not (subst (λ (n : ℕ). AreWhole n rest) size (whole_behind (bodies - left) bodies t.before rest t.whole (subst (AreWhole bodies) t.parts all)))

pub takes_all : (first bodies left : ℕ) (rows rest : List ℕ) (old new : Index) → Takes first bodies left rows rest old new → rest ≡ [] → left ≡ 0
    → AreWhole bodies rows × Learns first rows old new
takes_all first bodies left rows rest old new t none zero =
    let is : t.before ≡ rows = sym (t.parts ∙ ap (λ (l : List ℕ). t.before ++ l) none ∙ append-nil t.before) in
    let size : bodies - left ≡ bodies = omega (arith, zero) in (
      subst (AreWhole bodies) is (subst (λ (n : ℕ). AreWhole n t.before) size t.whole),
      subst (λ (l : List ℕ). Learns first l old new) is t.learns,
    )

-- no rows have no bodies
pub none_left : (left : ℕ) (rest : List ℕ) → rest ≡ [] → (left ≡ 0 → ⊥) → AreWhole left rest → ⊥
none_left left rest none some all = some (sym (subst (λ (l : List ℕ). AreWhole left l) none all).sized ∙ whole_nil.sized)
