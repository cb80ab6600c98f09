-- What an open finds after a crash.
use Rattle.std.proofs.Common.{◌≡◌, inl, inr, refl, sym, ◌∙◌, subst, ℕ, ◌≤◌, true, false, List, take, arith}
use Rattle.std.specs.Prelude.{Result, Ok, Err, IfOk, IfErr, OnErr, OnOk, is_ok}
use Rattle.std.proofs.lemmas.Bool.{both_ways}
use Rattle.std.proofs.lemmas.Slice.Eq.{bytes_eq-Decides}
use Rattle.blob_file.specs.Format.{header, is_made, recovered, AreSummed}
use Rattle.blob_file.specs.Log.{IsLeft, RestsAt, SameBelow}
use Rattle.blob_file.specs.Opening.{CanOpen, Refuses}
use Rattle.blob_file.specs.Rows.{AreFormed}
use Rattle.blob_file.specs.declared.file_error.FileError.{FileError}
use Rattle.blob_file.specs.declared.file_error.FileError.TheVariants.{Damaged, NotBlobs}
use Rattle.blob_file.proofs.BatchFiles.{same_front}
use Rattle.blob_file.proofs.Repairs.{rests_made}
use Rattle.blob_file.proofs.Scans.{formed_push, summed_push}

pub if_ok_both : {X Y : Type 0} (r : Result X Y) {P Q R : X → Type 0} → ((x : X) → P x → Q x → R x) → IfOk r P → IfOk r Q → IfOk r R
if_ok_both (Ok x) f p q = f x p q
if_ok_both (Err y) f p q = tt

pub if_err_both : {X Y : Type 0} (r : Result X Y) {P Q R : Y → Type 0} → ((y : Y) → P y → Q y → R y) → IfErr r P → IfErr r Q → IfErr r R
if_err_both (Ok x) f p q = tt
if_err_both (Err y) f p q = f y p q

pub on_ok_at : {X Y P : Type 0} (r : Result X Y) → is_ok r ≡ true → OnOk r P → P
on_ok_at (Ok x) ok p = p
on_ok_at (Err y) ok p = absurd (both_ways false refl ok)

-- what has the front of a file that rests has the header
pub same_made : (gate : ℕ) (file c : List ℕ) → RestsAt gate file → SameBelow gate file c → is_made c ≡ true
same_made gate file c rests s =
    let low : 16 ≤ gate = omega (arith, rests.place) in
    (bytes_eq-Decides (take 16 c) header).1 (same_front gate 16 file c low (omega (arith, rests.within)) s
    ∙ (bytes_eq-Decides (take 16 file) header).0 (rests_made gate file rests))

-- a file that can be opened isn't refused for what it is
pub not_refused : (clean : Type 0) (file : List ℕ) (before after : ℕ) (e : FileError) → clean → CanOpen file → Refuses clean file before after e
    → (e ≡ NotBlobs → ⊥) × (e ≡ Damaged → ⊥)
not_refused clean file before after e it can refuses = (
  λ is. both_ways (is_made file) (subst (Refuses clean file before after) is refuses it).0 can.made,
  λ is. subst (Refuses clean file before after) is refuses it (can.summed, can.formed),
)

-- whatever is left where a batch is added has the sums that it says
pub left_summed : (gate : ℕ) (old batch c : List ℕ) → AreSummed (recovered old) → IsLeft gate old batch c → AreSummed (recovered c)
left_summed gate old batch c summed left = elim left.stands [
  | inl was ↦ subst AreSummed (sym was) summed
  | inr more ↦ subst AreSummed (sym more.0) (summed_push (recovered old) batch summed more.1.summed)
]

pub left_formed : (gate : ℕ) (old batch c : List ℕ) → AreFormed (recovered old) → IsLeft gate old batch c → AreFormed (recovered c)
left_formed gate old batch c formed left = elim left.stands [
  | inl was ↦ subst AreFormed (sym was) formed
  | inr more ↦ subst AreFormed (sym more.0) (formed_push (recovered old) batch formed more.1.formed)
]

pub on_err_any : {X Y P : Type 0} (r : Result X Y) → P → OnErr r P
on_err_any (Ok x) p = tt
on_err_any (Err y) p = p
