-- An error of a callee is one of the caller's.
use Rattle.std.proofs.Common.{◌≡◌, sym, subst}
use Rattle.std.specs.Prelude.{Result, Ok, Err, IfErr, IsErrAnd}
use Rattle.blob_file.specs.Opening.{FailsFor}
use Rattle.blob_file.specs.declared.file_error.FileError.{FileError}
use Rattle.blob_file.specs.declared.file_error.FileError.TheVariants.{OutOfMemory, NotBlobs, Damaged, Failed, Shut, TooLong, NoSuchBlob, ReadOnly}

pub fails_for : {A B C D : Type 0} (e : FileError) → FailsFor A B e → (A → C) → (B → D) → FailsFor C D e
fails_for OutOfMemory fails f g = tt
fails_for Damaged fails f g = f fails
fails_for Failed fails f g = g fails
fails_for NotBlobs fails f g = fails
fails_for Shut fails f g = fails
fails_for TooLong fails f g = fails
fails_for NoSuchBlob fails f g = fails
fails_for ReadOnly fails f g = fails

-- the same, of what a `?` returns
pub fails_for_err : {X A B C D : Type 0} (r : Result X FileError) (e : FileError) → IsErrAnd r (λ x. x ≡ e) → FailsFor A B e → (A → C) → (B → D)
    → IfErr r (FailsFor C D)
fails_for_err (Ok x) e is fails f g = tt
fails_for_err {A = A} {B = B} (Err y) e is fails f g = fails_for y (subst (FailsFor A B) (sym is) fails) f g
