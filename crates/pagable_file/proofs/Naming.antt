-- What a file that was opened anew has by a name.
use Rattle.blob_file.specs.{File.{Content, Same}}
use Rattle.pagable_file.specs.{Bodies.{blob_if_some, blobs_of, roots_unless, unless}, Laws.named_blob}
use Rattle.pagable_value_spec.specs.Blob.{Blob}
use Rattle.pagable_core.specs.Roots.{Sets}
use Rattle.std.specs.{Map.update, Prelude.{OnErr, OnOk}, Str.bytes_eq}
use Rattle.std.proofs.Common.{Bool, Err, List, Ok, Result, Option, Some, ap, false, refl, sym, ℕ, ◌∙◌, ◌≡◌}

-- a name that durably stood for a key, whose blob was durable, is found with it
pub named_last : (closed again : Bool) (was now : Content) (name : List ℕ) (key : ℕ) (blob : Blob) → closed ≡ false → again ≡ false
    → Same was now
    → roots_unless closed was.key name ≡ Some key → unless closed (blobs_of was.blob) key ≡ Some blob
    → named_blob (roots_unless again now.key name) (unless again (blobs_of now.blob)) ≡ Some (key, blob)
named_last closed again was now name key blob usable usable' same stands there =
    rw (usable', same.names name, subst_open stands, same.blobs key, there') refl
  where
    subst_open : roots_unless closed was.key name ≡ Some key → was.key name ≡ Some key
    subst_open h = sym (ap (λ b. roots_unless b was.key name) usable) ∙ h

    there' : blob_if_some (was.blob key) ≡ Some blob
    there' = sym (ap (λ b. unless b (blobs_of was.blob) key) usable) ∙ there

-- a name that is set
pub sets_here : (closed : Bool) (old new : List ℕ → Option ℕ) (name : List ℕ) (key : Option ℕ) → closed ≡ false
    → ((q : List ℕ) → new q ≡ update bytes_eq old name key q) → Sets name key (roots_unless closed old) (roots_unless closed new)
sets_here closed old new name key usable comes = rw usable comes

pub on_ok : {X Y P Q : Type 0} (r : Result X Y) → (P → Q) → OnOk r P → OnOk r Q
on_ok (Ok x) goes h = goes h
on_ok (Err e) goes h = tt

pub on_err : {X Y P Q : Type 0} (r : Result X Y) → (P → Q) → OnErr r P → OnErr r Q
on_err (Ok x) goes h = tt
on_err (Err e) goes h = goes h
