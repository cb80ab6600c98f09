-- What a body under a key says of the blob that is stored there.
use Rattle.blob_file.specs.{File.{Content, Same, SameBlobs, SameNames}, Rows.Body}
use Rattle.pagable_file.proofs.Keys.{all_back, keys-length}
use Rattle.pagable_file.specs.Bodies.{CanBeKey, RefusesOther, RefusesRead, blob_if_some, blob_in, blobs_of, body_of, roots_unless, unless}
use Rattle.pagable_core.specs.Roots.{StaysOrTakes}
use Rattle.pagable_value_spec.specs.{Blob.Blob, Stored.{Adds, Keeps, RefusesFetch, RefusesStore}, declared.error.Error.Error}
use Rattle.std.proofs.{Common.{Bool, List, None, Option, Some, ap, arith, drop, false, inl, inr, length, refl, sym, take, ℕ, ◌*◌, ◌++◌, ◌∙◌, ◌≡◌}, Math.Seq.{drop-append_seam, take-append_seam}, lemmas.Bool.{Decides.nat_tests, eqb-true}}
use Rattle.std.specs.{Int.{to_le_bytes, w128}, List.{AllByRecursion as Each, flat_map}, Map.update, Prelude.{nat_eq, ◌⊎◌}}
use Rattle.pagable_value_spec.specs.declared.error.Error.TheVariants as error

-- a blob is read back from its body
pub blob_back : (b : Blob) → Each CanBeKey b.keys → blob_in (body_of b) ≡ Some b
unfolding blob_in
blob_back b fit =
    let keys = flat_map (to_le_bytes w128) b.keys in
    let front : take (16 * length b.keys) (keys ++ b.bytes) ≡ keys = ap (λ n. take n (keys ++ b.bytes)) (sym (keys-length b.keys)) ∙ take-append_seam keys b.bytes in
    let behind : drop (16 * length b.keys) (keys ++ b.bytes) ≡ b.bytes = ap (λ n. drop n (keys ++ b.bytes)) (sym (keys-length b.keys)) ∙ drop-append_seam keys b.bytes in
    rw (front, behind, all_back b.keys fit) refl

-- the same bodies are the same blobs
pub same_blobs : (closed : Bool) (old new : ℕ → Option Body) → SameBlobs old new → unless closed (blobs_of new) ≡ unless closed (blobs_of old)
same_blobs closed old new same = ap (unless closed) (λ i key. blob_if_some (same key i))

-- the same names
pub same_roots : (closed : Bool) (old new : List ℕ → Option ℕ) → SameNames old new → roots_unless closed new ≡ roots_unless closed old
same_roots closed old new same = ap (roots_unless closed) (λ i name. same name i)

-- the same where a look came between
pub same_roots_behind : (closed : Bool) (old mid new : List ℕ → Option ℕ) → SameNames old mid → SameNames mid new → roots_unless closed new ≡ roots_unless closed old
same_roots_behind closed old mid new before after = same_roots closed mid new after ∙ same_roots closed old mid before

-- what the names durably stand for stays, or becomes what they stand for
pub stays_or_takes : (closed : Bool) (was now after : Content) → Same was after ⊎ Same now after
    → StaysOrTakes (roots_unless closed now.key) (roots_unless closed was.key) (roots_unless closed after.key)
stays_or_takes closed was now after (inl same) = inl (same_roots closed was.key after.key same.names)
stays_or_takes closed was now after (inr same) = inr (same_roots closed now.key after.key same.names)

-- a blob that stands there already adds nothing
pub adds_nothing : (closed : Bool) (old new : ℕ → Option Body) (key : ℕ) (blob : Blob) → closed ≡ false → SameBlobs old new
    → blob_if_some (old key) ≡ Some blob → Adds key blob (unless closed (blobs_of old)) (unless closed (blobs_of new))
adds_nothing closed old new key blob usable same there = rw (same_blobs closed old new same, usable) (record {
  each = λ q. grind (arith, nat_tests, eqb-true);
  free = inr there;
})

-- a body that came under a key that had none adds its blob
pub adds_new : (closed : Bool) (old new : ℕ → Option Body) (key : ℕ) (blob : Blob) → closed ≡ false → Each CanBeKey blob.keys → old key ≡ None
    → ((q : ℕ) → new q ≡ update nat_eq old key (Some (body_of blob)) q) → Adds key blob (unless closed (blobs_of old)) (unless closed (blobs_of new))
adds_new closed old new key blob usable fit free comes = rw usable (record {
  each = λ q. grind (arith, nat_tests, eqb-true, comes q, blob_back blob fit);
  free = inl (ap blob_if_some free);
})

-- the same where a look came between, which changed nothing
pub adds_behind : (closed : Bool) (old mid new : ℕ → Option Body) (key : ℕ) (blob : Blob) → closed ≡ false → SameBlobs old mid
    → Each CanBeKey blob.keys → old key ≡ None → ((q : ℕ) → new q ≡ update nat_eq mid key (Some (body_of blob)) q)
    → Adds key blob (unless closed (blobs_of old)) (unless closed (blobs_of new))
adds_behind closed old mid new key blob usable same fit free comes =
    rw (← same_blobs closed old mid same) (adds_new closed mid new key blob usable fit (same key ∙ free) comes)

pub keeps_same : (old new : ℕ → Option Blob) → new ≡ old → Keeps old new
keeps_same old new same key blob is = rw same is

-- what a test of a read blob refuses is refused of a fetch
pub read_refuses : (key : ℕ) (found : Option Blob) (was now : ℕ) (e : Error) → RefusesRead was now e → RefusesFetch key found was now e
read_refuses key found was now error.OutOfMemory h = tt
read_refuses key found was now (error.Storage code) h = h
read_refuses key found was now x0 h = grind arith

-- and of a store
pub add_refuses : (blob : Blob) (found : Option Blob) (closed : Bool) (was now : ℕ) (e : Error) → RefusesRead was now e → RefusesStore blob found closed was now e
add_refuses blob found closed was now error.OutOfMemory h = tt
add_refuses blob found closed was now (error.Storage code) h = h
add_refuses blob found closed was now x0 h = grind arith

-- what stands under the key is refused of a store
pub other_refuses : (found : Option Blob) (blob : Blob) (closed : Bool) (was now : ℕ) (e : Error) → RefusesOther found blob was now e
    → RefusesStore blob found closed was now e
other_refuses found blob closed was now error.KeyTaken h = h
other_refuses found blob closed was now error.OutOfMemory h = tt
other_refuses found blob closed was now (error.Storage code) h = h
other_refuses found blob closed was now x0 h = grind arith

pub ruleset fetching = (same_blobs, same_roots, read_refuses)

pub ruleset storing = (same_roots_behind, add_refuses, adds_new, adds_nothing, keeps_same, other_refuses, same_blobs, same_roots)

pub ruleset flushing = (same_blobs, same_roots, stays_or_takes)

pub ruleset naming = (same_blobs, same_roots)
