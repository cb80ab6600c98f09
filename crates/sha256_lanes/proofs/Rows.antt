-- Messages that wait in rows until they are done.
use Rattle.sha256_lanes.specs.Waiting.{AreRows, IsDone, IsSettled, IsSettledIn, IsWaiting, KeepsDone, front_of_digest, texts_of}
use Rattle.sha2.specs.Sha256.{sha256}
use Rattle.std.proofs.{
  Common.{
    List,
    arith,
    inl,
    inr,
    length,
    map,
    replicate,
    slice_index,
    slice_index_or,
    slice_set,
    sym,
    take,
    ℕ,
    [],
    ◌<◌,
    ◌∙◌,
    ◌≡◌,
  },
  lemmas.{
    Bool.cases_eq,
    List.{ext_get_or, get_or-map, get_or-replicate, get_or-set_other, get_or-set_same, length-map},
    Simd.map-map,
  },
}
use denote.Ref.{Bor}

-- row r and its count have changed, and so have the digests
module _ (size : ℕ) (texts old new rows : List (List ℕ)) (waiting row : List ℕ) (r n : ℕ)
    (low : r < 16) (many : length rows ≡ 16) (counts : length waiting ≡ 16) where
  pub settled_in_row : (q : ℕ) → IsSettled size texts new row n q → IsSettledIn size texts new (slice_set rows r row) (slice_set waiting r n) q
  settled_in_row q settled = elim settled [
    | inl done ↦ inl done
    | inr waits ↦
        inr (r, low, rw (get_or-set_same rows r row [] (omega arith), get_or-set_same waiting r n 0 (omega arith)) waits)
  ]

  pub still_settled : KeepsDone size texts old new
      → ((q : ℕ) → IsWaiting (slice_index_or rows r []) (slice_index waiting r) q → IsSettled size texts new row n q)
      → (q : ℕ) → IsSettledIn size texts old rows waiting q → IsSettledIn size texts new (slice_set rows r row) (slice_set waiting r n) q
  still_settled keeps of_row q settled = elim settled [
    | inl done ↦ inl (keeps q done)
    | inr waits ↦ elim (cases_eq waits.0 r) [
      | inl same ↦ settled_in_row q (of_row q (rw same at waits.2))
      | inr other ↦
          inr (waits.0, waits.1, rw (get_or-set_other rows r waits.0 row [] other, get_or-set_other waiting r waits.0 n 0 other) waits.2)
    ]
  ]

-- at first no message waits
pub no_rows : (texts : List (List ℕ)) → AreRows texts (replicate 16 (replicate 4 0)) (replicate 16 0)
no_rows texts r low =
    let none : slice_index (replicate 16 0) r ≡ 0 = get_or-replicate 16 r 0 0 low in
    rw none (omega arith, λ k lt. absurd (omega arith))

-- once each message is done
pub all_done : (size : ℕ) (messages : List (Bor (List ℕ))) (digests : List (List ℕ)) → length digests ≡ length messages
    → ((q : ℕ) → q < length messages → IsDone size (texts_of messages) digests q)
    → digests ≡ map (λ message. take size (sha256 message.now)) messages
all_done size messages digests long done =
    let texts : List (List ℕ) = texts_of messages in
    let many : length texts ≡ length messages = length-map messages (λ message. message.now) in
    ext_get_or [] digests (map (front_of_digest size) texts) (long ∙ sym many ∙ sym (length-map texts (front_of_digest size)))
    (λ q lt. done q (omega arith) ∙ sym (get_or-map (front_of_digest size) texts q [] [] (omega (arith, many))))
    ∙ map-map (front_of_digest size) (λ message. message.now) messages
