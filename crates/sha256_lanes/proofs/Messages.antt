-- The states and the digests of four messages, lane by lane.
use Rattle.sha2.proofs.Absorbing256.{hash_after_next}
use Rattle.sha2.specs.Sha256.{compress, final_hash, hash_after, padded_message}
use Rattle.sha256_lanes.proofs.Tails.{blocks_of_padded}
use Rattle.sha256_lanes.specs.{Blocks.{block_count, block_of}, Lanes.{four, in_lanes, lanes}}
use Rattle.std.proofs.Common.{
  List,
  ap,
  arith,
  length,
  refl,
  slice_index,
  slice_index_or,
  suc,
  sym,
  zero,
  ℕ,
  [],
  ◌+◌,
  ◌<◌,
  ◌∙◌,
  ◌≡◌,
}

-- one more block of each message
pub one_more_block : (ini a b c d A B C D : List ℕ) (n : ℕ) → A ≡ block_of a n → B ≡ block_of b n → C ≡ block_of c n → D ≡ block_of d n
    → (i : ℕ) → compress (hash_after ini (padded_message (four a b c d i)) n) (four A B C D i) ≡ hash_after ini (padded_message (four a b c d i)) (n + 1)
one_more_block ini a b c d A B C D n ea eb ec ed zero = rw ea (sym (hash_after_next ini (padded_message a) n))
one_more_block ini a b c d A B C D n ea eb ec ed (suc zero) = rw eb (sym (hash_after_next ini (padded_message b) n))
one_more_block ini a b c d A B C D n ea eb ec ed (suc (suc zero)) = rw ec (sym (hash_after_next ini (padded_message c) n))
one_more_block ini a b c d A B C D n ea eb ec ed (suc (suc (suc i))) = rw ed (sym (hash_after_next ini (padded_message d) n))

all_blocks : (ini m : List ℕ) (n : ℕ) → block_count (length m) ≡ n → hash_after ini (padded_message m) n ≡ final_hash ini m
all_blocks ini m n is = ap (hash_after ini (padded_message m)) (sym is ∙ sym (blocks_of_padded m))

-- after all blocks of each message
pub all_blocks_of_four : (ini a b c d : List ℕ) (n : ℕ) → block_count (length a) ≡ n → block_count (length b) ≡ n → block_count (length c) ≡ n
    → block_count (length d) ≡ n → (i : ℕ) → hash_after ini (padded_message (four a b c d i)) n ≡ final_hash ini (four a b c d i)
all_blocks_of_four ini a b c d n ea eb ec ed zero = all_blocks ini a n ea
all_blocks_of_four ini a b c d n ea eb ec ed (suc zero) = all_blocks ini b n eb
all_blocks_of_four ini a b c d n ea eb ec ed (suc (suc zero)) = all_blocks ini c n ec
all_blocks_of_four ini a b c d n ea eb ec ed (suc (suc (suc i))) = all_blocks ini d n ed

one_lane : (f : ℕ → ℕ) (lane : ℕ) → lane < 4 → slice_index (lanes f) lane ≡ f lane
one_lane f zero low = refl
one_lane f (suc zero) low = refl
one_lane f (suc (suc zero)) low = refl
one_lane f (suc (suc (suc zero))) low = refl
one_lane f (suc (suc (suc (suc n)))) low = absurd (omega arith)

one_vector : (s : ℕ → List ℕ) (place : ℕ) → place < 8 → slice_index_or (in_lanes s) place [] ≡ lanes (λ i. slice_index (s i) place)
one_vector s zero low = refl
one_vector s (suc zero) low = refl
one_vector s (suc (suc zero)) low = refl
one_vector s (suc (suc (suc zero))) low = refl
one_vector s (suc (suc (suc (suc zero)))) low = refl
one_vector s (suc (suc (suc (suc (suc zero))))) low = refl
one_vector s (suc (suc (suc (suc (suc (suc zero)))))) low = refl
one_vector s (suc (suc (suc (suc (suc (suc (suc zero))))))) low = refl
one_vector s (suc (suc (suc (suc (suc (suc (suc (suc n)))))))) low = absurd (omega arith)

-- the word at a place of the state of one lane
pub word_of_lane : (s : ℕ → List ℕ) (place lane : ℕ) → place < 8 → lane < 4 → slice_index (slice_index_or (in_lanes s) place []) lane
    ≡ slice_index (s lane) place
word_of_lane s place lane low narrow =
    ap (λ v. slice_index v lane) (one_vector s place low) ∙ one_lane (λ i. slice_index (s i) place) lane narrow
