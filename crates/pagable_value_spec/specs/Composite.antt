-- What a value means that holds other values: the meanings of its parts, put together.
use Rattle.pagable_value_spec.specs.{
  CarriedTypes.{of_option, of_result},
  Cursor.SomeMeaning,
  Meaning.{Meaning, absent, failure, integer, pair, present, sequence, success},
  Numbers.IsSigned,
  declared.numbers.ArcRef.ArcRef,
}
use Rattle.std.proofs.Common.{arith}
use Rattle.std.specs.{Int.w64, Prelude.{Err, List, None, Ok, Option, Result, Some, map, pos, refl, ℤ, [], ◌∷◌, ◌≡◌}}

-- None means absent, and Some means present, with a meaning of its value
pub data MeansOption {T : Type 0} (M : T → Meaning ArcRef → Type 0) : Option T → Meaning ArcRef → Type 0 where
  means-none : MeansOption M None absent
  means-some : (x : T) (m : Meaning ArcRef) → M x m → MeansOption M (Some x) (present m)

-- Ok means success, and Err means failure, with a meaning of its value
pub data MeansResult {T X : Type 0} (M : T → Meaning ArcRef → Type 0) (N : X → Meaning ArcRef → Type 0) : Result T X
    → Meaning ArcRef → Type 0 where
  means-ok : (x : T) (m : Meaning ArcRef) → M x m → MeansResult M N (Ok x) (success m)
  means-err : (x : X) (m : Meaning ArcRef) → N x m → MeansResult M N (Err x) (failure m)

-- each item with its meaning, in order
pub data MeanAll {T : Type 0} (M : T → Meaning ArcRef → Type 0) : List T → List (Meaning ArcRef) → Type 0 where
  mean-none : MeanAll M [] []
  mean-more : (x : T) (m : Meaning ArcRef) (xs : List T) (ms : List (Meaning ArcRef)) → M x m → MeanAll M xs ms
      → MeanAll M (x ∷ xs) (m ∷ ms)

-- a list means the sequence of its items' meanings
pub record MeansList {T : Type 0} (M : T → Meaning ArcRef → Type 0) (xs : List T) (m : Meaning ArcRef) : Type 0 where
  pub ms : List (Meaning ArcRef)
  pub each : MeanAll M xs ms
  pub is : m ≡ sequence ms

-- a pair means the pair of its parts' meanings
pub record MeansPair {A B : Type 0} (M : A → Meaning ArcRef → Type 0) (N : B → Meaning ArcRef → Type 0) (p : A × B)
    (m : Meaning ArcRef) : Type 0 where
  pub first : Meaning ArcRef
  pub second : Meaning ArcRef
  pub is_first : M p.0 first
  pub is_second : N p.1 second
  pub is : m ≡ pair first second

-- The cell (an atomic, a lock) may hold this value. No contract tells what a cell holds, only that it may hold what it
-- is made with and what a read of it returns. The definition stays folded, so that this can be shown of no other value.
unfoldable pub MayHold : {C X : Type 0} → C → X → Type 0
MayHold cell held = Unit {0}

-- an atomic number means any signed integer of 64 bits that it may hold
pub record MeansAtomic {C : Type 0} (cell : C) (m : Meaning ArcRef) : Type 0 where
  pub held : ℤ
  pub may : MayHold cell held
  pub fits : IsSigned w64 held
  pub is : m ≡ integer held

-- a cell that is written once means what some option means that it may hold
pub record MeansOnce {C T : Type 0} (M : T → Meaning ArcRef → Type 0) (cell : C) (m : Meaning ArcRef) : Type 0 where
  pub held : Option T
  pub may : MayHold cell held
  pub means : MeansOption M held m

-- ---- a value has some meaning if its parts have, and a cell always has one

pub atomic_has_meaning : {C : Type 0} (cell : C) → SomeMeaning (MeansAtomic cell)
unfolding MayHold
atomic_has_meaning cell = (integer (pos 0), record { held = pos 0; may = tt; fits = omega arith; is = refl })

pub once_has_meaning : {C T : Type 0} (M : T → Meaning ArcRef → Type 0) (cell : C) → SomeMeaning (MeansOnce M cell)
unfolding MayHold
once_has_meaning M cell = (absent, record { held = None; may = tt; means = means-none })

pub items_have_meanings : {T : Type 0} (M : T → Meaning ArcRef → Type 0) → ((x : T) → SomeMeaning (M x)) → (xs : List T)
    → (ms : List (Meaning ArcRef)) × MeanAll M xs ms
items_have_meanings M has [] = ([], mean-none)
items_have_meanings M has (x ∷ xs) = let rest = items_have_meanings M has xs in
    ((has x).0 ∷ rest.0, mean-more x (has x).0 xs rest.0 (has x).1 rest.1)

pub pair_has_meaning : {A B : Type 0} (M : A → Meaning ArcRef → Type 0) (N : B → Meaning ArcRef → Type 0)
    → ((x : A) → SomeMeaning (M x)) → ((y : B) → SomeMeaning (N y)) → (p : A × B) → SomeMeaning (MeansPair M N p)
pair_has_meaning M N has_first has_second p = (
  pair (has_first p.0).0 (has_second p.1).0,
  record {
    first = (has_first p.0).0;
    second = (has_second p.1).0;
    is_first = (has_first p.0).1;
    is_second = (has_second p.1).1;
    is = refl;
  },
)

-- ---- and it has only one meaning if each of its parts has only one

pub option_is_meaning : {T : Type 0} (M : T → Meaning ArcRef → Type 0) (meaning : T → Meaning ArcRef)
    → ((x : T) → M x (meaning x)) → (o : Option T) → MeansOption M o (of_option meaning o)
option_is_meaning M meaning is x0 = grind (arith, is, means-none, means-some)

pub option_single : {T : Type 0} (M : T → Meaning ArcRef → Type 0) (meaning : T → Meaning ArcRef)
    → ((x : T) (m : Meaning ArcRef) → M x m → m ≡ meaning x) → (o : Option T) (m : Meaning ArcRef) → MeansOption M o m
    → m ≡ of_option meaning o
option_single M meaning single x0 m h = grind (arith, single)

pub result_is_meaning : {T X : Type 0} (M : T → Meaning ArcRef → Type 0) (N : X → Meaning ArcRef → Type 0)
    (f : T → Meaning ArcRef) (g : X → Meaning ArcRef) → ((x : T) → M x (f x)) → ((x : X) → N x (g x)) → (r : Result T X)
    → MeansResult M N r (of_result f g r)
result_is_meaning M N f g is_ok is_err x0 = grind (arith, is_ok, is_err, means-ok, means-err)

pub result_single : {T X : Type 0} (M : T → Meaning ArcRef → Type 0) (N : X → Meaning ArcRef → Type 0)
    (f : T → Meaning ArcRef) (g : X → Meaning ArcRef) → ((x : T) (m : Meaning ArcRef) → M x m → m ≡ f x)
    → ((x : X) (m : Meaning ArcRef) → N x m → m ≡ g x)
    → (r : Result T X) (m : Meaning ArcRef) → MeansResult M N r m → m ≡ of_result f g r
result_single M N f g single_ok single_err x0 m h = grind (arith, single_ok, single_err)

pub items_are_meanings : {T : Type 0} (M : T → Meaning ArcRef → Type 0) (meaning : T → Meaning ArcRef)
    → ((x : T) → M x (meaning x)) → (xs : List T) → MeanAll M xs (map meaning xs)
items_are_meanings M meaning is [] = mean-none
items_are_meanings M meaning is (x ∷ xs) = mean-more x (meaning x) xs (map meaning xs) (is x)
    (items_are_meanings M meaning is xs)

pub items_single : {T : Type 0} (M : T → Meaning ArcRef → Type 0) (meaning : T → Meaning ArcRef)
    → ((x : T) (m : Meaning ArcRef) → M x m → m ≡ meaning x) → (xs : List T) (ms : List (Meaning ArcRef))
    → MeanAll M xs ms → ms ≡ map meaning xs
items_single M meaning single _ _ mean-none = refl
items_single M meaning single _ _ (mean-more x m xs ms is all) =
    rw (single x m is, items_single M meaning single xs ms all) refl

pub list_is_meaning : {T : Type 0} (M : T → Meaning ArcRef → Type 0) (meaning : T → Meaning ArcRef)
    → ((x : T) → M x (meaning x)) → (xs : List T) → MeansList M xs (sequence (map meaning xs))
list_is_meaning M meaning is xs = record { ms = map meaning xs; each = items_are_meanings M meaning is xs; is = refl }

pub list_single : {T : Type 0} (M : T → Meaning ArcRef → Type 0) (meaning : T → Meaning ArcRef)
    → ((x : T) (m : Meaning ArcRef) → M x m → m ≡ meaning x) → (xs : List T) (m : Meaning ArcRef) → MeansList M xs m → m
    ≡ sequence (map meaning xs)
list_single M meaning single xs m means = rw (means.is, items_single M meaning single xs means.ms means.each) refl

pub pair_is_meaning : {A B : Type 0} (M : A → Meaning ArcRef → Type 0) (N : B → Meaning ArcRef → Type 0)
    (f : A → Meaning ArcRef) (g : B → Meaning ArcRef) → ((x : A) → M x (f x)) → ((y : B) → N y (g y)) → (p : A × B)
    → MeansPair M N p (pair (f p.0) (g p.1))
pair_is_meaning M N f g is_first is_second p = record {
  first = f p.0;
  second = g p.1;
  is_first = is_first p.0;
  is_second = is_second p.1;
  is = refl;
}

pub pair_single : {A B : Type 0} (M : A → Meaning ArcRef → Type 0) (N : B → Meaning ArcRef → Type 0)
    (f : A → Meaning ArcRef) (g : B → Meaning ArcRef) → ((x : A) (m : Meaning ArcRef) → M x m → m ≡ f x)
    → ((y : B) (m : Meaning ArcRef) → N y m → m ≡ g y)
    → (p : A × B) (m : Meaning ArcRef) → MeansPair M N p m → m ≡ pair (f p.0) (g p.1)
pair_single M N f g single_first single_second p m means =
    rw (means.is, single_first p.0 means.first means.is_first, single_second p.1 means.second means.is_second) refl
