-- The laws of forms and of reading, whatever stands for references; of trees, their keys and the store; of the keys of
-- maps and sets; and of JSON values.
use Rattle.pagable_pager_spec.specs.Basics.{Blob, Error, Meaning, ReadsTree, Tree, Types}
use Rattle.pagable_value_spec.specs.{
  Blob.{IsBlob, preimage},
  Canonical.{EachType, HasOneForm, IsCanonical, IsCanonicalTree, IsCanonicalType, IsClosed, IsReadableTree, Throughout},
  CarriedTypes.of_hash_map,
  Form.Form,
  Height.{HasPath, Kid, height},
  Json.{float, of_json, whole},
  Keys.{Entry, code, last_value, same_key},
  Meaning.{lifted, plain, rename},
  Merkle.{HasOwnKeys, IsCanonicalItem, KeyOf, KeyOfItem, SharesNoKey, StoredTree},
  Numbers.IsSigned,
  ReadSteps.◌>>=◌,
  Reading.{Context, Look, Rest, deepest, read},
  Shape.{Shape, json},
}
use Rattle.std.specs.{
  Float.Ieee.Float,
  Int.w64,
  Prelude.{Bool, Err, List, Ok, Option, map, true, ℕ, ℤ, [], ◌++◌, ◌-◌, ◌↔◌, ◌∷◌, ◌≡◌, ◌≤◌},
}

-- what is left to be read: these bytes, and these references
abbrev pub rest : {A : Type 0} → List ℕ → List A → Rest A
rest bytes refs = record { bytes = bytes; refs = refs }

-- a reader that has entered this many levels
abbrev pub at : {A B : Type 0} → ℕ → Look A B → (ℕ → Shape) → Context A B
at levels look parts = record { levels = levels; look = look; parts = parts }

-- The look-ups of what stands for references give these references, one after another.
pub data LooksUp {A B : Type 0} (look : Look A B) (kind_of : B → ℕ) : List A → List B → Type 0 where
  no-references : LooksUp look kind_of [] []
  more-references : (a : A) (r : List A) (b : B) (k : List B) → look (kind_of b) a ≡ Ok b → LooksUp look kind_of r k
      → LooksUp look kind_of (a ∷ r) (b ∷ k)

-- A form of the shape is read back, whatever follows it.
abbrev pub FormIsReadBack : Type 0 → Type 0 → (ℕ → Shape) → Shape → Type 0
FormIsReadBack A B parts s = (levels : ℕ) (look : Look A B) (kind_of : B → ℕ) (m : Meaning B)
    (b x : List ℕ) (k : List B)
    (r y : List A)
    → LooksUp look kind_of r k → Form B kind_of parts (deepest - levels) s m b k
    → read (at levels look parts) s (rest (b ++ x) (r ++ y)) ≡ Ok (m, rest x y)

-- No form of one meaning of the shape is a prefix of another's.
abbrev pub IsPrefixFree : Type 0 → (ℕ → Shape) → Shape → Type 0
IsPrefixFree A parts s = (kind_of : A → ℕ) (left : ℕ) (m n : Meaning A) (b c x y : List ℕ) (k l u v : List A)
    → Form A kind_of parts left s m b k → Form A kind_of parts left s n c l → b ++ x ≡ c ++ y → k ++ u ≡ l ++ v
    → (m ≡ n) × (b ≡ c) × (k ≡ l)

-- A meaning of a canonical shape has at most one form.
abbrev pub CanonicalHasOneForm : Type 0 → Type 0
CanonicalHasOneForm A = (kind_of : A → ℕ) (parts : ℕ → Shape) (s : Shape) → Throughout IsCanonical parts s
    → HasOneForm kind_of parts s

-- the rest with more after it
abbrev pub with_more : {A : Type 0} → Rest A → List ℕ → List A → Rest A
with_more r bytes refs = rest (r.bytes ++ bytes) (r.refs ++ refs)

-- What is read from a front of the input is read from the whole, whatever follows. So if reading the whole fails, no
-- front of it can be read.
abbrev pub FrontReadsAlike : Type 0 → Type 0 → Type 0
FrontReadsAlike A B = (context : Context A B) (s : Shape) (front after : Rest A) (x : List ℕ)
    (y : List A) (m : Meaning B)
    → read context s front ≡ Ok (m, after) → read context s (with_more front x y) ≡ Ok (m, with_more after x y)

-- the part of the input that was used, before what is left; alone it reads as the same value, and leaves nothing
pub record Used {A B : Type 0} (context : Context A B) (s : Shape) (input after : Rest A) (m : Meaning B) : Type 0 where
  pub bytes : List ℕ
  pub refs : List A
  pub whole : input ≡ with_more (rest bytes refs) after.bytes after.refs
  pub alone : read context s (rest bytes refs) ≡ Ok (m, rest [] [])

-- The part that was used reads alone.
abbrev pub UsedPartReadsAlone : Type 0 → Type 0 → Type 0
UsedPartReadsAlone A B = (context : Context A B) (s : Shape) (input after : Rest A) (m : Meaning B)
    → read context s input
    ≡ Ok (m, after) → Used context s input after m

-- A fault stays the first fault whatever follows, unless the fault is that the bytes or the references end.
abbrev pub FaultStays : Type 0 → Type 0 → Type 0
FaultStays A B = (context : Context A B) (s : Shape) (front : Rest A) (x : List ℕ) (y : List A) (e : Error)
    → read context s front ≡ Err e → (e ≡ Error.UnexpectedEnd → ⊥) → (e ≡ Error.NoMoreKeys → ⊥)
    → read context s (with_more front x y) ≡ Err e

-- Reading gives the same whatever stands for references: if others stand for them and the look-ups give others, the
-- same is read, with the others in it.
abbrev pub ReadsAlikeForAnyReferences : Type 0 → Type 0 → Type 0 → Type 0 → Type 0
ReadsAlikeForAnyReferences A B C D = (f : A → C) (g : B → D) (look : Look A B) (other : Look C D) (levels : ℕ)
    (parts : ℕ → Shape)
    (s : Shape) (input : Rest A)
    → ((kind : ℕ) (a : A) → other kind (f a) ≡ (look kind a >>= λ b. Ok (g b)))
    → read (at levels other parts) s (rest input.bytes (map f input.refs))
    ≡ (read (at levels look parts) s input >>= λ x. Ok (rename g x.0, rest x.1.bytes (map f x.1.refs)))

-- Replacing what stands for references before reading is the same as replacing it in the look-up.
abbrev pub ReplacesBeforeLookUp : Type 0 → Type 0 → Type 0 → Type 0
ReplacesBeforeLookUp A B C = (f : A → C) (look : Look C B) (levels : ℕ) (parts : ℕ → Shape) (s : Shape) (input : Rest A)
    → read (at levels look parts) s (rest input.bytes (map f input.refs))
    ≡ (read (at levels (λ kind a. look kind (f a)) parts) s input >>= λ x. Ok
    (x.0, rest x.1.bytes (map f x.1.refs)))

-- Renaming the results of look-ups is the same as renaming what was read.
abbrev pub RenamesLookUps : Type 0 → Type 0 → Type 0 → Type 0
RenamesLookUps A B D = (g : B → D) (look : Look A B) (levels : ℕ) (parts : ℕ → Shape) (s : Shape) (input : Rest A)
    → read (at levels (λ kind a. look kind a >>= λ b. Ok (g b)) parts) s input
    ≡ (read (at levels look parts) s input >>= λ x. Ok (rename g x.0, x.1))

-- A form of a value that holds references of one sort is a form of the same value with references of another sort.
abbrev pub KeepsForms : Type 0 → Type 0 → Type 0
KeepsForms A B = (f : A → B) (kind_of : A → ℕ) (kind_of2 : B → ℕ) (parts : ℕ → Shape) (left : ℕ) (s : Shape)
    (m : Meaning A) (b : List ℕ) (k : List A) → ((a : A) → kind_of2 (f a) ≡ kind_of a)
    → Form A kind_of parts left s m b k → Form B kind_of2 parts left s (rename f m) b (map f k)

-- What one reader reads, another reads too, if its look-ups find all that the first's found: with g of each reference.
abbrev pub ReadsWhatOtherReads : Type 0 → Type 0 → Type 0 → Type 0 → Type 0
ReadsWhatOtherReads A B C D = (f : A → C) (g : B → D) (look : Look A B) (other : Look C D) (levels : ℕ)
    (parts : ℕ → Shape)
    (s : Shape) (input after : Rest A) (m : Meaning B)
    → ((kind : ℕ) (a : A) (b : B) → look kind a ≡ Ok b → other kind (f a) ≡ Ok (g b))
    → read (at levels look parts) s input ≡ Ok (m, after)
    → read (at levels other parts) s (rest input.bytes (map f input.refs))
    ≡ Ok (rename g m, rest after.bytes (map f after.refs))

-- The laws of trees, of their keys and of the store.
pub record TreeLaws : Type 0 where
  -- Different blobs have different preimages.
  pub has_one_preimage : (a b : Blob) → IsBlob a → IsBlob b → preimage a ≡ preimage b → a ≡ b
  -- The store holds at most one tree of a type under a key.
  pub is_one_tree : (store : ℕ → Option Blob) (types : Types) (key : ℕ) (t u : Tree) → t.type ≡ u.type
      → ReadsTree store types key t → ReadsTree store types key u → t ≡ u
  -- A tree has at most one key, if its type and all node types that it reaches are canonical.
  pub is_one_key : (hash : List ℕ → List ℕ) (types : Types) (t : Tree) (k l : ℕ) → IsCanonicalTree types t
      → KeyOf hash types t k → KeyOf hash types t l → k ≡ l
  -- A stored tree has the key under which it is stored, if each blob is stored under its own key.
  pub is_stored_key : (hash : List ℕ → List ℕ) (store : ℕ → Option Blob) (types : Types) (t : Tree) (key : ℕ)
      → HasOwnKeys hash store → StoredTree store types key t → KeyOf hash types t key
  -- A stored tree can be read back.
  pub is_tree_readable : (store : ℕ → Option Blob) (types : Types) (t : Tree) (key : ℕ) → IsReadableTree types t
      → StoredTree store types key t → ReadsTree store types key t
  -- Two stored trees of one type, in one store or in two that don't contradict each other, have the same key exactly if
  -- they are the same tree. Only the first tree's types have to be canonical and readable.
  pub is_key_of_one_tree : (hash : List ℕ → List ℕ) (store other : ℕ → Option Blob) (types : Types) (t u : Tree)
      (k l : ℕ) → HasOwnKeys hash store → HasOwnKeys hash other
      → SharesNoKey store other → t.type ≡ u.type → IsCanonicalTree types t → IsReadableTree types t
      → StoredTree store types k t → StoredTree other types l u → (k ≡ l) ↔ (t ≡ u)
  -- The height of a tree is the length of its longest path.
  pub is_longest_path : (m : Meaning ⊥) (n : ℕ) → HasPath n m ↔ (n ≤ height m)
  -- If a set of node types is closed, a tree of one of these types that has a key reaches only types of the set. So it
  -- is canonical, if the types of the set are.
  pub stays_inside : (hash : List ℕ → List ℕ) (types : Types) (nodes : ℕ → Bool) (t : Tree) (key : ℕ)
      → IsClosed types (λ n. nodes n ≡ true) → nodes t.type ≡ true → KeyOf hash types t key
      → EachType (λ n. nodes n ≡ true) t.meaning
  pub is_canonical_inside : (hash : List ℕ → List ℕ) (types : Types) (nodes : ℕ → Bool) (t : Tree) (key : ℕ)
      → IsClosed types (λ n. nodes n ≡ true)
      → ((n : ℕ) → nodes n ≡ true → IsCanonicalType types n) → nodes t.type ≡ true → KeyOf hash types t key
      → IsCanonicalTree types t
  -- Meanings with the same code are the same.
  pub is_one_meaning : (a b : Meaning ⊥) → code a ≡ code b → a ≡ b

-- A canonical item has at most one key.
pub record IsOneItemKey : Type 0 where
  pub one : (hash : List ℕ → List ℕ) (types : Types) (bytes : List ℕ) (kids : List Kid) (k l : ℕ)
      → IsCanonicalItem types bytes kids → KeyOfItem hash types bytes kids k
      → KeyOfItem hash types bytes kids l → k ≡ l

-- Keys are the same exactly if they mean the same; references are no part of a key.
abbrev pub SameKeysMeanSame : Type 0 → Type 0
SameKeysMeanSame A = (a b : Meaning A) → (same_key a b ≡ true) ↔ (plain a ≡ plain b)

-- entries whose keys hold no reference
abbrev pub keyed : {A : Type 0} → List (Meaning ⊥ × Meaning A) → List (Entry A)
keyed es = map (λ e. (lifted e.0, e.1)) es

-- Lists of entries that give the same value for each key (the last one counts) have the same meaning as hash maps.
abbrev pub HashMapHasAnyOrder : Type 0 → Type 0
HashMapHasAnyOrder A = (es fs : List (Meaning ⊥ × Meaning A)) → ((q : Meaning ⊥) → last_value q es ≡ last_value q fs)
    → of_hash_map (keyed es) ≡ of_hash_map (keyed fs)

-- A float has no form; below: a whole number has a form only if it fits 64 bits with a sign.
abbrev pub FloatHasNoForm : Type 0 → Type 0
FloatHasNoForm A = (kind_of : A → ℕ) (parts : ℕ → Shape) (left : ℕ) (x : Float) (b : List ℕ) (k : List A)
    → Form A kind_of parts left json (of_json (float x)) b k → ⊥

abbrev pub WholeIsBounded : Type 0 → Type 0
WholeIsBounded A = (kind_of : A → ℕ) (parts : ℕ → Shape) (left : ℕ) (z : ℤ) (b : List ℕ) (k : List A)
    → Form A kind_of parts left json (of_json (whole z)) b k → IsSigned w64 z
