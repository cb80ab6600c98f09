-- Entries of maps, and items of lists and sets, sorted or in order of arrival: what they mean, and what putting in, writing and reading them gives.
use Rattle.pagable_traits.proofs.{
  Items.{Wraps, collected_list, gives-seen, put-in-turn, refuses-among, split-same, writes-next, writes_no_items},
  Words.{AllAfter, AllByRecursion, Apart, ArcRef, AreSingle, Bool, Collected, Context, Differ, Entries, Entry, Error, FormAt, Forms, FormsAt, Gets, GivesSome},
  Words.{IsDistinct, IsKey, IsStrictlySortedBy, KeyOrder, List, MeanAll, Meaning, Meanings, Means, MeansList, MeansPair, Nesting, Ok, Ordering, Out, Refused},
  Words.{RefusedAll, Rest, Result, Shape, SomeMeaning, WritesSome, WritesSomeAll, ap, append-nil, append_assoc, arith, both, both-form, counted, deepest},
  Words.{entry, false, insert_entry, items, keys_of, kind_of_arc, length, length-map, length_form, list, list-form, longest, map, mean-more, mean-none},
  Words.{more-entries, more-forms, no-forms, of_entries, ordered, ordering_reverse, pair, put_all, put_sorted, read, read_with, refl, same_key, seen, sequence},
  Words.{sorted-map-form, sorted_map, suc, sym, zero, ℕ, [], ◌++◌, ◌-◌, ◌<◌, ◌>>=◌, ◌∙◌, ◌∷◌, ◌≡◌, ◌≤◌},
}
use Rattle.pagable_value_spec.specs.{
  Form.{no-entries, placed-map-form, placed-set-form, sorted-set-form},
  Keys.{put_placed, put_placed_item, put_sorted_item},
  Reading.two,
  Shape.{placed_map, placed_set, sorted_set},
}
use Rattle.std.specs.BTreeSet.{insert_key}
use Rattle.indexmap.specs.IndexMap as placed_maps
use Rattle.indexmap.specs.IndexSet as placed

-- ---- entries and the pairs that they are

-- these stand for those, one for each, and P holds of each two
pub data Alike {X Y : Type 0} (P : X → Y → Type 0) : List X → List Y → Type 0 where
  alike-none : Alike P [] []
  alike-more : (x : X) (y : Y) (xs : List X) (ys : List Y) → P x y → Alike P xs ys → Alike P (x ∷ xs) (y ∷ ys)

cons-is : {X : Type 0} (x y : X) (xs ys : List X) → x ≡ y → xs ≡ ys → x ∷ xs ≡ y ∷ ys
cons-is x y xs ys e f = rw (e, f) refl

pub same-entries : (ds es : List (Entry ArcRef)) → map entry ds ≡ map entry es → ds ≡ es
same-entries [] [] e = refl
same-entries (x ∷ xs) (y ∷ ys) e = grind (arith, same-entries xs ys)
same-entries _ _ e = cc

-- ---- forms of pairs are forms of entries, and back

entries-of-forms : {parts : ℕ → Shape} {left : ℕ} {s t : Shape} {ms : List (Meaning ArcRef)} {b : List ℕ} {k : List ArcRef}
    → Forms ArcRef kind_of_arc parts left (both s t) ms b k → (es : List (Entry ArcRef)) × (ms ≡ map entry es)
    × Entries ArcRef kind_of_arc parts left s t es b k
entries-of-forms {parts} {left} {s} {t} (no-forms d st) = ([], refl, no-entries d s t)
entries-of-forms {parts} {left} {s} {t} (more-forms d st m ms b c j l (both-form d2 s2 t2 x y b1 b2 j1 j2 f g) rest) =
    let others = entries-of-forms {s = s} {t = t} rest in (
      (x, y) ∷ others.0,
      cons-is _ _ _ _ refl others.1,
      rw (append_assoc b1 b2 c, append_assoc j1 j2 l)
          (more-entries d s t x y others.0 b1 b2 c j1 j2 l f g others.2),
    )

pub forms-of-entries : {parts : ℕ → Shape} {left : ℕ} {s t : Shape} {es : List (Entry ArcRef)} {b : List ℕ} {k : List ArcRef}
    → Entries ArcRef kind_of_arc parts left s t es b k → Forms ArcRef kind_of_arc parts left (both s t) (map entry es) b k
forms-of-entries (no-entries d s t) = no-forms d (both s t)
forms-of-entries (more-entries d s t x y es b1 b2 c j1 j2 l f g rest) =
    rw (← append_assoc b1 b2 c, ← append_assoc j1 j2 l) (more-forms d (both s t) (pair x y) (map entry es) (b1 ++ b2) c (j1 ++ j2) l
    (both-form d s t x y b1 b2 j1 j2 f g) (forms-of-entries rest))

module _ {K V : Type 0} (M : Means K) (N : Means V) where
  -- the entry's key and value mean these
  abbrev pub EntryMeans : K × V → Entry ArcRef → Type 0
  EntryMeans x e = M x.0 e.0 × N x.1 e.1

  abbrev pub EntriesMean : List (K × V) → List (Entry ArcRef) → Type 0
  EntriesMean xs es = Alike EntryMeans xs es

  pub entry-more : (x : K × V) (e : Entry ArcRef) (xs : List (K × V)) (es : List (Entry ArcRef)) → M x.0 e.0 → N x.1 e.1 → EntriesMean xs es
      → EntriesMean (x ∷ xs) (e ∷ es)
  entry-more x e xs es first second all = alike-more x e xs es (first, second) all

  pub entries-of-pairs : {xs : List (K × V)} {ms : List (Meaning ArcRef)} → MeanAll (MeansPair M N) xs ms
      → (es : List (Entry ArcRef)) × (ms ≡ map entry es) × EntriesMean xs es
  entries-of-pairs mean-none = ([], refl, alike-none)
  entries-of-pairs (mean-more x m xs ms h t) =
      let rest = entries-of-pairs t in
      ((h.first, h.second) ∷ rest.0, cons-is _ _ _ _ h.is rest.1, entry-more x (h.first, h.second) xs rest.0 h.is_first h.is_second rest.2)

  pub pairs-of-entries : {xs : List (K × V)} {es : List (Entry ArcRef)} → EntriesMean xs es → MeanAll (MeansPair M N) xs (map entry es)
  pairs-of-entries alike-none = mean-none
  pairs-of-entries (alike-more x e xs es h t) = mean-more x (entry e) xs (map entry es)
      (record { first = e.0; second = e.1; is_first = h.0; is_second = h.1; is = refl }) (pairs-of-entries t)

  -- these pairs mean these entries
  pub entries-mean : {xs : List (K × V)} (es : List (Entry ArcRef)) → MeanAll (MeansPair M N) xs (map entry es) → EntriesMean xs es
  entries-mean {xs} es h = let p = entries-of-pairs h in rw (same-entries es p.0 p.1) p.2

  -- pairs that were written are entries that were written
  pub record EntriesWritten (n : Nesting) (s t : Shape) (xs : List (K × V)) (ms : List (Meaning ArcRef)) (b : List ℕ) (k : List ArcRef) : Type 0 where
    pub es : List (Entry ArcRef)
    pub is : ms ≡ map entry es
    pub long : length ms ≡ length es
    pub mean : EntriesMean xs es
    pub form : Entries ArcRef kind_of_arc n.parts (deepest - n.levels) s t es b k

  pub entries-written : {n : Nesting} {s t : Shape} {xs : List (K × V)} {ms : List (Meaning ArcRef)} {b : List ℕ} {k : List ArcRef}
      → MeanAll (MeansPair M N) xs ms → FormsAt n (both s t) ms b k → EntriesWritten n s t xs ms b k
  entries-written each f =
      let w = entries-of-forms f in
      record {
        es = w.0;
        is = w.1;
        long = ap (λ (ms : List (Meaning ArcRef)). length ms) w.1 ∙ length-map w.0 entry;
        mean = entries-mean w.0 (rw w.1 at each);
        form = w.2;
      }

-- ---- reading pairs is reading entries

-- what was read, seen by view
abbrev pub viewed : {A X Y : Type 0} → (X → Y) → Result (X × Rest A) Error → Result (Y × Rest A) Error
viewed view read = read >>= λ o. Ok (view o.0, o.1)

items-seen : {A X Y : Type 0} (view : X → Y) (whole : Gets A Y) (part : Gets A X) → ((rest : Rest A) → whole rest ≡ viewed view (part rest))
    → (n : ℕ) (rest : Rest A) → items whole n rest ≡ viewed (map view) (items part n rest)
unfolding items
items-seen view whole part same zero rest = refl
items-seen view whole part same (suc n) rest = rw (same rest) (grind (arith, items-seen view whole part same n))

pair-read : {A : Type 0} (context : Context A ArcRef) (s t : Shape) (rest : Rest A) → read context (both s t) rest
    ≡ viewed entry (two (read context s) (read context t) rest)
unfolding read read_with
pair-read context s t rest = refl

pairs-read : {A : Type 0} (context : Context A ArcRef) (s t : Shape) (rest : Rest A) → counted (read context (both s t)) rest
    ≡ viewed (map entry) (counted (two (read context s) (read context t)) rest)
pairs-read context s t rest = grind (arith, items-seen entry (read context (both s t)) (two (read context s) (read context t)) (pair-read context s t))

gives-viewed : {X Y Z W A : Type 0} (own : Error → Type 0) (P : X → Z → Type 0) (Q : X → W → Type 0) (view : Y → Z) (whole : Y → W)
    → ((x : X) (y : Y) → P x (view y) → Q x (whole y)) → (last : Rest A) (r : Result X Error) (part : Result (Y × Rest A) Error)
    → GivesSome own P last r (viewed view part) → GivesSome own Q last r (viewed whole part)
gives-viewed own P Q view whole f last r part g = grind arith

-- a whole whose entries were counted
pub reads-entries : {X A : Type 0} (own : Error → Type 0) (P : X → List (Meaning ArcRef) → Type 0) (Q : Means X)
    (view : List (Entry ArcRef) → Meaning ArcRef) → ((x : X) (es : List (Entry ArcRef)) → P x (map entry es) → Q x (view es))
    → (r : Result X Error) (context : Context A ArcRef) (s t : Shape) (rest last : Rest A)
    → GivesSome own P last r (counted (read context (both s t)) rest) → GivesSome own Q last r
    (seen view (counted (two (read context s) (read context t))) rest)
reads-entries own P Q view f r context s t rest last h = gives-viewed own P Q (map entry) view f last r (counted (two (read context s) (read context t)) rest)
    (rw (pairs-read context s t rest) at h)

-- ---- writing entries one after another

-- of all, those before left were written
pub record Written {T : Type 0} (M : Means T) (n : Nesting) (s : Shape) (all left : List T) (old new : Out) : Type 0 where
  pub front : List T
  pub is : all ≡ front ++ left
  pub wrote : WritesSomeAll (MeanAll M front) n s old new

-- fewer are left after each
pub written-fewer : {T : Type 0} (left rest : List T) (x : T) → left ≡ x ∷ rest → length rest < length left
written-fewer left rest x e = rw e (omega arith)

pub written-none : {T : Type 0} (M : Means T) (n : Nesting) (s : Shape) (all left : List T) (old : Out) → all ≡ left
    → Written M n s all left old old
written-none M n s all left old e = record { front = []; is = e; wrote = writes_no_items M n s old }

pub written-more : {T : Type 0} (M : Means T) (n : Nesting) (s : Shape) (all left rest : List T) (x : T) (a b c : Out)
    → Written M n s all left a b → left ≡ x ∷ rest → WritesSome (M x) n s b c → Written M n s all rest a c
written-more {T} M n s all left rest x a b c v e w = record {
  front = v.front ++ x ∷ [];
  is = v.is ∙ ap (λ (ys : List T). v.front ++ ys) e ∙ sym (append_assoc v.front (x ∷ []) rest);
  wrote = writes-next M v.front x n s a b c v.wrote w;
}

pub written-all : {T : Type 0} (M : Means T) (n : Nesting) (s : Shape) (all left : List T) (a b : Out) → Written M n s all left a b → left
    ≡ [] → WritesSomeAll (MeanAll M all) n s a b
written-all {T} M n s all left a b v e = let same : all ≡ v.front = v.is ∙ ap (λ (ys : List T). v.front ++ ys) e ∙ append-nil v.front in rw same v.wrote

pub written-refused : {T : Type 0} (M : Means T) (has : (x : T) → SomeMeaning (M x)) (n : Nesting) (s : Shape) (all left rest : List T)
    (x : T) (a b : Out) (e : Error) → Written M n s all left a b → left ≡ x ∷ rest → Refused (M x) n s e → RefusedAll (MeanAll M all) n s e
written-refused {T} M has n s all left rest x a b e v f h = let same : all ≡ v.front ++ x ∷ rest =
    v.is ∙ ap (λ (ys : List T). v.front ++ ys) f in rw same (refuses-among M has v.front x rest n s e h)

-- ---- putting in

-- one more on each side leaves them alike
module _ {X Y : Type 0} (P : X → Y → Type 0) (put : List X → X → List X) (put' : List Y → Y → List Y)
    (one : (xs : List X) (ys : List Y) (x : X) (y : Y) → Alike P xs ys → P x y → Alike P (put xs x) (put' ys y)) where
  put-alike : (acc : List X) (ds : List Y) → Alike P acc ds → {xs : List X} {ys : List Y} → Alike P xs ys → Alike P (put_all put acc xs) (put_all put' ds ys)
  unfolding put_all
  put-alike acc ds so_far alike-none = so_far
  put-alike acc ds so_far (alike-more x y xs ys p t) = put-alike (put acc x) (put' ds y) (one acc ds x y so_far p) t

  -- what was put in one by one means what those are named that were put in beside them
  pub put-means : (Q : Means X) (names : List Y → List (Meaning ArcRef))
      → ((xs : List X) (ys : List Y) → MeanAll Q xs (names ys) → Alike P xs ys) → ((xs : List X) (ys : List Y) → Alike P xs ys → MeanAll Q xs (names ys))
      → (now : List X) (ys : List Y) → Collected Q (λ old x new. new ≡ put old x) now (names ys) → MeansList Q now (sequence (names (put_all put' [] ys)))
  put-means Q names into back now ys c =
      let all : Alike P now (put_all put' [] ys) = rw (put-in-turn put [] c.xs now c.is) (put-alike [] [] alike-none (into c.xs ys c.each)) in
      record { ms = names (put_all put' [] ys); each = back now (put_all put' [] ys) all; is = refl }

pub map-put : {K V : Type 0} {M : Means K} {N : Means V} {put : List (K × V) → K × V → List (K × V)}
    {put' : List (Entry ArcRef) → Entry ArcRef → List (Entry ArcRef)}
    → ((x : K × V) (e : Entry ArcRef) → M x.0 e.0 → N x.1 e.1 → (xs : List (K × V)) (es : List (Entry ArcRef)) → EntriesMean M N xs es
    → EntriesMean M N (put xs x) (put' es e))
    → (now : List (K × V)) (es : List (Entry ArcRef)) → Collected (MeansPair M N) (λ ys x zs. zs ≡ put ys x) now (map entry es)
    → MeansList (MeansPair M N) now (of_entries (put_all put' [] es))
map-put {M = M} {N} {put} {put'} one now es c =
    put-means (EntryMeans M N) put put' (λ xs es x e all h. one x e h.0 h.1 xs es all) (MeansPair M N) (map entry) (λ xs es h. entries-mean M N es h)
    (λ xs es h. pairs-of-entries M N h) now es c

-- what f says of two values, g says of their meanings; turned round, both say flip of it
pub record IsLike {K O : Type 0} (M : Means K) (f : K → K → O) (g : Meaning ArcRef → Meaning ArcRef → O) (flip : O → O) : Type 0 where
  pub agrees : (x y : K) (m n : Meaning ArcRef) → M x m → M y n → f x y ≡ g m n
  pub flips : (x y : K) → f x y ≡ flip (f y x)

-- the order of a key's values is that of their meanings, and their sameness
abbrev pub IsOrderOf : {K : Type 0} → Means K → (K → K → Ordering) → KeyOrder → Type 0
IsOrderOf M cmp order = IsLike M cmp (ordered order) ordering_reverse

abbrev pub IsSameOf : {K : Type 0} → Means K → (K → K → Bool) → Type 0
IsSameOf M eq = IsLike M eq same_key (λ b. b)

pub order-of : {K : Type 0} (M : Meanings K) (order : KeyOrder) → AreSingle M → {cmp : K → K → Ordering} → ((x y : K) → cmp x y ≡ ordered order
    (M.meaning x) (M.meaning y)) → ((x y : K) → cmp x y ≡ ordering_reverse (cmp y x)) → IsOrderOf M.of cmp order
order-of M order single is flips = record { agrees = λ x y m n first second. rw (single x m first, single y n second) (is x y); flips = flips }

pub same-of : {K E : Type 0} {M : Meanings K} {eq : K → K → Bool} {parts : E → ℕ → Shape} {shape : E → Shape} → IsKey M eq parts shape → AreSingle M
    → ((x y : K) → eq x y ≡ eq y x) → IsSameOf M.of eq
same-of key single flips = record { agrees = λ x y m n first second. rw (single x m first, single y n second) (key.same x y); flips = flips }

-- where f says one thing of each two keys, g says the same of what they mean, turned round
module _ {K X Y O : Type 0} {M : Means K} {f : K → K → O} {g : Meaning ArcRef → Meaning ArcRef → O} {flip : O → O} (is : IsLike M f g flip)
    (o : O) (P : X → Y → Type 0) (key : X → K) (keys : List X → List K) (splits : (x : X) (xs : List X) → keys (x ∷ xs) ≡ key x ∷ keys xs)
    (name : Y → Meaning ArcRef) (means : (x : X) (y : Y) → P x y → M (key x) (name y)) where
  after-alike : (x : X) (y : Y) → P x y → {xs : List X} {ys : List Y} → Alike P xs ys → AllByRecursion (λ k. f (key x) k ≡ o) (keys xs)
      → AllAfter (λ a b. g (name a) (name b) ≡ flip o) y ys
  unfolding AllAfter
  after-alike x y p alike-none h = tt
  after-alike x y p (alike-more z w xs ys q t) h =
      let s : AllByRecursion (λ k. f (key x) k ≡ o) (key z ∷ keys xs) = rw (splits z xs) at h in
      (sym (is.agrees (key z) (key x) (name w) (name y) (means z w q) (means x y p)) ∙ is.flips (key z) (key x) ∙ ap flip s.0, after-alike x y p t s.1)

  pub apart-alike : (Whole : List K → Type 0) → ((k : K) (ks : List K) → Whole (k ∷ ks) → AllByRecursion (λ q. f k q ≡ o) ks × Whole ks)
      → {xs : List X} {ys : List Y} → Alike P xs ys → Whole (keys xs) → Apart (λ a b. g (name a) (name b) ≡ flip o) ys
  unfolding Apart
  apart-alike Whole parts alike-none h = tt
  apart-alike Whole parts (alike-more x y xs ys p t) h = let s = parts (key x) (keys xs) (rw (splits x xs) at h) in
      (after-alike x y p t s.0, apart-alike Whole parts t s.1)

-- ---- wholes whose forms are a count and forms of items, which they mean in turn

data Counts : Shape → Shape → Type 0 where
  counts-list : (s : Shape) → Counts (list s) s
  counts-sorted-map : (o : KeyOrder) (s t : Shape) → Counts (sorted_map o s t) (both s t)
  counts-placed-map : (s t : Shape) → Counts (placed_map s t) (both s t)
  counts-sorted-set : (o : KeyOrder) (s : Shape) → Counts (sorted_set o s) s
  counts-placed-set : (s : Shape) → Counts (placed_set s) s

counted-parts : (n : Nesting) {whole item : Shape} {m : Meaning ArcRef} {b : List ℕ} {k : List ArcRef} (ms : List (Meaning ArcRef)) → Counts whole item
    → FormAt n whole m b k → m ≡ sequence ms → (length ms ≤ longest) × ((c : List ℕ) × FormsAt n item ms c k)
counted-parts n ms (counts-list s) (list-form l s' xs c k le f) e = split-same n e le f
counted-parts n ms (counts-sorted-map o s t) (sorted-map-form l o' s' t' es c k le up f) e = split-same n e (rw (length-map es entry) le) (forms-of-entries f)
counted-parts n ms (counts-placed-map s t) (placed-map-form l s' t' es c k le apart f) e = split-same n e (rw (length-map es entry) le) (forms-of-entries f)
counted-parts n ms (counts-sorted-set o s) (sorted-set-form l o' s' xs c k le up f) e = split-same n e le f
counted-parts n ms (counts-placed-set s) (placed-set-form l s' xs c k le apart f) e = split-same n e le f

module _ {X : Type 0} {N : Means X} {ys : List X} {n : Nesting} {whole item : Shape} where
  wraps-counted : Counts whole item → ((ms : List (Meaning ArcRef)) (b : List ℕ) (k : List ArcRef) → MeanAll N ys ms → length ms ≤ longest
      → FormsAt n item ms b k → FormAt n whole (sequence ms) (length_form (length ms) ++ b) k) → Wraps N ys (MeansList N ys) n whole item
  wraps-counted counts join = record {
    joins = λ ms b k each le f. (sequence ms, record { ms = ms; each = each; is = refl }, join ms b k each le f);
    splits = λ ms each.
        (sequence ms, record { ms = ms; each = each; is = refl }, λ b k f. let p = counted-parts n ms counts f refl in (p.0, (p.1.0, k, p.1.1)));
  }

pub wraps_list : {X : Type 0} {N : Means X} {ys : List X} {n : Nesting} {s : Shape} → Wraps N ys (MeansList N ys) n (list s) s
wraps_list {s = s} = wraps-counted (counts-list s) (λ ms b k each le f. list-form _ s ms b k le f)

-- ---- maps

module _ {K V : Type 0} {M : Means K} (N : Means V) where
  module _ {cmp : K → K → Ordering} (order : KeyOrder) (is : IsOrderOf M cmp order) where
    put-in-order : (x : K × V) (e : Entry ArcRef) → M x.0 e.0 → N x.1 e.1 → (xs : List (K × V)) (es : List (Entry ArcRef)) → EntriesMean M N xs es
        → EntriesMean M N (insert_entry cmp xs x.0 x.1) (put_sorted order es e)
    put-in-order x e first second _ _ alike-none = entry-more M N x e [] [] first second alike-none
    put-in-order x e first second _ _ (alike-more y f xs es g t) = grind (arith, entry-more M N, put-in-order x e first second xs es t)

    pub sorted-map-put : (now : List (K × V)) (es : List (Entry ArcRef))
        → Collected (MeansPair M N) (λ ys x zs. zs ≡ insert_entry cmp ys x.0 x.1) now (map entry es)
        → MeansList (MeansPair M N) now (of_entries (put_all (put_sorted order) [] es))
    sorted-map-put now es c = map-put put-in-order now es c

    pub wraps_sorted_map : {xs : List (K × V)} {n : Nesting} {s t : Shape} → IsStrictlySortedBy cmp (keys_of xs)
        → Wraps (MeansPair M N) xs (MeansList (MeansPair M N) xs) n (sorted_map order s t) (both s t)
    unfolding IsStrictlySortedBy
    wraps_sorted_map {xs} {n} {s} {t} sorted = wraps-counted (counts-sorted-map order s t) (λ ms b k each le f.
        let w = entries-written M N each f in
        let up = apart-alike is Ordering.Less (EntryMeans M N) (λ (x : K × V). x.0) keys_of (λ x xs. refl) (λ (e : Entry ArcRef). e.0) (λ x e h. h.0)
        (IsStrictlySortedBy cmp) (λ k _ h. h) w.mean sorted in
        rw (w.is, length-map w.es entry) (sorted-map-form _ order s t w.es b k (rw (← w.long) le) up w.form))

  -- in order of arrival
  module _ {eq : K → K → Bool} (is : IsSameOf M eq) where
    put-in-place : (x : K × V) (e : Entry ArcRef) → M x.0 e.0 → N x.1 e.1 → (xs : List (K × V)) (es : List (Entry ArcRef)) → EntriesMean M N xs es
        → EntriesMean M N (placed_maps.insert_entry eq xs x.0 x.1) (put_placed es e)
    put-in-place x e first second _ _ alike-none = entry-more M N x e [] [] first second alike-none
    put-in-place x e first second _ _ (alike-more y f xs es g t) = grind (arith, entry-more M N, put-in-place x e first second xs es t)

    pub differ : {xs : List (K × V)} {es : List (Entry ArcRef)} → EntriesMean M N xs es → IsDistinct eq (keys_of xs) → Differ es
    unfolding IsDistinct
    differ all distinct = apart-alike is false (EntryMeans M N) (λ (x : K × V). x.0) keys_of (λ x xs. refl) (λ (e : Entry ArcRef). e.0)
        (λ x e h. h.0) (IsDistinct eq) (λ k ks h. h) all distinct

    pub wraps_placed_map : {xs : List (K × V)} {n : Nesting} {s t : Shape} → IsDistinct eq (keys_of xs)
        → Wraps (MeansPair M N) xs (MeansList (MeansPair M N) xs) n (placed_map s t) (both s t)
    wraps_placed_map {xs} {n} {s} {t} distinct = wraps-counted (counts-placed-map s t) (λ ms b k each le f.
        let w = entries-written M N each f in
        rw (w.is, length-map w.es entry) (placed-map-form _ s t w.es b k (rw (← w.long) le) (differ w.mean distinct) w.form))

module _ {X K V A : Type 0} (own : Error → Type 0) {M : Means K} (N : Means V) (r : Result X Error) (held : X → List (K × V)) (context : Context A ArcRef)
    (s t : Shape) (rest last : Rest A) where
  pub reads_sorted_map : {cmp : K → K → Ordering} (order : KeyOrder) → IsOrderOf M cmp order
      → GivesSome own (λ x. Collected (MeansPair M N) (λ ys y zs. zs ≡ insert_entry cmp ys y.0 y.1) (held x)) last r (counted (read context (both s t)) rest)
      → GivesSome own (λ x. MeansList (MeansPair M N) (held x)) last r (read context (sorted_map order s t) rest)
  unfolding read read_with
  reads_sorted_map order is h = reads-entries own _ _ (λ es. of_entries (put_all (put_sorted order) [] es)) (λ x es p. sorted-map-put N order is (held x) es p)
      r context s t rest last h

  pub reads_placed_map : {eq : K → K → Bool} → IsSameOf M eq
      → GivesSome own (λ x. Collected (MeansPair M N) (λ ys y zs. zs ≡ placed_maps.insert_entry eq ys y.0 y.1) (held x)) last r
      (counted (read context (both s t)) rest) → GivesSome own (λ x. MeansList (MeansPair M N) (held x)) last r (read context (placed_map s t) rest)
  unfolding read read_with
  reads_placed_map is h = reads-entries own _ _ (λ es. of_entries (put_all put_placed [] es)) (λ x es p. map-put (put-in-place N is) (held x) es p)
      r context s t rest last h

-- ---- lists and sets

module _ {K : Type 0} {M : Means K} where
  -- items by what they mean are alike
  items-alike : {xs : List K} {ms : List (Meaning ArcRef)} → MeanAll M xs ms → Alike M xs ms
  items-alike mean-none = alike-none
  items-alike (mean-more x m xs ms h t) = alike-more x m xs ms h (items-alike t)

  alike-items : {xs : List K} {ms : List (Meaning ArcRef)} → Alike M xs ms → MeanAll M xs ms
  alike-items alike-none = mean-none
  alike-items (alike-more x m xs ms h t) = mean-more x m xs ms h (alike-items t)

  set-put : {put : List K → K → List K} {put' : List (Meaning ArcRef) → Meaning ArcRef → List (Meaning ArcRef)}
      → ((x : K) (m : Meaning ArcRef) → M x m → (xs : List K) (ms : List (Meaning ArcRef)) → Alike M xs ms → Alike M (put xs x) (put' ms m))
      → (now : List K) (ms : List (Meaning ArcRef)) → Collected M (λ ys y zs. zs ≡ put ys y) now ms → MeansList M now (sequence (put_all put' [] ms))
  set-put {put} {put'} one now ms c = put-means M put put' (λ xs ms x m all h. one x m h xs ms all) M (λ (ns : List (Meaning ArcRef)). ns)
      (λ xs ms h. items-alike h) (λ xs ms h. alike-items h) now ms c

  module _ {cmp : K → K → Ordering} (order : KeyOrder) (is : IsOrderOf M cmp order) where
    put-item : (x : K) (m : Meaning ArcRef) → M x m → (xs : List K) (ms : List (Meaning ArcRef)) → Alike M xs ms
        → Alike M (insert_key cmp xs x) (insert_key (ordered order) ms m)
    put-item x m h _ _ alike-none = alike-more x m [] [] h alike-none
    put-item x m h _ _ (alike-more y f xs ms g t) = grind (arith, alike-more, put-item x m h xs ms t)

    pub wraps_sorted_set : {xs : List K} {n : Nesting} {s : Shape} → IsStrictlySortedBy cmp xs → Wraps M xs (MeansList M xs) n (sorted_set order s) s
    unfolding IsStrictlySortedBy
    wraps_sorted_set {xs} {n} {s} sorted = wraps-counted (counts-sorted-set order s)
        (λ ms b k each le f. sorted-set-form _ order s ms b k le (apart-alike is Ordering.Less M (λ (x : K). x) (λ (ys : List K). ys) (λ x ys. refl)
        (λ (m : Meaning ArcRef). m) (λ x m h. h) (IsStrictlySortedBy cmp) (λ k ks h. h) (items-alike each) sorted) f)

  -- in order of arrival
  module _ {eq : K → K → Bool} (is : IsSameOf M eq) where
    place-item : (x : K) (m : Meaning ArcRef) → M x m → (xs : List K) (ms : List (Meaning ArcRef)) → Alike M xs ms
        → Alike M (placed.insert_key eq xs x) (put_placed_item ms m)
    place-item x m h _ _ alike-none = alike-more x m [] [] h alike-none
    place-item x m h _ _ (alike-more y f xs ms g t) = grind (arith, alike-more, place-item x m h xs ms t)

    pub wraps_placed_set : {xs : List K} {n : Nesting} {s : Shape} → IsDistinct eq xs → Wraps M xs (MeansList M xs) n (placed_set s) s
    unfolding IsDistinct
    wraps_placed_set {xs} {n} {s} distinct = wraps-counted (counts-placed-set s)
        (λ ms b k each le f. placed-set-form _ s ms b k le (apart-alike is false M (λ (x : K). x) (λ (ys : List K). ys) (λ x ys. refl)
        (λ (m : Meaning ArcRef). m) (λ x m h. h) (IsDistinct eq) (λ k ks h. h) (items-alike each) distinct) f)

module _ {X K A : Type 0} (own : Error → Type 0) (M : Means K) (r : Result X Error) (held : X → List K) (context : Context A ArcRef) (s : Shape)
    (rest last : Rest A) where
  abbrev ReadOf : (List K → K → List K → Type 0) → Shape → Type 0
  ReadOf puts whole = GivesSome own (λ x. Collected M puts (held x)) last r (counted (read context s) rest)
      → GivesSome own (λ x. MeansList M (held x)) last r (read context whole rest)

  pub reads_list : ReadOf (λ ys y zs. zs ≡ ys ++ y ∷ []) (list s)
  unfolding read read_with
  reads_list h = gives-seen own _ _ sequence last r _ (λ x ms c. record { ms = ms; each = collected_list M (held x) ms c; is = refl }) h

  pub reads_sorted_set : {cmp : K → K → Ordering} (order : KeyOrder) → IsOrderOf M cmp order
      → ReadOf (λ ys y zs. zs ≡ insert_key cmp ys y) (sorted_set order s)
  unfolding read read_with
  reads_sorted_set order is h =
      gives-seen own _ _ (λ ms. sequence (put_all (put_sorted_item order) [] ms)) last r _ (λ x ms p. set-put (put-item order is) (held x) ms p) h

  pub reads_placed_set : {eq : K → K → Bool} → IsSameOf M eq → ReadOf (λ ys y zs. zs ≡ placed.insert_key eq ys y) (placed_set s)
  unfolding read read_with
  reads_placed_set is h = gives-seen own _ _ (λ ms. sequence (put_all put_placed_item [] ms)) last r _ (λ x ms p. set-put (place-item is) (held x) ms p) h
