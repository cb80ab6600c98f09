-- Items one after another, as the loops write and read them, and without their count.
-- Items that are put in one after another as they are read.
-- Items that a walk yields: what writing each, after their count, makes of the whole that holds them.
use Rattle.pagable_codec.proofs.Writing.{out_is}
use Rattle.pagable_traits.proofs.{
  Parts.{err_along, ok_along, only-count, only-part},
  Words.{ArcRef, Bor, Collected, Err, Error, FormAt, Forms, FormsAt, Gave, Gets, GivesSome, IfErr, List, MeanAll, Meaning, Meanings, Means, MeansList},
  Words.{MeansPair, Nesting, NoForm, NoFormOfSome, NoForms, NoFormsOfSome, Ok, Option, Out, PutInTurn, Refused, RefusedAll, RefusedAmong, RefusedCounted, Rest},
  Words.{Result, Shape, Some, SomeMeaning, WritesEach, WritesSome, WritesSomeAll, added, ap, append-nil, append_assoc, arith, counted, get_or, grows_trans},
  Words.{inl, items, items_have_meanings, kind_of_arc, length, length_form, list, long_or, longest, map, mean-more, mean-none, memory_or, memory_refuses},
  Words.{more-forms, moves_trans, no-forms, put_all, read, refl, sequence, some, subst, suc, sym, take, then, zero, ℕ, [], ◌++◌, ◌+◌, ◌-◌, ◌<◌, ◌>>=◌, ◌∙◌},
  Words.{◌∷◌, ◌≡◌, ◌≤◌, ◌⊎◌},
}
use Rattle.pagable_value_spec.specs.{Form.{Form, array-form, run-form}, Shape.{array, run}}
use Rattle.std.proofs.{
  Common.drop,
  Math.Seq.split_at,
  lemmas.{Iterator.{Consumers.YieldsList-from_rest, YieldsList, YieldsList-from_slice, items_from_drains}, List.take_more},
}
use Rattle.std.specs.{
  Iterator.{AlwaysYields, Yields},
  Map.Iter.{TakesFirst, deref, deref_pair},
  Prelude.{vec_len, ◌≢◌},
  Result.{IsOk, MatchResult},
  Slice.Iter.{iter_rest, iter_steps},
  declared.vec.Vec.Vec,
}

-- ---- what items mean

pub mean_last : {T : Type 0} (M : Means T) (xs : List T) (ms : List (Meaning ArcRef)) (x : T) (m : Meaning ArcRef) → MeanAll M xs ms → M x m
    → MeanAll M (xs ++ x ∷ []) (ms ++ m ∷ [])
mean_last M _ _ x m mean-none h = mean-more x m [] [] h mean-none
mean_last M _ _ x m (mean-more y n xs ms g t) h = mean-more y n _ _ g (mean_last M xs ms x m t h)

pub mean-length : {T : Type 0} {M : Means T} {xs : List T} {ms : List (Meaning ArcRef)} → MeanAll M xs ms → length ms ≡ length xs
mean-length mean-none = refl
mean-length (mean-more x m xs ms h t) = ap (λ (n : ℕ). suc n) (mean-length t)

-- ---- writing

pub writes_no_items : {T : Type 0} (M : Means T) (n : Nesting) (s : Shape) (old : Out) → WritesSomeAll (MeanAll M []) n s old old
writes_no_items M n s old = record {
  ms = [];
  is = mean-none;
  wrote = record {
    bytes = [];
    refs = [];
    form = no-forms _ s;
    grown = out_is _ _ _ _ (sym (append-nil old.bytes)) (sym (append-nil old.refs));
  };
}

pub forms-last : {parts : ℕ → Shape} {left : ℕ} {s : Shape} {ms : List (Meaning ArcRef)} {b : List ℕ} {k : List ArcRef} (m : Meaning ArcRef) (c : List ℕ)
    (l : List ArcRef)
    → Forms ArcRef kind_of_arc parts left s ms b k → Form ArcRef kind_of_arc parts left s m c l
    → Forms ArcRef kind_of_arc parts left s (ms ++ m ∷ []) (b ++ c) (k ++ l)
forms-last m c l (no-forms d s) f = rw (← append-nil c, ← append-nil l) (more-forms d s m [] c [] l [] f (no-forms d s))
forms-last m c l (more-forms d s x xs b e k j h g) f = rw (append_assoc b e c, append_assoc k j l)
    (more-forms d s x (xs ++ m ∷ []) b (e ++ c) k (j ++ l) h (forms-last m c l g f))

pub writes-next : {T : Type 0} (M : Means T) (front : List T) (x : T) (n : Nesting) (s : Shape) (a b c : Out)
    → WritesSomeAll (MeanAll M front) n s a b
    → WritesSome (M x) n s b c → WritesSomeAll (MeanAll M (front ++ x ∷ [])) n s a c
writes-next M front x n s a b c v w = record {
  ms = v.ms ++ w.m ∷ [];
  is = mean_last M front v.ms x w.m v.is w.is;
  wrote = record {
    bytes = v.wrote.bytes ++ w.wrote.bytes;
    refs = v.wrote.refs ++ w.wrote.refs;
    form = forms-last w.m w.wrote.bytes w.wrote.refs v.wrote.form w.wrote.form;
    grown = then a b c _ _ _ _ v.wrote.grown w.wrote.grown;
  };
}

pub writes_item : {T : Type 0} (M : Means T) (xs : List T) (i : ℕ) (x : T) (n : Nesting) (s : Shape) (a b c : Out) → i < length xs → x
    ≡ get_or xs i x
    → WritesSomeAll (MeanAll M (take i xs)) n s a b → WritesSome (M x) n s b c → WritesSomeAll (MeanAll M (take (i + 1) xs)) n s a c
writes_item M xs i x n s a b c lt e v w = let last : take (i + 1) xs ≡ take i xs ++ x ∷ [] =
    rw (take_more xs i x lt, ← e) refl in rw last (writes-next M (take i xs) x n s a b c v w)

pub no-head : (n : Nesting) (s : Shape) (m : Meaning ArcRef) (ms : List (Meaning ArcRef)) → NoForm n s m → NoForms n s (m ∷ ms)
no-head n s m ms h b k (more-forms l s' m' ms' c d j i f g) = h c j f

pub no-tail : (n : Nesting) (s : Shape) (m : Meaning ArcRef) (ms : List (Meaning ArcRef)) → NoForms n s ms → NoForms n s (m ∷ ms)
no-tail n s m ms h b k (more-forms l s' m' ms' c d j i f g) = h d i g

-- ---- a length and items

pub sequence-same : (xs ys : List (Meaning ArcRef)) → sequence xs ≡ sequence ys → xs ≡ ys
sequence-same [] [] e = refl
sequence-same (x ∷ xs) (y ∷ ys) e = grind (arith, sequence-same xs ys)
sequence-same _ _ e = cc

-- forms of items are forms of the items of the same sequence
pub split-same : (n : Nesting) {s : Shape} {xs ms : List (Meaning ArcRef)} {c : List ℕ} {k : List ArcRef} → sequence xs ≡ sequence ms → length xs ≤ longest
    → FormsAt n s xs c k → (length ms ≤ longest) × ((c : List ℕ) × FormsAt n s ms c k)
split-same n {s} {xs} {ms} {c} {k} e le f = let same : xs ≡ ms = sequence-same xs ms e in rw (← same) (le, (c, f))

-- ---- reading

-- what was read before, and what is still read
abbrev pub with_front : {A X : Type 0} → List X → Result (List X × Rest A) Error → Result (List X × Rest A) Error
with_front front read = read >>= λ x. Ok (front ++ x.0, x.1)

regroup : {A X : Type 0} (front : List X) (m : X) (read : Result (List X × Rest A) Error) → with_front front (read >>= λ x. Ok (m ∷ x.0, x.1))
    ≡ with_front (front ++ m ∷ []) read
regroup front m read = grind (arith, append_assoc)

pub starts : {A X : Type 0} (get : Gets A X) (count : ℕ) (rest : Rest A) → with_front [] (items get (count - 0) rest) ≡ items get count rest
starts {A} {X} get count rest = grind arith

pub goes_on : {A X : Type 0} (get : Gets A X) (front : List X) (count i : ℕ) (rest : Rest A) (m : X) (after : Rest A) (total : Result (List X × Rest A) Error)
    → i < count → get rest ≡ Ok (m, after)
    → with_front front (items get (count - i) rest) ≡ total → with_front (front ++ m ∷ []) (items get (count - (i + 1)) after) ≡ total
unfolding items
goes_on get front count i rest m after total lt h so_far =
    let k : count - i ≡ suc (count - (i + 1)) = omega arith in
    let one : with_front front (items get (count - i) rest) ≡ with_front (front ++ m ∷ []) (items get (count - (i + 1)) after) =
    rw (k, h) (regroup front m (items get (count - (i + 1)) after)) in
    sym one ∙ so_far

pub ends : {A X : Type 0} (own : Error → Type 0) (get : Gets A X) (e : Error) (front : List X) (count i : ℕ) (rest : Rest A)
    (total : Result (List X × Rest A) Error) → i < count → (get rest ≡ Err e) ⊎ own e
    → with_front front (items get (count - i) rest) ≡ total → (total ≡ Err e) ⊎ memory_or own e
unfolding items
ends own get e front count i rest total lt h so_far = let k : count - i ≡ suc (count - (i + 1)) = omega arith in grind arith

pub is_done : {A X : Type 0} (get : Gets A X) (front : List X) (count i : ℕ) (rest : Rest A) (total : Result (List X × Rest A) Error) → count ≤ i
    → with_front front (items get (count - i) rest) ≡ total → total ≡ Ok (front, rest)
unfolding items
is_done get front count i rest total le so_far = let k : count - i ≡ 0 = omega arith in grind (arith, append-nil)

-- ---- a shape whose forms are those of the items

module _ {T : Type 0} (M : Means T) (xs : List T) (n : Nesting) (whole s : Shape) where
  writes-row : (old new : Out) → ((ms : List (Meaning ArcRef)) (b : List ℕ) (k : List ArcRef) → length ms ≡ length xs → FormsAt n s ms b k
      → FormAt n whole (sequence ms) b k)
      → WritesSomeAll (MeanAll M xs) n s old new → WritesSome (MeansList M xs) n whole old new
  writes-row old new join v = record {
    m = sequence v.ms;
    is = record { ms = v.ms; each = v.is; is = refl };
    wrote = record { bytes = v.wrote.bytes; refs = v.wrote.refs; form = join _ _ _ (mean-length v.is) v.wrote.form; grown = v.wrote.grown };
  }

  refused-row : {Z : Type 0} (r : Result Z Error) → ((ms : List (Meaning ArcRef)) (b : List ℕ) (k : List ArcRef) → FormAt n whole (sequence ms) b k
      → FormsAt n s ms b k)
      → IfErr r (RefusedAll (MeanAll M xs) n s) → IfErr r (Refused (MeansList M xs) n whole)
  refused-row r parts h = err_along r h (λ e k fault. let no = k fault in
      record { m = sequence no.ms; is = record { ms = no.ms; each = no.is; is = refl }; no_form = λ b k f. no.no_forms b k (parts _ b k f) })

-- ---- arrays

array-parts : (n : Nesting) {count : ℕ} {s : Shape} {m : Meaning ArcRef} {b : List ℕ} {k : List ArcRef} (ms : List (Meaning ArcRef))
    → FormAt n (array count s) m b k → m ≡ sequence ms
    → FormsAt n s ms b k
array-parts n ms (array-form l count s' xs b' k' le f) e = let Q : List (Meaning ArcRef) → Type 0 =
    λ x. FormsAt n s' x b' k' in subst Q (sequence-same xs ms e) f

pub writes_array : {T : Type 0} (M : Means T) (xs : List T) (count : ℕ) (n : Nesting) (s : Shape) (old new : Out) → length xs ≡ count
    → WritesSomeAll (MeanAll M xs) n s old new
    → WritesSome (MeansList M xs) n (array count s) old new
writes_array M xs count n s old new e v = writes-row M xs n (array count s) s old new (λ ms b k same f. array-form _ count s ms b k (same ∙ e) f) v

pub refused_array : {Z T : Type 0} (r : Result Z Error) (M : Means T) (xs : List T) (count : ℕ) (n : Nesting) (s : Shape)
    → IfErr r (RefusedAll (MeanAll M xs) n s)
    → IfErr r (Refused (MeansList M xs) n (array count s))
refused_array r M xs count n s h = refused-row M xs n (array count s) s r (λ ms b k f. array-parts n ms f refl) h

-- ---- runs

pub writes_run : {T : Type 0} (M : Means T) (xs : List T) (n : Nesting) (s : Shape) (old new : Out) → length xs ≤ longest
    → WritesSomeAll (MeanAll M xs) n s old new → WritesSome (MeansList M xs) n (run s) old new
writes_run M xs n s old new le v = writes-row M xs n (run s) s old new (λ ms b k same f. run-form _ s ms b k (rw same le) f) v

run-parts : (n : Nesting) {s : Shape} {m : Meaning ArcRef} {b : List ℕ} {k : List ArcRef} (ms : List (Meaning ArcRef)) → FormAt n (run s) m b k → m
    ≡ sequence ms → (length ms ≤ longest) × FormsAt n s ms b k
run-parts n {s} {m} {b} {k} ms (run-form l s' xs b' k' le f) e = let P : List (Meaning ArcRef) → Type 0 =
    λ x. (length x ≤ longest) × FormsAt n s' x b' k' in subst P (sequence-same xs ms e) (le, f)

pub refused_run : {Z T : Type 0} (r : Result Z Error) (M : Means T) (xs : List T) (n : Nesting) (s : Shape)
    → IfErr r (RefusedAll (MeanAll M xs) n s)
    → IfErr r (Refused (MeansList M xs) n (run s))
refused_run r M xs n s h = refused-row M xs n (run s) s r (λ ms b k f. (run-parts n ms f refl).1) h

-- a run that is too long has no form
pub no_long_run : {T : Type 0} (M : Meanings T) (xs : List T) (n : Nesting) (s : Shape) → longest < length xs → NoFormOfSome (MeansList M.of xs) n (run s)
no_long_run M xs n s lt =
    let all = items_have_meanings M.of (some M) xs in
    let long : longest < length all.0 = rw (mean-length all.1) lt in
    record { m = sequence all.0; is = record { ms = all.0; each = all.1; is = refl }; no_form = λ b k f. omega (arith, (run-parts n all.0 f refl).0) }

pub long_refuses : (part : Error → Type 0) → long_or part Error.TooLong
long_refuses part = inl refl

pub ruleset arrays = (ok_along, err_along, writes_array, refused_array)

pub ruleset runs = (ok_along, err_along, writes_run, refused_run, no_long_run, long_refuses)

pub collected_none : {T : Type 0} (M : Means T) (puts : List T → T → List T → Type 0) (now : List T) → now ≡ [] → Collected M puts now []
unfolding PutInTurn
collected_none M puts now e = record { xs = []; each = mean-none; is = e }

pub puts-last : {T : Type 0} (puts : List T → T → List T → Type 0) (acc xs : List T) (x : T) (old new : List T) → PutInTurn puts acc xs old → puts old x new
    → PutInTurn puts acc (xs ++ x ∷ []) new
unfolding PutInTurn
puts-last {T} puts acc [] x old new e h = let P : List T → Type 0 = λ ys. puts ys x new in (new, subst P e h, refl)
puts-last puts acc (y ∷ ys) x old new before h = (before.0, before.1, puts-last puts before.0 ys x old new before.2 h)

pub collected_more : {T : Type 0} (M : Means T) (puts : List T → T → List T → Type 0) (old new : List T) (ms : List (Meaning ArcRef))
    (x : T) (m : Meaning ArcRef) → Collected M puts old ms → M x m → puts old x new → Collected M puts new (ms ++ m ∷ [])
collected_more M puts old new ms x m c is h = record {
  xs = c.xs ++ x ∷ [];
  each = mean_last M c.xs ms x m c.each is;
  is = puts-last puts [] c.xs x old new c.is h;
}

-- where one more item leaves one list alone, so do all
pub put-in-turn : {T : Type 0} (put : List T → T → List T) (acc xs now : List T) → PutInTurn (λ ys y zs. zs ≡ put ys y) acc xs now → now ≡ put_all put acc xs
unfolding PutInTurn put_all
put-in-turn put acc [] now e = e
put-in-turn {T} put acc (x ∷ xs) now h = put-in-turn put h.0 xs now h.2 ∙ ap (λ (ys : List T). put_all put ys xs) h.1

-- items that each come last are all there, in their order
pub put-at-end : {T : Type 0} (acc xs : List T) → put_all (λ ys y. ys ++ y ∷ []) acc xs ≡ acc ++ xs
unfolding put_all
put-at-end acc [] = sym (append-nil acc)
put-at-end acc (x ∷ xs) = put-at-end (acc ++ x ∷ []) xs ∙ append_assoc acc (x ∷ []) xs

pub collected_list : {T : Type 0} (M : Means T) (now : List T) (ms : List (Meaning ArcRef))
    → Collected M (λ ys y zs. zs ≡ ys ++ y ∷ []) now ms → MeanAll M now ms
collected_list M now ms c = rw (put-in-turn (λ ys y. ys ++ y ∷ []) [] c.xs now c.is, put-at-end [] c.xs) c.each

-- ---- what was read, seen as a whole

pub gives-seen : {X Y Z R : Type 0} (own : Error → Type 0) (P : X → Y → Type 0) (Q : X → Z → Type 0) (view : Y → Z) (last : R) (r : Result X Error)
    (part : Result (Y × R) Error)
    → ((x : X) (y : Y) → P x y → Q x (view y)) → GivesSome own P last r part → GivesSome own Q last r (part >>= λ y. Ok (view y.0, y.1))
gives-seen own P Q view last r part f g = grind arith

-- there are as many as were asked for
items-length : {A X : Type 0} (get : Gets A X) (n : ℕ) (rest after : Rest A) (xs : List X) → items get n rest ≡ Ok (xs, after) → length xs ≡ n
unfolding items
items-length get zero rest after xs e = grind arith
items-length get (suc n) rest after xs e = grind (arith, items-length get n)

-- where so many items were collected, an array of so many is made of them
pub array_made : {T Z A X Y : Type 0} (P : X → Type 0) (Q : Y → Type 0) (M : Means T) (v : Vec T Z) (get : Gets A (Meaning ArcRef))
    (count : ℕ) (rest last : Rest A)
    (r : Result X Y) → Gave (Collected M (λ ys y zs. zs ≡ ys ++ y ∷ []) v.items) last (items get count rest)
    → MatchResult r (λ x. P x × (vec_len v ≡ count)) (λ y. Q y × (vec_len v ≢ count)) → IsOk r
array_made P Q M v get count rest last (Ok x) g h = refl
array_made P Q M v get count rest last (Err y) g h = absurd (h.1 (v.ok.0 ∙ sym (mean-length (collected_list M v.items g.m g.is))
    ∙ items-length get count rest last g.m g.gave))

pub ruleset lists = (collected_list, moves_trans)

-- ---- what a walk shows

-- a walk yields items that show these, and they mean what those mean
pub record Shows {W T X : Type 0} (next : W → Option T → W → Type 0) (M : Means T) (walk : W) (N : Means X)
    (ys : List X) : Type 0 where
  pub view : T → X
  pub road : YieldsList next view walk ys
  pub means : (x : T) (m : Meaning ArcRef) → M x m → N (view x) m

pub shows_slice : {X : Type 0} {N : Means X} {walk : _} {ys : List X} → iter_rest walk ≡ ys → Shows iter_steps (λ r. N r.now) walk N ys
shows_slice {ys = ys} e = record { view = λ r. r.now; road = YieldsList-from_slice ys e; means = λ x m h. h }

pub shows_items : {X : Type 0} {N : Means X} {walk ys : List X} → walk ≡ ys → Shows (TakesFirst deref) (λ r. N r.now) walk N ys
shows_items {ys = ys} e = record { view = deref; road = YieldsList-from_rest ys e; means = λ x m h. h }

pub shows_entries : {K V : Type 0} {M : Means K} {N : Means V} {walk ys : List (K × V)} → walk ≡ ys
    → Shows (TakesFirst deref_pair) (MeansPair (λ (r : Bor K). M r.now) (λ (r : Bor V). N r.now)) walk (MeansPair M N) ys
shows_entries {ys = ys} e = record {
  view = deref_pair;
  road = YieldsList-from_rest ys e;
  means = λ x m h. record { first = h.first; second = h.second; is_first = h.is_first; is_second = h.is_second; is = h.is };
}

mean-shown : {T X : Type 0} (M : Means T) (N : Means X) (view : T → X)
    → ((x : T) (m : Meaning ArcRef) → M x m → N (view x) m) → {xs : List T} {ms : List (Meaning ArcRef)} → MeanAll M xs ms → MeanAll N (map view xs) ms
mean-shown M N view means mean-none = mean-none
mean-shown M N view means (mean-more x m xs ms h t) = mean-more (view x) m (map view xs) ms (means x m h) (mean-shown M N view means t)

-- what was yielded, the item that came then, and what that leaves
cut-at : {W T X : Type 0} (next : W → Option T → W → Type 0) (view : T → X) (s t u : W) (ys : List X) (xs : List T) (x : T) → AlwaysYields next view s ys
    → Yields next s xs t → next t (Some x) u → (rest : List X) × (ys ≡ map view xs ++ view x ∷ rest)
cut-at next view s t u [] [] x road y step = absurd (road x u (rw y step))
cut-at next view s t u (z ∷ zs) [] x road y step = let p = road.1 x u (rw y step) in (zs, rw p.0 refl)
cut-at next view s t u [] (a ∷ xs) x road y step = absurd (road a y.0 y.1)
cut-at {W} {T} {X} next view s t u (z ∷ zs) (a ∷ xs) x road y step = let p = road.1 a y.0 y.1 in let more =
    cut-at next view y.0 t u zs xs x p.1 y.2 step in (more.0, rw (p.0, ← more.1) refl)

-- ---- items without their count

lacks-among : {T : Type 0} (M : Means T) (has : (x : T) → SomeMeaning (M x)) (front : List T) (x : T) (rest : List T) (n : Nesting)
    (s : Shape) → NoFormOfSome (M x) n s → NoFormsOfSome (MeanAll M (front ++ x ∷ rest)) n s
lacks-among M has [] x rest n s lacks =
    let others = items_have_meanings M has rest in
    record { ms = lacks.m ∷ others.0; is = mean-more x lacks.m rest others.0 lacks.is others.1; no_forms = no-head n s lacks.m others.0 lacks.no_form }
lacks-among M has (y ∷ front) x rest n s lacks =
    let others = lacks-among M has front x rest n s lacks in
    record {
      ms = (has y).0 ∷ others.ms;
      is = mean-more y (has y).0 (front ++ x ∷ rest) others.ms (has y).1 others.is;
      no_forms = no-tail n s (has y).0 others.ms others.no_forms;
    }

pub refuses-among : {T : Type 0} (M : Means T) (has : (x : T) → SomeMeaning (M x)) (front : List T) (x : T) (rest : List T) (n : Nesting)
    (s : Shape) (e : Error) → Refused (M x) n s e → RefusedAll (MeanAll M (front ++ x ∷ rest)) n s e
refuses-among M has front x rest n s e h = λ fault. lacks-among M has front x rest n s (h fault)

-- an item of a list, by its place
pub refuses_item : {T : Type 0} (M : Means T) (has : (x : T) → SomeMeaning (M x)) (xs : List T) (i : ℕ) (x : T) (n : Nesting) (s : Shape)
    (e : Error) → i < length xs
    → x ≡ get_or xs i x
    → Refused (M x) n s e → RefusedAll (MeanAll M xs) n s e
refuses_item {T} M has xs i x n s e lt is h =
    let P : List T → Type 0 = λ ys. RefusedAll (MeanAll M ys) n s e in
    let Q : T → Type 0 = λ y. Refused (M y) n s e in
    subst P (sym (split_at xs i x lt)) (refuses-among M has (take i xs) (get_or xs i x) (drop (suc i) xs) n s e (subst Q is h))

pub each-written : {W T X : Type 0} {next : W → Option T → W → Type 0} {M : Means T} {walk : W} {N : Means X}
    {ys : List X} → Shows next M walk N ys → (n : Nesting) (s : Shape) (old new : Out) → WritesEach next M walk n s old new
    → WritesSomeAll (MeanAll N ys) n s old new
each-written {M = M} {N = N} {ys = ys} shows n s old new w =
    let all : map shows.view w.xs ≡ ys = items_from_drains w.xs (w.all.1.0, w.all.1.1, λ _. (w.all.0, w.all.1.2)) shows.road in
    record { ms = w.wrote.ms; is = rw all at (mean-shown M N shows.view shows.means w.wrote.is); wrote = w.wrote.wrote }

pub each-refused : {W T X : Type 0} {next : W → Option T → W → Type 0} {M : Means T} {walk : W} {N : Means X}
    {ys : List X} → Shows next M walk N ys → ((y : X) → SomeMeaning (N y)) → (n : Nesting) (s : Shape) (e : Error) → RefusedAmong next M walk n s e
    → RefusedAll (MeanAll N ys) n s e
each-refused {next = next} {walk = walk} {N = N} {ys = ys} shows has n s e h =
    let cut = cut-at next shows.view walk h.yields.0 h.after ys h.before h.x shows.road.runs h.yields.1 h.yields.2 in
    let one : Refused (N (shows.view h.x)) n s e = λ fault. let no = h.refused fault in
    record { m = no.m; is = shows.means h.x no.m no.is; no_form = no.no_form } in
    rw cut.1 (refuses-among N has (map shows.view h.before) (shows.view h.x) cut.0 n s e one)

-- ---- items after their count

-- A count and forms of items are a form of the whole that holds the items, and each form of it is made so.
pub record Wraps {X : Type 0} (N : Means X) (ys : List X) (Whole : Meaning ArcRef → Type 0) (n : Nesting)
    (whole item : Shape) : Type 0 where
  pub joins : (ms : List (Meaning ArcRef)) (b : List ℕ) (k : List ArcRef) → MeanAll N ys ms → length ms ≤ longest → FormsAt n item ms b k → (m : Meaning ArcRef)
      × Whole m × FormAt n whole m (length_form (length ms) ++ b) k
  pub splits : (ms : List (Meaning ArcRef)) → MeanAll N ys ms → (m : Meaning ArcRef) × Whole m
      × ((b : List ℕ) (k : List ArcRef) → FormAt n whole m b k → (length ms ≤ longest) × ((c : List ℕ) × (j : List ArcRef) × FormsAt n item ms c j))

pub writes-counted : {X : Type 0} {N : Means X} {ys : List X} {Whole : Meaning ArcRef → Type 0} {n : Nesting} {whole item : Shape}
    → Wraps N ys Whole n whole item → (old mid new : Out) (count : ℕ) → count ≡ length ys → mid ≡ added old (length_form count) [] → count ≤ longest
    → WritesSomeAll (MeanAll N ys) n item mid new → WritesSome Whole n whole old new
writes-counted wraps old mid new count all counted le v =
    let long : length v.ms ≡ count = mean-length v.is ∙ sym all in
    let p = wraps.joins v.ms v.wrote.bytes v.wrote.refs v.is (rw long le) v.wrote.form in
    let first : mid ≡ added old (length_form (length v.ms)) [] = rw long counted in
    record {
      m = p.0;
      is = p.1;
      wrote = record {
        bytes = length_form (length v.ms) ++ v.wrote.bytes;
        refs = v.wrote.refs;
        form = p.2;
        grown = then old mid new _ _ _ _ first v.wrote.grown;
      };
    }

pub refuses-long : {X : Type 0} {N : Means X} {ys : List X} {Whole : Meaning ArcRef → Type 0} {n : Nesting} {whole item : Shape}
    → Wraps N ys Whole n whole item
    → ((y : X) → SomeMeaning (N y))
    → (count : ℕ) → count ≡ length ys → (e : Error) → longest < count → Refused Whole n whole e
refuses-long {N = N} {ys = ys} wraps has count all e more = λ fault.
    let each = items_have_meanings N has ys in
    let p = wraps.splits each.0 each.1 in
    let long : longest < length each.0 = rw (mean-length each.1, ← all) more in
    record { m = p.0; is = p.1; no_form = λ b k f. omega (arith, long, (p.2 b k f).0) }

pub refuses-items : {X : Type 0} {N : Means X} {ys : List X} {Whole : Meaning ArcRef → Type 0} {n : Nesting} {whole item : Shape}
    → Wraps N ys Whole n whole item → (e : Error)
    → RefusedAll (MeanAll N ys) n item e → Refused Whole n whole e
refuses-items wraps e h = λ fault. let lacks = h fault in let p = wraps.splits lacks.ms lacks.is in
    record { m = p.0; is = p.1; no_form = λ b k f. let q = (p.2 b k f).1 in lacks.no_forms q.0 q.1 q.2 }

pub refused_counted : {W T X Y : Type 0} (r : Result Y Error) {next : W → Option T → W → Type 0} {M : Means T} {walk : W}
    {N : Means X} {ys : List X} {Whole : Meaning ArcRef → Type 0} {n : Nesting} {whole item : Shape} (count : ℕ)
    → Shows next M walk N ys → Wraps N ys Whole n whole item → ((y : X) → SomeMeaning (N y)) → count ≡ length ys
    → IfErr r (RefusedCounted next M walk count n item) → IfErr r (Refused Whole n whole)
refused_counted r count shows wraps has all h = grind (arith, refuses-long wraps has count all, memory_refuses, refuses-items wraps, each-refused shows has)

pub ruleset writes = (ok_along, err_along, grows_trans, only-count, only-part)
