-- Handles that are released where nothing follows: what is left then, and the other way round.
use Rattle.pagable_pager_spec.specs.{Basics.{Among, Error, HandleNumber, one, times}, Cascade.{Falls, IsClosed, MustList, fallen, is_keyed, is_outside, left_rows}, Kinds.{held, is_at, is_owned_by, is_pin, owner_value, pins}, Pager.{IsPagerWhole, PagerState}, World.{Alike, Core, Values, greatest}, declared.handle_row.HandleRow.HandleRow}
use Rattle.pagable_theorems.proofs.{CascadeWitness.{inside, within-self}, HandlesKept.{same-owner}, Trees.{same-number, sum-le, sum-zero}, ValueRows.{At, Has, sits}}
use Rattle.std.proofs.{Common.{Bool, List, None, Ok, Option, Result, Some, ap, arith, false, filter, if◌then◌else◌, length, map, not, refl, subst, suc, sum_by}, Common.{sym, true, ℕ, [], ◌&&◌, ◌++◌, ◌+◌, ◌<◌, ◌==◌}, Common.{◌∙◌, ◌∷◌, ◌≡◌, ◌≤◌}, lemmas.{Bool.{Decides.nat_tests, false_from_ne_true}, List.{Sums.{sum_by-append, sum_by-cons}, append-nil}}}
use Rattle.std.specs.Prelude.{nat_lt, slice_get}

ruleset basics = (arith, nat_tests)

-- ---- lists without some elements

pub filter-alike : {X : Type 0} (f g : X → Bool) (xs : List X) → ((x : X) → Among xs x → f x ≡ g x) → filter f xs ≡ filter g xs
filter-alike f g [] same = refl
filter-alike f g (x ∷ xs) same =
    let rest = filter-alike f g xs (λ y (i, at). same y (suc i, at)) in
    let here : f x ≡ g x = same x (0, refl) in
    grind basics

pub filter-whole : {X : Type 0} (f : X → Bool) (xs : List X) → ((x : X) → Among xs x → f x ≡ true) → filter f xs ≡ xs
filter-whole f [] all = refl
filter-whole f (x ∷ xs) all =
    let rest = filter-whole f xs (λ y (i, at). all y (suc i, at)) in
    let here : f x ≡ true = all x (0, refl) in
    grind basics

pub times-left : (t : HandleRow → Bool) (gone : ℕ → Bool) (rows : List HandleRow) → times t (left_rows gone rows) ≡ times (λ h. t h && is_outside gone h) rows
times-left t gone [] = refl
times-left t gone (x ∷ xs) = grind (
  basics,
  sum_by-cons (λ h. one (t h)) x (left_rows gone xs),
  sum_by-cons (λ h. one (t h && is_outside gone h)) x xs,
  times-left t gone xs,
)

pub sum-alike : {X : Type 0} (f g : X → ℕ) (xs : List X) → ((x : X) → Among xs x → f x ≡ g x) → sum_by f xs ≡ sum_by g xs
sum-alike f g [] same = refl
sum-alike f g (x ∷ xs) same =
    omega (arith, sum_by-cons f x xs, sum_by-cons g x xs, same x (0, refl), sum-alike f g xs (λ y (i, at). same y (suc i, at)))

no-entries : (es : List HandleRow) → ((n : ℕ) → 0 < held n es → ⊥) → es ≡ []
no-entries [] none = refl
no-entries (h ∷ hs) none = absurd (none h.node.0 (grind (basics, sum_by-cons (λ x. one (is_at h.node.0 x)) h hs)))

-- ---- what is left of a world without these handles, where nothing follows

abbrev pub alone : Core → (ℕ → Bool) → Core
alone w given = record w {
  rows = left_rows given w.rows;
  cells = λ n. if nat_lt 0 (held n (left_rows given w.rows)) then w.cells n else None;
}

-- no cell without a key loses its last pin
abbrev pub UnpinsNone : Core → Core → (ℕ → Bool) → Type 0
UnpinsNone before w given = (n : ℕ) → is_keyed w n ≡ false → pins n (left_rows given w.rows) ≡ 0 → pins n before.rows ≡ 0

-- each entry of the list is a handle that isn't given
abbrev pub ListStays : Core → (ℕ → Bool) → Type 0
ListStays w given = (q : HandleNumber) → Among w.list q → (h : HandleRow) × Among w.rows h × (h.number.0 ≡ q.0) × (given h.number.0 ≡ false)

module _ (w : Core) (given : ℕ → Bool) (stays : ListStays w given) where
  list-left : (gone : ℕ → Bool) → ((h : HandleRow) → Among w.rows h → gone h.number.0 ≡ given h.number.0)
      → filter (λ (q : HandleNumber). not (gone q.0)) w.list ≡ w.list
  list-left gone same = filter-whole (λ (q : HandleNumber). not (gone q.0)) w.list (λ q among.
      let (h, there, number, kept) = stays q among in
      ap not (ap gone (sym number) ∙ same h there ∙ kept))

  -- the world after such a release
  fallen-is : (gone : ℕ → Bool) (entries : List HandleRow) → ((h : HandleRow) → Among w.rows h → gone h.number.0 ≡ given h.number.0) → entries ≡ []
      → fallen w gone entries ≡ alone w given
  fallen-is gone entries same none =
      let rows : left_rows gone w.rows ++ entries ≡ left_rows given w.rows =
      ap (λ es. left_rows gone w.rows ++ es) none ∙ append-nil _
      ∙ filter-alike (λ h. not (gone h.number.0)) (λ h. not (given h.number.0)) w.rows (λ h among. ap not (same h among)) in
      let list : filter (λ (q : HandleNumber). not (gone q.0)) w.list ++ map (λ (h : HandleRow). h.number) entries ≡ w.list =
      ap (λ es. filter (λ (q : HandleNumber). not (gone q.0)) w.list ++ map (λ (h : HandleRow). h.number) es) none ∙ append-nil _ ∙ list-left gone same in
      let last : w.last.handle + length entries ≡ w.last.handle = omega (arith, ap length none) in
      λ i. record w {
        rows = rows i;
        cells = λ n. if nat_lt 0 (held n (rows i)) then w.cells n else None;
        list = list i;
        last = record w.last { handle = last i };
      }

  module _ (before : Core) (closed : IsClosed w.rows (is_keyed w) [] given) (unpins : UnpinsNone before w given) where
    no-must : {w' : Core} (n : ℕ) → MustList before w w' n → pins n (left_rows given w.rows) ≤ pins n w'.rows → ⊥
    no-must n must le =
        let some = must.pinned in
        let none = must.unpinned in
        let e : pins n before.rows ≡ 0 = unpins n must.unkeyed (omega arith) in
        omega arith

    -- the given handles alone have been released
    pub fell-alone : {w' : Core} {r : Result (Unit {0}) Error} → Falls before w given r w' → Alike (alone w given) w'
    fell-alone {w'} f =
        let closed_too : IsClosed w.rows (is_keyed w) f.entries given = λ n lost. closed n (grind (basics, lost)) in
        let less = f.set.least given (within-self w.rows (is_keyed w) f.entries given) closed_too in
        let same : (h : HandleRow) → Among w.rows h → f.gone h.number.0 ≡ given h.number.0 = λ h among.
        let there = inside w.rows (is_keyed w) f.entries given f.gone h f.set.holds among in
        let back = inside w.rows (is_keyed w) f.entries f.gone given h less among in
        grind basics in
        let left : left_rows f.gone w.rows ≡ left_rows given w.rows =
        filter-alike (λ h. not (f.gone h.number.0)) (λ h. not (given h.number.0)) w.rows (λ h among. ap not (same h among)) in
        let more : (n : ℕ) → pins n (left_rows given w.rows) ≤ pins n w'.rows = λ n.
        let a = ap (pins n) f.leaves.rows in
        let b = sum_by-append (λ h. one (is_pin n h)) (left_rows f.gone w.rows) f.entries in
        let c = ap (pins n) left in omega arith in
        let none = no-entries f.entries (λ n some. no-must n (f.only n some).0 (more n)) in
        subst (λ m. Alike m w') (fallen-is f.gone f.entries same none) f.leaves

    -- the given handles are released alone
    pub falls-alone : {w' : Core} → w.last.handle ≤ greatest → Alike (alone w given) w' → Falls before w given (Ok tt) w'
    falls-alone {w'} few a =
        let le : (n : ℕ) → pins n (left_rows given w.rows) ≤ pins n w'.rows = λ n. omega (arith, ap (pins n) a.rows) in
        record {
          gone = given;
          entries = [];
          set = record { holds = within-self w.rows (is_keyed w) [] given; closed = closed; least = λ t holds more. holds };
          new = tt;
          only = λ n some. absurd (omega arith);
          each = λ n must. absurd (no-must n must (le n));
          tells = record { all = λ n must. absurd (no-must n must (le n)); not_all = tt };
          within = omega arith;
          leaves = subst (λ m. Alike m w') (sym (fallen-is given [] (λ h among. refl) refl)) a;
        }

-- ---- what is closed: the given handles are of a node whose value, if any, refers to nothing

module _ {N E : Type 0} {v : Values N} {q : PagerState N E} (whole : IsPagerWhole v q) where
  owns-none : (n : ℕ) → ((y : N) → q.values n ≡ Some y → v.references y ≡ []) → times (is_owned_by (owner_value n)) q.core.rows ≡ 0
  owns-none n bare = at (q.values n) refl
    where
      at : (o : Option N) → q.values n ≡ o → times (is_owned_by (owner_value n)) q.core.rows ≡ 0
      at None e = whole.owns_nothing n e
      at (Some y) e =
          let has : Has v q.core n y = subst (At v q.core n) e (sits whole n) in
          sum-zero (λ h. one (is_owned_by (owner_value n) h)) q.core.rows (λ h among.
          ap one (false_from_ne_true (is_owned_by (owner_value n) h) (λ own.
          let (r, (i, at_place), number) = has.owned h among (same-owner (owner_value n) h.owner own) in
          let none = bare y e in
          absurd (cc (ap (λ rs. slice_get rs i) none, at_place)))))

  module _ (node : ℕ) (bare : (y : N) → q.values node ≡ Some y → v.references y ≡ []) (given : ℕ → Bool)
      (here : (h : HandleRow) → Among q.core.rows h → given h.number.0 ≡ true → h.node.0 ≡ node)
      (keyed : ℕ → Bool) (alike : (n : ℕ) → (n == node) ≡ false → keyed n ≡ is_keyed q.core n) where
    pub closed-beside : IsClosed q.core.rows keyed [] given
    closed-beside n lost =
        let some : times (is_owned_by (owner_value n)) q.core.rows ≡ 0 = owns-none n (bare-at (n == node) refl) in
        let le = sum-le (λ h. one (is_owned_by (owner_value n) h && is_outside given h)) (λ h. one (is_owned_by (owner_value n) h)) q.core.rows
        (λ h among. grind basics) in
        omega arith
      where
        -- a handle of another node isn't given
        outside : (n == node) ≡ false → (h : HandleRow) → Among q.core.rows h → (h.node.0 == n) ≡ true → is_outside given h ≡ true
        outside other h among at = let g = here h among in let s = same-number h.node.0 n at in grind basics

        bare-at : (b : Bool) → (n == node) ≡ b → (y : N) → q.values n ≡ Some y → v.references y ≡ []
        bare-at true is y e = bare y (subst (λ m. q.values m ≡ Some y) (same-number n node is) e)
        bare-at false other y e =
            let pinned : times (λ h. is_pin n h && is_outside given h) q.core.rows ≡ pins n q.core.rows =
            sum-alike (λ h. one (is_pin n h && is_outside given h)) (λ h. one (is_pin n h)) q.core.rows (λ h among.
            let o = outside other h among in grind basics) in
            let handles : times (λ h. is_at n h && is_outside given h) q.core.rows ≡ held n q.core.rows =
            sum-alike (λ h. one (is_at n h && is_outside given h)) (λ h. one (is_at n h)) q.core.rows (λ h among.
            let o = outside other h among in grind basics) in
            let valued = whole.valued n in
            let live = whole.whole.handles.live n in
            let k = alike n other in
            absurd (grind basics)

  -- where the given handles are of a cell that has a key
  pub unpins-beside : (w : Core) (given : ℕ → Bool) → w.rows ≡ q.core.rows
      → ((h : HandleRow) → Among w.rows h → given h.number.0 ≡ true → is_keyed w h.node.0 ≡ true) → UnpinsNone w w given
  unpins-beside w given same keyed n other none =
      let left = times-left (is_pin n) given w.rows in
      let all = sum-alike (λ h. one (is_pin n h && is_outside given h)) (λ h. one (is_pin n h)) w.rows (λ h among.
      let k = keyed h among in
      let s = same-number h.node.0 n in
      grind basics) in
      omega arith
