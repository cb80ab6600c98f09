-- Two worlds that agree in all that the specification tells of them.
use Rattle.pagable_pager_spec.specs.Calls.{IsNext}
use Rattle.pagable_tables.proofs.{
  Words.{Adopts, Alike, ArcRef, AreHandlesFull, Bool, Core, Err, Error, FallsAnyhow, HandleNumber, HandleRow, HasRoom, Kind, LazyCall, List, LoadNumber},
  Words.{MakesHandle, Mode, NodeNumber, None, Ok, OnlyRoom, OpenLoad, Option, OptionalDataKey, Owner, OwnsLoad, RecallCall, Refused, Result, SameAt, SameCache},
  Words.{Some, add-one, adopt_check_fault, adopt_fault, adopted, ap, arith, at_drop_more, basics, closed_fault, drop, drop-cons, drop_all, earlier, false},
  Words.{find_row, first_key, get_or, greatest, handle_fault, if_there, if◌then◌else◌, inl, inr, insert_fault, is_in, is_loose_kind, is_named_by, is_owner},
  Words.{is_some, length, load_fault, map, mode_of, moved, named_at, named_fault, nat_lt, next_node, node_fault, not, numbers_of, only_handle, option_map},
  Words.{or_else, rank, reference_fault, references_fault, refl, refused_if, seen, spent, subst, suc, sym, take, take-suc, take_all, true, type_of, usable},
  Words.{where_so, with_cached, with_handle, with_node, zero, ℕ, [], ◌&&◌, ◌++◌, ◌+◌, ◌<◌, ◌==◌, ◌||◌, ◌∙◌, ◌∷◌, ◌≡◌, ◌≢◌, ◌≤◌, ◌⊎◌},
}
use Rattle.std.proofs.lemmas.List.{map-id}
use Rattle.std.specs.Result.{IsErrAnd}

pub same-cache : (w w' : Core) → w'.rows ≡ w.rows → SameAt w.cells w'.cells → ((kind key : ℕ) → w'.cache kind key ≡ w.cache kind key) → SameCache w w'
same-cache w w' e same is = grind basics

pub still : (w : Core) → Alike w w
still w = grind (basics, same-cache)

-- one after the other
pub alike-on : {u v w : Core} → Alike u v → Alike v w → Alike u w
alike-on a b = record {
  rows = b.rows ∙ a.rows;
  cells = λ n. b.cells n ∙ a.cells n;
  list = b.list ∙ a.list;
  cache = record {
    gives = λ kind key. b.cache.gives kind key ∙ a.cache.gives kind key;
    only = λ kind key n is. a.cache.only kind key n (b.cache.only kind key n is);
  };
  stored = λ key. b.stored key ∙ a.stored key;
  closed = b.closed ∙ a.closed;
  failures = b.failures ∙ a.failures;
  loads = λ l. b.loads l ∙ a.loads l;
  workers = λ v. b.workers v ∙ a.workers v;
  last = b.last ∙ a.last;
  places = grind arith;
}

-- the cache forgets entries whose cells are gone
pub forgets-gone : (w : Core) (cache : ℕ → ℕ → Option ℕ) → ((kind key : ℕ) → cache kind key
    ≡ if_there (λ n. if is_some (w.cells n) then Some n else None) None (w.cache kind key)) → Alike w (record w { cache = cache })
forgets-gone w cache is = record {
  rows = refl;
  cells = λ n. refl;
  list = refl;
  cache = record {
    gives = λ kind key. gives kind key (w.cache kind key) (is kind key) refl;
    only = λ kind key n here. only kind key n (w.cache kind key) refl (sym (is kind key) ∙ here);
  };
  stored = λ key. refl;
  closed = refl;
  failures = refl;
  loads = λ l. refl;
  workers = λ v. refl;
  last = refl;
  places = grind arith;
} where
  gives : (kind key : ℕ) (known : Option ℕ) → cache kind key ≡ if_there (λ n. if is_some (w.cells n) then Some n else None) None known → w.cache kind key
      ≡ known
      → usable (record w { cache = cache }) kind key ≡ usable w kind key
  gives kind key known e f = grind basics

  only : (kind key n : ℕ) (known : Option ℕ) → w.cache kind key ≡ known → if_there (λ m. if is_some (w.cells m) then Some m else None) None known ≡ Some n
      → w.cache kind key ≡ Some n
  only kind key n known f e = grind basics

-- rows, cells, list and room may be told anew
pub alike : (w w' : Core) → w'.rows ≡ w.rows → SameAt w.cells w'.cells → w'.list ≡ w.list → HasRoom w.places w'.places
    → w' ≡ record w { rows = w'.rows; cells = w'.cells; list = w'.list; places = w'.places } → Alike w w'
alike w w' rows cells list places same = grind (basics, same-cache)

-- what is answered where a call within was refused
pub failed : {T E : Type 0} {e : E} (r : Result T E) → IsErrAnd r (λ y. y ≡ e) → r ≡ Err e
failed (Err e) is = ap Err is
failed (Ok x) is = absurd is

pub owner-same : (a b : Owner) → is_owner a b ≡ true → b ≡ a
owner-same a b h = grind basics

-- why references are refused depends on rows and cells alone
pub fault-by : (w u : Core) (me : Owner) (seen : List ℕ) (rs : List ArcRef) → references_fault (record u { rows = w.rows; cells = w.cells }) me seen rs
    ≡ references_fault w me seen rs
unfolding references_fault
fault-by w u me seen [] = refl
fault-by w u me seen (r ∷ rs) = ap (or_else (reference_fault w me seen r)) (fault-by w u me (r.handle.0 ∷ seen) rs)

-- ---- why calls are refused, and which of several causes is told. Loads that are opened and closed again, and what is offered to the cache

pub earlier-first : (a x : Option Error) (e : Error) → a ≡ Some e → ((f : Error) → x ≡ Some f → rank e ≤ rank f) → earlier a x ≡ Some e
earlier-first a x e is late = grind basics

-- of two causes the one of the lower number
abbrev least : (Error → ℕ) → Option Error → Option Error → Option Error
least r None b = b
least r (Some e) None = Some e
least r (Some e) (Some f) = if nat_lt (r f) (r e) then Some f else Some e

least-each : (r : Error → ℕ) (a b c : Option Error) → least r (least r a b) c ≡ least r a (least r b c)
least-each r None b c = refl
least-each r (Some e) None c = refl
least-each r (Some e) (Some f) None = grind basics
least-each r (Some e) (Some f) (Some g) = grind basics

is-least : (a b : Option Error) → earlier a b ≡ least rank a b
is-least None b = refl
is-least (Some e) None = refl
is-least (Some e) (Some f) = refl

pub earlier-each : (a b c : Option Error) → earlier (earlier a b) c ≡ earlier a (earlier b c)
earlier-each a b c = is-least _ c ∙ ap (λ x. least rank x c) (is-least a b) ∙ least-each rank a b c
    ∙ sym (is-least a _ ∙ ap (least rank a) (is-least b c))

pub earlier-none : (a : Option Error) → earlier a None ≡ a
earlier-none a = grind basics

pub both-none : (a b : Option Error) → earlier a b ≡ None → (a ≡ None) × (b ≡ None)
both-none a b e = grind basics

pub late : (a b : Option Error) (m : ℕ) → ((f : Error) → a ≡ Some f → m ≤ rank f) → ((f : Error) → b ≡ Some f → m ≤ rank f) → (f : Error) → earlier a b ≡ Some f
    → m ≤ rank f
late None b m one two f is = two f is
late (Some e) None m one two f is = one f is
late (Some e) (Some g) m one two f is = grind basics

-- a cause of numbers, where it is asked
pub spent-late : (l : ℕ) (b : Bool) (f : Error) → where_so b (spent l) ≡ Some f → 4 ≤ rank f
spent-late l b f is = grind basics

-- why references are refused comes before numbers
reference-low : (w : Core) (o : Owner) (seen : List ℕ) (r : ArcRef) (e : Error) → reference_fault w o seen r ≡ Some e → rank e ≤ 3
reference-low w o seen r e is = search arith

pub references-low : (w : Core) (o : Owner) (seen : List ℕ) (refs : List ArcRef) (e : Error) → references_fault w o seen refs ≡ Some e → rank e ≤ 3
unfolding references_fault
references-low w o seen [] e is = absurd (cc)
references-low w o seen (r ∷ rs) e is = grind (basics, reference-low, references-low w o (r.handle.0 ∷ seen) rs)

abbrev fault-of : Owner → (Mode → Bool) → Option HandleRow → Option Error
fault-of me fits o = if_there (λ (row : HandleRow). if not (is_owner me row.owner) then Some Error.NotYours else refused_if
    (not (fits row.mode)) Error.WrongMode) (Some Error.NoSuchHandle) o

fault-rank : (o : Option HandleRow) (me : Owner) (fits : Mode → Bool) (e : Error) → fault-of me fits o ≡ Some e → rank e ≤ 2
fault-rank o me fits e is = grind basics

-- a cause that tells of the handle comes before a later one
pub handle-first : (w : Core) (me : Owner) (h : HandleNumber) (fits : Mode → Bool) (e : Error) (x : Option Error) → handle_fault w me h fits ≡ Some e
    → ((f : Error) → x ≡ Some f → 3 ≤ rank f) → earlier (handle_fault w me h fits) x ≡ Some e
handle-first w me h fits e x is late = grind (basics, earlier-first, fault-rank)

pub owner-self : (o : Owner) → is_owner o o ≡ true
owner-self o = grind basics

pub load-low : (w : Core) (me : Owner) (l : LoadNumber) (e : Error) → load_fault w me l ≡ Some e → rank e ≤ 1
load-low w me l e is = grind basics

pub no-load-fault : (w : Core) (me : Owner) (l : LoadNumber) (load : OpenLoad) → OwnsLoad w me l load → load_fault w me l ≡ None
no-load-fault w me l load own = grind (basics, owner-self)

-- memory may be told to be wanting where it was asked for only of an own load
pub told-later : {cause : Option Error} {full : Type 0} {w w' : Core} {e : Error} (me : Owner) (l : LoadNumber) → Refused cause (load_fault w me l) full w e w'
    → Refused cause (closed_fault w l) full w e w'
told-later {cause} {full} {w} {w'} {e} me l r = grind basics

module _ {w : Core} {me : Owner} {kind : Kind} {key : ℕ} {node : NodeNumber} {mode : Mode} {w' : Core}
    (is : usable w kind.0 key ≡ Some node.0) (fits : mode ≡ mode_of kind.0) where
  pub recalls : (k : HandleNumber) → MakesHandle w node mode me (Ok k) w' → RecallCall w me kind key (Ok (Some k)) w'
  recalls k m = record { answers = (node.0, is, m.made.0, rw fits at m.made.1); refused = tt }

  pub not-recalled : (e : Error) → MakesHandle w node mode me (Err e) w' → RecallCall w me kind key (Err e) w'
  not-recalled e m = grind (basics, is)

-- ---- a world with more room, and a node that is born in it

pub room-alike : {w w' : Core} → OnlyRoom w w' → Alike w w'
room-alike {w} {w'} o = grind basics

-- room that was made before is nothing to what comes
pub next-past : {w w' : Core} {k : HandleNumber} → OnlyRoom w w' → IsNext k w' → IsNext k w
next-past {w} {w'} {k} o next = grind basics

pub born-past : {w w1 w' : Core} (node_type : ℕ) (key : OptionalDataKey) (rs : List ArcRef) (mode : Mode) (me : Owner) → OnlyRoom w w1
    → Alike (with_handle (with_node w1 node_type key rs) (next_node w1) mode me) w'
    → Alike (with_handle (with_node w node_type key rs) (next_node w) mode me) w'
born-past {w} {w1} {w'} node_type key rs mode me o a = grind basics

pub room-fault : {w w' : Core} (me : Owner) (rs : List ArcRef) → OnlyRoom w w' → references_fault w' me [] rs ≡ references_fault w me [] rs
room-fault {w} {w'} me rs o = ap (λ u. references_fault u me [] rs) o.same ∙ fault-by w (record w { places = w'.places }) me [] rs

-- a new node that the cache knows from now on
pub adopted-past : {w w1 w' : Core} (l : LoadNumber) (kind : Kind) (key : ℕ) (own : OptionalDataKey) (rs : List ArcRef) → OnlyRoom w w1
    → Alike (adopted w1 l kind key own rs) w' → Alike (adopted w l kind key own rs) w'
adopted-past {w} {w1} {w'} l kind key own rs o a = split w.closed (rw o.same at a)
  where
    m : Core
    m = with_handle (with_node w (type_of kind.0) own rs) (next_node w) (mode_of kind.0) (Owner.Load l)

    split : (b : Bool) → Alike (if b then record m { places = w1.places } else with_cached (record m { places = w1.places }) kind key (next_node w)) w'
        → Alike (if b then m else with_cached m kind key (next_node w)) w'
    split true a = grind basics
    split false a = grind basics

-- where nothing was looked at before, memory may be wanting all the more
pub weaker : {cause before : Option Error} {w w' : Core} {e : Error} → Refused cause before (Unit {0}) w e w' → Refused cause None (Unit {0}) w e w'
weaker r = grind basics

-- ---- handles that are named come to another owner, one after the other

pub in-none : (hs : List HandleNumber) (q : ℕ) → is_in (seen hs 0) q ≡ false
unfolding is_in seen
in-none hs q = refl

pub in-more : (hs : List HandleNumber) (n q : ℕ) → is_in (seen hs (n + 1)) q ≡ (named_at hs n == q || is_in (seen hs n) q)
unfolding is_in seen
in-more hs n q = let e : n + 1 ≡ suc n = omega arith in ap (λ m. is_in (seen hs m) q) e

pub in-other : (hs : List HandleNumber) (n q : ℕ) → named_at hs n ≢ q → is_in (seen hs n) q ≡ false → is_in (seen hs (n + 1)) q ≡ false
in-other hs n q other before = let a : (named_at hs n == q) ≡ false = grind basics in in-more hs n q ∙ ap (λ b. b || is_in (seen hs n) q) a ∙ before

pub in-there : (hs : List HandleNumber) (m n q : ℕ) → n < m → named_at hs n ≡ q → is_in (seen hs m) q ≡ true
in-there hs zero n q lt is = absurd (omega arith)
in-there hs (suc m) n q lt is = let a = in-more hs m q in let e : suc m ≡ m + 1 =
    omega arith in ap (λ k. is_in (seen hs k) q) e ∙ a ∙ grind (basics, in-there hs m n q)

abbrev pub one-fault : Core → Owner → List ℕ → HandleNumber → Option Error
one-fault w o before h = if_there (λ (row : HandleRow). refused_if (not (is_owner o row.owner) || is_in before h.0) Error.NotYours) (Some Error.NoSuchHandle)
    (find_row h.0 w.rows)

pub one-named : (w : Core) (o : Owner) (hs : List HandleNumber) (p : ℕ) (x rest : Option Error) → p < length hs → x
    ≡ one-fault w o (seen hs p) (get_or hs p (record { 0 = 0 })) → rest ≡ named_fault w o (seen hs (p + 1)) (drop (p + 1) hs) → earlier x rest
    ≡ named_fault w o (seen hs p) (drop p hs)
unfolding named_fault seen
one-named w o hs p x rest lt is follows = ap (λ x. earlier x rest) is
    ∙ ap (earlier (one-fault w o (seen hs p) (get_or hs p (record { 0 = 0 }))))
    (follows ∙ ap (λ n. named_fault w o (seen hs n) (drop (p + 1) hs)) (let e : p + 1 ≡ suc p = omega arith in e))
    ∙ sym (at_drop_more (named_fault w o (seen hs p)) hs p (record { 0 = 0 }) lt)

pub none-named : (w : Core) (o : Owner) (hs : List HandleNumber) → earlier None (named_fault w o (seen hs 0) (drop 0 hs)) ≡ named_fault w o [] hs
unfolding seen
none-named w o hs = refl

pub all-named : (w : Core) (o : Owner) (hs : List HandleNumber) (p : ℕ) (x : Option Error) → length hs ≤ p → earlier x (named_fault w o (seen hs p) (drop p hs))
    ≡ named_fault w o [] hs → x ≡ named_fault w o [] hs
unfolding named_fault
all-named w o hs p x past is = sym (earlier-none x) ∙ sym (ap (λ rest. earlier x (named_fault w o (seen hs p) rest)) (drop_all p hs past)) ∙ is

pub none-moved : (o : Owner) (rows : List HandleRow) → moved (is_in []) o rows ≡ rows
unfolding is_in
none-moved o rows = map-id rows

pub moved-twice : (s : ℕ → Bool) (h : HandleNumber) (o : Owner) (rows : List HandleRow) → moved (only_handle h) o (moved s o rows)
    ≡ moved (λ q. h.0 == q || s q) o rows
moved-twice s h o [] = refl
moved-twice s h o (x ∷ xs) = grind (basics, moved-twice s h o xs)

in-push : (hs : List HandleNumber) (h : HandleNumber) (q : ℕ) → is_in (numbers_of (hs ++ h ∷ [])) q ≡ (h.0 == q || is_in (numbers_of hs) q)
unfolding is_in
in-push [] h q = refl
in-push (x ∷ xs) h q = grind (basics, in-push xs h q)

pub in-take : (hs : List HandleNumber) (i : ℕ) (d : HandleNumber) (q : ℕ) → i < length hs → is_in (numbers_of (take (i + 1) hs)) q
    ≡ ((get_or hs i d).0 == q || is_in (numbers_of (take i hs)) q)
in-take hs i d q lt = ap (λ l. is_in (numbers_of l) q) (ap (λ n. take n hs) (add-one i) ∙ take-suc hs i d lt) ∙ in-push _ _ q

pub found-map : (f : HandleRow → HandleRow) → ((h : HandleRow) → (f h).number.0 ≡ h.number.0) → (q : ℕ) (rows : List HandleRow) → find_row q (map f rows)
    ≡ option_map f (find_row q rows)
unfolding find_row
found-map f same q [] = refl
found-map f same q (x ∷ xs) = grind (basics, found-map f same q xs, same x)

pub ruleset handing = (basics, in-none, in-more, in-there, in-other, none-named, all-named, none-moved)

-- ---- handles that references name come to another owner

pub moved-none : (h : HandleNumber) (owner : Owner) (rows : List HandleRow) → find_row h.0 rows ≡ None → moved (only_handle h) owner rows ≡ rows
unfolding find_row
moved-none h owner [] is = refl
moved-none h owner (x ∷ xs) is = grind (basics, moved-none h owner xs)

pub named-none : (q : ℕ) → is_named_by [] q ≡ false
unfolding is_named_by
named-none q = refl

pub moved-nobody : (owner : Owner) (rows : List HandleRow) → moved (is_named_by []) owner rows ≡ rows
unfolding is_named_by
moved-nobody owner rows = map-id rows

pub named-push : (rs : List ArcRef) (r : ArcRef) (q : ℕ) → is_named_by (rs ++ r ∷ []) q ≡ (r.handle.0 == q) || is_named_by rs q
unfolding is_named_by
named-push [] r q = refl
named-push (x ∷ xs) r q = grind (basics, named-push xs r q)

pub named-in : (rs : List ArcRef) (i : ℕ) (d : ArcRef) (q : ℕ) → i < length rs → (get_or rs i d).handle.0 ≡ q → is_named_by rs q ≡ true
unfolding is_named_by
named-in [] i d q lt is = absurd (omega arith)
named-in (r ∷ rs) zero d q lt is = grind basics
named-in (r ∷ rs) (suc i) d q lt is = grind (basics, named-in rs i d q (omega arith) is)

pub named-take : (rs : List ArcRef) (i : ℕ) (d : ArcRef) (q : ℕ) → i < length rs → is_named_by (take (i + 1) rs) q ≡ ((get_or rs i d).handle.0 == q)
    || is_named_by (take i rs) q
named-take rs i d q lt = ap (λ l. is_named_by l q) (ap (λ n. take n rs) (add-one i) ∙ take-suc rs i d lt) ∙ named-push _ (get_or rs i d) q

pub named-other : (rs : List ArcRef) (i : ℕ) (d : ArcRef) (q : ℕ) → (get_or rs i d).handle.0 ≢ q → i < length rs → is_named_by (take i rs) q ≡ false
    → is_named_by (take (i + 1) rs) q ≡ false
named-other rs i d q other lt before = let a : ((get_or rs i d).handle.0 == q) ≡ false =
    grind basics in named-take rs i d q lt ∙ ap (λ b. b || is_named_by (take i rs) q) a ∙ before

pub seen-more : (seen : List ℕ) (rs : List ArcRef) (i : ℕ) (d : ArcRef) → i < length rs → ((q : ℕ) → is_in seen q ≡ is_named_by (take i rs) q) → (q : ℕ)
    → is_in ((get_or rs i d).handle.0 ∷ seen) q ≡ is_named_by (take (i + 1) rs) q
unfolding is_in
seen-more seen rs i d lt same q = ap (λ b. ((get_or rs i d).handle.0 == q) || b) (same q) ∙ sym (named-take rs i d q lt)

pub seen-none : (q : ℕ) → is_in [] q ≡ is_named_by [] q
unfolding is_in is_named_by
seen-none q = refl

module _ (w : Core) (me : Owner) (seen : List ℕ) (rs : List ArcRef) (i : ℕ) where
  pub fault-at : (d : ArcRef) (o : Option Error) → i < length rs → reference_fault w me seen (get_or rs i d) ≡ o
      → references_fault w me seen (drop i rs) ≡ or_else o (references_fault w me ((get_or rs i d).handle.0 ∷ seen) (drop (i + 1) rs))
  unfolding references_fault
  fault-at d o lt is = subst (λ f. references_fault w me seen (drop i rs)
      ≡ or_else f (references_fault w me ((get_or rs i d).handle.0 ∷ seen) (drop (i + 1) rs))) is (rw (add-one, drop-cons rs i d) refl)

  pub fault-end : length rs ≤ i → references_fault w me seen (drop i rs) ≡ None
  unfolding references_fault
  fault-end past = ap (references_fault w me seen) (drop_all i rs past)

pub at-work-still : {w w' : Core} {workers : ℕ → Bool} → Alike w w' → SameAt w'.workers workers → Alike w (record w' { workers = workers })
at-work-still {w} {w'} {workers} a still = grind basics

pub ruleset naming = (basics, named-in, named-other, take_all, named-none, moved-none, moved-nobody, seen-none, fault-end)

-- ---- what a load asks and reads: why it can't become a node, and what becomes of it

pub node-late : (w : Core) (kind : Kind) (key : ℕ) (f : Error) → node_fault w kind key ≡ Some f → 4 ≤ rank f
node-late w kind key f is = grind basics

-- what refuses the load itself comes first
pub not-own : {before : Option Error} {wanting : Type 0} (w : Core) (me : Owner) (l : LoadNumber) (rest : Option Error) (e : Error) → load_fault w me l ≡ Some e
    → ((f : Error) → rest ≡ Some f → 3 ≤ rank f) → Refused (earlier (load_fault w me l) rest) before wanting w e w
not-own w me l rest e is late = record {
  why = inl (earlier-first _ _ e is (λ f g. omega (arith, load-low w me l e is, late f g)));
  stays = still w;
}

module _ {w : Core} {me : Owner} {l : LoadNumber} {load : OpenLoad} (kind : Kind) (key : ℕ) (own : OwnsLoad w me l load) where
  pub lazy-not-loose : is_loose_kind kind.0 ≡ false → LazyCall w me l kind key (Err Error.WrongKind) w
  lazy-not-loose tight = grind (basics, earlier, no-load-fault, earlier-first, node-late, still)

  module _ (loose : is_loose_kind kind.0 ≡ true) where
    -- a handle of the node that the cache gives
    pub lazy-known : (node : NodeNumber) (mode : Mode) (r : Result HandleNumber Error) (w' : Core) → usable w kind.0 key ≡ Some node.0 → mode ≡ mode_of kind.0
        → MakesHandle w node mode (Owner.Load l) r w' → LazyCall w me l kind key r w'
    lazy-known node mode r w' is fits m = grind basics

    module _ (none : usable w kind.0 key ≡ None) where
      pub lazy-not-new : {e : Error} {w' : Core} → Refused (insert_fault w) (insert_fault w) (Unit {0}) w e w' → LazyCall w me l kind key (Err e) w'
      lazy-not-new r = grind (basics, no-load-fault)

      pub lazy-new : (k : HandleNumber) {w' : Core} → w.last.node < greatest → IsNext k w → Alike (adopted w l kind key (OptionalDataKey.Some key) []) w'
          → LazyCall w me l kind key (Ok k) w'
      lazy-new k node_left next made = record { makes = (load, own, loose, inr (none, node_left, next, made)); refused = tt }

abbrev Early : Option Error → Type 0
Early a = (e : Error) → a ≡ Some e → rank e ≤ 3

abbrev Late : Option Error → Type 0
Late n = (e : Error) → n ≡ Some e → 4 ≤ rank e

first : (d n : Option Error) → Early d → Late n → earlier d n ≡ or_else d n
first d n early late = grind basics

next : (c d n : Option Error) → Early c → Late n → earlier c (or_else d n) ≡ or_else (earlier c d) n
next c d n early late = grind basics

last-of : (a b c d n : Option Error) → Early a → Early b → Early c → Early d → Late n → earlier a (earlier b (earlier c (earlier d n)))
    ≡ or_else (earlier a (earlier b (earlier c d))) n
last-of a b c d n ea eb ec ed late = grind (basics, earlier, first, next)

module _ (w : Core) (me : Owner) (l : LoadNumber) (kind : Kind) (key node_type : ℕ) (refs : List ArcRef) where
  abbrev early : Option Error
  early = adopt_check_fault w me l kind node_type refs

  cause : adopt_fault w me l kind key node_type refs ≡ or_else early (node_fault w kind key)
  cause = grind (basics, last-of, load-low, references-low, node-late)

  -- one of the causes that come first
  pub not-adopted : (e : Error) → early ≡ Some e → Refused (adopt_fault w me l kind key node_type refs) (load_fault w me l) (Unit {0}) w e w
  not-adopted e is = record { why = inl (cause ∙ ap (λ f. or_else f (node_fault w kind key)) is); stays = still w }

  module _ (good : early ≡ None) where
    parts : (load_fault w me l ≡ None) × (refused_if (is_loose_kind kind.0) Error.WrongMode ≡ None)
        × (refused_if (not (node_type == type_of kind.0)) Error.WrongKind ≡ None) × (references_fault w (Owner.Load l) [] refs ≡ None)
    parts = grind (basics, both-none)

    pub fitting : references_fault w (Owner.Load l) [] refs ≡ None
    fitting = parts.3

    pub eager : is_loose_kind kind.0 ≡ false
    eager = grind (basics, parts.1)

    pub owner-of : (load : OpenLoad) × OwnsLoad w me l load
    owner-of = grind (basics, parts.0)

    pub refused-memory : {w' : Core} → OnlyRoom w w' → Refused (adopt_fault w me l kind key node_type refs) (load_fault w me l)
        (Unit {0}) w Error.OutOfMemory w'
    refused-memory room = record { why = inr (refl, parts.0, tt); stays = room-alike room }

    typed : node_type ≡ type_of kind.0
    typed = grind (basics, parts.2)

    left : adopt_fault w me l kind key node_type refs ≡ node_fault w kind key
    left = cause ∙ ap (λ f. or_else f (node_fault w kind key)) good

    -- the cache gives a node
    pub adopts-known : (node : NodeNumber) (k : HandleNumber) {w' : Core} → usable w kind.0 key ≡ Some node.0 → IsNext k w
        → FallsAnyhow w (with_handle w node (mode_of kind.0) (Owner.Load l)) (is_named_by refs) w'
        → Adopts w me l kind key node_type refs k w'
    adopts-known node k is next falls = record {
      load = owner-of.0;
      owned = owner-of.1;
      eager = eager;
      typed = typed;
      good = fitting;
      next = next;
      makes = inl (node.0, is, falls);
    }

    pub refused-known : (n : ℕ) {e : Error} {w' : Core} → usable w kind.0 key ≡ Some n
        → Refused (spent w.last.handle) (spent w.last.handle) (AreHandlesFull w) w e w'
        → Refused (adopt_fault w me l kind key node_type refs) (load_fault w me l) (Unit {0}) w e w'
    refused-known n is refused = grind (basics, left, parts)

    -- it gives none
    module _ (none : usable w kind.0 key ≡ None) where
      pub adopts-new : (k : HandleNumber) {w' : Core} → w.last.node < greatest → IsNext k w → Alike (adopted w l kind key (first_key kind.0 key) refs) w'
          → Adopts w me l kind key node_type refs k w'
      adopts-new k node_left next made = record {
        load = owner-of.0;
        owned = owner-of.1;
        eager = eager;
        typed = typed;
        good = fitting;
        next = next;
        makes = inr (none, node_left, made);
      }

      pub refused-new : {before : Option Error} {e : Error} {w' : Core} → Refused (insert_fault w) before (Unit {0}) w e w'
          → Refused (adopt_fault w me l kind key node_type refs) (load_fault w me l) (Unit {0}) w e w'
      refused-new refused = grind (basics, left, parts)

-- room is nothing to the causes that come first
pub early-past : {w w' : Core} (me : Owner) (l : LoadNumber) (kind : Kind) (node_type : ℕ) (refs : List ArcRef) → OnlyRoom w w'
    → adopt_check_fault w' me l kind node_type refs ≡ adopt_check_fault w me l kind node_type refs
early-past {w} {w'} me l kind node_type refs o = ap (λ u. adopt_check_fault u me l kind node_type refs) o.same
    ∙ ap (λ x. earlier (load_fault w me l) (earlier (refused_if (is_loose_kind kind.0) Error.WrongMode)
    (earlier (refused_if (not (node_type == type_of kind.0)) Error.WrongKind) x)))
    (fault-by w (record w { places = w'.places }) _ [] _)

-- the cache of the second world learns what that of the first does
module _ (w w' : Core) (kind : Kind) (key : ℕ) (n : NodeNumber) (cache : ℕ → ℕ → Option ℕ) (a : Alike w w') (here : cache kind.0 key ≡ Some n.0)
    (others : (k q : ℕ) → (k ≢ kind.0) ⊎ (q ≢ key) → cache k q ≡ w'.cache k q) where
  abbrev known : ℕ → ℕ → Option ℕ
  known k q = if k == kind.0 && q == key then Some n.0 else w.cache k q

  same : (k q : ℕ) → ((known k q ≡ Some n.0) × (cache k q ≡ Some n.0)) ⊎ ((known k q ≡ w.cache k q) × (cache k q ≡ w'.cache k q))
  same k q = grind basics

  pub learned : Alike (with_cached w kind key n) (record w' { cache = cache })
  learned = grind (basics, same)

-- the cache learns while the storage is open
pub if-open : (closed : Bool) (w w' : Core) (kind : Kind) (key : ℕ) (n : NodeNumber) → (closed ≡ true → Alike w w')
    → (closed ≡ false → Alike (with_cached w kind key n) w') → Alike (if closed then w else with_cached w kind key n) w'
if-open x0 w w' kind key n shut stands = grind basics
