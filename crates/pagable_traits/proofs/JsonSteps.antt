-- One step after another: what each of two functions that write or read owes, both owe.
use Rattle.pagable_codec.specs.{
  declared.{deserializer.PagableDeserializer.Ghosts as Deserializers, env.Env.Ghosts as Environments, serializer.PagableSerializer.Ghosts as Serializers},
}
use Rattle.pagable_traits.proofs.{
  Items.{Shows, Wraps, each-written, ends, goes_on, is_done, refused_counted, starts, with_front, writes-counted},
  Maps.viewed,
  Parts.{refuses_whole, writes_whole},
  Words.{Answer, ArcRef, Context, Err, Error, FormAt, Gets, GivesSome, IsErrAnd, IsOutOfMemory, List, Meaning, Means, MovesOn, Nesting, NoForm, Ok, Option},
  Words.{Out, Piece, Reads, Rest, Result, Shape, SomeMeaning, Wrote, added, arith, bytes, context_in, deepest, grows_refl, grows_trans, items, length},
  Words.{length_form, memory_or, moves_trans, nested_in, nesting, read, refl, ℕ, [], ◌++◌, ◌+◌, ◌-◌, ◌<◌, ◌∙◌, ◌∷◌, ◌≡◌, ◌≤◌, ◌⊎◌},
}
use Rattle.pagable_traits.specs.{Clauses.value, Walks.counted_forms}

-- one level further down, where a level is left
abbrev pub deeper : Nesting → Nesting
deeper n = nesting (n.levels + 1) n.parts

abbrev pub below : Piece → Piece
below p = record { wrote = λ n old new. (n.levels < deepest) × p.wrote (deeper n) old new; lacks = λ n e. (n.levels < deepest) × p.lacks (deeper n) e }

module _ {S E N H K V : Type 0} {env : Environments E N H K V} {s : Serializers S E N H K V} where
  -- the second after the first
  pub wrote-then : {X Y : Type 0} {P Q W : Piece} {first second causes : Error → Type 0} {a b c : S} {x : X} {r : Result Y Error}
      → Wrote env s P first a b (Ok x) → Wrote env s Q second b c r
      → ((n : Nesting) (old mid new : Out) → P.wrote n old mid → Q.wrote n mid new → W.wrote n old new)
      → ((n : Nesting) (e : Error) → Q.lacks n e → second e → W.lacks n e) → ((e : Error) → second e → causes e) → Wrote env s W causes a c r
  wrote-then p q joins lacks only = grind (arith, grows_trans)

  -- where nothing was refused
  pub wrote-nothing : {P : Piece} {causes : Error → Type 0} {a : S} → P.wrote (nested_in env s a) (s.out a) (s.out a)
      → Wrote env s P causes a a (let r : Result (Unit {0}) Error = Ok tt in r)
  wrote-nothing h = record { ok = h; refused = tt; only = tt; grows = grows_refl _; same_env = refl; same_levels = refl }

  pub wrote-more : {X Y Z : Type 0} {P Q W : Piece} {first second causes : Error → Type 0} {a b c : S} {x : X} {y : Y} {z : Z} → Wrote env s P first a b (Ok x)
      → Wrote env s Q second b c (Ok y) → ((n : Nesting) (old mid new : Out) → P.wrote n old mid → Q.wrote n mid new → W.wrote n old new)
      → Wrote env s W causes a c (Ok z)
  wrote-more p q joins = grind (arith, grows_trans)

  pub wrote-is : {X Z : Type 0} {P W : Piece} {first causes : Error → Type 0} {a b : S} {x : X} {z : Z} → Wrote env s P first a b (Ok x)
      → ((n : Nesting) (old new : Out) → P.wrote n old new → W.wrote n old new) → Wrote env s W causes a b (Ok z)
  wrote-is p same = grind arith

  -- another piece that is written, and refused, where this one is
  pub wrote-as : {Y : Type 0} {P Q : Piece} {first causes : Error → Type 0} {a b : S} {r : Result Y Error} → Wrote env s P first a b r
      → ((n : Nesting) (old new : Out) → P.wrote n old new → Q.wrote n old new)
      → ((n : Nesting) (e : Error) → P.lacks n e → first e → Q.lacks n e) → ((e : Error) → first e → causes e) → Wrote env s Q causes a b r
  wrote-as p same lacks only = grind arith

  -- a whole whose items a walk yields, after their count
  pub wrote-counted : {W T X Y : Type 0} {next : W → Option T → W → Type 0} {M : Means T} {walk : W} {N : Means X}
      {ys : List X}
      {Whole : Meaning ArcRef → Type 0} {whole item : Shape} {causes : Error → Type 0} {a b : S} {r : Result Y Error} {count : ℕ}
      → ((y : X) → SomeMeaning (N y)) → count ≡ length ys → Wrote env s (counted_forms next M walk count item) causes a b r → Shows next M walk N ys
      → ((n : Nesting) → Wraps N ys Whole n whole item) → Wrote env s (value Whole whole) causes a b r
  wrote-counted {item = item} {count = count} has all told shows wraps =
      wrote-as told (λ n old new w. writes-counted (wraps n) old (added old (length_form count) []) new count all refl w.within
      (each-written shows n item _ new w.each))
      (λ n e h k. let f : Result (Unit {0}) Error = Err e in refused_counted f count shows (wraps n) has all h) (λ e h. h)

  -- the second was refused
  pub wrote-then-err : {X Y Z : Type 0} {P Q W : Piece} {first second causes : Error → Type 0} {a b c : S} {x : X} {e : Error} {r : Result Y Error}
      → IsErrAnd r (λ f. f ≡ e) → Wrote env s P first a b (Ok x) → Wrote env s Q second b c (let p : Result Z Error = Err e in p)
      → ((n : Nesting) (old mid : Out) → P.wrote n old mid → Q.lacks n e → second e → W.lacks n e) → (second e → causes e) → Wrote env s W causes a c r
  wrote-then-err is p q lacks only = grind (arith, grows_trans)

  -- a refusal that is handed on
  pub wrote-err : {X Y : Type 0} {P W : Piece} {first causes : Error → Type 0} {a b : S} {e : Error} {r : Result Y Error} → IsErrAnd r (λ f. f ≡ e)
      → Wrote env s P first a b (let p : Result X Error = Err e in p) → ((n : Nesting) → P.lacks n e → first e → W.lacks n e)
      → (first e → causes e) → Wrote env s W causes a b r
  wrote-err is p lacks only = grind arith

  -- bytes, and then a value of which the whole is made
  pub whole-wrote : {X Y : Type 0} {p q causes : Error → Type 0} {a b c : S} {u : X} {r : Result Y Error} (whole : Meaning ArcRef → Meaning ArcRef)
      (front : List ℕ) (part all_of : Shape)
      (M N : Meaning ArcRef → Type 0) → ((m : Meaning ArcRef) → M m → N (whole m))
      → ((n : Nesting) (m : Meaning ArcRef) (b : List ℕ) (k : List ArcRef) → FormAt n part m b k → FormAt n all_of (whole m) (front ++ b) k)
      → ((n : Nesting) (m : Meaning ArcRef) → NoForm n part m → NoForm n all_of (whole m))
      → Wrote env s (bytes front) p a b (Ok u) → Wrote env s (value M part) q b c r → ((e : Error) → q e → causes e) → Wrote env s (value N all_of) causes a c r
  whole-wrote whole front part all_of M N is up lack f v only =
      wrote-then f v (λ n old mid new e w. writes_whole n n whole part all_of M N is front old mid new (up n) e w)
      (λ n e l h. refuses_whole n n whole part all_of M N is e (lack n) l) only

  -- a level was entered, the piece was written, and the level was left
  pub wrote-below : {X : Type 0} {P : Piece} {causes : Error → Type 0} {a b c d : S} {r : Result X Error} → (s.levels b ≡ s.levels a + 1)
      × (s.levels a < deepest) → s.out b ≡ s.out a → s.environment b ≡ s.environment a → Wrote env s P causes b c r
      → s.levels d ≡ s.levels c - 1 → s.out d ≡ s.out c → s.environment d ≡ s.environment c → Wrote env s (below P) causes a d r
  wrote-below {X} {P} {causes} {a} {b} {c} {d} {r} down out_in env_in p up out_out env_out = grind arith

  -- no level was left
  pub wrote-deep : {X Y : Type 0} {P W : Piece} {first causes : Error → Type 0} {a b c : S} {x : X} {e : Error} {r : Result Y Error} → IsErrAnd r (λ f. f ≡ e)
      → Wrote env s P first a b (Ok x) → (e ≡ Error.TooDeep) × (deepest ≤ s.levels b) × (s.levels c ≡ s.levels b) → s.out c ≡ s.out b → s.environment c
      ≡ s.environment b
      → ((n : Nesting) → deepest ≤ n.levels → W.lacks n e) → (e ≡ Error.TooDeep → causes e) → Wrote env s W causes a c r
  wrote-deep is p deep out_in env_in lacks only = grind arith

-- what is seen as it is
pub seen-same : {X : Type 0} (r : Result (X × Rest Answer) Error) → r ≡ viewed (λ x. x) r
seen-same (Ok x) = refl
seen-same (Err e) = refl

-- what a reader of a part or of the whole owes
abbrev pub Tells : {D E R N H K V : Type 0} → Deserializers D E R N H K V → Type 0 → D → D → Type 0
Tells d gives old new = record {
  gives : gives;
  moves : MovesOn (d.input_state old) (d.input_state new);
  same_env : d.environment new ≡ d.environment old;
  same_levels : d.levels new ≡ d.levels old;
}

-- of this many, those before the index were read, and they mean this
pub record SoFar {D E R N H K V : Type 0} (env : Environments E N H K V) (d : Deserializers D E R N H K V) (P : List (Meaning ArcRef) → Type 0)
    (get : Context Answer ArcRef → Gets Answer (Meaning ArcRef)) (count index : ℕ) (old new : D) : Type 0 where
  pub gives : (ms : List (Meaning ArcRef)) × P ms × (with_front ms (items (get (context_in env d old)) (count - index) (d.rest new))
      ≡ items (get (context_in env d old)) count (d.rest old))
  pub moves : MovesOn (d.input_state old) (d.input_state new)
  pub same_env : d.environment new ≡ d.environment old
  pub same_levels : d.levels new ≡ d.levels old

module _ {D E R N H K V : Type 0} {env : Environments E N H K V} {d : Deserializers D E R N H K V} where
  -- a part was refused
  pub read-err : {Y Z W own : Type 0} {causes : Error → Type 0} {a b : D} {part : Result (Y × Rest Answer) Error} {e : Error}
      {r : Result Z Error} {L : Z → W → Type 0} {whole : Context Answer ArcRef → Gets Answer W} → IsErrAnd r (λ f. f ≡ e)
      → Tells d ((part ≡ Err e) ⊎ own) a b → (own → causes e) → (part ≡ Err e → whole (context_in env d a) (d.rest a) ≡ Err e)
      → Reads env d causes L whole a b r
  read-err {Y} {Z} {W} {own} {causes} {a} {b} {part} {e} {r} {L} {whole} is told may same = grind arith

  -- after a part of the whole, the rest of it is read as this part, seen by view
  pub then-ok : {X Z P : Type 0} {own causes : Error → Type 0} {M : Means X} {N : Means Z}
      {get whole : Context Answer ArcRef → Gets Answer (Meaning ArcRef)} {a b c : D} {x : X} {z : Z} (view : Meaning ArcRef → Meaning ArcRef)
      → Tells d P a b → Reads env d own M get b c (Ok x)
      → whole (context_in env d a) (d.rest a) ≡ viewed view (get (context_in env d a) (d.rest b)) → ((m : Meaning ArcRef) → M x m → N z (view m))
      → Reads env d causes N whole a c (let r : Result Z Error = Ok z in r)
  then-ok view told q same is =
      let g = rw (told.same_levels, told.same_env) at q.gives in
      record {
        gives = record { m = view g.m; is = is g.m g.is; gave = same ∙ rw g.gave refl };
        moves = moves_trans _ _ _ told.moves q.moves;
        same_env = q.same_env ∙ told.same_env;
        same_levels = q.same_levels ∙ told.same_levels;
      }

  pub then-err : {X Z P : Type 0} {own causes : Error → Type 0} {M : Means X} {N : Means Z}
      {get whole : Context Answer ArcRef → Gets Answer (Meaning ArcRef)} {a b c : D} {e : Error} {r : Result Z Error} (view : Meaning ArcRef → Meaning ArcRef)
      → IsErrAnd r (λ f. f ≡ e) → Tells d P a b → Reads env d own M get b c (let p : Result X Error = Err e in p)
      → whole (context_in env d a) (d.rest a) ≡ viewed view (get (context_in env d a) (d.rest b)) → (own e → causes e) → Reads env d causes N whole a c r
  then-err view is told q same may = grind (arith, moves_trans)

  -- the rest of the whole is this part
  pub then-is : {X Y P : Type 0} {own : Error → Type 0} {M : X → Y → Type 0}
      {get whole : Context Answer ArcRef → Gets Answer Y} {a b c : D} {r : Result X Error}
      → Tells d P a b → Reads env d own M get b c r
      → whole (context_in env d a) (d.rest a) ≡ get (context_in env d a) (d.rest b) → Reads env d own M whole a c r
  then-is told q same =
      record {
        gives = rw same (rw (told.same_levels, told.same_env) at q.gives);
        moves = moves_trans _ _ _ told.moves q.moves;
        same_env = q.same_env ∙ told.same_env;
        same_levels = q.same_levels ∙ told.same_levels;
      }

  -- OutOfMemory, wherever the deserializer stands
  pub read-no-memory : {Z W : Type 0} {a b : D} (r : Result Z Error) {L : Z → W → Type 0} {whole : Context Answer ArcRef → Gets Answer W}
      → IsErrAnd r IsOutOfMemory
      → MovesOn (d.input_state a) (d.input_state b) → d.environment b ≡ d.environment a → d.levels b ≡ d.levels a → Reads env d IsOutOfMemory L whole a b r
  read-no-memory r is moves same_env same_levels = grind arith

  -- the same beside the causes of the items
  pub read-no-room : {Z W : Type 0} {own : Error → Type 0} {a b : D} {e : Error} (r : Result Z Error) {L : Z → W → Type 0}
      {whole : Context Answer ArcRef → Gets Answer W} → IsErrAnd r (λ f. f ≡ e) → IsOutOfMemory e
      → MovesOn (d.input_state a) (d.input_state b) → d.environment b
      ≡ d.environment a → d.levels b ≡ d.levels a
      → Reads env d (memory_or own) L whole a b r
  read-no-room r is lack moves same_env same_levels = grind arith

  -- what is given is given as another whole
  pub reads-as : {X Y Z : Type 0} {own : Error → Type 0} {M : X → Y → Type 0} {N : X → Z → Type 0} {part : Context Answer ArcRef → Gets Answer Y}
      {whole : Context Answer ArcRef → Gets Answer Z}
      {a b : D} {r : Result X Error} → Reads env d own M part a b r
      → (GivesSome own M (d.rest b) r (part (context_in env d a) (d.rest a)) → GivesSome own N (d.rest b) r (whole (context_in env d a) (d.rest a)))
      → Reads env d own N whole a b r
  reads-as told f = record { gives = f told.gives; moves = told.moves; same_env = told.same_env; same_levels = told.same_levels }

  -- no level was left
  pub read-deep : {Z W P : Type 0} {causes : Error → Type 0} {a c : D} (b : D) {e : Error} {r : Result Z Error} {L : Z → W → Type 0}
      {whole : Context Answer ArcRef → Gets Answer W} → IsErrAnd r (λ f. f ≡ e) → Tells d P a b
      → (e ≡ Error.TooDeep) × (deepest ≤ d.levels b) × (d.levels c ≡ d.levels b) → d.input_state c ≡ d.input_state b → d.environment c ≡ d.environment b
      → (deepest ≤ d.levels a → whole (context_in env d a) (d.rest a) ≡ Err Error.TooDeep) → Reads env d causes L whole a c r
  read-deep b is told deep standing_in env_in same = grind arith

  pub none-so-far : {P : List (Meaning ArcRef) → Type 0} {get : Context Answer ArcRef → Gets Answer (Meaning ArcRef)} {count : ℕ} {a b : D} → P [] → d.rest b
      ≡ d.rest a → MovesOn (d.input_state a) (d.input_state b) → d.environment b ≡ d.environment a → d.levels b ≡ d.levels a → SoFar env d P get count 0 a b
  none-so-far {get = get} {count} {a} h rest moves same_env same_levels = record {
    gives = ([], h, rw rest (starts (get (context_in env d a)) count (d.rest a)));
    moves = moves;
    same_env = same_env;
    same_levels = same_levels;
  }

  module _ {P : List (Meaning ArcRef) → Type 0} {get : Context Answer ArcRef → Gets Answer (Meaning ArcRef)} {count i : ℕ} {a b : D} where
    pub one-more : {X : Type 0} {own : Error → Type 0} {M : Means X} {Q : List (Meaning ArcRef) → Type 0} {c : D} {x : X} → i < count
        → SoFar env d P get count i a b → Reads env d own M get b c (Ok x)
        → ((ms : List (Meaning ArcRef)) (m : Meaning ArcRef) → P ms → M x m → Q (ms ++ m ∷ []))
        → SoFar env d Q get count (i + 1) a c
    one-more lt so q also =
        let g = rw (so.same_levels, so.same_env) at q.gives in
        record {
          gives = (
            so.gives.0 ++ g.m ∷ [],
            also so.gives.0 g.m so.gives.1 g.is,
            goes_on (get (context_in env d a)) so.gives.0 count i (d.rest b) g.m _ _ lt g.gave so.gives.2,
          );
          moves = moves_trans _ _ _ so.moves q.moves;
          same_env = q.same_env ∙ so.same_env;
          same_levels = q.same_levels ∙ so.same_levels;
        }

    pub refused-so-far : {X Z W : Type 0} {own causes : Error → Type 0} {M : Means X} {c : D} {e : Error}
        {r : Result Z Error} {L : Z → W → Type 0} {whole : Context Answer ArcRef → Gets Answer W} → IsErrAnd r (λ f. f ≡ e) → i < count
        → SoFar env d P get count i a b → Reads env d own M get b c (let p : Result X Error = Err e in p)
        → (memory_or own e → causes e) → (items (get (context_in env d a)) count (d.rest a) ≡ Err e → whole (context_in env d a) (d.rest a) ≡ Err e)
        → Reads env d causes L whole a c r
    refused-so-far {own = own} {e = e} is lt so q may same =
        read-err is (record {
          gives = ends own (get (context_in env d a)) e so.gives.0 count i (d.rest b) _ lt (rw (so.same_levels, so.same_env) at q.gives) so.gives.2;
          moves = moves_trans _ _ _ so.moves q.moves;
          same_env = q.same_env ∙ so.same_env;
          same_levels = q.same_levels ∙ so.same_levels;
        }) may same

    pub all-read : {Z W : Type 0} {causes : Error → Type 0} {z : Z} (view : List (Meaning ArcRef) → W) {L : Z → W → Type 0}
        {whole : Context Answer ArcRef → Gets Answer W} → count ≤ i → SoFar env d P get count i a b → ((ms : List (Meaning ArcRef)) → P ms → L z (view ms))
        → whole (context_in env d a) (d.rest a) ≡ viewed view (items (get (context_in env d a)) count (d.rest a))
        → Reads env d causes L whole a b (let r : Result Z Error = Ok z in r)
    all-read view le so means same = grind (arith, is_done)

-- causes of items and OutOfMemory, where OutOfMemory is the items' own cause
pub either-memory : (e : Error) → memory_or IsOutOfMemory e → IsOutOfMemory e
either-memory e h = grind arith

pub ruleset no_memory = (read-no-memory, moves_trans)

pub ruleset no_room = (read-no-room, moves_trans)
