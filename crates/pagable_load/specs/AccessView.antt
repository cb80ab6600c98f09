-- What an access tells: its owner and environment; and, if it tells its pager's state, what each call does to that.
use Rattle.either.specs.declared.Either.{Either}
use Rattle.pagable_codec.specs.{
  declared.{env.Env.Ghosts as Environments, hash.KeyHash.Ghosts as Hashes, nodes.NodeSet.Ghosts as Nodes},
}
use Rattle.pagable_pager_spec.specs.{
  Access.IfBothKnown,
  LoadCalls.{AdoptCall, Given, LazyCall, LoadFetchCall, from_cache, from_store},
  Loads.ReadsRoot,
  Pager.{IsPagerWhole, Moves, PagerState},
  World.{Alike, Core, OpenLoad, Reading, Values, result_map, row_at},
  declared.{calls.FetchTarget.FetchTarget, handle_row.{HandleRow.HandleRow, Owner.Owner}},
}
use Rattle.pagable_value_spec.specs.{
  Blob.{Blob, key_of},
  declared.{error.Error.Error, numbers.{ArcRef.ArcRef, HandleNumber.HandleNumber, Kind.Kind, LoadNumber.LoadNumber}},
  declared.numbers.WorkerNumber.WorkerNumber,
}
use Rattle.std.specs.Prelude.{Err, IfOk, IfSome, List, Ok, Option, Result, Some, ℕ, ◌≡◌, ◌≢◌, ◌⊎◌}

-- the owner for whom the calls are made, the environment of the values, and the lender of the pager
pub record Acting (E : Type 0) : Type 0 where
  pub me : Owner
  pub environment : E
  pub lender : ℕ

-- What an access does to the state, if it is known, depending on owner and environment; and the owner and environment
-- afterwards.
pub record ActsThen {A S E : Type 0} (told : A → Option S) (by : A → Acting E) (old new : A)
    (after : Acting E → Acting E) (does : Acting E → S → S → Type 0) : Type 0 where
  pub step : IfBothKnown (told old) (told new) (does (by old))
  pub acting : by new ≡ after (by old)

-- owner and environment stay
abbrev pub Acts : {A S E : Type 0} → (A → Option S) → (A → Acting E) → A → A → (Acting E → S → S → Type 0) → Type 0
Acts told by old new does = ActsThen told by old new (λ a. a) does

-- a worker, which has begun, is the owner; below: the caller is, after the worker has ended
abbrev pub as_worker : {E : Type 0} → WorkerNumber → Acting E → Acting E
as_worker n a = record a { me = Owner.Worker n }

abbrev pub as_caller : {E : Type 0} → Acting E → Acting E
as_caller a = record a { me = Owner.Caller }

-- the values of an environment, with the members of its node type
abbrev pub values_at : {N E H K V : Type 0} → Nodes N E N H K V → Environments E N H K V → Hashes H → E → Values N
values_at n e h environment = record {
  node_type = n.type_of;
  references = n.refs_of;
  means = n.means;
  beside = n.beside;
  read_causes = n.read_causes;
  write_causes = n.write_causes;
  types = record { nodes = n.shape_of environment; parts = e.parts environment };
  hash = h.digest;
}

-- P holds of the state, if it is known
pub record IfKnown {S : Type 0} (s : Option S) (P : S → Type 0) : Type 0 where
  pub holds : IfSome s P

-- A call that may bring a value into memory: its step in the core, which value it may bring where, and a whole pager.
pub record MakesCallBringing {N E : Type 0} (v : Values N) (does : Core → Type 0) (comes : ℕ → N → Type 0)
    (s s' : PagerState N E) : Type 0 where
  pub step : does s'.core
  pub moves : Moves comes s s'
  pub whole : IsPagerWhole v s'

-- the reference has this kind, and names a live handle and that handle's node
pub record IsMade (w : Core) (kind : Kind) (r : ArcRef) : Type 0 where
  pub row : HandleRow
  pub live : row_at w r.handle ≡ Some row
  pub is : r ≡ record { kind = kind; node = row.node; handle = row.number }

-- the load's root was read as this value
pub record IsReadBy {N : Type 0} (v : Values N) (l : LoadNumber) (x : N) : Type 0 where
  pub reading : Reading
  pub of_load : reading.load ≡ l
  pub root : ReadsRoot v reading x

abbrev pub handle_of : {X : Type 0} → Result ArcRef X → Result HandleNumber X
handle_of (Ok r) = Ok r.handle
handle_of (Err e) = Err e

abbrev pub reference_or_blob : {B : Type 0} → (B → Blob) → Either ArcRef B → Given
reference_or_blob see (Either.Left r) = from_cache r.handle
reference_or_blob see (Either.Right blob) = from_store (see blob)

abbrev pub IsFoundMade : {B : Type 0} → Core → Kind → Either ArcRef B → Type 0
IsFoundMade w kind (Either.Left r) = IsMade w kind r
IsFoundMade w kind (Either.Right blob) = Unit {0}

-- a load asks for a reference, and gets a handle of the cache's node, or a blob
pub record AsksFor {B : Type 0} (see : B → Blob) (w : Core) (me : Owner) (l : LoadNumber) (kind : Kind) (key : ℕ)
    (r : Result (Either ArcRef B) Error) (w' : Core) : Type 0 where
  pub asked : LoadFetchCall w me l (FetchTarget.Nested kind key) (result_map (reference_or_blob see) r) w'
  pub made : IfOk r (λ found. IsFoundMade w' kind found)

-- the load is open, and is of another key
pub record IsOfOtherKey (w : Core) (l : LoadNumber) (key : ℕ) : Type 0 where
  pub load : OpenLoad
  pub open_load : w.loads l.0 ≡ Some load
  pub other : load.key ≢ key

-- a load asks for the blob of its own key, which has to be this one
pub record AsksRoot {B : Type 0} (see : B → Blob) (w : Core) (me : Owner) (l : LoadNumber) (key : ℕ)
    (r : Result B Error) (w' : Core) : Type 0 where
  pub asked : LoadFetchCall w me l FetchTarget.Root (result_map (λ d. from_store (see d)) r) w'
      ⊎ (IsOfOtherKey w l key × (r ≡ Err Error.NoSuchHandle) × Alike w w')

-- a reference that the cache gives has the kind that was asked for; the hash of a blob is the key
abbrev pub IsNamedOrKind : {B : Type 0} → (List ℕ → List ℕ) → (B → Blob) → Kind → ℕ → Either ArcRef B → Type 0
IsNamedOrKind hash see kind key (Either.Left r) = r.kind ≡ kind
IsNamedOrKind hash see kind key (Either.Right blob) = key_of hash (see blob) ≡ key

-- a load takes a loose reference without reading it
pub record TakesLazily (w : Core) (me : Owner) (l : LoadNumber) (kind : Kind) (key : ℕ) (r : Result ArcRef Error)
    (w' : Core) : Type 0 where
  pub taken : LazyCall w me l kind key (handle_of r) w'
  pub made : IfOk r (λ reference. IsMade w' kind reference)

-- a load makes a node of a value that it has read, and gets a reference to it
pub record AdoptsValue {N : Type 0} (w : Core) (me : Owner) (l : LoadNumber) (kind : Kind) (key : ℕ) (x : N)
    (node_type : ℕ) (references : List ArcRef) (r : Result ArcRef (Error × N)) (w' : Core) : Type 0 where
  pub adopted : AdoptCall w me l kind key x node_type references (handle_of r) w'
  pub made : IfOk r (λ reference. IsMade w' kind reference)
