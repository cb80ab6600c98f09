-- Pins of cells whose blobs have no references, by two calls: a fetch, and the pin of what was read of the blob.
use Rattle.pagable_core.specs.Data.{blob_of}
use Rattle.pagable_load.specs.{PinStart.{Shares, StartsPin}, declared.access.PinStart.PinStart}
use Rattle.pagable_pager.specs.{Leaf.{LeafDropped, LeafFetched, LeafPinned}, declared.lent.leaf_pins.BegunFetch.BegunFetch}
use Rattle.pagable_pager_spec.specs.{
  Access.{MakesCall, PinRun},
  Basics.Error,
  LoadCalls.BeginCall,
  Pager.PagerState,
  World.{Alike, Values},
  declared.handle_row.Owner.{Owner},
}
use Rattle.pagable_tables.specs.declared.leaf.Leaf.{Leaf}
use Rattle.pagable_value_spec.specs.{Blob.{key_of}, declared.numbers.HandleNumber.HandleNumber}
use Rattle.std.specs.{Arc.arc_value, Prelude.{Err, List, None, Ok, Option, Result, Some, ℕ, ◌≡◌, ◌⊎◌}}

-- a blob that was fetched has the key of the cell
abbrev pub IsNamedFetch : {N : Type 0} → (List ℕ → List ℕ) → BegunFetch N → Type 0
IsNamedFetch hash (BegunFetch.Pinned k was_unpinned shared) = Unit {0}
IsNamedFetch hash (BegunFetch.Fetched leaf blob) = key_of hash (blob_of (arc_value blob)) ≡ leaf.key
IsNamedFetch hash (BegunFetch.Loading l) = Unit {0}

-- the value of a new pin is shared, or sharing it fails
abbrev pub SharesFetch : {N E : Type 0} → PagerState N E → BegunFetch N → Type 0
SharesFetch s (BegunFetch.Pinned k was_unpinned shared) = Shares arc_value s k shared
SharesFetch s (BegunFetch.Fetched leaf blob) = Unit {0}
SharesFetch s (BegunFetch.Loading l) = Unit {0}

-- a pin or a load begins, or the blob of the handle's cell is fetched
abbrev pub BeginsOrFetches : {N E : Type 0} → Values N → Owner → HandleNumber → Result (BegunFetch N) Error
    → PagerState N E → PagerState N E → Type 0
BeginsOrFetches v me h (Ok (BegunFetch.Pinned k was_unpinned shared)) s t =
    MakesCall v (λ w'. StartsPin s.core me h (Ok (PinStart.Pinned k was_unpinned)) w') s t
BeginsOrFetches v me h (Ok (BegunFetch.Fetched leaf blob)) s t = (leaf.row.number ≡ h)
    × LeafFetched v s leaf (blob_of (arc_value blob)) t
BeginsOrFetches v me h (Ok (BegunFetch.Loading l)) s t = (key type : ℕ)
    × MakesCall v (λ w'. StartsPin s.core me h (Ok (PinStart.Load l key type)) w') s t
BeginsOrFetches v me h (Err e) s t = PinRun v s h (Err e) t ⊎ MakesCall v (λ w'. StartsPin s.core me h (Err e) w') s t

-- the leaf that the same handle has then, with the same key, is pinned with this value
pub record PinsLeafAgain {N E : Type 0} (v : Values N) (leaf : Leaf) (x : N) (k : HandleNumber) (s t : PagerState N E)
    : Type 0 where
  pub again : Leaf
  pub mid : PagerState N E
  pub number : again.row.number ≡ leaf.row.number
  pub key : again.key ≡ leaf.key
  pub found : MakesCall v (λ w'. Alike s.core w') s mid
  pub pins : LeafPinned v mid again x k t

-- there was no room for the pin, or memory for the value ran out
abbrev pub RunsOut : {N E : Type 0} → Values N → Leaf → Error → PagerState N E → PagerState N E → Type 0
RunsOut {N} {E} v leaf e s t = MakesCall v (λ w'. BeginCall s.core Owner.Caller leaf.row.number (Err e) w') s t
    ⊎ ((again : Leaf) × (mid : PagerState N E) × (again.row.number ≡ leaf.row.number)
    × MakesCall v (λ w'. Alike s.core w') s mid × (e ≡ Error.OutOfMemory) × LeafDropped v mid again t)

-- the leaf is pinned with this value if it is still there
abbrev pub PinsReadLeaf : {N E : Type 0} → Values N → Leaf → N → Result (Option HandleNumber) Error
    → PagerState N E → PagerState N E → Type 0
PinsReadLeaf v leaf x (Ok (Some k)) s t = PinsLeafAgain v leaf x k s t
PinsReadLeaf v leaf x (Ok None) s t = MakesCall v (λ w'. Alike s.core w') s t
PinsReadLeaf v leaf x (Err e) s t = RunsOut v leaf e s t
