-- Leaves that are taken off the page-out list, written, and stored or put back, each by an owner's own calls.
use Rattle.pagable_core.specs.{Data.blob_of, declared.storage.data.PagableData.PagableData}
use Rattle.pagable_pager.specs.{LeafPageOut.{WritesBare}, declared.lent.leaves.TakenLeaf.{TakenLeaf}}
use Rattle.pagable_pager_spec.specs.{
  Access.{EntryHas, MakesCall},
  Basics.Error,
  Calls.{ReleaseCall, ScheduleCall, SetKeyCall, StoreCall, TakeCall},
  Events.IsEntry,
  Pager.PagerState,
  World.{Values, key_at},
  declared.handle_row.{HandleRow.HandleRow, Owner.Owner},
}
use Rattle.pagable_value_spec.specs.{
  Blob.{Blob, key_of},
  declared.{data_key.OptionalDataKey.OptionalDataKey, numbers.HandleNumber.HandleNumber},
}
use Rattle.std.specs.{
  Arc.arc_value,
  Prelude.{Err, List, None, Ok, Option, Result, Some, ℕ, [], ◌++◌, ◌+◌, ◌∷◌, ◌≡◌, ◌⊎◌},
}

-- blobs are forms of the values of the first leaves, which have no references
abbrev pub WritesEach : {N : Type 0} → Values N → List (TakenLeaf N) → List PagableData → Type 0
WritesEach v leaves [] = Unit {0}
WritesEach v [] (blob ∷ blobs) = ⊥
WritesEach v (leaf ∷ leaves) (blob ∷ blobs) = WritesBare v (arc_value leaf.value) (blob_of blob)
    × WritesEach v leaves blobs

-- the cell of the entry at this place has no key, and holds this value, which has no references
pub record HoldsBare {N E : Type 0} (v : Values N) (s : PagerState N E) (place : ℕ) (x : N) : Type 0 where
  pub row : HandleRow
  pub type : ℕ
  pub listed : IsEntry s.core place row.number row type
  pub unkeyed : key_at s.core row.node.0 ≡ OptionalDataKey.None
  pub held : s.values row.node.0 ≡ Some x
  pub bare : v.references x ≡ []

-- the entry at a place is taken off the list, with the value that its cell holds; or nothing is done
abbrev pub TakesLeaf : {N E : Type 0} → Values N → Owner → ℕ → Option (TakenLeaf N) → PagerState N E → PagerState N E
    → Type 0
TakesLeaf v me place None s t = t ≡ s
TakesLeaf v me place (Some leaf) s t = HoldsBare v s place (arc_value leaf.value)
    × MakesCall v (λ w'. TakeCall s.core me place (Some leaf.handle) w') s t

-- the entries below `left` down to a place are taken so, one after the other, from the last of them
pub data HasTaken {N E : Type 0} (v : Values N) (me : Owner) (left : ℕ) (s : PagerState N E)
    : List (TakenLeaf N) → ℕ → PagerState N E → Type 0 where
  none-taken : HasTaken v me left s [] left s
  one-more-taken : (leaves : List (TakenLeaf N)) (leaf : TakenLeaf N) (place : ℕ) (mid t : PagerState N E)
      → HasTaken v me left s leaves (place + 1) mid → TakesLeaf v me place (Some leaf) mid t
      → HasTaken v me left s (leaves ++ leaf ∷ []) place t

abbrev pub TakesLeaves : {N E : Type 0} → Values N → Owner → ℕ → List (TakenLeaf N) → PagerState N E → PagerState N E
    → Type 0
TakesLeaves v me left leaves s t = (place : ℕ) × HasTaken v me left s leaves place t

-- the handles of leaves are put on the list, that of the first leaf last
abbrev pub PutsBack : {N E : Type 0} → Values N → Owner → List (TakenLeaf N) → PagerState N E → PagerState N E → Type 0
PutsBack v me [] s t = t ≡ s
PutsBack {N} {E} v me (leaf ∷ leaves) s t = (mid : PagerState N E) × (told : Result (Unit {0}) Error)
    × PutsBack v me leaves s mid
    × MakesCall v (λ w'. ScheduleCall mid.core me leaf.handle told w') mid t

-- a blob is stored, its key is set through a handle, and the handle is released
pub record StoresAndReleases {N E : Type 0} (v : Values N) (me : Owner) (h : HandleNumber) (blob : Blob)
    (s t : PagerState N E) : Type 0 where
  pub key : ℕ
  pub stored : PagerState N E
  pub keyed : PagerState N E
  pub told : Result (Unit {0}) Error
  pub refused : Result (Unit {0}) Error
  pub stores : MakesCall v (λ w'. StoreCall (key_of v.hash) s.core blob (Ok key) w') s stored
  pub sets : MakesCall v (λ w'. SetKeyCall stored.core me h key told w') stored keyed
  pub releases : MakesCall v (λ w'. ReleaseCall keyed.core me h refused w') keyed t

-- the same, or the blob isn't stored
abbrev pub StoresLeaf : {N E : Type 0} → Values N → Owner → HandleNumber → Blob → Result (Unit {0}) Error
    → PagerState N E → PagerState N E → Type 0
StoresLeaf v me h blob (Ok x) s t = StoresAndReleases v me h blob s t
StoresLeaf v me h blob (Err e) s t = MakesCall v (λ w'. StoreCall (key_of v.hash) s.core blob (Err e) w') s t

-- the first leaves are stored with the first blobs, one after the other, and these are left
pub data HasStored {N E : Type 0} (v : Values N) (me : Owner) (all : List (TakenLeaf N)) (blobs : List PagableData)
    (s : PagerState N E) : List (TakenLeaf N) → List PagableData → PagerState N E → Type 0 where
  none-stored : HasStored v me all blobs s all blobs s
  one-more-stored : (leaf : TakenLeaf N) (leaves : List (TakenLeaf N)) (blob : PagableData) (rest : List PagableData)
      (mid t : PagerState N E) → HasStored v me all blobs s (leaf ∷ leaves) (blob ∷ rest) mid
      → StoresLeaf v me leaf.handle (blob_of blob) (Ok tt) mid t → HasStored v me all blobs s leaves rest t

-- the leaves that have a blob are stored, and the others are put back
pub record FinishesAll {N E : Type 0} (v : Values N) (me : Owner) (all : List (TakenLeaf N)) (blobs : List PagableData)
    (s t : PagerState N E) : Type 0 where
  pub leaves : List (TakenLeaf N)
  pub rest : List PagableData
  pub mid : PagerState N E
  pub stored : HasStored v me all blobs s leaves rest mid
  pub ended : (leaves ≡ []) ⊎ (rest ≡ [])
  pub back : PutsBack v me leaves mid t

-- storing the blob of a leaf fails, and this leaf and those after it are put back
pub record FailsToFinish {N E : Type 0} (v : Values N) (me : Owner) (all : List (TakenLeaf N))
    (blobs : List PagableData) (e : Error) (s t : PagerState N E) : Type 0 where
  pub leaf : TakenLeaf N
  pub leaves : List (TakenLeaf N)
  pub blob : PagableData
  pub rest : List PagableData
  pub mid : PagerState N E
  pub failed : PagerState N E
  pub stored : HasStored v me all blobs s (leaf ∷ leaves) (blob ∷ rest) mid
  pub fails : StoresLeaf v me leaf.handle (blob_of blob) (Err e) mid failed
  pub back : PutsBack v me (leaf ∷ leaves) failed t

abbrev pub FinishesLeaves : {N E : Type 0} → Values N → Owner → List (TakenLeaf N) → List PagableData
    → Result (Unit {0}) Error → PagerState N E → PagerState N E → Type 0
FinishesLeaves v me all blobs (Ok x) s t = FinishesAll v me all blobs s t
FinishesLeaves v me all blobs (Err e) s t = FailsToFinish v me all blobs e s t
