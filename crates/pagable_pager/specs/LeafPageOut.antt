-- Page-outs of entries of the list whose values have no references, without a worker: what is written, and the state
-- that is left.
use Rattle.pagable_core.specs.Data as core
use Rattle.pagable_load.specs.WorkerCalls.{PagesLeaf}
use Rattle.pagable_pager.specs.declared.pager.leaf_page_out.{SharedLeaf.SharedLeaf, WrittenLeaf.WrittenLeaf}
use Rattle.pagable_pager_spec.specs.{
  Basics.Error,
  Calls.{row_of, with_key},
  Cascade.{left_rows, only_handle},
  Kinds.{held, pins},
  Pager.PagerState,
  World.{Core, HasForm, Values},
  declared.{events.WorkerAnswer.WorkerAnswer, handle_row.{HandleRow.HandleRow, Owner.Owner}, mode.Mode.Mode},
}
use Rattle.pagable_value_spec.specs.{Blob.{Blob, key_of}, Merkle.blob_of}
use Rattle.std.specs.{
  Arc.arc_value,
  List.{AllByRecursion, remove},
  Prelude.{Err, List, None, Ok, Option, Result, Some, if◌then◌else◌, length, map, nat_lt, ℕ, [], ◌++◌, ◌+◌, ◌<◌, ◌∷◌, ◌≡◌, ◌⊎◌},
}

-- the blob is a form of the value, which has no references
pub record WritesBare {N : Type 0} (v : Values N) (x : N) (blob : Blob) : Type 0 where
  pub bare : v.references x ≡ []
  pub form : HasForm v x (record { bytes = blob.bytes; references = [] })
  pub is : blob ≡ blob_of blob.bytes []

-- the same for the value of a node, which is in memory
pub record WritesLeaf {N E : Type 0} (v : Values N) (s : PagerState N E) (node : ℕ) (blob : Blob) : Type 0 where
  pub x : N
  pub held : s.values node ≡ Some x
  pub writes : WritesBare v x blob

-- if the leaf's node has a value in memory, this has no references, and the leaf's blob is a form of it
pub record IsWritten {N E : Type 0} (v : Values N) (s : PagerState N E) (leaf : WrittenLeaf) : Type 0 where
  pub writes : (x : N) → s.values leaf.node.0 ≡ Some x → WritesBare v x (core.blob_of leaf.blob)

-- the same of each of several leaves
abbrev pub AreWritten : {N E : Type 0} → Values N → PagerState N E → List WrittenLeaf → Type 0
AreWritten v s leaves = AllByRecursion (IsWritten v s) leaves

-- the keys of the blobs of leaves
abbrev pub leaf_keys : (List ℕ → List ℕ) → List WrittenLeaf → List ℕ
leaf_keys digest leaves = map (λ leaf. key_of digest (core.blob_of leaf.blob)) leaves

-- the leaf's value is the one of its node that is in memory; and of several leaves
abbrev pub IsShared : {N E : Type 0} → PagerState N E → SharedLeaf N → Type 0
IsShared s leaf = s.values leaf.node.0 ≡ Some (arc_value leaf.value)

abbrev pub AreShared : {N E : Type 0} → PagerState N E → List (SharedLeaf N) → Type 0
AreShared s leaves = AllByRecursion (IsShared s) leaves

-- if the node has a value in memory, this has no references
abbrev pub IsBareAt : {N E : Type 0} → Values N → PagerState N E → ℕ → Type 0
IsBareAt {N} v s node = (x : N) → s.values node ≡ Some x → v.references x ≡ []

-- the entry at this place, whose handle has this row, was taken from the list, its cell got the key, and the handle was
-- released; the numbers of a worker and of two handles are used up
abbrev pub with_entry_paged : Core → ℕ → HandleRow → ℕ → Core
with_entry_paged w place row key = record w {
  rows = left_rows (only_handle row.number) w.rows;
  cells = λ n. if nat_lt 0 (held n (left_rows (only_handle row.number) w.rows)) then (with_key w row.node key).cells n
      else None;
  list = remove w.list place;
  last = record w.last { handle = w.last.handle + 2; worker = w.last.worker + 1 };
}

-- The entry was taken from the list and released, without a key for its cell; and the list has these new entries.
abbrev pub with_entry_relisted : Core → ℕ → HandleRow → List HandleRow → Core
with_entry_relisted w place row entries = record w {
  rows = left_rows (only_handle row.number) w.rows ++ entries;
  cells = λ n. if nat_lt 0 (held n (left_rows (only_handle row.number) w.rows ++ entries)) then w.cells n else None;
  list = remove w.list place ++ map (λ h. h.number) entries;
  last = record w.last { handle = w.last.handle + 2 + length entries; worker = w.last.worker + 1 };
}

-- one new entry, of the same cell, if nothing pins the cell; none otherwise
abbrev pub new_entry : Core → HandleRow → HandleRow
new_entry w row = row_of (w.last.handle + 1 + 1 + 1) row.node Mode.LooseUnpinned Owner.List

abbrev pub AreNewFor : Core → HandleRow → List HandleRow → Type 0
AreNewFor w row entries = ((pins row.node.0 w.rows ≡ 0) × (entries ≡ new_entry w row ∷ []))
    ⊎ ((0 < pins row.node.0 w.rows) × (entries ≡ []))

-- The entry at a place is paged out by a worker's steps; or nothing was done.
abbrev pub PagesLeafIfThere : {N E : Type 0} → Values N → PagerState N E → ℕ → Result (Option ℕ) Error → PagerState N E
    → Type 0
PagesLeafIfThere v s place (Ok None) t = t ≡ s
PagesLeafIfThere v s place (Ok (Some key)) t = PagesLeaf v s place (WorkerAnswer.Key key) t
PagesLeafIfThere v s place (Err e) t = PagesLeaf v s place (WorkerAnswer.Failed e) t
