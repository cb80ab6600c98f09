-- The world: the core (handles, cells, list, cache, store and loads) and the work (tables, readings and workers). And
-- the description of the caller's types: the members of their traits, and what is asked of them.
use Rattle.pagable_pager_spec.specs.{
  Basics.{ArcRef, Blob, Error, HandleNumber, HandleRow, Identity, Kind, LoadNumber, Meaning, NodeNumber},
  Basics.{OptionalDataKey, Owner, SameAt, Shape, Types, WorkerAnswer, if_there, is_pinned_kind},
  Kinds.{find_row, is_in_memory, pins},
}
use Rattle.pagable_value_spec.specs.{
  Blob.key_of,
  Form.Form,
  Reading.deepest,
  References.{SameReferences, references_in},
  Refusals.{is_own_reading, may_refuse_writing},
  Writing.kind_of_arc,
}
use Rattle.std.specs.{
  Prelude.{Bool, Err, List, None, Ok, Option, Result, Some, if◌then◌else◌, min, not, true, ℕ, ◌&&◌, ◌+◌, ◌-◌, ◌==◌},
  Prelude.{◌^◌, ◌≡◌, ◌≤◌},
}

pub record Cell : Type 0 where
  pub node_type : ℕ
  pub key : OptionalDataKey

-- how many rows and how many list entries fit before an allocation is needed, including those that are there
pub record Places : Type 0 where
  pub handles : ℕ
  pub entries : ℕ

-- the last number given out, of each sort
pub record Last : Type 0 where
  pub node : ℕ
  pub handle : ℕ
  pub load : ℕ
  pub worker : ℕ

-- what a load reads its key for: for a cell of a type, with the handle by which the load began; or for the caller
pub data Root : Type 0 where
  of_cell : NodeNumber → ℕ → HandleNumber → Root
  of_key : Root

-- an open load: who began it, the key that it reads, and what for
pub record OpenLoad : Type 0 where
  pub owner : Owner
  pub key : ℕ
  pub root : Root

pub record Core : Type 0 where
  -- the live handles' rows in the order of their numbers, and the cells of live nodes by their numbers
  pub rows : List HandleRow
  pub cells : ℕ → Option Cell
  -- the list of cells that wait for page-out, as handles that the list owns
  pub list : List HandleNumber
  -- the cache: a node by kind and key
  pub cache : ℕ → ℕ → Option ℕ
  -- the storage: the blob under each key, whether it is closed, and how often it has failed
  pub stored : ℕ → Option Blob
  pub closed : Bool
  pub failures : ℕ
  -- the open loads, and which workers are at work, by their numbers
  pub loads : ℕ → Option OpenLoad
  pub workers : ℕ → Bool
  pub last : Last
  pub places : Places

-- what was written of a value: its bytes, and its references in the order written
pub record Written : Type 0 where
  pub bytes : List ℕ
  pub references : List ArcRef

-- the outcome of a claim: no result yet; published with key and height; or failed
pub data Outcome : Type 0 where
  no_result : Outcome
  published : ℕ → ℕ → Outcome
  failed : Outcome

-- a claim: the worker that made it, the references that were written of its node, and its outcome
pub record Slot : Type 0 where
  pub worker : ℕ
  pub references : Option (List ArcRef)
  pub outcome : Outcome

-- One table: its claims by their identities; and, for each worker whose last claim had to wait, the identity for which
-- it waits.
pub record Shelf : Type 0 where
  pub slots : Identity → Option Slot
  pub waits : ℕ → Option Identity

-- A blob that a load is reading: the kind that its node will have (without meaning for the root), its key, the type of
-- its value, and the references that were got for it so far, in the order in which they are read.
pub record Frame : Type 0 where
  pub kind : Kind
  pub key : ℕ
  pub node_type : ℕ
  pub blob : Blob
  pub got : List ArcRef

-- the progress of a load: its number, the type as which its root is read, its blobs (the innermost first), and how many
-- steps it has made
pub record Reading : Type 0 where
  pub load : LoadNumber
  pub node_type : ℕ
  pub frames : List Frame
  pub steps : ℕ

-- A node that a worker has written and whose references it walks: the reference by which it was claimed; its depth on
-- the path; the worker's own clone of the reference's handle; what was written; and the keys and the height by the
-- references done so far.
pub record Open : Type 0 where
  pub reference : ArcRef
  pub place : ℕ
  pub through : HandleNumber
  pub written : Written
  pub keys : List ℕ
  pub height : ℕ

-- why a walk fails: a step of its own failed, or another worker had failed at an identity that it needs
pub data Fault : Type 0 where
  was_refused : Error → Fault
  was_failed : Fault

abbrev pub answer_of_fault : Fault → WorkerAnswer
answer_of_fault (was_refused e) = WorkerAnswer.Failed e
answer_of_fault was_failed = WorkerAnswer.AlreadyFailed

-- what a worker has to do
pub data Todo : Type 0 where
  -- claim what the reference names, at this depth on the path
  to_start : ArcRef → ℕ → Todo
  -- pin what was claimed; below: go on with the load that began by this handle
  to_pin : ArcRef → ℕ → Todo
  to_load : ArcRef → ℕ → HandleNumber → Reading → Todo
  -- write the value, which is pinned; the handle is the worker's clone of the reference's
  to_write : ArcRef → ℕ → HandleNumber → Todo
  -- store the blob, once all references are done
  to_finish : Open → Todo
  -- store the item's blob, once all its references are done; these keys are known so far
  to_item : Written → List ℕ → Todo
  -- set the key; below: publish it, release the node; all with key and height
  to_set : ArcRef → HandleNumber → ℕ → ℕ → Todo
  to_publish to_release : ArcRef → ℕ → ℕ → Todo
  -- end the failed walk, and list this entry, if any, again
  to_fail : Fault → Option HandleNumber → Todo

-- what a worker pages out: an item, or the cell of a list entry, by the entry's handle
pub data Task : Type 0 where
  of_item : Written → Task
  of_entry : HandleNumber → Identity → Task

-- a worker: its table and task, what it has to do (next first), its steps, and its result if it has one
pub record Walking : Type 0 where
  pub table : ℕ
  pub task : Task
  pub todo : List Todo
  pub steps : ℕ
  pub answer : Option WorkerAnswer

-- the tables, the loads' readings and the workers of a machine, by their numbers
pub record Work : Type 0 where
  pub shelves : ℕ → Shelf
  pub last_table : ℕ
  pub readings : ℕ → Option Reading
  pub walkings : ℕ → Option Walking

pub record World : Type 0 where
  pub core : Core
  pub work : Work

-- the greatest number of any sort
abbrev pub greatest : ℕ
greatest = 2 ^ 64 - 1

-- one more, up to the greatest number
abbrev pub one_more : ℕ → ℕ
one_more n = min (n + 1) greatest

abbrev pub row_at : Core → HandleNumber → Option HandleRow
row_at w h = find_row h.0 w.rows

abbrev pub type_at : Core → ℕ → Option ℕ
type_at w n = if_there (λ (cell : Cell). Some cell.node_type) None (w.cells n)

abbrev pub key_at : Core → ℕ → OptionalDataKey
key_at w n = if_there (λ (cell : Cell). cell.key) OptionalDataKey.None (w.cells n)

-- whether a node is pinned or has no key: then its value has to be in memory
abbrev pub is_here : Core → ℕ → Bool
is_here w n = is_in_memory (pins n w.rows) (key_at w n)

-- The node that the cache gives for a kind and a key. An entry counts only if its node is live and, for a pinned kind,
-- has its value in memory.
abbrev pub usable : Core → ℕ → ℕ → Option ℕ
usable w kind key = if_there (λ n. if_there (λ (cell : Cell). if is_pinned_kind kind
    && not (is_in_memory (pins n w.rows) cell.key) then None else Some n) None (w.cells n)) None (w.cache kind key)

abbrev pub is_identity : Identity → Identity → Bool
is_identity i j = (j.kind.0 == i.kind.0) && (j.node.0 == i.node.0)

-- The cache gives the same nodes. It may have forgotten entries that it couldn't use, and has no new ones.
pub record SameCache (w w' : Core) : Type 0 where
  pub gives : (kind key : ℕ) → usable w' kind key ≡ usable w kind key
  pub only : (kind key n : ℕ) → w'.cache kind key ≡ Some n → w.cache kind key ≡ Some n

-- room never shrinks
pub record HasRoom (places places' : Places) : Type 0 where
  pub handles : places.handles ≤ places'.handles
  pub entries : places.entries ≤ places'.entries

-- The two states are equal, except for unusable entries of the cache and for room that was reserved.
pub record Alike (w w' : Core) : Type 0 where
  pub rows : w'.rows ≡ w.rows
  pub cells : SameAt w.cells w'.cells
  pub list : w'.list ≡ w.list
  pub cache : SameCache w w'
  pub stored : SameAt w.stored w'.stored
  pub closed : w'.closed ≡ w.closed
  pub failures : w'.failures ≡ w.failures
  pub loads : SameAt w.loads w'.loads
  pub workers : SameAt w.workers w'.workers
  pub last : w'.last ≡ w.last
  pub places : HasRoom w.places w'.places

pub record SameShelf (s s' : Shelf) : Type 0 where
  pub slots : (i : Identity) → s'.slots i ≡ s.slots i
  pub waits : SameAt s.waits s'.waits

-- Values of the type N in an environment. Trees, forms, readings and keys are defined by these members alone.
pub record Values (N : Type 0) : Type 1 where
  -- the number of a value's type; its references in the order written; what it may mean
  pub node_type : N → ℕ
  pub references : N → List ArcRef
  pub means : N → Meaning ArcRef → Type 0
  -- x holds the value y beside the reference, wherever it holds the reference
  pub beside : N → ArcRef → N → Type 0
  -- the causes of its own with which a reader of the type may fail, beside the faults of the blob; all errors of a
  -- writer of the type
  pub read_causes : ℕ → Error → Type 0
  pub write_causes : ℕ → Error → Type 0
  -- how values are encoded, and the hash
  pub types : Types
  pub hash : List ℕ → List ℕ

-- the same, with the view of the storage's blobs and of what is written of a value
pub record Seen (N B W : Type 0) : Type 1 where
  pub values : Values N
  pub blob_of : B → Blob
  pub written_of : W → Written

-- the key of a blob
abbrev pub digest : {N : Type 0} → Values N → Blob → ℕ
digest v b = key_of v.hash b

-- a result with its value viewed by f
abbrev pub result_map : {X Y : Type 0} → (X → Y) → Result X Error → Result Y Error
result_map f (Ok x) = Ok (f x)
result_map f (Err e) = Err e

-- The laws that are asked of the caller's types: a value means something, its references are those of its meaning, and
-- its type exists; readers add no error that they may not (`is_own_reading`), nor writers (`may_refuse_writing`).
pub record IsLawful {N : Type 0} (v : Values N) : Type 0 where
  pub has_meaning : (x : N) → (own : Meaning ArcRef) × v.means x own
  pub refers : (x : N) (own : Meaning ArcRef) → v.means x own → SameReferences (v.references x) (references_in own)
  pub shaped : (x : N) → (shape : Shape) × (v.types.nodes (v.node_type x) ≡ Some shape)
  pub own_reading : (t : ℕ) (e : Error) → v.read_causes t e → is_own_reading e ≡ true
  pub own_writing : (t : ℕ) (e : Error) → v.write_causes t e → may_refuse_writing e ≡ true

-- the value has at most one meaning, whatever is written later
abbrev pub IsSettled : {N : Type 0} → Values N → N → Type 0
IsSettled v x = (a b : Meaning ArcRef) → v.means x a → v.means x b → b ≡ a

-- these bytes, with these references in order, are a form of the value
pub record HasForm {N : Type 0} (v : Values N) (x : N) (written : Written) : Type 0 where
  pub shape : Shape
  pub own : Meaning ArcRef
  pub is : v.types.nodes (v.node_type x) ≡ Some shape
  pub means : v.means x own
  pub form : Form ArcRef kind_of_arc v.types.parts deepest shape own written.bytes written.references
