-- Records over handles, keys of records, and what a reader of one gets.
use Rattle.pagable_calls.specs.TypedReferences.{Refers}
use Rattle.pagable_nodes.specs.{
  Bytes.IsFormOf,
  Records.{IsRecord, record_encoding},
  declared.{one_node.OneNode.OneNode, records.Record.Record},
}
use Rattle.pagable_pager_spec.specs.{Basics.{Error, HandleNumber}, World.Core}
use Rattle.pagable_traits.specs.{References.raw_reference, declared.raw_ref.RawRef.RawRef}
use Rattle.pagable_value_spec.specs.{Blob.key_of, Merkle.blob_of, Shape.nothing}
use Rattle.record_store.specs.declared.{calls.RecordView.RecordView, store_error.StoreError.StoreError}
use Rattle.std.specs.{
  Arc.arc_value,
  Global.Vec,
  Prelude.{Err, List, Ok, Result, Some, length, map, slice_get, ℕ, [], ◌++◌, ◌+◌, ◌∷◌, ◌≡◌},
}

-- the references go through the first n of the handles, in their order, to the handles' records
pub data RefersThrough (w : Core) (hs : List HandleNumber) : ℕ → List (RawRef 1) → Type 0 where
  refers-to-none : RefersThrough w hs 0 []
  refers-to-more : (n : ℕ) (h : HandleNumber) (r : RawRef 1) (rs : List (RawRef 1)) → RefersThrough w hs n rs
      → slice_get hs n ≡ Some h → Refers w h 0 1 (raw_reference 1 r) → RefersThrough w hs (n + 1) (rs ++ r ∷ [])

-- the node of a record with this tag and text, whose references go through these handles, in their order
pub record IsRecordOver (tag : ℕ) (content : List ℕ) (w : Core) (hs : List HandleNumber) (x : OneNode Record)
    : Type 0 where
  pub refs : Vec (RawRef 1)
  pub through : RefersThrough w hs (length hs) refs.items
  pub is : IsRecord tag content refs (arc_value x.value)

-- the key of a blob that is a form of the record with this tag and text, which refers to nothing
pub record IsKeyOfBare (hash : List ℕ → List ℕ) (tag : ℕ) (content : List ℕ) (key : ℕ) : Type 0 where
  pub r : Record
  pub refs : Vec (RawRef 1)
  pub bare : refs.items ≡ []
  pub is : IsRecord tag content refs r
  pub bytes : List ℕ
  pub form : IsFormOf (record_encoding.means.of r) (λ number. nothing) record_encoding.shape bytes
  pub keyed : key ≡ key_of hash (blob_of bytes [])

-- the record that was read, and the handles of its references
abbrev pub seen_view : RecordView → Record × List HandleNumber
seen_view view = (arc_value view.record, view.refs.items)

-- the handles of a record's references, in their order
abbrev pub handles_in : Record → List HandleNumber
handles_in r = map (λ (q : RawRef 1). (raw_reference 1 q).handle) r.refs.items

-- a result with the pager's error
abbrev pub plainly : {X : Type 0} → Result X StoreError → Result X Error
plainly (Ok x) = Ok x
plainly (Err e) = Err e.error
