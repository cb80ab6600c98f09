-- What a load asks of the tables, and loads of cells that can end.
use Rattle.pagable_pager_spec.specs.{
  Basics.{is_loose_kind, type_of},
  Calls.Recalls,
  Kinds.{any_mode, is_loose},
  LoadCalls.{MayEnd, ask_fault, end_fault, is_known},
  Refusals.{AreHandlesFull, Owns, OwnsLoad, Refused, earlier, handle_fault, load_fault, references_fault, refused_if},
  World.{Core, OpenLoad, greatest, is_here},
  declared.{calls.FetchTarget.FetchTarget, handle_row.Owner.Owner},
}
use Rattle.pagable_tables.specs.{
  HandleTable.room,
  Indexes.load_at,
  Nodes.has_value,
  ValuesKept.AreLeft,
  declared.{load_end.{EndFailure.EndFailure, Ending.Ending}, nodes.Counts.Counts, tables.Tables.Tables},
}
use Rattle.pagable_value_spec.specs.declared.{
  error.Error.Error,
  numbers.{ArcRef.ArcRef, HandleNumber.HandleNumber, Kind.Kind, LoadNumber.LoadNumber, NodeNumber.NodeNumber},
}
use Rattle.std.specs.{
  Prelude.{Bool, IfErr, IfOk, List, Option, Result, Some, if◌then◌else◌, is_some, not, true, ℕ, [], ◌<◌, ◌==◌, ◌≡◌},
  Prelude.◌≤◌,
}

-- The load gets a handle of the node that is cached for a reference; or None if none is, and the storage has to be
-- asked.
pub record AsksCache (w : Core) (me : Owner) (l : LoadNumber) (kind : Kind) (key : ℕ)
    (r : Result (Option HandleNumber) Error) (w' : Core) : Type 0 where
  pub gives : IfOk r (λ found. (load : OpenLoad) × OwnsLoad w me l load × Recalls w (Owner.Load l) kind key found w')
  pub refused : IfErr r (λ e. Refused (ask_fault w me l (FetchTarget.Nested kind key))
      (ask_fault w me l (FetchTarget.Nested kind key))
      ((is_known w (FetchTarget.Nested kind key) ≡ true) × AreHandlesFull w) w e w')

-- why what a load has read can't become a node, apart from numbers and memory
abbrev pub adopt_check_fault : Core → Owner → LoadNumber → Kind → ℕ → List ArcRef → Option Error
adopt_check_fault w me l kind node_type references =
    earlier (load_fault w me l) (earlier (refused_if (is_loose_kind kind.0) Error.WrongMode)
    (earlier (refused_if (not (node_type == type_of kind.0)) Error.WrongKind)
    (references_fault w (Owner.Load l) [] references)))

-- ---- loads of cells that can end

-- The load may end with a value of this type and these references, and the handle by which it was begun can be pinned.
pub record IsReady (w : Core) (me : Owner) (l : LoadNumber) (node_type : ℕ) (references : List ArcRef)
    (e : Ending) : Type 0 where
  pub may : MayEnd w me l e.row.node e.row.number node_type references
  pub owned : Owns w me e.row.number is_loose e.row
  pub away : e.lacks_value ≡ not (is_here w e.row.node.0)
  pub left : w.last.handle < greatest

-- The tables have the load, and room for the handle that is made.
pub record HasPlace (t : Tables) (l : LoadNumber) (e : Ending) : Type 0 where
  pub load : load_at t.loads l.0 ≡ Some e.load
  pub place : 1 ≤ room t.ref_counts.handles

-- The load may end, but the handle by which it was begun is gone or another's.
pub record HasLostHandle (w : Core) (me : Owner) (l : LoadNumber) (node_type : ℕ) (references : List ArcRef)
    (e : Error) : Type 0 where
  pub node : NodeNumber
  pub h : HandleNumber
  pub may : MayEnd w me l node h node_type references
  pub why : handle_fault w me h any_mode ≡ Some e

-- why a load doesn't end with a value
abbrev pub FailsToEnd : Core → Owner → LoadNumber → ℕ → List ArcRef → EndFailure → Core → Type 0
FailsToEnd w me l node_type references (EndFailure.Refused e) w' =
    Refused (end_fault w me l node_type references) (load_fault w me l) (Unit {0}) w e w'
FailsToEnd w me l node_type references (EndFailure.HandleLost e) w' =
    HasLostHandle w me l node_type references e × (w' ≡ w)

-- whether a node has its value, once this node has got one
abbrev pub has_value_once_loaded : (ℕ → Option Counts) → NodeNumber → ℕ → Bool
has_value_once_loaded at node n = if n == node.0 then true else has_value (at n)

-- the value of each node is dropped when it has to be, if each node had its value before, this one its new value
pub record DropsOtherValues {X : Type 0} (node : NodeNumber) (at : ℕ → Option Counts) (old : ℕ → Option X)
    (at' : ℕ → Option Counts) (new : ℕ → Option X) : Type 0 where
  pub left : ((n : ℕ) → is_some (old n) ≡ has_value_once_loaded at node n) → AreLeft at' old new
