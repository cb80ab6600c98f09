-- Cells that are pinned without a load's row, and the loads that have the same effect.
use Rattle.pagable_load.specs.{
  AccessView.MakesCallBringing,
  Frames.{IsLoadOf, reading_of},
  PinStart.{PinsWithLoad, is_unpinned_at},
  declared.reading.Reading.Reading as Own,
}
use Rattle.pagable_pager_spec.specs.{
  Access.{LoadRun, MakesCall, PinRun, PinsOver},
  Calls.FetchCall,
  LoadCalls.{BeginCall, EndCall, LoadCloses},
  Loads.root_frame,
  Pager.{IsCellOf, PagerState},
  World.{Alike, Reading, Values, of_cell},
  declared.{events.LoadAnswer.LoadAnswer, handle_row.Owner.Owner, pinning.Beginning.Beginning},
}
use Rattle.pagable_tables.specs.declared.leaf.Leaf.{Leaf}
use Rattle.pagable_value_spec.specs.{
  Blob.Blob,
  declared.{error.Error.Error, numbers.{HandleNumber.HandleNumber, LoadNumber.LoadNumber}},
}
use Rattle.std.specs.Prelude.{Err, IfErr, IfOk, None, Ok, Option, Result, Some, true, ℕ, [], ◌∷◌, ◌≡◌, ◌⊎◌}

-- the cell's blob was fetched, and no value was brought into memory
pub record LeafFetched {N E : Type 0} (v : Values N) (s : PagerState N E) (leaf : Leaf) (blob : Blob)
    (s' : PagerState N E) : Type 0 where
  pub fetched : MakesCall v (λ w'. FetchCall s.core leaf.key (Ok blob) w') s s'
  pub values : (n : ℕ) → s'.values n ≡ s.values n
  pub unpinned : is_unpinned_at s.core leaf.row.number ≡ true

-- a load of the cell is open
pub record LeafBegun {N E : Type 0} (v : Values N) (s : PagerState N E) (leaf : Leaf) (l : LoadNumber)
    (s' : PagerState N E) : Type 0 where
  pub begins : MakesCall v (λ w'. BeginCall s.core Owner.Caller leaf.row.number (Ok (Beginning.Load l leaf.key)) w') s
      s'
  pub opened : s'.core.loads l.0 ≡ Some (record {
    owner = Owner.Caller;
    key = leaf.key;
    root = of_cell leaf.row.node leaf.node_type leaf.row.number;
  })

-- a load began and ended with this value
pub record LeafPinned {N E : Type 0} (v : Values N) (s : PagerState N E) (leaf : Leaf) (x : N) (k : HandleNumber)
    (s' : PagerState N E) : Type 0 where
  pub l : LoadNumber
  pub mid : PagerState N E
  pub begun : LeafBegun v s leaf l mid
  pub ends : MakesCallBringing v (λ w'. EndCall mid.core Owner.Caller l x (v.node_type x) (v.references x) (Ok k) w')
      (λ n y. (y ≡ x) × IsCellOf mid.core l n) mid s'

-- a load began and was dropped
pub record LeafDropped {N E : Type 0} (v : Values N) (s : PagerState N E) (leaf : Leaf) (s' : PagerState N E) : Type 0
  where
    pub l : LoadNumber
    pub mid : PagerState N E
    pub begun : LeafBegun v s leaf l mid
    pub closes : MakesCall v (λ w'. LoadCloses mid.core l (Ok tt) w') mid s'

-- memory ran out; the effect is that of a load that began and was dropped
pub record LeafUnbegun {N E : Type 0} (v : Values N) (s : PagerState N E) (leaf : Leaf) (s' : PagerState N E) : Type 0
  where
    pub between : PagerState N E
    pub stays : MakesCall v (λ w'. Alike s.core w') s between
    pub same : (n : ℕ) → between.values n ≡ s.values n
    pub dropped : LeafDropped v between leaf s'

-- the reading of a load that has got its root's blob, by its first step
abbrev pub rooted_reading : LoadNumber → ℕ → ℕ → Blob → Reading
rooted_reading l key t blob = record { load = l; node_type = t; frames = root_frame key t blob ∷ []; steps = 1 }

-- the load runs to its end, with a pin or an error
pub record EndsCellLoad {N E : Type 0} (v : Values N) (me : Owner) (own : Own) (s : PagerState N E)
    (r : Result HandleNumber Error) (t : PagerState N E) : Type 0 where
  pub pinned : IfOk r (λ k. IsLoadOf s.core me own → LoadRun v me (reading_of own) s (LoadAnswer.Pinned k) t)
  pub refused : IfErr r (λ e. IsLoadOf s.core me own → LoadRun v me (reading_of own) s (LoadAnswer.Refused e) t)

-- A load of the cell began, got its root's blob, and ended; or memory for it ran out.
pub record LeafLoads {N E : Type 0} (v : Values N) (s : PagerState N E) (leaf : Leaf) (blob : Blob)
    (r : Result HandleNumber Error) (s' : PagerState N E) : Type 0 where
  pub pinned : IfOk r (λ k. (l : LoadNumber) × (mid : PagerState N E) × LeafBegun v s leaf l mid
      × LoadRun v Owner.Caller (rooted_reading l leaf.key leaf.node_type blob) mid (LoadAnswer.Pinned k) s')
  pub refused : IfErr r (λ e. ((l : LoadNumber) × (mid : PagerState N E) × LeafBegun v s leaf l mid
      × LoadRun v Owner.Caller (rooted_reading l leaf.key leaf.node_type blob) mid (LoadAnswer.Refused e) s')
      ⊎ ((e ≡ Error.OutOfMemory) × LeafUnbegun v s leaf s'))

-- the cell was pinned by a whole load, by a handle that was unpinned before; or nothing was done
abbrev pub PinsIfPagedOut : {N E : Type 0} → Values N → PagerState N E → HandleNumber
    → Option HandleNumber → PagerState N E
    → Type 0
PinsIfPagedOut v s h None s' = s' ≡ s
PinsIfPagedOut v s h (Some k) s' = PinRun v s h (Ok k) s' × (is_unpinned_at s.core h ≡ true)

pub record PinsPagedOut {N E : Type 0} (v : Values N) (s : PagerState N E) (h : HandleNumber)
    (r : Result (Option HandleNumber) Error) (s' : PagerState N E) : Type 0 where
  pub goes : IfOk r (λ found. PinsIfPagedOut v s h found s')
  pub refused : IfErr r (λ e. PinRun v s h (Err e) s')

-- What follows a pin by a handle that was unpinned before: its value is shared, or the pin is undone.
pub record SharesOrUndoes {N E : Type 0} (v : Values N) (h k : HandleNumber) (s : PagerState N E)
    (r : Result (HandleNumber × N) Error) (t : PagerState N E) : Type 0 where
  pub shares : (was : PagerState N E) → PinsWithLoad v was h (Ok (k, true)) s → PinsOver v was h r t
