-- Handles: which kinds of references fit them, which of them pin their nodes, and who owns them.
use Rattle.pagable_pager_spec.specs.{
  Basics.{ArcRef, HandleRow, Identity, Mode, OptionalDataKey, Owner, is_loose_kind, is_pinned_kind, is_shared_kind},
  Basics.one,
}
use Rattle.std.specs.{
  Prelude.{Bool, List, None, Option, Some, false, if◌then◌else◌, nat_lt, not, sum_by, true, ℕ, [], ◌&&◌, ◌*◌, ◌+◌, ◌<◌},
  Prelude.{◌==◌, ◌^◌, ◌||◌, ◌∷◌, ◌≤◌},
}

-- the kind as which the list pages out a cell of this type
abbrev pub loose_kind : ℕ → ℕ
loose_kind t = 3 * t + 1

-- the kinds of this type fit 32 bits; below: they don't
abbrev pub HasKinds : ℕ → Type 0
HasKinds t = loose_kind t < 2 ^ 32

abbrev pub HasNoKinds : ℕ → Type 0
HasNoKinds t = 2 ^ 32 ≤ loose_kind t

-- the mode of a handle that a load makes for a reference of this kind
abbrev pub mode_of : ℕ → Mode
mode_of kind = if is_shared_kind kind then Mode.Shared else if is_loose_kind kind then Mode.LooseUnpinned
    else Mode.Pinned

-- whether a handle of this mode fits a reference of this kind
abbrev pub fits_mode : ℕ → Mode → Bool
fits_mode kind Mode.Pinned = is_pinned_kind kind
fits_mode kind Mode.Shared = is_shared_kind kind
fits_mode kind _ = is_loose_kind kind

abbrev pub identity_of : ArcRef → Identity
identity_of r = record { kind = r.kind; node = r.node }

-- whether a handle of this mode pins its node
abbrev pub is_pinning : Mode → Bool
is_pinning Mode.LooseUnpinned = false
is_pinning _ = true

-- whether a handle of this mode is loose: it can be pinned and unpinned, while any other pins as long as it is live
abbrev pub is_loose : Mode → Bool
is_loose Mode.LoosePinned = true
is_loose Mode.LooseUnpinned = true
is_loose _ = false

-- whether the mode is loose and unpinned; below: Pinned; Shared
abbrev pub is_unpinned : Mode → Bool
is_unpinned Mode.LooseUnpinned = true
is_unpinned _ = false

abbrev pub is_pinned : Mode → Bool
is_pinned Mode.Pinned = true
is_pinned _ = false

abbrev pub is_shared : Mode → Bool
is_shared Mode.Shared = true
is_shared _ = false

abbrev pub any_mode : Mode → Bool
any_mode mode = true

abbrev pub is_owner : Owner → Owner → Bool
is_owner Owner.Caller Owner.Caller = true
is_owner (Owner.Value n) (Owner.Value m) = m.0 == n.0
is_owner Owner.List Owner.List = true
is_owner (Owner.Load l) (Owner.Load m) = m.0 == l.0
is_owner (Owner.Worker v) (Owner.Worker u) = u.0 == v.0
is_owner _ _ = false

-- owners: the value of this node; below: the worker with this number
abbrev pub owner_value : ℕ → Owner
owner_value n = Owner.Value (record { 0 = n })

abbrev pub owner_worker : ℕ → Owner
owner_worker v = Owner.Worker (record { 0 = v })

abbrev pub is_handle : ℕ → HandleRow → Bool
is_handle q h = h.number.0 == q

-- whether the handle is of this node; below: and pins it; and is a Shared one
abbrev pub is_at : ℕ → HandleRow → Bool
is_at n h = h.node.0 == n

abbrev pub is_pin : ℕ → HandleRow → Bool
is_pin n h = h.node.0 == n && is_pinning h.mode

abbrev pub is_share : ℕ → HandleRow → Bool
is_share n h = h.node.0 == n && is_shared h.mode

-- whether this owner has the handle
abbrev pub is_owned_by : Owner → HandleRow → Bool
is_owned_by o h = is_owner o h.owner

-- how many handles a node has; below: how many of them pin it; how many of them are Shared (all or none, by the
-- invariant)
abbrev pub held : ℕ → List HandleRow → ℕ
held n rows = sum_by (λ h. one (is_at n h)) rows

abbrev pub pins : ℕ → List HandleRow → ℕ
pins n rows = sum_by (λ h. one (is_pin n h)) rows

abbrev pub sharing : ℕ → List HandleRow → ℕ
sharing n rows = sum_by (λ h. one (is_share n h)) rows

unfoldable pub find_row : ℕ → List HandleRow → Option HandleRow
find_row q [] = None
find_row q (h ∷ hs) = if is_handle q h then Some h else find_row q hs

abbrev pub has_key : OptionalDataKey → Bool
has_key OptionalDataKey.None = false
has_key (OptionalDataKey.Some key) = true

-- whether a node with this many pins and this key has its value in memory: something pins it, or it has no key
abbrev pub is_in_memory : ℕ → OptionalDataKey → Bool
is_in_memory pinned key = nat_lt 0 pinned || not (has_key key)
