-- A place of the vector of handles as it is packed.
use Rattle.pagable_tables.specs.{
  HandlePlace.{HandlePlace, kind-again, kind_in, number_in, owner_in},
  declared.place.{OwnerKind.OwnerKind, Place.TheInside.Inside},
}
use Rattle.std.proofs.Common.{ap, ◌∙◌}
use Rattle.std.specs.Prelude.{ℕ, ◌≡◌}

abbrev pub unpack : Inside → HandlePlace
unpack a = record {
  row = record { number = a.number; node = a.node; mode = a.mode; owner = owner_in a.kind a.owner };
  is_live = a.is_live;
}

abbrev pub pack : HandlePlace → Inside
pack p = record {
  number = p.row.number;
  node = p.row.node;
  owner = number_in p.row.owner;
  kind = kind_in p.row.owner;
  mode = p.row.mode;
  is_live = p.is_live;
}

-- a kind that has no number has 0 beside it
abbrev pub IsPacked : Inside → Type 0
IsPacked a = number_in (owner_in a.kind a.owner) ≡ a.owner

pub pack-unpack : (a : Inside) → IsPacked a → pack (unpack a) ≡ a
pack-unpack a is =
    ap (λ (n : ℕ). record a { owner = n; kind = kind_in (owner_in a.kind a.owner) }) is
    ∙ ap (λ (k : OwnerKind). record a { kind = k }) (kind-again a.kind a.owner)
