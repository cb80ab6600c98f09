-- What the values of a type hold beside references, made of what their fields hold: each word as the encoding of the
-- same field has it.
use Rattle.indexmap.specs.IndexMap.{IndexMap}
use Rattle.pagable_traits.specs.HeldValues.{Beside, lists_beside, pairs_beside}
use Rattle.smallvec.specs.SmallVec.{SmallVec}
use Rattle.std.specs.{BTreeMap.BTreeMap, Global.{Box, Vec}}

-- a struct, seen as the tuple of its fields
abbrev pub fields_beside : {N X Y : Type 0} → (X → Y) → Beside N Y → Beside N X
fields_beside view B x = B (view x)

abbrev pub many_beside : {N T : Type 0} → Beside N T → Beside N (Vec T)
many_beside B v = lists_beside B v.items

abbrev pub small_vec_beside : {N T : Type 0} → Beside N T → Beside N (SmallVec T)
small_vec_beside B v = lists_beside B v.items

abbrev pub boxed_beside : {N T : Type 0} → Beside N T → Beside N (Box T)
boxed_beside B b = B b.value

abbrev pub sorted_map_beside : {N K V : Type 0} → Beside N K → Beside N V → Beside N (BTreeMap K V)
sorted_map_beside B C m = lists_beside (pairs_beside B C) m.entries

abbrev pub placed_map_beside : {N K V S : Type 0} → Beside N K → Beside N V → Beside N (IndexMap K V S)
placed_map_beside B C m = lists_beside (pairs_beside B C) m.entries

-- tuples of more than two parts, each as the first part and the tuple of the others
module _ {N A B C : Type 0} (P : Beside N A) (Q : Beside N B) (R : Beside N C) where
  abbrev pub three_beside : Beside N (A × B × C)
  three_beside p = pairs_beside P (pairs_beside Q R) (p.0, (p.1, p.2))

  module _ {D : Type 0} (S : Beside N D) where
    abbrev pub four_beside : Beside N (A × B × C × D)
    four_beside p = pairs_beside P (pairs_beside Q (pairs_beside R S)) (p.0, (p.1, (p.2, p.3)))

    abbrev pub five_beside : {F : Type 0} → Beside N F → Beside N (A × B × C × D × F)
    five_beside T p = pairs_beside P (pairs_beside Q (pairs_beside R (pairs_beside S T)))
        (p.0, (p.1, (p.2, (p.3, p.4))))
