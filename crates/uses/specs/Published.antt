-- A value that was read under a key, and what a publisher says of the key.
use Rattle.pagable_load.specs.Keyed.{DoesNotClash}
use Rattle.pagable_pager_spec.specs.{Basics.Tree, Pager.{PagerState, ValueStands}, World.{IsLawful, Values}}
use Rattle.pagable_value_spec.specs.{Blob.{Blob, key_of}, Canonical.IsReadableType, Merkle.HasOwnKeys, Trees.ReadsTree}
use Rattle.std.specs.Prelude.{Option, Some, ℕ, [], ◌≡◌}

-- the pager's state, if its storage had stored what the publisher has
abbrev pub over : {N E : Type 0} → (ℕ → Option Blob) → PagerState N E → PagerState N E
over published s = record s { core = record s.core { stored = published } }

-- The node of a value, and the blob that was read for it, whose hash is the key. A publisher that has each blob under
-- its own hash has, under this key, one without references, and that isn't another one with the hash of the blob that
-- was read: then the node's value stands for the tree that the publisher's blob says.
pub record IsPublished {N T E : Type 0} (v : Values N) (s : PagerState N E) (held : N → Option T) (key t : ℕ)
    (a : T) : Type 0 where
  pub x : N
  pub holds : held x ≡ Some a
  pub read : Blob
  pub named : key_of v.hash read ≡ key
  pub right : (published : ℕ → Option Blob) (tree : Tree) → IsLawful v → IsReadableType v.types t
      → HasOwnKeys v.hash published → DoesNotClash v.hash published key read
      → ((said : Blob) → published key ≡ Some said → said.keys ≡ []) → tree.type ≡ t
      → ReadsTree published v.types key tree → ValueStands v (over published s) x tree
