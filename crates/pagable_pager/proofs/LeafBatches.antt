-- Leaves that were written before they are paged out: they stay so while others are paged out one after the other.
use Rattle.pagable_core.specs.{Data.blob_of, declared.storage.data.PagableData.PagableData}
use Rattle.pagable_load.specs.WorkerCalls.{HasPagedLeaves, PagesLeaves, no-leaf, one-more-leaf}
use Rattle.pagable_pager.specs.{
  LeafPageOut.{AreShared, AreWritten, IsBareAt, IsShared, IsWritten, PagesLeafIfThere, WritesBare, WritesLeaf, leaf_keys},
  View.{AddsNoValue, ChangesOnlyStorage, FewerValues, KeepsWorkers, PagerView, Storages, pager_core, pager_state},
  declared.pager.leaf_page_out.{SharedLeaf.SharedLeaf, WrittenLeaf.WrittenLeaf},
}
use Rattle.pagable_pager_spec.specs.{Basics.Error, Pager.PagerState, World.{Core, Values}}
use Rattle.pagable_value_spec.specs.Blob.{key_of}
use Rattle.std.proofs.{Common.{Bool, Err, IsTrue, List, None, Ok, Option, Result, Some, ap, arith, false, if◌then◌else◌, map, refl, subst, sym, true, ℕ, [], ◌++◌, ◌+◌, ◌∙◌, ◌∷◌, ◌≡◌, ◌≤◌}, lemmas.{List.{map_push, same_from_push}, Simd.map-map}}
use Rattle.std.specs.{Arc.arc_value, List.AllByRecursion}

-- ---- what holds of each element of a list, and of one more

all-push : {X : Type 0} (P : X → Type 0) (xs : List X) (x : X) → AllByRecursion P xs → P x → AllByRecursion P (xs ++ x ∷ [])
all-push P [] x all one = (one, tt)
all-push P (y ∷ xs) x all one = (all.0, all-push P xs x all.1 one)

all-pop : {X : Type 0} (P : X → Type 0) (xs : List X) (x : X) → AllByRecursion P (xs ++ x ∷ []) → AllByRecursion P xs × P x
all-pop P [] x all = (tt, all.0)
all-pop P (y ∷ xs) x all = let rest = all-pop P xs x all.1 in ((all.0, rest.0), rest.1)

all-turn : {X : Type 0} (P Q : X → Type 0) → ((x : X) → P x → Q x) → (xs : List X) → AllByRecursion P xs → AllByRecursion Q xs
all-turn P Q f [] all = tt
all-turn P Q f (x ∷ xs) all = (f x all.0, all-turn P Q f xs all.1)

-- ---- leaves that are shared and written

module _ {N E : Type 0} where
  -- a value that is the node's is written
  pub written-shared : (v : Values N) (s : PagerState N E) (shared : SharedLeaf N) (leaf : WrittenLeaf) → leaf.node ≡ shared.node
      → WritesBare v (arc_value shared.value) (blob_of leaf.blob) → IsShared s shared → IsWritten v s leaf
  written-shared v s shared leaf same writes held = record {
    writes = λ y there.
        let both : Some y ≡ Some (arc_value shared.value) = sym (rw same at there) ∙ held in
        let e : arc_value shared.value ≡ y = cc in
        rw e at writes;
  }

  -- as long as there is a value in memory, it is of this
  pub still-written : (v : Values N) (s : PagerState N E) (leaf : WrittenLeaf) (x : N) → s.values leaf.node.0 ≡ Some x → IsWritten v s leaf
      → WritesLeaf v s leaf.node.0 (blob_of leaf.blob)
  still-written v s leaf x held w = record { x = x; held = held; writes = w.writes x held }

  -- a value without references is the only one of its node
  pub bare-held : (v : Values N) (s : PagerState N E) (node : ℕ) (x : N) → s.values node ≡ Some x → v.references x ≡ [] → IsBareAt v s node
  bare-held v s node x held none y there =
      let both : Some x ≡ Some y = sym held ∙ there in
      let e : x ≡ y = cc in
      rw e at none

  pub shared-push : (s : PagerState N E) (leaves : List (SharedLeaf N)) (leaf : SharedLeaf N) → AreShared s leaves → IsShared s leaf
      → AreShared s (leaves ++ leaf ∷ [])
  shared-push s leaves leaf all one = all-push (IsShared s) leaves leaf all one

  pub shared-pop : (s : PagerState N E) (leaves : List (SharedLeaf N)) (leaf : SharedLeaf N) → AreShared s (leaves ++ leaf ∷ [])
      → AreShared s leaves × IsShared s leaf
  shared-pop s leaves leaf all = all-pop (IsShared s) leaves leaf all

  -- one more is written if it was pushed
  pub written-pushed : (v : Values N) (s : PagerState N E) (pushed : Bool) (leaves : List WrittenLeaf) (leaf : WrittenLeaf) (after : List WrittenLeaf)
      → after ≡ (if pushed then leaves ++ leaf ∷ [] else leaves) → AreWritten v s leaves → IsWritten v s leaf → AreWritten v s after
  written-pushed v s true leaves leaf after is all one = subst (AreWritten v s) (sym is) (all-push (IsWritten v s) leaves leaf all one)
  written-pushed v s false leaves leaf after is all one = subst (AreWritten v s) (sym is) all

-- what stays where the storage alone changes, and then no value comes
pub fewer-after : {N S E : Type 0} (p q r : PagerView N S E) → ChangesOnlyStorage p q → AddsNoValue q r → FewerValues p r
fewer-after p q r asks only = record { values = λ n x held. rw asks.values at (only.values n x held); environment = only.environment ∙ asks.environment }

-- the keys of leaves, from those of their blobs
pub leaf-keys-are : {B : Type 0} (digest : List ℕ → List ℕ) (now : B → PagableData) (blobs : List B) (leaves : List WrittenLeaf) (keys : List ℕ)
    → map now blobs ≡ map (λ leaf. leaf.blob) leaves → keys ≡ map (λ b. key_of digest (blob_of (now b))) blobs → keys ≡ leaf_keys digest leaves
leaf-keys-are digest now blobs leaves keys same are =
    are ∙ sym (map-map (λ (d : PagableData). key_of digest (blob_of d)) now blobs) ∙ ap (map (λ (d : PagableData). key_of digest (blob_of d))) same
    ∙ map-map (λ (d : PagableData). key_of digest (blob_of d)) (λ (leaf : WrittenLeaf). leaf.blob) leaves

-- ---- several leaves, one after the other

module _ {N S E H K V : Type 0} (tells : Storages S E N H K V) (says : E → Values N) (digest : List ℕ → List ℕ) where
  abbrev IsWrittenIn : PagerView N S E → WrittenLeaf → Type 0
  IsWrittenIn p leaf = IsWritten (says p.environment) (pager_state tells p) leaf

  abbrev AreWrittenIn : PagerView N S E → List WrittenLeaf → Type 0
  AreWrittenIn p leaves = AreWritten (says p.environment) (pager_state tells p) leaves

  -- a leaf stays written where no value comes
  pub written-later : (p q : PagerView N S E) → FewerValues p q → (leaf : WrittenLeaf) → IsWrittenIn p leaf → IsWrittenIn q leaf
  written-later p q fewer leaf w = record { writes = λ x held. rw fewer.environment (w.writes x (fewer.values leaf.node.0 x held)) }

  abbrev keys_of : List WrittenLeaf → List ℕ
  keys_of leaves = leaf_keys digest leaves

  -- The entries down to `rest` are paged out, and these leaves with these keys are left; if all leaves were written at
  -- the beginning, each entry was paged out as a leaf, and those that are left are written.
  pub record BatchRuns (all : List WrittenLeaf) (left : ℕ) (old : PagerView N S E) (rest : ℕ) (leaves : List WrittenLeaf) (keys : List ℕ)
      (now : PagerView N S E) : Type 0 where
    pub paged : AreWrittenIn old all → IsTrue (tells.is_honest now.storage)
        → HasPagedLeaves (says old.environment) left (pager_state tells old) rest (pager_state tells now)
    pub honest : IsTrue (tells.is_honest now.storage) → IsTrue (tells.is_honest old.storage)
    pub kept : KeepsWorkers (pager_core tells old) (pager_core tells now)
    pub fewer : FewerValues old now
    pub bound : rest ≤ left
    pub written : AreWrittenIn old all → AreWrittenIn now leaves
    pub keyed : keys ≡ keys_of leaves

  pub batch-begins : (left : ℕ) (p : PagerView N S E) (leaves : List WrittenLeaf) (keys : List ℕ) → keys ≡ keys_of leaves
      → BatchRuns leaves left p left leaves keys p
  batch-begins left p leaves keys keyed = record {
    paged = λ all honest. no-leaf;
    honest = λ h. h;
    kept = record { workers = refl; closed = refl };
    fewer = record { values = λ n x held. held; environment = refl };
    bound = omega arith;
    written = λ all. all;
    keyed = keyed;
  }

  -- a leaf and its key are taken from the batch
  pub record LeafTaken (all : List WrittenLeaf) (left : ℕ) (old : PagerView N S E) (rest : ℕ) (leaves : List WrittenLeaf) (keys : List ℕ)
      (leaf : WrittenLeaf) (key : ℕ) (now : PagerView N S E) : Type 0 where
    pub batch : BatchRuns all left old rest leaves keys now
    pub written : AreWrittenIn old all → IsWrittenIn now leaf
    pub keyed : key ≡ key_of digest (blob_of leaf.blob)

  pub take-leaf : {all : List WrittenLeaf} {left rest : ℕ} {old now : PagerView N S E} {before leaves : List WrittenLeaf} {before-keys keys : List ℕ} (leaf : WrittenLeaf) (key : ℕ)
      → BatchRuns all left old rest before before-keys now → before ≡ leaves ++ leaf ∷ [] → before-keys ≡ keys ++ key ∷ []
      → LeafTaken all left old rest leaves keys leaf key now
  take-leaf {all} {left} {rest} {old} {now} {before} {leaves} {before-keys} {keys} leaf key b more more-keys =
      let parts : AreWrittenIn old all → AreWrittenIn now leaves × IsWrittenIn now leaf = λ a. all-pop (IsWrittenIn now) leaves leaf (rw more at (b.written a)) in
      let both : keys ++ key ∷ [] ≡ keys_of leaves ++ key_of digest (blob_of leaf.blob) ∷ [] =
      sym more-keys ∙ b.keyed ∙ ap keys_of more ∙ map_push (λ (l : WrittenLeaf). key_of digest (blob_of l.blob)) leaves leaf in
      let same = same_from_push keys (keys_of leaves) key (key_of digest (blob_of leaf.blob)) both in
      record {
        batch = record { paged = b.paged; honest = b.honest; kept = b.kept; fewer = b.fewer; bound = b.bound; written = λ a. (parts a).0; keyed = same.0 };
        written = λ a. (parts a).1;
        keyed = same.1;
      }

  -- the pager before and after a leaf's page-out
  pub record LeafCalled (old : PagerView N S E) (leaf : WrittenLeaf) (place : ℕ) (result : Result (Option ℕ) Error) (new : PagerView N S E) : Type 0 where
    pub pages : IsTrue (tells.is_honest new.storage) → IsWritten (says old.environment) (pager_state tells old) leaf
        → PagesLeafIfThere (says old.environment) (pager_state tells old) place result (pager_state tells new)
    pub honest : IsTrue (tells.is_honest new.storage) → IsTrue (tells.is_honest old.storage)
    pub kept : KeepsWorkers (pager_core tells old) (pager_core tells new)
    pub fewer : FewerValues old new

  kept-then : {w1 w2 w3 : Core} → KeepsWorkers w1 w2 → KeepsWorkers w2 w3 → KeepsWorkers w1 w3
  kept-then a b = record { workers = b.workers ∙ a.workers; closed = b.closed ∙ a.closed }

  fewer-then : {p q r : PagerView N S E} → FewerValues p q → FewerValues q r → FewerValues p r
  fewer-then a b = record { values = λ n x held. a.values n x (b.values n x held); environment = b.environment ∙ a.environment }

  -- what the whole call is to give
  pub record LeavesCalled (all : List WrittenLeaf) (old : PagerView N S E) (left : ℕ) (result : Result ℕ Error) (new : PagerView N S E) : Type 0 where
    pub pages : IsTrue (tells.is_honest new.storage) → AreWritten (says old.environment) (pager_state tells old) all
        → PagesLeaves (says old.environment) (pager_state tells old) left result (pager_state tells new)
    pub honest : IsTrue (tells.is_honest new.storage) → IsTrue (tells.is_honest old.storage)
    pub kept : KeepsWorkers (pager_core tells old) (pager_core tells new)
    pub fewer : FewerValues old new

  module _ {all : List WrittenLeaf} {left rest place : ℕ} {old now new : PagerView N S E} {leaves : List WrittenLeaf} {keys : List ℕ} {leaf : WrittenLeaf} {own : ℕ} where
    -- what the leaf's page-out did, as the environment was at the beginning
    leaf-went : LeafTaken all left old rest leaves keys leaf own now → (result : Result (Option ℕ) Error) → LeafCalled now leaf place result new
        → AreWrittenIn old all → IsTrue (tells.is_honest new.storage)
        → PagesLeafIfThere (says old.environment) (pager_state tells now) place result (pager_state tells new)
    leaf-went taken result call a honest =
        subst (λ e. PagesLeafIfThere (says e) (pager_state tells now) place result (pager_state tells new)) taken.batch.fewer.environment
        (call.pages honest (taken.written a))

    -- one more is paged out
    pub batch-goes : {key : ℕ} → LeafTaken all left old rest leaves keys leaf own now → rest ≡ place + 1 → LeafCalled now leaf place (Ok (Some key)) new
        → BatchRuns all left old place leaves keys new
    batch-goes {key} taken next call =
        let b = taken.batch in
        record {
          paged = λ a honest.
              one-more-leaf place key (pager_state tells now) (pager_state tells new)
              (subst (λ n. HasPagedLeaves (says old.environment) left (pager_state tells old) n (pager_state tells now)) next (b.paged a (call.honest honest)))
              (leaf-went taken (Ok (Some key)) call a honest);
          honest = λ h. b.honest (call.honest h);
          kept = kept-then b.kept call.kept;
          fewer = fewer-then b.fewer call.fewer;
          bound = omega (arith, b.bound, next);
          written = λ a. all-turn (IsWrittenIn now) (IsWrittenIn new) (written-later now new call.fewer) leaves (b.written a);
          keyed = b.keyed;
        }

    -- the next isn't an entry any more
    pub batch-stops : LeafTaken all left old rest leaves keys leaf own now → LeafCalled now leaf place (Ok None) new
        → LeavesCalled all old left (Ok rest) new
    batch-stops taken call =
        let b = taken.batch in
        record {
          pages = λ honest a.
              subst (λ t. HasPagedLeaves (says old.environment) left (pager_state tells old) rest t) (sym (leaf-went taken (Ok None) call a honest))
              (b.paged a (call.honest honest));
          honest = λ h. b.honest (call.honest h);
          kept = kept-then b.kept call.kept;
          fewer = fewer-then b.fewer call.fewer;
        }

    -- the next fails
    pub batch-fails : (e : Error) → LeafTaken all left old rest leaves keys leaf own now → rest ≡ place + 1 → LeafCalled now leaf place (Err e) new
        → LeavesCalled all old left (Err e) new
    batch-fails e taken next call =
        let b = taken.batch in
        record {
          pages = λ honest a. (
            place,
            pager_state tells now,
            subst (λ n. HasPagedLeaves (says old.environment) left (pager_state tells old) n (pager_state tells now)) next (b.paged a (call.honest honest)),
            leaf-went taken (Err e) call a honest,
          );
          honest = λ h. b.honest (call.honest h);
          kept = kept-then b.kept call.kept;
          fewer = fewer-then b.fewer call.fewer;
        }

  -- no leaf is left
  pub batch-ends : {all : List WrittenLeaf} {left rest : ℕ} {old now : PagerView N S E} {leaves : List WrittenLeaf} {keys : List ℕ} → BatchRuns all left old rest leaves keys now
      → LeavesCalled all old left (Ok rest) now
  batch-ends b = record { pages = λ honest a. b.paged a honest; honest = b.honest; kept = b.kept; fewer = b.fewer }
