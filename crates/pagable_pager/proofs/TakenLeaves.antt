-- Leaves that are taken off the page-out list: what is known after one more of them.
use Rattle.pagable_core.specs.{Data.blob_of, declared.storage.data.PagableData.PagableData}
use Rattle.pagable_load.{proofs.LoadSteps.{acts_then}, specs.AccessView.{Acting, Acts}}
use Rattle.pagable_pager.specs.{
  LeafPageOut.WritesBare,
  TakenLeaves.{HasStored, HasTaken, StoresAndReleases, TakesLeaf, WritesEach, one-more-stored, one-more-taken},
  declared.lent.leaves.TakenLeaf.{TakenLeaf},
}
use Rattle.pagable_pager_spec.specs.{Pager.PagerState, World.{Values}, declared.handle_row.Owner.{Owner}}
use Rattle.std.proofs.Common.{List, Option, Some, ap, arith, length, map, slice_get, subst, sym, ℕ, [], ◌++◌, ◌+◌, ◌-◌, ◌<◌, ◌∙◌, ◌∷◌, ◌≡◌}
use Rattle.std.specs.Arc.{arc_value}

module _ {N : Type 0} (v : Values N) where
  -- one more blob is written, of the leaf that comes next
  pub writes-push : (leaves : List (TakenLeaf N)) (blobs : List PagableData) (leaf : TakenLeaf N) (blob : PagableData)
      → slice_get leaves (length blobs) ≡ Some leaf → WritesEach v leaves blobs → WritesBare v (arc_value leaf.value) (blob_of blob)
      → WritesEach v leaves (blobs ++ blob ∷ [])
  writes-push [] [] leaf blob at all one = absurd (cc)
  writes-push (first ∷ leaves) [] leaf blob at all one =
      let same : first ≡ leaf = cc in
      (subst (λ (l : TakenLeaf N). WritesBare v (arc_value l.value) (blob_of blob)) (sym same) one, tt)
  writes-push [] (b ∷ blobs) leaf blob at all one = absurd all
  writes-push (first ∷ leaves) (b ∷ blobs) leaf blob at all one = (all.0, writes-push leaves blobs leaf blob at all.1 one)

-- one more entry is taken, of the place below
pub taken-more : {N E : Type 0} {v : Values N} {me : Owner} {left : ℕ} {s mid t : PagerState N E} {leaves : List (TakenLeaf N)} (leaf : TakenLeaf N)
    (place : ℕ) → 0 < place → HasTaken v me left s leaves place mid → TakesLeaf v me (place - 1) (Some leaf) mid t
    → HasTaken v me left s (leaves ++ leaf ∷ []) (place - 1) t
taken-more {v = v} {me} {left} {s} {mid} {t} {leaves} leaf place some before takes =
    let back : place ≡ place - 1 + 1 = omega (arith, some) in
    one-more-taken leaves leaf (place - 1) mid t (subst (λ n. HasTaken v me left s leaves n mid) back before) takes

-- one more leaf is stored, the next of those that are left
pub stored-more : {N E : Type 0} {v : Values N} {me : Owner} {all : List (TakenLeaf N)} {blobs : List PagableData} {s mid t : PagerState N E}
    {left rest : List (TakenLeaf N)} {items more : List PagableData} (leaf : TakenLeaf N) (blob : PagableData) → left ≡ leaf ∷ rest → items ≡ blob ∷ more
    → HasStored v me all blobs s left items mid → StoresAndReleases v me leaf.handle (blob_of blob) mid t → HasStored v me all blobs s rest more t
stored-more {v = v} {me} {all} {blobs} {s} {mid} {t} {left} {rest} {items} {more} leaf blob first next before stores =
    one-more-stored leaf rest blob more mid t
    (subst (λ ls. HasStored v me all blobs s ls (blob ∷ more) mid) first (subst (λ bs. HasStored v me all blobs s left bs mid) next before)) stores

-- the keys of the blobs that come after this one
pub keys-next : {A : Type 0} (f : A → ℕ) {keys rest : List ℕ} {items more : List A} {key : ℕ} {a : A} → keys ≡ map f items → items ≡ a ∷ more → keys ≡ key ∷ rest
    → rest ≡ map f more
keys-next f {rest = rest} {more = more} {key = key} {a = a} same next first =
    let e : key ∷ rest ≡ f a ∷ map f more = sym first ∙ same ∙ ap (map f) next in
    cc

-- three things one after another
module _ {A S E : Type 0} {told : A → Option S} {by : A → Acting E} where
  pub acts-three : {o m k n : A} {R T U Q : Acting E → S → S → Type 0} → Acts told by o m R → Acts told by m k T → Acts told by k n U
      → ((s a b t : S) → R (by o) s a → T (by o) a b → U (by o) b t → Q (by o) s t) → Acts told by o n Q
  acts-three {T = T} {U = U} h i j f =
      acts_then h (acts_then {Q = λ x s t. (b : S) × T x s b × U x b t} i j (λ s b t p q. (b, p, q))) (λ s a t p q. f s a q.0 t p q.1 q.2)
