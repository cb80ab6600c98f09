-- What each step of a load keeps, by the hash alone: each blob that it reads was asked for under its own hash. And what follows for the value, where a store
-- has a blob under the key.
use Rattle.pagable_load.proofs.{Batches.stopped_at, LoadSteps.{acts_map, hands_over}}
use Rattle.pagable_load.specs.{
  Decoding.IsReadAs,
  Keyed.{AfterKeyed, Came, EachGot, FramesKeyed, HoldsKeyed, IsEndKeyed, IsFrameKeyed, IsKeyed, IsShareKeyed, LeavesAreRight, StaysKeyed, TreesAreRight},
  Keyed.{came-read, more-keyed, no-frames, root-keyed},
  declared.reading.LoadOutcome.LoadOutcome,
}
use Rattle.pagable_pager_spec.specs.{
  Basics.{Among, Blob, Error, Kind, Tree, Types, is_eager, type_of},
  Loads.{IsDecoded, ReadsNode, ReadsRoot, need_at, need_of, needs_lazy, needs_nested, nested_frame, next_in, root_frame},
  Pager.{FrameFits, ReadsNodeTree, ValueStands},
  Runs.ReadsAsValue,
  World.{Frame, Reading, Values},
}
use Rattle.pagable_theorems.proofs.{Decoding.{decodes, read_stands}, LoadProgress.{asked, pushed}, Trees.one_tree}
use Rattle.pagable_value_spec.specs.{
  Blob.key_of,
  Trees.ReadsAs,
  declared.numbers.{ArcRef.ArcRef, HandleNumber.HandleNumber},
}
use Rattle.std.specs.{Arc.arc_value, Global.Global, Prelude.{IfSome, IsSome}, declared.sync.Arc.Arc}
use Rattle.std.proofs.{
  Common.{Bool, Err, List, None, Ok, Option, Result, Some, ap, arith, false, if◌then◌else◌, inl, inr, length, refl, slice_get, subst, sym, true, ℕ, [], ◌++◌, ◌∙◌, ◌∷◌, ◌≡◌, ◌⊎◌},
  lemmas.{List.{length-append, nil_from_length}, Option.slice_get_within},
}

got_more : (P : ArcRef → ℕ → Type 0) (got : List ArcRef) (keys : List ℕ) (r : ArcRef) (k : ℕ) → EachGot P got keys → slice_get keys (length got) ≡ Some k → P r k
    → EachGot P (got ++ r ∷ []) keys
got_more P got keys r k each at p place q s there stands = elim (pushed got r place s there) [
  | inl old ↦ each place q s old stands
  | inr (here, same) ↦ let e : Some k ≡ Some q = sym at ∙ ap (slice_get keys) (sym here) ∙ stands in
      let one : k ≡ q = cc in subst (λ x. P x q) same (subst (P r) one p)
]

-- nothing was got
none_got : (P : ArcRef → ℕ → Type 0) (keys : List ℕ) → EachGot P [] keys
none_got P keys place q r at there = absurd (cc)

-- what the load needs next stands in the innermost blob
stands_next : {N : Type 0} (v : Values N) (f : Frame) (fs : List Frame) (kind : Kind) (k : ℕ)
    → (need_of v.types (f ∷ fs) ≡ needs_nested kind k) ⊎ (need_of v.types (f ∷ fs) ≡ needs_lazy kind k)
    → slice_get f.blob.keys (length f.got) ≡ Some k
stands_next v f fs kind k need = (stopped_at (slice_get f.blob.keys (length f.got)) _ kind k (asked fs (next_in v.types f) kind k need)).1

module _ {N : Type 0} (v : Values N) (key t : ℕ) where
  frame_more : (f : Frame) (r : ArcRef) (k : ℕ) → IsFrameKeyed v f → slice_get f.blob.keys (length f.got) ≡ Some k → Came v r k
      → IsFrameKeyed v (record f { got = f.got ++ r ∷ [] })
  frame_more f r k own at came =
      let within = slice_get_within f.blob.keys (length f.got) k at in
      record { named = own.named; few = omega (arith, within, length-append f.got (r ∷ [])); came = got_more (Came v) f.got f.blob.keys r k own.came at came }

  -- a frame that has got nothing yet
  frame_new : (f : Frame) → f.got ≡ [] → key_of v.hash f.blob ≡ f.key → IsFrameKeyed v f
  frame_new f none named =
      record {
        named = named;
        few = omega (arith, ap length none);
        came = subst (λ got. EachGot (Came v) got f.blob.keys) (sym none)
            (none_got (Came v) f.blob.keys);
      }

  got_keyed : (f : Frame) (fs : List Frame) (r : ArcRef) (k : ℕ) → slice_get f.blob.keys (length f.got) ≡ Some k → Came v r k → FramesKeyed v key t (f ∷ fs)
      → FramesKeyed v key t (record f { got = f.got ++ r ∷ [] } ∷ fs)
  got_keyed f fs r k at came (root-keyed g own of_key typed) = root-keyed (record f { got = f.got ++ r ∷ [] }) (frame_more f r k own at came) of_key typed
  got_keyed f fs r k at came (more-keyed a g gs own typed next more) =
      more-keyed (record f { got = f.got ++ r ∷ [] }) g gs (frame_more f r k own at came) typed next more

  node_keyed : (f g : Frame) (fs : List Frame) (r : ArcRef) (x : N) → IsDecoded v f x → r.kind ≡ f.kind → FramesKeyed v key t (f ∷ g ∷ fs)
      → FramesKeyed v key t (record g { got = g.got ++ r ∷ [] } ∷ fs)
  node_keyed f g fs r x d kind (more-keyed a b c own typed next more) =
      let read : IsReadAs v f.node_type f.blob f.got x = record { own = d.own; read = d.read; typed = d.typed; means = d.means } in
      let is : f.node_type ≡ type_of r.kind.0 = typed ∙ ap (λ (k : Kind). type_of k.0) (sym kind) in
      got_keyed g fs r f.key next (came-read r f.key f.blob f.got x own.named own.few (subst (λ n. IsReadAs v n f.blob f.got x) is read) own.came) more

  end_keyed : (f : Frame) (x : N) → IsDecoded v f x → FramesKeyed v key t (f ∷ []) → IsKeyed v key t x
  end_keyed f x d (root-keyed g own of_key typed) =
      let read : IsReadAs v f.node_type f.blob f.got x = record { own = d.own; read = d.read; typed = d.typed; means = d.means } in
      record {
        blob = f.blob;
        got = f.got;
        named = own.named ∙ of_key;
        few = own.few;
        read = subst (λ n. IsReadAs v n f.blob f.got x) typed read;
        came = own.came;
      }

  pub root_comes : {new : List Frame} (blob : Blob) → new ≡ root_frame key t blob ∷ [] → key_of v.hash blob ≡ key → FramesKeyed v key t new
  root_comes blob is named = subst (FramesKeyed v key t) (sym is)
      (root-keyed (root_frame key t blob) (frame_new (root_frame key t blob) refl named) refl refl)

  module _ (old new : List Frame) where
    pub root_stays : (blob : Blob) → new ≡ root_frame key t blob ∷ [] → key_of v.hash blob ≡ key → StaysKeyed v key t old None new
    root_stays blob is named = record { follows = λ h. root_comes blob is named }

    pub got_stays : (f : Frame) (fs : List Frame) (r : ArcRef) (kind : Kind) (k : ℕ)
        → (need_of v.types old ≡ needs_nested kind k) ⊎ (need_of v.types old ≡ needs_lazy kind k) → old ≡ f ∷ fs
        → new ≡ record f { got = f.got ++ r ∷ [] } ∷ fs → Came v r k → StaysKeyed v key t old None new
    got_stays f fs r kind k need was is came = record {
      follows = λ h. subst (FramesKeyed v key t) (sym is) (got_keyed f fs r k
          (stands_next v f fs kind k (subst (λ o. (need_of v.types o ≡ needs_nested kind k) ⊎ (need_of v.types o ≡ needs_lazy kind k)) was need))
          came (subst (FramesKeyed v key t) was h));
    }

    pub blob_stays : (f : Frame) (fs : List Frame) (blob : Blob) (kind : Kind) (k : ℕ) → need_of v.types old ≡ needs_nested kind k → old ≡ f ∷ fs
        → new ≡ nested_frame kind k blob ∷ f ∷ fs → key_of v.hash blob ≡ k → StaysKeyed v key t old None new
    blob_stays f fs blob kind k need was is named = record {
      follows = λ h. subst (FramesKeyed v key t) (sym is) (more-keyed (nested_frame kind k blob) f fs (frame_new (nested_frame kind k blob) refl named) refl
          (stands_next v f fs kind k (inl (subst (λ o. need_of v.types o ≡ needs_nested kind k) was need)))
          (subst (FramesKeyed v key t) was h));
    }

    pub node_stays : (reading : Reading) (x : N) → reading.frames ≡ old → ReadsNode v reading x → (f g : Frame) (fs : List Frame) (r : ArcRef) → old ≡ f ∷ g ∷ fs
        → new ≡ record g { got = g.got ++ r ∷ [] } ∷ fs → r.kind ≡ f.kind → StaysKeyed v key t old None new
    node_stays reading x frames node f g fs r was is kind =
        let same : node.top ≡ f = (let e : node.top ∷ node.below ≡ f ∷ g ∷ fs = sym node.frames ∙ frames ∙ was in cc) in
        record {
          follows = λ h. subst (FramesKeyed v key t) (sym is) (node_keyed f g fs r x (subst (λ (y : Frame). IsDecoded v y x) same node.decoded) kind
              (subst (FramesKeyed v key t) was h));
        }

    pub read_stays : (reading : Reading) (x : N) → reading.frames ≡ old → ReadsRoot v reading x → StaysKeyed v key t old (Some (LoadOutcome.Read x)) new
    read_stays reading x frames root = record { follows = λ h. end_keyed root.root x root.decoded (subst (FramesKeyed v key t) (sym frames ∙ root.frames) h) }

    pub pin_stays : (reading : Reading) (x : N) (k : HandleNumber) (read : Option (Arc N Global)) → reading.frames ≡ old → ReadsRoot v reading x
        → IfSome read (λ a. arc_value a ≡ x) → StaysKeyed v key t old (Some (LoadOutcome.Pinned k read)) new
    pin_stays reading x k (Some a) frames root is = record {
      follows = λ h. subst (IsKeyed v key t) (sym is) (end_keyed root.root x root.decoded (subst (FramesKeyed v key t) (sym frames ∙ root.frames) h));
    }
    pin_stays reading x k None frames root is = record {
      follows = λ h. record { x = x; keyed = end_keyed root.root x root.decoded (subst (FramesKeyed v key t) (sym frames ∙ root.frames) h) };
    }

  -- nothing is done; below: the load is given up
  pub none_stays : {old : List Frame} → StaysKeyed v key t old None old
  none_stays = record { follows = λ h. h }

  pub refused_stays : {old new : List Frame} {e : Error} → StaysKeyed v key t old (Some (LoadOutcome.Refused e)) new
  refused_stays = record { follows = λ h. tt }

pub ruleset staying = (none_stays, refused_stays)

pub ruleset finishing = (acts_map, hands_over, refused_stays)

loose : (b : Bool) (kind : Kind) (k : ℕ) → (if b then needs_nested kind k else needs_lazy kind k) ≡ needs_lazy kind k → b ≡ false
loose true kind k e = absurd (cc)
loose false kind k e = refl

-- what is read lazily is loose
pub lazy_kind : (types : Types) (f : Frame) (fs : List Frame) (frames : List Frame) (kind : Kind) (k : ℕ) → frames ≡ f ∷ fs
    → need_of types frames ≡ needs_lazy kind k → (r : ArcRef) → r.kind ≡ kind → is_eager r.kind.0 ≡ false
lazy_kind types f fs frames kind k is need r of =
    let here = subst (λ o. need_of types o ≡ needs_lazy kind k) is need in
    let next = asked fs (next_in types f) kind k (inr here) in
    ap (λ (q : Kind). is_eager q.0) of ∙ loose (is_eager kind.0) kind k (subst (λ n. need_at fs n ≡ needs_lazy kind k) next here)

module _ {N E : Type 0} (says : E → Values N) {e e' : E} {key key' t t' : ℕ} (same : e' ≡ e) (of_key : key' ≡ key) (of_type : t' ≡ t) where
  -- one step after another
  pub then_stays : {old mid new : List Frame} {answer : Option (LoadOutcome N)} → StaysKeyed (says e) key t old None mid
      → StaysKeyed (says e') key' t' mid answer new → StaysKeyed (says e) key t old answer new
  then_stays {mid = mid} {new = new} {answer = answer} one two =
      let moved : StaysKeyed (says e) key t mid answer new = subst (λ x. StaysKeyed (says x) key t mid answer new) same
      (subst (λ k. StaysKeyed (says e') k t mid answer new) of_key (subst (λ u. StaysKeyed (says e') key' u mid answer new) of_type two)) in
      record { follows = λ h. moved.follows (one.follows h) }

  -- a load that begins has read nothing
  pub from_nothing : {frames new : List Frame} {outcome : Option (LoadOutcome N)} → frames ≡ [] → StaysKeyed (says e') key' t' frames outcome new
      → AfterKeyed (says e) key t outcome new
  from_nothing {new = new} {outcome = outcome} none h =
      let k : AfterKeyed (says e') key' t' outcome new = h.follows (subst (FramesKeyed (says e') key' t') (sym none) no-frames) in
      subst (λ y. AfterKeyed (says y) key t outcome new) same
      (subst (λ y. AfterKeyed (says e') y t outcome new) of_key (subst (λ y. AfterKeyed (says e') key' y outcome new) of_type k))

-- a load of a cell, from its root's blob on
pub from_root : {N : Type 0} {v : Values N} {key key' t t' : ℕ} {frames new : List Frame} {outcome : Option (LoadOutcome N)} (blob : Blob) → key' ≡ key
    → t' ≡ t → frames ≡ root_frame key t blob ∷ [] → key_of v.hash blob ≡ key → StaysKeyed v key' t' frames outcome new → AfterKeyed v key t outcome new
from_root {N} {v} {key} {key'} {t} {t'} {frames} {new} {outcome} blob of_key of_type is named stays =
    let moved : StaysKeyed v key t frames outcome new =
    subst (λ q. StaysKeyed v q t frames outcome new) of_key (subst (λ u. StaysKeyed v key' u frames outcome new) of_type stays) in
    moved.follows (root_comes v key t blob is named)

-- the value's own type is the one as which it was read
pub own_type : {N : Type 0} {v : Values N} {key t : ℕ} {x : N} → IsKeyed v key t x → IsKeyed v key (v.node_type x) x
own_type {v = v} {key = key} {x = x} read = subst (λ u. IsKeyed v key u x) (sym read.read.typed) read

-- a value that was read from a blob without references
pub leaf_keyed : {N : Type 0} {v : Values N} {key t : ℕ} {x : N} (blob : Blob) → key_of v.hash blob ≡ key → IsReadAs v t blob [] x → IsKeyed v key t x
leaf_keyed {v = v} blob named read =
    record { blob = blob; got = []; named = named; few = omega arith; read = read; came = none_got (Came v) blob.keys }

-- a pin that names a key shares the value that its load has read under it
pub share_keyed : {N : Type 0} (v : Values N) (key t : ℕ) (read : Option (Arc N Global)) (read_from : Option ℕ) (shared : Result (Option (Arc N Global)) Error)
    → IsEndKeyed v key t read → IfSome read_from (λ from. (from ≡ key) × (shared ≡ Ok read) × IsSome read) → IsShareKeyed v read_from shared
share_keyed v key t read None (Ok (Some x)) ended is = tt
share_keyed v key t read None (Ok None) ended is = tt
share_keyed v key t read None (Err e) ended is = tt
share_keyed v key t read (Some from) (Ok None) ended is = tt
share_keyed v key t read (Some from) (Err e) ended is = tt
share_keyed v key t None (Some from) (Ok (Some y)) ended (at, same, some) = let e : false ≡ true = some in absurd (cc)
share_keyed v key t (Some x) (Some from) (Ok (Some y)) ended (at, same, some) =
    let one : y ≡ x = cc in
    subst (λ k. IsKeyed v k (v.node_type (arc_value y)) (arc_value y)) (sym at)
    (subst (λ z. IsKeyed v key (v.node_type (arc_value z)) (arc_value z)) (sym one) (own_type ended))

-- the value that was taken out of a node
pub held_keyed : {N T : Type 0} {v : Values N} {held : N → Option T} {key t : ℕ} {x : N} {a : T} → IsKeyed v key t x → Some a ≡ held x
    → HoldsKeyed v held key t a
held_keyed {x = x} read holds = record { x = x; keyed = read; holds = sym holds }

-- ---- what a read tells of what a key says

pub trees_are_right : {N E : Type 0} (v : Values N) → TreesAreRight E v
trees_are_right v s trees key t x read tree lawful readable keys clash typed reads nodes stand =
    let said : ReadsAs s.core.stored v.types tree.type key reads.own = reads.reads in
    let same : said.blob ≡ read.blob = clash said.blob said.stored (sym (keys key said.blob said.stored) ∙ sym read.named) in
    let frame : Frame = record (root_frame key t read.blob) { got = read.got } in
    let fits : FrameFits v.types s.core.stored trees frame = record { is = said.stored ∙ ap Some same; few = read.few; got = nodes } in
    let d : IsDecoded v frame x = record { own = read.read.own; read = read.read.read; typed = read.read.typed; means = read.read.means } in
    let found : ReadsAsValue v s x key = read_stands lawful s trees frame x readable fits d stand in
    let one : found.read ≡ tree =
    one_tree s.core.stored v.types key found.read tree (sym found.stands.typed ∙ read.read.typed ∙ sym typed) found.reads reads in
    subst (λ (z : Tree). ValueStands v s x z) one found.stands

pub leaves_are_right : {N E : Type 0} (v : Values N) → LeavesAreRight E v
leaves_are_right v s key t x read tree lawful readable keys clash leaf typed reads =
    let said : ReadsAs s.core.stored v.types tree.type key reads.own = reads.reads in
    let same : said.blob ≡ read.blob = clash said.blob said.stored (sym (keys key said.blob said.stored) ∙ sym read.named) in
    let none : read.got ≡ [] = nil_from_length read.got (omega (
      arith,
      read.few,
      ap (λ (b : Blob). length b.keys) (sym same),
      ap length (leaf said.blob said.stored),
    )) in
    let trees : ℕ → Tree = λ n. tree in
    let fits_tree : ArcRef → ℕ → Type 0 = λ r k. ReadsNodeTree v.types s.core.stored trees k (type_of r.kind.0) r.node.0 in
    let frame : Frame = record (root_frame key t read.blob) { got = read.got } in
    let nodes : EachGot fits_tree read.got read.blob.keys = subst (λ (got : List ArcRef). EachGot fits_tree got read.blob.keys) (sym none)
    (none_got fits_tree read.blob.keys) in
    let fits : FrameFits v.types s.core.stored trees frame = record { is = said.stored ∙ ap Some same; few = read.few; got = nodes } in
    let d : IsDecoded v frame x = record { own = read.read.own; read = read.read.read; typed = read.read.typed; means = read.read.means } in
    trees_are_right v s trees key t x read tree lawful readable keys clash typed reads nodes
    (λ r among. let one : Among [] r = subst (λ xs. Among xs r) none ((decodes lawful frame x readable fits d).got r among) in absurd (cc))
