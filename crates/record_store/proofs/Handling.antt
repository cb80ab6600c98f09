-- What the calls on several handles amount to, one handle after another.
use Rattle.pagable_calls.specs.{Cells.{OpensCell, Releases, cache-gives, cache-refuses, cell-is-new}, PageOuts.Clones, TypedReferences.Refers}
use Rattle.pagable_nodes.specs.declared.{one_node.OneNode.OneNode, records.Record.Record}
use Rattle.pagable_pager.specs.View.{AsksStorage, PagerView, Storages, pager_core}
use Rattle.pagable_pager_spec.specs.{Basics.{ArcRef, Error, HandleNumber}, Calls.FlushCall, World.{Core, Values}}
use Rattle.pagable_traits.specs.{References.{loose_kind, raw_reference}, declared.raw_ref.RawRef.RawRef}
use Rattle.record_store.specs.{
  Handles.{ClonesAll, ClonesFirst, ClonesOneMore, EntriesAreGone, FirstAreGone, ReleasesEach, ReleasesEntries, ReleasesEntry, ReleasesFirst, all-are-cloned},
  Handles.{all-are-gone, all-entries-are-gone, entry-fails, no-entry-is-gone, none-is-appended, one-is-appended, one-is-refused, one-more-entry-is-gone},
  Handles.{one-more-is-cloned, one-more-is-gone, one-more-is-released, release-fails},
  Records.{RefersThrough, handles_in, plainly, refers-to-more},
  Stores.{Opens, OpensLast, OpensSaved, Saves, ViewsRecord, is-viewed, last-is-opened, nothing-was-saved, references-arent-cloned},
  declared.store_error.StoreError.StoreError,
}
use Rattle.std.proofs.{
  Common.{Err, IfOk, IsTrue, List, Ok, OnOk, Option, Result, Some, ap, if◌then◌else◌, length, map, refl, subst, sym, take, true, ℕ, [], ◌++◌, ◌+◌, ◌∙◌, ◌∷◌, ◌≡◌},
  lemmas.{List.{map-append, take_more}, Option.{get_or_from_slice_get, slice_get_within}, Slice.Eq.bytes_eq-Decides},
}
use Rattle.std.specs.{Prelude.slice_get, Str.bytes_eq}

module _ {N S E H K V : Type 0} {tells : Storages S E N H K V} {old mid new : PagerView N S E} {hs : List HandleNumber} {n : ℕ} {h : HandleNumber} where
  pub one-released : {told : Result (Unit {0}) Error} → ReleasesFirst tells old hs n mid → slice_get hs n ≡ Some h → Releases tells mid h told new
      → ReleasesFirst tells old hs (n + 1) new
  one-released {told} so there call = one-more-is-released n h told mid new so there call

  pub one-gone : FirstAreGone tells old hs n mid → slice_get hs n ≡ Some h → Releases tells mid h (Ok tt) new → FirstAreGone tells old hs (n + 1) new
  one-gone so there call = one-more-is-gone n h mid new so there call

  pub fails-at : {e : Error} → FirstAreGone tells old hs n mid → slice_get hs n ≡ Some h → Releases tells mid h (Err e) new → ReleasesEach tells old hs (Err e) new
  fails-at {e} so there call = release-fails n h e mid new so there call

  pub one-cloned : {cs cs' : List HandleNumber} → ClonesFirst tells old hs n cs mid → slice_get hs n ≡ Some h → ClonesOneMore tells mid h cs (Ok tt) cs' new
      → ClonesFirst tells old hs (n + 1) cs' new
  one-cloned {cs} so there (one-is-appended c new2 call) = one-more-is-cloned n h c cs mid new so there call

  pub gives-up : {cs cs' : List HandleNumber} {e : Error} {low : PagerView N S E} → ClonesFirst tells old hs n cs mid → slice_get hs n ≡ Some h
      → ClonesOneMore tells mid h cs (Err e) cs' low
      → ReleasesFirst tells low cs' (length cs') new → ClonesAll tells old hs (Err e) new
  gives-up {cs} {e = e} {low} so there (none-is-appended e2 low2 refused) lets = one-is-refused n h cs e mid low new so there refused lets

module _ {N S E H K V : Type 0} {tells : Storages S E N H K V} {old new : PagerView N S E} {hs : List HandleNumber} {n : ℕ} where
  pub all-released : ReleasesFirst tells old hs n new → n ≡ length hs → ReleasesFirst tells old hs (length hs) new
  all-released so is = subst (λ k. ReleasesFirst tells old hs k new) is so

  pub all-gone : FirstAreGone tells old hs n new → n ≡ length hs → ReleasesEach tells old hs (Ok tt) new
  all-gone so is = all-are-gone new (subst (λ k. FirstAreGone tells old hs k new) is so)

  pub all-cloned : {cs : List HandleNumber} → ClonesFirst tells old hs n cs new → n ≡ length hs → ClonesAll tells old hs (Ok cs) new
  all-cloned {cs} so is = all-are-cloned cs new (subst (λ k. ClonesFirst tells old hs k cs new) is so)

module _ {N S E H K V : Type 0} {tells : Storages S E N H K V} {old : PagerView N S E} {n : ℕ} where
  pub entries-start : n ≡ length (pager_core tells old).list → EntriesAreGone tells old n old
  entries-start is = subst (λ k. EntriesAreGone tells old k old) (sym is) no-entry-is-gone

module _ {N S E H K V : Type 0} {tells : Storages S E N H K V} {old mid new : PagerView N S E} {n i : ℕ} where
  pub one-entry-gone : n ≡ i + 1 → EntriesAreGone tells old n mid → ReleasesEntry tells mid i (Ok tt) new → EntriesAreGone tells old i new
  one-entry-gone is so entry = one-more-entry-is-gone i mid new (subst (λ k. EntriesAreGone tells old k mid) is so) entry

  pub entry-fails-at : {e : Error} → n ≡ i + 1 → EntriesAreGone tells old n mid → ReleasesEntry tells mid i (Err e) new → ReleasesEntries tells old (Err e) new
  entry-fails-at {e} is so entry = entry-fails i e mid new (subst (λ k. EntriesAreGone tells old k mid) is so) entry

module _ {N S E H K V : Type 0} {tells : Storages S E N H K V} {old new : PagerView N S E} {n : ℕ} where
  pub all-entries-gone : n ≡ 0 → EntriesAreGone tells old n new → ReleasesEntries tells old (Ok tt) new
  all-entries-gone is so = all-entries-are-gone new (subst (λ k. EntriesAreGone tells old k new) is so)

module _ {w : Core} {hs : List HandleNumber} {n : ℕ} {rs : List (RawRef 1)} where
  pub one-referred : {h : HandleNumber} {r : RawRef 1} → RefersThrough w hs n rs → slice_get hs n ≡ Some h → Refers w h 0 1 (raw_reference 1 r)
      → RefersThrough w hs (n + 1) (rs ++ r ∷ [])
  one-referred {h} {r} so there refers = refers-to-more n h r rs so there refers

  pub all-referred : RefersThrough w hs n rs → n ≡ length hs → RefersThrough w hs (length hs) rs
  all-referred so is = subst (λ k. RefersThrough w hs k rs) is so

pub refers-so : {w : Core} {h : HandleNumber} {q q' : ArcRef} → q' ≡ q → Refers w h 0 1 q → Refers w h 0 1 q'
refers-so {w} {h} is refers = subst (λ x. Refers w h 0 1 x) (sym is) refers

-- ---- what the calls of a store come to

pub ok-map : {X Y : Type 0} {P Q : X → Type 0} (r : Result X Y) → ((x : X) → P x → Q x) → IfOk r P → IfOk r Q
ok-map (Ok x) f so = f x so
ok-map (Err e) f so = tt

-- the storage was flushed, if it answered so
pub flushed-so : {N S E H K V P : Type 0} {tells : Storages S E N H K V} {old new : PagerView N S E} (r : Result (Unit {0}) Error)
    → (AsksStorage tells old (λ w w'. FlushCall w (Ok tt) w') new → P) → AsksStorage tells old (λ w w'. FlushCall w r w') new → OnOk r P
flushed-so (Ok u) make asks = make asks
flushed-so (Err e) make asks = tt

-- a cell is opened without the storage
pub opens-alone : {N S E H K V : Type 0} {tells : Storages S E N H K V} {old new : PagerView N S E} {kind t key : ℕ} {r : Result HandleNumber Error}
    → OpensCell tells old kind t key r new → new.storage ≡ old.storage
opens-alone (cache-refuses kind e new is recalls) = recalls.only.storage
opens-alone (cache-gives kind h new is recalls) = recalls.only.storage
opens-alone (cell-is-new kind r mid new is recalls inserts) = inserts.only.storage ∙ recalls.only.storage

-- the record and its references' handles, by other names
pub viewed : {S E H K V : Type 0} {tells : Storages S E (OneNode Record) H K V} {old new : PagerView (OneNode Record) S E} {r r' : Record}
    {hs cs : List HandleNumber}
    → hs ≡ handles_in r' → r' ≡ r → ClonesAll tells old hs (Ok cs) new → ViewsRecord tells old r (Ok (r', cs)) new
viewed {tells = tells} {old} {new} {r} {r'} {hs} {cs} are same clones =
    subst (λ q. ViewsRecord tells old q (Ok (r', cs)) new) same (is-viewed cs new (subst (λ l. ClonesAll tells old l (Ok cs) new) are clones))

pub unviewed : {S E H K V : Type 0} {tells : Storages S E (OneNode Record) H K V} {old new : PagerView (OneNode Record) S E} {r r' : Record}
    {hs : List HandleNumber} {e : Error}
    → hs ≡ handles_in r' → r' ≡ r → ClonesAll tells old hs (Err e) new → ViewsRecord tells old r (Err e) new
unviewed {tells = tells} {old} {new} {r} {r'} {hs} {e} are same clones =
    references-arent-cloned e new (subst (λ l. ClonesAll tells old l (Err e) new) (are ∙ ap handles_in same) clones)

key-of-last : {S E H K V : Type 0} {tells : Storages S E (OneNode Record) H K V} {mid new : PagerView (OneNode Record) S E} {key : ℕ}
    {last : Option HandleNumber}
    → OpensLast tells mid (Some key) last new → (k : HandleNumber) × (last ≡ Some k) × OpensCell tells mid (loose_kind 0) 0 key (Ok k) new
key-of-last (last-is-opened key h new opens) = (h, refl, opens)

last-alone : {S E H K V : Type 0} {tells : Storages S E (OneNode Record) H K V} {old new : PagerView (OneNode Record) S E} {key : Option ℕ}
    {last : Option HandleNumber}
    → OpensLast tells old key last new → new.storage ≡ old.storage
last-alone nothing-was-saved = refl
last-alone (last-is-opened key h new opens) = opens-alone opens

pub honest-before : {S E H K V : Type 0} (tells : Storages S E (OneNode Record) H K V) (roots : S → List ℕ → Option ℕ) {storage : S}
    {new : PagerView (OneNode Record) S E} {name : List ℕ} {last : Option HandleNumber}
    → Opens tells roots storage name last new → IsTrue (tells.is_honest new.storage) → IsTrue (tells.is_honest storage)
honest-before tells roots o honest =
    let mid = subst (λ s. IsTrue (tells.is_honest s)) (last-alone o.finds.opens) honest in
    subst (λ s. IsTrue (tells.is_honest s)) o.over (o.finds.asks.honest mid)

-- what was saved is what is opened
pub opens-saved : {S E H K V : Type 0} (tells : Storages S E (OneNode Record) H K V) (roots : S → List ℕ → Option ℕ) {says : E → Values (OneNode Record)}
    {old saved new : PagerView (OneNode Record) S E} {name : List ℕ} {h : HandleNumber} {last : Option HandleNumber}
    → Saves tells roots says old name h saved
    → Opens tells roots saved.storage name last new → OpensSaved tells roots says old name h last new
opens-saved tells roots {saved = saved} {new} {name} {last = last} saves opens = record {
  saved = saved;
  saves = saves;
  opens = opens;
  is_saved =
      let same : bytes_eq name name ≡ true = (bytes_eq-Decides name name).1 refl in
      let is : roots opens.first.storage name ≡ Some saves.key =
      ap (λ s. roots s name) opens.over ∙ ap (λ f. f name) saves.stays ∙ saves.names name ∙ ap (λ b. if b then Some saves.key else roots saves.paged.storage name) same in
      key-of-last (subst (λ k. OpensLast tells opens.finds.mid k last new) is opens.finds.opens);
}

-- one more item of a list that is seen by f
pub one-seen : {X Y : Type 0} (f : X → Y) (xs : List X) (n : ℕ) (x : X) {ys : List Y} → ys ≡ map f (take n xs) → slice_get xs n ≡ Some x → ys ++ f x ∷ []
    ≡ map f (take (n + 1) xs)
one-seen f xs n x {ys} is there =
    ap (λ zs. zs ++ f x ∷ []) is ∙ sym (map-append f (take n xs) (x ∷ [])) ∙ ap (map f) (sym (take_more xs n x (slice_get_within xs n x there)
    ∙ ap (λ y. take n xs ++ y ∷ []) (get_or_from_slice_get xs n x x there)))
