-- Which keys cells have after a call: those that they had, except for the one that it sets; and that the keys of its
-- references make a node's own key.
use Rattle.pagable_changes.specs.Changes.{AllHaveKeys, FoundKeys, HasKey, none-are-asked, one-more-has}
use Rattle.pagable_pager_spec.specs.{
  Basics.{Among, ArcRef, Blob, HandleNumber, OptionalDataKey, if_there},
  Pager.kids_of,
  World.{Cell, Core, Values, key_at, row_at, type_at},
  declared.{calls.{Call.Call, Reply.Reply}, handle_row.{HandleRow.HandleRow, Owner.Owner}},
}
use Rattle.pagable_theorems.proofs.Decoding.{among-left, among-right}
use Rattle.pagable_theorems.specs.{
  TreeSteps.{Bears, CallFeels, Change, CoreGoes, Sets, feels-adopted, feels-away, feels-birth, feels-end, feels-key, feels-known, feels-lazy, feels-nothing},
}
use Rattle.pagable_value_spec.specs.{Height.{Kid, kid, tree_of_kid}, Merkle.{KeyOf, KeysOf, more-keys, no-keys}, Trees.{Tree, Types}}
use Rattle.std.proofs.{
  Common.{List, None, Some, ap, arith, inl, inr, refl, subst, sym, ℕ, [], ◌++◌, ◌∙◌, ◌∷◌, ◌≡◌, ◌⊎◌},
  lemmas.{Bool.Decides.nat_tests, List.map-append},
}

-- ---- which keys calls set

-- a call that makes no cell with a key, and sets none
abbrev pub IsQuiet : {N : Type 0} → Call N Blob → Type 0
IsQuiet (Call.Clone h) = Unit {0}
IsQuiet (Call.IntoPagable h) = Unit {0}
IsQuiet (Call.Pin h) = Unit {0}
IsQuiet (Call.Release h) = Unit {0}
IsQuiet (Call.Store blob) = Unit {0}
IsQuiet _ = ⊥

-- the caller sets this key through this handle
abbrev pub IsSetting : {N : Type 0} → HandleNumber → ℕ → Call N Blob → Type 0
IsSetting h key (Call.SetDataKey k q) = (k ≡ h) × (q ≡ key)
IsSetting h key _ = ⊥

-- the key of this handle's node is set
abbrev pub SetsAt : Core → HandleNumber → ℕ → ℕ → ℕ → Type 0
SetsAt w h key n q = (row : HandleRow) × (row_at w h ≡ Some row) × (n ≡ row.node.0) × (q ≡ key)

-- a cell that has a key afterwards was there and had it, but for the key that was set
pub record KeysGo (w w' : Core) (SetAt : ℕ → ℕ → Type 0) : Type 0 where
  pub each : (n key : ℕ) → key_at w' n ≡ OptionalDataKey.Some key → ((t : ℕ) × (type_at w n ≡ Some t)) × ((key_at w n ≡ OptionalDataKey.Some key) ⊎ SetAt n key)

keys-go : {w w' : Core} {c : Change} {SetAt : ℕ → ℕ → Type 0} → CoreGoes c w w' → ((t key : ℕ) → Bears c t (OptionalDataKey.Some key) → ⊥)
    → ((n key : ℕ) → Sets c n key → SetAt n key)
    → KeysGo w w' SetAt
keys-go {w} {w'} {c} {SetAt} goes none sets = record {
  each = λ n key is.
      let there : (cell : Cell) × (w'.cells n ≡ Some cell) × (cell.key ≡ OptionalDataKey.Some key) = grind (arith, nat_tests) in
      elim (goes.cells n there.0 there.1) [
        | inl kept ↦ (
          (kept.was.node_type, ap (λ o. if_there (λ (cell : Cell). Some cell.node_type) None o) kept.live),
          elim kept.key [
            | inl stays ↦ inl (ap (λ o. if_there (λ (cell : Cell). cell.key) OptionalDataKey.None o) kept.live ∙ sym stays ∙ there.2)
            | inr (k, set, now) ↦ let same : k ≡ key = cc in inr (sets n key (rw same at set))
          ],
        )
        | inr (next, bears) ↦ absurd (none there.0.node_type key (rw there.2 at bears))
      ];
}

module _ {N : Type 0} {v : Values N} {w w' : Core} where
  pub quiet-keys : {call : Call N Blob} {reply : Reply N Blob} {c : Change} → CallFeels v w Owner.Caller call reply w' c → IsQuiet call → CoreGoes c w w'
      → KeysGo w w' (λ n key. ⊥)
  quiet-keys (feels-nothing stays) quiet goes = keys-go goes (λ t key b. b) (λ n key b. b)
  quiet-keys (feels-birth x brings good) quiet goes = keys-go goes (λ t key b. let e = b.1 in cc) (λ n key b. b)
  quiet-keys (feels-away t key k) quiet goes = absurd quiet
  quiet-keys (feels-key h key row owns) quiet goes = absurd quiet
  quiet-keys (feels-known kind key h row owns typed) quiet goes = absurd quiet
  quiet-keys (feels-adopted l kind key x k typed good) quiet goes = absurd quiet
  quiet-keys (feels-lazy l kind key k) quiet goes = absurd quiet
  quiet-keys (feels-end l x k good) quiet goes = absurd quiet

  pub set-keys : {call : Call N Blob} {reply : Reply N Blob} {c : Change} (h : HandleNumber) (key : ℕ) → IsSetting h key call
      → CallFeels v w Owner.Caller call reply w' c → CoreGoes c w w'
      → KeysGo w w' (SetsAt w h key)
  set-keys h key is (feels-nothing stays) goes = keys-go goes (λ t q b. b) (λ n q b. absurd b)
  set-keys h key is (feels-birth x brings good) goes = keys-go goes (λ t q b. let e = b.1 in cc) (λ n q b. absurd b)
  set-keys h key is (feels-away t q k) goes = absurd is
  set-keys h key is (feels-key k q row owns) goes = keys-go goes (λ t o b. b) (λ n o b. (row, ap (λ i. row_at w i) (sym is.0) ∙ owns.live, b.0, b.1 ∙ is.1))
  set-keys h key is (feels-known kind q k row owns typed) goes = absurd is
  set-keys h key is (feels-adopted l kind q x k typed good) goes = absurd is
  set-keys h key is (feels-lazy l kind q k) goes = absurd is
  set-keys h key is (feels-end l x k good) goes = absurd is

-- ---- the keys of a node's references make its own

module _ {hash : List ℕ → List ℕ} {types : Types} where
  one-more-key : {kids : List Kid} {keys : List ℕ} (k : Kid) (key : ℕ) → KeysOf hash types kids keys → KeyOf hash types (tree_of_kid k) key
      → KeysOf hash types (kids ++ k ∷ []) (keys ++ key ∷ [])
  one-more-key k key no-keys is = more-keys k [] key [] is no-keys
  one-more-key k key (more-keys x kids q keys first rest) is = more-keys x _ q _ first (one-more-key k key rest is)

  pub all-keys : {found : FoundKeys} {w : Core} {rs : List ArcRef} {keys : List ℕ} (trees : ℕ → Tree) → AllHaveKeys found w rs keys
      → ((r : ArcRef) (key : ℕ) → Among rs r → HasKey found w r key → KeyOf hash types (tree_of_kid (kid r.kind.0 (trees r.node.0).meaning)) key)
      → KeysOf hash types (kids_of trees rs) keys
  all-keys trees none-are-asked each = no-keys
  all-keys trees (one-more-has rs keys r key all one) each =
      let kid_of = λ (q : ArcRef). kid q.kind.0 (trees q.node.0).meaning in
      rw (← (map-append kid_of rs (r ∷ []))) at (one-more-key (kid_of r) key (all-keys trees all
      (λ q k among has. each q k (among-left rs (r ∷ []) among.0 q among.1) has))
      (each r key (among-right rs (r ∷ []) 0 r refl) one))
