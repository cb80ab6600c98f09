-- What the steps of calls say of their errors, whatever state they find.
use Rattle.pagable_locked.specs.Refusals.{IsOfFetch, IsOfGrowth, IsOfListing, IsOfMode, IsOfOffer, IsOfQuery, IsOfRelease, IsOfStorage, IsOfStore, IsOfUnpin}
use Rattle.pagable_pager_spec.specs.{
  Basics.{Blob, Error, HandleNumber, Kind},
  Calls.{IsRefused, Looks, LoosenCall, OfferCall, RecallCall, ReleaseCall, ScheduleCall, SetKeyCall, UnpinCall, is_usable},
  Cascade.{Falls, IsListRefusal},
  Kinds.{any_mode, fits_mode, is_loose, is_pinned, is_unpinned},
  Refusals.{Refused, earlier, handle_fault, live_fault, refused_if, spent, where_so},
  World.{Core, row_at},
  declared.{handle_row.{HandleRow.HandleRow, Owner.Owner}, mode.Mode.Mode},
}
use Rattle.pagable_value_spec.specs.Stored.{IsMemoryOrFailure, RefusesFetch, RefusesStore}
use Rattle.std.proofs.{
  Common.{Bool, Err, None, Ok, Option, Result, Some, arith, false, inl, inr, not, refl, subst, sym, true, ℕ, ◌&&◌, ◌≡◌, ◌⊎◌},
  lemmas.Bool.Decides.nat_tests,
}
use Rattle.std.specs.Prelude.{IfErr}

pub ruleset basics = (arith, nat_tests)

-- ---- the storage

of-memory : (before after : ℕ) (e : Error) → IsMemoryOrFailure before after e → IsOfStorage e
of-memory before after e h = grind basics

pub of_memory : {X : Type 0} (before after : ℕ) (r : Result X Error) → IfErr r (IsMemoryOrFailure before after) → IfErr r IsOfStorage
of_memory before after (Ok x) h = tt
of_memory before after (Err e) h = of-memory before after e h

of-fetch : (key before after : ℕ) (found : Option Blob) (e : Error) → RefusesFetch key found before after e → IsOfFetch key e
of-fetch key before after found e h = grind basics

pub of_fetch : {X : Type 0} (key before after : ℕ) (found : Option Blob) (r : Result X Error) → IfErr r (RefusesFetch key found before after)
    → IfErr r (IsOfFetch key)
of_fetch key before after found (Ok x) h = tt
of_fetch key before after found (Err e) h = of-fetch key before after found e h

of-store : (blob : Blob) (found : Option Blob) (closed : Bool) (before after : ℕ) (e : Error) → RefusesStore blob found closed before after e → IsOfStore e
of-store blob found closed before after e h = grind basics

pub of_store : {X : Type 0} (blob : Blob) (closed : Bool) (before after : ℕ) (r : Result X Error)
    → IfErr r (λ e. (found : Option Blob) × RefusesStore blob found closed before after e) → IfErr r IsOfStore
of_store blob closed before after (Ok x) h = tt
of_store blob closed before after (Err e) h = of-store blob h.0 closed before after e h.1

-- ---- handles

-- a cause has only errors that are so
abbrev Only : (Error → Type 0) → Option Error → Type 0
Only P cause = (e : Error) → cause ≡ Some e → P e

either : (a b : Option Error) (e : Error) → earlier a b ≡ Some e → (a ≡ Some e) ⊎ (b ≡ Some e)
either None b e is = inr is
either (Some x) None e is = inl is
either (Some x) (Some y) e is = grind basics

only-earlier : {P : Error → Type 0} (a b : Option Error) → Only P a → Only P b → Only P (earlier a b)
only-earlier a b first second e is = elim (either a b e is) [ inl p ↦ first e p | inr q ↦ second e q ]

only-if : (P : Error → Type 0) (b : Bool) (f : Error) → P f → Only P (refused_if b f)
only-if P b f p e is = grind basics

only-where : {P : Error → Type 0} (b : Bool) (cause : Option Error) → Only P cause → Only P (where_so b cause)
only-where true cause only e is = only e is
only-where false cause only e is = absurd (cc)

only-refused : {P : Error → Type 0} {cause before : Option Error} {full : Type 0} {w w' : Core} (e : Error) → Refused cause before full w e w'
    → Only P cause → P Error.OutOfMemory → P e
only-refused {P} e r by memory = elim r.why [ inl is ↦ by e is | inr wanting ↦ subst P (sym wanting.0) memory ]

only-mode : (w : Core) (me : Owner) (h : HandleNumber) (fits : Mode → Bool) → Only IsOfMode (handle_fault w me h fits)
only-mode w me h fits e is = grind basics

only-owner : (w : Core) (me : Owner) (h : HandleNumber) → Only IsOfRelease (handle_fault w me h any_mode)
only-owner w me h e is = grind basics

only-live : (row : Option HandleRow) → Only IsOfQuery (live_fault row)
only-live row e is = grind basics

only-spent : (last : ℕ) → Only IsOfGrowth (spent last)
only-spent last = only-if IsOfGrowth _ Error.NumbersSpent tt

growth-release : (e : Error) → IsOfGrowth e → IsOfRelease e
growth-release e is = grind basics

growth-unpin : (e : Error) → IsOfGrowth e → IsOfUnpin e
growth-unpin e is = grind basics

growth-offer : (e : Error) → IsOfGrowth e → IsOfOffer e
growth-offer e is = grind basics

mode-listing : (e : Error) → IsOfMode e → IsOfListing e
mode-listing e is = grind basics

mode-unpin : (e : Error) → IsOfMode e → IsOfUnpin e
mode-unpin e is = grind basics

mode-offer : (e : Error) → IsOfMode e → IsOfOffer e
mode-offer e is = grind basics

list-growth : (w w' : Core) (e : Error) → IsListRefusal w w' e → IsOfGrowth e
list-growth w w' e is = grind basics

falls-growth : (before w : Core) (given : ℕ → Bool) (e : Error) (w' : Core) → Falls before w given (Err e) w' → IsOfGrowth e
falls-growth before w given e w' falls = list-growth w w' e falls.tells.not_all.3

same-error : (r : Result (Unit {0}) Error) (e f : Error) → r ≡ Err e → r ≡ Err f → e ≡ f
same-error r e f is was = cc

refused-by : {P : Error → Type 0} (cause : Option Error) (w : Core) (e : Error) (w' : Core) → IsRefused cause w (Err e) w' → Only P cause → P e
refused-by {P} cause w e w' refused only = subst P (sym (same-error (Err e) e refused.e refl refused.told)) (only refused.e refused.why)

pub of_unpin : (w : Core) (me : Owner) (h : HandleNumber) (r : Result (Unit {0}) Error) (w' : Core) → UnpinCall w me h r w' → IfErr r IsOfUnpin
of_unpin w me h (Ok u) w' c = tt
of_unpin w me h (Err e) w' c =
    elim c.does [
      | inl refused ↦ mode-unpin e (refused-by {P = IsOfMode} (handle_fault w me h is_loose) w e w' refused (only-mode w me h is_loose))
      | inr (row, own, inl (mode, told, same)) ↦ absurd (cc)
      | inr (row, own, inr (mode, falls)) ↦ growth-unpin e (falls-growth _ _ _ e w' falls)
    ]

pub of_release : (w : Core) (me : Owner) (h : HandleNumber) (r : Result (Unit {0}) Error) (w' : Core) → ReleaseCall w me h r w' → IfErr r IsOfRelease
of_release w me h (Ok u) w' c = tt
of_release w me h (Err e) w' c =
    elim c.does [
      | inl refused ↦ refused-by {P = IsOfRelease} (handle_fault w me h any_mode) w e w' refused (only-owner w me h)
      | inr (row, own, falls) ↦ growth-release e (falls-growth _ _ _ e w' falls)
    ]

pub of_set_key : (w : Core) (me : Owner) (h : HandleNumber) (key : ℕ) (r : Result (Unit {0}) Error) (w' : Core) → SetKeyCall w me h key r w'
    → IfErr r IsOfRelease
of_set_key w me h key (Ok u) w' c = tt
of_set_key w me h key (Err e) w' c =
    elim c.does [
      | inl refused ↦ refused-by {P = IsOfRelease} (handle_fault w me h any_mode) w e w' refused (only-owner w me h)
      | inr (row, own, inl (mode, told, same)) ↦ absurd (cc)
      | inr (row, own, inr (mode, falls)) ↦ growth-release e (falls-growth _ _ _ e w' falls)
    ]

pub of_loosen : (w : Core) (me : Owner) (h : HandleNumber) (r : Result HandleNumber Error) (w' : Core) → LoosenCall w me h r w' → IfErr r IsOfMode
of_loosen w me h (Ok k) w' c = tt
of_loosen w me h (Err e) w' c = only-mode w me h is_pinned e c.refused.0

pub of_schedule : (w : Core) (me : Owner) (h : HandleNumber) (r : Result (Unit {0}) Error) (w' : Core) → ScheduleCall w me h r w'
    → IfErr r IsOfListing
of_schedule w me h (Ok u) w' c = tt
of_schedule w me h (Err e) w' c =
    only-refused {P = IsOfListing} e c.refused (λ f is. mode-listing f (only-mode w me h is_unpinned f is)) tt

pub of_query : {X : Type 0} (w : Core) (h : HandleNumber) (holds : X → HandleRow → Type 0) (r : Result X Error) → Looks w h holds r
    → IfErr r IsOfQuery
of_query w h holds (Ok x) c = tt
of_query w h holds (Err e) c = only-live (row_at w h) e c.refused

pub of_recall : (w : Core) (me : Owner) (kind : Kind) (key : ℕ) (r : Result (Option HandleNumber) Error) (w' : Core) → RecallCall w me kind key r w'
    → IfErr r IsOfGrowth
of_recall w me kind key (Ok found) w' c = tt
of_recall w me kind key (Err e) w' c =
    only-refused {P = IsOfGrowth} e c.refused (only-where {P = IsOfGrowth} (is_usable w kind key) (spent w.last.handle) (only-spent w.last.handle)) tt

pub of_offer : (w : Core) (me : Owner) (kind : Kind) (key : ℕ) (h : HandleNumber) (r : Result (Option HandleNumber) Error) (w' : Core)
    → OfferCall w me kind key h r w' → IfErr r IsOfOffer
of_offer w me kind key h (Ok found) w' c = tt
of_offer w me kind key h (Err e) w' c =
    only-refused {P = IsOfOffer} e c.refused
    (only-earlier {P = IsOfOffer} _ _ (λ f is. mode-offer f (only-mode w me h (fits_mode kind.0) f is))
    (only-earlier {P = IsOfOffer} _ _ (only-if IsOfOffer _ Error.WrongKind tt)
    (only-where {P = IsOfOffer} (not w.closed && is_usable w kind key) (spent w.last.handle) (λ f is. growth-offer f (only-spent w.last.handle f is))))) tt

pub ruleset only = (of_memory, of_fetch, of_store, of_unpin, of_release, of_set_key, of_loosen, of_schedule, of_query, of_recall, of_offer)
