-- What an error says about the storage, for each call and each step of a load or of a worker.
use Rattle.pagable_pager_spec.specs.{
  Calls.{InsertCall, OfferCall, insert_fault},
  Events.{CallDoes, Ends},
  Kinds.{fits_mode, is_loose},
  LoadCalls.BeginCall,
  Loads.LoadDoes,
  Refusals.live_fault,
  Workers.{PinRefused, WorkDoes},
}
use Rattle.pagable_theorems.proofs.{
  LoadFaults.{Only, only-earlier, only-if, only-refused, only-where},
  RefusalCauses.{Quiet, fails, of-adopt, of-end, of-hand-over, of-lazy, only-all, only-handle, only-spent},
  Trees.same_some,
  Words.{Action, ArcRef, Call, CloneCall, Core, Err, Error, Event, EventReply, Frame, HandleNumber, HandleRow, Happens, IsLawful, Kind, List, LoadAnswer, Mode},
  Words.{None, Ok, Option, Owner, PinCall, Reading, Reply, Seen, Some, Todo, WorkerNumber, WorkerReply, WorkerState, WorkerSteps, World, answer_after, basics},
  Words.{inl, inr, owner_worker, refl, row_at, subst, sym, to_load, to_pin, ℕ, ◌∙◌, ◌∷◌, ◌≡◌},
}
use Rattle.pagable_theorems.specs.RefusalLaws.{StorageErrorsAreTrue, TellsOfStorage, refusal_of, refusal_of_end, refusal_of_reply, refusal_of_step}
use Rattle.pagable_value_spec.specs.Stored.{HasFailed}

-- neither that the storage failed, nor that nothing stands there
abbrev Silent : Error → Type 0
Silent (Error.Storage code) = ⊥
Silent (Error.NoData key) = ⊥
Silent e = Unit {0}

quiet-silent : (e : Error) → Quiet e → Silent e
quiet-silent e quiet = grind basics

silent : (w w' : Core) (e : Error) → Silent e → TellsOfStorage w w' e
silent w w' e says = record { failed = λ code is. absurd (subst Silent is says); absent = λ key is. absurd (subst Silent is says) }

quiet : (w w' : Core) (e : Error) → Quiet e → TellsOfStorage w w' e
quiet w w' e q = silent w w' e (quiet-silent e q)

-- ---- what each sort of cause says

only-birth : (w : Core) → Only Quiet (insert_fault w)
only-birth w = only-earlier _ _ (only-spent w.last.node) (only-spent w.last.handle)

only-live : (found : Option HandleRow) → Only Quiet (live_fault found)
only-live found e is = grind basics

-- ---- calls that may be refused for several reasons

module _ (w : Core) (me : Owner) (w' : Core) where
  of-birth : {N : Type 0} (x y : N) (t : ℕ) (references : List ArcRef) (mode : Mode) (e : Error) → InsertCall w me x t references mode (Err (e, y)) w' → Quiet e
  of-birth x y t references mode e c = only-refused {P = Quiet} e c.refused.1 (only-earlier _ _ (only-all w me references) (only-birth w)) tt

  of-clone : (h : HandleNumber) (e : Error) → CloneCall w me h (Err e) w' → Quiet e
  of-clone h e c = only-refused {P = Quiet} e c.refused (only-earlier _ _ (only-live (row_at w h)) (only-spent w.last.handle)) tt

  of-pin : (h : HandleNumber) (e : Error) → PinCall w me h (Err e) w' → Quiet e
  of-pin h e c = only-refused {P = Quiet} e c.refused (only-earlier _ _ (only-handle w me h is_loose) (only-where _ _ (only-spent w.last.handle))) tt

  of-offer : (kind : Kind) (key : ℕ) (h : HandleNumber) (e : Error) → OfferCall w me kind key h (Err e) w' → Quiet e
  of-offer kind key h e c = only-refused {P = Quiet} e c.refused
      (only-earlier _ _ (only-handle w me h (fits_mode kind.0))
      (only-earlier _ _ (only-if Quiet _ Error.WrongKind tt) (only-where _ _ (only-spent w.last.handle)))) tt

  of-begin : (h : HandleNumber) (e : Error) → BeginCall w me h (Err e) w' → Quiet e
  of-begin h e c = only-refused {P = Quiet} e c.refused
      (only-earlier _ _ (only-handle w me h is_loose) (only-where _ _ (only-earlier _ _ (only-spent w.last.load) (only-spent w.last.handle)))) tt

-- ---- a call

module _ {N B W : Type 0} (m : Seen N B W) (lawful : IsLawful m.values) (w : Core) (me : Owner) (w' : Core) where
  abbrev Tells : Error → Type 0
  Tells e = TellsOfStorage w w' e

  so : (f e : Error) → Some f ≡ Some e → Tells f → Tells e
  so f e is t = subst Tells (same_some _ _ is) t

  quiet-so : (f e : Error) → Some f ≡ Some e → Quiet f → Tells e
  quiet-so f e is q = so f e is (quiet w w' f q)

  pub calls : (call : Call N B) (reply : Reply N B) (e : Error) → refusal_of_reply reply ≡ Some e → CallDoes m w me call reply w' → Tells e
  calls (Call.NewPinned x) (Reply.Made (Err (f, y))) e is c = quiet-so f e is (of-birth w me w' x y _ _ _ f c)
  calls (Call.NewLoose x) (Reply.Made (Err (f, y))) e is c = quiet-so f e is (of-birth w me w' x y _ _ _ f c)
  calls (Call.NewShared x) (Reply.Made (Err (f, y))) e is c = quiet-so f e is (of-birth w me w' x y _ _ _ f c)
  calls (Call.Pin h) (Reply.Pin (Err f)) e is c = quiet-so f e is (of-pin w me w' h f c)
  calls (Call.OnArcDeserialized kind key h) (Reply.FromCache (Err f)) e is c = quiet-so f e is (of-offer w me w' kind key h f c)
  calls (Call.LoadBegin h) (Reply.Begun (Err f)) e is c = quiet-so f e is (of-begin w me w' h f c)
  calls (Call.LoadAdopt l kind key x) (Reply.Made (Err (f, y))) e is c = quiet-so f e is (of-adopt w me w' l kind key x y _ _ f c)
  calls (Call.LoadLazy l kind key) (Reply.Handle (Err f)) e is c = quiet-so f e is (of-lazy w me w' l kind key f c)
  calls (Call.LoadEnd l x) (Reply.LoadEnded (Err (f, given))) e is c = quiet-so f e is (of-end w me w' l x _ _ f given c)
  calls (Call.LoadTake l hs) (Reply.Done (Err f)) e is c = quiet-so f e is (of-hand-over w me w' l hs.items f c)
  calls _ reply e is c = grind basics

-- ---- a worker's step

module _ {N B W : Type 0} (m : Seen N B W) (lawful : IsLawful m.values) (v : ℕ) (s after : WorkerState) where
  abbrev WorkTells : Error → Type 0
  WorkTells e = TellsOfStorage s.core after.core e

  work-so : (f e : Error) → Some f ≡ Some e → WorkTells f → WorkTells e
  work-so f e is t = subst WorkTells (same_some _ _ is) t

  of-first-pin : (r : ArcRef) (e : Error) → PinRefused s.core (owner_worker v) r e after.core → Quiet e
  of-first-pin r e (inl c) = of-clone s.core (owner_worker v) after.core r.handle e c
  of-first-pin r e (inr (row, (mid, through, cloned, inl c))) = of-pin mid (owner_worker v) after.core through e c
  of-first-pin r e (inr (row, (mid, through, cloned, inr c))) = of-begin mid (owner_worker v) after.core through e c

  works : (todo : List Todo) (action : Action W) (e : Error) → refusal_of_step action ≡ Some e → WorkDoes m v s todo action after
      → WorkTells e × (answer_after todo action ≡ None)
  works (to_pin r place ∷ below) (Action.Pin i (Err f)) e is (same, c) = (work-so f e is (quiet s.core after.core f (of-first-pin r f c.refused.0)), refl)
  works (to_load r place through reading ∷ below) (Action.Pin i (Err f)) e is (same, c) =
      (work-so f e is (fails m.values lawful s.core (owner_worker v) reading f after.core c.refused.0.does.0).tells, refl)
  works todo action e is c = grind basics

-- ---- an event

module _ {N B W : Type 0} (m : Seen N B W) (lawful : IsLawful m.values) (u u' : World) where
  abbrev EventTells : Error → Type 0
  EventTells e = TellsOfStorage u.core u'.core e

  of-load-step : (reading : Reading) (ended : Option (LoadAnswer N)) (frames : List Frame) (e : Error) → refusal_of_end ended ≡ Some e
      → LoadDoes m.values u.core Owner.Caller reading ended frames u'.core
      → EventTells e
  of-load-step reading (Some (LoadAnswer.Refused f)) frames e is does =
      subst EventTells (same_some _ _ is) (fails m.values lawful u.core Owner.Caller reading f u'.core does.0).tells
  of-load-step reading ended frames e is does = absurd (grind basics)

  -- it has not answered yet, so it ends nothing
  of-worker-step : (v : WorkerNumber) (reply : WorkerReply W) (e : Error) → refusal_of_step reply.action ≡ Some e → WorkerSteps m u v reply u' → EventTells e
  of-worker-step v reply e is x =
      let (told, none) =
      works m lawful v.0 (record { core = u.core; shelf = u.work.shelves x.walking.table; todo = x.walking.todo }) x.after
      x.walking.todo reply.action e is x.does.does in
      let a = subst (λ answer. Ends answer v.0 x.after.core u'.core) (x.answers ∙ none) x.ends in
      record { failed = λ code same. subst (HasFailed u.core.failures) (sym a.failures) (told.failed code same); absent = told.absent }

  of-event : (event : Event N B W) (reply : EventReply N B W) (e : Error) → refusal_of reply ≡ Some e → Happens m u event reply u' → EventTells e
  of-event (Event.Call call) (EventReply.CallReply r) e is x = calls m lawful u.core Owner.Caller u'.core call r e is x.step.does
  of-event (Event.LoadStep l) (EventReply.LoadMoved (Ok reply)) e is x = of-load-step x.moves.reading reply.ended x.moves.frames e is x.moves.does.does
  of-event (Event.WorkerStep v) (EventReply.WorkerMoved (Ok reply)) e is x = of-worker-step v reply e is x.moves
  of-event event reply e is x = grind basics

pub storage-told : {N B W : Type 0} (m : Seen N B W) → StorageErrorsAreTrue m
storage-told m lawful u event reply u' e step is = of-event m lawful u u' event reply e is step.happens
