-- Why pins and loads fail, by the errors' numbers; and what an error that concerns the storage says about it.
use Rattle.pagable_pager_spec.specs.{
  Basics.{Error, HandleNumber},
  Calls.PinCall,
  Events.Step,
  LoadCalls.BeginCall,
  Loads.ReadingDoes,
  World.{Core, IsLawful, Reading, Seen, Values, World},
  declared.{calls.Reply.Reply, events.{Action.Action, Event.Event, EventReply.EventReply, LoadAnswer.LoadAnswer}},
  declared.handle_row.Owner.Owner,
}
use Rattle.pagable_value_spec.specs.{Refusals.number_of, Stored.HasFailed}
use Rattle.std.specs.Prelude.{Err, None, Ok, Option, Result, Some, ℕ, [], ◌≡◌, ◌≢◌, ◌≤◌}

-- the handle isn't live, is another's or has another mode; or numbers or memory have run out: 18 to 22
abbrev pub IsOfPin : Error → Type 0
IsOfPin e = (18 ≤ number_of e) × (number_of e ≤ 22)

-- any error but 14, 24 and 25: never that a value isn't registered, that a key is taken or that the storage is closed
abbrev pub IsOfLoad : Error → Type 0
IsOfLoad e = (number_of e ≢ 14) × (number_of e ≢ 24) × (number_of e ≢ 25)

-- a pin that needs no load fails; below: the begin of a load fails
abbrev pub PinsRefusedLaw : Type 0
PinsRefusedLaw = (w : Core) (me : Owner) (h : HandleNumber) (e : Error) (w' : Core) → PinCall w me h (Err e) w'
    → IsOfPin e

abbrev pub BeginsRefusedLaw : Type 0
BeginsRefusedLaw = (w : Core) (me : Owner) (h : HandleNumber) (e : Error) (w' : Core) → BeginCall w me h (Err e) w'
    → IsOfPin e

-- each step in which a load fails, a caller's or a worker's
abbrev pub LoadsRefusedLaw : {N : Type 0} → Values N → Type 0
LoadsRefusedLaw {N} v = IsLawful v → (w : Core) (me : Owner) (reading : Reading) (e : Error) (w' : Core)
    → ReadingDoes v w me reading (Some (LoadAnswer.Refused e)) [] w' → IsOfLoad e

-- What an error says about the storage, if it occurs between the states w and w'.
pub record TellsOfStorage (w w' : Core) (e : Error) : Type 0 where
  -- that the storage failed: only if its count of failures rose, or was at its greatest
  pub failed : (code : ℕ) → e ≡ Error.Storage code → HasFailed w.failures w'.failures
  -- that a key has no blob: only if the storage has none under it
  pub absent : (key : ℕ) → e ≡ Error.NoData key → w.stored key ≡ None

-- the error of a result, if it is one; below: of a call's reply, of an event's reply and of a worker's step
abbrev pub refusal_in : {X : Type 0} → Result X Error → Option Error
refusal_in (Ok x) = None
refusal_in (Err e) = Some e

abbrev pub refusal_beside : {X Y : Type 0} → Result X (Error × Y) → Option Error
refusal_beside (Ok x) = None
refusal_beside (Err e) = Some e.0

abbrev pub refusal_of_reply : {N B : Type 0} → Reply N B → Option Error
refusal_of_reply (Reply.Made r) = refusal_beside r
refusal_of_reply (Reply.Handle r) = refusal_in r
refusal_of_reply (Reply.Pin r) = refusal_in r
refusal_of_reply (Reply.Done r) = refusal_in r
refusal_of_reply (Reply.Count r) = refusal_in r
refusal_of_reply (Reply.KeyFound r) = refusal_in r
refusal_of_reply (Reply.PagedOut r) = refusal_in r
refusal_of_reply (Reply.Node r) = refusal_in r
refusal_of_reply (Reply.NodeType t) = None
refusal_of_reply (Reply.Length n) = None
refusal_of_reply (Reply.TakenPending h) = None
refusal_of_reply (Reply.FromCache r) = refusal_in r
refusal_of_reply (Reply.Fetched r) = refusal_in r
refusal_of_reply (Reply.Stored r) = refusal_in r
refusal_of_reply (Reply.Begun r) = refusal_in r
refusal_of_reply (Reply.LoadFound r) = refusal_in r
refusal_of_reply (Reply.LoadEnded r) = refusal_beside r

abbrev pub refusal_of_end : {N : Type 0} → Option (LoadAnswer N) → Option Error
refusal_of_end (Some (LoadAnswer.Refused e)) = Some e
refusal_of_end ended = None

abbrev pub refusal_of_step : {W : Type 0} → Action W → Option Error
refusal_of_step (Action.Claim i r) = refusal_in r
refusal_of_step (Action.Pin i r) = refusal_in r
refusal_of_step (Action.Write i r) = refusal_in r
refusal_of_step (Action.Store i r) = refusal_in r
refusal_of_step (Action.SetKey i r) = refusal_in r
refusal_of_step step = None

abbrev pub refusal_of : {N B W : Type 0} → EventReply N B W → Option Error
refusal_of (EventReply.CallReply reply) = refusal_of_reply reply
refusal_of (EventReply.Started r) = refusal_in r
refusal_of (EventReply.LoadMoved (Ok reply)) = refusal_of_end reply.ended
refusal_of (EventReply.LoadMoved (Err e)) = Some e
refusal_of (EventReply.TableMade r) = refusal_in r
refusal_of (EventReply.WorkerMade r) = refusal_in r
refusal_of (EventReply.WorkerMoved (Ok reply)) = refusal_of_step reply.action
refusal_of (EventReply.WorkerMoved (Err e)) = Some e

-- so it is for every event, in any state
abbrev pub StorageErrorsAreTrue : {N B W : Type 0} → Seen N B W → Type 0
StorageErrorsAreTrue {N} {B} {W} m = IsLawful m.values → (u : World) (event : Event N B W) (reply : EventReply N B W)
    (u' : World) (e : Error)
    → Step m u event reply u' → refusal_of reply ≡ Some e
    → TellsOfStorage u.core u'.core e
