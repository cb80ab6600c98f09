-- `with` makes a value of no bytes, whose list has one more call.
use mathlib.Core.Path.{refl}
use mathlib.Core.List.{List, [], ◌∷◌}
use mir.Syntax.{named}
use mir.Val.{Val, vptr, vstruct, vnil}
use denote.Builtin.{u8}
use denote.Exit.{yes}
use denote.RattleType.{owns}
use denote.Ref.{shr_vals, shr_Tells}
use denote.Shadow.{pure_i}
use denote.Signature.{plain, types_at}
use denote.Slice.{slice_val, shr_slice_vals, shr_slice_Tells}
use denote.Triple.Entry.{alive}
use denote.Triple.Walked.{Stays, stay_none_ref, stay_none_slice, Goes-none_ref, Goes-none_slice, says, ends_at}
use types.ByLocal.{alloc_all, pass_all, free_all, look_at, sets}
use types.Kit.{‵, raw, ◌⊛◌, ◌$◌, ◌∵◌, !, qed, move, keep, split, suffices, done}
use types.Part.{agg}
use types.Run.{no_more, returns, enter}
use Rattle.std.proofs.Common.{length}
use Rattle.std.proofs.raw_atomic.Walks.{proved}
use Rattle.blob_host.specs.Noting.{event_of}
use Rattle.sqlite_disk.specs.Events.{Event}
use Rattle.blob_host.specs.contracts.call.Call.{the_row as Noted}
use Rattle.blob_host.specs.contracts.trail.Trail.{the_row as Row}
use Rattle.blob_host.specs.contracts.trail.Trail.with as f
use Rattle.blob_host.proofs.trail.Trail.with.Statement.{statement}
use Rattle.blob_host.proofs.trail.Trail.with.Code as code

abbrev stayed : Stays f.ended.signature.params f.ended.kept
stayed = (stay_none_ref (0 ∷ []) tt (plain (λ _. Row)) yes, (stay_none_ref (1 ∷ []) tt (plain (λ _. Noted)) yes, (stay_none_slice (2 ∷ []) tt (plain (λ _. u8)) yes, tt)))

pub with_spec : {M : Type 1} → statement M
with_spec 𝓤 𝓛 𝓜 𝓡 wired =
    let c = f.clauses 𝓛 𝓜.mem 𝓡.returns in
    proved 𝓛 f.ended stayed c 𝓜 𝓡
    (Goes-none_ref 𝓛 3 (0 ∷ []) tt (plain (λ _. Row)) yes, (Goes-none_ref 𝓛 3 (1 ∷ []) tt (plain (λ _. Noted)) yes, (Goes-none_slice 𝓛 3 (2 ∷ []) tt (plain (λ _. u8)) yes, tt)))
    f.Key.name code.function (code.unfolded 𝓤 𝓛.H 𝓜 𝓡 wired)
    (λ κs. (shr_vals, (shr_vals, (shr_slice_vals, tt))))
    (λ κs. (shr_Tells (named 0) κs.0 Row, (shr_Tells (named 1) κs.1.0 Noted, (shr_slice_Tells (named 2) κs.1.1.0 u8, tt))))
    (λ κs qs bounds a ghosts are.
    let earlier = a.0 in let call = a.1.0 in let bytes = a.1.1.0 in
    let at : List Val × (List Val × (List Val × Unit {0})) = (vptr earlier.ref_ptr.0 earlier.ref_ptr.1 ∷ [], (vptr call.ref_ptr.0 call.ref_ptr.1 ∷ [], (slice_val bytes.ref_ptr (length bytes.now) ∷ [], tt))) in
    let more : List Event = event_of call.now bytes.now ∷ earlier.now.events in
    qed 𝓛 ((raw (alive 𝓛 f.signature κs qs) ⊛ ‵ (owns (types_at f.signature.params κs) a at)) ∷ raw ((c κs a).requires ghosts) ∷ []) ∵
    split ! $ keep ! (0 ∷ 1 ∷ []) $ enter ! _ _ _ _ _ $
    alloc_all ! (λ l. pass_all ! refl ((tt, tt), ((tt, tt), ((tt, (tt, (record { fits = are.1.1.0.0.1.0 }, tt))), tt))) $
    sets ! (agg ! (no_more !)) refl (tt, tt) $ returns ! (look_at ! 0 refl) $ free_all ! refl $
    suffices ! _ (ends_at 𝓛 f.ended stayed c ((κs, qs, bounds, a, at), ghosts) (vstruct vnil) (record { events = more }) (tt, (tt, (tt, tt))) (tt, (tt, (tt, tt)))) $ says ! refl $
    pure_i ! (Row.own_val (record { events = more }) (vstruct vnil ∷ [])) ((λ vss. (tt, tt)), tt) ((tt, (refl, tt)), tt) $
    move ! (1 ∷ 2 ∷ 0 ∷ []) $ done !))
