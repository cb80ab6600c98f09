-- `new` makes a value of no bytes, whose list is the empty one.
use mathlib.Core.Path.{refl}
use mathlib.Core.List.{[], ◌∷◌}
use mir.Val.{vstruct, vnil}
use denote.Shadow.{pure_i}
use denote.Steps.{nothing}
use denote.Triple.Entry.{on_entry}
use denote.Triple.Walked.{says, ends_at}
use types.ByLocal.{alloc_all, pass_all, free_all, look_at, sets}
use types.Kit.{raw, ◌$◌, ◌∵◌, !, qed, keep, join, suffices, done}
use types.Part.{agg}
use types.Run.{no_more, returns, enter}
use Rattle.std.proofs.raw_atomic.Walks.{proved}
use Rattle.blob_host.specs.contracts.trail.Trail.{the_row as Row}
use Rattle.blob_host.specs.contracts.trail.Trail.new as f
use Rattle.blob_host.proofs.trail.Trail.new.Statement.{statement}
use Rattle.blob_host.proofs.trail.Trail.new.Code as code

pub new_spec : {M : Type 1} → statement M
new_spec 𝓤 𝓛 𝓜 𝓡 wired =
    let c = f.clauses 𝓛 𝓜.mem 𝓡.returns in
    proved 𝓛 f.ended tt c 𝓜 𝓡 tt f.Key.name code.function (code.unfolded 𝓤 𝓛.H 𝓜 𝓡 wired)
    (λ κs. tt) (λ κs. tt) (λ κs qs bounds a ghosts are.
    qed 𝓛 (raw (on_entry 𝓛 f.signature κs qs a tt) ∷ raw ((c κs a).requires ghosts) ∷ []) ∵ keep ! [] $
    enter ! _ _ _ _ _ $ alloc_all ! (λ l. pass_all ! refl tt $
    sets ! (agg ! (no_more !)) refl (tt, tt) $ returns ! (look_at ! 0 refl) $ free_all ! refl $
    suffices ! _ (ends_at 𝓛 f.ended tt c ((κs, qs, bounds, a, tt), ghosts) (vstruct vnil) (record { events = [] }) tt tt) $ says ! refl $
    pure_i ! (Row.own_val (record { events = [] }) (vstruct vnil ∷ [])) ((λ vss. (tt, tt)), tt) ((tt, (refl, tt)), tt) $
    nothing ! $ join ! $ nothing ! $ join ! $ done !))
