use Rattle.pagable_pager_spec.specs.{Basics.{Error, if_there}, Kinds.is_owner, Refusals.refused_if, World.OpenLoad}
use Rattle.pagable_tables.proofs.SameViews.{earlier-first, still}
use Rattle.pagable_tables.specs.Core.{load_in}
use Rattle.std.proofs.Common.{None, Some, ap, arith, inl, inr, not, sym, ◌∙◌}
use Rattle.std.specs.Option.{option_map}
use Rattle.pagable_pager.proofs.pager.Pager.references_error.Goals as goal

pub returns-in-Some : goal.returns-in-Some
returns-in-Some g c wants later =
    let open_load = ap (option_map load_in) (sym c.load_of.ensures ∙ c.in-Some.is) in
    rw (← c.self.view_is) (record { why = inr (wants, ap (if_there (λ (load : OpenLoad). None) (Some Error.NoSuchHandle)) open_load, tt); stays = still _ })

pub returns-in-None : goal.returns-in-None
returns-in-None g c wants later =
    let gone = ap (option_map load_in) (sym c.load_of.ensures ∙ c.in-None.is) in
    let fault = ap (if_there (λ (load : OpenLoad). refused_if (not (is_owner c.args.me load.owner)) Error.NotYours) (Some Error.NoSuchHandle)) gone in
    rw (← c.self.view_is) (record { why = inl (earlier-first _ later Error.NoSuchHandle fault (λ f late. omega arith)); stays = still _ })
