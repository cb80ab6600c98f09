use Rattle.pagable_tables.proofs.{
  CallsKeepWhole.known-suits,
  OwnedByLoad.{does-as, does-then, key-is, nothing-does},
  SameViews.{adopted-past, failed, late, lazy-known, lazy-new, lazy-not-loose, lazy-not-new, next-past, node-late, not-own},
  Views.none-named,
  Words.{OptionalDataKey, ap, arith, basics, core_of, greatest, key_in, subst, sym, [], ◌<◌, ◌∙◌},
}
use Rattle.pagable_tables.specs.Core.{no_blobs}
use Rattle.pagable_tables.proofs.load.load_lazy.Goals as goal

pub returns-in_err-_row : goal.returns-in_err-_row
returns-in_err-_row c =
    rw (failed _ c.from_residual.ensures.1) (nothing-does c.requires.whole (λ storage e. let w = core_of c.args.t.now storage in record {
      makes = tt;
      refused = not-own w c.args.me c.args.load _ _ (c.in_err-_row.ensures.fault storage)
          (late _ _ 3 (grind basics) (λ f is. let a = node-late w c.args.kind c.args.key f is in omega arith));
    }))

pub returns-then-not-is_loose : goal.returns-then-not-is_loose
returns-then-not-is_loose c =
    nothing-does c.requires.whole (λ storage e. lazy-not-loose _ _
    (c.in_ok-_row.ensures.own storage) (sym c.if-not-is_loose.ensures))

pub make_handle-requires-clause-suits : goal.make_handle-requires-clause-suits
make_handle-requires-clause-suits c =
    let is = sym (c.in-Some.ensures no_blobs) in
    rw c.mode_of.ensures
    (known-suits c.requires.whole.core _ _ _ is)

pub returns-in-Some : goal.returns-in-Some
returns-in-Some c = does-as c.make_handle.ensures.does
    (λ storage made e. lazy-known _ _ (c.in_ok-_row.ensures.own storage)
    (sym c.if-not-is_loose.ensures) _ _ _ _ (sym (c.in-Some.ensures storage)) c.mode_of.ensures made)

pub insert_and_prune_cache-requires-clause-fit : goal.insert_and_prune_cache-requires-clause-fit
insert_and_prune_cache-requires-clause-fit c = none-named _ _ _ c.new.ensures.items

pub returns : goal.returns
returns c =
    let l = c.args.load in
    does-then c.make_room_for_node.ensures.does c.insert_and_prune_cache.ensures
    (λ storage room made e.
    let w1 = core_of c.make_room_for_node.new.t storage in
    let w' = core_of c.insert_and_prune_cache.new.t storage in
    let one = rw c.new.ensures.items at (made.1 e) in
    let two = rw (ap key_in c.get.ensures.value ∙ key-is c.args.key (omega arith)) at one in
    lazy-new _ _ (c.in_ok-_row.ensures.own storage)
    (sym c.if-not-is_loose.ensures) (sym (c.in_default.ensures storage))
    _ (subst (λ u. u.last.node < greatest) room.same c.in_ok-make_room_for_node.ensures.ready.node_left)
    (next-past room made.0)
    (adopted-past l c.args.kind c.args.key (OptionalDataKey.Some c.args.key) [] room two))

pub returns-in_err-make_room_for_node : goal.returns-in_err-make_room_for_node
returns-in_err-make_room_for_node c = rw (failed _ c.from_residual-in_err-make_room_for_node.ensures.1)
    (does-as c.make_room_for_node.ensures.does
    (λ storage room e. lazy-not-new _ _
    (c.in_ok-_row.ensures.own storage) (sym c.if-not-is_loose.ensures) (sym (c.in_default.ensures storage))
    (c.in_err-make_room_for_node.ensures.refused storage)))
