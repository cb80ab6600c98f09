use Rattle.pagable_tables.proofs.{
  LoadEnd.references-placed,
  OwnedByLoad.widens-does,
  SameViews.{alike, both-none, no-load-fault, owner-same},
  Words.{ArcRef, Core, Ending, HandleNumber, HandleRow, IsReady, List, LoadNumber, LoadRow, MayEnd, NodeNumber, None, Owner, Places, Some, Tables, any_mode},
  Words.{ap, basics, core_of, end_fault, load_at, load_in, not, option_map, refl, root_in, sym, ℕ, ◌∙◌, ◌≡◌},
}
use Rattle.pagable_tables.specs.{Core.{StorageView, no_blobs}, declared.load_table.LoadRoot.LoadRoot}
use Rattle.pagable_tables.proofs.load_end.prepare_end.Goals as goal

ready-placed : (w : Core) (places : Places) (rows : List HandleRow) (me : Owner) (l : LoadNumber) (node_type : ℕ) (refs : List ArcRef) (e : Ending) → rows
    ≡ w.rows → IsReady w me l node_type refs e
    → IsReady (record w { rows = rows; places = places }) me l node_type refs e
ready-placed w places rows me l node_type refs e same r = grind (basics, references-placed)

-- why an open load of a cell can end
ends-at : (t : Tables) (storage : StorageView) (me : Owner) (l : LoadNumber) (node_type : ℕ) (refs : List ArcRef) (row : LoadRow) (node : NodeNumber) (type : ℕ)
    (h : HandleNumber) → None ≡ end_fault (core_of t storage) me l node_type refs → Some row ≡ load_at t.loads l.0 → row.root ≡ LoadRoot.Cell node type h
    → MayEnd (core_of t storage) me l node h node_type refs
ends-at t storage me l node_type refs row node type h none is cell = grind (basics, both-none)

pub unwrap-row-requires : goal.unwrap-row-requires
unwrap-row-requires c = grind (basics, both-none, c.load_of.ensures, sym c.in_default.is ∙ c.end_fault.ensures no_blobs)

pub unreachable-requires : goal.unreachable-requires
unreachable-requires c =
    let is =
    sym c.unwrap-row.ensures ∙ c.load_of.ensures in grind (basics, both-none, c.in_default-root.is, sym c.in_default.is ∙ c.end_fault.ensures no_blobs)

pub returns-in-Ok-reserve-clause-ready : goal.returns-in-Ok-reserve-clause-ready
returns-in-Ok-reserve-clause-ready c storage =
    let t = c.args.t.now in
    let me = c.args.me in
    let l = c.args.load in
    let w = core_of t storage in
    let load = load_in c.unwrap-row.result in
    let is = ap (option_map load_in) (sym c.load_of.ensures ∙ c.unwrap-row.ensures) in
    let node = c.in-Cell.field-0 in
    let h = c.in-Cell.handle in
    let cell = ap root_in c.in-Cell.is in
    let begun = (c.requires.core.loads.roots l.0 load node c.in-Cell.field-1 h is cell).begun c.in-Ok.at.row c.in-Ok.ensures.found in
    let may = ends-at t storage me l c.args.node_type c.args.references.now c.unwrap-row.result node c.in-Cell.field-1 h
    (sym c.in_default.is ∙ c.end_fault.ensures storage) (sym c.unwrap-row.ensures ∙ c.load_of.ensures) c.in-Cell.is in
    let e : Ending = record { load = c.unwrap-row.result; row = c.in-Ok.at.row; lacks_value = not c.is_in_memory-lacks_value.result } in
    let ready : IsReady w me l c.args.node_type c.args.references.now e =
    grind (
      basics,
      owner-same,
      c.in-Ok.ensures.number,
      c.in-Ok.ensures.found,
      c.in-Ok.ensures.owner,
      c.is_in_memory-lacks_value.ensures,
      c.counts_of.ensures,
      c.requires.steady.fits.pinned,
    ) in
    let w' = core_of (record t { ref_counts = record t.ref_counts { handles = c.reserve.new.handles } }) storage in
    ready-placed w w'.places w'.rows me l c.args.node_type c.args.references.now e c.reserve.ensures.widens.rows ready

pub returns-in-Ok-reserve-clause-does : goal.returns-in-Ok-reserve-clause-does
returns-in-Ok-reserve-clause-does c = widens-does c.requires c.reserve.ensures.widens (λ n. refl) (λ n. refl) (λ n. refl)
    (λ kind key. refl)

pub returns-in-Err-reserve-clause-unended : goal.returns-in-Err-reserve-clause-unended
returns-in-Err-reserve-clause-unended c storage =
    let may = ends-at c.args.t.now storage c.args.me c.args.load c.args.node_type c.args.references.now c.unwrap-row.result _ _ _
    (sym c.in_default.is ∙ c.end_fault.ensures storage) (sym c.unwrap-row.ensures ∙ c.load_of.ensures) c.in-Cell.is in
    grind (basics, no-load-fault, alike, c.reserve.ensures.widens.rows, c.reserve.ensures.widens.capacity, core_of c.args.t.now storage)

pub returns-in-Err-reserve-clause-does : goal.returns-in-Err-reserve-clause-does
returns-in-Err-reserve-clause-does c = widens-does c.requires c.reserve.ensures.widens (λ n. refl) (λ n. refl) (λ n. refl)
    (λ kind key. refl)

pub returns-in-Err-clause-unended : goal.returns-in-Err-clause-unended
returns-in-Err-clause-unended c storage =
    let may = ends-at c.args.t.now storage c.args.me c.args.load c.args.node_type c.args.references.now c.unwrap-row.result _ _ _
    (sym c.in_default.is ∙ c.end_fault.ensures storage) (sym c.unwrap-row.ensures ∙ c.load_of.ensures) c.in-Cell.is in
    (record { node = c.in-Cell.field-0; h = c.in-Cell.handle; may = may; why = c.in-Err.ensures.fault storage any_mode }, refl)
