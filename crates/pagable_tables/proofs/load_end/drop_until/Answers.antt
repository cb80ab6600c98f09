use Rattle.pagable_tables.proofs.{
  CallsKeepWhole.{closes, owned-in},
  CascadeStep.begun-less,
  OwnedByLoad.{closed-still, does-as, drops-with, later-less, lazily-by, listing, loads-anew, still-reaches, updated-by},
  Views.{newer-falls, roomy-whole, stays-on},
  Words.{LoadCloses, Owner, arith, core_of, inl, inr, is_owned_in, load_at, load_in, option_map, refl, without_load},
}

pub returns : Rattle.pagable_tables.proofs.load_end.drop_until.Goals.returns
returns g c =
    let t = c.args.t.now in
    let l = c.args.load in
    drops-with (does-as (lazily-by {lists = c.args.lists} {old = t} {new = record t { ref_counts = c.release_owned.new.t; loads = c.remove_row.new.rows }}
    {step = λ w w'. LoadCloses w l c.release_owned.result w'}
    (λ storage e.
    let w = core_of t storage in
    let u = without_load w l in
    let falls = c.release_owned.ensures.falls w u (record u { loads = λ m. option_map load_in (load_at c.remove_row.new.rows m) }) (λ m. refl)
    (begun-less t u.loads _ storage _ c.requires.whole e) (omega arith)
    (λ q own. let after = c.requires.above q own in ((omega arith, inl after), c.requires.up_to q own)) in
    loads-anew
    (updated-by (option_map load_in) c.remove_row.ensures.gone c.remove_row.ensures.others) falls)
    c.release_owned.ensures.steady (let w = listing c.args.lists t in closes {u = w} l (is_owned_in w (Owner.Load l)) (roomy-whole c.requires.whole.core)
    (stays-on w) (owned-in c.requires.whole.core l))
    (λ fell later. later-less later (newer-falls fell) refl (closed-still c.remove_row.ensures.gone
    c.remove_row.ensures.others) (still-reaches refl)))
    (λ storage fell e. record { does = inr (load_in c.args.row, c.requires.own storage, fell e) })) c.release_owned.ensures.drops
