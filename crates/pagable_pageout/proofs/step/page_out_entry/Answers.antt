use Rattle.pagable_load.proofs.LoadSteps.{acts_on}
use Rattle.pagable_load.specs.AccessView.{Acts}
use Rattle.pagable_pageout.proofs.{Joint.both-alone, Pages.{entry-there, entry-walked, is-caller}, Words.{acts_map, answer_of, refl, shelf_of, values_at}}
use Rattle.pagable_pageout.specs.PageOuts.{PagesEntry}

pub returns : Rattle.pagable_pageout.proofs.step.page_out_entry.Goals.returns
returns g c =
    let says = c.start_entry-task.ensures in
    let paged : Acts g.A.Access.known_state g.A.Access.acting _ _ (λ a. PagesEntry (values_at g.E.Node.NodeSet g.E.Env g.E.Hash.KeyHash a.environment)
    c.args.place
    (answer_of c.result_of.result)) =
    rw c.result_of.ensures (acts_on c.in-Ok.ensures.begins
    (both-alone (shelf_of c.forget_claims.new.self) (shelf_of c.run.new.table) refl refl c.run.ensures.acts)
    (λ s mid t starts run. entry-walked refl says.plain says.todo c.forget_claims.ensures starts run)
    (is-caller (g.A.Access.acting c.args.access.now) c.requires.caller)) in
    rw c.entry_result.ensures (acts_map paged (entry-there c.args.place c.result_of.result))
