use Rattle.pagable_load.proofs.LoadSteps.{acts_map, acts_then}
use Rattle.std.proofs.{Common.refl, lemmas.Result.err_from_is_err_and}
use Rattle.pagable_pager.proofs.lent.LentWorkerAccess.set_key_and_release.Goals.{in-None, in-Some+in_ok-set_data_key-in-Some}
use Rattle.pagable_pager.proofs.lent.LentWorkerAccess.set_key_and_release.Goals as goal

pub returns-in_err-set_data_key-in-Some : goal.returns-in_err-set_data_key-in-Some
returns-in_err-set_data_key-in-Some g c =
    let p = err_from_is_err_and c.from_residual.result c.from_residual.ensures.1 in
    rw (p.1, p.2) (acts_map c.in_err-set_data_key-in-Some.ensures (λ s t sets. record { closes = tt; refused = rw c.in-Some.is sets }))

pub returns : goal.returns
returns g c = elim c.match-at.branch [
  | in-Some+in_ok-set_data_key-in-Some w ↦ acts_then w.in_ok-set_data_key-in-Some.ensures (rw w.self-is at c.release_worker_node.ensures)
      (λ s mid t sets gives. record { closes = (mid, rw w.in-Some.is sets, gives); refused = tt })
  | in-None w ↦ acts_map (rw w.self-is at c.release_worker_node.ensures)
      (λ s t gives. record { closes = (s, rw w.in-None.is (refl, refl), gives); refused = tt })
]
