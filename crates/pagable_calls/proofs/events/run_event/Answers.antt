use Rattle.pagable_calls.proofs.{Driven.{call-made, serves-same, start-made}, Keeping.{drives, drives-beside}}
use Rattle.pagable_load.specs.AccessView.{values_at}
use Rattle.std.proofs.Common.{arith, refl}
use Rattle.pagable_calls.proofs.events.run_event.Goals as goal

pub returns-in-Call : goal.returns-in-Call
returns-in-Call g c =
    rw c.in-Call.is (drives c.requires c.make_call-reply.ensures.honest c.requires.on_tables
    (λ is serving. call-made (values_at g.E.Node.NodeSet g.E.Env g.E.Hash.KeyHash) _ _ _ _ serving c.assert_invariant.ensures _ _ _
    (c.make_call-reply.ensures.serves is) c.assert_invariant-in-Call.ensures c.forget_if_closed.ensures))

pub returns-in-LoadStart : goal.returns-in-LoadStart
returns-in-LoadStart g c = rw c.in-LoadStart.is (drives-beside c.requires c.load_begin-begun.ensures.only.storage (omega arith) (λ q. refl)
    (λ serving. start-made (values_at g.E.Node.NodeSet g.E.Env g.E.Hash.KeyHash) _ _ _ _ serving c.assert_invariant.ensures _ _
    (serves-same c.load_begin-begun.ensures.step c.load_begin-begun.ensures.only) c.assert_invariant-in-LoadStart.ensures))

pub returns-in-LoadStep : goal.returns-in-LoadStep
returns-in-LoadStep g c = rw c.in-LoadStep.is c.load_step.ensures

pub returns-in-WorkerListed : goal.returns-in-WorkerListed
returns-in-WorkerListed g c = rw c.in-WorkerListed.is c.begin_entry_worker.ensures

pub returns-in-WorkerStep : goal.returns-in-WorkerStep
returns-in-WorkerStep g c = rw c.in-WorkerStep.is c.step_worker.ensures
