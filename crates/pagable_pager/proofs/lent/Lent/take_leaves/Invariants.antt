use Rattle.pagable_load.specs.AccessView.{Acts, values_at}
use Rattle.pagable_pager.specs.{TakenLeaves.{HasTaken}, View.{pager_state}}
use Rattle.std.proofs.Common.{None, Some, if◌then◌else◌, length, ◌+◌, ◌≡◌, ◌≤◌}
use Rattle.std.specs.Prelude.{vec_capacity}
use Rattle.pagable_pager.proofs.lent.Lent.take_leaves.Given as goal

-- the entries down to `place` are taken, and there is room for the others
abbrev pub invariant-loop-place : goal.invariant-loop-place
invariant-loop-place g l = Acts (λ p. if g.S.PagableStorage.is_honest p.pager.now.storage then Some (pager_state g.S.PagableStorage p.pager.now) else None)
    (λ p. record { me = p.me; environment = p.pager.now.environment; lender = p.pager.ghost_name }) l.fn.self l.self
    (λ a s t. HasTaken (values_at g.E.Node.NodeSet g.E.Env g.E.Hash.KeyHash a.environment) a.me l.left s l.taken.items l.place t)
    × (length l.taken.items + l.place ≡ l.left) × (16 ≤ vec_capacity l.taken)

abbrev pub decreases-loop-place : goal.decreases-loop-place
decreases-loop-place g l = l.place
