-- The plain claims that a lent table stands for, and what a claim found in it.
use Rattle.pagable_codec.specs.{
  declared.{env.Env.Ghosts as Environments, hash.KeyHash.Ghosts as Hashes, nodes.NodeSet.Ghosts as Nodes},
}
use Rattle.pagable_pageout.specs.{
  Slots.shelf_in,
  declared.{claims.ClaimResult.ClaimResult, lent_table.LentTable.LentTable},
}
use Rattle.pagable_pager_spec.specs.{Basics.{Error, Identity}, World.Shelf, declared.events.Claim.Claim}
use Rattle.std.specs.{
  Prelude.{Err, Ok, Result, ◌≡◌},
  declared.cmp.{Ord.Ghosts as Orders, PartialEq.Ghosts as Equalities, PartialOrd.Ghosts as PartialOrders},
}

module _ {E EN EH EK EV : Type 0} {g : Environments E EN EH EK EV} {gh : Hashes EH} {go : Orders EK}
    {gq : Equalities EK} {gp : PartialOrders EK} {gn : Nodes EN E EN EH EK EV} where
  abbrev pub shelf_of : LentTable E EN EH EK EV g gh go gq gp gn → Shelf
  shelf_of t = shelf_in t.slots t.waits

  abbrev pub claim_of : ClaimResult E EN EH EK EV g gh go gq gp gn → Claim
  claim_of ClaimResult.Claimed = Claim.Claimed
  claim_of (ClaimResult.Known r) = Claim.Known r.key r.height
  claim_of ClaimResult.Waiting = Claim.Waiting
  claim_of ClaimResult.AlreadyFailed = Claim.AlreadyFailed

  abbrev pub claim_result : Result (ClaimResult E EN EH EK EV g gh go gq gp gn) Error → Result Claim Error
  claim_result (Ok c) = Ok (claim_of c)
  claim_result (Err e) = Err e

  -- a known result is that of this identity
  abbrev pub IsResultOf : Identity → ClaimResult E EN EH EK EV g gh go gq gp gn → Type 0
  IsResultOf i (ClaimResult.Known r) = r.identity ≡ i
  IsResultOf i found = Unit {0}
