-- The outcomes of slots and claims are those of their identities; and how many claims a claim counts.
use Rattle.pagable_codec.specs.{
  declared.{env.Env.Ghosts as Environments, hash.KeyHash.Ghosts as Hashes, nodes.NodeSet.Ghosts as Nodes},
}
use Rattle.pagable_locked.specs.declared.table.ClaimFound.{ClaimFound}
use Rattle.pagable_pageout.specs.declared.lent_slot.Outcome.{Outcome}
use Rattle.pagable_value_spec.specs.declared.{error.Error.Error, numbers.Identity.Identity}
use Rattle.std.specs.{
  Prelude.{IfSome, Ok, Result, ℕ, ◌≡◌, ◌≢◌},
  declared.cmp.{Ord.Ghosts as Orders, PartialEq.Ghosts as Equalities, PartialOrd.Ghosts as PartialOrders},
}

module _ {E EN EH EK EV : Type 0} {g : Environments E EN EH EK EV} {gh : Hashes EH} {go : Orders EK}
    {gq : Equalities EK} {gp : PartialOrders EK} {gn : Nodes EN E EN EH EK EV} where
  -- of two outcomes that are set one after the other, the one that stays
  abbrev pub first_outcome : Outcome E EN EH EK EV g gh go gq gp gn → Outcome E EN EH EK EV g gh go gq gp gn
      → Outcome E EN EH EK EV g gh go gq gp gn
  first_outcome Outcome.Open later = later
  first_outcome outcome later = outcome

  -- the outcome that is returned for an identity: the same result, or a failure if the result is another identity's
  abbrev pub ReturnsOutcomeFor : Identity → Outcome E EN EH EK EV g gh go gq gp gn
      → Outcome E EN EH EK EV g gh go gq gp gn
      → Type 0
  ReturnsOutcomeFor i Outcome.Open Outcome.Open = Unit {0}
  ReturnsOutcomeFor i (Outcome.Published r) (Outcome.Published t) =
      (r.identity ≡ i) × (t.key ≡ r.key) × (t.height ≡ r.height)
  ReturnsOutcomeFor i (Outcome.Published r) Outcome.Failed = r.identity ≢ i
  ReturnsOutcomeFor i Outcome.Failed Outcome.Failed = Unit {0}
  ReturnsOutcomeFor i outcome told = ⊥

  -- a result is of this identity
  abbrev pub IsOutcomeOf : Identity → Outcome E EN EH EK EV g gh go gq gp gn → Type 0
  IsOutcomeOf i (Outcome.Published r) = r.identity ≡ i
  IsOutcomeOf i outcome = Unit {0}

  -- the slot, or the result, is of this identity
  abbrev pub IsClaimFoundOf : Identity → ClaimFound E EN EH EK EV g gh go gq gp gn → Type 0
  IsClaimFoundOf i (ClaimFound.Claimed slot) = slot.identity ≡ i
  IsClaimFoundOf i (ClaimFound.Waits slot) = slot.identity ≡ i
  IsClaimFoundOf i (ClaimFound.Ended outcome) = IfSome outcome (λ r. r.identity ≡ i)

  -- how many claims a worker's claim counts: one if the identity was free, none if it wasn't or the claim is refused
  abbrev pub claims_made : Result (ClaimFound E EN EH EK EV g gh go gq gp gn) Error → ℕ
  claims_made (Ok (ClaimFound.Claimed slot)) = 1
  claims_made result = 0
