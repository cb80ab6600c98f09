-- The states of an access and a table together, and what holds of each claim, on any table.
use Rattle.pagable_codec.specs.{
  declared.{env.Env.Ghosts as Environments, hash.KeyHash.Ghosts as Hashes, nodes.NodeSet.Ghosts as Nodes},
}
use Rattle.pagable_load.specs.AccessView.{Acting}
use Rattle.pagable_pageout.specs.declared.claims.ClaimResult.{ClaimResult}
use Rattle.pagable_pager_spec.specs.{Access.IfBothKnown, Basics.longest_path}
use Rattle.std.specs.{
  Prelude.{None, Option, Some, ℕ, ◌+◌, ◌≡◌, ◌≤◌},
  declared.cmp.{Ord.Ghosts as Orders, PartialEq.Ghosts as Equalities, PartialOrd.Ghosts as PartialOrders},
}

-- both states, if both are told
abbrev pub both : {S Q : Type 0} → Option S → Option Q → Option (S × Q)
both None q = None
both (Some s) None = None
both (Some s) (Some q) = Some (s, q)

-- What is done to the states of an access and of a table, if both are told; and as whom the access acts afterwards.
pub record ActsBoth {A T S Q E : Type 0} (told : A → Option S) (by : A → Acting E) (shelf : T → Option Q) (a : A)
    (t : T) (a' : A) (t' : T) (after : Acting E → Acting E) (does : Acting E → S → Q → S → Q → Type 0) : Type 0 where
  pub step : IfBothKnown (both (told a) (shelf t)) (both (told a') (shelf t'))
      (λ st st'. does (by a) st.0 st.1 st'.0 st'.1)
  pub acting : by a' ≡ after (by a)

module _ {E EN EH EK EV : Type 0} {g : Environments E EN EH EK EV} {gh : Hashes EH} {go : Orders EK}
    {gq : Equalities EK} {gp : PartialOrders EK} {gn : Nodes EN E EN EH EK EV} where
  -- what was found fits at this place on a path
  abbrev pub FitsAtPlace : ℕ → ClaimResult E EN EH EK EV g gh go gq gp gn → Type 0
  FitsAtPlace place ClaimResult.Claimed = place ≤ longest_path
  FitsAtPlace place (ClaimResult.Known r) = place + r.height ≤ longest_path
  FitsAtPlace place found = Unit {0}
