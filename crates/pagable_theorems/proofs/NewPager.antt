-- A new pager over any storage satisfies the invariant and stands for any trees, since nothing is in it.
use Rattle.pagable_pager_spec.specs.{Kinds.{is_at, is_pin, is_share}, Pager.{IsNew, IsReadingOf, OwnersAreThere, of_caller, of_worker}}
use Rattle.pagable_theorems.proofs.{
  Words.{Among, Bool, HandleNumber, HandleRow, HandlesAreWhole, IsIdle, IsLawful, IsPagerWhole, MachineState, Owner, PagerStandsFor, PagerState, Reading, Tree},
  Words.{Values, ap, arith, basics, false, inl, is_handle, is_owned_by, is_some, owner_value, refl, sym, times, ℕ, ◌&&◌, ◌==◌, ◌∙◌, ◌≡◌},
}
use Rattle.pagable_theorems.specs.SmallWorlds.{NewMachineIsWhole, StartsWell}

module _ {N E : Type 0} (v : Values N) (s : PagerState N E) (new : IsNew s) where
  nobody-has : (h : HandleRow) → Among s.core.rows h → ⊥
  nobody-has h among = grind (basics, new.rows, among.1)

  none-counted : (q : HandleRow → Bool) → times q s.core.rows ≡ 0
  none-counted q = rw new.rows refl

  none-listed : (q : HandleNumber → Bool) → times q s.core.list ≡ 0
  none-listed q = rw new.list refl

  no-cell : (n : ℕ) → is_some (s.core.cells n) ≡ false
  no-cell n = ap is_some (new.cells n)

  new-handles : HandlesAreWhole s.core
  new-handles = record {
    ordered = rw new.rows (grind basics);
    numbered = λ h among. absurd (nobody-has h among);
    nodes_numbered = λ n is. absurd (cc (no-cell n));
    within = rw new.last (omega arith, omega arith, omega arith);
    live = λ n. rw (no-cell n, none-counted (is_at n)) refl;
    uniform = λ n. inl (none-counted (is_share n));
    unkeyed = λ n some. absurd (omega (arith, none-counted (is_share n)));
    places = rw (new.rows, new.list) (omega arith, omega arith);
  }

  new-owners : OwnersAreThere s.core
  new-owners = record {
    listed = λ q. none-listed (λ h. h.0 == q) ∙ sym (none-counted (λ h. is_handle q h && is_owned_by Owner.List h));
    waiting = λ h among own. absurd (nobody-has h among);
    loads = λ h l among own. absurd (nobody-has h among);
    workers = λ h v among own. absurd (nobody-has h among);
  }

  new-well : IsPagerWhole v s
  new-well = record {
    whole = record {
      handles = new-handles;
      owners_there = new-owners;
      loads = record {
        numbered = λ l is. absurd (grind (basics, new.loads l));
        owned = λ l load is. absurd (cc (new.loads l));
        roots = λ l load node t h is root. absurd (cc (new.loads l));
      };
      cache = λ kind key n is. absurd (cc (new.cache kind key));
      workers_numbered = λ u is. absurd (cc (new.workers u));
      shut = λ closed. (new.list, new.cache);
    };
    counted = λ n. new.counts n ∙ sym (none-counted (is_pin n));
    valued = λ n. rw (new.values n, no-cell n) refl;
    typed = λ n x is. absurd (cc (new.values n));
    owns_references = λ n x q is. absurd (cc (new.values n));
    owns_nothing = λ n none. none-counted (is_owned_by (owner_value n));
    references = λ n x r is among. absurd (cc (new.values n));
  }

  new-represents : (trees : ℕ → Tree) → PagerStandsFor v s trees
  new-represents trees = record {
    stands = λ n some. absurd (omega (arith, none-counted (is_at n)));
    typed = λ n some. absurd (omega (arith, none-counted (is_at n)));
    loads = λ l load node t h is root. absurd (cc (new.loads l));
    cache = λ kind key n is. absurd (cc (new.cache kind key));
  }

new-starts : {N E : Type 0} (v : Values N) (s : MachineState N E) → IsNew s.pager → IsIdle s → IsLawful v → StartsWell v s
new-starts v s new idle lawful = record {
  whole = record {
    pager = new-well v s.pager new;
    readings = λ l reading is. absurd (cc (idle.readings l));
    walkings = λ n walking is. absurd (cc (idle.walkings n));
    each_walks = λ n is. absurd (cc (idle.nobody n));
  };
  idle = idle;
  stands = λ trees. record { pager = new-represents v s.pager new trees; readings = λ reading is. absurd (unread reading is) };
  lawful = lawful;
  settled = λ n x is. absurd (cc (new.values n));
}
  where
    unread : (reading : Reading) → IsReadingOf s.work reading → ⊥
    unread reading (of_caller l is) = absurd (cc (idle.readings l))
    unread reading (of_worker n place walking r through below is front) = absurd (cc (idle.walkings n))

pub new_whole : {N : Type 0} (E : Type 0) (v : Values N) → NewMachineIsWhole E v
new_whole E v = record { new = grind arith; idle = grind arith; starts = new-starts v }
