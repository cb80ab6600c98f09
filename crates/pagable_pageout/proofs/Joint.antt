-- What an access and a table do together.
use Rattle.pagable_load.proofs.LoadSteps.{told_then}
use Rattle.pagable_load.specs.AccessView.{Acting, ActsThen, IfKnown}
use Rattle.pagable_pageout.proofs.Words.{None, Option, Some, ap, refl, subst, tells_all, tests, ◌∙◌, ◌≡◌}
use Rattle.pagable_pageout.specs.Joint.{ActsBoth, both}
use Rattle.pagable_pager_spec.specs.Access.{IfBothKnown, if_both_known}
use Rattle.std.specs.Prelude.{IfSome}

pub told-as : {S : Type 0} {o n : Option S} {R P : S → S → Type 0} → ((s t : S) → R s t → P s t) → IfBothKnown o n R → IfBothKnown o n P
told-as {S} {o} {n} f h = grind tests

module _ {S Q : Type 0} where
  told-first : (o n : Option S) (q : Option Q) (R : S → Q → S → Q → Type 0) → ((x : Q) → if_both_known o n (λ s s'. R s x s' x))
      → if_both_known (both o q) (both n q) (λ st st'. R st.0 st.1 st'.0 st'.1)
  told-first (Some s) (Some s') (Some x) R h = h x
  told-first None (Some s') (Some x) R h = h x
  told-first o n q R h = tt

  told-second : (o : Option S) (q p : Option Q) (P : S → Type 0) (R : Q → Q → Type 0) (D : S → Q → S → Q → Type 0) → IfSome o P → if_both_known q p R
      → ((s : S) (x y : Q) → P s → R x y → D s x s y)
      → if_both_known (both o q) (both o p) (λ st st'. D st.0 st.1 st'.0 st'.1)
  told-second o q p P R D h k f = grind tests

  told-each : (o n : Option S) (q p : Option Q) (R : S → S → Type 0) (K : Q → Q → Type 0) (D : S → Q → S → Q → Type 0) → if_both_known o n R
      → if_both_known q p K
      → ((s s' : S) (x y : Q) → R s s' → K x y → D s x s' y)
      → if_both_known (both o q) (both n p) (λ st st'. D st.0 st.1 st'.0 st'.1)
  told-each o n q p R K D h k f = grind tests

  told-stays : (o : Option S) (q : Option Q) (P : S → Type 0) (D : S → Q → S → Q → Type 0) → IfSome o P → ((s : S) (x : Q) → P s → D s x s x)
      → if_both_known (both o q) (both o q) (λ st st'. D st.0 st.1 st'.0 st'.1)
  told-stays o q P D h f = grind tests

  told-alone : (o n : Option S) (x y : Q) (R : S → Q → S → Q → Type 0) → if_both_known (both o (Some x)) (both n (Some y)) (λ st st'. R st.0 st.1 st'.0 st'.1)
      → if_both_known o n (λ s s'. R s x s' y)
  told-alone o n x y R h = grind tests

module _ {A T S Q E : Type 0} {told : A → Option S} {by : A → Acting E} {shelf : T → Option Q} where
  -- the access acts, and the table stays
  pub both-first : {a a' : A} {t : T} {after : Acting E → Acting E} {R : Acting E → S → Q → S → Q → Type 0}
      → ((q : Q) → ActsThen told by a a' after (λ x s s'. R x s q s' q)) → Q → ActsBoth told by shelf a t a' t after R
  both-first {a} {a'} {t} {after} {R} h q = record {
    step = record { holds = told-first (told a) (told a') (shelf t) (R (by a)) (λ x. (h x).step.holds) };
    acting = (h q).acting;
  }

  -- the table changes, and the access stays
  pub both-second : {a : A} {t t' : T} {P : S → Type 0} {R : Q → Q → Type 0} {D : Acting E → S → Q → S → Q → Type 0} → IfKnown (told a) P
      → IfBothKnown (shelf t) (shelf t') R → ((s : S) (x y : Q) → P s → R x y → D (by a) s x s y)
      → ActsBoth told by shelf a t a t' (λ x. x) D
  both-second {a} {t} {t'} {P} {R} {D} h k f = record {
    step = record { holds = told-second (told a) (shelf t) (shelf t') P R (D (by a)) h.holds k.holds f };
    acting = refl;
  }

  -- both change
  pub both-each : {a a' : A} {t t' : T} {after : Acting E → Acting E} {R : Acting E → S → S → Type 0} {K : Q → Q → Type 0}
      {D : Acting E → S → Q → S → Q → Type 0} → ActsThen told by a a' after R → IfBothKnown (shelf t) (shelf t') K
      → ((s s' : S) (x y : Q) → R (by a) s s' → K x y → D (by a) s x s' y) → ActsBoth told by shelf a t a' t' after D
  both-each {a} {a'} {t} {t'} {after} {R} {K} {D} h k f = record {
    step =
        record { holds = told-each (told a) (told a') (shelf t) (shelf t') (R (by a)) K (D (by a)) h.step.holds k.holds f };
    acting = h.acting;
  }

  -- the same, told otherwise
  pub both-as : {a a' : A} {t t' : T} {after : Acting E → Acting E} {R D : Acting E → S → Q → S → Q → Type 0}
      → ((s s' : S) (x y : Q) → R (by a) s x s' y → D (by a) s x s' y) → ActsBoth told by shelf a t a' t' after R
      → ActsBoth told by shelf a t a' t' after D
  both-as {a} {a'} {t} {t'} {after} {R} {D} f h = record {
    step = told-as {R = λ st st'. R (by a) st.0 st.1 st'.0 st'.1}
        {P = λ st st'. D (by a) st.0 st.1 st'.0 st'.1} (λ st st'. f st.0 st'.0 st.1 st'.1) h.step;
    acting = h.acting;
  }

  -- one thing after another
  pub both-on : {a m n : A} {t u w : T} {first then after : Acting E → Acting E} {R K D : Acting E → S → Q → S → Q → Type 0}
      → ActsBoth told by shelf a t m u first R → ActsBoth told by shelf m u n w then K
      → ((s mid s' : S) (x y z : Q) → R (by a) s x mid y → K (first (by a)) mid y s' z → D (by a) s x s' z) → then (first (by a)) ≡ after (by a)
      → ActsBoth told by shelf a t n w after D
  both-on {a} {m} {n} {t} {u} {w} {first} {then} {after} {R} {K} {D} h k f is = record {
    step = told_then {R = λ st st'. R (by a) st.0 st.1 st'.0 st'.1} {T = λ st st'. K (first (by a)) st.0 st.1 st'.0 st'.1}
        (λ st mid st' r q. f st.0 mid.0 st'.0 st.1 mid.1 st'.1 r q) h.step
        (subst (λ x. IfBothKnown (both (told m) (shelf u)) (both (told n) (shelf w)) (λ st st'. K x st.0 st.1 st'.0 st'.1)) h.acting k.step);
    acting = k.acting ∙ ap then h.acting ∙ is;
  }

  -- nothing is done, as far as is known of the access's state
  pub both-stays : {a : A} {t : T} {P : S → Type 0} {D : Acting E → S → Q → S → Q → Type 0} → IfKnown (told a) P → ((s : S) (x : Q) → P s → D (by a) s x s x)
      → ActsBoth told by shelf a t a t (λ x. x) D
  both-stays {a} {t} {P} {D} h f = record { step = record { holds = told-stays (told a) (shelf t) P (D (by a)) h.holds f }; acting = refl }

  -- nothing is done
  pub both-all : {a : A} {t : T} {R : Acting E → S → Q → S → Q → Type 0} → ((s : S) (x : Q) → R (by a) s x s x) → ActsBoth told by shelf a t a t (λ x. x) R
  both-all f = both-stays {P = λ s. Unit {0}} (tells_all (λ s. tt)) (λ s x u. f s x)

  -- the table is lent
  pub both-alone : {a a' : A} {t t' : T} {after : Acting E → Acting E} {R : Acting E → S → Q → S → Q → Type 0} (x y : Q) → shelf t ≡ Some x → shelf t' ≡ Some y
      → ActsBoth told by shelf a t a' t' after R
      → ActsThen told by a a' after (λ b s s'. R b s x s' y)
  both-alone {a} {a'} {t} {t'} {after} {R} x y is is' h = record {
    step = record {
      holds = told-alone (told a) (told a') x y (R (by a))
          (subst (λ p. if_both_known (both (told a) (Some x)) (both (told a') p) (λ st st'. R (by a) st.0 st.1 st'.0 st'.1)) is'
          (subst (λ p. if_both_known (both (told a) p) (both (told a') (shelf t')) (λ st st'. R (by a) st.0 st.1 st'.0 st'.1)) is h.step.holds));
    };
    acting = h.acting;
  }
