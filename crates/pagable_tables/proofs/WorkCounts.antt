-- The handles of each node that workers own, counted, as handles are added, removed and changed.
use Rattle.pagable_tables.proofs.{
  Counting.{one-le, ones},
  RowCounts.{at-most-sum, counted, found-among, found-so, sum-map},
  Words.{AllPairs, Bool, Core, HandleNumber, HandleRow, IsHandleBefore, List, NodeNumber, NodeRow, None, NumberTable, Option, Owner, ReleaseSet, Some, ap},
  Words.{arith, basics, cases_eq, contains_row, false, find_row, held, if◌then◌else◌, inl, inr, is_at, is_in, length, moved, numbers_of, one, passes_in, refl},
  Words.{suc, sum_by-cons, sum_by-le-sum_by, sum_by_push, take, times, true, zero, ℕ, [], ◌&&◌, ◌++◌, ◌+◌, ◌∷◌, ◌≡◌, ◌≤◌},
}
use Rattle.pagable_tables.specs.{CascadeInvariant.{BoundsWorkerHandles, is_work, is_worker}, Nodes.most_worker_handles_at}
use Rattle.pagable_value_spec.specs.declared.numbers.WorkerNumber.{WorkerNumber}

-- those that moved count where they are a worker's from now on
moves : (n : ℕ) (s : ℕ → Bool) (o : Owner) (rows : List HandleRow) → times (is_work n) (moved s o rows) ≤ times (is_work n) rows + times
    (λ h. s h.number.0 && (is_at n h && is_worker o)) rows
moves n s o [] = omega arith
moves n s o (x ∷ xs) = grind (
  basics,
  sum_by-cons (λ h. one (is_work n h)) x xs,
  sum_by-cons (λ h. one (s h.number.0 && (is_at n h && is_worker o))) x xs,
  moves n s o xs,
  sum_by-cons (λ h. one (is_work n h)) (if s x.number.0 then record x { owner = o } else x) (moved s o xs),
)

none-to : (n : ℕ) (s : ℕ → Bool) (o : Owner) (rows : List HandleRow) → is_worker o ≡ false → times (λ h. s h.number.0 && (is_at n h && is_worker o)) rows ≡ 0
none-to n s o [] e = refl
none-to n s o (x ∷ xs) e = grind (basics, sum_by-cons (λ h. one (s h.number.0 && (is_at n h && is_worker o))) x xs, none-to n s o xs e)

pub work-moved : (nodes : NumberTable NodeRow) (s : ℕ → Bool) (o : Owner) (rows : List HandleRow) → is_worker o ≡ false → BoundsWorkerHandles rows nodes
    → BoundsWorkerHandles (moved s o rows) nodes
work-moved nodes s o rows e w n = omega (arith, moves n s o rows, none-to n s o rows e, w n)

-- where those that moved come to a worker, their nodes may have no other handles
pub work-comes : (nodes nodes' : NumberTable NodeRow) (s : ℕ → Bool) (o : Owner) (rows : List HandleRow) → AllPairs IsHandleBefore rows
    → BoundsWorkerHandles rows nodes
    → ((n : ℕ) → most_worker_handles_at nodes n ≤ most_worker_handles_at nodes' n) → ((q : ℕ) (row : HandleRow) → s q ≡ true → find_row q rows ≡ Some row
    → held row.node.0 rows ≤ most_worker_handles_at nodes' row.node.0)
    → BoundsWorkerHandles (moved s o rows) nodes'
work-comes nodes nodes' s o rows ordered w more here n = at (times (λ h. s h.number.0 && is_at n h) rows) refl
  where
    at : (many : ℕ) → times (λ h. s h.number.0 && is_at n h) rows ≡ many → times (is_work n) (moved s o rows) ≤ most_worker_handles_at nodes' n
    at zero e =
        omega (
          arith,
          moves n s o rows,
          more n,
          w n,
          sum_by-le-sum_by (λ (h : HandleRow). one (s h.number.0 && (is_at n h && is_worker o)))
              (λ h. one (s h.number.0 && is_at n h)) rows
              (λ h. grind basics),
        )
    at (suc many) e =
        let (x, among, some) = counted (λ (h : HandleRow). one (s h.number.0 && is_at n h)) rows (omega arith) in
        let is : (s x.number.0 ≡ true) × (x.node.0 ≡ n) = grind basics in
        let all = here x.number.0 x is.0 (found-so x.number.0 rows x ordered among refl) in
        let less = sum_by-le-sum_by (λ (h : HandleRow). one (is_work n h)) (λ h. one (is_at n h)) (moved s o rows) (λ h. grind basics) in
        omega (
          arith,
          ap (λ m. held m rows) is.1,
          ap (most_worker_handles_at nodes') is.1,
          sum-map (λ h. one (is_at n h)) (λ h. one (is_at n h)) (λ (h : HandleRow). if s h.number.0 then record h { owner = o } else h) rows
              (λ h among. grind basics),
        )

one-work : (x : HandleRow) → one (is_work x.node.0 x) ≡ one (is_worker x.owner)
one-work x = grind basics

-- a handle more
pub work-push : (rows : List HandleRow) (x : HandleRow) (nodes nodes' : NumberTable NodeRow) → BoundsWorkerHandles rows nodes
    → ((n : ℕ) → most_worker_handles_at nodes n ≤ most_worker_handles_at nodes' n)
    → (times (is_work x.node.0) rows + one (is_worker x.owner) ≤ most_worker_handles_at nodes' x.node.0) → BoundsWorkerHandles (rows ++ x ∷ []) nodes'
work-push rows x nodes nodes' w more here n =
    let push = sum_by_push (λ h. one (is_work n h)) rows x in
    elim (cases_eq n x.node.0) [
      | inl same ↦ omega (arith, ap (λ m. times (is_work m) rows) same, ap (λ m. one (is_work m x)) same, ap (most_worker_handles_at nodes') same, one-work x)
      | inr other ↦ let none : one (is_work n x) ≡ 0 = grind basics in omega (arith, w n, more n)
    ]

pub work-few : (n : ℕ) (rows : List HandleRow) → times (is_work n) rows ≤ length rows
work-few n rows = omega (arith, ones rows, sum_by-le-sum_by (λ h. one (is_work n h)) (λ h. 1) rows (λ h. one-le (is_work n h)))

-- where no worker has a handle of the node none is given up there
pub none-at-work : (v : WorkerNumber) (m : NodeNumber) (w : Core) (rows : List HandleRow) (nodes : NumberTable NodeRow) → BoundsWorkerHandles rows nodes
    → most_worker_handles_at nodes m.0 ≡ 0 → (q : ℕ)
    → passes_in (contains_row w (ReleaseSet.AtNode v m)) rows q ≡ false
none-at-work v m w rows nodes worked none q = at (find_row q rows) refl
  where
    at : (found : Option HandleRow) → find_row q rows ≡ found → passes_in (contains_row w (ReleaseSet.AtNode v m)) rows q ≡ false
    at (Some x) e =
        let a = found-among q rows x e in
        grind (basics, at-most-sum (λ h. one (is_work m.0 h)) rows x a.0, worked m.0)
    at None e = grind basics

pub none-taken : (hs : List HandleNumber) (q : ℕ) → is_in (numbers_of (take 0 hs)) q ≡ false
unfolding is_in
none-taken hs q = refl
