use Rattle.blob_file.specs.{File.stored, Rows.Body}
use Rattle.pagable_file.proofs.{
  Flawed.{bodies_same, stays_self, stays_then},
  Planned.{tracked_empty, walk_begins, walk_ends, walk_goes_on},
}
use Rattle.pagable_file.specs.Flaws.{IsFlawAt, IsSoundAt, TellsFlaws, children_in}
use Rattle.pagable_value_spec.specs.Blob.{key_of}
use Rattle.std.proofs.{
  Common.{Option, ap, arith, length, subst, sym, ℕ, ◌<◌, ◌∙◌, ◌≡◌, ◌≢◌, ◌≤◌},
  lemmas.Bool.and_parts,
}
use Rattle.std.specs.Cmp.Derive.{both_true}
use Rattle.pagable_file.proofs.root_check.test_reached.Goals.{else-loop-at-test, then-loop-at-test+then-at-len}
use Rattle.pagable_file.proofs.root_check.test_reached.Goals as goal

pub loop-at-init : goal.loop-at-init
loop-at-init g c = (
  c.requires.settled,
  stays_self g.D.Disk c.args.file.now,
  λ honest. walk_begins (key_of g.H.KeyHash.digest) (stored g.D.Disk c.args.file.now) c.args.root c.new-order.result.items c.plan_key.new.plan.order.items
      c.plan_key.new.plan.planned c.args.flaws.now.items c.new-order.ensures.items
      (c.in_ok-plan_key.ensures.plans (tracked_empty c.new-order.result.items c.new-planned.result c.new-planned.ensures.empty)),
)

pub loop-at-preserved : goal.loop-at-preserved
loop-at-preserved g c =
    let l = c.loop-at in
    let of = key_of g.H.KeyHash.digest in
    let file = c.args.file.now in
    let bodies = stored g.D.Disk file in
    let found = stored g.D.Disk l.file in
    let stays = c.test_blob.ensures.stays in
    let key = c.index.result.now in
    let within : l.at < length l.plan.order.items = omega arith in
    let above : c.get-key.result ≢ 0 = λ none. omega (arith, c.get-key.ensures.above, none) in (
      c.test_blob.ensures.settled,
      stays_then g.D.Disk _ _ _ l.invariant.1 stays,
      λ honest.
          let parts = and_parts (g.D.Disk.is_clean c.test_blob.new.file.log.disk) c.test_blob.new.file.log.is_whole honest in
          let was = l.invariant.2 (both_true (stays.clean parts.0) (sym stays.whole ∙ parts.1)) in
          let same = bodies_same g.D.Disk file l.file l.invariant.1.content in
          let told = subst (λ (n : ℕ). TellsFlaws (IsFlawAt of found n) l.flaws.items c.test_blob.new.flaws.items (IsSoundAt of found n))
          c.get-key.ensures.value (c.in_ok-children.ensures.tested parts.0) in
          let tells = subst (λ (now : ℕ → Option Body). TellsFlaws (IsFlawAt of now key) l.flaws.items c.test_blob.new.flaws.items (IsSoundAt of now key))
          same told in
          let kids : c.as_slice.result.now ≡ children_in bodies key =
          c.as_slice.ensures.value ∙ c.in_ok-children.ensures.children parts.0 above ∙ ap (λ (n : ℕ). children_in found n) c.get-key.ensures.value
          ∙ ap (λ (now : ℕ → Option Body). children_in now key) same in
          walk_goes_on of bodies c.args.root l.at key l.plan.order.items c.plan_keys.new.plan.order.items l.plan.planned c.plan_keys.new.plan.planned
          c.as_slice.result.now within c.index.ensures was tells kids (c.in_ok-plan_keys.ensures.plans was.tracked),
    )

pub returns-clause-tested : goal.returns-clause-tested
returns-clause-tested g c honest =
    let l = c.loop-at in
    let ended : length l.plan.order.items ≤ l.at = elim c.loop-at-test.branch [
      | else-loop-at-test w ↦ omega (arith, w.loop-at-test.false, l.plan.order.small)
      | then-loop-at-test+then-at-len w ↦ omega (arith, w.if-at-len.true, w.len.ensures)
    ] in
    walk_ends (key_of g.H.KeyHash.digest) (stored g.D.Disk c.args.file.now) c.args.root l.at l.plan.order.items l.plan.planned ended (l.invariant.2 honest)
