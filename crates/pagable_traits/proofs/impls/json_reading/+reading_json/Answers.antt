use Rattle.pagable_codec.proofs.Reading.{moves_refl}
use Rattle.pagable_traits.proofs.{
  Items.{collected_more, collected_none, mean_last},
  Json.{array-deep, flag-part, is-array, is-flag, is-text, null-part, object-deep, other-part, text-part},
  JsonSteps.{all-read, either-memory, none-so-far, one-more, read-deep, read-err, refused-so-far, seen-same, then-err, then-is, then-ok},
  Words.{array_case, mean-none, object_case, read, read_with, refl, rules, sequence, variant},
}
use Rattle.pagable_traits.proofs.impls.json_reading.+reading_json.Goals as goal

pub read_value-returns-in_err-case : goal.read_value-returns-in_err-case
unfolding read read_with
read_value-returns-in_err-case g t c =
    read-err c.from_residual.ensures.1 c.in_err-case.ensures (λ no. absurd no) (λ h. rw h refl)

pub read_value-returns-in-0 : goal.read_value-returns-in-0
read_value-returns-in-0 g t c =
    let told = c.in_ok-case.ensures in
    record { gives = null-part _ _ _ told.gives c.in-0.is; moves = told.moves; same_env = told.same_env; same_levels = told.same_levels }

pub read_value-returns-in_err-flag-in-1 : goal.read_value-returns-in_err-flag-in-1
read_value-returns-in_err-flag-in-1 g t c =
    let told = c.in_ok-case.ensures in
    then-err (λ m. variant 1 m) c.from_residual-in_err-flag-in-1.ensures.1 told c.in_err-flag-in-1.ensures.reads
    (flag-part _ _ _ told.gives c.in-1.is) (λ no. absurd no)

pub read_value-returns-in_ok-flag-in-1 : goal.read_value-returns-in_ok-flag-in-1
read_value-returns-in_ok-flag-in-1 g t c =
    let told = c.in_ok-case.ensures in
    then-ok (λ m. variant 1 m) told c.in_ok-flag-in-1.ensures.reads
    (flag-part _ _ _ told.gives c.in-1.is) (λ m is. is-flag _ m is)

pub read_value-returns-in_err-text-in-3 : goal.read_value-returns-in_err-text-in-3
read_value-returns-in_err-text-in-3 g t c =
    let told = c.in_ok-case.ensures in
    then-err (λ m. variant 3 m) c.from_residual-in_err-text-in-3.ensures.1 told c.in_err-text-in-3.ensures.reads
    (text-part _ _ _ told.gives c.in-3.is) (λ h. h)

pub read_value-returns-in_ok-text-in-3 : goal.read_value-returns-in_ok-text-in-3
read_value-returns-in_ok-text-in-3 g t c =
    let told = c.in_ok-case.ensures in
    then-ok (λ m. variant 3 m) told c.in_ok-text-in-3.ensures.reads
    (text-part _ _ _ told.gives c.in-3.is) (λ m is. is-text _ m is)

pub read_value-returns-in-4 : goal.read_value-returns-in-4
read_value-returns-in-4 g t c =
    let told = c.in_ok-case.ensures in
    then-is told c.read_array.ensures
    (other-part _ _ _ told.gives array_case (rw c.in-4.is refl))

pub read_value-returns-in-5 : goal.read_value-returns-in-5
read_value-returns-in-5 g t c =
    let told = c.in_ok-case.ensures in
    then-is told c.read_object.ensures
    (other-part _ _ _ told.gives object_case (rw c.in-5.is refl))

pub read_array-returns-in_err-count : goal.read_array-returns-in_err-count
read_array-returns-in_err-count g t c =
    read-err c.from_residual.ensures.1 c.in_err-count.ensures (λ no. absurd no) (λ h. rw h refl)

pub read_array-returns-in_err-enter : goal.read_array-returns-in_err-enter
read_array-returns-in_err-enter g t c =
    let told = c.in_ok-count.ensures in
    let down = c.in_err-enter.ensures in
    read-deep _ c.from_residual-in_err-enter.ensures.1 told down.err down.same_input down.same_env (array-deep _ _ _ _ _ told.gives)

pub read_object-returns-in_err-count : goal.read_object-returns-in_err-count
read_object-returns-in_err-count g t c =
    read-err c.from_residual.ensures.1 c.in_err-count.ensures (λ no. absurd no) (λ h. rw h refl)

pub read_object-returns-in_err-enter : goal.read_object-returns-in_err-enter
read_object-returns-in_err-enter g t c =
    let told = c.in_ok-count.ensures in
    let down = c.in_err-enter.ensures in
    read-deep _ c.from_residual-in_err-enter.ensures.1 told down.err down.same_input down.same_env (object-deep _ _ _ _ _ told.gives)

pub read_items-returns : goal.read_items-returns
read_items-returns g t c =
    let made = c.in_ok-values.ensures in
    then-is (record { gives = made.same_rest; moves = made.moves; same_env = made.same_env; same_levels = made.same_levels }) c.fill_array.ensures
    (rw made.same_rest refl)

pub fill_array-loop-index-init : goal.fill_array-loop-index-init
fill_array-loop-index-init g t c = none-so-far (rw c.requires.empty mean-none) refl (moves_refl _) refl refl

pub fill_array-loop-index-preserved : goal.fill_array-loop-index-preserved
fill_array-loop-index-preserved g t c = one-more c.loop-index-test.true c.loop-index.invariant c.in_ok-value.ensures
    (λ ms m each is. rw c.in_ok-push.ensures.items (mean_last _ _ ms _ m each is))

pub fill_array-returns-in_err-value : goal.fill_array-returns-in_err-value
fill_array-returns-in_err-value g t c =
    refused-so-far c.from_residual.ensures.1 c.loop-index-test.true c.loop-index.invariant
    c.in_err-value.ensures (either-memory _) (λ h. rw h refl)

pub fill_array-returns : goal.fill_array-returns
fill_array-returns g t c = all-read
    (λ ms. variant 4 (sequence ms)) c.loop-index-test.false c.loop-index.invariant (λ ms each. is-array c.loop-index.values ms each) refl

pub read_members-loop-index-init : goal.read_members-loop-index-init
read_members-loop-index-init g t c =
    none-so-far (collected_none _ _ _ (search rules)) refl (moves_refl _) refl refl

pub read_members-loop-index-preserved : goal.read_members-loop-index-preserved
read_members-loop-index-preserved g t c = one-more c.loop-index-test.true c.loop-index.invariant c.in_ok-member.ensures
    (λ ms m each is. collected_more _ _ _ _ ms _ m each is c.in_ok-insert.ensures.entries)

pub read_members-returns-in_err-member : goal.read_members-returns-in_err-member
read_members-returns-in_err-member g t c =
    refused-so-far c.from_residual.ensures.1 c.loop-index-test.true c.loop-index.invariant
    c.in_err-member.ensures (either-memory _) (λ h. h)

pub read_members-returns : goal.read_members-returns
read_members-returns g t c =
    all-read (λ ms. ms) c.loop-index-test.false c.loop-index.invariant
    (λ ms each. record { members = c.loop-index.members; is = refl; each = each }) (seen-same _)
