use Rattle.pagable_traits.proofs.{
  Items.{refuses_item, writes_item, writes_no_items},
  Json.{arrays, as-value, deep_faults, item_faults, json-deep, json-long, json-text, long_faults, member-has, member_faults, null-value, objects, seen-flag},
  Json.{seen-number, seen-text, text_faults, value-has},
  JsonSteps.{wrote-below, wrote-deep, wrote-err, wrote-is, wrote-more, wrote-nothing, wrote-then, wrote-then-err},
  Maps.{written-all, written-fewer, written-more, written-none, written-refused},
  Parts.{refuses_second, refuses_first, writes_pair},
  Words.{Is, MeansPair, both, json, length, of_key, of_value, refl, rules, sym, text, ◌∙◌},
}
use Rattle.pagable_traits.specs.{
  JsonFaults.{EntryFault, Fault, array-deep, array-long, array-part, key-fault, object-deep, object-long, object-part, value-fault},
}
use Rattle.serde_json.proofs.Views.{view-Array, view-Object}
use Rattle.serde_json.specs.declared.value.Value as values
use Rattle.pagable_traits.proofs.impls.json_writing.+writing_json.Goals as goal

pub write_value-returns-in-Null : goal.write_value-returns-in-Null
write_value-returns-in-Null g t c = null-value c.in-Null.is c.write_case.ensures

pub write_value-returns-in-Bool : goal.write_value-returns-in-Bool
write_value-returns-in-Bool g t c = as-value c.in-Bool.is (seen-flag _) c.write_flag.ensures

pub write_value-returns-in-Number : goal.write_value-returns-in-Number
write_value-returns-in-Number g t c = as-value c.in-Number.is (seen-number _) c.write_number.ensures

pub write_value-returns-in-String : goal.write_value-returns-in-String
write_value-returns-in-String g t c = as-value c.in-String.is (seen-text _) c.write_text.ensures

pub write_value-returns-in-Array : goal.write_value-returns-in-Array
write_value-returns-in-Array g t c = as-value c.in-Array.is (view-Array _) c.write_array.ensures

pub write_value-returns-in-Object : goal.write_value-returns-in-Object
write_value-returns-in-Object g t c = as-value c.in-Object.is (view-Object _) c.write_object.ensures

pub write_array-returns-in_err-write_case_and_length : goal.write_array-returns-in_err-write_case_and_length
write_array-returns-in_err-write_case_and_length g t c =
    wrote-err c.from_residual.ensures.1 c.in_err-write_case_and_length.ensures
    (λ n l h. (
      (arrays c.args.items.now.items c.len.result (search rules)).long n _ h,
      long_faults (Fault n (values.Array c.args.items.now)) c.len.result (length c.args.items.now.items) _ (search rules) (array-long n c.args.items.now) h,
    ))
    (λ h. json-long _ _ h)

pub write_array-returns-in_err-enter : goal.write_array-returns-in_err-enter
write_array-returns-in_err-enter g t c =
    let down = c.in_err-enter.ensures in
    wrote-deep c.from_residual-in_err-enter.ensures.1
    c.in_ok-write_case_and_length.ensures down.err
    down.same_out down.same_env (λ n le. (
      (arrays c.args.items.now.items _ refl).deep n _ le,
      λ fault. deep_faults (Fault n (values.Array c.args.items.now)) c.len.result (length c.args.items.now.items) _
          (search rules) c.in_ok-write_case_and_length.ensures.ok.0 (λ few. array-deep n c.args.items.now few le) down.err.0,
    )) (λ h. json-deep _ h)

pub write_array-returns : goal.write_array-returns
write_array-returns g t c =
    let down = c.in_ok-enter.ensures in
    let up = c.leave.ensures in
    let made = arrays c.args.items.now.items c.len.result (search rules) in
    wrote-then c.in_ok-write_case_and_length.ensures
    (wrote-below down.ok down.same_out down.same_env c.write_items-done.ensures up.up up.same_out
    up.same_env)
    made.joins (λ n e l h. (made.lacks n e (l.0, l.1.0), λ fault. array-part n c.args.items.now e l.0 (l.1.1 fault))) (λ e h. h)

pub write_items-loop-item-init : goal.write_items-loop-item-init
write_items-loop-item-init g t c = wrote-nothing (writes_no_items _ _ _ _)

pub write_items-loop-item-preserved : goal.write_items-loop-item-preserved
write_items-loop-item-preserved g t c = wrote-more c.loop-item.invariant c.in_ok-write_value.ensures
    (λ n old mid new v w. writes_item (Is of_value) c.deref-item-items.result.now c.loop-item.item-index _ n json old mid new c.loop-item-test.true
    c.item-item.is v w)

pub write_items-returns-in_err-write_value : goal.write_items-returns-in_err-write_value
write_items-returns-in_err-write_value g t c = wrote-then-err c.from_residual.ensures.1
    c.loop-item.invariant c.in_err-write_value.ensures
    (λ n old mid v l h. (
      rw c.deref-item-items.ensures.value at (refuses_item (Is of_value) value-has c.deref-item-items.result.now c.loop-item.item-index _ n json _
          c.loop-item-test.true c.item-item.is l.0),
      λ fault. rw c.deref-item-items.ensures.value at (item_faults c.deref-item-items.result.now c.loop-item.item-index _ n old mid _ v c.loop-item-test.true
          c.item-item.is (l.1 fault)),
    )) (λ h. h)

pub write_object-returns-in_err-write_case_and_length : goal.write_object-returns-in_err-write_case_and_length
write_object-returns-in_err-write_case_and_length g t c =
    wrote-err c.from_residual.ensures.1 c.in_err-write_case_and_length.ensures
    (λ n l h. (
      (objects c.args.members.now.entries c.len.result c.len.ensures.len c.len.ensures.ordered).long n _ h,
      long_faults (Fault n (values.Object c.args.members.now)) _ _ _ c.len.ensures.len (object-long n c.args.members.now) h,
    )) (λ h. json-long _ _ h)

pub write_object-returns-in_err-enter : goal.write_object-returns-in_err-enter
write_object-returns-in_err-enter g t c =
    let down = c.in_err-enter.ensures in
    wrote-deep c.from_residual-in_err-enter.ensures.1
    c.in_ok-write_case_and_length.ensures down.err
    down.same_out down.same_env (λ n le. (
      (objects c.args.members.now.entries c.len.result c.len.ensures.len c.len.ensures.ordered).deep n _ le,
      λ fault. deep_faults (Fault n (values.Object c.args.members.now)) c.len.result _ _ c.len.ensures.len c.in_ok-write_case_and_length.ensures.ok.0
          (λ few. object-deep n c.args.members.now few le) down.err.0,
    )) (λ h. json-deep _ h)

pub write_object-returns : goal.write_object-returns
write_object-returns g t c =
    let made = objects c.args.members.now.entries c.len.result c.len.ensures.len c.len.ensures.ordered in
    let down = c.in_ok-enter.ensures in
    let up = c.leave.ensures in
    wrote-then c.in_ok-write_case_and_length.ensures
    (wrote-below down.ok down.same_out down.same_env c.write_members-done.ensures up.up up.same_out
    up.same_env)
    made.joins (λ n e l h. (made.lacks n e (l.0, l.1.0), λ fault. object-part n c.args.members.now e l.0 (l.1.1 fault))) (λ e h. h)

pub write_members-loop-key-init : goal.write_members-loop-key-init
write_members-loop-key-init g t c = wrote-nothing
    (written-none _ _ _ _ _ _ (sym c.iter-key-items.ensures.rest ∙ sym c.into_iter-key-iterator.ensures.into_iter_gives))

pub write_members-loop-key-smaller : goal.write_members-loop-key-smaller
write_members-loop-key-smaller g t c = written-fewer _ _ _ c.in-Some.ensures.steps

pub write_members-loop-key-preserved : goal.write_members-loop-key-preserved
write_members-loop-key-preserved g t c = wrote-more c.loop-key.invariant c.in_ok-write_member.ensures
    (λ n old mid new v w. written-more (MeansPair (Is of_key) (Is of_value)) n (both text json) _ _ _ _ old mid new v c.in-Some.ensures.steps w)

pub write_members-returns-in_err-write_member : goal.write_members-returns-in_err-write_member
write_members-returns-in_err-write_member g t c = wrote-then-err c.from_residual.ensures.1
    c.loop-key.invariant c.in_err-write_member.ensures
    (λ n old mid v l h. (
      written-refused (MeansPair (Is of_key) (Is of_value)) member-has n (both text json) _ _ _ _ old mid _ v c.in-Some.ensures.steps l.0,
      λ fault. member_faults _ _ _ _ _ n old mid _ v c.in-Some.ensures.steps (l.1 fault),
    )) (λ h. h)

pub write_members-returns : goal.write_members-returns
write_members-returns g t c = wrote-is c.loop-key.invariant (λ n old new v. written-all _ _ _ _ _ _ _ v c.in-None.ensures.steps.0)

pub write_member-returns-in_err-pagable_serialize : goal.write_member-returns-in_err-pagable_serialize
write_member-returns-in_err-pagable_serialize g t c = wrote-err c.from_residual.ensures.1
    c.in_err-pagable_serialize.ensures
    (λ n l h. (
      refuses_first (Is of_key) (Is of_value) value-has (c.args.key.now, c.args.value.now) n text json _ l,
      text_faults (EntryFault n c.args.key.now c.args.value.now) c.args.key.now n _ (key-fault n c.args.key.now c.args.value.now) l h,
    )) (λ h. json-text _ h)

pub write_member-returns : goal.write_member-returns
write_member-returns g t c = wrote-then c.in_ok-pagable_serialize.ensures c.write_value.ensures
    (λ n old mid new f w. writes_pair (Is of_key) (Is of_value) (c.args.key.now, c.args.value.now) n text json old mid new f w)
    (λ n e l h. (
      refuses_second (Is of_key) (Is of_value) (λ k. (of_key k, refl)) (c.args.key.now, c.args.value.now) n text json e l.0,
      λ fault. value-fault n c.args.key.now c.args.value.now e (l.1 fault),
    )) (λ e h. h)
