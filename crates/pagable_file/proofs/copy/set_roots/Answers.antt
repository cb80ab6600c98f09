use Rattle.pagable_file.proofs.{Copying.{copies_more, key_at_name}, Each.each_more}
use Rattle.pagable_file.specs.Copies.{HasWantedRoot}
use Rattle.std.proofs.Common.{List, Option, String, length, map, rules, ℕ, ◌<◌, ◌∙◌, ◌≡◌}
use Rattle.std.specs.{String.string_bytes, declared.alloc.Global.Global}
use Rattle.pagable_file.proofs.copy.set_roots.Goals as goal

pub loop-at-preserved : goal.loop-at-preserved
loop-at-preserved g c =
    let l = c.loop-at in
    let names = c.args.names.now in
    let name = c.index-names-at.result in
    let set = c.in_ok-set_copied_root.ensures in
    let within : l.at < length names = search rules in
    let key_is : (wanted : List ℕ → Option ℕ) → c.args.keys.now ≡ map (λ (n : String Global). wanted (string_bytes n)) names
    → c.index-keys-at.result ≡ wanted c.as_str.result.now = λ wanted keys.
    let own = key_at_name (λ (n : String Global). wanted (string_bytes n)) names c.args.keys.now l.at name c.index-keys-at.result within
    c.index-names-at.is c.index-keys-at.is keys in
    cc (own, c.as_str.ensures.value) in record {
      set = λ honest wanted keys.
          let is = key_is wanted keys in
          each_more (λ (n : String Global). HasWantedRoot c.args.copied.now wanted (g.T.PagableStorage.roots l.to) (string_bytes n))
          (λ n. HasWantedRoot c.args.copied.now wanted (g.T.PagableStorage.roots c.set_copied_root.new.to) (string_bytes n)) names l.at name within c.index-names-at.is
          (λ n. set.others honest wanted is (string_bytes n)) (l.invariant.set (c.set_copied_root.ensures.honest honest) wanted keys)
          (rw c.as_str.ensures.value at (set.set honest wanted is));
      named = λ honest wanted keys.
          copies_more names l.at name c.as_str.result.now wanted (g.T.PagableStorage.roots c.args.to.now) (g.T.PagableStorage.roots l.to)
          (g.T.PagableStorage.roots c.set_copied_root.new.to) within c.index-names-at.is c.as_str.ensures.value
          (l.invariant.named (c.set_copied_root.ensures.honest honest) wanted keys) (c.set_copied_root.ensures.named honest wanted (key_is wanted keys));
      same = λ h. c.set_copied_root.ensures.same h ∙ l.invariant.same (c.set_copied_root.ensures.honest h);
      honest = λ h. l.invariant.honest (c.set_copied_root.ensures.honest h);
    }
