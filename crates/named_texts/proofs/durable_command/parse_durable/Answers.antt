-- What stands before and behind the first two spaces.
use Rattle.named_texts.proofs.{DurableLines.two_durable_words, SplitLines.{split_none, split_some}}
use Rattle.named_texts.specs.Durable.{SpellsDurableResult}
use Rattle.std.proofs.Common.{None, ap, subst, sym, ◌++◌, ◌∙◌, ◌∷◌}
use Rattle.named_texts.proofs.durable_command.parse_durable.Goals as goal

pub parse_word_and_two_names-requires-clause-word : goal.parse_word_and_two_names-requires-clause-word
parse_word_and_two_names-requires-clause-word c = (split_some c.args.line.now (c.in_ok-word.word, c.in_ok-word.rest) c.in_ok-word.ensures.cases).0

pub parse_word_and_two_names-requires-clause-first : goal.parse_word_and_two_names-requires-clause-first
parse_word_and_two_names-requires-clause-first c = (split_some c.in_ok-word.rest.now (c.in-Some.first, c.in-Some.second) c.in-Some.ensures.cases).0

pub returns-in-None : goal.returns-in-None
returns-in-None c = let parts = split_some c.args.line.now (c.in_ok-word.word, c.in_ok-word.rest) c.in_ok-word.ensures.cases in
    let whole = split_none c.in_ok-word.rest.now c.in-None.ensures.cases in
    subst (λ line. SpellsDurableResult line None) (sym parts.1) (two_durable_words c.in_ok-word.word.now parts.0 c.in_ok-word.rest.now whole)

pub returns-in-Some : goal.returns-in-Some
returns-in-Some c = let parts = (split_some c.args.line.now (c.in_ok-word.word, c.in_ok-word.rest) c.in_ok-word.ensures.cases).1 in
    let behind = (split_some c.in_ok-word.rest.now (c.in-Some.first, c.in-Some.second) c.in-Some.ensures.cases).1 in
    subst (λ line. SpellsDurableResult line c.parse_word_and_two_names.result) (sym (parts ∙ ap (λ rest. c.in_ok-word.word.now ++ 32 ∷ rest) behind))
    c.parse_word_and_two_names.ensures
