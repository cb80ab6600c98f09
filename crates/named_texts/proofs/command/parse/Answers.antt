-- What stands before and behind the first two spaces.
use Rattle.named_texts.proofs.SplitLines.{split_none, split_some}
use Rattle.named_texts.specs.Line.{SpellsResult}
use Rattle.std.proofs.Common.{ap, subst, sym, ◌++◌, ◌∙◌, ◌∷◌}
use Rattle.named_texts.proofs.command.parse.Goals as goal

pub parse_word_and_name-requires-clause-word : goal.parse_word_and_name-requires-clause-word
parse_word_and_name-requires-clause-word c = (split_some c.args.line.now (c.in_ok-word.word, c.in_ok-word.rest) c.in_ok-word.ensures.cases).0

pub parse_word_and_name-requires-clause-name : goal.parse_word_and_name-requires-clause-name
parse_word_and_name-requires-clause-name c = split_none c.in_ok-word.rest.now c.in-None.ensures.cases

pub parse_word_name_and_rest-requires-clause-word : goal.parse_word_name_and_rest-requires-clause-word
parse_word_name_and_rest-requires-clause-word c = (split_some c.args.line.now (c.in_ok-word.word, c.in_ok-word.rest) c.in_ok-word.ensures.cases).0

pub parse_word_name_and_rest-requires-clause-name : goal.parse_word_name_and_rest-requires-clause-name
parse_word_name_and_rest-requires-clause-name c = (split_some c.in_ok-word.rest.now (c.in-Some.name, c.in-Some.behind) c.in-Some.ensures.cases).0

pub returns-in-None : goal.returns-in-None
returns-in-None c = let parts = (split_some c.args.line.now (c.in_ok-word.word, c.in_ok-word.rest) c.in_ok-word.ensures.cases).1 in
    subst (λ line. SpellsResult line c.parse_word_and_name.result) (sym parts) c.parse_word_and_name.ensures

pub returns-in-Some : goal.returns-in-Some
returns-in-Some c = let parts = (split_some c.args.line.now (c.in_ok-word.word, c.in_ok-word.rest) c.in_ok-word.ensures.cases).1 in
    let behind = (split_some c.in_ok-word.rest.now (c.in-Some.name, c.in-Some.behind) c.in-Some.ensures.cases).1 in
    subst (λ line. SpellsResult line c.parse_word_name_and_rest.result) (sym (parts ∙ ap (λ rest. c.in_ok-word.word.now ++ 32 ∷ rest) behind))
    c.parse_word_name_and_rest.ensures
