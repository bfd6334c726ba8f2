use Rattle.std.proofs.Common.{rules}
use Rattle.text.specs.Line.{a_word}
use Rattle.text.proofs.ReadLaws.{word_taken}
use Rattle.text.proofs.arguments.a_word.Goals as goal

pub returns-in_err-bytes : goal.returns-in_err-bytes
unfolding a_word
returns-in_err-bytes c = search rules

pub returns : goal.returns
returns c k = rw (c.in_ok-bytes.was, c.then_some.ensures) (word_taken k _ _ _ _ c.is_empty.ensures c.first_word.ensures.word c.first_word.ensures.rest)
