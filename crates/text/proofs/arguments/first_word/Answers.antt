use Rattle.text.specs.Line.{word_end, first_word, after_word}
use Rattle.text.specs.Commands.{first_of, behind}
use Rattle.text.proofs.arguments.first_word.Goals as goal

pub returns-clause-word : goal.returns-clause-word
unfolding first_word word_end first_of
returns-clause-word c = c.cut.ensures.before

pub returns-clause-rest : goal.returns-clause-rest
unfolding after_word word_end behind first_of
returns-clause-rest c = c.cut.ensures.behind
