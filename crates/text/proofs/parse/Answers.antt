use Rattle.std.proofs.Common.{ℕ, ◌≤◌, ◌≡◌, ◌∙◌, List, Option, length, le-leb}
use borrow.Author.Tests.{lt-leb}
use Rattle.meaning.specs.Run.{Call}
use Rattle.text.specs.Line.{first_word, after_word, formed, forms, asked}
use Rattle.text.proofs.parse.Goals as goal

-- a line that is not too long asks for what its word's form says
by_word : (line word : List ℕ) (rest : Option (List ℕ)) (r : Option Call) → length line ≤ 1024 → word ≡ first_word line → rest ≡ after_word line
    → r ≡ formed forms word rest → r ≡ asked line
unfolding asked
by_word line word rest r h e f is = is ∙ rw (e, f, le-leb (length line) 1024 h)

pub returns-then-line-gt-LONGEST_LINE : goal.returns-then-line-gt-LONGEST_LINE
unfolding asked
returns-then-line-gt-LONGEST_LINE c = rw (lt-leb _ _ c.if-line-gt-LONGEST_LINE.true)

pub returns-in_err-word_of : goal.returns-in_err-word_of
returns-in_err-word_of c =
    rw c.from_residual.ensures
    (by_word _ _ _ _ c.if-line-gt-LONGEST_LINE.false c.first_word.ensures.word c.first_word.ensures.rest (c.in_err-word_of.ensures _))

pub returns : goal.returns
returns c =
    by_word _ _ _ _ c.if-line-gt-LONGEST_LINE.false c.first_word.ensures.word c.first_word.ensures.rest
    (c.asked_by.ensures ∙ c.in_ok-word_of.ensures _)
