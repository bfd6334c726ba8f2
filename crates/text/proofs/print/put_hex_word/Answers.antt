-- A space, and the hex; nothing where there are no bytes.
use Rattle.text.proofs.PrintLaws.{no_word, a_word_lem}
use Rattle.text.proofs.print.put_hex_word.Goals as goal

pub returns-then-is_empty : goal.returns-then-is_empty
returns-then-is_empty c = no_word _ _ _ c.requires c.if-is_empty.ensures

pub returns : goal.returns
returns c = a_word_lem _ _ _ _ _ _ _ c.if-is_empty.ensures c.put_byte-next.ensures c.put_hex.ensures
