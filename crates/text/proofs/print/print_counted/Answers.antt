-- The report, a count, and the bytes; or a refusal.
use Rattle.std.proofs.Common.{[], ap, arith}
use Rattle.meaning.specs.Answers.{counted}
use Rattle.text.proofs.PrintLaws.{hex-word-length, behind_zero, numbers_line, refusal_line}
use Rattle.text.proofs.print.print_counted.Goals as goal

pub put_byte-requires : goal.put_byte-requires
put_byte-requires c =
    omega (arith, hex-word-length c.args.bytes.now, c.put_byte-next.ensures.ends, c.put_number-behind.ensures.near, c.put_hex_word-end.ensures.ends)

pub returns-in-Ok : goal.returns-in-Ok
returns-in-Ok c =
    let one = behind_zero _ _ _ _ _ _ _ c.put_byte-next.ensures c.put_number-behind.ensures in
    numbers_line _ _ [] _ _ _ _ _ _ _ _ _ (ap counted c.in-Ok.is) one.lays c.put_hex_word-end.ensures c.put_byte.ensures

pub returns-in-Err : goal.returns-in-Err
returns-in-Err c = refusal_line _ 1 _ _ _ _ _ _ (ap counted c.in-Err.is) c.print_refusal.ensures
