-- The program's definitions run on texts: 01's session, and forms of lines.
use Prim.Native.String.{String}
use Rattle.std.specs.Prelude.{◌≡◌, refl, List, [], ℕ}
use Rattle.meaning.specs.Running.{wrong_from}
use Rattle.meaning.specs.Text.{text}
use Rattle.text.specs.Line
use Rattle.text.specs.Print
use Rattle.text.specs.Program
use Rattle.text.specs.Program.{written}

-- what the program writes for a text
writes : String → List ℕ
unfolding wrong_from Line.word_end Line.first_word Line.after_word Line.given Line.nothing Line.a_word Line.is_digit Line.value_from Line.number Line.a_number Line.the_data Line.a_name Line.two_names Line.last_number Line.reading Line.forms Line.formed Line.asked Print.digits Print.decimal Print.hex_digit Print.hex Print.spaced Print.hex_word Print.printed Print.served_as Print.served Print.transcript Program.unended Program.completed Program.remaining Program.lines Program.at_start Program.written
writes input = written (text input)

of_01 : writes "create /x\nwrite 0 MONFRI\nseek 0 0 8\nwrite 0 SU\nfstat 0\nseek 0 0 5\nread 0 9\nopen /y\nroom\n"
    ≡ text "0 0\n0 6\n0 8\n0 2\n0 10 2 1\n0 5\n0 5 4900005355\n4\n0 2 2 1\n"
unfolding writes
of_01 = refl

-- `prepare` is a word; a last line without newline is served; an empty line and other forms are ?
forms : writes "prepare\n\n prepare\nprepare \nroom 1\nroom\n\r\nread 9 2049\nread 9 2048\nCREATE /x\ncreate  /x\ncreate x\ncreate /a b\nmkdir /d\nls /\nls /d"
    ≡ text "0\n?\n?\n?\n?\n0 4 3 2\n?\n?\n3\n?\n?\n2\n?\n0\n0 1 6400000000000000000000000000\n0 0\n"
unfolding writes
forms = refl

-- numbers are digits, judged by value; write's data may be missing, and after its space every byte is data
numbers : writes "create /x\nwrite 0\nwrite 0 \nwrite 0  X\nseek 0 0 00000000000000000000000000000\nread 00 9\nseek 0 6 0\nseek 0 0 4294967296\nseek 0 0 4294967295\nseek 0 0 -1\nseek 0 0\nclose 4294967295\nclose 0\nclose\n"
    ≡ text "0 0\n0 0\n?\n0 2\n0 0\n0 2 2058\n11\n?\n11\n?\n?\n3\n0\n?\n"
unfolding writes
numbers = refl

nothing : writes "" ≡ []
unfolding writes
nothing = refl
