-- What the program prints (01, "Figures to meet"): the report, then the answer's numbers, then bytes in hex;
-- a refusal prints its report alone.
use Rattle.std.specs.Prelude.{ℕ, zero, suc, ◌+◌, ◌/◌, ◌%◌, List, [], ◌∷◌, ◌++◌, Option, None, Some, ltb, eqb}
use Rattle.records.specs.Rows.{pick}
use Rattle.meaning.specs.Tables.{Tables}
use Rattle.meaning.specs.Run.{Call, Answer, width, answer_of, bytes_of, changes_of, result_of}
use Rattle.meaning.specs.Tables.{put_all}
use Rattle.text.specs.Line.{asked, space}

-- a number in decimal, of at most so many digits
unfoldable pub digits : ℕ → ℕ → List ℕ
digits zero n = []
digits (suc most) n = let low = (48 + n % 10) ∷ [] in pick (ltb n 10) low (digits most (n / 10) ++ low)

unfoldable pub decimal : ℕ → List ℕ
decimal n = digits 10 n

-- hex is lower case
unfoldable pub hex_digit : ℕ → ℕ
hex_digit n = pick (ltb n 10) (48 + n) (87 + n)

unfoldable pub hex : List ℕ → List ℕ
hex [] = []
hex (b ∷ bytes) = hex_digit (b / 16) ∷ hex_digit (b % 16) ∷ hex bytes

-- the numbers of an answer, each after a space
unfoldable pub spaced : List ℕ → List ℕ
spaced [] = []
spaced (n ∷ ns) = space ∷ decimal n ++ spaced ns

-- the bytes as one hex word; where there are none the line ends
unfoldable pub hex_word : List ℕ → List ℕ
hex_word [] = []
hex_word (b ∷ bytes) = space ∷ hex (b ∷ bytes)

-- a report alone; or the report, the numbers and the bytes of an accepted call, of which a refusal prints its report
unfoldable pub printed : Answer → List ℕ → List ℕ
printed [] bytes = []
printed (report ∷ []) bytes = decimal report
printed (report ∷ n ∷ ns) bytes = pick (eqb report 0) (decimal report ++ spaced (n ∷ ns) ++ hex_word bytes) (decimal report)

abbrev pub newline : ℕ
newline = 10

-- "?"
abbrev pub question : List ℕ
question = 63 ∷ []

-- ---- the program, line by line

-- what a line prints, and the tables after it
pub record Served : Type 0 where
  pub prints : List ℕ
  pub tables : Tables

unfoldable pub served_as : Option Call → Tables → Served
served_as None t = record { prints = question; tables = t }
served_as (Some call) t =
    let r = result_of call t in
    record { prints = printed (answer_of (width call) r) (bytes_of r); tables = put_all t (changes_of r) }

unfoldable pub served : List ℕ → Tables → Served
served line t = served_as (asked line) t

-- a row of lines: all that is printed, a newline behind each
unfoldable pub transcript : List (List ℕ) → Tables → List ℕ
transcript [] t = []
transcript (line ∷ lines) t =
    let s = served line t in
    s.prints ++ newline ∷ transcript lines s.tables
