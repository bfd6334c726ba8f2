-- A line of text, and the call that it asks for (01, "Figures to meet"). A line is measured without its newline.
use Rattle.std.specs.Prelude.{ℕ, ◌+◌, ◌-◌, ◌*◌, List, [], ◌∷◌, Bool, ◌&&◌, Option, None, Some, length, take, drop, leb, ltb, eqb}
use Rattle.records.specs.Rows.{pick, lowest, every}
use Rattle.records.specs.Numbers.{one}
use Rattle.meaning.specs.Name.{same}
use Rattle.meaning.specs.Run.{Call, Prepare, Room, Create, Open, Unlink, Mkdir, Rmdir, Link, Move, Ls, Close, Fstat, Read, Write, Seek}
use Rattle.meaning.specs.Text.{text}

abbrev pub longest_line : ℕ
longest_line = 1024

-- ls is lent so many bytes, and read may ask for so many
abbrev pub lent_bytes : ℕ
lent_bytes = 2048

-- ---- words: one space parts arguments, none empty

abbrev pub space : ℕ
space = 32

-- where the word that starts at `at` ends: at a space, or at the line's end
unfoldable pub word_end : List ℕ → ℕ
word_end bytes = lowest (length bytes) (λ i. eqb (one bytes i) space)

-- the word that a row of bytes begins with
unfoldable pub first_word : List ℕ → List ℕ
first_word bytes = take (word_end bytes) bytes

-- what follows the space behind it; none where no space does
unfoldable pub after_word : List ℕ → Option (List ℕ)
after_word bytes = pick (ltb (word_end bytes) (length bytes)) (Some (drop (word_end bytes + 1) bytes)) None

-- ---- arguments, each form with what it asks for; none: the line has another form

module _ {A : Type 0} where
  unfoldable pub given : {B : Type 0} → Option A → (A → Option B) → Option B
  given None k = None
  given (Some a) k = k a

-- no argument
unfoldable pub nothing : Call → Option (List ℕ) → Option Call
nothing call None = Some call
nothing call (Some rest) = None

-- a word that is not empty, and what follows it
unfoldable pub a_word : (List ℕ → Option (List ℕ) → Option Call) → Option (List ℕ) → Option Call
a_word k None = None
a_word k (Some rest) = pick (ltb 0 (length (first_word rest))) (k (first_word rest) (after_word rest)) None

-- numbers are one or more digits, judged by value: up to 4,294,967,295
unfoldable pub is_digit : ℕ → Bool
is_digit b = leb 48 b && leb b 57

unfoldable pub value_from : ℕ → List ℕ → ℕ
value_from n [] = n
value_from n (d ∷ digits) = value_from (10 * n + (d - 48)) digits

unfoldable pub number : List ℕ → Option ℕ
number word =
    pick (ltb 0 (length word) && every (length word) (λ i. is_digit (one word i)) && leb (value_from 0 word) 4294967295)
    (Some (value_from 0 word)) None

-- a number, and what follows it
unfoldable pub a_number : (ℕ → Option (List ℕ) → Option Call) → Option (List ℕ) → Option Call
a_number k = a_word λ word rest. given (number word) (λ n. k n rest)

-- write's data is the rest of the line and may be missing; after its space every byte is data
unfoldable pub the_data : (List ℕ → Call) → Option (List ℕ) → Option Call
the_data call None = Some (call [])
the_data call (Some []) = None
the_data call (Some (b ∷ bytes)) = Some (call (b ∷ bytes))

-- ---- the calls' words

unfoldable pub a_name : (List ℕ → Call) → Option (List ℕ) → Option Call
a_name call = a_word λ name. nothing (call name)

unfoldable pub two_names : (List ℕ → List ℕ → Call) → Option (List ℕ) → Option Call
two_names call = a_word λ old. a_name (call old)

unfoldable pub last_number : (ℕ → Call) → Option (List ℕ) → Option Call
last_number call = a_number λ n. nothing (call n)

-- a read above 2,048 has another form
unfoldable pub reading : ℕ → ℕ → Option (List ℕ) → Option Call
reading c count rest = pick (leb count lent_bytes) (nothing (Read c count) rest) None

-- a word, and the form of what follows it
pub record Form : Type 0 where
  pub word : List ℕ
  pub call : Option (List ℕ) → Option Call

unfoldable pub forms : List Form
forms =
    record { word = text "prepare"; call = nothing Prepare }
    ∷ record { word = text "create"; call = a_name Create }
    ∷ record { word = text "open"; call = a_name Open }
    ∷ record { word = text "close"; call = last_number Close }
    ∷ record { word = text "read"; call = a_number λ c. a_number (reading c) }
    ∷ record { word = text "write"; call = a_number λ c. the_data (Write c) }
    ∷ record { word = text "seek"; call = a_number λ c. a_number λ mode. last_number (Seek c mode) }
    ∷ record { word = text "fstat"; call = last_number Fstat }
    ∷ record { word = text "link"; call = two_names Link }
    ∷ record { word = text "unlink"; call = a_name Unlink }
    ∷ record { word = text "move"; call = two_names Move }
    ∷ record { word = text "ls"; call = a_name λ name. Ls name lent_bytes }
    ∷ record { word = text "mkdir"; call = a_name Mkdir }
    ∷ record { word = text "rmdir"; call = a_name Rmdir }
    ∷ record { word = text "room"; call = nothing Room }
    ∷ []

-- the form of the word that a line begins with
unfoldable pub formed : List Form → List ℕ → Option (List ℕ) → Option Call
formed [] word rest = None
formed (form ∷ others) word rest = let later = formed others word rest in pick (same form.word word) (form.call rest) later

-- the call that a line asks for; none: the program prints ? and calls nothing
unfoldable pub asked : List ℕ → Option Call
asked line = pick (leb (length line) longest_line) (formed forms (first_word line) (after_word line)) None
