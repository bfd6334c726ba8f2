-- The figures P1 to P11 of 01, proved of the definitions' own text: rows of one table with one claim.
use Rattle.std.specs.Prelude.{ℕ, ◌≡◌, refl, List, [], ◌∷◌, ◌++◌, length, replicate, eqb}
use Rattle.std.proofs.Math.Option.{Option, none, some}
use Rattle.records.specs.Rows.{pick}
use Rattle.meaning.specs.File.{readFILE, writeFILE, needed}
use Rattle.meaning.specs.Name.{syllables, same, entry, written}
use Rattle.meaning.specs.Store.{Store, after_all, no_file, directory, ordinary, channel_to, no_channel}
use Rattle.meaning.specs.Run.{Call, Open, Seek, Write, meaning, width, answer_of, changes_of}
use Rattle.meaning.specs.Running.{wrong_from}
use Rattle.meaning.specs.Text.{text}

-- what a figure gives, beside what 01 says
pub record Row : Type 0 where
  pub figure : ℕ
  pub gives : List ℕ
  pub says : List ℕ

row : ℕ → List ℕ → List ℕ → Row
row figure gives says = record { figure = figure; gives = gives; says = says }

-- the figures whose row is wrong
wrong_rows : List Row → List ℕ
wrong_rows [] = []
wrong_rows (r ∷ rows) = let rest = wrong_rows rows in pick (same r.gives r.says) rest (r.figure ∷ rest)

-- ---- what the rows are about

numeral : ℕ → List ℕ
numeral n = n ∷ []

-- how many syllables a name has; nothing where it is not written as a name
counted : Option (List (List ℕ)) → List ℕ
counted none = []
counted (some name) = numeral (length name)

-- a name of one syllable of n bytes
long : ℕ → List ℕ
long n = text "/" ++ replicate n 97

-- a store of 128 blocks with one ordinary file, number 2, that channel 0 holds at a position
holding : List ℕ → ℕ → Store
holding bytes posn =
    record {
      block_count = 128;
      file_count = 2;
      channel_count = 1;
      file = λ f. pick (eqb f 1) (directory 0 []) (pick (eqb f 2) (ordinary bytes) no_file);
      channel = λ c. pick (eqb c 0) (channel_to 2 posn) no_channel;
    }

-- what a call says on such a store
says_of : Call → Store → List ℕ
says_of call s = answer_of (width call) (meaning call s)

-- the length of file 2 after a call
length_after : Call → Store → ℕ
length_after call s = length ((after_all s (changes_of (meaning call s))).file 2).bytes

table : List Row
table =
    row 1 (readFILE (text "MONFRI") 2 3) (text "NFR")
    ∷ row 2 (writeFILE (text "MONFRI") 8 (text "SU")) (text "MONFRI\0\0SU")
    ∷ row 3 (writeFILE [] 4 []) (0 ∷ 0 ∷ 0 ∷ 0 ∷ [])
    ∷ row 4 (writeFILE (text "MONFRI") 3 []) (text "MONFRI")
    ∷ row 5 (readFILE (text "MONFRI") 6 3) []
    ∷ row 5 (readFILE (text "MONFRI") 7 3) []
    ∷ row 6 (needed 0 ∷ needed 1 ∷ needed 512 ∷ needed 513 ∷ []) (0 ∷ 1 ∷ 1 ∷ 2 ∷ [])
    ∷ row 7 (numeral (length_after (Write 0 (text "X")) (holding [] 32767))) (numeral 32768)
    ∷ row 7 (says_of (Write 0 (text "X")) (holding [] 32768)) (10 ∷ 0 ∷ [])
    ∷ row 8 (counted (syllables (text "/"))) (0 ∷ [])
    ∷ row 8 (counted (syllables (text "/a/b"))) (2 ∷ [])
    ∷ row 8 (says_of (Open (text "")) (holding [] 0)) (2 ∷ 0 ∷ [])
    ∷ row 8 (says_of (Open (text "a")) (holding [] 0)) (2 ∷ 0 ∷ [])
    ∷ row 8 (says_of (Open (text "/a/")) (holding [] 0)) (2 ∷ 0 ∷ [])
    ∷ row 8 (says_of (Open (text "//a")) (holding [] 0)) (2 ∷ 0 ∷ [])
    ∷ row 8 (counted (syllables (long 14))) (1 ∷ [])
    ∷ row 8 (says_of (Open (long 14)) (holding [] 0)) (4 ∷ 0 ∷ [])
    ∷ row 8 (says_of (Open (long 15)) (holding [] 0)) (2 ∷ 0 ∷ [])
    ∷ row 9 (written (entry 2 (text "x"))) (2 ∷ 0 ∷ 0x78 ∷ replicate 13 0)
    ∷ row 10 (says_of (Seek 0 0 2) (holding (text "0123456789") 3)) (0 ∷ 2 ∷ [])
    ∷ row 10 (says_of (Seek 0 1 2) (holding (text "0123456789") 3)) (0 ∷ 5 ∷ [])
    ∷ row 10 (says_of (Seek 0 2 2) (holding (text "0123456789") 3)) (0 ∷ 12 ∷ [])
    ∷ row 10 (says_of (Seek 0 3 2) (holding (text "0123456789") 3)) (0 ∷ 1024 ∷ [])
    ∷ row 10 (says_of (Seek 0 4 2) (holding (text "0123456789") 3)) (0 ∷ 1027 ∷ [])
    ∷ row 10 (says_of (Seek 0 5 2) (holding (text "0123456789") 3)) (0 ∷ 1034 ∷ [])
    ∷ row 11 (says_of (Seek 0 3 32767) (holding [] 0)) (0 ∷ 16776704 ∷ [])
    ∷ row 11 (says_of (Seek 0 3 32768) (holding [] 0)) (11 ∷ 0 ∷ [])
    ∷ []

figures_hold : wrong_rows table ≡ []
unfolding wrong_from wrong_rows table row numeral counted long holding says_of length_after
figures_hold = refl
