-- Names, and the directory records that hold them (01, "Names" and "Tables the host lends").
use Rattle.std.specs.Prelude.{ℕ, zero, suc, ◌+◌, ◌-◌, ◌*◌, ◌/◌, List, [], ◌∷◌, ◌++◌, Bool, true, false, not, ◌&&◌, length, take, drop, get_or, replicate, leb, ltb, eqb}
use Rattle.std.proofs.Math.Option.{Option, none, some}
use Rattle.records.specs.Rows.{pick, lowest, every, how_many}
use Rattle.records.specs.Numbers.{one, two, two_bytes, zeros}
use Rattle.meaning.specs.File.{writeFILE}

-- ---- a name's form

-- "/"
abbrev pub slash : ℕ
slash = 47

abbrev pub most_syllables : ℕ
most_syllables = 8

-- two rows of bytes are the same
unfoldable pub same : List ℕ → List ℕ → Bool
same [] [] = true
same [] (y ∷ ys) = false
same (x ∷ xs) [] = false
same (x ∷ xs) (y ∷ ys) = eqb x y && same xs ys

-- a syllable has 1 to 14 bytes, none of them 0 or "/"
unfoldable pub is_syllable : List ℕ → Bool
is_syllable s =
    ltb 0 (length s) && leb (length s) 14
    && every (length s) (λ i. not (eqb (one s i) 0) && not (eqb (one s i) slash))

-- a byte before the pieces that follow it: a slash begins a piece, any other byte belongs to the piece after it
unfoldable pub before : ℕ → Bool → List (List ℕ) → List (List ℕ)
before b true pieces = [] ∷ pieces
before b false [] = (b ∷ []) ∷ []
before b false (piece ∷ pieces) = (b ∷ piece) ∷ pieces

-- what stands between the slashes
unfoldable pub split : List ℕ → List (List ℕ)
split [] = [] ∷ []
split (b ∷ bytes) = before b (eqb b slash) (split bytes)

-- at most 8 syllables
unfoldable pub are_syllables : List (List ℕ) → Bool
are_syllables pieces = leb (length pieces) most_syllables && every (length pieces) (λ i. is_syllable (get_or pieces i []))

-- the syllables of a name, or none where it is not written as a name:
-- "/" has no syllable; otherwise each syllable follows one "/"
unfoldable pub syllables : List ℕ → Option (List (List ℕ))
syllables [] = none
syllables (b ∷ []) = pick (eqb b slash) (some []) none
syllables (b ∷ c ∷ bytes) = let pieces = split (c ∷ bytes) in pick (eqb b slash && are_syllables pieces) (some pieces) none

-- ---- directory records

-- what a directory's record says: a name stands for a file
pub record Entry : Type 0 where
  pub file : ℕ
  pub name : List ℕ

abbrev pub entry : ℕ → List ℕ → Entry
entry f name = record { file = f; name = name }

-- the one rule of records, one way: a file number of two bytes, and the name padded with zeros to 14
unfoldable pub written : Entry → List ℕ
written e = two_bytes e.file ++ e.name ++ replicate (14 - length e.name) 0

-- where the name of a record ends: at its first zero
unfoldable pub name_end : List ℕ → ℕ
name_end r = lowest 14 (λ i. eqb (one r (2 + i)) 0)

-- the same rule, the other way: the entry that a record holds
unfoldable pub entry_in : List ℕ → Entry
entry_in r = entry (two r 0) (take (name_end r) (drop 2 r))

-- a record that is written by the rule: a syllable, and zeros behind it
unfoldable pub is_written : List ℕ → Bool
is_written r = is_syllable (entry_in r).name && zeros r (2 + name_end r) (14 - name_end r)

-- a blank record is 16 zero bytes
abbrev pub blank_record : List ℕ
blank_record = replicate 16 0

-- ---- a directory's bytes are a row of 16-byte records

abbrev pub record_count : List ℕ → ℕ
record_count dir = length dir / 16

unfoldable pub record_at : List ℕ → ℕ → List ℕ
record_at dir i = take 16 (drop (16 * i) dir)

unfoldable pub is_blank : List ℕ → ℕ → Bool
is_blank dir i = zeros dir (16 * i) 16

unfoldable pub entry_at : List ℕ → ℕ → Entry
entry_at dir i = entry_in (record_at dir i)

-- the record that has a name, or the count of records where none has
unfoldable pub record_named : List ℕ → List ℕ → ℕ
record_named dir name = lowest (record_count dir) (λ i. same (entry_at dir i).name name)

-- where a new record goes: the first blank one, or the end
unfoldable pub record_for_new : List ℕ → ℕ
record_for_new dir = lowest (record_count dir) (λ i. is_blank dir i)

-- what a syllable names in a directory, 0 where it names nothing
unfoldable pub in_directory : List ℕ → List ℕ → ℕ
in_directory dir name =
    let r = record_named dir name in
    pick (ltb r (record_count dir)) (entry_at dir r).file 0

-- how many records of a directory name file f
unfoldable pub names_in : List ℕ → ℕ → ℕ
names_in dir f = how_many (record_count dir) (λ i. eqb (entry_at dir i).file f)

-- how many names a directory has
unfoldable pub name_count : List ℕ → ℕ
name_count dir = how_many (record_count dir) (λ i. not (is_blank dir i))

-- every record of a directory is blank
unfoldable pub is_empty : List ℕ → Bool
is_empty dir = every (record_count dir) (λ i. is_blank dir i)

-- the names of n records from record i on, 14 bytes each, blanks passed over
unfoldable pub names_from : List ℕ → ℕ → ℕ → List ℕ
names_from dir i zero = []
names_from dir i (suc n) = pick (is_blank dir i) [] (drop 2 (record_at dir i)) ++ names_from dir (suc i) n

-- the names of a directory in record order
unfoldable pub listing : List ℕ → List ℕ
listing dir = names_from dir 0 (record_count dir)

-- the directory with record i written anew, or added where i is the end
unfoldable pub with_entry : List ℕ → ℕ → List ℕ → List ℕ
with_entry dir i r = writeFILE dir (16 * i) r
