-- Rows of bytes, as the source's BYTE has them: put together, cut, overlaid and written into records and directories.
use Rattle.std.specs.Prelude.{ℕ, zero, suc, ◌-◌, ◌*◌, ◌/◌, ◌%◌, ◌≤◌, ◌<◌, ◌≡◌, refl, List, [], ◌∷◌, ◌++◌, Bool, true, false, ◌&&◌, length, get_or, take, drop, replicate, eqb}
use Rattle.std.proofs.Common.{sym, ⊎_elim, arith, length-take, get_or-take, get_or-drop, le-leb}
use Rattle.std.proofs.Math.Option.{none, some, some-injective, none-ne-some}
use Rattle.std.proofs.lemmas.List.{length-replicate, get_or-replicate}
use Rattle.std.proofs.Math.ListN.{get_or-eq_default}
use Rattle.records.specs.Rows.{pick}
use Rattle.records.specs.Numbers.{two_bytes}
use Rattle.records.specs.Tests.{lt_or_ge}
use Rattle.meaning.specs.File.{readFILE, writeFILE}
use Rattle.meaning.proofs.FileLaws.{byte_first, byte_second}
use Rattle.meaning.specs.Name.{slash, entry, written, record_count, record_at, is_blank, with_entry, before, split, are_syllables, syllables, names_from, listing}
use Rattle.source.specs.Files.{BYTE, SeqBYTE}

-- a row reads as 0 past its end, so every number that it gives is a byte
pub record Bytes (l : List ℕ) : Type 0 where
  pub at : (i : ℕ) → BYTE (get_or l i 0) ≡ true

pub of_seq : (l : List ℕ) → SeqBYTE l → Bytes l
of_seq l all =
    record {
      at = λ i.
          ⊎_elim
          (λ (h : i < length l). all i h)
          (λ (h : length l ≤ i). rw (get_or-eq_default l 0 h))
          (lt_or_ge i (length l));
    }

pub to-seq : (l : List ℕ) → Bytes l → SeqBYTE l
to-seq l all i h = all.at i

-- ---- rows

pub no_bytes : Bytes []
no_bytes = record { at = λ i. refl }

pub more_bytes : (b : ℕ) (l : List ℕ) → BYTE b ≡ true → Bytes l → Bytes (b ∷ l)
more_bytes b l h all = record { at = go }
  where
    go : (i : ℕ) → BYTE (get_or (b ∷ l) i 0) ≡ true
    go zero = h
    go (suc i) = all.at i

pub rest-bytes : (b : ℕ) (l : List ℕ) → Bytes (b ∷ l) → Bytes l
rest-bytes b l all = record { at = λ i. all.at (suc i) }

pub both_bytes : (a b : List ℕ) → Bytes a → Bytes b → Bytes (a ++ b)
both_bytes a b h k =
    record {
      at = λ i.
          ⊎_elim
          (λ (l : i < length a). rw (byte_first a b i l) (h.at i))
          (λ (l : length a ≤ i). rw (byte_second a b i l) (k.at (i - length a)))
          (lt_or_ge i (length a));
    }

pub taken-bytes : (n : ℕ) (l : List ℕ) → Bytes l → Bytes (take n l)
taken-bytes n l h = of_seq (take n l) (λ i below. rw (get_or-take n l i 0 (omega (arith, length-take n l))) (h.at i))

pub dropped_bytes : (n : ℕ) (l : List ℕ) → Bytes l → Bytes (drop n l)
dropped_bytes n l h = record { at = λ i. rw (get_or-drop n l i 0) (h.at _) }

pub zero_rows : (n : ℕ) → Bytes (replicate n 0)
zero_rows n = of_seq (replicate n 0) (λ i below. rw (get_or-replicate {A = ℕ} n i 0 0 (rw (length-replicate {A = ℕ} n 0) at below)))

pub small_byte : (b : ℕ) → b < 256 → BYTE b ≡ true
small_byte b h = rw (le-leb 0 b (omega arith), le-leb b 255 (omega arith))

-- ---- files

pub read-bytes : (l : List ℕ) (offset count : ℕ) → Bytes l → Bytes (readFILE l offset count)
unfolding readFILE
read-bytes l offset count h = taken-bytes count (drop offset l) (dropped_bytes offset l h)

pub write_bytes : (l : List ℕ) (offset : ℕ) (bytes : List ℕ) → Bytes l → Bytes bytes → Bytes (writeFILE l offset bytes)
unfolding writeFILE
write_bytes l offset bytes h k =
    let lower = both_bytes l (drop (length l) (replicate offset 0)) h (dropped_bytes (length l) (replicate offset 0) (zero_rows offset)) in
    both_bytes _ _ (taken-bytes offset _ lower) (both_bytes bytes _ k (dropped_bytes (length bytes) _ (dropped_bytes offset _ lower)))

-- ---- directories

pub two_bytes_lem : (n : ℕ) → Bytes (two_bytes n)
unfolding two_bytes
two_bytes_lem n = more_bytes _ _ (small_byte (n % 256) (omega arith)) (more_bytes _ _ (small_byte (n / 256 % 256) (omega arith)) no_bytes)

pub entry-bytes : (f : ℕ) (name : List ℕ) → Bytes name → Bytes (written (entry f name))
unfolding written
entry-bytes f name h = both_bytes _ _ (both_bytes (two_bytes f) name (two_bytes_lem f) h) (zero_rows (14 - length name))

pub directory-bytes : (dir : List ℕ) (i : ℕ) (r : List ℕ) → Bytes dir → Bytes r → Bytes (with_entry dir i r)
unfolding with_entry
directory-bytes dir i r h k = write_bytes dir (16 * i) r h k

names-from : (dir : List ℕ) (i n : ℕ) → Bytes dir → Bytes (names_from dir i n)
unfolding names_from record_at
names-from dir i zero h = no_bytes
names-from dir i (suc n) h = both_bytes _ _ (go (is_blank dir i)) (names-from dir (suc i) n h)
  where
    go : (t : Bool) → Bytes (pick t [] (drop 2 (take 16 (drop (16 * i) dir))))
    go true = no_bytes
    go false = dropped_bytes 2 (take 16 (drop (16 * i) dir)) (taken-bytes 16 (drop (16 * i) dir) (dropped_bytes (16 * i) dir h))

pub listing-bytes : (dir : List ℕ) → Bytes dir → Bytes (listing dir)
unfolding listing
listing-bytes dir h = names-from dir 0 (record_count dir) h

-- ---- names

-- pieces of a row of bytes
abbrev pub ByteRows : List (List ℕ) → Type 0
ByteRows pieces = (i : ℕ) → Bytes (get_or pieces i [])

one_more : (piece : List ℕ) (pieces : List (List ℕ)) → Bytes piece → ByteRows pieces → ByteRows (piece ∷ pieces)
one_more piece pieces h rest zero = h
one_more piece pieces h rest (suc i) = rest i

before-rows : (b : ℕ) (t : Bool) (pieces : List (List ℕ)) → BYTE b ≡ true → ByteRows pieces → ByteRows (before b t pieces)
unfolding before
before-rows b true pieces h rest = one_more [] pieces no_bytes rest
before-rows b false [] h rest = one_more (b ∷ []) [] (more_bytes b [] h no_bytes) rest
before-rows b false (piece ∷ pieces) h rest = one_more (b ∷ piece) pieces (more_bytes b piece h (rest 0)) (λ i. rest (suc i))

split_rows : (bytes : List ℕ) → Bytes bytes → ByteRows (split bytes)
unfolding split
split_rows [] h = one_more [] [] no_bytes (λ i. no_bytes)
split_rows (b ∷ bytes) h = before-rows b (eqb b slash) (split bytes) (h.at 0) (split_rows bytes (rest-bytes b bytes h))

pub name-bytes : (bytes : List ℕ) (name : List (List ℕ)) → syllables bytes ≡ some name → Bytes bytes → ByteRows name
unfolding syllables
name-bytes [] name e h = absurd (none-ne-some name e)
name-bytes (b ∷ []) name e h = go (eqb b slash) e
  where
    go : (t : Bool) → pick t (some []) none ≡ some name → ByteRows name
    go true e = rw (sym (some-injective [] name e)) (λ i. no_bytes)
    go false e = absurd (none-ne-some name e)
name-bytes (b ∷ c ∷ bytes) name e h = go (eqb b slash && are_syllables (split (c ∷ bytes))) e
  where
    go : (t : Bool) → pick t (some (split (c ∷ bytes))) none ≡ some name → ByteRows name
    go true e = rw (sym (some-injective (split (c ∷ bytes)) name e)) (split_rows (c ∷ bytes) (rest-bytes b (c ∷ bytes) h))
    go false e = absurd (none-ne-some name e)
