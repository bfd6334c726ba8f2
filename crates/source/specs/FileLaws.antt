-- Our reading and writing of files, as rows of bytes, are the source's partial functions (4.3.2).
use Rattle.std.specs.Prelude.{ℕ, zero, suc, ◌+◌, ◌-◌, ◌≤◌, ◌<◌, max, ◌≡◌, refl, List, [], ◌∷◌, length, get_or}
use Rattle.std.proofs.Common.{ap, ap₂, sym, ◌∙◌, ⊎_elim, arith, le-leb}
use Rattle.std.proofs.Math.Path.{fun_ext}
use Rattle.std.proofs.Math.Option.{Option, none, some, some-injective, some-ne-none}
use Rattle.std.proofs.Math.ListN.{get_elem?}
use Rattle.std.proofs.lemmas.Bool.{lt-leb}
use Rattle.records.specs.Tests.{lt_or_ge}
use Rattle.meaning.specs.File.{readFILE, writeFILE}
use Rattle.meaning.proofs.FileLaws.{length-read, byte_read, length-write, byte_data, byte_before, byte_after, byte_past}
use Rattle.source.specs.Sets.{◌⇸◌, above, ◌⊕◌, ◌◁◌, ◌··◌, seq}
use Rattle.source.specs.Files.{FILE, ◌after◌, ◌shift◌, zeroes}
use Rattle.source.specs.Files as Schema

-- ---- a sequence's elements

pub element : (l : List ℕ) (k : ℕ) → k < length l → get_elem? l k ≡ some (get_or l k 0)
element [] k h = absurd (omega arith)
element (b ∷ l) zero h = refl
element (b ∷ l) (suc k) h = element l k (omega arith)

pub no_element : (l : List ℕ) (k : ℕ) → length l ≤ k → get_elem? l k ≡ none
no_element [] k h = refl
no_element (b ∷ l) zero h = absurd (omega arith)
no_element (b ∷ l) (suc k) h = no_element l k (omega arith)

-- a file is known by its partial function
elements_one : (l m : List ℕ) → ((k : ℕ) → get_elem? l k ≡ get_elem? m k) → l ≡ m
elements_one [] [] e = refl
elements_one [] (c ∷ m) e = absurd (some-ne-none c (sym (e 0)))
elements_one (b ∷ l) [] e = absurd (some-ne-none b (e 0))
elements_one (b ∷ l) (c ∷ m) e = ap₂ {C = List ℕ} ◌∷◌ (some-injective b c (e 0)) (elements_one l m (λ k. e (suc k)))

pub seq-one : (l m : FILE) → seq l ≡ seq m → l ≡ m
seq-one l m e = elements_one l m (λ k. ap (λ (f : ℕ ⇸ ℕ). f (suc k)) e)

-- numbers of a sequence start at 1
module _ {B : Type 0} (f : ℕ ⇸ B) (n : ℕ) where
  pub from_one : (1 ·· n ◁ f) 0 ≡ none
  from_one = refl

  pub range_in : (k : ℕ) → k < n → (1 ·· n ◁ f) (suc k) ≡ f (suc k)
  range_in k h = rw (le-leb 1 (suc k) (omega arith), le-leb (suc k) n h)

  pub range_out : (k : ℕ) → n ≤ k → (1 ·· n ◁ f) (suc k) ≡ none
  range_out k h = rw (le-leb 1 (suc k) (omega arith), lt-leb (suc k) n (omega arith))

-- ---- reading

module _ (file : FILE) (offset count : ℕ) where
  read_at : (n : ℕ) → seq (readFILE file offset count) n ≡ (1 ·· count ◁ file after offset) n
  read_at zero = sym (from_one (file after offset) count)
  read_at (suc k) =
      let size = length-read file offset count in
      ⊎_elim
      (λ (h : k < count). ⊎_elim
      (λ (l : k < length file - offset).
      let number : suc k + offset ≡ suc (offset + k) = omega arith in
      element (readFILE file offset count) k (omega arith)
      ∙ ap some (byte_read file offset count k h)
      ∙ sym (element file (offset + k) (omega arith))
      ∙ ap (seq file) (sym number)
      ∙ sym (range_in (λ n. seq file (n + offset)) (length file - offset) k l)
      ∙ sym (range_in (file after offset) count k h))
      (λ (l : length file - offset ≤ k).
      no_element (readFILE file offset count) k (omega arith)
      ∙ sym (range_out (λ n. seq file (n + offset)) (length file - offset) k l)
      ∙ sym (range_in (file after offset) count k h))
      (lt_or_ge k (length file - offset)))
      (λ (h : count ≤ k).
      no_element (readFILE file offset count) k (omega arith) ∙ sym (range_out (file after offset) count k h))
      (lt_or_ge k count)

  read-seq : seq (readFILE file offset count) ≡ 1 ·· count ◁ file after offset
  read-seq = fun_ext read_at

-- ---- writing

-- what has an element at k hides what is under it
over_element : (lower : Option ℕ) (l : List ℕ) (k : ℕ) → k < length l → above lower (get_elem? l k) ≡ some (get_or l k 0)
over_element lower l k h = rw (element l k h)

over_none : (lower : Option ℕ) (l : List ℕ) (k : ℕ) → length l ≤ k → above lower (get_elem? l k) ≡ lower
over_none lower l k h = rw (no_element l k h)

module _ (file : FILE) (offset : ℕ) (bytes : List ℕ) where
  abbrev new : FILE
  new = writeFILE file offset bytes

  -- the file over zeros, before the offset and from it on
  zero_before : (k : ℕ) → k < offset → zeroes offset (suc k) ≡ some 0
  zero_before k h = rw (le-leb 1 (suc k) (omega arith), le-leb (suc k) offset h)

  zero_behind : (k : ℕ) → offset ≤ k → zeroes offset (suc k) ≡ none
  zero_behind k h = rw (le-leb 1 (suc k) (omega arith), lt-leb (suc k) offset (omega arith))

  gap_filled : (k : ℕ) → k < offset → (zeroes offset ⊕ seq file) (suc k) ≡ some (get_or file k 0)
  gap_filled k h =
      ⊎_elim
      (λ (l : k < length file). over_element (zeroes offset (suc k)) file k l)
      (λ (l : length file ≤ k). over_none (zeroes offset (suc k)) file k l ∙ zero_before k h ∙ ap some (sym (byte_past file k l)))
      (lt_or_ge k (length file))

  file-behind : (k : ℕ) → offset ≤ k → (zeroes offset ⊕ seq file) (suc k) ≡ get_elem? file k
  file-behind k h =
      ⊎_elim
      (λ (l : k < length file). over_element (zeroes offset (suc k)) file k l ∙ sym (element file k l))
      (λ (l : length file ≤ k). over_none (zeroes offset (suc k)) file k l ∙ zero_behind k h ∙ sym (no_element file k l))
      (lt_or_ge k (length file))

  write-at : (n : ℕ) → seq new n ≡ (zeroes offset ⊕ seq file ⊕ bytes shift offset) n
  write-at zero =
      let e : 0 - offset ≡ 0 = omega arith in
      rw e
  write-at (suc k) =
      let size = length-write file offset bytes in
      ⊎_elim
      (λ (h : k < offset).
      let e : suc k - offset ≡ 0 = omega arith in
      rw e (element new k (omega arith) ∙ ap some (byte_before file offset bytes k h) ∙ sym (gap_filled k h)))
      (λ (h : offset ≤ k).
      let e : suc k - offset ≡ suc (k - offset) = omega arith in
      rw e (⊎_elim
      (λ (l : k - offset < length bytes).
      element new k (omega arith)
      ∙ ap some (byte_data file offset bytes k h (omega arith))
      ∙ sym (over_element ((zeroes offset ⊕ seq file) (suc k)) bytes (k - offset) l))
      (λ (l : length bytes ≤ k - offset).
      behind k h l size ∙ sym (file-behind k h) ∙ sym (over_none ((zeroes offset ⊕ seq file) (suc k)) bytes (k - offset) l))
      (lt_or_ge (k - offset) (length bytes))))
      (lt_or_ge k offset)
    where
      behind : (k : ℕ) → offset ≤ k → length bytes ≤ k - offset → length new ≡ max (length file) (offset + length bytes) → get_elem? new k ≡ get_elem? file k
      behind k h l size =
          ⊎_elim
          (λ (m : k < length file).
          element new k (omega arith) ∙ ap some (byte_after file offset bytes k (omega arith)) ∙ sym (element file k m))
          (λ (m : length file ≤ k). no_element new k (omega arith) ∙ sym (no_element file k m))
          (lt_or_ge k (length file))

  write-seq : seq new ≡ zeroes offset ⊕ seq file ⊕ bytes shift offset
  write-seq = fun_ext write-at

-- ---- the schemas hold of our files, and determine what is read and what is written

pub read_schema : (file : FILE) (offset count : ℕ) → Schema.readFILE file file offset count (readFILE file offset count)
read_schema file offset count = record { stays = refl; reads = read-seq file offset count }

pub read_one : (file file' file'' : FILE) (offset count : ℕ) (a b : List ℕ) → Schema.readFILE file file' offset count a → Schema.readFILE file file'' offset count b → a ≡ b
read_one file file' file'' offset count a b p q = seq-one a b (p.reads ∙ sym q.reads)

pub write_schema : (file : FILE) (offset : ℕ) (bytes : List ℕ) → Schema.writeFILE file (writeFILE file offset bytes) offset bytes
write_schema file offset bytes = record { writes = write-seq file offset bytes }

pub write-one : (file a b : FILE) (offset : ℕ) (bytes : List ℕ) → Schema.writeFILE file a offset bytes → Schema.writeFILE file b offset bytes → a ≡ b
write-one file a b offset bytes p q = seq-one a b (p.writes ∙ sym q.writes)
