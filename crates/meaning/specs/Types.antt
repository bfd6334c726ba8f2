-- What the declared types stand for in 01's numbers.
use Rattle.std.specs.Prelude.{ℕ, zero, suc, ◌≡◌, refl, ◌<◌, Option, Some, None}
use Rattle.std.proofs.Common.{arith, sym, ◌∙◌}
use Rattle.std.proofs.Math.Path.{ap}
use Rattle.meaning.specs.Tables.{Tables, tables}
use Rattle.meaning.specs.declared.Lent.{Lent}
use Rattle.meaning.specs.declared.FileNo.{FileNo}
use Rattle.meaning.specs.declared.Kind.{Kind}
use Rattle.meaning.specs.declared.Kind.TheVariants.{Free, File, Directory}

-- the lent tables as a function takes them to read
abbrev pub tables_of : Lent → Tables
tables_of store = tables store.blocks.now store.block_records.now store.file_records.now store.channel_records.now

-- a kind as a file record and fstat have it
abbrev pub kind_number : Kind → ℕ
kind_number Free = 0
kind_number File = 1
kind_number Directory = 2

-- a file number that stands for a file, or for none: 0
unfoldable pub file_numbered : ℕ → Option FileNo
file_numbered zero = None
file_numbered (suc r) = Some (record { 0 = suc r })

-- the number that a file, or none, stands for
abbrev pub file_or_zero : Option FileNo → ℕ
file_or_zero None = 0
file_or_zero (Some f) = f.0

-- ---- how a caller reads a file that may be none

pub numbered-some : (n : ℕ) (f : FileNo) → file_numbered n ≡ Some f → (0 < n) × (f.0 ≡ n)
unfolding file_numbered
numbered-some zero f e = let z : ◌≡◌ {A = ℕ} 0 1 = cc in absurd (omega arith)
numbered-some (suc r) f e =
    let same : f ≡ record { 0 = suc r } = cc in
    (omega arith, ap (λ (g : FileNo). g.0) same)

pub numbered-none : (n : ℕ) → file_numbered n ≡ None → n ≡ 0
unfolding file_numbered
numbered-none zero e = refl
numbered-none (suc r) e = let z : ◌≡◌ {A = ℕ} 0 1 = cc in absurd (omega arith)

module _ (x : Option FileNo) (n : ℕ) (is : x ≡ file_numbered n) where
  pub or_zero_is : file_or_zero x ≡ n
  unfolding file_numbered
  or_zero_is = ap file_or_zero is ∙ back n
    where
      back : (n : ℕ) → file_or_zero (file_numbered n) ≡ n
      back zero = refl
      back (suc r) = refl

  pub some_is : (f : FileNo) → x ≡ Some f → (0 < n) × (f.0 ≡ n)
  some_is f e = numbered-some n f (sym is ∙ e)

  pub none_is : x ≡ None → n ≡ 0
  none_is e = numbered-none n (sym is ∙ e)

-- ---- how the code makes it

pub some-numbered : (f : FileNo) (n : ℕ) → f.0 ≡ n → 0 < n → Some f ≡ file_numbered n
unfolding file_numbered
some-numbered f zero e h = absurd (omega arith)
some-numbered f (suc r) e h = λ i. Some (record { 0 = e i })

pub none-numbered : (n : ℕ) → n ≡ 0 → None ≡ file_numbered n
unfolding file_numbered
none-numbered n e = rw e
