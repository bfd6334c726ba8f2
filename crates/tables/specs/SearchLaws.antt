-- The tests of the searches, as a loop meets them: a number v that was read is compared with the one that is wanted.
use Rattle.std.specs.Prelude.{ℕ, ◌+◌, ◌*◌, ◌<◌, ◌≡◌, ◌≢◌, List, Bool, get_or}
use Rattle.std.proofs.Common.{sym, arith}
use Rattle.std.proofs.Math.Path.{ap}
use Rattle.std.proofs.Math.Logic.{⊎_elim}
use borrow.Author.Tests.{eq-eqb, ne_eqb}
use Rattle.std.proofs.Math.Dec.{eqb}
use Rattle.records.specs.Rows.{lowest, how_many}
use Rattle.records.specs.RowLaws.{lowest_cong, how_many_cong}
use Rattle.records.specs.Tests.{same_or_not}
use Rattle.records.specs.Numbers.{one, two, four}
use Rattle.records.specs.NumberLaws.{two_small}
use Rattle.meaning.specs.Tables.{block_count, owner, place, holds, block_of, kind_at, channel_file_at}
use Rattle.tables.specs.Searches.{is_of_kind, is_to, blocks_with}

module _ (records : List ℕ) where
  pub kind_test : (kind r v : ℕ) → v ≡ one records (8 * r) → is_of_kind records kind r ≡ eqb v kind
  unfolding kind_at
  kind_test kind r v e = ap (λ n. eqb n kind) (sym e)

  pub channel_test : (f c v : ℕ) → v ≡ two records (8 * c) → is_to records f c ≡ eqb v f
  unfolding channel_file_at
  channel_test f c v e = ap (λ n. eqb n f) (sym e)

-- ---- a block record, read as one number

-- block b's record is the number n
abbrev pub is_number : List ℕ → ℕ → ℕ → Bool
is_number records n b = eqb (four records (4 * b)) n

pub number_test : (records : List ℕ) (n b v : ℕ) → v ≡ four records (4 * b) → is_number records n b ≡ eqb v n
number_test records n b v e = ap (λ m. eqb m n) (sym e)

module _ (records : List ℕ) (bytes : (j : ℕ) → get_or records j 0 < 256) where
  holds-number : (f i b : ℕ) → f < 65536 → holds records f i b ≡ is_number records (f + 65536 * i) b
  unfolding holds owner place four
  holds-number f i b small =
      let o = two records (4 * b) in
      let p = two records (4 * b + 2) in
      let h : o < 65536 = two_small records bytes (4 * b) in
      ⊎_elim
      (λ (s : o ≡ f). ⊎_elim
      (λ (t : p ≡ i). rw (eq-eqb o f s, eq-eqb p i t, eq-eqb (o + 65536 * p) (f + 65536 * i) (omega arith)))
      (λ (t : p ≢ i). rw (eq-eqb o f s, ne_eqb p i t, ne_eqb (o + 65536 * p) (f + 65536 * i) (omega arith)))
      (same_or_not p i))
      (λ (s : o ≢ f). rw (ne_eqb o f s, ne_eqb (o + 65536 * p) (f + 65536 * i) (omega arith)))
      (same_or_not o f)

  pub block_of-number : (f i n : ℕ) → f < 65536 → n ≡ f + 65536 * i → block_of records f i ≡ lowest (block_count records) (is_number records n)
  unfolding block_of
  block_of-number f i n small e =
      rw e (lowest_cong (block_count records) (λ b. holds records f i b) (is_number records (f + 65536 * i)) (λ b h. holds-number f i b small))

  pub blocks_with-number : (f i n : ℕ) → f < 65536 → n ≡ f + 65536 * i → blocks_with records f i ≡ how_many (block_count records) (is_number records n)
  unfolding blocks_with
  blocks_with-number f i n small e =
      rw e (how_many_cong (block_count records) (λ b. holds records f i b) (is_number records (f + 65536 * i)) (λ b h. holds-number f i b small))
