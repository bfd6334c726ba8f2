-- Rows of names: one further, split, and how long they are.
use Prim.Native.Nat.{ℕ, zero, suc, ◌+◌, ◌*◌, ◌≤◌, ◌<◌}
use Rattle.std.specs.Prelude.{◌≡◌, Bool, not, take, drop}
use Rattle.std.proofs.Math.Path.{refl}
use Rattle.std.proofs.Common.{ap, sym, ◌∙◌, length-take, length-drop}
use mathlib.Core.List.{List, [], ◌++◌, append-nil, append_assoc}
use Rattle.std.proofs.Math.Bool.{true, false}
use Rattle.std.proofs.Math.Numerals.{add-one}
use native.Mathlib.Omega.{arith}
use Rattle.std.proofs.Math.ListN.{length, length-append}
use Rattle.records.specs.Rows.{pick, tally, how_many, sum}
use Rattle.directories.specs.Find.{blank_at}
use Rattle.listing.specs.Names.{rows, name_at}

-- how many pass, where the indices are split
pub how_many-split : (p : ℕ → Bool) (a b : ℕ) → how_many (a + b) p ≡ how_many a p + how_many b (λ j. p (a + j))
unfolding how_many sum
how_many-split p a zero = let e : a + 0 ≡ a = omega arith in rw e (omega arith)
how_many-split p a (suc b) =
    let e : a + suc b ≡ suc (a + b) = omega arith in
    rw e (omega (arith, how_many-split p a b))

module _ (g : ℕ → List ℕ) where
  pub rows_next : (n : ℕ) → rows (n + 1) g ≡ rows n g ++ g n
  unfolding rows
  rows_next n = rw add-one

  pub rows_split : (a b : ℕ) → rows (a + b) g ≡ rows a g ++ rows b (λ j. g (a + j))
  unfolding rows
  rows_split a zero = let e : a + 0 ≡ a = omega arith in rw e (sym (append-nil (rows a g)))
  rows_split a (suc b) =
      let e : a + suc b ≡ suc (a + b) = omega arith in
      rw (e, rows_split a b, append_assoc)

  -- more rows are no shorter
  pub rows_more : (a b : ℕ) → length (rows a g) ≤ length (rows (a + b) g)
  rows_more a b = omega (arith, ap length (rows_split a b) ∙ length-append (rows a g) (rows b (λ j. g (a + j))))

  -- rows of 14 bytes, one for each index that passes
  pub rows-length : (p : ℕ → Bool) (n : ℕ) → ((i : ℕ) → i < n → length (g i) ≡ 14 * tally (p i)) → length (rows n g) ≡ 14 * how_many n p
  unfolding rows how_many sum
  rows-length p zero each = refl
  rows-length p (suc n) each =
      omega (arith, length-append (rows n g) (g n), rows-length p n (λ i h. each i (omega arith)), each n (omega arith))

pub rows_cong : (n : ℕ) (g h : ℕ → List ℕ) → ((i : ℕ) → i < n → g i ≡ h i) → rows n g ≡ rows n h
unfolding rows
rows_cong zero g h e = refl
rows_cong (suc n) g h e = rw (rows_cong n g h (λ i l. e i (omega arith)), e n (omega arith))

-- ---- one name

module _ (blocks : List ℕ) (at : ℕ) where
  pub name_blank : blank_at blocks at ≡ true → name_at blocks at ≡ []
  unfolding name_at
  name_blank e = rw e

  pub name_there : blank_at blocks at ≡ false → name_at blocks at ≡ take 14 (drop (at + 2) blocks)
  unfolding name_at
  name_there e = rw e

  pub name-length : at + 16 ≤ length blocks → length (name_at blocks at) ≡ 14 * tally (not (blank_at blocks at))
  unfolding name_at
  name-length h = go (blank_at blocks at)
    where
      go : (t : Bool) → length (pick t [] (take 14 (drop (at + 2) blocks))) ≡ 14 * tally (not t)
      go true = refl
      go false = simp (length-take, length-drop) (omega arith)
