-- A file in use, and a directory in use, in plain facts; both ways.
use Rattle.std.specs.Prelude.{ℕ, zero, suc, ◌≤◌, ◌<◌, ◌≡◌, refl, ◌≢◌, Bool, true, false, not, ◌&&◌, ◌||◌, eqb}
use Rattle.std.proofs.Common.{sym, ◌∙◌, true≢false}
use native.Mathlib.Omega.{arith}
use borrow.Author.Tests.{eqb-true, eq-eqb}
use Rattle.records.specs.Rows.{every}
use Rattle.records.specs.RowLaws.{every_all, all_every}
use Rattle.records.specs.Tests.{and_left, and_right, and_both}
use Rattle.meaning.specs.Store.{Store, in_use, is_directory}
use Rattle.layout.specs.Layout.{in_use_facts, facts_in_use}

-- ---- rows of tests

pub three : (a b c : Bool) → a && b && c ≡ true → (a ≡ true) × (b ≡ true) × (c ≡ true)
three a b c e = let l = and_left (a && b) c e in (and_left a b l, and_right a b l, and_right (a && b) c e)

pub four : (a b c d : Bool) → a && b && c && d ≡ true → (a ≡ true) × (b ≡ true) × (c ≡ true) × (d ≡ true)
four a b c d e = let l = three a b c (and_left (a && b && c) d e) in (l.0, l.1, l.2, and_right (a && b && c) d e)

-- a rule for those that pass a test
pub implied : (a b : Bool) → not a || b ≡ true → a ≡ true → b ≡ true
implied true b e h = e
implied false b e h = absurd (true≢false (sym h))

pub of_implied : (a b : Bool) → (a ≡ true → b ≡ true) → not a || b ≡ true
of_implied true b h = h refl
of_implied false b h = refl

-- ---- files are counted from 1

pub every-file : (n : ℕ) (p : ℕ → Bool) → every n (λ i. p (suc i)) ≡ true → (f : ℕ) → 0 < f → f ≤ n → p f ≡ true
every-file n p e zero some h = absurd (omega arith)
every-file n p e (suc r) some h = every_all n (λ i. p (suc i)) e r h

pub file-every : (n : ℕ) (p : ℕ → Bool) → ((f : ℕ) → 0 < f → f ≤ n → p f ≡ true) → every n (λ i. p (suc i)) ≡ true
file-every n p h = all_every n (λ i. p (suc i)) (λ i (l : i < n). h (suc i) (omega arith) (omega arith))

-- ---- a file in use

pub record Used (s : Store) (f : ℕ) : Type 0 where
  pub some : 0 < f
  pub within : f ≤ s.file_count
  pub kind : (s.file f).kind ≢ 0

-- 0 means none
pub none_unused : (s : Store) → in_use s 0 ≡ false
unfolding in_use
none_unused s = refl

module _ (s : Store) (f : ℕ) where
  pub used : in_use s f ≡ true → Used s f
  used e = let (some, within, kind) = in_use_facts s f e in record { some = some; within = within; kind = kind }

  pub of_used : Used s f → in_use s f ≡ true
  of_used u = facts_in_use s f u.some u.within u.kind

  -- ---- a directory in use

  pub directory_used : is_directory s f ≡ true → Used s f
  unfolding is_directory
  directory_used e = used (and_left (in_use s f) (eqb (s.file f).kind 2) e)

  pub directory-kind : is_directory s f ≡ true → (s.file f).kind ≡ 2
  unfolding is_directory
  directory-kind e = eqb-true (s.file f).kind 2 (and_right (in_use s f) (eqb (s.file f).kind 2) e)

  pub of_directory : 0 < f → f ≤ s.file_count → (s.file f).kind ≡ 2 → is_directory s f ≡ true
  unfolding is_directory
  of_directory some within kind =
      and_both (in_use s f) (eqb (s.file f).kind 2)
      (of_used (record { some = some; within = within; kind = λ (z : (s.file f).kind ≡ 0). omega arith }))
      (eq-eqb (s.file f).kind 2 kind)

  -- a file in use that is no directory
  pub not_directory : in_use s f ≡ true → is_directory s f ≡ false → (s.file f).kind ≢ 2
  not_directory u d k = let w = used u in true≢false (sym (of_directory w.some w.within k) ∙ d)
