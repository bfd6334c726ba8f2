-- How many names a file has left where one is taken or given to another file.
use Prim.Native.Nat.{ℕ, ◌+◌, ◌<◌}
use Rattle.std.specs.Prelude.{◌≡◌, refl, ◌≢◌, List}
use Rattle.std.proofs.Math.Path.{ap}
use native.Mathlib.Omega.{arith}
use Rattle.std.proofs.Math.Dec.{eqb}
use borrow.Author.Tests.{eq-eqb, ne_eqb}
use Rattle.records.specs.Rows.{tally}
use Rattle.meaning.specs.Store.{Store, named, names}
use Rattle.soundness.specs.Use.{used}
use Rattle.soundness.specs.Well.{Well}
use Rattle.trees.specs.Standing.{Standing}
use Rattle.trees.specs.Naming.{with_name, without_name, names-named, names_unnamed}

own_tally : (g : ℕ) → tally (eqb g g) ≡ 1
own_tally g = ap tally (eq-eqb g g refl)

other-tally : (f g : ℕ) → f ≢ g → tally (eqb f g) ≡ 0
other-tally f g n = ap tally (ne_eqb f g n)

-- ---- a name that stands for an ordinary file is taken, or given to another file

module _ (s : Store) (w : Well s) (n : List (List ℕ)) (t : Standing s n) where
  abbrev g : ℕ
  g = named s n

  some : g ≢ 0
  some = let u = used s g t.is_in_use in omega (arith, u.some)

  -- its file has one name less
  pub names_less : names (without_name s n) g + 1 ≡ names s g
  names_less = omega (arith, names_unnamed s n t.place g some, own_tally g)

  pub names_replaced : (f : ℕ) → f < 65536 → f ≢ g → names (with_name s n f) g + 1 ≡ names s g
  names_replaced f small n' = omega (arith, names-named s n t.place f small g some, own_tally g, other-tally f g n')

  -- the file that the name stood for already has as many
  pub names_again : g < 65536 → names (with_name s n g) g ≡ names s g
  names_again small = omega (arith, names-named s n t.place g small g some, own_tally g)
