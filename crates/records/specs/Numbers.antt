-- Numbers of one, two and four bytes, low byte first, and records of a fixed size (01, "Tables the host lends").
use Rattle.std.specs.Prelude.{ℕ, ◌+◌, ◌*◌, ◌/◌, ◌%◌, List, [], ◌∷◌, ◌++◌, Bool, get_or, eqb}
use Rattle.std.proofs.lemmas.List.Edits.{sets}
use Rattle.records.specs.Rows.{every}

-- the number that stands in the one, two or four bytes from `at` on
unfoldable pub one : List ℕ → ℕ → ℕ
one bytes at = get_or bytes at 0

unfoldable pub two : List ℕ → ℕ → ℕ
two bytes at = one bytes at + 256 * one bytes (at + 1)

unfoldable pub four : List ℕ → ℕ → ℕ
four bytes at = two bytes at + 65536 * two bytes (at + 2)

-- a number as two or four bytes
unfoldable pub two_bytes : ℕ → List ℕ
two_bytes n = n % 256 ∷ n / 256 % 256 ∷ []

unfoldable pub four_bytes : ℕ → List ℕ
four_bytes n = two_bytes n ++ two_bytes (n / 65536)

-- n bytes from `at` on are zero
unfoldable pub zeros : List ℕ → ℕ → ℕ → Bool
zeros bytes at n = every n (λ i. eqb (one bytes (at + i)) 0)

-- a table of records of `size` bytes with record r written anew
unfoldable pub with_record : ℕ → List ℕ → ℕ → List ℕ → List ℕ
with_record size table r bytes = sets table (size * r) bytes
