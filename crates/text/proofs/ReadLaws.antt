-- Laws of the first argument on a line, as the code meets it.
use Rattle.std.proofs.Common.{ℕ, ◌≤◌, ◌<◌, ◌≡◌, refl, List, [], ◌∷◌, Bool, true, false, not, Option, Some, None, option_map, length, le-leb, ne_eqb, arith, ◌∙◌, ◌==◌}
use Rattle.std.specs.Bool.{then_some}
use Rattle.std.specs.Option.{option_copied}
use Rattle.std.specs.Borrow.{Bor}
use borrow.Author.Tests.{lt-leb}
use Rattle.std.proofs.lemmas.Bool.Decides.{nat_tests}
use Rattle.records.specs.Rows.{pick}
use Rattle.meaning.specs.Run.{Call}
use Rattle.text.specs.Arguments.{taken}
use Rattle.text.specs.Line.{first_word, after_word, a_word, given, nothing, the_data, reading}

pub word_taken : (k : List ℕ → Option (List ℕ) → Option Call) (row : List ℕ) (word : Bor (List ℕ)) (rest : Option (Bor (List ℕ))) (t : Bool)
    → t ≡ (length word.now == 0) → word.now ≡ first_word row → option_copied rest ≡ after_word row
    → taken (then_some (not t) (word, rest)) k ≡ a_word k (Some row)
unfolding a_word
word_taken k row word rest true e f g = rw (← f) (grind (arith, nat_tests))
word_taken k row word rest false e f g = rw (← f, ← g) (grind (arith, nat_tests))

-- ---- what a word gives, if it gives something

module _ {A B : Type 0} (o : Option A) (k : A → Option B) where
  pub given-none : None ≡ o → None ≡ given o k
  unfolding given
  given-none e = rw (← e)

  pub given-some : (a : A) → Some a ≡ o → k a ≡ given o k
  unfolding given
  given-some a e = rw (← e)

-- ---- write's data

module _ (call : List ℕ → Call) where
  pub no_data : Some (call []) ≡ the_data call None
  unfolding the_data
  no_data = refl

  -- a space alone, or some data
  some_data : (row : List ℕ) (t : Bool) → t ≡ (length row == 0) → pick (not t) (Some (call row)) None ≡ the_data call (Some row)
  unfolding the_data
  some_data [] t e = rw e
  some_data (b ∷ row) t e = let f : t ≡ false = e ∙ ne_eqb (length (b ∷ row)) 0 (λ (z : length (b ∷ row) ≡ 0). omega arith) in rw f

  some_taken : (bytes : Bor (List ℕ)) (t : Bool) → t ≡ (length bytes.now == 0)
      → option_map (λ (b : Bor (List ℕ)). call b.now) (then_some (not t) bytes) ≡ the_data call (Some bytes.now)
  some_taken bytes true e = some_data bytes.now true e
  some_taken bytes false e = some_data bytes.now false e

  pub data_taken : (rest : Option (Bor (List ℕ))) (bytes : Bor (List ℕ)) (t : Bool) (r : Option (Bor (List ℕ))) → rest ≡ Some bytes
      → t ≡ (length bytes.now == 0) → r ≡ then_some (not t) bytes
      → option_map (λ (b : Bor (List ℕ)). call b.now) r ≡ the_data call (option_copied rest)
  data_taken rest bytes t r e f g = rw (e, g) (some_taken bytes t f)

-- ---- read's count

module _ (c count : ℕ) (rest : Option (List ℕ)) where
  pub too_many : 2048 < count → None ≡ reading c count rest
  unfolding reading
  too_many h = rw (lt-leb count 2048 h)

  pub so_many : (r : Option Call) → count ≤ 2048 → r ≡ nothing (Call.Read c count) rest → r ≡ reading c count rest
  unfolding reading
  so_many r h e = rw (le-leb count 2048 h) e
