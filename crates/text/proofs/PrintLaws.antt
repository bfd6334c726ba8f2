-- Laws of what is printed, as the code meets them: numbers and hex one behind another, and a line's end.
use Rattle.std.proofs.Common.{ℕ, sym, true, false, true≢false, eqb-true, ◌==◌, ◌+◌, ◌*◌, ◌/◌, ◌%◌, ◌≤◌, ◌<◌, ◌≡◌, refl, List, [], ◌∷◌, ◌++◌, append_assoc, append-nil, length, get_or, take, take-suc, take_all, add-one, arith}
use Rattle.meaning.specs.Run.{Answer, accepted, refusal, number_of}
use Rattle.meaning.specs.declared.Report.{Report}
use Rattle.text.specs.Line.{space}
use Rattle.text.specs.Print.{digits, decimal, hex, hex_digit, hex_word, spaced, printed, newline}
use Rattle.text.specs.PrintedLaws.{printed-refusal}
use Rattle.text.specs.Lays.{Lays, LaysAtMost}
use Rattle.text.specs.LaysLaws.{lays_none, lays_both}

-- ---- numbers

pub zero_is : decimal 0 ≡ 48 ∷ []
unfolding decimal digits
zero_is = refl

pub spaced-append : (xs ys : List ℕ) → spaced (xs ++ ys) ≡ spaced xs ++ spaced ys
unfolding spaced
spaced-append [] ys = refl
spaced-append (x ∷ xs) ys = rw (spaced-append xs ys, append_assoc)

pub spaced-one : (n : ℕ) → spaced (n ∷ []) ≡ space ∷ decimal n
unfolding spaced
spaced-one n = append-nil (space ∷ decimal n)

module _ (out between after : List ℕ) (at middle next n : ℕ) where
  -- a number behind a space
  pub behind-space : Lays out at (space ∷ []) between middle → LaysAtMost 10 between middle (decimal n) after next
      → LaysAtMost 11 out at (space ∷ decimal n) after next
  behind-space p q =
      record { lays = lays_both (space ∷ []) (decimal n) out between after at middle next p q.lays; near = omega (arith, p.ends, q.near) }

  -- a number behind the report
  pub behind_zero : Lays out at (48 ∷ []) between middle → LaysAtMost 11 between middle (space ∷ decimal n) after next
      → LaysAtMost 12 out at (decimal 0 ++ spaced (n ∷ [])) after next
  behind_zero p q =
      record {
        lays = rw (zero_is, spaced-one n) (lays_both (48 ∷ []) (space ∷ decimal n) out between after at middle next p q.lays);
        near = omega (arith, p.ends, q.near);
      }

-- ---- a row, one element after another, in a form g

pub each_start : (g : List ℕ → List ℕ) → g [] ≡ [] → (out : List ℕ) (at : ℕ) (row : List ℕ) → at ≤ length out → Lays out at (g (take 0 row)) out at
each_start g nil out at row h = rw nil (lays_none out at h)

module _ (g : List ℕ → List ℕ) (in_a_row : (xs ys : List ℕ) → g (xs ++ ys) ≡ g xs ++ g ys) where
  pub each_more : (out₀ : List ℕ) (at : ℕ) (row : List ℕ) (i : ℕ) (out : List ℕ) (next : ℕ) → Lays out₀ at (g (take i row)) out next
      → i < length row → (out' : List ℕ) (next' : ℕ) → Lays out next (g (get_or row i 0 ∷ [])) out' next'
      → Lays out₀ at (g (take (i + 1) row)) out' next'
  each_more out₀ at row i out next so_far h out' next' l =
      rw (add-one i, take-suc row i 0 h, in_a_row (take i row) (get_or row i 0 ∷ []))
      (lays_both (g (take i row)) (g (get_or row i 0 ∷ [])) out₀ out out' at next next' so_far l)

  pub each_all : (out₀ : List ℕ) (at : ℕ) (row : List ℕ) (i : ℕ) (out : List ℕ) (next : ℕ) → Lays out₀ at (g (take i row)) out next
      → length row ≤ i → Lays out₀ at (g row) out next
  each_all out₀ at row i out next so_far h = rw (take_all i row h) at so_far

-- ---- hex

pub hex-append : (xs ys : List ℕ) → hex (xs ++ ys) ≡ hex xs ++ hex ys
unfolding hex
hex-append [] ys = refl
hex-append (x ∷ xs) ys = rw (hex-append xs ys)

pub two_digits : (b high low : ℕ) → high ≡ hex_digit (b / 16) → low ≡ hex_digit (b % 16) → (high ∷ []) ++ (low ∷ []) ≡ hex (b ∷ [])
unfolding hex
two_digits b high low p q = rw (p, q)

hex-length : (bytes : List ℕ) → length (hex bytes) ≡ 2 * length bytes
unfolding hex
hex-length [] = refl
hex-length (b ∷ bytes) = omega (arith, hex-length bytes)

pub hex-word-length : (bytes : List ℕ) → length (hex_word bytes) ≤ 1 + 2 * length bytes
unfolding hex_word
hex-word-length [] = omega arith
hex-word-length (b ∷ bytes) = omega (arith, hex-length (b ∷ bytes))

-- no bytes, no word
pub no_word : (bytes out : List ℕ) (at : ℕ) → at + 1 + 2 * length bytes ≤ length out → true ≡ (length bytes == 0) → Lays out at (hex_word bytes) out at
unfolding hex_word
no_word [] out at h e = lays_none out at (omega arith)
no_word (b ∷ bytes) out at h e = let z : length (b ∷ bytes) ≡ 0 = eqb-true _ _ (sym e) in absurd (omega arith)

-- some bytes: a space, and their hex
pub a_word_lem : (bytes out between after : List ℕ) (at middle next : ℕ) → false ≡ (length bytes == 0) → Lays out at (space ∷ []) between middle
    → Lays between middle (hex bytes) after next → Lays out at (hex_word bytes) after next
unfolding hex_word
a_word_lem [] out between after at middle next d p q = absurd (true≢false (sym d))
a_word_lem (b ∷ bytes) out between after at middle next d p q = lays_both (space ∷ []) (hex (b ∷ bytes)) out between after at middle next p q

-- ---- lines

-- the same answer under another name
pub line_as : (a b : Answer) (bytes out after : List ℕ) (at next : ℕ) → a ≡ b → Lays out at (printed b bytes ++ newline ∷ []) after next
    → Lays out at (printed a bytes ++ newline ∷ []) after next
line_as a b bytes out after at next e l = rw e l

-- a refusal
pub refusal_line : (a : Answer) (n : ℕ) (why : Report) (bytes out after : List ℕ) (at next : ℕ) → a ≡ refusal n why
    → Lays out at (decimal (number_of why) ++ newline ∷ []) after next → Lays out at (printed a bytes ++ newline ∷ []) after next
refusal_line a n why bytes out after at next e l = rw (e, printed-refusal n why bytes) l

-- numbers, then hex
pub numbers_line : (a : Answer) (n : ℕ) (ns bytes out one two after : List ℕ) (at middle end next : ℕ) → a ≡ accepted (n ∷ ns)
    → Lays out at (decimal 0 ++ spaced (n ∷ ns)) one middle → Lays one middle (hex_word bytes) two end → Lays two end (newline ∷ []) after next
    → Lays out at (printed a bytes ++ newline ∷ []) after next
unfolding printed number_of
numbers_line a n ns bytes out one two after at middle end next e p q r =
    rw e
    (lays_both (decimal 0 ++ spaced (n ∷ ns) ++ hex_word bytes) (newline ∷ []) out two after at end next
    (lays_both (decimal 0 ++ spaced (n ∷ ns)) (hex_word bytes) out one two at middle end p q) r)

-- an accepted call's numbers, or a count and bytes in hex
pub numbers_printed : (ns : List ℕ) → (48 ∷ []) ++ spaced ns ≡ printed (accepted ns) []
unfolding printed number_of decimal digits spaced hex_word
numbers_printed [] = refl
numbers_printed (n ∷ ns) = sym (append-nil _)

pub count_printed : (n : ℕ) (bytes : List ℕ) → (48 ∷ []) ++ spaced (n ∷ []) ++ hex_word bytes ≡ printed (accepted (n ∷ [])) bytes
unfolding printed number_of decimal digits
count_printed n bytes = refl

-- numbers alone, if there are any
pub numbers_alone : (a : Answer) (ns out one two after : List ℕ) (at middle end next : ℕ) → a ≡ accepted ns → Lays out at (48 ∷ []) one middle
    → Lays one middle (spaced ns) two end → Lays two end (newline ∷ []) after next → Lays out at (printed a [] ++ newline ∷ []) after next
numbers_alone a ns out one two after at middle end next e p q r =
    rw (e, ← numbers_printed ns)
    (lays_both ((48 ∷ []) ++ spaced ns) (newline ∷ []) out two after at end next (lays_both (48 ∷ []) (spaced ns) out one two at middle end p q) r)
