-- What is known of the line so far, by its two cases. A piece of the input by its first line: the line ends in the piece, and the
-- rest stands behind the newline; or it goes on.
use Rattle.std.specs.Prelude.{ℕ, ◌+◌, ◌≤◌, ◌<◌, ◌≡◌, refl, List, [], ◌∷◌, ◌++◌, Bool, true, false, None, Some, length, take, drop, ltb}
use Rattle.std.proofs.Common.{ap, subst, sym, true≢false, ◌∙◌, arith, take_all, length-drop, length-take-le, ltb-true, ltb-false, take-append-drop}
use Rattle.records.specs.Rows.{pick}
use Rattle.text.specs.Line.{longest_line}
use Rattle.text.specs.Print.{newline}
use Rattle.text.specs.Program.{completed, remaining}
use Rattle.text.specs.Commands.{first_of, behind}
use Rattle.text.specs.Gathering.{Kept, Pends, first_line}
use Rattle.text.specs.declared.lines.Pending.{Pending}
use Rattle.text.specs.Cuts.{completed_both, remaining_both, line_ends, line_ended, line_goes_on, line_grows}

-- ---- the line so far

module _ (line : List ℕ) (p : Pending) (pends : Pends line p) where
  pub too_long : p.long ≡ true → longest_line < length line
  too_long e = subst (λ t. Kept t p.len p.bytes line) e pends.keeps

  pub in_buffer : p.long ≡ false → line ≡ take p.len p.bytes
  in_buffer e = subst (λ t. Kept t p.len p.bytes line) e pends.keeps

  -- its length is what is kept
  pub pending_length : p.long ≡ false → longest_line ≤ length p.bytes → length line ≡ p.len
  pending_length e h = let f = pends.fits e in rw (in_buffer e) (length-take-le p.len p.bytes (omega arith))

-- a line of which it is known that it is too long
pub still_long : (line : List ℕ) (p : Pending) → p.long ≡ true → longest_line < length line → Pends line p
still_long line p e h =
    record { fits = λ f. absurd (true≢false (sym e ∙ f)); keeps = subst (λ t. Kept t p.len p.bytes line) (sym e) h }

-- ---- a piece

module _ (piece : List ℕ) where
  ends_at : ℕ
  ends_at = first_of newline piece

  module _ (rest : List ℕ) (e : behind newline piece ≡ Some rest) where
    found : (ends_at < length piece) × (rest ≡ drop (ends_at + 1) piece)
    unfolding behind ends_at
    found = go (ltb (first_of newline piece) (length piece)) refl e
      where
        go : (t : Bool) → ltb (first_of newline piece) (length piece) ≡ t → pick t (Some (drop (first_of newline piece + 1) piece)) None ≡ Some rest
            → (first_of newline piece < length piece) × (rest ≡ drop (first_of newline piece + 1) piece)
        go true t g = (ltb-true (first_of newline piece) (length piece) t, cc)
        go false t g = absurd (cc)

    -- the piece up to its newline, and the rest
    two_parts : piece ≡ take (ends_at + 1) piece ++ rest
    two_parts = rw (found.1, take-append-drop (ends_at + 1) piece)

    pub ends_within : first_of newline piece < length piece
    unfolding ends_at
    ends_within = found.0

    pub rest_behind : piece ≡ take (first_of newline piece + 1) piece ++ rest
    unfolding ends_at
    rest_behind = two_parts

    pub rest-shorter : length rest < length piece
    rest-shorter = let g = found in rw (g.1, length-drop) (omega arith)

    -- the line ends, and what follows it is the rest's
    pub completes : (line : List ℕ) → completed line piece ≡ (line ++ first_line piece) ∷ completed [] rest
    unfolding ends_at
    completes line =
        ap (completed line) two_parts ∙ completed_both line (take (ends_at + 1) piece) rest
        ∙ rw (line_ends piece line found.0, line_ended piece line found.0)

    pub leaves : (line : List ℕ) → remaining line piece ≡ remaining [] rest
    unfolding ends_at
    leaves line = ap (remaining line) two_parts ∙ remaining_both line (take (ends_at + 1) piece) rest ∙ rw (line_ended piece line found.0)

  module _ (e : behind newline piece ≡ None) where
    nowhere : length piece ≤ first_of newline piece
    unfolding behind
    nowhere = go (ltb (first_of newline piece) (length piece)) refl e
      where
        go : (t : Bool) → ltb (first_of newline piece) (length piece) ≡ t → pick t (Some (drop (first_of newline piece + 1) piece)) None ≡ None
            → length piece ≤ first_of newline piece
        go true t g = absurd (cc)
        go false t g = ltb-false (first_of newline piece) (length piece) t

    -- no line ends, and the line so far grows by the piece
    pub all_first : first_line piece ≡ piece
    unfolding first_line
    all_first = take_all (first_of newline piece) piece nowhere

    pub completes_none : (line : List ℕ) → completed line piece ≡ []
    completes_none line = line_goes_on piece line nowhere

    pub grows : (line : List ℕ) → remaining line piece ≡ line ++ piece
    grows line = line_grows piece line nowhere
