-- The lines of an input that comes in parts. A line ends at a newline and nowhere else, so where the input is cut plays no part.
use Rattle.std.specs.Prelude.{ℕ, zero, suc, ◌+◌, ◌-◌, ◌≤◌, ◌<◌, ◌≡◌, refl, List, [], ◌∷◌, ◌++◌, Bool, true, false, length, take, drop, eqb}
use Rattle.std.proofs.Common.{sym, ap, ◌∙◌, ⊎_elim, append_assoc, append-nil, add-one, arith, drop-drop, take-add}
use Rattle.records.specs.Rows.{pick, lowest, lowest_from}
use Rattle.records.specs.Tests.{tested}
use Rattle.records.specs.Numbers.{one}
use Rattle.meaning.specs.Tables.{Tables}
use Rattle.text.specs.Print.{newline, served, transcript}
use Rattle.text.specs.Program.{completed, remaining, after_lines}
use Rattle.text.specs.Commands.{first_of}
use Rattle.text.specs.Gathering.{first_line, part}

-- ---- two parts, one behind the other

-- the lines that end in both
pub completed_both : (line xs ys : List ℕ) → completed line (xs ++ ys) ≡ completed line xs ++ completed (remaining line xs) ys
unfolding completed remaining
completed_both line [] ys = refl
completed_both line (b ∷ xs) ys = go (eqb b newline) (completed_both [] xs ys) (completed_both (line ++ b ∷ []) xs ys)
  where
    go : (t : Bool) → completed [] (xs ++ ys) ≡ completed [] xs ++ completed (remaining [] xs) ys
        → completed (line ++ b ∷ []) (xs ++ ys) ≡ completed (line ++ b ∷ []) xs ++ completed (remaining (line ++ b ∷ []) xs) ys
        → pick t (line ∷ completed [] (xs ++ ys)) (completed (line ++ b ∷ []) (xs ++ ys))
        ≡ pick t (line ∷ completed [] xs) (completed (line ++ b ∷ []) xs) ++ completed (pick t (remaining [] xs) (remaining (line ++ b ∷ []) xs)) ys
    go true next same = ap (λ ls. line ∷ ls) next
    go false next same = same

-- and what is left then
pub remaining_both : (line xs ys : List ℕ) → remaining line (xs ++ ys) ≡ remaining (remaining line xs) ys
unfolding remaining
remaining_both line [] ys = refl
remaining_both line (b ∷ xs) ys = go (eqb b newline) (remaining_both [] xs ys) (remaining_both (line ++ b ∷ []) xs ys)
  where
    go : (t : Bool) → remaining [] (xs ++ ys) ≡ remaining (remaining [] xs) ys
        → remaining (line ++ b ∷ []) (xs ++ ys) ≡ remaining (remaining (line ++ b ∷ []) xs) ys
        → pick t (remaining [] (xs ++ ys)) (remaining (line ++ b ∷ []) (xs ++ ys)) ≡ remaining (pick t (remaining [] xs) (remaining (line ++ b ∷ []) xs)) ys
    go true next same = next
    go false next same = same

-- two rows of lines: the tables after both, and all that they print
pub after_both : (xs ys : List (List ℕ)) (t : Tables) → after_lines (xs ++ ys) t ≡ after_lines ys (after_lines xs t)
unfolding after_lines
after_both [] ys t = refl
after_both (line ∷ xs) ys t = after_both xs ys (served line t).tables

pub transcript_both : (xs ys : List (List ℕ)) (t : Tables) → transcript (xs ++ ys) t ≡ transcript xs t ++ transcript ys (after_lines xs t)
unfolding after_lines transcript
transcript_both [] ys t = refl
transcript_both (line ∷ xs) ys t =
    ap (λ bytes. (served line t).prints ++ newline ∷ bytes) (transcript_both xs ys (served line t).tables)
    ∙ sym (append_assoc (served line t).prints (newline ∷ transcript xs (served line t).tables) (transcript ys (after_lines xs (served line t).tables)))

-- a part is so many bytes from a place on
pub part_is : (piece : List ℕ) (from to : ℕ) → part piece from to ≡ take (to - from) (drop from piece)
unfolding part
part_is piece from to = refl

-- a piece's bytes up to a place, and from there on
pub part_both : (piece : List ℕ) (from middle to : ℕ) → from ≤ middle → middle ≤ to → part piece from to ≡ part piece from middle ++ part piece middle to
unfolding part
part_both piece from middle to h k =
    let all : to - from ≡ (middle - from) + (to - middle) = omega arith in
    let there : from + (middle - from) ≡ middle = omega arith in
    rw (all, take-add (middle - from) (to - middle) (drop from piece), drop-drop (middle - from) from piece, there)

-- from a place up to itself there is nothing
pub part-nothing : (piece : List ℕ) (from : ℕ) → part piece from from ≡ []
unfolding part
part-nothing piece from = let e : from - from ≡ 0 = omega arith in rw e

-- from the start on
pub part_start : (piece : List ℕ) (to : ℕ) → part piece 0 to ≡ take to piece
unfolding part
part_start piece to = let e : to - 0 ≡ to = omega arith in rw e

-- ---- one line at a time

-- where a byte stands first: here, or behind the first byte
shifted : (i n : ℕ) (p q : ℕ → Bool) → ((k : ℕ) → q k ≡ p (suc k)) → lowest_from (suc i) n p ≡ suc (lowest_from i n q)
unfolding lowest_from
shifted i zero p q e = refl
shifted i (suc n) p q e = rw (e i, shifted (suc i) n p q e) (go (p (suc i)))
  where
    go : (t : Bool) → pick t (suc i) (suc (lowest_from (suc i) n q)) ≡ suc (pick t i (lowest_from (suc i) n q))
    go true = refl
    go false = refl

first-cons : (b x : ℕ) (xs : List ℕ) → first_of b (x ∷ xs) ≡ pick (eqb x b) 0 (suc (first_of b xs))
unfolding first_of lowest lowest_from one
first-cons b x xs = ap (λ z. pick (eqb x b) 0 z) (shifted 0 (length xs) _ _ (λ k. refl))

-- a row of bytes with a newline: the line ends there
pub line_ends : (bytes line : List ℕ) → first_of newline bytes < length bytes
    → completed line (take (first_of newline bytes + 1) bytes) ≡ (line ++ first_line bytes) ∷ []
unfolding completed first_line
line_ends [] line h = absurd (omega arith)
line_ends (b ∷ bytes) line h =
    ⊎_elim
    (λ (t : eqb b newline ≡ true).
    let f : first_of newline (b ∷ bytes) ≡ 0 = first-cons newline b bytes ∙ rw t in
    rw (f, t) (ap (λ l. l ∷ []) (sym (append-nil line))))
    (λ (t : eqb b newline ≡ false).
    let f : first_of newline (b ∷ bytes) ≡ suc (first_of newline bytes) = first-cons newline b bytes ∙ rw t in
    let g : first_of newline bytes < length bytes = omega arith in
    rw (f, add-one (suc (first_of newline bytes)), t)
    (rw (add-one (first_of newline bytes), append_assoc line (b ∷ []) (take (first_of newline bytes) bytes)) at (line_ends bytes (line ++ b ∷ []) g)))
    (tested (eqb b newline))

-- and nothing is left behind it
pub line_ended : (bytes line : List ℕ) → first_of newline bytes < length bytes → remaining line (take (first_of newline bytes + 1) bytes) ≡ []
unfolding remaining
line_ended [] line h = absurd (omega arith)
line_ended (b ∷ bytes) line h =
    ⊎_elim
    (λ (t : eqb b newline ≡ true).
    let f : first_of newline (b ∷ bytes) ≡ 0 = first-cons newline b bytes ∙ rw t in
    rw (f, t))
    (λ (t : eqb b newline ≡ false).
    let f : first_of newline (b ∷ bytes) ≡ suc (first_of newline bytes) = first-cons newline b bytes ∙ rw t in
    let g : first_of newline bytes < length bytes = omega arith in
    rw (f, add-one (suc (first_of newline bytes)), t) (rw (add-one (first_of newline bytes)) at (line_ended bytes (line ++ b ∷ []) g)))
    (tested (eqb b newline))

-- a row of bytes without one: no line ends, and the line so far grows by all of it
module _ (b : ℕ) (bytes : List ℕ) (h : length (b ∷ bytes) ≤ first_of newline (b ∷ bytes)) where
  no_newline : eqb b newline ≡ false
  no_newline =
      ⊎_elim
      (λ (t : eqb b newline ≡ true).
      let f : first_of newline (b ∷ bytes) ≡ 0 = first-cons newline b bytes ∙ rw t in
      absurd (omega arith))
      (λ (t : eqb b newline ≡ false). t)
      (tested (eqb b newline))

  none_behind : length bytes ≤ first_of newline bytes
  none_behind =
      let t = no_newline in
      let f : first_of newline (b ∷ bytes) ≡ suc (first_of newline bytes) = first-cons newline b bytes ∙ rw t in
      omega arith

pub line_goes_on : (bytes line : List ℕ) → length bytes ≤ first_of newline bytes → completed line bytes ≡ []
unfolding completed
line_goes_on [] line h = refl
line_goes_on (b ∷ bytes) line h = rw (no_newline b bytes h) (line_goes_on bytes (line ++ b ∷ []) (none_behind b bytes h))

pub line_grows : (bytes line : List ℕ) → length bytes ≤ first_of newline bytes → remaining line bytes ≡ line ++ bytes
unfolding remaining
line_grows [] line h = sym (append-nil line)
line_grows (b ∷ bytes) line h =
    rw (no_newline b bytes h) (line_grows bytes (line ++ b ∷ []) (none_behind b bytes h) ∙ append_assoc line (b ∷ []) bytes)
