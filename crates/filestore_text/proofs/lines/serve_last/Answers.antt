-- There is a line, which is served, or none.
use Rattle.std.proofs.Common.{ℕ, ◌≡◌, sym, List, [], ◌∷◌, Bool, true, false, append-nil, take}
use Rattle.records.specs.Rows.{pick}
use Rattle.meaning.specs.Tables.{Tables}
use Rattle.text.specs.Program.{unended}
use Rattle.text.specs.Gathering.{Pends}
use Rattle.text.specs.LaysLaws.{laid_up_to}
use Rattle.text.specs.declared.lines.Pending.{Pending}
use Rattle.serving.specs.Serves.{ServesLine}
use Rattle.filestore_text.specs.Parts.{PrintsLast}
use Rattle.filestore_text.specs.PartLaws.{no_lines, no_output, one_line, one_output}
use Rattle.filestore_text.proofs.lines.serve_last.Goals as goal

module _ (p : Pending) (has : Bool) (told : (bytes : List ℕ) → Pends bytes p → unended bytes ≡ pick has (bytes ∷ []) []) (t : Tables) (out : List ℕ) (at : ℕ) where
  no_line : has ≡ false → PrintsLast p t (take at out) t (take at out)
  no_line e =
      let none : (bytes : List ℕ) → Pends bytes p → unended bytes ≡ [] = λ bytes h. rw e at (told bytes h) in
      record {
        leaves = λ bytes h. rw (none bytes h) (sym (no_lines t));
        prints = λ bytes h. rw (none bytes h, no_output t) (sym (append-nil (take at out)));
      }

  last_line : has ≡ true → (t' : Tables) (out' : List ℕ) (next : ℕ) → ServesLine p t out at t' out' next → PrintsLast p t (take at out) t' (take next out')
  last_line e t' out' next s =
      let one : (bytes : List ℕ) → Pends bytes p → unended bytes ≡ bytes ∷ [] = λ bytes h. rw e at (told bytes h) in
      record {
        leaves = λ bytes h. rw (one bytes h, one_line bytes t) (s.serves bytes h).leaves;
        prints = λ bytes h. rw (one bytes h, one_output bytes t) (laid_up_to _ _ _ _ _ (s.serves bytes h).lays);
      }

pub returns-then-has : goal.returns-then-has
returns-then-has c = search last_line

pub returns-else-has : goal.returns-else-has
returns-else-has c = search no_line
