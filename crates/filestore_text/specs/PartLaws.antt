-- Parts served one behind another.
use Rattle.std.specs.Prelude.{ℕ, ◌+◌, ◌≡◌, refl, List, [], ◌∷◌, ◌++◌, None, Some, take}
use Rattle.std.proofs.Common.{sym, ap, ◌∙◌, subst, append-nil, append_assoc}
use Rattle.meaning.specs.Tables.{Tables}
use Rattle.text.specs.Line.{asked}
use Rattle.text.specs.Print.{transcript, served, served_as, newline}
use Rattle.text.specs.Program.{completed, remaining, after_lines}
use Rattle.text.specs.Commands.{first_of, behind}
use Rattle.text.specs.Gathering.{Pends, first_line}
use Rattle.text.specs.GatheringLaws.{ends_within, rest_behind, rest-shorter, all_first, completes_none, grows}
use Rattle.text.specs.Cuts.{completed_both, remaining_both, after_both, transcript_both, line_ends, line_ended}
use Rattle.text.specs.LaysLaws.{laid_up_to}
use Rattle.text.specs.declared.lines.Pending.{Pending}
use Rattle.serving.specs.Serves.{Serves, ServesLine}
use Rattle.filestore_text.specs.Parts.{ServesPart, Hands, Steps}

-- ---- no line, and one line

pub no_lines : (t : Tables) → after_lines [] t ≡ t
unfolding after_lines
no_lines t = refl

pub no_output : (t : Tables) → transcript [] t ≡ []
unfolding transcript
no_output t = refl

module _ (line : List ℕ) (t : Tables) where
  pub one_line : after_lines (line ∷ []) t ≡ (served_as (asked line) t).tables
  unfolding after_lines served
  one_line = refl

  pub one_output : transcript (line ∷ []) t ≡ (served_as (asked line) t).prints ++ newline ∷ []
  unfolding transcript served
  one_output = refl

-- ---- parts

pub part_none : (p : Pending) (t : Tables) (printed : List ℕ) → ServesPart [] p t printed p t printed
unfolding completed remaining after_lines transcript
part_none p t printed =
    record { pends = λ line h. h; leaves = λ line h. refl; prints = λ line h. sym (append-nil printed) }

module _ (xs ys : List ℕ) (p : Pending) (t : Tables) (printed : List ℕ) (p₁ : Pending) (t₁ : Tables) (printed₁ : List ℕ)
    (p₂ : Pending) (t₂ : Tables) (printed₂ : List ℕ)
    (first : ServesPart xs p t printed p₁ t₁ printed₁) (second : ServesPart ys p₁ t₁ printed₁ p₂ t₂ printed₂) where
  pub part-behind : ServesPart (xs ++ ys) p t printed p₂ t₂ printed₂
  part-behind =
      record {
        pends = λ line h. rw (remaining_both line xs ys) (second.pends (remaining line xs) (first.pends line h));
        leaves = λ line h.
            rw (completed_both line xs ys, after_both (completed line xs) (completed (remaining line xs) ys) t, ← first.leaves line h)
            (second.leaves (remaining line xs) (first.pends line h));
        prints = λ line h.
            let more : printed₂ ≡ printed₁ ++ transcript (completed (remaining line xs) ys) t₁ = second.prints (remaining line xs) (first.pends line h) in
            rw (completed_both line xs ys, transcript_both (completed line xs) (completed (remaining line xs) ys) t, ← first.leaves line h, more, first.prints line h)
            (append_assoc printed (transcript (completed line xs) t) (transcript (completed (remaining line xs) ys) t₁));
      }

-- what is printed stands behind any output
pub part_onto : (handed bytes : List ℕ) (p : Pending) (t : Tables) (out : List ℕ) (p' : Pending) (t' : Tables) (out' : List ℕ)
    → ServesPart bytes p t out p' t' out' → ServesPart bytes p t (handed ++ out) p' t' (handed ++ out')
part_onto handed bytes p t out p' t' out' s =
    record {
      pends = s.pends;
      leaves = s.leaves;
      prints = λ line h. ap (λ x. handed ++ x) (s.prints line h) ∙ sym (append_assoc handed out (transcript (completed line bytes) t));
    }

-- ---- what was handed to write

unfoldable pub hands_none : (p : Pending) (t : Tables) → Hands [] p t p t
hands_none p t = record { handed = []; serves = part_none p t [] }

module _ (xs ys : List ℕ) (p : Pending) (t : Tables) (p₁ : Pending) (t₁ : Tables) (p₂ : Pending) (t₂ : Tables)
    (first : Hands xs p t p₁ t₁) (second : Hands ys p₁ t₁ p₂ t₂) where
  unfoldable pub hands_behind : Hands (xs ++ ys) p t p₂ t₂
  hands_behind =
      record {
        handed = first.handed ++ second.handed;
        serves = part-behind xs ys p t [] p₁ t₁ first.handed p₂ t₂ (first.handed ++ second.handed) first.serves
            (subst (λ out. ServesPart ys p₁ t₁ out p₂ t₂ (first.handed ++ second.handed)) (append-nil first.handed)
            (part_onto first.handed ys p₁ t₁ [] p₂ t₂ second.handed second.serves));
      }

-- ---- the next line of a piece

module _ (piece : List ℕ) (p : Pending) (t : Tables) (out : List ℕ) (at : ℕ) (g : Pending)
    (appends : (before : List ℕ) → Pends before p → Pends (before ++ first_line piece) g) where
  -- the piece ends within the line
  pub part-open : behind newline piece ≡ None → Steps piece p t (take at out) g t (take at out) None
  part-open e =
      record {
        part = piece;
        all = sym (append-nil piece);
        serves = record {
          pends = λ line h. rw (grows piece e line) (rw (all_first piece e) at (appends line h));
          leaves = λ line h. rw (completes_none piece e line) (sym (no_lines t));
          prints = λ line h. rw (completes_none piece e line, no_output t) (sym (append-nil (take at out)));
        };
        moves = tt;
      }

  -- the line ends, and is served
  pub part_line : (rest : List ℕ) → behind newline piece ≡ Some rest → (p' : Pending) → Pends [] p' → (t' : Tables) (out' : List ℕ) (next : ℕ)
      → ServesLine g t out at t' out' next → Steps piece p t (take at out) p' t' (take next out') (Some rest)
  part_line rest e p' f t' out' next s =
      let within = ends_within piece rest e in
      let serves : (line : List ℕ) → Pends line p → Serves (asked (line ++ first_line piece)) t out at t' out' next = λ line h. s.serves (line ++ first_line piece) (appends line h) in
      record {
        part = take (first_of newline piece + 1) piece;
        all = rest_behind piece rest e;
        serves = record {
          pends = λ line h. rw (line_ended piece line within) f;
          leaves = λ line h. rw (line_ends piece line within, one_line (line ++ first_line piece) t) (serves line h).leaves;
          prints = λ line h. rw (line_ends piece line within, one_output (line ++ first_line piece) t) (laid_up_to _ _ _ _ _ (serves line h).lays);
        };
        moves = rest-shorter piece rest e;
      }
