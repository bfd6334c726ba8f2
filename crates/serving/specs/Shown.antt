-- Calls that fill a lent buffer: the bytes that they give are the buffer's first, as many as the answer counts.
use Rattle.std.specs.Prelude.{ℕ, ◌*◌, ◌≤◌, ◌≡◌, refl, Bool, true, false, take, drop, Result as Answers, Ok, Err}
use Rattle.std.proofs.Math.Path.{sym, ap}
use Rattle.std.proofs.Common.{◌∙◌, arith}
use mathlib.Core.List.{List, [], ◌∷◌}
use Rattle.std.proofs.Math.ListN.{length, length-append, length-drop}
use Rattle.std.proofs.Math.Seq.{take_at}
use Rattle.std.specs.Result.{result_unwrap_or}
use Rattle.meaning.specs.File.{over}
use Rattle.meaning.specs.Tables.{Tables}
use Rattle.meaning.specs.Result.{Result, refused, done, unless}
use Rattle.meaning.specs.Run.{Call, width, accepted, Promise, result_of, answer_of, bytes_of}
use Rattle.meaning.specs.Answers.{counted}
use Rattle.meaning.proofs.AnswerLaws.{never_accepted}
use Rattle.meaning.specs.declared.Report.{Report}
use Rattle.text.specs.Print.{printed}
use Rattle.text.specs.PrintedLaws.{printed-refusal}

-- one number, which counts bytes by so many, and no more of them than are lent
pub record Counts (width size : ℕ) (ns bytes : List ℕ) : Type 0 where
  pub n : ℕ
  pub one : ns ≡ n ∷ []
  pub each : length bytes ≡ width * n
  pub fits : length bytes ≤ size

abbrev pub Sized : ℕ → ℕ → Result → Type 0
Sized width size (refused why) = Unit
Sized width size (done ns bytes changes) = Counts width size ns bytes

pub sized_unless : (width size : ℕ) (t : Bool) (why : Report) (r : Result) → (t ≡ false → Sized width size r) → Sized width size (unless t why r)
unfolding unless
sized_unless width size true why r h = tt
sized_unless width size false why r h = h refl

-- what is printed of the buffer
pub record Shows (answer : Answers ℕ Report) (n : ℕ) (buffer buffer' bytes : List ℕ) : Type 0 where
  pub within : n ≤ length buffer
  pub same_size : length buffer' ≡ length buffer
  pub same : printed (counted answer) (take n buffer') ≡ printed (counted answer) bytes

one_number : (m k : ℕ) (ns : List ℕ) → accepted (m ∷ []) ≡ accepted ns → ns ≡ k ∷ [] → m ≡ k
one_number m k ns e f = cc

module _ (width : ℕ) (buffer buffer' : List ℕ) (n : ℕ) where
  shows_of : (answer : Answers ℕ Report) (r : Result) → n ≡ width * result_unwrap_or answer 0 → Sized width (length buffer) r → counted answer ≡ answer_of 1 r → buffer' ≡ over buffer (bytes_of r)
      → Shows answer n buffer buffer' (bytes_of r)
  unfolding answer_of bytes_of
  shows_of (Err y) (refused why) e z a b = record { within = omega arith; same_size = ap length b; same = printed-refusal 1 y (take n buffer') ∙ sym (printed-refusal 1 y []) }
  shows_of (Err y) (done ns bytes changes) e z a b = absurd (never_accepted 1 z.n [] y (sym (a ∙ ap accepted z.one)))
  shows_of (Ok m) (refused why) e z a b = absurd (never_accepted 1 m [] why a)
  shows_of (Ok m) (done ns bytes changes) e z a b =
      let k : m ≡ z.n = one_number m z.n ns a z.one in
      let l : length bytes ≡ n = z.each ∙ ap (λ (x : ℕ). width * x) (sym k) ∙ sym e in
      record {
        within = omega (arith, z.fits);
        same_size = ap length b ∙ length-append bytes (drop (length bytes) buffer) ∙ (let d = length-drop (length bytes) buffer in omega (arith, z.fits));
        same = ap (printed (accepted (m ∷ []))) (ap (take n) b ∙ take_at bytes (drop (length bytes) buffer) n l);
      }

module _ (call : Call) (t : Tables) (buffer : List ℕ) (answer : Answers ℕ Report) (buffer' : List ℕ) (t' : Tables)
    (p : Promise call t buffer (record { answer = counted answer; buffer = buffer'; tables = t' })) where
  pub shows : width call ≡ 1 → (size n : ℕ) → n ≡ size * result_unwrap_or answer 0 → Sized size (length buffer) (result_of call t) → Shows answer n buffer buffer' (bytes_of (result_of call t))
  shows one size n e z = shows_of size buffer buffer' n answer (result_of call t) e z (rw one at p.answers) p.fills
