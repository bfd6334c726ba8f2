-- Which report a row of refusals gives: the first whose cause holds.
use Rattle.std.specs.Prelude.{◌≡◌, ◌≢◌, ◌⊎◌, ◌↔◌, List, Bool, ℕ, eqb}
use Rattle.std.proofs.Math.Path.{refl, ap}
use Rattle.std.proofs.Common.{sym, true≢false}
use Rattle.std.proofs.Math.Logic.{inl, inr, ⊎_elim}
use Rattle.std.proofs.Math.Bool.{true, false}
use Rattle.std.proofs.Math.Option.{Option, some}
use Rattle.std.proofs.lemmas.Bool.{eqb-false}
use Rattle.meaning.specs.Store.{Store, Change}
use Rattle.meaning.specs.Result.{Result, refused, done, unless, with_syllables, if_fits}
use Rattle.meaning.specs.Run.{number_of}
use Rattle.meaning.specs.declared.Report.{Report}
use Rattle.meaning.specs.declared.Report.TheVariants.{Ok, TooBig, NoRoom}
use Rattle.source.specs.ErrorStatements.{report_of}

-- two reports with different numbers
pub other_report : (a b : Report) → eqb (number_of a) (number_of b) ≡ false → a ≢ b
other_report a b d e = eqb-false (number_of a) (number_of b) d (ap number_of e)

module _ (why : Report) where
  -- a report that a call never gives
  abbrev pub Never : Result → Type 0
  Never r = report_of r ≢ why

  pub never_done : Ok ≢ why → (numbers bytes : List ℕ) (changes : List Change) → Never (done numbers bytes changes)
  unfolding report_of
  never_done n numbers bytes changes = n

  pub never_unless : (t : Bool) (other : Report) (r : Result) → other ≢ why → Never r → Never (unless t other r)
  unfolding unless report_of
  never_unless true other r n h = n
  never_unless false other r n h = h

  pub never_fits : (s : Store) (old new : ℕ) (r : Result) → TooBig ≢ why → NoRoom ≢ why → Never r → Never (if_fits s old new r)
  unfolding if_fits
  never_fits s old new r big room h = never_unless _ TooBig _ big (never_unless _ NoRoom r room h)

  -- its cause comes first
  pub reported-first : (t : Bool) (r : Result) → Never r → (report_of (unless t why r) ≡ why) ↔ (t ≡ true)
  unfolding unless report_of
  reported-first true r n = (λ e. refl, λ e. refl)
  reported-first false r n = (λ e. absurd (n e), λ e. absurd (true≢false (sym e)))

  -- another comes before
  pub reported_later : (t : Bool) (other : Report) (r : Result) → other ≢ why → (report_of (unless t other r) ≡ why) ↔ ((t ≡ false) × (report_of r ≡ why))
  unfolding unless report_of
  reported_later true other r n = (λ e. absurd (n e), λ h. absurd (true≢false h.0))
  reported_later false other r n = (λ e. (refl, e), λ h. h.1)

  -- it comes first, and may come later
  pub reported_twice : (t : Bool) (r : Result) → (report_of (unless t why r) ≡ why) ↔ ((t ≡ true) ⊎ ((t ≡ false) × (report_of r ≡ why)))
  unfolding unless report_of
  reported_twice true r = (λ e. inl refl, λ h. refl)
  reported_twice false r = (λ e. inr (refl, e), λ h. ⊎_elim (λ e. absurd (true≢false (sym e))) (λ h. h.1) h)

  -- past BadName
  pub reported-named : (A : Type 0) (name : List (List ℕ)) (bytes : Option (List (List ℕ))) (r : List (List ℕ) → Result) → bytes ≡ some name
      → (report_of (r name) ≡ why) ↔ A → (report_of (with_syllables bytes r) ≡ why) ↔ A
  unfolding with_syllables
  reported-named A name bytes r e h = rw e h

  -- a report that is not Ok is a refusal's
  pub report_refused : Ok ≢ why → (r : Result) → report_of r ≡ why → r ≡ refused why
  unfolding report_of
  report_refused n (refused other) e = ap refused e
  report_refused n (done numbers bytes changes) e = absurd (n e)

  pub refused_report : (r : Result) → r ≡ refused why → report_of r ≡ why
  unfolding report_of
  refused_report r e = ap report_of e

-- ---- a part of a fact, in other words

pub in_second : {A B C : Type 0} → B ↔ C → (A × B) ↔ (A × C)
in_second f = (λ h. (h.0, f.0 h.1), λ h. (h.0, f.1 h.1))

pub both_parts : {A B C D : Type 0} → A ↔ B → C ↔ D → (A × C) ↔ (B × D)
both_parts f g = (λ h. (f.0 h.0, g.0 h.1), λ h. (f.1 h.0, g.1 h.1))

pub in_right : {A B C D : Type 0} → C ↔ D → (A ⊎ (B × C)) ↔ (A ⊎ (B × D))
in_right f = (λ h. ⊎_elim (λ a. inl a) (λ b. inr (b.0, f.0 b.1)) h, λ h. ⊎_elim (λ a. inl a) (λ b. inr (b.0, f.1 b.1)) h)
