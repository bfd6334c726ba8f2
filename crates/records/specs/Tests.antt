-- Tests: what a test that passed or failed gives, and cases on numbers.
use Rattle.std.specs.Prelude.{ℕ, ◌≤◌, ◌<◌, ◌≡◌, refl, ◌≢◌, ◌⊎◌, List, [], ◌∷◌, Bool, true, false, ◌&&◌, ◌||◌, leb, ltb, eqb}
use Rattle.std.proofs.Common.{sym, inl, inr, ⊎_elim, true≢false, eqb-true, leb-true, leb-false, le-leb, lt-ltb, le-ltb}
use Rattle.std.proofs.lemmas.Bool.{eqb-false, lt-leb}
use Rattle.records.specs.Rows.{all_of, agree}

-- a test passes or fails
pub tested : (t : Bool) → (t ≡ true) ⊎ (t ≡ false)
tested true = inl refl
tested false = inr refl

-- a test that does not pass fails
pub not_so : (t : Bool) → t ≢ true → t ≡ false
not_so true h = absurd (h refl)
not_so false h = refl

-- two tests that pass together are equal
pub both_ways : (s t : Bool) → (s ≡ true → t ≡ true) → (t ≡ true → s ≡ true) → s ≡ t
both_ways true t f g = sym (f refl)
both_ways false t f g = sym (not_so t (λ e. true≢false (sym (g e))))

pub and_left : (s t : Bool) → s && t ≡ true → s ≡ true
and_left true t e = refl
and_left false t e = e

pub and_right : (s t : Bool) → s && t ≡ true → t ≡ true
and_right true t e = e
and_right false t e = absurd (true≢false (sym e))

pub both : (s t : Bool) → s && t ≡ true → (s ≡ true) × (t ≡ true)
both s t e = (and_left s t e, and_right s t e)

pub and_both : (s t : Bool) → s ≡ true → t ≡ true → s && t ≡ true
and_both s t e h = rw (e, h)

-- one of two tests passes
pub either : (s t : Bool) → s || t ≡ true → (s ≡ true) ⊎ (t ≡ true)
either true t e = inl refl
either false t e = inr e

pub or_left : (s t : Bool) → s ≡ true → s || t ≡ true
or_left s t e = rw e

pub or_right : (s t : Bool) → t ≡ true → s || t ≡ true
or_right true t e = refl
or_right false t e = e

pub and_false : (s : Bool) → s && false ≡ false
and_false true = refl
and_false false = refl

pub same_or_not : (a b : ℕ) → (a ≡ b) ⊎ (a ≢ b)
same_or_not a b = ⊎_elim (λ e. inl (eqb-true a b e)) (λ e. inr (eqb-false a b e)) (tested (eqb a b))

pub le_or_gt : (a b : ℕ) → (a ≤ b) ⊎ (b < a)
le_or_gt a b = ⊎_elim (λ e. inl (leb-true a b e)) (λ e. inr (leb-false a b e)) (tested (leb a b))

pub lt_or_ge : (a b : ℕ) → (a < b) ⊎ (b ≤ a)
lt_or_ge a b = ⊎_elim (λ l. inr l) (λ l. inl l) (le_or_gt b a)

-- j is from i up to, not including, m; or it is not
pub between_in : (i j m : ℕ) → i ≤ j → j < m → leb i j && ltb j m ≡ true
between_in i j m l h = rw (le-leb i j l, lt-ltb j m h)

pub between-out : (i j m : ℕ) → (j < i) ⊎ (m ≤ j) → leb i j && ltb j m ≡ false
between-out i j m h =
    ⊎_elim (λ (l : j < i). rw (lt-leb i j l)) (λ (l : m ≤ j). rw (le-ltb j m l) (and_false (leb i j))) h

-- a row of rules holds exactly where each of them does
abbrev pub AllTrue : List Bool → Type 0
AllTrue [] = Unit
AllTrue (rule ∷ rules) = (rule ≡ true) × AllTrue rules

pub all_of-true : (rules : List Bool) → all_of rules ≡ true → AllTrue rules
unfolding all_of
all_of-true [] e = tt
all_of-true (rule ∷ rules) e = (and_left rule (all_of rules) e, all_of-true rules (and_right rule (all_of rules) e))

pub true-all_of : (rules : List Bool) → AllTrue rules → all_of rules ≡ true
unfolding all_of
true-all_of [] h = refl
true-all_of (rule ∷ rules) h = and_both rule (all_of rules) h.0 (true-all_of rules h.1)

-- two tests agree exactly where they are equal
pub agree_same : (s t : Bool) → agree s t ≡ true → s ≡ t
agree_same true t e = sym e
agree_same false true e = e
agree_same false false e = refl

pub same-agree : (s t : Bool) → s ≡ t → agree s t ≡ true
same-agree true t e = sym e
same-agree false t e = rw (← e)
