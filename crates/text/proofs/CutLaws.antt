-- Laws of a row of bytes that is cut where a byte stands first.
use Rattle.std.proofs.Common.{ℕ, ◌+◌, ◌-◌, ◌≤◌, ◌<◌, ◌≡◌, refl, List, true, false, Bool, Some, None, eqb, ltb, length, length-drop, take, drop, arith, sym, ap, take_all, lt-ltb, le-ltb, ltb-true, ltb-false}
use Rattle.records.specs.Rows.{pick, found_below}
use Rattle.records.specs.RowLaws.{lowest-within}
use Rattle.records.specs.Numbers.{one}
use Rattle.text.specs.Line.{space, word_end}
use Rattle.text.specs.Commands.{first_of, behind}

pub first-within : (b : ℕ) (bytes : List ℕ) → first_of b bytes ≤ length bytes
unfolding first_of
first-within b bytes = lowest-within (length bytes) (λ i. eqb (one bytes i) b)

-- a word's end is where a space stands first
pub word_end_lem : (bytes : List ℕ) → first_of space bytes ≡ word_end bytes
unfolding first_of word_end
word_end_lem bytes = refl

-- found, and so within
pub found-some : (n i k : ℕ) → Some k ≡ found_below n i → (k ≡ i) × (i < n)
unfolding found_below
found-some n i k e = go (ltb i n) refl e
  where
    go : (t : Bool) → ltb i n ≡ t → Some k ≡ pick t (Some i) None → (k ≡ i) × (i < n)
    go true t f = (cc, ltb-true i n t)
    go false t f = absurd (cc)

-- or not there
pub found-none : (n i : ℕ) → None ≡ found_below n i → n ≤ i
unfolding found_below
found-none n i e = go (ltb i n) refl e
  where
    go : (t : Bool) → ltb i n ≡ t → None ≡ pick t (Some i) None → n ≤ i
    go true t f = absurd (cc)
    go false t f = ltb-false i n t

module _ (b : ℕ) (bytes : List ℕ) where
  module _ (i : ℕ) (e : Some i ≡ found_below (length bytes) (first_of b bytes)) where
    pub there : i < length bytes
    there = let f = found-some (length bytes) (first_of b bytes) i e in omega arith

    pub before-it : take i bytes ≡ take (first_of b bytes) bytes
    before-it = ap (λ n. take n bytes) (found-some (length bytes) (first_of b bytes) i e).0

    pub behind-it : Some (take (length bytes - (i + 1)) (drop (i + 1) bytes)) ≡ behind b bytes
    unfolding behind
    behind-it =
        let f = found-some (length bytes) (first_of b bytes) i e in
        rw (← f.0, lt-ltb i (length bytes) there, take_all (length bytes - (i + 1)) (drop (i + 1) bytes) (simp length-drop (omega arith)))

  module _ (e : None ≡ found_below (length bytes) (first_of b bytes)) where
    pub all-before : bytes ≡ take (first_of b bytes) bytes
    all-before = sym (take_all (first_of b bytes) bytes (found-none (length bytes) (first_of b bytes) e))

    pub nothing-behind : None ≡ behind b bytes
    unfolding behind
    nothing-behind = rw (le-ltb (first_of b bytes) (length bytes) (found-none (length bytes) (first_of b bytes) e))
