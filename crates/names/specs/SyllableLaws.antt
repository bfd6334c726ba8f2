-- A name walked from the left: where its syllables are, and what the walk says of the whole.
use Rattle.std.specs.Prelude.{ℕ, zero, suc, ◌+◌, ◌-◌, ◌≤◌, ◌<◌, ◌≡◌, refl, List, [], ◌∷◌, Bool, true, false, length, take, drop, get_or}
use Rattle.std.proofs.Common.{ap, subst, ◌∙◌, ⊎_elim, add-one, arith, length-take, length-drop, get_or-take, get_or-drop, lt-ltb, le-ltb}
use Rattle.records.specs.Rows.{pick, lowest_from}
use Rattle.records.specs.Numbers.{one}
use Rattle.records.specs.RowLaws.{from_found}
use Rattle.records.specs.Tests.{lt_or_ge}
use Rattle.records.specs.ListLaws.{drop_none, drop-one}
use Rattle.meaning.specs.Name.{is_syllable, before, split}
use Rattle.paths.specs.Taking.{is_slash, syllable_end}
use Rattle.paths.specs.TakingLaws.{ends}
use Rattle.names.specs.Syllables.{part, rest_from, syllables_from, Reaches}

-- ---- parts

module _ (bytes : List ℕ) (from to : ℕ) where
  pub length_part : from ≤ to → to ≤ length bytes → length (part bytes from to) ≡ to - from
  unfolding part
  length_part l h = rw (length-take, length-drop) (omega arith)

  pub one-part : (i : ℕ) → i < to - from → one (part bytes from to) i ≡ one bytes (from + i)
  unfolding part one
  one-part i h = rw (get_or-take, get_or-drop)

-- ---- where a syllable ends

module _ (bytes : List ℕ) (at : ℕ) where
  pub end_low : at ≤ syllable_end bytes at
  end_low = (ends bytes at).low

  pub end-within : at ≤ length bytes → syllable_end bytes at ≤ length bytes
  end-within h = omega (arith, (ends bytes at).high)

-- ---- what stands between the slashes, from a place on

-- the walk of n bytes to the end of the name
split-walk : (n : ℕ) (bytes : List ℕ) (at : ℕ) → at + n ≡ length bytes →
    split (drop at bytes) ≡ part bytes at (lowest_from at n (is_slash bytes)) ∷ rest_from bytes (lowest_from at n (is_slash bytes))
unfolding split before part rest_from lowest_from
split-walk zero bytes at e =
    let z : at - at ≡ 0 = omega arith in
    rw (drop_none bytes at (omega arith), z, le-ltb at (length bytes) (omega arith))
split-walk (suc n) bytes at e = go (is_slash bytes at) refl (split-walk n bytes (suc at) (omega arith))
  where
    end : ℕ
    end = lowest_from (suc at) n (is_slash bytes)

    here : drop at bytes ≡ one bytes at ∷ drop (suc at) bytes
    here = drop-one bytes at (omega arith)

    go : (t : Bool) → is_slash bytes at ≡ t →
        split (drop (suc at) bytes) ≡ part bytes (suc at) end ∷ rest_from bytes end →
        split (drop at bytes) ≡ part bytes at (pick t at end) ∷ rest_from bytes (pick t at end)
    go true s later =
        let z : at - at ≡ 0 = omega arith in
        rw (here, s, z, lt-ltb at (length bytes) (omega arith), add-one)
    go false s later =
        let low : suc at ≤ end = (from_found (suc at) n (is_slash bytes)).low in
        let z : end - at ≡ suc (end - suc at) = omega arith in
        rw (here, s, later, z)

module _ (bytes : List ℕ) (at : ℕ) where
  -- the piece up to the syllable's end, and what follows
  pub split_from : at ≤ length bytes → split (drop at bytes) ≡ part bytes at (syllable_end bytes at) ∷ rest_from bytes (syllable_end bytes at)
  unfolding syllable_end
  split_from h = split-walk (length bytes - at) bytes at (omega arith)

  pub rest-slash : at < length bytes → rest_from bytes at ≡ split (drop (at + 1) bytes)
  unfolding rest_from
  rest-slash h = rw (lt-ltb at (length bytes) h)

  pub rest_end : length bytes ≤ at → rest_from bytes at ≡ []
  unfolding rest_from
  rest_end h = rw (le-ltb at (length bytes) h)

-- there is always a piece
pub split_some : (bytes : List ℕ) → 0 < length (split bytes)
split_some bytes = omega (arith, ap length (split_from bytes 0 (omega arith)))

-- where more pieces follow, the syllable ends at a slash
module _ (bytes : List ℕ) (at : ℕ) (inside : at ≤ length bytes) (k : ℕ) (more : suc (suc k) ≤ length (split (drop at bytes))) where
  pub ends_at-slash : syllable_end bytes at < length bytes
  ends_at-slash =
      ⊎_elim
      (λ h. h)
      (λ (h : length bytes ≤ syllable_end bytes at).
      let m : suc (suc k) ≤ 1 = rw (split_from bytes at inside, rest_end bytes (syllable_end bytes at) h) at more in
      absurd (omega arith))
      (lt_or_ge (syllable_end bytes at) (length bytes))

  pub split-next : split (drop at bytes) ≡ part bytes at (syllable_end bytes at) ∷ split (drop (syllable_end bytes at + 1) bytes)
  split-next = split_from bytes at inside ∙ ap (λ l. part bytes at (syllable_end bytes at) ∷ l) (rest-slash bytes (syllable_end bytes at) ends_at-slash)

  pub more_left : suc k ≤ length (split (drop (syllable_end bytes at + 1) bytes))
  more_left = omega (arith, ap length split-next)

-- ---- the row of syllables from a place on

pub row_is : (k : ℕ) (bytes : List ℕ) (at : ℕ) → at ≤ length bytes → k ≤ length (split (drop at bytes)) →
    syllables_from bytes at k ≡ take k (split (drop at bytes))
unfolding syllables_from
row_is zero bytes at inside h = refl
row_is (suc zero) bytes at inside h = rw (split_from bytes at inside)
row_is (suc (suc k)) bytes at inside h =
    let e = syllable_end bytes at in
    let s : e < length bytes = ends_at-slash bytes at inside k h in
    let r : syllables_from bytes (e + 1) (suc k) ≡ take (suc k) (split (drop (e + 1) bytes)) =
    row_is (suc k) bytes (e + 1) (omega arith) (more_left bytes at inside k h) in
    rw (split-next bytes at inside k h) (ap (λ l. part bytes at e ∷ l) r)

pub reach_is : (k : ℕ) (bytes : List ℕ) (at : ℕ) → at ≤ length bytes → k ≤ length (split (drop at bytes)) →
    ((i : ℕ) → i < length (split (drop at bytes)) → is_syllable (get_or (split (drop at bytes)) i []) ≡ true) → Reaches bytes at k
unfolding Reaches
reach_is zero bytes at inside h each = tt
reach_is (suc zero) bytes at inside h each = (inside, rw (split_from bytes at inside) at (each 0 h), tt)
reach_is (suc (suc k)) bytes at inside h each =
    let e = syllable_end bytes at in
    let s : e < length bytes = ends_at-slash bytes at inside k h in
    let m = more_left bytes at inside k h in
    let next = split-next bytes at inside k h in
    let behind : (i : ℕ) → i < length (split (drop (e + 1) bytes)) → is_syllable (get_or (split (drop (e + 1) bytes)) i []) ≡ true =
    λ i (b : i < length (split (drop (e + 1) bytes))). rw next at (each (suc i) (rw next (omega arith))) in
    let first : is_syllable (part bytes at e) ≡ true = rw next at (each 0 (rw next (omega arith))) in
    (inside, first, reach_is (suc k) bytes (e + 1) (omega arith) m behind)

-- a step of a walk that has n syllables left
module _ (bytes : List ℕ) (at n : ℕ) (left : 0 < n) where
  one_left : n ≡ suc (n - 1)
  one_left = omega arith

  pub row_next : syllables_from bytes at n ≡ part bytes at (syllable_end bytes at) ∷ syllables_from bytes (syllable_end bytes at + 1) (n - 1)
  row_next = ap (syllables_from bytes at) one_left ∙ (unfold syllables_from in refl)

  module _ (reaches : Reaches bytes at n) where
    step : Reaches bytes at (suc (n - 1))
    step = subst (Reaches bytes at) one_left reaches

    pub reach_inside : at ≤ length bytes
    unfolding Reaches
    reach_inside = step.0

    pub reach_next : Reaches bytes (syllable_end bytes at + 1) (n - 1)
    unfolding Reaches
    reach_next = step.2
