-- What a reader takes ends where the syllable ends, and what is left starts behind that.
use Rattle.std.specs.Prelude.{ℕ, ◌+◌, ◌-◌, ◌≤◌, ◌<◌, ◌≡◌, List, Some, None, position, eqb, take, drop}
use Rattle.std.specs.List.{position_or_len}
use Rattle.std.proofs.Common.{⊎_elim, sym, tests, lt-ltb, le-ltb, length-take, length-drop, get_or-take, get_or-drop}
use Rattle.std.proofs.lemmas.Option.{cond_some}
use Rattle.std.proofs.lemmas.List.Sums.{position_or_len_is}
use native.Mathlib.Omega.{arith}
use Rattle.std.proofs.Math.ListN.{length}
use Rattle.records.specs.Rows.{lowest_from}
use Rattle.records.specs.Numbers.{one}
use Rattle.records.specs.RowLaws.{Found, from_found}
use Rattle.records.specs.Tests.{lt_or_ge}
use Rattle.meaning.specs.Name.{slash}
use Rattle.paths.specs.Taking.{is_slash, syllable_end, taken_at, end_taken, behind}

module _ (name : List ℕ) (at : ℕ) where
  -- a syllable ends at the first slash, or where the name does
  pub ends : Found at (length name - at) (is_slash name) (syllable_end name at)
  unfolding syllable_end
  ends = from_found at (length name - at) (is_slash name)

  -- the name from the place on, as a slice of it
  abbrev pub tail : List ℕ
  tail = take (length name - at) (drop at name)

  module _ (inside : at ≤ length name) where
    length-tail : length tail ≡ length name - at
    length-tail = rw (length-take, length-drop) (omega arith)

    first_slash : position_or_len (λ b. eqb b slash) tail ≡ syllable_end name at - at
    unfolding one
    first_slash =
        let e = ends in
        position_or_len_is (λ b. eqb b slash) tail (syllable_end name at - at) 0
        (omega (arith, e.high, length-tail))
        (λ k (h : k < syllable_end name at - at).
        let l : k < length name - at = omega (arith, e.high) in
        rw (get_or-take, get_or-drop) (e.misses (at + k) (omega arith) (omega arith)))
        (λ h.
        let l : syllable_end name at - at < length name - at = omega (arith, length-tail) in
        let back : at + (syllable_end name at - at) ≡ syllable_end name at = omega (arith, e.low) in
        rw (get_or-take, get_or-drop, back) (e.hit (omega arith)))

    pub slash_found : (k : ℕ) → Some k ≡ position (λ b. eqb b slash) tail → at + k ≡ syllable_end name at
    slash_found k e = omega (arith, first_slash, (cond_some _ _ _ (sym e)).1, ends.low)

    pub slash_none : None ≡ position (λ b. eqb b slash) tail → length name ≡ syllable_end name at
    slash_none e =
        let f : length tail ≤ position_or_len (λ b. eqb b slash) tail = grind (arith, tests) in
        omega (arith, first_slash, length-tail, ends.low, ends.high)

  -- at the end of the name a syllable would end where it starts
  none_ends : length name ≤ at → at ≡ syllable_end name at
  unfolding syllable_end lowest_from
  none_ends h =
      let z : length name - at ≡ 0 = omega arith in
      rw z

  pub end-taken : end_taken (taken_at name at) at ≡ syllable_end name at
  end-taken = ⊎_elim (λ h. rw (lt-ltb at (length name) h)) (λ h. rw (le-ltb at (length name) h) (none_ends h)) (lt_or_ge at (length name))

  pub behind-slash : at < length name → behind name at ≡ at + 1
  behind-slash h = rw (lt-ltb at (length name) h)
