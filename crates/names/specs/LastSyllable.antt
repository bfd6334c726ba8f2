-- The last syllable of a name, and the syllables before it.
use Rattle.std.specs.Prelude.{ℕ, ◌+◌, ◌-◌, ◌≤◌, ◌<◌, ◌≡◌, ◌≢◌, List, ◌∷◌, true, false, get_or}
use Rattle.std.proofs.Math.Path.{ap}
use Rattle.std.proofs.Common.{sym, ◌∙◌, arith}
use Rattle.std.proofs.Math.Logic.{⊎_elim}
use Rattle.std.proofs.Math.Option.{some}
use Rattle.std.proofs.Math.ListN.{length, take, drop, length-drop}
use Rattle.std.proofs.Math.Seq.{take_all}
use borrow.Author.Tests.{eq-eqb, ne_eqb}
use Rattle.records.specs.Rows.{lowest}
use Rattle.records.specs.Numbers.{one}
use Rattle.records.specs.Tests.{lt_or_ge}
use Rattle.records.specs.RowLaws.{lowest_is}
use Rattle.meaning.specs.Name.{slash, split, syllables}
use Rattle.meaning.specs.Store.{front, last}
use Rattle.paths.specs.Taking.{is_slash, syllable_end}
use Rattle.paths.specs.TakingLaws.{ends}
use Rattle.names.specs.Syllables.{part, syllables_from, place_of, last_start}
use Rattle.names.specs.SyllableLaws.{end-within, split_from, split_some, rest-slash}
use Rattle.names.specs.ReadLaws.{Placed, at_place, read, syllable_is}

-- a place behind a slash, or the start, from which no slash follows
module _ (bytes : List ℕ) (at : ℕ) (within : at ≤ length bytes) where
  start_at : (0 < at → is_slash bytes (at - 1) ≡ true) → ((j : ℕ) → at ≤ j → j < length bytes → is_slash bytes j ≡ false) → last_start bytes ≡ at
  unfolding last_start
  start_at behind none =
      let size = length bytes in
      let is_last : lowest size (λ i. is_slash bytes (size - 1 - i)) ≡ size - at =
      lowest_is size (λ i. is_slash bytes (size - 1 - i)) (size - at) (omega arith)
      (λ i (h : i < size - at). none (size - 1 - i) (omega arith) (omega arith))
      (λ h. let z : size - 1 - (size - at) ≡ at - 1 = omega arith in rw z (behind (omega arith))) in
      omega arith

  pub start_is : (0 < at → is_slash bytes (at - 1) ≡ true) → syllable_end bytes at ≡ length bytes → last_start bytes ≡ at
  start_is behind no_more = start_at behind (λ j l h. (ends bytes at).misses j l (rw no_more h))

-- where the last slash is at k, and where there is none: the bytes as the code reads them
module _ (bytes : List ℕ) where
  pub last-behind : (k : ℕ) → k < length bytes → get_or bytes k 0 ≡ slash → ((j : ℕ) → k < j → j < length bytes → get_or bytes j 0 ≢ slash) → last_start bytes ≡ k + 1
  unfolding one
  last-behind k inside hit none =
      start_at bytes (k + 1) (omega arith) (λ h. let z : k + 1 - 1 ≡ k = omega arith in rw z (eq-eqb (get_or bytes k 0) slash hit))
      (λ j l h. ne_eqb (get_or bytes j 0) slash (none j (omega arith) h))

  pub last_whole : ((j : ℕ) → j < length bytes → get_or bytes j 0 ≢ slash) → last_start bytes ≡ 0
  unfolding one
  last_whole none = start_at bytes 0 (omega arith) (λ h. absurd (omega arith)) (λ j l h. ne_eqb (get_or bytes j 0) slash (none j h))

module _ (bytes : List ℕ) (name : List (List ℕ)) (is : syllables bytes ≡ some name) (some_left : 0 < length name) where
  final : ℕ
  final = place_of bytes (length name - 1)

  final-at : Placed bytes name (length name - 1)
  final-at = at_place bytes name is (length name - 1) (omega arith)

  -- it ends where the name ends
  final-end : syllable_end bytes final ≡ length bytes
  unfolding final
  final-end =
      let w = final-at.within in
      let e = syllable_end bytes final in
      let only : length (split (drop final bytes)) ≡ 1 = rw (final-at.rest, length-drop) (omega arith) in
      ⊎_elim
      (λ (h : e < length bytes).
      let two-pieces = ap length (split_from bytes final w ∙ ap (λ l. part bytes final e ∷ l) (rest-slash bytes e h)) in
      absurd (omega (arith, split_some (drop (e + 1) bytes))))
      (λ (h : length bytes ≤ e). omega (arith, end-within bytes final w))
      (lt_or_ge e (length bytes))

  pub last_start_lem : last_start bytes ≡ place_of bytes (length name - 1)
  unfolding final
  last_start_lem = start_is bytes final final-at.within (λ h. eq-eqb (one bytes (final - 1)) slash final-at.behind) final-end

  pub last_within : last_start bytes ≤ length bytes
  last_within = rw last_start_lem final-at.within

  pub last_is : last name ≡ drop (last_start bytes) bytes
  unfolding final part
  last_is =
      let w = final-at.within in
      let all : take (length bytes - final) (drop final bytes) ≡ drop final bytes = take_all (length bytes - final) (drop final bytes) (rw length-drop (omega arith)) in
      rw last_start_lem (syllable_is bytes name is (length name - 1) (omega arith) ∙ ap (λ e. part bytes final e) final-end ∙ all)

  -- the syllables before it are those of a walk that stops one earlier
  pub front_is : front name ≡ syllables_from bytes 1 (length name - 1)
  front_is = sym ((read bytes name is).row (length name - 1) (omega arith))
