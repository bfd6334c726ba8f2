-- What a well-written name reads as: its row of syllables, and the place of each.
use Rattle.std.specs.Prelude.{ℕ, zero, suc, ◌+◌, ◌-◌, ◌≤◌, ◌<◌, ◌≡◌, List, [], ◌∷◌, Bool, true, false, ◌&&◌, leb, eqb, length, take, drop, get_or}
use Rattle.std.proofs.Math.Path.{refl}
use Rattle.std.proofs.Common.{ap, sym, ◌∙◌, arith, length-drop, drop-drop, drop-cons}
use Rattle.std.proofs.Math.Option.{none, some}
use borrow.Author.Tests.{leb-true, eqb-true}
use Rattle.records.specs.Rows.{pick, every}
use Rattle.records.specs.Numbers.{one}
use Rattle.records.specs.RowLaws.{every_all}
use Rattle.records.specs.Tests.{and_left, and_right}
use Rattle.meaning.specs.Name.{slash, most_syllables, is_syllable, split, are_syllables, syllables}
use Rattle.paths.specs.Taking.{is_slash, syllable_end}
use Rattle.paths.specs.TakingLaws.{ends}
use Rattle.names.specs.Syllables.{part, syllables_from, Reaches, place_of}
use Rattle.names.specs.SyllableLaws.{split_from, split_some, ends_at-slash, split-next, row_is, reach_is}

-- ---- what the definition says of a well-written name

-- a name with syllables: they are the pieces behind the first slash
pub record InPieces (bytes : List ℕ) (name : List (List ℕ)) : Type 0 where
  pub long : 1 < length bytes
  pub first : one bytes 0 ≡ slash
  pub pieces : split (drop 1 bytes) ≡ name
  pub few : length name ≤ most_syllables
  pub each : (i : ℕ) → i < length name → is_syllable (get_or name i []) ≡ true

picked : {A : Type 0} (t : Bool) (a b : A) → pick t (some a) none ≡ some b → (t ≡ true) × (a ≡ b)
picked true a b e = (refl, cc)
picked false a b e = let z : ◌≡◌ {A = ℕ} 0 1 = cc in absurd (omega arith)

module _ (name : List (List ℕ)) (are : are_syllables name ≡ true) where
  pub are_few : length name ≤ most_syllables
  unfolding are_syllables
  are_few = leb-true (length name) most_syllables (and_left (leb (length name) most_syllables) (every (length name) (λ i. is_syllable (get_or name i []))) are)

  pub are_each : (i : ℕ) → i < length name → is_syllable (get_or name i []) ≡ true
  unfolding are_syllables
  are_each =
      every_all (length name) (λ i. is_syllable (get_or name i []))
      (and_right (leb (length name) most_syllables) (every (length name) (λ i. is_syllable (get_or name i []))) are)

pub in_pieces : (bytes : List ℕ) (name : List (List ℕ)) → syllables bytes ≡ some name → (0 < length name) → InPieces bytes name
unfolding syllables one
in_pieces [] name e h = let z : ◌≡◌ {A = ℕ} 0 1 = cc in absurd (omega arith)
in_pieces (b ∷ []) name e h =
    let p = picked (eqb b slash) [] name e in
    absurd (omega (arith, ap length p.1))
in_pieces (b ∷ c ∷ rest) name e h =
    let s = split (c ∷ rest) in
    let p = picked (eqb b slash && are_syllables s) s name e in
    let are = and_right (eqb b slash) (are_syllables s) p.0 in
    let q = p.1 in
    record {
      long = omega arith;
      first = eqb-true b slash (and_left (eqb b slash) (are_syllables s) p.0);
      pieces = q;
      few = rw q at (are_few s are);
      each = rw q at (are_each s are);
    }

-- "/" alone has no syllable
pub root_is : (bytes : List ℕ) → syllables bytes ≡ some [] → bytes ≡ slash ∷ []
unfolding syllables
root_is [] e = let z : ◌≡◌ {A = ℕ} 0 1 = cc in absurd (omega arith)
root_is (b ∷ []) e = ap (λ x. x ∷ []) (eqb-true b slash (picked (eqb b slash) [] [] e).0)
root_is (b ∷ c ∷ rest) e =
    let s = split (c ∷ rest) in
    let p = picked (eqb b slash && are_syllables s) s [] e in
    absurd (omega (arith, ap length p.1, split_some (c ∷ rest)))

-- ---- the row of syllables, as a walk from the left meets it

-- the first k syllables of a name, and that each of them starts within it
pub record Read (bytes : List ℕ) (name : List (List ℕ)) : Type 0 where
  pub few : length name ≤ most_syllables
  pub each : (i : ℕ) → i < length name → is_syllable (get_or name i []) ≡ true
  pub row : (k : ℕ) → k ≤ length name → syllables_from bytes 1 k ≡ take k name
  pub reaches : (k : ℕ) → k ≤ length name → Reaches bytes 1 k

pub read : (bytes : List ℕ) (name : List (List ℕ)) → syllables bytes ≡ some name → Read bytes name
read bytes [] e =
    record {
      few = omega arith;
      each = λ i h. absurd (omega arith);
      row = λ k h. none_left k h;
      reaches = λ k h. none_reached k h;
    }
  where
    none_left : (k : ℕ) → k ≤ 0 → syllables_from bytes 1 k ≡ take k []
    none_left zero h = unfold syllables_from in refl
    none_left (suc k) h = absurd (omega arith)

    none_reached : (k : ℕ) → k ≤ 0 → Reaches bytes 1 k
    none_reached zero h = unfold Reaches in tt
    none_reached (suc k) h = absurd (omega arith)
read bytes (s ∷ ss) e =
    let w = in_pieces bytes (s ∷ ss) e (omega arith) in
    let inside : 1 ≤ length bytes = omega (arith, w.long) in
    let p = w.pieces in
    record {
      few = w.few;
      each = w.each;
      row = λ k h. row_is k bytes 1 inside (rw p h) ∙ ap (take k) p;
      reaches = λ k h. reach_is k bytes 1 inside (rw p h) (rw p w.each);
    }

-- ---- the place of each syllable

-- syllable k starts behind a slash, and what stands between the slashes from there on is the rest of the name
pub record Placed (bytes : List ℕ) (name : List (List ℕ)) (k : ℕ) : Type 0 where
  pub low : 1 ≤ place_of bytes k
  pub within : place_of bytes k ≤ length bytes
  pub behind : one bytes (place_of bytes k - 1) ≡ slash
  pub rest : split (drop (place_of bytes k) bytes) ≡ drop k name

pub placed : (bytes : List ℕ) (name : List (List ℕ)) → InPieces bytes name → (k : ℕ) → k < length name → Placed bytes name k
unfolding place_of
placed bytes name w zero h = record { low = omega arith; within = omega (arith, w.long); behind = w.first; rest = w.pieces }
placed bytes name w (suc k) h =
    let was = placed bytes name w k (omega arith) in
    let at = place_of bytes k in
    let e = syllable_end bytes at in
    let left : suc (suc zero) ≤ length (split (drop at bytes)) = rw (was.rest, length-drop) (omega arith) in
    let s : e < length bytes = ends_at-slash bytes at was.within 0 left in
    let next = split-next bytes at was.within 0 left in
    let back : e + 1 - 1 ≡ e = omega arith in
    let hit : is_slash bytes e ≡ true = (ends bytes at).hit (omega (arith, was.within)) in
    let one_more : drop 1 (drop k name) ≡ drop (suc k) name = drop-drop 1 k name ∙ ap (λ j. drop j name) (let z : k + 1 ≡ suc k = omega arith in z) in
    record {
      low = omega arith;
      within = omega arith;
      behind = rw back (eqb-true (one bytes e) slash hit);
      rest = ap (drop 1) (sym next ∙ was.rest) ∙ one_more;
    }

module _ (bytes : List ℕ) (name : List (List ℕ)) (is : syllables bytes ≡ some name) (k : ℕ) (h : k < length name) where
  pub at_place : Placed bytes name k
  at_place = placed bytes name (in_pieces bytes name is (omega arith)) k h

  -- syllable k is the part from its place up to its end
  pub syllable_is : get_or name k [] ≡ part bytes (place_of bytes k) (syllable_end bytes (place_of bytes k))
  syllable_is =
      let at = place_of bytes k in
      let e = sym (drop-cons name k [] h) ∙ sym at_place.rest ∙ split_from bytes at at_place.within in
      cc
