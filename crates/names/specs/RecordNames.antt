-- The record that starts at a place of a table, and whether its name is a given row of bytes.
use Rattle.std.specs.Prelude.{ℕ, ◌+◌, ◌-◌, ◌*◌, ◌≤◌, ◌<◌, ◌≡◌, List, ◌++◌, Bool, true, false, ◌&&◌, take, drop, get_or, replicate}
use Rattle.std.proofs.Math.Path.{refl, ap, sym}
use Rattle.std.specs.List.{list_any, starts_with}
use Rattle.std.proofs.Common.{◌∙◌, true≢false, take-append-drop, append_assoc, add-one, arith, length-append, length-take, length-drop, get_or-take, get_or-drop, drop-drop}
use Rattle.std.proofs.Math.Bool.{not}
use Rattle.std.proofs.Math.Dec.{eqb}
use Rattle.std.proofs.Math.ListN.{length, get_or-append}
use Rattle.std.proofs.lemmas.List.{length-replicate, drop-take}
use Rattle.std.proofs.lemmas.List.Edits.{sets, sets-eq}
use borrow.Rule.Slice.PartMut.{put_mid}
use Rattle.std.proofs.lemmas.Slice.{take-put_mid, drop-put_mid}
use Rattle.std.proofs.lemmas.List.Folds.{list_any_at, Any-from_list_any}
use Rattle.std.proofs.lemmas.Grind.{get_or_default_zero}
use Rattle.std.proofs.lemmas.Slice.Eq.{starts_is}
use Rattle.std.proofs.lemmas.Bool.Decides.{Decides-eqb}
use Rattle.std.proofs.Math.Seq.{ext_get_or}
use borrow.Author.Tests.{eq-eqb, ne_eqb, eqb-true, eqb-false, not-true}
use Rattle.records.specs.Rows.{every}
use Rattle.records.specs.Numbers.{one, two_bytes, zeros}
use Rattle.records.specs.RowLaws.{lowest_hit, lowest_misses, every_all, all_every, every_cong, lowest_is}
use Rattle.records.specs.Tests.{and_left, and_right, both_ways, not_so}
use Rattle.records.specs.RecordLaws.{sets-append}
use Rattle.meaning.specs.Name.{same, entry, written, name_end, entry_in, record_at, entry_at}
use Rattle.names.specs.SameLaws.{same_is, is_same, not_same}
use Rattle.names.specs.RecordLaws.{one-padded, name_end-within, name-length, name-one}

-- the 16 bytes from a place on
unfoldable pub record_from : List ℕ → ℕ → List ℕ
record_from table at = take 16 (drop at table)

-- a name with zeros behind it up to 14 bytes
unfoldable pub padded : List ℕ → List ℕ
padded name = name ++ replicate (14 - length name) 0

-- the first n bytes of a record's name are those of s, and none of them is 0
unfoldable pub begins : List ℕ → List ℕ → ℕ → Bool
begins r s n = every n (λ j. eqb (one r (2 + j)) (one s j) && not (eqb (one r (2 + j)) 0))

module _ (table : List ℕ) (at : ℕ) (fits : at + 16 ≤ length table) where
  pub record_length : length (record_from table at) ≡ 16
  unfolding record_from
  record_length = rw (length-take, length-drop) (omega arith)

  pub record_one : (j : ℕ) → j < 16 → one (record_from table at) j ≡ one table (at + j)
  unfolding record_from one
  record_one j h = rw (get_or-take, get_or-drop)

  -- the 14 bytes of its name, as a slice of the table
  pub field_is : take (at + 16 - (at + 2)) (drop (at + 2) table) ≡ drop 2 (record_from table at)
  unfolding record_from
  field_is =
      let few : at + 16 - (at + 2) ≡ 14 = omega arith in
      rw (few, ← drop-drop 2 at table) (sym (drop-take 2 14 (drop at table)))

-- a directory's record i starts at byte 16 * i
pub record_at_lem : (dir : List ℕ) (i : ℕ) → record_at dir i ≡ record_from dir (16 * i)
unfolding record_at record_from
record_at_lem dir i = refl

pub entry-at : (dir : List ℕ) (i : ℕ) → entry_at dir i ≡ entry_in (record_from dir (16 * i))
unfolding entry_at
entry-at dir i = ap entry_in (record_at_lem dir i)

-- the same 16 bytes in two tables are the same record, blank in both or in neither
module _ (t u : List ℕ) (at bt : ℕ) (agree : (j : ℕ) → j < 16 → one t (at + j) ≡ one u (bt + j)) where
  pub record_same : at + 16 ≤ length t → bt + 16 ≤ length u → record_from t at ≡ record_from u bt
  unfolding one
  record_same f g =
      ext_get_or 0 (record_from t at) (record_from u bt) (record_length t at f ∙ sym (record_length u bt g))
      (λ j (h : j < length (record_from t at)).
      let b : j < 16 = rw (record_length t at f) at h in
      record_one t at f j b ∙ agree j b ∙ sym (record_one u bt g j b))

  pub blank_same : zeros t at 16 ≡ zeros u bt 16
  unfolding zeros
  blank_same = every_cong 16 (λ i. eqb (one t (at + i)) 0) (λ i. eqb (one u (bt + i)) 0) (λ j h. ap (λ b. eqb b 0) (agree j h))

-- ---- a name laid into a record

module _ (name : List ℕ) where
  pub length-padded : length name ≤ 14 → length (padded name) ≡ 14
  unfolding padded
  length-padded h = rw (length-append, length-replicate) (omega arith)

  pub padded-one : (i : ℕ) → get_or (padded name) i 0 ≡ one name i
  unfolding padded one
  padded-one i = one-padded name (14 - length name) i

-- its bytes and then the zeros, laid into two parts of a table
module _ (table name filled : List ℕ) (at : ℕ) (fits : at + 14 ≤ length table) (few : length name ≤ 14) where
  pub laid_padded : filled ≡ replicate (at + 14 - (at + length name)) 0 →
      put_mid (at + length name) (at + 14 - (at + length name)) (put_mid at (at + length name - at) table name) filled ≡ sets table at (padded name)
  unfolding padded
  laid_padded e =
      let end = at + length name in
      let size : length (padded name) ≡ 14 = length-padded name few in
      let inside : at + length (padded name) ≤ length table = omega arith in
      let low : at ≤ length table = omega arith in
      let front = take-put_mid at (end - at) table name end refl low in
      let back = drop-put_mid at (end - at) table name end (omega arith) low (omega arith) in
      let m : at + 14 - end ≡ 14 - length name = omega arith in
      let z : end + (14 - length name) ≡ at + 14 = omega arith in
      rw (sets-eq (padded name) table at inside, size, e, front, back, m, drop-drop, z) (simp append_assoc)

-- a record is a number of two bytes and then the name
pub laid-written : (table name : List ℕ) (at f : ℕ) → sets (sets table at (two_bytes f)) (at + 2) (padded name) ≡ sets table at (written (entry f name))
unfolding padded written
laid-written table name at f =
    rw append_assoc (sets-append (two_bytes f) (name ++ replicate (14 - length name) 0) table at (at + 2) (unfold two_bytes in refl))

-- ---- whether a record's name is a row of bytes

module _ (r s : List ℕ) where
  pub begins_none : begins r s 0 ≡ true
  unfolding begins every
  begins_none = refl

  pub begins-next : (i : ℕ) → begins r s i ≡ true → one r (2 + i) ≡ one s i → (one r (2 + i) ≡ 0 → ⊥) → begins r s (i + 1) ≡ true
  unfolding begins every
  begins-next i b e z = rw (add-one, b, eq-eqb (one r (2 + i)) (one s i) e, ne_eqb (one r (2 + i)) 0 z)

module _ (r s : List ℕ) (size : length r ≡ 16) where
  -- where the names are the same, the record's name ends with s
  same_end : (entry_in r).name ≡ s → name_end r ≡ length s
  same_end e = sym (name-length r size) ∙ ap length e

  pub names_long : 14 < length s → same (entry_in r).name s ≡ false
  names_long h = not_same (entry_in r).name s (λ e. omega (arith, same_end e, name_end-within r size))

  pub names-ended : (j : ℕ) → j < length s → one r (2 + j) ≡ 0 → same (entry_in r).name s ≡ false
  unfolding name_end
  names-ended j h z =
      not_same (entry_in r).name s
      (λ e. eqb-false (one r (2 + j)) 0 (lowest_misses 14 (λ i. eqb (one r (2 + i)) 0) j (rw (same_end e) h)) z)

  pub names-other : (j : ℕ) → j < length s → (one r (2 + j) ≡ one s j → ⊥) → same (entry_in r).name s ≡ false
  names-other j h d =
      not_same (entry_in r).name s (λ e. d (sym (name-one r size j (rw (same_end e) h)) ∙ ap (λ l. one l j) e))

  module _ (begun : begins r s (length s) ≡ true) where
    agrees : (j : ℕ) → j < length s → (one r (2 + j) ≡ one s j) × (eqb (one r (2 + j)) 0 ≡ false)
    unfolding begins
    agrees j h =
        let t = every_all (length s) (λ j. eqb (one r (2 + j)) (one s j) && not (eqb (one r (2 + j)) 0)) begun j h in (
          eqb-true (one r (2 + j)) (one s j) (and_left (eqb (one r (2 + j)) (one s j)) (not (eqb (one r (2 + j)) 0)) t),
          not-true (eqb (one r (2 + j)) 0) (and_right (eqb (one r (2 + j)) (one s j)) (not (eqb (one r (2 + j)) 0)) t),
        )

    named : length s ≤ 14 → (length s < 14 → eqb (one r (2 + length s)) 0 ≡ true) → (entry_in r).name ≡ s
    unfolding name_end one
    named l z =
        let end : name_end r ≡ length s = lowest_is 14 (λ i. eqb (one r (2 + i)) 0) (length s) l (λ i h. (agrees i h).1) z in
        ext_get_or 0 (entry_in r).name s (name-length r size ∙ end)
        (λ i (h : i < length (entry_in r).name).
        let b : i < length s = rw (name-length r size, end) at h in
        name-one r size i (rw end b) ∙ (agrees i b).0)

    pub names_full : length s ≡ 14 → same (entry_in r).name s ≡ true
    names_full e = is_same (entry_in r).name s (named (omega arith) (λ h. absurd (omega arith)))

    pub names-end : length s < 14 → same (entry_in r).name s ≡ eqb (one r (2 + length s)) 0
    unfolding name_end
    names-end l =
        both_ways (same (entry_in r).name s) (eqb (one r (2 + length s)) 0)
        (λ t.
        let end : name_end r ≡ length s = same_end (same_is (entry_in r).name s t) in
        rw end at (lowest_hit 14 (λ i. eqb (one r (2 + i)) 0) (rw end l)))
        (λ z. is_same (entry_in r).name s (named (omega arith) (λ h. z)))

  -- what the code reads: the 14 bytes behind the number, and whether they start with s
  pub names_apart : starts_with eqb (drop 2 r) s ≡ false → same (entry_in r).name s ≡ false
  unfolding entry_in
  names_apart e =
      not_same (entry_in r).name s
      (λ d.
      let rest = drop (name_end r) (drop 2 r) in
      let all : drop 2 r ≡ s ++ rest = sym (take-append-drop (name_end r) (drop 2 r)) ∙ ap (λ l. l ++ rest) d in
      true≢false (sym ((starts_is Decides-eqb (drop 2 r) s (starts_with eqb (drop 2 r) s) refl).1 rest all) ∙ e))

  -- no name has a zero in it
  pub names_zero : list_any (λ b. eqb b 0) s ≡ true → same (entry_in r).name s ≡ false
  unfolding name_end one
  names_zero e =
      not_same (entry_in r).name s
      (λ d.
      let (j, b, within, is, zero) = Any-from_list_any (λ b. eqb b 0) s e in
      let inside : j < name_end r = omega (arith, within, ap length d, name-length r size) in
      eqb-false (one r (2 + j)) 0 (lowest_misses 14 (λ i. eqb (one r (2 + i)) 0) j inside)
      (sym (name-one r size j inside) ∙ ap (λ l. get_or l j 0) d ∙ sym (get_or_default_zero s j b within) ∙ is ∙ eqb-true b 0 zero))

  pub names_begun : starts_with eqb (drop 2 r) s ≡ true → list_any (λ b. eqb b 0) s ≡ false → begins r s (length s) ≡ true
  unfolding begins one
  names_begun e none =
      let all = (starts_is Decides-eqb (drop 2 r) s (starts_with eqb (drop 2 r) s) refl).0 e in
      all_every (length s) (λ j. eqb (one r (2 + j)) (one s j) && not (eqb (one r (2 + j)) 0))
      (λ j h.
      let reads : one r (2 + j) ≡ get_or s j 0 = sym (get_or-drop 2 r j 0) ∙ ap (λ l. get_or l j 0) all ∙ get_or-append s (drop (length s) (drop 2 r)) 0 j h in
      let some : eqb (get_or s j 0) 0 ≡ false = not_so (eqb (get_or s j 0) 0) (λ t. true≢false (sym (list_any_at (λ b. eqb b 0) s j 0 h t) ∙ none)) in
      rw (reads, eq-eqb (get_or s j 0) (get_or s j 0) refl, some))
