-- A directory with one record written anew or added at its end: every other record is as it was.
use Rattle.std.specs.Prelude.{ℕ, suc, ◌+◌, ◌-◌, ◌*◌, ◌≤◌, ◌<◌, min, max, ◌≡◌, ◌≢◌, List, drop}
use Rattle.std.proofs.Math.Path.{ap, sym}
use Rattle.std.proofs.Common.{◌∙◌, length-drop}
use Rattle.std.proofs.Math.Logic.{⊎_elim}
use native.Mathlib.Omega.{arith}
use Rattle.std.proofs.Math.ListN.{length, get_or, length-take}
use Rattle.std.proofs.Math.Seq.{get_or-drop, get_or-take, ext_get_or}
use Rattle.records.specs.Tests.{lt_or_ge}
use Rattle.records.specs.Numbers.{zeros}
use Rattle.records.specs.NumberLaws.{zeros_cong}
use Rattle.meaning.proofs.FileLaws.{length-write, byte_data, byte_before, byte_after}
use Rattle.meaning.specs.Name.{entry_in, record_count, record_at, is_blank, entry_at, with_entry}

-- ---- a record of a directory, byte by byte

module _ (dir : List ℕ) (i : ℕ) where
  pub length_record : length (record_at dir i) ≡ min 16 (length dir - 16 * i)
  unfolding record_at
  length_record = length-take 16 (drop (16 * i) dir) ∙ ap (min 16) (length-drop (16 * i) dir)

  pub byte_record : (k : ℕ) → k < 16 → get_or (record_at dir i) k 0 ≡ get_or dir (16 * i + k) 0
  unfolding record_at
  byte_record k h = get_or-take 16 (drop (16 * i) dir) k 0 h ∙ get_or-drop (16 * i) dir k 0

-- two records with the same bytes
pub same_record : (dir dir' : List ℕ) (i i' : ℕ) → min 16 (length dir - 16 * i) ≡ min 16 (length dir' - 16 * i')
    → ((k : ℕ) → k < 16 → get_or dir (16 * i + k) 0 ≡ get_or dir' (16 * i' + k) 0) → record_at dir i ≡ record_at dir' i'
same_record dir dir' i i' sizes bytes =
    ext_get_or 0 (record_at dir i) (record_at dir' i') (length_record dir i ∙ sizes ∙ sym (length_record dir' i'))
    (λ k (h : k < length (record_at dir i)).
    let l : k < 16 = omega (arith, length_record dir i) in
    byte_record dir i k l ∙ bytes k l ∙ sym (byte_record dir' i' k l))

-- ---- record i written anew or added: n records of 16 bytes, and i is at most n

module _ (dir r : List ℕ) (n i : ℕ) (whole : length dir ≡ 16 * n) (size : length r ≡ 16) (within : i ≤ n) where
  pub length_with : length (with_entry dir i r) ≡ 16 * max n (suc i)
  unfolding with_entry
  length_with = omega (arith, length-write dir (16 * i) r)

  pub count_with : record_count (with_entry dir i r) ≡ max n (suc i)
  count_with = omega (arith, length_with)

  pub record_same : record_at (with_entry dir i r) i ≡ r
  unfolding with_entry
  record_same =
      let e : length (record_at (with_entry dir i r) i) ≡ 16 = omega (arith, length_record (with_entry dir i r) i, length_with) in
      ext_get_or 0 (record_at (with_entry dir i r) i) r (e ∙ sym size)
      (λ k (h : k < length (record_at (with_entry dir i r) i)).
      let back : 16 * i + k - 16 * i ≡ k = omega arith in
      byte_record (with_entry dir i r) i k (omega arith)
      ∙ byte_data dir (16 * i) r (16 * i + k) (omega arith) (omega arith)
      ∙ ap (λ (j : ℕ). get_or r j 0) back)

  byte_other : (j k : ℕ) → j ≢ i → k < 16 → get_or (with_entry dir i r) (16 * j + k) 0 ≡ get_or dir (16 * j + k) 0
  unfolding with_entry
  byte_other j k d h =
      ⊎_elim
      (λ (l : j < i). byte_before dir (16 * i) r (16 * j + k) (omega arith))
      (λ (l : i ≤ j). byte_after dir (16 * i) r (16 * j + k) (omega arith))
      (lt_or_ge j i)

  pub record_other : (j : ℕ) → j ≢ i → record_at (with_entry dir i r) j ≡ record_at dir j
  record_other j d =
      same_record (with_entry dir i r) dir j j (omega (arith, length_with)) (λ k h. byte_other j k d h)

  pub entry-same : entry_at (with_entry dir i r) i ≡ entry_in r
  unfolding entry_at
  entry-same = ap entry_in record_same

  pub entry_other : (j : ℕ) → j ≢ i → entry_at (with_entry dir i r) j ≡ entry_at dir j
  unfolding entry_at
  entry_other j d = ap entry_in (record_other j d)

  pub blank_same : is_blank (with_entry dir i r) i ≡ zeros r 0 16
  unfolding is_blank with_entry
  blank_same =
      zeros_cong (with_entry dir i r) r (16 * i) 0 16
      (λ k h.
      let back : 16 * i + k - 16 * i ≡ 0 + k = omega arith in
      byte_data dir (16 * i) r (16 * i + k) (omega arith) (omega arith) ∙ ap (λ (j : ℕ). get_or r j 0) back)

  pub blank_other : (j : ℕ) → j ≢ i → is_blank (with_entry dir i r) j ≡ is_blank dir j
  unfolding is_blank
  blank_other j d = zeros_cong (with_entry dir i r) dir (16 * j) (16 * j) 16 (λ k h. byte_other j k d h)
