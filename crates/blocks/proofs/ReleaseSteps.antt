-- The block records with the places of a file let go in the first b records, and what one more record does.
use Prim.Native.Nat.{ℕ, ◌+◌, ◌-◌, ◌*◌, ◌/◌, ◌≤◌, ◌<◌}
use mathlib.Core.Path.{◌≡◌, refl, sym, ap₂, ◌∙◌}
use mathlib.Core.Logic.{◌≢◌, ⊎_elim}
use mathlib.Core.List.{List}
use mathlib.Core.Bool.{Bool, true, false, ◌&&◌}
use native.Mathlib.Omega.{arith}
use lib.ListN.{length, get_or, get_or-replicate}
use lib.Seq.{ext_get_or}
use lib.Dec.{leb, ltb, eqb}
use borrow.Author.Tests.{lt-ltb, le-ltb}
use Rattle.records.specs.Rows.{pick, list_of}
use Rattle.records.specs.Numbers.{one, two_bytes, with_record}
use Rattle.records.specs.NumberLaws.{two_cong}
use Rattle.records.specs.Tests.{same_or_not, lt_or_ge}
use Rattle.records.specs.RecordLaws.{length-with_record, byte_written, byte_kept}
use Rattle.records.specs.ListLaws.{length-list_of, get_or-list_of, list_of_cong}
use Rattle.meaning.specs.Tables.{block_count, owner, place, block_record, released}
use Rattle.tables.specs.ReadBack.{length-block_record}
use Rattle.layout.specs.Releasing.{is_gone}
use Rattle.blocks.specs.Places.{released_at}

unfoldable pub released_to : List ℕ → ℕ → ℕ → ℕ → List ℕ
released_to records f n b =
    list_of (length records) λ k.
    pick (ltb (k / 4) b && is_gone records f n (k / 4)) 0 (one records k)

module _ (records : List ℕ) (f n b : ℕ) where
  length_to : length (released_to records f n b) ≡ length records
  unfolding released_to
  length_to = length-list_of (length records) _

  byte_to : (k : ℕ) → k < length records
      → get_or (released_to records f n b) k 0 ≡ pick (ltb (k / 4) b && is_gone records f n (k / 4)) 0 (get_or records k 0)
  unfolding released_to one
  byte_to k h = get_or-list_of (length records) _ k 0 h

  -- record b and those after it are as they were
  byte_later : (k : ℕ) → k < length records → b ≤ k / 4 → get_or (released_to records f n b) k 0 ≡ get_or records k 0
  byte_later k h l = byte_to k h ∙ rw (le-ltb (k / 4) b l)

  module _ (inside : b < block_count records) where
    gone_later : is_gone (released_to records f n b) f n b ≡ is_gone records f n b
    unfolding owner place
    gone_later =
        ap₂ (λ (o p : ℕ). eqb o f && leb n p)
        (two_cong (released_to records f n b) records (4 * b) (4 * b) (λ k (h : k < 2). byte_later (4 * b + k) (omega arith) (omega arith)))
        (two_cong (released_to records f n b) records (4 * b + 2) (4 * b + 2) (λ k (h : k < 2). byte_later (4 * b + 2 + k) (omega arith) (omega arith)))

-- none is let go, and all are
pub release_start : (records : List ℕ) (f n : ℕ) → records ≡ released_to records f n 0
release_start records f n =
    ext_get_or 0 records (released_to records f n 0) (sym (length_to records f n 0)) (λ k h. sym (byte_later records f n 0 k h (omega arith)))

pub release_end : (records : List ℕ) (f n b : ℕ) → length records ≡ 4 * block_count records → block_count records ≤ b → released_to records f n b ≡ released records f n
unfolding released_to released
release_end records f n b whole h =
    list_of_cong (length records) _ _ (λ k (l : k < length records). rw (lt-ltb (k / 4) b (omega arith)))

-- one record more
module _ (records : List ℕ) (f n b : ℕ) (inside : b < block_count records) where
  abbrev now : List ℕ
  now = released_to records f n b

  zero_byte : (j : ℕ) → j < 4 → get_or (block_record 0 0) j 0 ≡ 0
  unfolding block_record two_bytes
  zero_byte j h = get_or-replicate 4 j 0 0 h

  -- a byte of record b
  its_byte : (k : ℕ) → k < length records → k / 4 ≡ b
      → get_or (released_to records f n (b + 1)) k 0 ≡ pick (is_gone records f n b) 0 (get_or records k 0)
  its_byte k h e = byte_to records f n (b + 1) k h ∙ rw (e, lt-ltb b (b + 1) (omega arith))

  -- a byte of another
  another : (d : ℕ) → d ≢ b → ltb d b ≡ ltb d (b + 1)
  another d o =
      ⊎_elim (λ (l : d < b). rw (lt-ltb d b l, lt-ltb d (b + 1) (omega arith))) (λ (l : b ≤ d). rw (le-ltb d b l, le-ltb d (b + 1) (omega arith))) (lt_or_ge d b)

  its_not : (k : ℕ) → k < length records → k / 4 ≢ b → get_or now k 0 ≡ get_or (released_to records f n (b + 1)) k 0
  its_not k h o = byte_to records f n b k h ∙ rw (another (k / 4) o) (sym (byte_to records f n (b + 1) k h))

  next_byte : (t : Bool) → is_gone records f n b ≡ t → (k : ℕ) → k < length records
      → get_or (pick t (with_record 4 now b (block_record 0 0)) now) k 0 ≡ get_or (released_to records f n (b + 1)) k 0
  next_byte true e k h =
      let size : length (block_record 0 0) ≤ 4 = omega (arith, length-block_record 0 0) in
      ⊎_elim
      (λ (s : k / 4 ≡ b).
      byte_written 4 now b (block_record 0 0) (omega (arith, length_to records f n b)) size (k - 4 * b) k (omega arith) (omega (arith, length-block_record 0 0))
      ∙ zero_byte (k - 4 * b) (omega arith) ∙ sym (its_byte k h s ∙ rw e))
      (λ (o : k / 4 ≢ b). byte_kept 4 now b (block_record 0 0) size (k / 4) o (k - 4 * (k / 4)) k (omega arith) (omega arith) ∙ its_not k h o)
      (same_or_not (k / 4) b)
  next_byte false e k h =
      ⊎_elim
      (λ (s : k / 4 ≡ b). byte_later records f n b k h (omega arith) ∙ sym (its_byte k h s ∙ rw e))
      (λ (o : k / 4 ≢ b). its_not k h o)
      (same_or_not (k / 4) b)

  length-next : (t : Bool) → length (pick t (with_record 4 now b (block_record 0 0)) now) ≡ length records
  length-next true = length-with_record 4 now b (block_record 0 0) ∙ length_to records f n b
  length-next false = length_to records f n b

  pub release_next : (old next : List ℕ) → old ≡ now → next ≡ released_at old f n b → next ≡ released_to records f n (b + 1)
  unfolding released_at
  release_next old next so_far e =
      let t = is_gone records f n b in
      e ∙ rw (so_far, gone_later records f n b inside)
      (ext_get_or 0 (pick t (with_record 4 now b (block_record 0 0)) now) (released_to records f n (b + 1))
      (length-next t ∙ sym (length_to records f n (b + 1)))
      (λ k h. next_byte t refl k (let l = length-next t in omega arith)))
