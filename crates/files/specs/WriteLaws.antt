-- What is laid where the old file lies already: the gap's zeros and the data are enough.
use Rattle.std.specs.Prelude.{ℕ, ◌+◌, ◌-◌, ◌/◌, ◌≤◌, ◌<◌, ◌≡◌, ◌⊎◌, List, length, get_or}
use Rattle.std.proofs.Common.{sym, ap, ◌∙◌, inl, inr, ⊎_elim, arith, ext_get_or}
use Rattle.std.proofs.lemmas.List.{get_or-replicate}
use Rattle.records.specs.Tests.{lt_or_ge}
use Rattle.meaning.specs.File.{zero_bytes, writeFILE}
use Rattle.meaning.proofs.FileLaws.{length-zeros, byte_past, length-write, byte_data, byte_before, byte_after}
use Rattle.meaning.specs.Tables.{owner, laid}
use Rattle.blocks.specs.Runs.{byte_no, laid_run}
use Rattle.blocks.specs.RunLaws.{Within, within_or_not, length-laid_run, laid_in, laid_out, laid-whole}

-- a byte before the data or behind it is as it was
beside : (old : List ℕ) (at : ℕ) (bytes : List ℕ) (j : ℕ) → (j < at) ⊎ (at + length bytes ≤ j) → get_or (writeFILE old at bytes) j 0 ≡ get_or old j 0
beside old at bytes j h = ⊎_elim (λ l. byte_before old at bytes j l) (λ l. byte_after old at bytes j l) h

-- the old file lies in the blocks already: then laying zeros into the gap and the data lays the new file
module _ (blocks records : List ℕ) (f : ℕ) (old : List ℕ)
    (lies : (k : ℕ) → k < length blocks → Within records f 0 (length old) k → get_or blocks k 0 ≡ get_or old (byte_no records k) 0)
    (at : ℕ) (bytes : List ℕ) where
  abbrev new : List ℕ
  new = writeFILE old at bytes

  abbrev filled : List ℕ
  filled = laid_run blocks records f (length old) (zero_bytes (at - length old))

  length-filled : length filled ≡ length blocks
  length-filled = length-laid_run blocks records f (length old) (zero_bytes (at - length old))

  module _ (k : ℕ) (h : k < length blocks) where
    -- a byte of f below the new end is the new file's
    its_new : owner records (k / 512) ≡ f → byte_no records k < length new → get_or (laid_run blocks records f 0 new) k 0 ≡ get_or new (byte_no records k) 0
    its_new o l =
        let e : byte_no records k - 0 ≡ byte_no records k = omega arith in
        laid_in blocks records f 0 new k h (record { its_file = o; low = omega arith; high = omega arith }) ∙ ap (λ (j : ℕ). get_or new j 0) e

    in_data : Within records f at (length bytes) k → get_or (laid_run filled records f at bytes) k 0 ≡ get_or (laid_run blocks records f 0 new) k 0
    in_data r =
        laid_in filled records f at bytes k (omega (arith, length-filled)) r
        ∙ sym (its_new r.its_file (omega (arith, length-write old at bytes, r.high)) ∙ byte_data old at bytes (byte_no records k) r.low r.high)

    in_gap : (Within records f at (length bytes) k → ⊥) → Within records f (length old) (length (zero_bytes (at - length old))) k
        → get_or filled k 0 ≡ get_or (laid_run blocks records f 0 new) k 0
    in_gap out r =
        let n = length-zeros (at - length old) in
        let w = length-write old at bytes in
        laid_in blocks records f (length old) (zero_bytes (at - length old)) k h r ∙ get_or-replicate (at - length old) (byte_no records k - length old) 0 0 (omega (arith, r.high, r.low))
        ∙ sym (its_new r.its_file (omega (arith, r.high, r.low))
        ∙ beside old at bytes (byte_no records k) (inl (omega (arith, r.high, r.low)))
        ∙ byte_past old (byte_no records k) r.low)

    as_was : (Within records f at (length bytes) k → ⊥) → (Within records f (length old) (length (zero_bytes (at - length old))) k → ⊥)
        → get_or blocks k 0 ≡ get_or (laid_run blocks records f 0 new) k 0
    as_was out out' =
        ⊎_elim
        (λ (r : Within records f 0 (length new) k).
        let below : byte_no records k < length old = below_old r in
        lies k h (record { its_file = r.its_file; low = r.low; high = omega arith })
        ∙ sym (its_new r.its_file (omega (arith, r.high)) ∙ beside old at bytes (byte_no records k) (outside r)))
        (λ none. sym (laid_out blocks records f 0 new k h none))
        (within_or_not records f 0 (length new) k)
      where
        outside : Within records f 0 (length new) k → (byte_no records k < at) ⊎ (at + length bytes ≤ byte_no records k)
        outside r =
            ⊎_elim (λ (l : byte_no records k < at). inl l)
            (λ (l : at ≤ byte_no records k). ⊎_elim
            (λ (u : byte_no records k < at + length bytes). absurd (out (record { its_file = r.its_file; low = l; high = u })))
            (λ u. inr u)
            (lt_or_ge (byte_no records k) (at + length bytes)))
            (lt_or_ge (byte_no records k) at)

        below_old : Within records f 0 (length new) k → byte_no records k < length old
        below_old r =
            ⊎_elim (λ (l : byte_no records k < length old). l)
            (λ (l : length old ≤ byte_no records k).
            let w = length-write old at bytes in
            let n = length-zeros (at - length old) in
            ⊎_elim
            (λ (u : byte_no records k < at). absurd (out' (record { its_file = r.its_file; low = l; high = omega arith })))
            (λ (u : at + length bytes ≤ byte_no records k). absurd (omega (arith, r.high)))
            (outside r))
            (lt_or_ge (byte_no records k) (length old))

    byte : get_or (laid_run filled records f at bytes) k 0 ≡ get_or (laid_run blocks records f 0 new) k 0
    byte =
        ⊎_elim in_data
        (λ out. laid_out filled records f at bytes k (omega (arith, length-filled)) out
        ∙ ⊎_elim (in_gap out)
        (λ out'. laid_out blocks records f (length old) (zero_bytes (at - length old)) k h out' ∙ as_was out out')
        (within_or_not records f (length old) (length (zero_bytes (at - length old))) k))
        (within_or_not records f at (length bytes) k)

  pub write-laid : laid_run (laid_run blocks records f (length old) (zero_bytes (at - length old))) records f at bytes ≡ laid blocks records f (writeFILE old at bytes)
  write-laid =
      ext_get_or 0 (laid_run filled records f at bytes) (laid_run blocks records f 0 new)
      (length-laid_run filled records f at bytes ∙ length-filled ∙ sym (length-laid_run blocks records f 0 new))
      (λ k h. byte k (rw (length-laid_run, length-filled) at h))
      ∙ sym (laid-whole blocks records f new)
