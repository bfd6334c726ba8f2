-- A run within one block, and a run laid part by part, as the code meets them.
use Rattle.std.specs.Prelude.{ℕ, ◌+◌, ◌-◌, ◌*◌, ◌/◌, ◌%◌, ◌≤◌, ◌<◌, ◌≡◌, refl, ◌≢◌, ◌⊎◌, List, Bool, true, length, get_or, take, drop}
use Rattle.std.proofs.Common.{sym, ap, ◌∙◌, inl, inr, ⊎_elim, arith, Fits, length-take, length-drop, ext_get_or, length-take-le, take-add, take_all}
use Rattle.std.specs.Int.{w16, w64}
use Rattle.std.proofs.lemmas.List.Edits.{sets}
use Rattle.std.proofs.Math.Seq.{length-sets}
use Rattle.records.specs.Rows.{how_many}
use Rattle.records.specs.Tests.{same_or_not, lt_or_ge}
use Rattle.records.specs.RecordLaws.{get_or-sets_in, get_or-sets-out}
use Rattle.meaning.specs.Tables.{block_count, place, holds, block_of}
use Rattle.layout.specs.Places.{how_many-two}
use Rattle.layout.specs.Blocks.{its_place, holds-owner, holds-place, some_block, block_holds}
use Rattle.blocks.specs.Runs.{byte_no, laid_run, Housed, in_block, Moving}
use Rattle.blocks.specs.RunLaws.{Within, within_or_not, length-laid_run, laid_in, laid_out, laid_run_none, laid_run-append}

-- ---- a run within one block

-- where only one passes, two that pass are one
the_one : (n : ℕ) (p : ℕ → Bool) → how_many n p ≡ 1 → (i j : ℕ) → i < n → j < n → p i ≡ true → p j ≡ true → i ≡ j
the_one n p once i j hi hj ei ej =
    ⊎_elim (λ (e : i ≡ j). e) (λ (d : i ≢ j). absurd (omega (arith, how_many-two n p i j hi hj d ei ej))) (same_or_not i j)

module _ (blocks records : List ℕ) (f at : ℕ) (bytes : List ℕ) (run : Housed blocks records f at (length bytes)) (short : at % 512 + length bytes ≤ 512)
    (b : ℕ) (is : b ≡ block_of records f (at / 512)) (some : 0 < length bytes) where
  one_place : how_many (block_count records) (λ b. holds records f (at / 512) b) ≡ 1
  one_place = run.each at (omega arith) (omega arith)

  pub block_in : b < block_count records
  block_in = rw is (some_block records f (at / 512) (omega (arith, one_place)))

  pub run_in : 512 * b + at % 512 + length bytes ≤ length blocks
  run_in = omega (arith, block_in, run.whole)

  its : holds records f (at / 512) b ≡ true
  its = let l : block_of records f (at / 512) < block_count records = rw is at block_in in rw is (block_holds records f (at / 512) l)

  there : (k : ℕ) → k < length blocks → Within records f at (length bytes) k → k ≡ 512 * b + at % 512 + (byte_no records k - at)
  there k h r =
      let p : place records (k / 512) ≡ at / 512 = omega (arith, r.low, r.high) in
      let c : k / 512 < block_count records = omega (arith, run.whole) in
      let same : k / 512 ≡ b = the_one (block_count records) (λ b. holds records f (at / 512) b) one_place (k / 512) b c block_in (its_place records f (at / 512) (k / 512) r.its_file p) its in
      omega (arith, r.low, r.high)

  here : (k : ℕ) → 512 * b + at % 512 ≤ k → k < 512 * b + at % 512 + length bytes → Within records f at (length bytes) k
  here k l u =
      let same : k / 512 ≡ b = omega arith in
      let p : place records (k / 512) ≡ at / 512 = rw same (holds-place records f (at / 512) b its) in
      record { its_file = rw same (holds-owner records f (at / 512) b its); low = omega arith; high = omega arith }

  pub laid_run_block : sets blocks (512 * b + at % 512) bytes ≡ laid_run blocks records f at bytes
  laid_run_block =
      ext_get_or 0 (sets blocks (512 * b + at % 512) bytes) (laid_run blocks records f at bytes)
      (length-sets blocks (512 * b + at % 512) bytes ∙ sym (length-laid_run blocks records f at bytes))
      (λ k h. byte k (rw length-sets at h))
    where
      byte : (k : ℕ) → k < length blocks → get_or (sets blocks (512 * b + at % 512) bytes) k 0 ≡ get_or (laid_run blocks records f at bytes) k 0
      byte k h =
          ⊎_elim
          (λ (r : Within records f at (length bytes) k).
          get_or-sets_in bytes blocks (512 * b + at % 512) k (byte_no records k - at) 0 run_in (omega (arith, r.low, r.high)) (there k h r)
          ∙ sym (laid_in blocks records f at bytes k h r))
          (λ (out : Within records f at (length bytes) k → ⊥).
          get_or-sets-out bytes blocks (512 * b + at % 512) k 0 (outside k out) ∙ sym (laid_out blocks records f at bytes k h out))
          (within_or_not records f at (length bytes) k)
        where
          outside : (k : ℕ) → (Within records f at (length bytes) k → ⊥) → (k < 512 * b + at % 512) ⊎ (512 * b + at % 512 + length bytes ≤ k)
          outside k out =
              ⊎_elim (λ (l : k < 512 * b + at % 512). inl l)
              (λ (l : 512 * b + at % 512 ≤ k). ⊎_elim
              (λ (u : k < 512 * b + at % 512 + length bytes). absurd (out (here k l u)))
              (λ (u : 512 * b + at % 512 + length bytes ≤ k). inr u)
              (lt_or_ge k (512 * b + at % 512 + length bytes)))
              (lt_or_ge k (512 * b + at % 512))

-- ---- as the code meets them

-- a part of a run has its places, in blocks of the same length
pub housed_part : (blocks next records : List ℕ) (f at n at' n' : ℕ) → Housed blocks records f at n → length next ≡ length blocks
    → at ≤ at' → at' + n' ≤ at + n → Housed next records f at' n'
housed_part blocks next records f at n at' n' h e low high =
    record {
      few = h.few;
      near = λ k (l : at' ≤ k) (u : k < at' + n'). h.near k (omega arith) (omega arith);
      whole = e ∙ h.whole;
      each = λ k (l : at' ≤ k) (u : k < at' + n'). h.each k (omega arith) (omega arith);
    }

-- a byte's number and its place fit the numbers that hold them
pub byte_fits : (blocks records : List ℕ) (f at n done : ℕ) → Housed blocks records f at n → done < n → Fits w64 (at + done)
byte_fits blocks records f at n done h d =
    let l : at + done < 65536 = h.near (at + done) (omega arith) (omega arith) in
    record { fits = omega arith }

pub place_fits : (blocks records : List ℕ) (f k n : ℕ) (bytes : List ℕ) (start : ℕ) → Moving blocks records f k n bytes start → Fits w16 (k / 512)
place_fits blocks records f k n bytes start h =
    let l : k < 65536 = h.housed.near k (omega arith) (omega (arith, h.some)) in
    record { fits = omega arith }

module _ (blocks records : List ℕ) (f k n : ℕ) (bytes : List ℕ) (start : ℕ) (moving : Moving blocks records f k n bytes start) where
  -- the block of the run's bytes
  pub moving-held : (block_count records ≤ 65536) × (block_of records f (k / 512) < block_count records)
  moving-held =
      let one : how_many (block_count records) (λ b. holds records f (k / 512) b) ≡ 1 = moving.housed.each k (omega arith) (omega (arith, moving.some)) in
      (omega (arith, moving.housed.few), some_block records f (k / 512) (omega arith))

  module _ (place : ℕ) (is-place : place ≡ 512 * block_of records f (k / 512)) (m : ℕ) (is_m : m ≡ in_block k n) where
    run_length : length (take m (drop start bytes)) ≡ m
    run_length = simp (length-take, length-drop) (omega (arith, moving.within))

    run_housed : Housed blocks records f k (length (take m (drop start bytes)))
    run_housed = housed_part blocks blocks records f k n k (length (take m (drop start bytes))) moving.housed refl (omega arith) (omega (arith, run_length))

    pub moving_fits : place + k % 512 + m ≤ length blocks
    moving_fits =
        omega (
          arith,
          run_length,
          run_in blocks records f k (take m (drop start bytes)) run_housed (omega (arith, run_length)) (block_of records f (k / 512)) refl (omega (arith, run_length, moving.some)),
        )

    pub moving-laid : (next : List ℕ) → next ≡ sets blocks (place + k % 512) (take m (drop start bytes))
        → next ≡ laid_run blocks records f k (take (in_block k n) (drop start bytes))
    moving-laid next e =
        let e' : next ≡ sets blocks (512 * block_of records f (k / 512) + k % 512) (take m (drop start bytes)) = rw is-place at e in
        e' ∙ laid_run_block blocks records f k (take m (drop start bytes)) run_housed (omega (arith, run_length)) (block_of records f (k / 512)) refl (omega (arith, run_length, moving.some))
        ∙ ap (λ (m : ℕ). laid_run blocks records f k (take m (drop start bytes))) is_m

-- a run laid part by part: so far, the first `done` bytes of it
module _ (blocks records : List ℕ) (f at : ℕ) (bytes : List ℕ) where
  pub laid_start : blocks ≡ laid_run blocks records f at (take 0 bytes)
  laid_start = sym (laid_run_none blocks records f at)

  module _ (now : List ℕ) (done : ℕ) (so_far : now ≡ laid_run blocks records f at (take done bytes)) where
    pub laid_next : done ≤ length bytes → (next : List ℕ) (m r : ℕ) → r ≡ m → next ≡ laid_run now records f (at + done) (take m (drop done bytes))
        → next ≡ laid_run blocks records f at (take (done + r) bytes)
    laid_next h next m r is e =
        let l : length (take done bytes) ≡ done = length-take-le done bytes h in
        rw (is, e, so_far, take-add done m bytes)
        (laid_run-append blocks records f at (take done bytes) (take m (drop done bytes)) (at + done) (omega arith))

    pub laid_end : length bytes ≤ done → now ≡ laid_run blocks records f at bytes
    laid_end h = rw (take_all done bytes h) at so_far
