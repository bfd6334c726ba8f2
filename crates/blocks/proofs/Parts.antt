-- A run of n bytes gone through block by block: at place i, from byte k = max at (512 * i) of the file on, its first 512 * i - at bytes are done.
use Rattle.std.specs.Prelude.{ℕ, ◌+◌, ◌-◌, ◌*◌, ◌/◌, ◌≤◌, ◌<◌, min, max, ◌≡◌, ◌≢◌, List, [], ◌++◌, Bool, true, false, eqb, length, take, drop}
use Rattle.std.proofs.Common.{sym, ap, ◌∙◌, ⊎_elim, refl, true≢false, arith, append_assoc, length-drop, length-take-le, take_all}
use Rattle.std.proofs.lemmas.List.{take_rest, take-replicate, drop-replicate, append-nil}
use Rattle.std.proofs.lemmas.List.Edits.{sets, sets-eq}
use borrow.Author.Tests.{eq-eqb, eqb-true}
use lib.Seq.{drop-drop}
use Rattle.records.specs.Tests.{lt_or_ge, same_or_not}
use Rattle.records.specs.ListLaws.{drop_none}
use Rattle.meaning.specs.File.{over, needed, zero_bytes}
use Rattle.meaning.proofs.FileLaws.{length-zeros}
use Rattle.blocks.specs.Runs.{laid_run, run_of, in_block}
use Rattle.blocks.specs.InBlock.{laid_start, laid_next, laid_end}
use Rattle.blocks.specs.ReadLaws.{over-sets, length-run_of, read_start, read_next}

-- whether there are bytes at all, as the code tests it
module _ (n : ℕ) (t : Bool) (is : t ≡ eqb n 0) where
  pub none_there : t ≡ true → n ≡ 0
  none_there e = eqb-true n 0 (sym is ∙ e)

  pub some_there : t ≡ false → 0 < n
  some_there e = ⊎_elim (λ (z : n ≡ 0). absurd (true≢false (sym (is ∙ eq-eqb n 0 z) ∙ e))) (λ (d : n ≢ 0). omega arith) (same_or_not n 0)

-- a part of a list written, and so the whole with it there
pub put_at : (to part : List ℕ) (at n : ℕ) → at + length part ≤ length to → n ≡ length part → take at to ++ (part ++ drop n (drop at to)) ≡ sets to at part
put_at to part at n fits e = rw (e, drop-drop (length part) at to, sets-eq part to at fits, append_assoc)

-- its places are those from at / 512 on, below needed (at + n)
module _ (at n i k : ℕ) (is_k : k ≡ max at (512 * i)) (low : at / 512 ≤ i) (high : i < needed (at + n)) (some : 0 < n) where
  -- byte k is in the run
  part_in : (at ≤ k) × (k < at + n)
  part_in = omega arith

  -- the bytes before it are done
  part_done : 512 * i - at ≡ k - at
  part_done = omega arith

  -- and then those of its block: at the last block all
  part_next : min (512 * (i + 1) - at) n ≡ k - at + in_block k (n - (k - at))
  part_next = omega arith

-- ---- a run laid

module _ (blocks records : List ℕ) (f at : ℕ) (bytes : List ℕ) (n : ℕ) (is_n : length bytes ≡ n) where
  pub laid_none : n ≡ 0 → blocks ≡ laid_run blocks records f at bytes
  laid_none e = laid_end blocks records f at bytes blocks 0 (laid_start blocks records f at bytes) (omega arith)

  pub laid_from : blocks ≡ laid_run blocks records f at (take (512 * (at / 512) - at) bytes)
  laid_from = let none : 512 * (at / 512) - at ≡ 0 = omega arith in rw none (laid_start blocks records f at bytes)

  module _ (now : List ℕ) (i : ℕ) (so_far : now ≡ laid_run blocks records f at (take (512 * i - at) bytes)) where
    pub laid_to : needed (at + n) ≤ i → now ≡ laid_run blocks records f at bytes
    laid_to h = laid_end blocks records f at bytes now (512 * i - at) so_far (omega arith)

    -- what is laid from byte k on is the run's bytes in its block
    pub laid_part : (k : ℕ) → k ≡ max at (512 * i) → at / 512 ≤ i → i < needed (at + n) → 0 < n → (next part : List ℕ)
        → next ≡ laid_run now records f k part → part ≡ take (in_block k (n - (k - at))) (drop (k - at) bytes)
        → next ≡ laid_run blocks records f at (take (512 * (i + 1) - at) bytes)
    laid_part k is_k low high some next part e its =
        let done = part_done at n i k is_k low high some in
        let within = part_in at n i k is_k low high some in
        let from : k ≡ at + (k - at) = omega arith in
        let m = in_block k (n - (k - at)) in
        laid_next blocks records f at bytes now (k - at) (rw done at so_far) (omega arith) next m m refl
        (e ∙ ap (laid_run now records f k) its ∙ ap (λ j. laid_run now records f j (take m (drop (k - at) bytes))) from)
        ∙ ap (laid_run blocks records f at) (sym (take_same bytes (512 * (i + 1) - at) (k - at + m) (rw is_n (part_next at n i k is_k low high some))))
      where
        take_same : (l : List ℕ) (x y : ℕ) → min x (length l) ≡ y → take x l ≡ take y l
        take_same l x y e =
            ⊎_elim
            (λ (h : x < length l). let same : x ≡ y = omega arith in ap (λ m. take m l) same)
            (λ (h : length l ≤ x). take_all x l h ∙ sym (take_all y l (omega arith)))
            (lt_or_ge x (length l))

-- the bytes from the d-th on
pub rest_of : (bytes : List ℕ) (k d : ℕ) → let part = take (length bytes - d) (drop d bytes) in take (in_block k (length part)) part ≡ take (in_block k (length bytes - d)) (drop d bytes)
rest_of bytes k d = rw (take_rest bytes d, length-drop)

-- as many zeros, and as many of them
pub zeros_of : (n k d left : ℕ) → left ≡ n - d → take (in_block k left) (zero_bytes left) ≡ take (in_block k (n - d)) (drop d (zero_bytes n))
zeros_of n k d left e = rw (e, drop-replicate {X = ℕ} d n 0)

pub zeros_in : (to part : List ℕ) (at m n : ℕ) → at + m ≤ length to → m ≤ n → part ≡ zero_bytes (length (take (at + m - at) (drop at to)))
    → take at to ++ (part ++ drop (at + m - at) (drop at to)) ≡ sets to at (take m (zero_bytes n))
zeros_in to part at m n fits some e =
    let s : at + m - at ≡ m = omega arith in
    let size : length (take m (drop at to)) ≡ m = length-take-le m (drop at to) (omega (arith, length-drop at to)) in
    let is : part ≡ zero_bytes m = e ∙ rw (s, size) in
    rw (s, is, take-replicate {X = ℕ} m n 0 some) (put_at to (zero_bytes m) at m (omega (arith, length-zeros m)) (sym (length-zeros m)))

-- ---- a run read

-- the part of a list from its d-th on, with a run at the head, and so the whole with it there
in_whole : (now run part : List ℕ) (d : ℕ) → d + length run ≤ length now → part ≡ sets (drop d now) 0 run → take d now ++ (part ++ drop (length now - d) (drop d now)) ≡ sets now d run
in_whole now run part d fits e =
    let head : part ≡ over (drop d now) run = e ∙ over-sets run (drop d now) (omega (arith, length-drop d now)) in
    let tail : drop (length now - d) (drop d now) ≡ [] = drop_none (drop d now) (length now - d) (omega (arith, length-drop d now)) in
    rw (head, tail, append-nil) (put_at now run d (length run) fits refl)

module _ (blocks records : List ℕ) (f at : ℕ) (out : List ℕ) where
  whole : sets out 0 (run_of blocks records f at (length out)) ≡ run_of blocks records f at (length out)
  whole =
      let run = run_of blocks records f at (length out) in
      over-sets run out (omega (arith, length-run_of blocks records f at (length out)))
      ∙ ap (λ l. run ++ l) (drop_none out (length run) (omega (arith, length-run_of blocks records f at (length out))))
      ∙ append-nil run

  pub read_none : length out ≡ 0 → out ≡ run_of blocks records f at (length out)
  read_none e = read_start blocks records f at out ∙ ap (λ n. sets out 0 (run_of blocks records f at n)) (sym e) ∙ whole

  pub read_from : out ≡ sets out 0 (run_of blocks records f at (min (512 * (at / 512) - at) (length out)))
  read_from = let none : min (512 * (at / 512) - at) (length out) ≡ 0 = omega arith in rw none (read_start blocks records f at out)

  module _ (now : List ℕ) (i : ℕ) (so_far : now ≡ sets out 0 (run_of blocks records f at (min (512 * i - at) (length out)))) where
    pub read_to : needed (at + length out) ≤ i → now ≡ run_of blocks records f at (length out)
    read_to h = let all : min (512 * i - at) (length out) ≡ length out = omega arith in so_far ∙ ap (λ n. sets out 0 (run_of blocks records f at n)) all ∙ whole

    -- a part of the list, filled at its head
    pub read_part : length now ≡ length out → (k : ℕ) → k ≡ max at (512 * i) → at / 512 ≤ i → i < needed (at + length out) → 0 < length out → (part : List ℕ)
        → let rest = take (length now - (k - at)) (drop (k - at) now) in
        part ≡ sets rest 0 (run_of blocks records f k (in_block k (length rest)))
        → take (k - at) now ++ (part ++ drop (length now - (k - at)) (drop (k - at) now)) ≡ sets out 0 (run_of blocks records f at (min (512 * (i + 1) - at) (length out)))
    read_part same k is_k low high some part e =
        let done = part_done at (length out) i k is_k low high some in
        let within = part_in at (length out) i k is_k low high some in
        let d = k - at in
        let m = in_block k (length out - d) in
        let done' : min (512 * i - at) (length out) ≡ d = omega (arith, done, within) in
        let from : k ≡ at + d = omega (arith, within) in
        let left : length (drop d now) ≡ length out - d = length-drop d now ∙ ap (λ n. n - d) same in
        let filled : part ≡ sets (drop d now) 0 (run_of blocks records f k m) = rw (take_rest now d, left) at e in
        let put = in_whole now (run_of blocks records f k m) part d (omega (arith, length-run_of blocks records f k m, within)) filled in
        read_next blocks records f at out now d (rw done' at so_far) _ m m refl (put ∙ ap (λ j. sets now d (run_of blocks records f j m)) from)
        ∙ ap (λ n. sets out 0 (run_of blocks records f at n)) (sym (part_next at (length out) i k is_k low high some))
