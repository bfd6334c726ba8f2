-- Laws of the bytes of a file as they lie in its blocks.
use Prim.Native.Nat.{ℕ, zero, suc, ◌+◌, ◌-◌, ◌*◌, ◌/◌, ◌%◌, ◌≤◌, ◌<◌, min}
use Rattle.std.specs.Prelude.{◌≡◌, List, ◌++◌, length, take, drop}
use Rattle.std.proofs.Math.Path.{refl, ap}
use Rattle.std.proofs.Common.{sym, ◌∙◌, ⊎_elim, length-append, length-take, ext_get_or, get_or-append-add}
use native.Mathlib.Omega.{arith}
use Rattle.std.proofs.Math.ListN.{get_or, length-drop, get_or-append}
use Rattle.std.proofs.lemmas.List.Edits.{sets, sets-eq}
use Rattle.std.proofs.Math.Seq.{get_or-take, get_or-drop}
use Rattle.records.specs.Rows.{list_of, list_from}
use Rattle.records.specs.Numbers.{one}
use Rattle.records.specs.Tests.{lt_or_ge}
use Rattle.records.specs.RecordLaws.{sets-append}
use Rattle.records.specs.ListLaws.{length-list_of, get_or-list_of}
use Rattle.meaning.specs.File.{readFILE, over}
use Rattle.meaning.specs.Tables.{Tables, store_of, file_of, byte_of, block_of, length_at, file_length}
use Rattle.blocks.specs.Runs.{byte_in, run_of, in_block, Moving}
use Rattle.blocks.specs.InBlock.{moving_fits}

-- a run laid at the head
pub over-sets : (xs out : List ℕ) → length xs ≤ length out → sets out 0 xs ≡ over out xs
over-sets xs out h = let e : 0 + length xs ≡ length xs = omega arith in rw e at (sets-eq xs out 0 (omega arith))

module _ (blocks records : List ℕ) (f : ℕ) where
  pub length-run_of : (at n : ℕ) → length (run_of blocks records f at n) ≡ n
  unfolding run_of
  length-run_of at n = length-list_of n (λ j. byte_in blocks records f (at + j))

  pub get_or-run_of : (at n j : ℕ) → j < n → get_or (run_of blocks records f at n) j 0 ≡ byte_in blocks records f (at + j)
  unfolding run_of
  get_or-run_of at n j h = get_or-list_of n (λ j. byte_in blocks records f (at + j)) j 0 h

  -- a list of n bytes, each as it lies
  is_run_of : (at n : ℕ) (l : List ℕ) → length l ≡ n → ((j : ℕ) → j < n → get_or l j 0 ≡ byte_in blocks records f (at + j)) → l ≡ run_of blocks records f at n
  is_run_of at n l e h =
      ext_get_or 0 l (run_of blocks records f at n) (e ∙ sym (length-run_of at n))
      (λ j b. let b' : j < n = rw e at b in h j b' ∙ sym (get_or-run_of at n j b'))

  -- one run right after another is one run
  pub run_of-append : (at n m : ℕ) → run_of blocks records f at n ++ run_of blocks records f (at + n) m ≡ run_of blocks records f at (n + m)
  run_of-append at n m =
      is_run_of at (n + m) (first ++ second) (rw (length-append, length-run_of, length-run_of)) byte
    where
      first : List ℕ
      first = run_of blocks records f at n

      second : List ℕ
      second = run_of blocks records f (at + n) m

      byte : (j : ℕ) → j < n + m → get_or (first ++ second) j 0 ≡ byte_in blocks records f (at + j)
      byte j h =
          ⊎_elim
          (λ (l : j < n). get_or-append first second 0 j (rw length-run_of l) ∙ get_or-run_of at n j l)
          (λ (l : n ≤ j).
          let e : j ≡ length first + (j - n) = omega (arith, length-run_of at n) in
          let e' : at + n + (j - n) ≡ at + j = omega arith in
          ap (λ (i : ℕ). get_or (first ++ second) i 0) e
          ∙ get_or-append-add first second (j - n) 0 ∙ get_or-run_of (at + n) m (j - n) (omega arith) ∙ ap (byte_in blocks records f) e')
          (lt_or_ge j n)

  -- a run within one block
  pub run_of_block : (k m place : ℕ) → k % 512 + m ≤ 512 → place ≡ 512 * block_of records f (k / 512) → place + k % 512 + m ≤ length blocks
      → take m (drop (place + k % 512) blocks) ≡ run_of blocks records f k m
  unfolding byte_in one
  run_of_block k m place short is fits =
      is_run_of k m (take m (drop (place + k % 512) blocks)) (simp (length-take, length-drop) (omega arith)) byte
    where
      byte : (j : ℕ) → j < m → get_or (take m (drop (place + k % 512) blocks)) j 0 ≡ byte_in blocks records f (k + j)
      byte j h =
          let d : (k + j) / 512 ≡ k / 512 = omega arith in
          let e : place + k % 512 + j ≡ place + (k + j) % 512 = omega arith in
          rw (d, ← is, get_or-take, get_or-drop, e)

-- ---- as the code meets them

module _ (blocks records : List ℕ) (f k n : ℕ) (out : List ℕ) (start : ℕ) (moving : Moving blocks records f k n out start)
    (place : ℕ) (is-place : place ≡ 512 * block_of records f (k / 512)) (m : ℕ) (is_m : m ≡ in_block k n) where
  pub moving-read : (next : List ℕ) → next ≡ sets out start (take m (drop (place + k % 512) blocks))
      → next ≡ sets out start (run_of blocks records f k (in_block k n))
  moving-read next e =
      e ∙ ap (sets out start) (run_of_block blocks records f k m place (omega arith) is-place (moving_fits blocks records f k n out start moving place is-place m is_m))
      ∙ ap (λ (m : ℕ). sets out start (run_of blocks records f k m)) is_m

-- a run read part by part: so far, the first `done` bytes of it
module _ (blocks records : List ℕ) (f at : ℕ) (out : List ℕ) where
  pub read_start : out ≡ sets out 0 (run_of blocks records f at 0)
  unfolding run_of list_of list_from
  read_start = refl

  module _ (now : List ℕ) (done : ℕ) (so_far : now ≡ sets out 0 (run_of blocks records f at done)) where
    pub read_next : (next : List ℕ) (m r : ℕ) → r ≡ m → next ≡ sets now done (run_of blocks records f (at + done) m)
        → next ≡ sets out 0 (run_of blocks records f at (done + r))
    read_next next m r is e =
        rw (is, e, so_far, ← run_of-append blocks records f at done m)
        (sets-append (run_of blocks records f at done) (run_of blocks records f (at + done) m) out 0 done (omega (arith, length-run_of blocks records f at done)))

    pub read-end : (n : ℕ) → n ≤ length out → done ≤ n → n ≤ done → now ≡ over out (run_of blocks records f at n)
    read-end n fits l h =
        let e : done ≡ n = omega arith in
        rw (e, over-sets (run_of blocks records f at n) out (omega (arith, length-run_of blocks records f at n))) at so_far

-- ---- the bytes that a file has

as_it_lies : (t : Tables) (f k : ℕ) → byte_of t f k ≡ byte_in t.blocks t.block_records f (0 + k)
unfolding byte_of byte_in
as_it_lies t f k = let e : 0 + k ≡ k = omega arith in rw e

module _ (t : Tables) (f : ℕ) (from_one : 0 < f) where
  pub file-bytes : ((store_of t).file f).bytes ≡ run_of t.blocks t.block_records f 0 (file_length t.file_records f)
  unfolding store_of file_of file_length
  file-bytes = go f from_one
    where
      go : (f : ℕ) → 0 < f → ((store_of t).file f).bytes ≡ run_of t.blocks t.block_records f 0 (file_length t.file_records f)
      go zero h = absurd (omega arith)
      go (suc r) h = is_run_of t.blocks t.block_records (suc r) 0 (length_at t.file_records r) (list_of (length_at t.file_records r) (byte_of t (suc r)))
          (length-list_of (length_at t.file_records r) (byte_of t (suc r)))
          (λ j h. get_or-list_of (length_at t.file_records r) (byte_of t (suc r)) j 0 h ∙ as_it_lies t (suc r) j)

  pub read-bytes : (at n : ℕ) → readFILE ((store_of t).file f).bytes at n
      ≡ run_of t.blocks t.block_records f at (min n (file_length t.file_records f - at))
  unfolding readFILE
  read-bytes at n =
      let size = file_length t.file_records f in
      let whole = run_of t.blocks t.block_records f 0 size in
      rw file-bytes
      (is_run_of t.blocks t.block_records f at (min n (size - at)) (take n (drop at whole))
      (simp (length-take, length-drop, length-run_of) refl)
      (λ j (h : j < min n (size - at)).
      let e : 0 + (at + j) ≡ at + j = omega arith in
      get_or-take n (drop at whole) j 0 (omega arith) ∙ get_or-drop at whole j 0
      ∙ get_or-run_of t.blocks t.block_records f 0 size (at + j) (omega arith) ∙ ap (byte_in t.blocks t.block_records f) e))
