-- A file that is to be as long or longer: nothing is let go, places are taken, and what it held lies where it lay.
use Rattle.std.specs.Prelude.{ℕ, ◌+◌, ◌-◌, ◌*◌, ◌/◌, ◌%◌, ◌≤◌, ◌<◌, ◌≡◌, ◌≢◌, List, false, get_or, eqb}
use Rattle.std.proofs.Math.Path.{refl, sym}
use Rattle.std.proofs.Common.{ap, ◌∙◌, ⊎_elim, ne_eqb}
use native.Mathlib.Omega.{arith}
use Rattle.std.proofs.Math.ListN.{length}
use Rattle.std.proofs.lemmas.Bool.{lt-leb}
use Rattle.records.specs.Numbers.{one}
use Rattle.records.specs.Tests.{and_false, same_or_not}
use Rattle.records.specs.ListLaws.{is_list_of}
use Rattle.meaning.specs.File.{needed}
use Rattle.meaning.specs.Store.{free_blocks}
use Rattle.meaning.specs.Tables.{Tables, store_of, block_count, file_count, file_length, owner, place, block_of, released, taken_from, resized}
use Rattle.layout.specs.Layout.{Layout}
use Rattle.layout.specs.Blocks.{Kept, its_place}
use Rattle.layout.specs.Places.{owned_below, its_block}
use Rattle.layout.specs.Counting.{free_blocks_lem, needs_within}
use Rattle.layout.specs.Releasing.{is_gone}
use Rattle.layout.specs.Taking.{Taken, Now, taken-from, length-taken_from}
use Rattle.layout.specs.Resizing.{placed}
use Rattle.blocks.specs.Runs.{byte_no, byte_in, Housed}
use Rattle.blocks.specs.RunLaws.{Within}
use Rattle.blocks.specs.ReadLaws.{file-bytes, get_or-run_of}

module _ (t : Tables) (L : Layout t) (f size : ℕ) (some : 0 < f) (last : f ≤ file_count t.file_records)
    (room : needed size - needed (file_length t.file_records f) ≤ free_blocks (store_of t)) where
  -- what has room is not long
  pub near_end : size ≤ 65536
  near_end = omega (arith, needs_within t L f last, L.lengths.few-blocks)

  module _ (longer : file_length t.file_records f ≤ size) where
    -- the block records with the new places taken
    abbrev pub grown : List ℕ
    grown = taken_from t.block_records f (needed (file_length t.file_records f)) (needed size - needed (file_length t.file_records f))

    none_gone : (b : ℕ) → b < block_count t.block_records → is_gone t.block_records f (needed size) b ≡ false
    none_gone b h =
        ⊎_elim
        (λ (o : owner t.block_records b ≡ f).
        let l : place t.block_records b < needed size = omega (arith, owned_below t L f (omega arith) b h o) in
        rw (lt-leb (needed size) (place t.block_records b) l) (and_false (eqb (owner t.block_records b) f)))
        (λ (d : owner t.block_records b ≢ f). rw (ne_eqb (owner t.block_records b) f d))
        (same_or_not (owner t.block_records b) f)

    released_none : released t.block_records f (needed size) ≡ t.block_records
    unfolding released one
    released_none =
        is_list_of (length t.block_records) _ 0 t.block_records refl
        (λ k (h : k < length t.block_records). rw (none_gone (k / 4) (omega (arith, L.lengths.block_records_lem))))

    pub resized-grown : resized t.block_records f (file_length t.file_records f) size ≡ grown
    unfolding resized
    resized-grown = rw released_none

    pub length-grown : length grown ≡ length t.block_records
    length-grown = length-taken_from (needed size - needed (file_length t.file_records f)) t.block_records f (needed (file_length t.file_records f))

    count-grown : block_count grown ≡ block_count t.block_records
    count-grown = ap (λ (n : ℕ). n / 4) length-grown

    -- each byte of the new file has its place
    pub grown_housed : Housed t.blocks grown f 0 size
    grown_housed =
        record {
          few = rw count-grown L.lengths.few-blocks;
          near = λ k l (u : k < 0 + size). omega (arith, near_end);
          whole = L.lengths.blocks ∙ ap (λ (n : ℕ). 512 * n) (sym count-grown);
          each = λ k l (u : k < 0 + size). rw (count-grown, ← resized-grown) ((placed t L f size (omega arith) last room).own (k / 512) (omega arith));
        }

    -- and what it held lies there
    grown-taken : Taken (block_count t.block_records) f (needed (file_length t.file_records f)) (needed size - needed (file_length t.file_records f)) t.block_records grown
    grown-taken =
        let within = needs_within t L f last in
        let few = L.lengths in
        taken-from (block_count t.block_records) f (omega arith) (omega arith)
        (needed size - needed (file_length t.file_records f)) (needed (file_length t.file_records f)) t.block_records refl (omega arith)
        (omega (arith, free_blocks_lem t L))

    as_before : (b : ℕ) → b < block_count t.block_records → place grown b < needed (file_length t.file_records f) → Kept t.block_records grown b
    as_before b h l = ⊎_elim (λ k. k) (λ (n : Now f (needed (file_length t.file_records f)) (needed size - needed (file_length t.file_records f)) grown b). absurd (omega (arith, n.now-from))) (grown-taken.each b h)

    pub grown_lies : (k : ℕ) → k < length t.blocks → Within grown f 0 (file_length t.file_records f) k
        → get_or t.blocks k 0 ≡ get_or ((store_of t).file f).bytes (byte_no grown k) 0
    unfolding byte_in one
    grown_lies k h r =
        let R = t.block_records in
        let size = file_length t.file_records f in
        let c : k / 512 < block_count R = omega (arith, L.lengths.blocks) in
        let kept = as_before (k / 512) c (omega (arith, r.high)) in
        let o : owner R (k / 512) ≡ f = sym kept.same-owner ∙ r.its_file in
        let i : (0 + byte_no grown k) / 512 ≡ place grown (k / 512) = omega arith in
        let j : (0 + byte_no grown k) % 512 ≡ k % 512 = omega arith in
        let b : block_of R f (place grown (k / 512)) ≡ k / 512 =
        its_block t L f (omega arith) (place grown (k / 512)) (k / 512) c (its_place R f (place grown (k / 512)) (k / 512) o (sym kept.same_place)) in
        let e : 512 * (k / 512) + k % 512 ≡ k = omega arith in
        sym (rw (file-bytes t f some) (get_or-run_of t.blocks R f 0 size (byte_no grown k) (omega (arith, r.high)) ∙ rw (i, j, b, e)))
