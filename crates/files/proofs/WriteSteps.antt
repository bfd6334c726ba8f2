-- What is known of a write step by step: the old length, the new one, the places taken, the gap filled, the data laid.
use Prim.Native.Nat.{ℕ, ◌+◌, ◌-◌, ◌≤◌, ◌<◌, max}
use mathlib.Core.Path.{◌≡◌, refl, sym, ap, ◌∙◌}
use mathlib.Core.List.{List}
use native.Mathlib.Omega.{arith}
use lib.ListN.{length, get_or}
use Rattle.records.specs.Numbers.{with_record}
use Rattle.meaning.specs.File.{needed, zero_bytes, writeFILE}
use Rattle.meaning.proofs.FileLaws.{length-write}
use Rattle.meaning.specs.Store.{File, file, free_blocks}
use Rattle.meaning.specs.Tables.{Tables, tables, store_of, file_count, kind_at, depth_at, length_at, file_length, file_record, taken_from, laid, put}
use Rattle.tables.specs.StoreLaws.{file-length, store_kind, store_depth, store_length}
use Rattle.blocks.specs.Runs.{byte_no, laid_run, Housed}
use Rattle.blocks.specs.RunLaws.{Within, length-laid_run}
use Rattle.blocks.specs.InBlock.{housed_part}
use Rattle.files.specs.Files.{Writable, with_write}
use Rattle.files.specs.PutLaws.{records_for, put-tables, same-file}
use Rattle.files.specs.WriteLaws.{write-laid}
use Rattle.files.specs.Growing.{near_end, grown, resized-grown, grown_housed, grown_lies}

module _ (blocks records files : List ℕ) (f at : ℕ) (bytes : List ℕ) (can : Writable blocks records files f at bytes) where
  abbrev t : Tables
  t = tables blocks records files can.channels

  abbrev x : File
  x = (store_of t).file f

  pub from_one : 0 < f
  from_one = can.fits.from_one

  pub to_last : f ≤ file_count files
  unfolding store_of
  to_last = can.fits.to_last

  module _ (old : ℕ) (is_old : old ≡ length_at files (f - 1)) where
    length-old : length x.bytes ≡ old
    length-old = store_length t f from_one ∙ sym is_old

    file-old : file_length files f ≡ old
    file-old = file-length files f from_one ∙ sym is_old

    module _ (new : ℕ) (is_new : new ≡ max old (at + length bytes)) where
      length-new : length (writeFILE x.bytes at bytes) ≡ new
      length-new = length-write x.bytes at bytes ∙ rw length-old (sym is_new)

      room : needed new - needed (file_length files f) ≤ free_blocks (store_of t)
      room = rw (length-new, length-old, ← file-old) at can.fits.room

      pub new_near : new ≤ 65536
      new_near = near_end t can.layout f new from_one to_last room

      pub old_near : old ≤ 65536
      old_near = omega (arith, new_near)

-- the places of the new file are taken
pub record Grown (blocks records files : List ℕ) (f at : ℕ) (bytes : List ℕ) (old new : ℕ) (next : List ℕ) : Type 0 where
  pub can : Writable blocks records files f at bytes
  pub is_old : old ≡ length_at files (f - 1)
  pub is_new : new ≡ max old (at + length bytes)
  pub is_next : next ≡ taken_from records f (needed old) (needed new - needed old)

module _ (blocks records files : List ℕ) (f at : ℕ) (bytes : List ℕ) (old new : ℕ) (next : List ℕ) (g : Grown blocks records files f at bytes old new next) where
  open g use {can, is_old, is_new, is_next}

  abbrev held : Tables
  held = tables blocks records files can.channels

  abbrev was : File
  was = (store_of held).file f

  some : 0 < f
  some = from_one blocks records files f at bytes can

  last : f ≤ file_count files
  last = to_last blocks records files f at bytes can

  file_is : file_length files f ≡ old
  file_is = file-old blocks records files f at bytes can old is_old

  room_is : needed new - needed (file_length files f) ≤ free_blocks (store_of held)
  room_is = room blocks records files f at bytes can old is_old new is_new

  longer : file_length files f ≤ new
  longer = omega (arith, file_is)

  abbrev places : List ℕ
  places = grown held can.layout f new some last room_is longer

  next-grown : next ≡ places
  next-grown = is_next ∙ rw file_is

  all_housed : Housed blocks next f 0 new
  all_housed = rw next-grown (grown_housed held can.layout f new some last room_is longer)

  lies : (R : List ℕ) (n : ℕ) → R ≡ places → n ≡ file_length files f
      → (k : ℕ) → k < length blocks → Within R f 0 n k → get_or blocks k 0 ≡ get_or was.bytes (byte_no R k) 0
  lies R n e m = rw (e, m) (grown_lies held can.layout f new some last room_is longer)

  module _ (gap : ℕ) (is-gap : gap ≡ at - old) where
    pub gap_housed : Housed blocks next f old gap
    gap_housed = housed_part blocks blocks next f 0 new old gap all_housed refl (omega arith) (omega arith)

    module _ (filled : List ℕ) (is-filled : filled ≡ laid_run blocks next f old (zero_bytes gap)) where
      length-filled : length filled ≡ length blocks
      length-filled = ap length is-filled ∙ length-laid_run blocks next f old (zero_bytes gap)

      pub data_housed : Housed filled next f at (length bytes)
      data_housed = housed_part blocks filled next f 0 new at (length bytes) all_housed length-filled (omega arith) (omega arith)

      module _ (done : List ℕ) (is-done : done ≡ laid_run filled next f at bytes) where
        size : length was.bytes ≡ old
        size = length-old blocks records files f at bytes can old is_old

        new-size : length (writeFILE was.bytes at bytes) ≡ new
        new-size = length-new blocks records files f at bytes can old is_old new is_new

        done_laid : done ≡ laid blocks next f (writeFILE was.bytes at bytes)
        done_laid =
            let e : laid_run blocks next f old (zero_bytes gap) ≡ laid_run blocks next f (length was.bytes) (zero_bytes (at - length was.bytes)) =
            rw (size, is-gap) in
            is-done ∙ ap (λ (l : List ℕ). laid_run l next f at bytes) (is-filled ∙ e)
            ∙ write-laid blocks next f was.bytes (lies next (length was.bytes) next-grown (size ∙ sym file_is)) at bytes

        pub wrote : (kind depth : ℕ) → kind ≡ kind_at files (f - 1) → depth ≡ depth_at files (f - 1)
            → (records-of : List ℕ) → records-of ≡ with_record 8 files (f - 1) (file_record kind depth new)
            → (channels : List ℕ) → tables done next records-of channels
            ≡ put (tables blocks records files channels) (file f (with_write ((store_of (tables blocks records files channels)).file f) at bytes))
        wrote kind depth is-kind is-depth records-of is-record channels =
            let u = tables blocks records files channels in
            let y : (store_of u).file f ≡ was = same-file blocks records files channels can.channels f in
            let x' = with_write was at bytes in
            let r : records_for u f x' ≡ next = rw new-size (resized-grown held can.layout f new some last room_is longer ∙ sym next-grown) in
            let b : laid blocks (records_for u f x') f x'.bytes ≡ done = rw r (sym done_laid) in
            let d : with_record 8 files (f - 1) (file_record was.kind was.depth (length x'.bytes)) ≡ records-of =
            rw (new-size, store_kind held f some, store_depth held f some, ← is-kind, ← is-depth) (sym is-record) in
            sym (ap (λ (z : File). put u (file f (with_write z at bytes))) y ∙ put-tables u f x' some ∙ (λ i. tables (b i) (r i) (d i) channels))
