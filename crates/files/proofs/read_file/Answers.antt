-- What the file has after the position lies in its places, and is what readFILE gives.
use Prim.Native.Nat.{ℕ, ◌+◌, ◌-◌, ◌/◌, ◌≤◌, ◌<◌, min}
use mathlib.Core.Path.{◌≡◌, sym, ap, ◌∙◌}
use mathlib.Core.List.{List, ◌++◌}
use native.Mathlib.Omega.{arith}
use Rattle.std.proofs.Common.{length-take-le}
use lib.ListN.{length, take, drop}
use Rattle.meaning.specs.File.{readFILE}
use Rattle.meaning.specs.Tables.{tables, store_of, length_at, file_length}
use Rattle.tables.specs.StoreLaws.{file-length}
use Rattle.layout.specs.Counting.{needs_within}
use Rattle.blocks.specs.Runs.{run_of, Housed}
use Rattle.blocks.specs.ReadLaws.{length-run_of, read-bytes}
use Rattle.files.specs.Files.{HasFile, Reads}
use Rattle.files.proofs.read_file.Goals as goal

module _ (blocks records files : List ℕ) (f at : ℕ) (has : HasFile blocks records files f) (size : ℕ) (is-size : size ≡ length_at files (f - 1))
    (left : ℕ) (is-left : left ≡ size - at) (buffer : List ℕ) (n : ℕ) (is-count : n ≡ min (length buffer) left) where
  file-size : file_length files f ≡ size
  file-size = file-length files f has.from_one ∙ sym is-size

  read_housed : Housed blocks records f at n
  read_housed =
      let t = tables blocks records files has.channels in
      let few = needs_within t has.layout f has.to_last in
      let lengths = has.layout.lengths in
      record {
        few = lengths.few-blocks;
        near = λ k (l : at ≤ k) (u : k < at + n). omega (arith, file-size, lengths.few-blocks);
        whole = lengths.blocks;
        each = λ k (l : at ≤ k) (u : k < at + n). has.layout.exact f (k / 512) (omega (arith, file-size));
      }

  as_read : (channels : List ℕ) → readFILE ((store_of (tables blocks records files channels)).file f).bytes at (length buffer) ≡ run_of blocks records f at n
  as_read channels =
      let e : min (length buffer) (file_length files f - at) ≡ n = omega (arith, file-size) in
      read-bytes (tables blocks records files channels) f has.from_one at (length buffer) ∙ ap (run_of blocks records f at) e

  -- the head of the buffer, which is filled
  head : length (take n buffer) ≡ n
  head = length-take-le n buffer (omega arith)

  head_housed : Housed blocks records f at (length (take n buffer))
  head_housed = rw head read_housed

  has_read : (filled : List ℕ) → filled ≡ run_of blocks records f at (length (take n buffer)) → Reads blocks records files f at buffer (filled ++ drop n buffer) n
  has_read filled e =
      let is : filled ≡ run_of blocks records f at n = rw head at e in
      record {
        counts = λ channels. rw (as_read channels) (sym (length-run_of blocks records f at n));
        fills = λ channels. rw (as_read channels, is, length-run_of);
      }

pub read_run-requires : goal.read_run-requires
read_run-requires c = search head_housed

pub returns : goal.returns
returns c = search has_read
