-- A changed file in the tables, table by table; the file itself is the same whatever channel records lie beside.
use Rattle.std.specs.Prelude.{ℕ, zero, suc, ◌-◌, ◌<◌, ◌≡◌, refl, List, length}
use Rattle.std.proofs.Common.{arith}
use Rattle.records.specs.Numbers.{with_record}
use Rattle.meaning.specs.Store.{File, file}
use Rattle.meaning.specs.Tables.{Tables, tables, store_of, file_of, byte_of, file_length, file_record, laid, resized, put}

-- the block records after file f is changed to x
abbrev pub records_for : Tables → ℕ → File → List ℕ
records_for t f x = resized t.block_records f (file_length t.file_records f) (length x.bytes)

pub put-tables : (t : Tables) (f : ℕ) (x : File) → 0 < f
    → put t (file f x)
    ≡ tables (laid t.blocks (records_for t f x) f x.bytes) (records_for t f x)
    (with_record 8 t.file_records (f - 1) (file_record x.kind x.depth (length x.bytes))) t.channel_records
unfolding put file_length
put-tables t zero x h = absurd (omega arith)
put-tables t (suc r) x h = let e : suc r - 1 ≡ r = omega arith in rw e

pub same-file : (blocks records files c d : List ℕ) (f : ℕ) → (store_of (tables blocks records files c)).file f ≡ (store_of (tables blocks records files d)).file f
unfolding store_of file_of byte_of
same-file blocks records files c d zero = refl
same-file blocks records files c d (suc r) = refl
