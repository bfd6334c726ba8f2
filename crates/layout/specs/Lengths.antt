-- Table lengths that agree with one number of blocks, files and channels.
use Rattle.std.specs.Prelude.{ℕ, ◌*◌, ◌≤◌, ◌≡◌, true, length, leb}
use Rattle.std.proofs.Common.{eq-eqb, eqb-true, leb-true, le-leb}
use Rattle.records.specs.Tests.{both, all_of-true, true-all_of}
use Rattle.meaning.specs.Tables.{Tables, block_count, file_count, channel_count}
use Rattle.meaning.specs.Sound.{between, lengths_agree}

pub record Lengths (t : Tables) : Type 0 where
  pub some_blocks : 1 ≤ block_count t.block_records
  pub few-blocks : block_count t.block_records ≤ 128
  pub blocks : length t.blocks ≡ 512 * block_count t.block_records
  pub block_records_lem : length t.block_records ≡ 4 * block_count t.block_records
  pub some_files : 1 ≤ file_count t.file_records
  pub few-files : file_count t.file_records ≤ 64
  pub file-records : length t.file_records ≡ 8 * file_count t.file_records
  pub some_channels : 1 ≤ channel_count t.channel_records
  pub few-channels : channel_count t.channel_records ≤ 16
  pub channel_records_lem : length t.channel_records ≡ 8 * channel_count t.channel_records

-- ---- the test passes exactly where this holds

-- what stands between two numbers
in_range : (low high n : ℕ) → between low high n ≡ true → (low ≤ n) × (n ≤ high)
in_range low high n e =
    let (l, h) = both (leb low n) (leb n high) e in
    (leb-true low n l, leb-true n high h)

of_range : (low high n : ℕ) → low ≤ n → n ≤ high → between low high n ≡ true
of_range low high n l h = rw (le-leb low n l, le-leb n high h)

pub lengths_agree_lem : (t : Tables) → lengths_agree t ≡ true → Lengths t
unfolding lengths_agree
lengths_agree_lem t e =
    let (b, (blocks, (block_records_lem, (f, (file-records, (c, (channel_records_lem, _))))))) = all_of-true _ e in
    let (b-low, b-high) = in_range 1 128 _ b in
    let (f-low, f-high) = in_range 1 64 _ f in
    let (c-low, c-high) = in_range 1 16 _ c in
    record {
      some_blocks = b-low;
      few-blocks = b-high;
      blocks = eqb-true _ _ blocks;
      block_records_lem = eqb-true _ _ block_records_lem;
      some_files = f-low;
      few-files = f-high;
      file-records = eqb-true _ _ file-records;
      some_channels = c-low;
      few-channels = c-high;
      channel_records_lem = eqb-true _ _ channel_records_lem;
    }

pub agree_lengths : (t : Tables) → Lengths t → lengths_agree t ≡ true
unfolding lengths_agree
agree_lengths t l =
    true-all_of _ (
      of_range 1 128 _ l.some_blocks l.few-blocks,
      (
        eq-eqb _ _ l.blocks,
        (
          eq-eqb _ _ l.block_records_lem,
          (
            of_range 1 64 _ l.some_files l.few-files,
            (
              eq-eqb _ _ l.file-records,
              (
                of_range 1 16 _ l.some_channels l.few-channels,
                (eq-eqb _ _ l.channel_records_lem, tt),
              ),
            ),
          ),
        ),
      ),
    )

-- tables of the same lengths have lengths that agree
pub same_lengths : (t u : Tables) → length u.blocks ≡ length t.blocks → length u.block_records ≡ length t.block_records
    → length u.file_records ≡ length t.file_records → length u.channel_records ≡ length t.channel_records → Lengths t → Lengths u
same_lengths t u d b f c l =
    record {
      some_blocks = rw b l.some_blocks;
      few-blocks = rw b l.few-blocks;
      blocks = rw (b, d) l.blocks;
      block_records_lem = rw b l.block_records_lem;
      some_files = rw f l.some_files;
      few-files = rw f l.few-files;
      file-records = rw f l.file-records;
      some_channels = rw c l.some_channels;
      few-channels = rw c l.few-channels;
      channel_records_lem = rw c l.channel_records_lem;
    }
