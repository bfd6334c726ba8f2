-- Soundness as the code tests it: the rules of 01 in the order in which a later one may lean on an earlier one.
use Rattle.std.specs.Prelude.{ℕ, zero, suc, ◌+◌, ◌*◌, ◌≤◌, ◌≡◌, List, [], ◌∷◌, Bool, true, ◌&&◌}
use Rattle.std.proofs.Common.{sym, ◌∙◌, arith}
use Rattle.std.proofs.Math.Path.{ap}
use Rattle.records.specs.Rows.{all_of, every}
use Rattle.records.specs.RowLaws.{every_all, every_cong}
use Rattle.records.specs.Numbers.{zeros}
use Rattle.records.specs.Tests.{both, and_both, all_of-true, true-all_of, both_ways}
use Rattle.meaning.specs.File.{longest}
use Rattle.meaning.specs.Tables.{Tables, tables, store_of, block_count, file_count, channel_count, file_length}
use Rattle.meaning.specs.Sound.{lengths_agree, zeros_stand, block_sound, placed_once, blocks_sound, layout_sound, file_sound, files_sound}
use Rattle.layout.specs.Layout.{Layout, layout, length-file}
use Rattle.layout.specs.Places.{block_there}
use Rattle.soundness.specs.FormLaws.{file-sound}
use Rattle.soundness.specs.WellFacts.{form-size}
use Rattle.soundness.specs.Seen.{files_store, record_tables, files_sound-seen, block_sound-seen}
use Rattle.soundness.specs.Slots.{Placed}

-- no sound file is longer than 32,768
pub files_short : (files : List ℕ) → files_sound (files_store files) ≡ true → (f : ℕ) → f ≤ file_count files → file_length files f ≤ longest
unfolding files_sound store_of file_length
files_short files e zero h = omega arith
files_short files e (suc r) h =
    let x = (files_store files).file (suc r) in
    let size = form-size x (file-sound x (suc r) (every_all (file_count files) (λ i. file_sound (suc i) ((files_store files).file (suc i))) e r h)).0 in
    omega (arith, size, length-file (tables [] [] files []) (suc r))

abbrev pub zeros_in : List ℕ → Bool
zeros_in records = every (file_count records) (λ i. zeros records (8 * i + 2) 2)

-- the rules of the tables, and of file records, on which the rule of places leans
unfoldable pub tables_sound : Tables → Bool
tables_sound t = layout_sound t && files_sound (store_of t)

module _ (t : Tables) where
  abbrev pub owners_sound : Bool
  owners_sound = every (block_count t.block_records) (block_sound (record_tables t.block_records t.file_records))

  abbrev pub places_sound : Bool
  places_sound = every (file_count t.file_records) (λ r. placed_once (record_tables t.block_records t.file_records) (suc r))

  -- in the order of the code
  abbrev pub table_rules : List Bool
  table_rules =
      lengths_agree t ∷ zeros_in t.file_records ∷ zeros_in t.channel_records ∷ files_sound (files_store t.file_records) ∷ owners_sound ∷ places_sound ∷ []

  blocks-seen : blocks_sound t ≡ owners_sound && places_sound
  unfolding blocks_sound placed_once
  blocks-seen = ap (λ o. o && every (file_count t.file_records) (λ r. placed_once t (suc r)))
      (every_cong (block_count t.block_records) (λ b. block_sound t b) (block_sound (record_tables t.block_records t.file_records)) (λ b h. block_sound-seen t b))

  pub table_rules_lem : tables_sound t ≡ all_of table_rules
  unfolding tables_sound layout_sound zeros_stand
  table_rules_lem =
      both_ways (tables_sound t) (all_of table_rules)
      (λ e.
      let (l, files) = both (layout_sound t) (files_sound (store_of t)) e in
      let (lengths, (zeros-stand, (blocks-sound, _))) = all_of-true _ l in
      let (file-zeros, channel_zeros) = both (zeros_in t.file_records) (zeros_in t.channel_records) zeros-stand in
      let (owners, places) = both owners_sound places_sound (sym blocks-seen ∙ blocks-sound) in
      true-all_of table_rules (lengths, (file-zeros, (channel_zeros, (sym (files_sound-seen t) ∙ files, (owners, (places, tt)))))))
      (λ e.
      let (lengths, (file-zeros, (channel_zeros, (files, (owners, (places, _)))))) = all_of-true table_rules e in
      and_both (layout_sound t) (files_sound (store_of t))
      (true-all_of _ (lengths, (and_both (zeros_in t.file_records) (zeros_in t.channel_records) file-zeros channel_zeros, (blocks-seen ∙ and_both owners_sound places_sound owners places, tt))))
      (files_sound-seen t ∙ files))

-- what the later rules lean on
module _ (t : Tables) (e : tables_sound t ≡ true) where
  tables_parts : (layout_sound t ≡ true) × (files_sound (store_of t) ≡ true)
  unfolding tables_sound
  tables_parts = both (layout_sound t) (files_sound (store_of t)) e

  tables_layout : Layout t
  tables_layout = layout t tables_parts.0

  pub tables_placed : Placed t.blocks t.block_records t.file_records
  tables_placed =
      let l = tables_layout.lengths in
      record {
        few-blocks = l.few-blocks;
        whole = l.blocks;
        few-files = l.few-files;
        short = files_short t.file_records (sym (files_sound-seen t) ∙ tables_parts.1);
        there = block_there t tables_layout;
      }

  pub tables-few : (file_count t.file_records ≤ 64) × (channel_count t.channel_records ≤ 16)
  tables-few = let l = tables_layout.lengths in (l.few-files, l.few-channels)
