-- A store is sound exactly where the rules that the code tests hold.
use Rattle.std.specs.Prelude.{suc, ◌≡◌, List, [], ◌∷◌, Bool, ◌&&◌}
use Rattle.std.proofs.Math.Path.{sym}
use Rattle.std.proofs.Common.{◌∙◌}
use Rattle.records.specs.Rows.{all_of, every}
use Rattle.records.specs.Tests.{both, and_both, all_of-true, true-all_of, both_ways}
use Rattle.meaning.specs.Tables.{Tables, store_of}
use Rattle.meaning.specs.Sound.{layout_sound, files_sound, channels_sound, directories_sound, is_named, names_sound, well_formed, sound}
use Rattle.soundness.specs.Seen.{channels_store, channels_sound-seen}
use Rattle.soundness.specs.Slots.{directories_store}
use Rattle.soundness.specs.DirectoryRules.{directories_rule}
use Rattle.soundness.specs.SoundLaws.{tables_sound}
use Rattle.soundness.specs.NamesSeen.{deeper_sound, directories_rules, directories_rule-seen}

module _ (t : Tables) where
  abbrev pub named_sound : Bool
  named_sound = every (store_of t).file_count (λ i. is_named (store_of t) (suc i))

  -- in the order of the code
  abbrev pub sound_rules : List Bool
  sound_rules =
      tables_sound t
      ∷ channels_sound (channels_store t.file_records t.channel_records)
      ∷ directories_rule (directories_store t.blocks t.block_records t.file_records)
      ∷ named_sound
      ∷ []

  directories_seen : directories_rule (directories_store t.blocks t.block_records t.file_records) ≡ directories_sound (store_of t) && deeper_sound (store_of t)
  directories_seen = sym (directories_rule-seen t) ∙ directories_rules (store_of t)

  abbrev well_rules : List Bool
  well_rules = files_sound (store_of t) ∷ channels_sound (store_of t) ∷ directories_sound (store_of t) ∷ names_sound (store_of t) ∷ []

  pub sound-rules : sound t ≡ all_of sound_rules
  unfolding sound well_formed tables_sound names_sound
  sound-rules =
      both_ways (sound t) (all_of sound_rules)
      (λ e.
      let (laid, well) = both (layout_sound t) (well_formed (store_of t)) e in
      let (files, (channels, (directories, (named, _)))) = all_of-true well_rules well in
      let (deeper, each) = both (deeper_sound (store_of t)) named_sound named in
      true-all_of sound_rules (
        and_both (layout_sound t) (files_sound (store_of t)) laid files,
        (
          sym (channels_sound-seen t) ∙ channels,
          (directories_seen ∙ and_both (directories_sound (store_of t)) (deeper_sound (store_of t)) directories deeper, (each, tt)),
        ),
      ))
      (λ e.
      let (tables-ok, (channels, (directories, (each, _)))) = all_of-true sound_rules e in
      let (laid, files) = both (layout_sound t) (files_sound (store_of t)) tables-ok in
      let (recorded, deeper) = both (directories_sound (store_of t)) (deeper_sound (store_of t)) (sym directories_seen ∙ directories) in
      and_both (layout_sound t) (well_formed (store_of t)) laid
      (true-all_of well_rules (files, (channels_sound-seen t ∙ channels, (recorded, (and_both (deeper_sound (store_of t)) named_sound deeper each, tt))))))
