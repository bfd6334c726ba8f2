use Prim.Native.Nat.{ℕ}
use mathlib.Core.Path.{◌≡◌, refl, sym, ◌∙◌}
use mathlib.Core.List.{List, [], ◌∷◌}
use mathlib.Core.Bool.{Bool, true, ◌&&◌}
use Rattle.records.specs.Tests.{and_left, and_right}
use Rattle.meaning.specs.Types.{tables_of}
use Rattle.meaning.specs.Tables.{Tables, file_count}
use Rattle.meaning.specs.Sound.{channels_sound, sound}
use Rattle.soundness.specs.Rules.{all_named_by}
use Rattle.soundness.specs.Seen.{channels_store}
use Rattle.soundness.specs.Slots.{directories_store}
use Rattle.soundness.specs.DirectoryRules.{directories_rule}
use Rattle.soundness.specs.Counts.{Counts}
use Rattle.soundness.specs.SoundLaws.{tables_sound, tables_placed, tables-few}
use Rattle.soundness.specs.NamesSeen.{all_named}
use Rattle.soundness.specs.SoundRules.{named_sound, sound-rules}
use Rattle.soundness.specs.Together.{met, unmet, in_turn_all}
use Rattle.soundness.proofs.is_sound.Goals as goal
use Rattle.soundness.proofs.is_sound.Goals.{Joined-tables_sound, Joined-channels_sound, then-tables_sound, else-tables_sound, then-channels_sound, else-channels_sound}

module _ (t : Tables) where
  -- the first two rules, and three
  abbrev two : Bool
  two = tables_sound t && channels_sound (channels_store t.file_records t.channel_records)

  abbrev three : Bool
  three = two && directories_rule (directories_store t.blocks t.block_records t.file_records)

  all : (value : Bool) → value ≡ three && named_sound t → value ≡ sound t
  all value v =
      v ∙ in_turn_all (tables_sound t)
      (channels_sound (channels_store t.file_records t.channel_records)
      ∷ directories_rule (directories_store t.blocks t.block_records t.file_records)
      ∷ named_sound t
      ∷ [])
      ∙ sym (sound-rules t)

  tables_first : three ≡ true → tables_sound t ≡ true
  tables_first e = and_left (tables_sound t) _ (and_left two _ e)

module _ (c : Joined-tables_sound) where
  two_found : c.if-tables_sound.value ≡ two (tables_of c.args.store.now)
  two_found =
      elim c.if-tables_sound.branch [
        | then-tables_sound w ↦ met _ _ _ _ c.tables_sound.ensures w.if-tables_sound.true (w.value-is ∙ w.channels_sound.ensures)
        | else-tables_sound w ↦ unmet _ _ _ _ c.tables_sound.ensures w.if-tables_sound.false w.value-is
      ]

module _ (c : Joined-channels_sound) where
  three_found : c.if-channels_sound.value ≡ three (tables_of c.args.store.now)
  three_found =
      let so_far = two_found (goal.at.Joined-channels_sound c).Joined-tables_sound in
      elim c.if-channels_sound.branch [
        | then-channels_sound w ↦ met _ _ _ _ so_far w.if-channels_sound.true (w.value-is ∙ w.directories_sound.ensures)
        | else-channels_sound w ↦ unmet _ _ _ _ so_far w.if-channels_sound.false w.value-is
      ]

pub channels_sound-requires : goal.channels_sound-requires
channels_sound-requires c = (tables-few (tables_of c.args.store.now) (sym c.tables_sound.ensures ∙ c.if-tables_sound.true)).1

pub directories_sound-requires : goal.directories_sound-requires
directories_sound-requires c =
    let t = tables_of c.args.store.now in
    tables_placed t (and_left (tables_sound t) _ (sym (two_found (goal.at.directories_sound-requires c).Joined-tables_sound) ∙ c.if-channels_sound.true))

pub names_sound-requires : goal.names_sound-requires
names_sound-requires c =
    let t = tables_of c.args.store.now in
    let e : three t ≡ true = sym (three_found (goal.at.names_sound-requires c).Joined-channels_sound) ∙ c.if-directories_sound.true in
    record { sound_tables = tables_first t e; directories_kept = and_right (two t) _ e }

pub returns-then-directories_sound : goal.returns-then-directories_sound
returns-then-directories_sound c =
    let t = tables_of c.args.store.now in
    let so_far = three_found (goal.at.returns-then-directories_sound c).Joined-channels_sound in
    all t _ (met _ _ _ _ so_far c.if-directories_sound.true c.names_sound.ensures)

pub returns-else-directories_sound : goal.returns-else-directories_sound
returns-else-directories_sound c =
    all (tables_of c.args.store.now) _ (unmet _ _ _ _ (three_found (goal.at.returns-else-directories_sound c).Joined-channels_sound) c.if-directories_sound.false refl)
