use Prim.Native.Nat.{◌≤◌}
use mathlib.Core.Path.{◌≡◌, refl, sym, ◌∙◌}
use mathlib.Core.List.{[], ◌∷◌}
use mathlib.Core.Bool.{Bool, true, ◌&&◌}
use Rattle.records.specs.Tests.{and_left, and_right}
use Rattle.meaning.specs.Types.{tables_of}
use Rattle.meaning.specs.Tables.{Tables, block_count, file_count, channel_count}
use Rattle.meaning.specs.Sound.{lengths_agree, files_sound}
use Rattle.layout.specs.Lengths.{lengths_agree_lem}
use Rattle.soundness.specs.Seen.{files_store}
use Rattle.soundness.specs.SoundLaws.{zeros_in, tables_sound, owners_sound, places_sound, table_rules_lem}
use Rattle.soundness.specs.PlaceCounts.{Placeable, placeable}
use Rattle.soundness.specs.Together.{met, unmet, in_turn_all}
use Rattle.soundness.proofs.tables_sound.Goals as goal
use Rattle.soundness.proofs.tables_sound.Goals.{
  Joined-lengths_agree,
  Joined-file_zeros_stand,
  Joined-channel_zeros_stand,
  Joined-files_sound,
  then-lengths_agree,
  else-lengths_agree,
  then-file_zeros_stand,
  else-file_zeros_stand,
  then-channel_zeros_stand,
  else-channel_zeros_stand,
  then-files_sound,
  else-files_sound,
}

-- ---- the first two rules, three, four and five

module _ (t : Tables) where
  abbrev two : Bool
  two = lengths_agree t && zeros_in t.file_records

  abbrev three : Bool
  three = two && zeros_in t.channel_records

  abbrev four : Bool
  four = three && files_sound (files_store t.file_records)

  abbrev five : Bool
  five = four && owners_sound t

  all : (value : Bool) → value ≡ five && places_sound t → value ≡ tables_sound t
  all value v =
      v ∙ in_turn_all (lengths_agree t) (zeros_in t.file_records ∷ zeros_in t.channel_records ∷ files_sound (files_store t.file_records) ∷ owners_sound t ∷ places_sound t ∷ [])
      ∙ sym (table_rules_lem t)

  -- tables whose lengths agree have few records
  few : lengths_agree t ≡ true → (block_count t.block_records ≤ 128) × (file_count t.file_records ≤ 64) × (channel_count t.channel_records ≤ 16)
  few e = let l = lengths_agree_lem t e in (l.few-blocks, l.few-files, l.few-channels)

  first_of : three ≡ true → lengths_agree t ≡ true
  first_of e = and_left (lengths_agree t) _ (and_left two _ e)

  -- what the rule of places asks for
  ready : five ≡ true → ((file_count t.file_records ≤ 64) × (files_sound (files_store t.file_records) ≡ true)) × Placeable t.block_records
  ready e =
      let fours = and_left four (owners_sound t) e in
      let l = lengths_agree_lem t (first_of (and_left three _ fours)) in
      let f : files_sound (files_store t.file_records) ≡ true = and_right three _ fours in
      ((l.few-files, f), placeable t.block_records t.file_records l.few-blocks l.few-files f (and_right four _ e))

module _ (c : Joined-lengths_agree) where
  two_found : c.if-lengths_agree.value ≡ two (tables_of c.args.store.now)
  two_found =
      elim c.if-lengths_agree.branch [
        | then-lengths_agree w ↦ met _ _ _ _ c.lengths_agree.ensures w.if-lengths_agree.true (w.value-is ∙ w.file_zeros_stand.ensures)
        | else-lengths_agree w ↦ unmet _ _ _ _ c.lengths_agree.ensures w.if-lengths_agree.false w.value-is
      ]

module _ (c : Joined-file_zeros_stand) where
  three_found : c.if-file_zeros_stand.value ≡ three (tables_of c.args.store.now)
  three_found =
      let so_far = two_found (goal.at.Joined-file_zeros_stand c).Joined-lengths_agree in
      elim c.if-file_zeros_stand.branch [
        | then-file_zeros_stand w ↦ met _ _ _ _ so_far w.if-file_zeros_stand.true (w.value-is ∙ w.channel_zeros_stand.ensures)
        | else-file_zeros_stand w ↦ unmet _ _ _ _ so_far w.if-file_zeros_stand.false w.value-is
      ]

module _ (c : Joined-channel_zeros_stand) where
  four_found : c.if-channel_zeros_stand.value ≡ four (tables_of c.args.store.now)
  four_found =
      let so_far = three_found (goal.at.Joined-channel_zeros_stand c).Joined-file_zeros_stand in
      elim c.if-channel_zeros_stand.branch [
        | then-channel_zeros_stand w ↦ met _ _ _ _ so_far w.if-channel_zeros_stand.true (w.value-is ∙ w.files_sound.ensures)
        | else-channel_zeros_stand w ↦ unmet _ _ _ _ so_far w.if-channel_zeros_stand.false w.value-is
      ]

module _ (c : Joined-files_sound) where
  five_found : c.if-files_sound.value ≡ five (tables_of c.args.store.now)
  five_found =
      let so_far = four_found (goal.at.Joined-files_sound c).Joined-channel_zeros_stand in
      elim c.if-files_sound.branch [
        | then-files_sound w ↦ met _ _ _ _ so_far w.if-files_sound.true (w.value-is ∙ w.owners_sound.ensures)
        | else-files_sound w ↦ unmet _ _ _ _ so_far w.if-files_sound.false w.value-is
      ]

-- ---- the answers

pub file_zeros_stand-requires : goal.file_zeros_stand-requires
file_zeros_stand-requires c = (few (tables_of c.args.store.now) (sym c.lengths_agree.ensures ∙ c.if-lengths_agree.true)).1

pub channel_zeros_stand-requires : goal.channel_zeros_stand-requires
channel_zeros_stand-requires c =
    let t = tables_of c.args.store.now in
    let e = sym (two_found (goal.at.channel_zeros_stand-requires c).Joined-lengths_agree) ∙ c.if-file_zeros_stand.true in
    (few t (and_left (lengths_agree t) _ e)).2

pub files_sound-requires : goal.files_sound-requires
files_sound-requires c =
    let e = sym (three_found (goal.at.files_sound-requires c).Joined-file_zeros_stand) ∙ c.if-channel_zeros_stand.true in
    (few (tables_of c.args.store.now) (first_of (tables_of c.args.store.now) e)).1

pub owners_sound-requires : goal.owners_sound-requires
owners_sound-requires c =
    let t = tables_of c.args.store.now in
    let e = sym (four_found (goal.at.owners_sound-requires c).Joined-channel_zeros_stand) ∙ c.if-files_sound.true in
    (few t (first_of t (and_left (three t) _ e))).0

pub places_sound-requires : goal.places_sound-requires
places_sound-requires c =
    ready (tables_of c.args.store.now) (sym (five_found (goal.at.places_sound-requires c).Joined-files_sound) ∙ c.if-owners_sound.true)

pub returns-then-owners_sound : goal.returns-then-owners_sound
returns-then-owners_sound c =
    all (tables_of c.args.store.now) _ (met _ _ _ _ (five_found (goal.at.returns-then-owners_sound c).Joined-files_sound) c.if-owners_sound.true c.places_sound.ensures)

pub returns-else-owners_sound : goal.returns-else-owners_sound
returns-else-owners_sound c =
    all (tables_of c.args.store.now) _ (unmet _ _ _ _ (five_found (goal.at.returns-else-owners_sound c).Joined-files_sound) c.if-owners_sound.false refl)
