use Prim.Native.Nat.{ℕ}
use mathlib.Core.Path.{◌≡◌, refl, sym, ◌∙◌}
use mathlib.Core.List.{List, []}
use mathlib.Core.Bool.{Bool, true, false, ◌&&◌, ◌||◌, or-false}
use borrow.Author.Tests.{eqb-true}
use lib.Dec.{leb, eqb}
use Rattle.meaning.specs.Store.{in_use}
use Rattle.meaning.specs.Tables.{tables, channel_file_at}
use Rattle.meaning.specs.Sound.{channel_sound}
use Rattle.tables.specs.Read.{ChannelRead}
use Rattle.tables.specs.StoreLaws.{store_channel_file, store_channel_position}
use Rattle.tables.specs.declared.ChannelRecord.{ChannelRecord}
use Rattle.soundness.specs.Use.{none_unused}
use Rattle.soundness.specs.Seen.{files_store, channels_store, in_use-seen}
use Rattle.soundness.specs.Together.{met, unmet}
use Rattle.soundness.proofs.forms.channel_sound.Goals as goal

module _ (files channels : List ℕ) (c : ℕ) (y : ChannelRecord) (read : ChannelRead channels c y) (none : Bool) (z : none ≡ eqb y.file.0 0) where
  abbrev verdict : Bool
  verdict = channel_sound (channels_store files channels) ((channels_store files channels).channel c)

  -- the rule, of the record that was read
  in_numbers : verdict ≡ (eqb y.file.0 0 && eqb y.position 0) || (in_use (files_store files) y.file.0 && leb y.position 16777215)
  unfolding channel_sound
  in_numbers =
      let t = tables [] [] files channels in
      rw (store_channel_file t c, store_channel_position t c, in_use-seen t (channel_file_at channels c), ← read.file, ← read.position)

  free : none ≡ true → (value : Bool) → value ≡ eqb y.position 0 → value ≡ verdict
  free n value v = v ∙ sym (in_numbers ∙ rw (eqb-true y.file.0 0 (sym z ∙ n), none_unused (files_store files)) (or-false (eqb y.position 0)))

  module _ (some : none ≡ false) where
    to_file : (value : Bool) → value ≡ in_use (files_store files) y.file.0 && leb y.position 16777215 → value ≡ verdict
    to_file value v = v ∙ sym (in_numbers ∙ rw (sym z ∙ some))

pub returns-then-is_none : goal.returns-then-is_none
returns-then-is_none c = search free

pub returns-then-in_use : goal.returns-then-in_use
returns-then-in_use c = to_file _ _ _ _ c.channel_record-record.ensures _ c.is_none.ensures c.if-is_none.false _ (met _ _ _ _ c.in_use.ensures c.if-in_use.true refl)

pub returns-else-in_use : goal.returns-else-in_use
returns-else-in_use c = to_file _ _ _ _ c.channel_record-record.ensures _ c.is_none.ensures c.if-is_none.false _ (unmet _ _ _ _ c.in_use.ensures c.if-in_use.false refl)
