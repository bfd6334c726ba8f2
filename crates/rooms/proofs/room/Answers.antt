-- The three counts of the records are those of the store; each is below its table's count of records.
use Prim.Native.Nat.{ℕ, ◌≤◌}
use mathlib.Core.Path.{◌≡◌, refl, sym, ◌∙◌}
use mathlib.Core.List.{List, [], ◌∷◌}
use mathlib.Core.Bool.{Bool, true, false, not}
use native.Mathlib.Omega.{arith}
use borrow.Author.Rules.{rules}
use borrow.Author.Tests.{not-true, not-false}
use Rattle.records.specs.LoopLaws.{how_many-within}
use Rattle.meaning.specs.Tables.{Tables, tables, put_all, block_count, file_count, channel_count, is_free}
use Rattle.meaning.specs.Sound.{sound}
use Rattle.meaning.specs.ChannelCalls.{room}
use Rattle.meaning.specs.Result.{done, unless}
use Rattle.meaning.specs.Run.{Call, meaning, accepts, result_of, Promise, refusal, accepted}
use Rattle.meaning.proofs.PromiseLaws.{kept_refusal, kept_done}
use Rattle.meaning.specs.declared.Report.TheVariants.{NotAStore}
use Rattle.tables.specs.Searches.{is_of_kind, is_to, free_block_count, files_with, channels_with}
use Rattle.tables.specs.StoreLaws.{free_files_lem, free_channels_lem}
use Rattle.layout.specs.Lengths.{Lengths}
use Rattle.layout.specs.Layout.{sound_layout}
use Rattle.layout.specs.Counting.{free_block_count_lem}
use Rattle.rooms.proofs.room.Goals as goal

module _ (b br fr cr : List ℕ) (ok : Bool) (is : ok ≡ sound (tables b br fr cr)) where
  abbrev t : Tables
  t = tables b br fr cr

  unsound : not ok ≡ true → Promise Call.Room t [] (record { answer = refusal 3 NotAStore; buffer = []; tables = t })
  unfolding result_of accepts unless
  unsound e = kept_refusal Call.Room t [] NotAStore (rw (sym is ∙ not-true ok e))

  module _ (so : not ok ≡ false) where
    is_sound : sound t ≡ true
    is_sound = sym is ∙ not-false ok so

    lengths : Lengths t
    lengths = (sound_layout t is_sound).lengths

    few-blocks : (n : ℕ) → n ≡ free_block_count br → n ≤ 128
    unfolding free_block_count
    few-blocks n e = omega (arith, how_many-within (λ b. is_free br b) (block_count br), lengths.few-blocks)

    few-files : (kind n : ℕ) → n ≡ files_with fr kind → n ≤ 64
    unfolding files_with
    few-files kind n e = omega (arith, how_many-within (is_of_kind fr kind) (file_count fr), lengths.few-files)

    few-channels : (f n : ℕ) → n ≡ channels_with cr f → n ≤ 16
    unfolding channels_with
    few-channels f n e = omega (arith, how_many-within (is_to cr f) (channel_count cr), lengths.few-channels)

    free : (blocks files channels : ℕ) → blocks ≡ free_block_count br → files ≡ files_with fr 0 → channels ≡ channels_with cr 0
        → Promise Call.Room t [] (record { answer = accepted (blocks ∷ files ∷ channels ∷ []); buffer = []; tables = t })
    unfolding result_of accepts meaning unless room put_all
    free blocks files channels e f c =
        let means : done (blocks ∷ files ∷ channels ∷ []) [] [] ≡ result_of Call.Room t =
        rw (is_sound, e, f, c, free_block_count_lem t (sound_layout t is_sound), free_files_lem t, free_channels_lem t) in
        kept_done Call.Room t [] (blocks ∷ files ∷ channels ∷ []) [] [] means t refl

pub returns-then-not-is_sound : goal.returns-then-not-is_sound
returns-then-not-is_sound c = search unsound

pub overflow_cast-result : goal.overflow_cast-result
overflow_cast-result c = let few : c.count_free_blocks-blocks.result ≤ 128 = search few-blocks in search rules

pub overflow_cast-result-2 : goal.overflow_cast-result-2
overflow_cast-result-2 c = let few : c.count_files-files.result ≤ 64 = search few-files in search rules

pub overflow_cast-result-3 : goal.overflow_cast-result-3
overflow_cast-result-3 c = let few : c.count_channels-channels.result ≤ 16 = search few-channels in search rules

pub returns : goal.returns
returns c = search free
