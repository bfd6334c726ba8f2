-- Three tables of a sound store, and a file number of it.
use Rattle.std.specs.Prelude.{ℕ, ◌≤◌, ◌≡◌, List, true}
use Rattle.std.proofs.Common.{sym, ◌∙◌, arith}
use Rattle.records.specs.Tests.{all_of-true}
use Rattle.meaning.specs.Tables.{Tables, tables, file_count}
use Rattle.meaning.specs.Sound.{sound}
use Rattle.soundness.specs.Slots.{Placed, directories_store}
use Rattle.soundness.specs.DirectoryRules.{directories_rule}
use Rattle.soundness.specs.SoundLaws.{tables_placed}
use Rattle.soundness.specs.SoundRules.{sound_rules, sound-rules}

pub record OfStore (blocks records files : List ℕ) (f : ℕ) : Type 0 where
  pub channels : List ℕ
  pub ok : sound (tables blocks records files channels) ≡ true
  pub to_last : f ≤ file_count files

pub of_store : (t : Tables) → sound t ≡ true → (f : ℕ) → f ≤ file_count t.file_records → OfStore t.blocks t.block_records t.file_records f
of_store t ok f last = record { channels = t.channel_records; ok = ok; to_last = last }

-- what counting names leans on
module _ (blocks records files : List ℕ) (f : ℕ) (of : OfStore blocks records files f) where
  pub countable_names : Placed blocks records files × (directories_rule (directories_store blocks records files) ≡ true)
  countable_names =
      let t = tables blocks records files of.channels in
      let (tables-ok, (_, (directories, _))) = all_of-true (sound_rules t) (sym (sound-rules t) ∙ of.ok) in
      (tables_placed t tables-ok, directories)

  pub number_low : f ≤ 64
  number_low = omega (arith, of.to_last, countable_names.0.few-files)
