-- How the definitions are run by the checker: a row of calls, and what each is to say.
use Rattle.std.specs.Prelude.{ℕ, suc, ◌*◌, List, [], ◌∷◌, ◌++◌, replicate}
use Rattle.records.specs.Rows
use Rattle.records.specs.Numbers
use Rattle.records.specs.Rows.{pick}
use Rattle.meaning.specs.File
use Rattle.meaning.specs.Name
use Rattle.meaning.specs.Store
use Rattle.meaning.specs.Result
use Rattle.meaning.specs.ChannelCalls
use Rattle.meaning.specs.NameCalls
use Rattle.meaning.specs.Tables
use Rattle.meaning.specs.Sound
use Rattle.meaning.specs.Run
use Rattle.meaning.specs.Run.{Call, result_of, width, answer_of, bytes_of, changes_of}
use Rattle.meaning.specs.Name.{same}
use Rattle.meaning.specs.Tables.{Tables, put_all}
use Rattle.meaning.specs.Text.{text}

-- a call, and what it is to say: the report, the answer's numbers, the bytes for the lent buffer
pub record Step : Type 0 where
  pub call : Call
  pub says : List ℕ

unfoldable pub step : Call → List ℕ → Step
step call says = record { call = call; says = says }

-- B blocks of old bytes, F files and C channels, all records zero
abbrev pub zeroed : ℕ → ℕ → ℕ → Tables
zeroed B F C =
    record {
      blocks = replicate (512 * B) 7;
      block_records = replicate (4 * B) 0;
      file_records = replicate (8 * F) 0;
      channel_records = replicate (8 * C) 0;
    }

-- the numbers of the steps, counted on from n, that say something else
unfoldable pub wrong_from : ℕ → Tables → List Step → List ℕ
unfolding Rows.all_of Rows.lowest_from Rows.lowest Rows.every Rows.sum Rows.how_many Rows.list_from Rows.list_of Numbers.one Numbers.two Numbers.four Numbers.two_bytes Numbers.four_bytes Numbers.zeros Numbers.with_record File.readFILE File.writeFILE Name.same Name.is_syllable Name.before Name.split Name.are_syllables Name.syllables Name.written Name.name_end Name.entry_in Name.is_written Name.record_at Name.is_blank Name.entry_at Name.record_named Name.record_for_new Name.in_directory Name.names_in Name.name_count Name.is_empty Name.names_from Name.listing Name.with_entry Store.after Store.after_all Store.in_use Store.is_directory Store.is_open Store.blocks_needed Store.free_blocks Store.free_file Store.free_channel Store.free_files Store.free_channels Store.within Store.named_back Store.named Store.names Store.held Store.is_orphan Store.let_go Result.unless Result.on_channel Result.with_syllables Result.missing Result.nowhere Result.all_open Result.all_used Result.if_fits ChannelCalls.close ChannelCalls.read ChannelCalls.write ChannelCalls.seek_to ChannelCalls.seek ChannelCalls.fstat ChannelCalls.room NameCalls.parent NameCalls.rewritten NameCalls.record_for NameCalls.naming NameCalls.unnaming NameCalls.if_naming_fits NameCalls.open' NameCalls.create NameCalls.link NameCalls.unlink NameCalls.with_changes NameCalls.and_then NameCalls.move NameCalls.mkdir NameCalls.rmdir NameCalls.ls Tables.owner Tables.place Tables.block_record Tables.kind_at Tables.depth_at Tables.length_at Tables.file_length Tables.file_record Tables.channel_file_at Tables.position_at Tables.channel_record Tables.holds Tables.block_of Tables.byte_of Tables.file_of Tables.channel_of Tables.store_of Tables.released Tables.taken Tables.taken_from Tables.laid Tables.resized Tables.put Tables.put_all Sound.lengths_agree Sound.zeros_stand Sound.block_sound Sound.placed_once Sound.blocks_sound Sound.layout_sound Sound.as_free Sound.as_ordinary Sound.as_directory Sound.file_sound Sound.files_sound Sound.channel_sound Sound.channels_sound Sound.record_sound Sound.name_new Sound.directories_sound Sound.one_deeper Sound.is_named Sound.names_sound Sound.well_formed Sound.sound Run.meaning Run.accepts Run.result_of Run.number_of Run.refusal Run.answer_of Run.bytes_of Run.changes_of text step
wrong_from n t [] = []
wrong_from n t (x ∷ xs) =
    let r = result_of x.call t in
    let rest = wrong_from (suc n) (put_all t (changes_of r)) xs in
    pick (same (answer_of (width x.call) r ++ bytes_of r) x.says) rest (n ∷ rest)

unfoldable pub wrong : Tables → List Step → List ℕ
unfolding wrong_from
wrong t steps = wrong_from 1 t steps
