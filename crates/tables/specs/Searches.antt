-- What the searches and counts over the records answer.
use Rattle.std.specs.Prelude.{ℕ, ◌+◌, List, Bool, Option, Some, None, eqb, ltb}
use Rattle.records.specs.Rows.{pick, lowest, how_many, sum}
use Rattle.meaning.specs.File.{needed}
use Rattle.meaning.specs.declared.FileNo.{FileNo}
use Rattle.meaning.specs.declared.ChannelNo.{ChannelNo}
use Rattle.meaning.specs.Tables.{block_count, file_count, channel_count, kind_at, length_at, channel_file_at, holds, is_free}

-- the file or the channel of a record that a search over `count` records ended at: one of them, or none.
-- Channel c's record is number c, file r + 1's number r.
unfoldable pub file_found : ℕ → ℕ → Option FileNo
file_found count r = pick (ltb r count) (Some (record { 0 = r + 1 })) None

unfoldable pub channel_found : ℕ → ℕ → Option ChannelNo
channel_found count c = pick (ltb c count) (Some (record { 0 = c })) None

-- how many blocks are place i of file f
unfoldable pub blocks_with : List ℕ → ℕ → ℕ → ℕ
blocks_with records f i = how_many (block_count records) (λ b. holds records f i b)

-- how many blocks are free
unfoldable pub free_block_count : List ℕ → ℕ
free_block_count records = how_many (block_count records) (λ b. is_free records b)

-- file record r has a kind; kind 0 is a free record's
abbrev pub is_of_kind : List ℕ → ℕ → ℕ → Bool
is_of_kind records kind r = eqb (kind_at records r) kind

-- the lowest file record of a kind, the file count where there is none; and how many there are
unfoldable pub file_with : List ℕ → ℕ → ℕ
file_with records kind = lowest (file_count records) (λ r. is_of_kind records kind r)

unfoldable pub files_with : List ℕ → ℕ → ℕ
files_with records kind = how_many (file_count records) (λ r. is_of_kind records kind r)

-- channel c holds file f; file 0 is a free channel's
abbrev pub is_to : List ℕ → ℕ → ℕ → Bool
is_to records f c = eqb (channel_file_at records c) f

-- the lowest channel that holds file f, the channel count where there is none; and how many there are
unfoldable pub channel_with : List ℕ → ℕ → ℕ
channel_with records f = lowest (channel_count records) (λ c. is_to records f c)

unfoldable pub channels_with : List ℕ → ℕ → ℕ
channels_with records f = how_many (channel_count records) (λ c. is_to records f c)

-- how many blocks the files need
unfoldable pub needed_blocks : List ℕ → ℕ
needed_blocks records = sum (file_count records) (λ r. needed (length_at records r))
