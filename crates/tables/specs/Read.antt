-- A record of a table, read as a struct.
use Rattle.std.specs.Prelude.{ℕ, ◌≡◌, List}
use Rattle.meaning.specs.Tables as tables
use Rattle.tables.specs.declared.BlockRecord.{BlockRecord}
use Rattle.tables.specs.declared.FileRecord.{FileRecord}
use Rattle.tables.specs.declared.ChannelRecord.{ChannelRecord}

pub record BlockRead (records : List ℕ) (b : ℕ) (r : BlockRecord) : Type 0 where
  pub owner : r.owner.0 ≡ tables.owner records b
  pub place : r.place ≡ tables.place records b

pub record FileRead (records : List ℕ) (n : ℕ) (r : FileRecord) : Type 0 where
  pub kind : r.kind ≡ tables.kind_at records n
  pub depth : r.depth ≡ tables.depth_at records n
  pub length : r.length ≡ tables.length_at records n

pub record ChannelRead (records : List ℕ) (c : ℕ) (r : ChannelRecord) : Type 0 where
  pub file : r.file.0 ≡ tables.channel_file_at records c
  pub position : r.position ≡ tables.position_at records c
