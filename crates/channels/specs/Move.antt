-- A channel's position moved.
use Rattle.std.specs.Prelude.{ℕ, ◌+◌}
use Rattle.tables.specs.declared.ChannelRecord.{ChannelRecord}

-- the same file, n bytes further
abbrev pub moved_by : ChannelRecord → ℕ → ChannelRecord
moved_by y n = record { file = y.file; position = y.position + n }
