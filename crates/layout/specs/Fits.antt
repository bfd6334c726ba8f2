-- What has to hold of a change so that the tables can take it.
use Rattle.std.specs.Prelude.{ℕ, ◌-◌, ◌≤◌, ◌<◌, ◌≢◌, List, [], ◌∷◌, length}
use Rattle.meaning.specs.File.{needed}
use Rattle.meaning.specs.Store.{Store, File, Channel, Change, file, channel, prepared, after, free_blocks}

-- file f exists, what it is to hold has room, and a free file holds nothing
pub record FileFits (s : Store) (f : ℕ) (x : File) : Type 0 where
  pub from_one : 0 < f
  pub to_last : f ≤ s.file_count
  pub used : 0 < length x.bytes → x.kind ≢ 0
  pub room : needed (length x.bytes) - needed (length (s.file f).bytes) ≤ free_blocks s

-- channel c exists, and its record can hold what is put
pub record ChannelFits (s : Store) (c : ℕ) (y : Channel) : Type 0 where
  pub below : c < s.channel_count
  pub small_file : y.file < 65536
  pub small_posn : y.posn < 4294967296

abbrev pub Fits : Store → Change → Type 0
Fits s (file f x) = FileFits s f x
Fits s (channel c y) = ChannelFits s c y
Fits s prepared = Unit {0}

-- each change fits the store that those before it leave
abbrev pub FitsAll : Store → List Change → Type 0
FitsAll s [] = Unit {0}
FitsAll s (change ∷ changes) = Fits s change × FitsAll (after s change) changes
