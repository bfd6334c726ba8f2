-- What a call on a store gives: a refusal, or its answer and its changes (01, "Reports").
use Rattle.std.specs.Prelude.{ℕ, ◌-◌, List, Bool, true, false, not, ◌&&◌, ltb, eqb}
use Rattle.std.proofs.Math.Option.{Option, none, some}
use Rattle.meaning.specs.File.{needed, longest}
use Rattle.meaning.specs.Name.{syllables}
use Rattle.meaning.specs.Store.{Store, Change, is_open, is_directory, free_blocks, free_file, free_channel, named, front}
use Rattle.meaning.specs.declared.Report.{Report}
use Rattle.meaning.specs.declared.Report.TheVariants.{BadName, NoSuchCid, NoRoom, TooBig}

-- a refusal; or the answer's numbers, the bytes for the lent buffer, and the changes, in order
pub data Result : Type 0 where
  refused : Report → Result
  done : List ℕ → List ℕ → List Change → Result

-- a refusal where its cause holds, and else what follows: the first cause is reported
unfoldable pub unless : Bool → Report → Result → Result
unless true why r = refused why
unless false why r = r

-- ---- causes that several calls share

-- NoSuchCid: channel number out of range or free
unfoldable pub on_channel : Store → ℕ → Result → Result
on_channel s c r = unless (not (is_open s c)) NoSuchCid r

-- BadName: not written as a name is; what follows has the name's syllables
unfoldable pub with_syllables : Option (List (List ℕ)) → (List (List ℕ) → Result) → Result
with_syllables none r = refused BadName
with_syllables (some name) r = r name

abbrev pub on_name : List ℕ → (List (List ℕ) → Result) → Result
on_name bytes r = with_syllables (syllables bytes) r

-- NoSuchName: the name is missing
unfoldable pub missing : Store → List (List ℕ) → Bool
missing s name = eqb (named s name) 0

-- NoSuchName of a new name: its directory is missing
unfoldable pub nowhere : Store → List (List ℕ) → Bool
nowhere s name = missing s name && not (is_directory s (named s (front name)))

-- NoFreeCids: no free channel
unfoldable pub all_open : Store → Bool
all_open s = not (ltb (free_channel s) s.channel_count)

-- NoFreeFids: no free file number
unfoldable pub all_used : Store → Bool
all_used s = ltb s.file_count (free_file s)

-- TooBig, then NoRoom, where a file of `old` bytes is to have `new`:
-- it would pass 32,768 bytes; or more new blocks are needed than are free
unfoldable pub if_fits : Store → ℕ → ℕ → Result → Result
if_fits s old new r =
    unless (ltb longest new) TooBig
    (unless (ltb (free_blocks s) (needed new - needed old)) NoRoom r)
