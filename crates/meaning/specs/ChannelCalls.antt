-- The calls on a channel, and room (01, "Reports" and "What each call does").
use Rattle.std.specs.Prelude.{ℕ, ◌+◌, ◌*◌, List, [], ◌∷◌, ◌||◌, length, get_or, ltb, eqb}
use Rattle.meaning.specs.File.{readFILE, writeFILE}
use Rattle.meaning.specs.Store.{Store, file, channel, after, no_channel, channel_to, ordinary, free_blocks, free_files, free_channels, let_go}
use Rattle.meaning.specs.Result.{Result, done, unless, on_channel, if_fits}
use Rattle.meaning.specs.declared.Report.TheVariants.{IsDirectory, BadSeek}

-- close: NoSuchCid. It zeroes the channel's record; a file without name and channel goes.
unfoldable pub close : ℕ → Store → Result
close c s =
    let closed = channel c no_channel in
    on_channel s c
    (done [] [] (closed ∷ let_go (after s closed) (s.channel c).file))

-- read: NoSuchCid. As many bytes as the file has after the position, no more than `count`, which the lent buffer holds;
-- the position moves by the count of bytes read.
unfoldable pub read : ℕ → ℕ → Store → Result
read c count s =
    let y = s.channel c in
    let out = readFILE (s.file y.file).bytes y.posn count in
    on_channel s c
    (done (length out ∷ []) out (channel c (channel_to y.file (y.posn + length out)) ∷ []))

-- write: NoSuchCid, IsDirectory, TooBig, NoRoom. The position moves by the data's length.
unfoldable pub write : ℕ → List ℕ → Store → Result
write c bytes s =
    let y = s.channel c in
    let old = s.file y.file in
    let new = writeFILE old.bytes y.posn bytes in
    on_channel s c
    (unless (eqb old.kind 2) IsDirectory
    (if_fits s (length old.bytes) (length new)
    (done (length bytes ∷ []) [] (file y.file (ordinary new) ∷ channel c (channel_to y.file (y.posn + length bytes)) ∷ []))))

-- where a seek leads, by its mode 0 to 5: n from the start, the position or the end, then the same with 512 n
unfoldable pub seek_to : ℕ → ℕ → ℕ → ℕ → ℕ
seek_to mode posn size n =
    get_or (n ∷ (posn + n) ∷ (size + n) ∷ (512 * n) ∷ (posn + 512 * n) ∷ (size + 512 * n) ∷ []) mode 0

-- positions go up to here
abbrev pub last_position : ℕ
last_position = 16777215

-- seek: NoSuchCid, BadSeek (a mode above 5, or a position above 16,777,215)
unfoldable pub seek : ℕ → ℕ → ℕ → Store → Result
seek c mode n s =
    let y = s.channel c in
    let to = seek_to mode y.posn (length (s.file y.file).bytes) n in
    on_channel s c
    (unless (ltb 5 mode || ltb last_position to) BadSeek
    (done (to ∷ []) [] (channel c (channel_to y.file to) ∷ [])))

-- fstat: NoSuchCid. Length, file number, kind.
unfoldable pub fstat : ℕ → Store → Result
fstat c s =
    let f = (s.channel c).file in
    let x = s.file f in
    on_channel s c
    (done (length x.bytes ∷ f ∷ x.kind ∷ []) [] [])

-- room: free blocks, free file numbers, free channels
unfoldable pub room : Store → Result
room s = done (free_blocks s ∷ free_files s ∷ free_channels s ∷ []) [] []
