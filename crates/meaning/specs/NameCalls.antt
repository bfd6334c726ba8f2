-- The calls on names (01, "Reports" and "What each call does").
use Rattle.std.specs.Prelude.{ℕ, ◌+◌, ◌*◌, List, [], ◌∷◌, ◌++◌, not, ◌||◌, length, ltb, eqb}
use Rattle.records.specs.Rows.{pick}
use Rattle.meaning.specs.Name.{entry, written, blank_record, record_named, record_for_new, with_entry, is_empty, name_count, listing, most_syllables}
use Rattle.meaning.specs.Store.{Store, File, Change, file, channel, after, after_all, no_file, channel_to, ordinary, directory, root, is_directory, free_file, free_channel, named, front, last, held, let_go}
use Rattle.meaning.specs.Result.{Result, refused, done, unless, on_name, missing, nowhere, all_open, all_used, if_fits}
use Rattle.meaning.specs.declared.Report.TheVariants.{BadName, NoSuchName, NoFreeCids, IsDirectory, NotDirectory, NoFreeFids, NameInUse, NotEmpty, OutShort, InUse}

-- ---- records of a name's directory

-- the directory that a name lies in
unfoldable pub parent : Store → List (List ℕ) → ℕ
parent s name = named s (front name)

-- the directory d with record i written anew
unfoldable pub rewritten : Store → ℕ → ℕ → List ℕ → File
rewritten s d i r = directory (s.file d).depth (with_entry (s.file d).bytes i r)

-- where a name's record is or goes: a replaced name keeps its record's place,
-- a new one takes the first blank record or is added at the end
unfoldable pub record_for : Store → List (List ℕ) → ℕ
record_for s name =
    let dir = (s.file (parent s name)).bytes in
    let old = record_named dir (last name) in
    let new = record_for_new dir in
    pick (missing s name) new old

-- the name's directory, with the name standing for file f
unfoldable pub naming : Store → List (List ℕ) → ℕ → File
naming s name f = rewritten s (parent s name) (record_for s name) (written (entry f (last name)))

-- the name's directory, with the name's record blank
unfoldable pub unnaming : Store → List (List ℕ) → File
unnaming s name = rewritten s (parent s name) (record_for s name) blank_record

-- TooBig and NoRoom of the directory that gets the name's record
unfoldable pub if_naming_fits : Store → List (List ℕ) → File → Result → Result
if_naming_fits s name dir r = if_fits s (length (s.file (parent s name)).bytes) (length dir.bytes) r

-- ---- files and their names

-- open: NoSuchName, NoFreeCids. The lowest free channel, at position 0.
unfoldable pub open' : List ℕ → Store → Result
open' bytes s =
    on_name bytes λ name.
    let c = free_channel s in
    unless (missing s name) NoSuchName
    (unless (all_open s) NoFreeCids
    (done (c ∷ []) [] (channel c (channel_to (named s name) 0) ∷ [])))

-- create: NoSuchName, IsDirectory, NoFreeCids; for a new name also NoFreeFids, TooBig, NoRoom.
-- An existing file is emptied; a new one takes the lowest free number; either gets a channel, as open gives it.
unfoldable pub create : List ℕ → Store → Result
create bytes s =
    on_name bytes λ name.
    let f = named s name in
    let c = free_channel s in
    let new = free_file s in
    let dir = naming s name new in
    unless (nowhere s name) NoSuchName
    (unless (is_directory s f) IsDirectory
    (unless (all_open s) NoFreeCids
    (pick (missing s name)
    (unless (all_used s) NoFreeFids
    (if_naming_fits s name dir
    (done (c ∷ []) [] (file (parent s name) dir ∷ file new (ordinary []) ∷ channel c (channel_to new 0) ∷ []))))
    (done (c ∷ []) [] (file f (ordinary []) ∷ channel c (channel_to f 0) ∷ [])))))

-- link: NoSuchName and IsDirectory for the old name, then the same two for the new; TooBig, NoRoom.
-- The new name comes to stand for the old name's file, replacing what it stood for.
unfoldable pub link : List ℕ → List ℕ → Store → Result
link old new s =
    on_name old λ from.
    on_name new λ to.
    let dir = naming s to (named s from) in
    let linked = file (parent s to) dir in
    unless (missing s from) NoSuchName
    (unless (is_directory s (named s from)) IsDirectory
    (unless (nowhere s to) NoSuchName
    (unless (is_directory s (named s to)) IsDirectory
    (if_naming_fits s to dir
    (done [] [] (linked ∷ let_go (after s linked) (named s to)))))))

-- unlink: NoSuchName, IsDirectory. It blanks the name's record.
unfoldable pub unlink : List ℕ → Store → Result
unlink bytes s =
    on_name bytes λ name.
    let unlinked = file (parent s name) (unnaming s name) in
    unless (missing s name) NoSuchName
    (unless (is_directory s (named s name)) IsDirectory
    (done [] [] (unlinked ∷ let_go (after s unlinked) (named s name))))

-- the source's composition: one call, then another on the store that it leaves; a refusal of either refuses both
unfoldable pub with_changes : List Change → Result → Result
with_changes changes (refused why) = refused why
with_changes changes (done numbers bytes more) = done numbers bytes (changes ++ more)

unfoldable pub and_then : Store → Result → (Store → Result) → Result
and_then s (refused why) next = refused why
and_then s (done numbers bytes changes) next = with_changes changes (next (after_all s changes))

-- move: link, then unlink of the old name
unfoldable pub move : List ℕ → List ℕ → Store → Result
move old new s = and_then s (link old new s) (unlink old)

-- ---- directories

-- make directory: BadName also for 8 syllables; NoSuchName, NameInUse, NoFreeFids, TooBig, NoRoom.
-- An empty directory with the lowest free number, one deeper than its parent.
unfoldable pub mkdir : List ℕ → Store → Result
mkdir bytes s =
    on_name bytes λ name.
    let new = free_file s in
    let dir = naming s name new in
    unless (eqb (length name) most_syllables) BadName
    (unless (nowhere s name) NoSuchName
    (unless (not (missing s name)) NameInUse
    (unless (all_used s) NoFreeFids
    (if_naming_fits s name dir
    (done [] [] (file (parent s name) dir ∷ file new (directory ((s.file (parent s name)).depth + 1) []) ∷ []))))))

-- remove directory: NoSuchName, NotDirectory, InUse (the root, or one with a channel), NotEmpty.
-- It frees the directory and blanks its record.
unfoldable pub rmdir : List ℕ → Store → Result
rmdir bytes s =
    on_name bytes λ name.
    let f = named s name in
    unless (missing s name) NoSuchName
    (unless (not (is_directory s f)) NotDirectory
    (unless (eqb f root || held s f) InUse
    (unless (not (is_empty (s.file f).bytes)) NotEmpty
    (done [] [] (file (parent s name) (unnaming s name) ∷ file f no_file ∷ [])))))

-- ls: NoSuchName, NotDirectory, OutShort (the lent buffer of `size` bytes is too small).
-- The count, and the names as 14-byte records in record order.
unfoldable pub ls : List ℕ → ℕ → Store → Result
ls bytes size s =
    on_name bytes λ name.
    let f = named s name in
    let dir = (s.file f).bytes in
    unless (missing s name) NoSuchName
    (unless (not (is_directory s f)) NotDirectory
    (unless (ltb size (14 * name_count dir)) OutShort
    (done (name_count dir ∷ []) (listing dir) [])))
