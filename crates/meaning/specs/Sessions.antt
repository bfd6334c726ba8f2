-- The definitions run on sessions: 01's own, then one or more for every call and every report.
use Rattle.std.specs.Prelude.{◌≡◌, refl, [], ◌∷◌}
use Rattle.meaning.specs.Run.{Prepare, Room, Create, Open, Unlink, Mkdir, Rmdir, Link, Move, Ls, Close, Fstat, Read, Write, Seek}
use Rattle.meaning.specs.Running.{step, zeroed, wrong}
use Rattle.meaning.specs.Text.{text}

-- 01's session
of_01 : wrong (zeroed 4 4 2) (
    step Prepare (0 ∷ [])
    ∷ step (Create (text "/x")) (0 ∷ 0 ∷ [])
    ∷ step (Write 0 (text "MONFRI")) (0 ∷ 6 ∷ [])
    ∷ step (Seek 0 0 8) (0 ∷ 8 ∷ [])
    ∷ step (Write 0 (text "SU")) (0 ∷ 2 ∷ [])
    ∷ step (Fstat 0) (0 ∷ 10 ∷ 2 ∷ 1 ∷ [])
    ∷ step (Seek 0 0 5) (0 ∷ 5 ∷ [])
    ∷ step (Read 0 9) (0 ∷ 5 ∷ 73 ∷ 0 ∷ 0 ∷ 83 ∷ 85 ∷ [])
    ∷ step (Open (text "/y")) (4 ∷ 0 ∷ [])
    ∷ step Room (0 ∷ 2 ∷ 2 ∷ 1 ∷ [])
    ∷ [])
    ≡ []
unfolding wrong
of_01 = refl

-- a name is judged before it is looked up; a missing or ordinary file on the way is NoSuchName
names : wrong (zeroed 2 3 2) (
    step Prepare (0 ∷ [])
    ∷ step (Open (text "x")) (2 ∷ 0 ∷ [])
    ∷ step (Create (text "/x/")) (2 ∷ 0 ∷ [])
    ∷ step (Link (text "/none") (text "//")) (2 ∷ [])
    ∷ step (Move (text "bad") (text "/none")) (2 ∷ [])
    ∷ step (Unlink (text "")) (2 ∷ [])
    ∷ step (Rmdir (text "/a//b")) (2 ∷ [])
    ∷ step (Ls (text "/0123456789abcde") 0) (2 ∷ 0 ∷ [])
    ∷ step (Open (text "/1/2/3/4/5/6/7/8")) (4 ∷ 0 ∷ [])
    ∷ step (Open (text "/1/2/3/4/5/6/7/8/9")) (2 ∷ 0 ∷ [])
    ∷ step (Mkdir (text "/1/2/3/4/5/6/7/8")) (2 ∷ [])
    ∷ step (Mkdir (text "/1/2/3/4/5/6/7")) (4 ∷ [])
    ∷ step (Create (text "/x")) (0 ∷ 0 ∷ [])
    ∷ step (Create (text "/x/y")) (4 ∷ 0 ∷ [])
    ∷ step (Open (text "/x/y")) (4 ∷ 0 ∷ [])
    ∷ step (Mkdir (text "/x/y")) (4 ∷ [])
    ∷ step (Ls (text "/x/y") 0) (4 ∷ 0 ∷ [])
    ∷ step (Link (text "/x") (text "/x/y")) (4 ∷ [])
    ∷ step (Unlink (text "/y")) (4 ∷ [])
    ∷ step (Rmdir (text "/y")) (4 ∷ [])
    ∷ step (Move (text "/y") (text "/x")) (4 ∷ [])
    ∷ [])
    ≡ []
unfolding wrong
names = refl

-- the lowest free channel; a channel number out of range or free is NoSuchCid and never wraps
channels : wrong (zeroed 2 3 2) (
    step Prepare (0 ∷ [])
    ∷ step (Open (text "/")) (0 ∷ 0 ∷ [])
    ∷ step (Create (text "/x")) (0 ∷ 1 ∷ [])
    ∷ step (Open (text "/x")) (5 ∷ 0 ∷ [])
    ∷ step (Create (text "/y")) (5 ∷ 0 ∷ [])
    ∷ step (Fstat 2) (3 ∷ 0 ∷ 0 ∷ 0 ∷ [])
    ∷ step (Read 65536 1) (3 ∷ 0 ∷ [])
    ∷ step (Write 4294967295 (text "a")) (3 ∷ 0 ∷ [])
    ∷ step (Seek 2 9 0) (3 ∷ 0 ∷ [])
    ∷ step (Close 2) (3 ∷ [])
    ∷ step (Close 0) (0 ∷ [])
    ∷ step (Fstat 0) (3 ∷ 0 ∷ 0 ∷ 0 ∷ [])
    ∷ step (Close 0) (3 ∷ [])
    ∷ step (Open (text "/x")) (0 ∷ 0 ∷ [])
    ∷ step Room (0 ∷ 1 ∷ 1 ∷ 0 ∷ [])
    ∷ [])
    ≡ []
unfolding wrong
channels = refl

-- directories made, listed and removed; the calls that take ordinary files only refuse them
directories : wrong (zeroed 3 4 2) (
    step Prepare (0 ∷ [])
    ∷ step (Mkdir (text "/d")) (0 ∷ [])
    ∷ step (Mkdir (text "/d")) (12 ∷ [])
    ∷ step (Mkdir (text "/")) (12 ∷ [])
    ∷ step (Create (text "/d")) (6 ∷ 0 ∷ [])
    ∷ step (Create (text "/")) (6 ∷ 0 ∷ [])
    ∷ step (Unlink (text "/d")) (6 ∷ [])
    ∷ step (Unlink (text "/")) (6 ∷ [])
    ∷ step (Link (text "/d") (text "/e")) (6 ∷ [])
    ∷ step (Move (text "/") (text "/e")) (6 ∷ [])
    ∷ step (Create (text "/d/f")) (0 ∷ 0 ∷ [])
    ∷ step (Link (text "/d/f") (text "/d")) (6 ∷ [])
    ∷ step (Move (text "/d/f") (text "/")) (6 ∷ [])
    ∷ step (Ls (text "/d/f") 99) (7 ∷ 0 ∷ [])
    ∷ step (Rmdir (text "/d/f")) (7 ∷ [])
    ∷ step (Rmdir (text "/d")) (13 ∷ [])
    ∷ step (Rmdir (text "/")) (15 ∷ [])
    ∷ step (Open (text "/d")) (0 ∷ 1 ∷ [])
    ∷ step (Write 1 (text "a")) (6 ∷ 0 ∷ [])
    ∷ step (Fstat 1) (0 ∷ 16 ∷ 2 ∷ 2 ∷ [])
    ∷ step (Rmdir (text "/d")) (15 ∷ [])
    ∷ step (Unlink (text "/d/f")) (0 ∷ [])
    ∷ step (Rmdir (text "/d")) (15 ∷ [])
    ∷ step (Close 1) (0 ∷ [])
    ∷ step (Rmdir (text "/d")) (0 ∷ [])
    ∷ step (Close 0) (0 ∷ [])
    ∷ step (Ls (text "/") 0) (0 ∷ 0 ∷ [])
    ∷ step Room (0 ∷ 2 ∷ 3 ∷ 2 ∷ [])
    ∷ [])
    ≡ []
unfolding wrong
directories = refl

-- names in record order, blanks passed over; a new name takes the first blank record
listings : wrong (zeroed 3 5 2) (
    step Prepare (0 ∷ [])
    ∷ step (Create (text "/a")) (0 ∷ 0 ∷ [])
    ∷ step (Create (text "/bb")) (0 ∷ 1 ∷ [])
    ∷ step (Close 0) (0 ∷ [])
    ∷ step (Close 1) (0 ∷ [])
    ∷ step (Ls (text "/") 27) (14 ∷ 0 ∷ [])
    ∷ step (Ls (text "/") 28) (0 ∷ 2 ∷ 97 ∷ 0 ∷ 0 ∷ 0 ∷ 0 ∷ 0 ∷ 0 ∷ 0 ∷ 0 ∷ 0 ∷ 0 ∷ 0 ∷ 0 ∷ 0 ∷ 98 ∷ 98 ∷ 0 ∷ 0 ∷ 0 ∷ 0 ∷ 0 ∷ 0 ∷ 0 ∷ 0 ∷ 0 ∷ 0 ∷ 0 ∷ 0 ∷ [])
    ∷ step (Unlink (text "/a")) (0 ∷ [])
    ∷ step (Ls (text "/") 14) (0 ∷ 1 ∷ 98 ∷ 98 ∷ 0 ∷ 0 ∷ 0 ∷ 0 ∷ 0 ∷ 0 ∷ 0 ∷ 0 ∷ 0 ∷ 0 ∷ 0 ∷ 0 ∷ [])
    ∷ step (Mkdir (text "/c")) (0 ∷ [])
    ∷ step (Ls (text "/") 28) (0 ∷ 2 ∷ 99 ∷ 0 ∷ 0 ∷ 0 ∷ 0 ∷ 0 ∷ 0 ∷ 0 ∷ 0 ∷ 0 ∷ 0 ∷ 0 ∷ 0 ∷ 0 ∷ 98 ∷ 98 ∷ 0 ∷ 0 ∷ 0 ∷ 0 ∷ 0 ∷ 0 ∷ 0 ∷ 0 ∷ 0 ∷ 0 ∷ 0 ∷ 0 ∷ [])
    ∷ step (Open (text "/")) (0 ∷ 0 ∷ [])
    ∷ step (Fstat 0) (0 ∷ 32 ∷ 1 ∷ 2 ∷ [])
    ∷ step (Read 0 20) (0 ∷ 20 ∷ 2 ∷ 0 ∷ 99 ∷ 0 ∷ 0 ∷ 0 ∷ 0 ∷ 0 ∷ 0 ∷ 0 ∷ 0 ∷ 0 ∷ 0 ∷ 0 ∷ 0 ∷ 0 ∷ 3 ∷ 0 ∷ 98 ∷ 98 ∷ [])
    ∷ step (Seek 0 2 5) (0 ∷ 37 ∷ [])
    ∷ step (Read 0 20) (0 ∷ 0 ∷ [])
    ∷ [])
    ≡ []
unfolding wrong
listings = refl

-- a gap shows zeros, whatever an earlier owner left in the block, inside the last block too
gaps : wrong (zeroed 2 4 2) (
    step Prepare (0 ∷ [])
    ∷ step (Create (text "/a")) (0 ∷ 0 ∷ [])
    ∷ step (Write 0 (text "OLDOLD")) (0 ∷ 6 ∷ [])
    ∷ step (Close 0) (0 ∷ [])
    ∷ step (Unlink (text "/a")) (0 ∷ [])
    ∷ step (Create (text "/b")) (0 ∷ 0 ∷ [])
    ∷ step (Write 0 (text "N")) (0 ∷ 1 ∷ [])
    ∷ step (Seek 0 0 4) (0 ∷ 4 ∷ [])
    ∷ step (Write 0 []) (0 ∷ 0 ∷ [])
    ∷ step (Seek 0 0 0) (0 ∷ 0 ∷ [])
    ∷ step (Read 0 9) (0 ∷ 4 ∷ 78 ∷ 0 ∷ 0 ∷ 0 ∷ [])
    ∷ step (Seek 0 1 0) (0 ∷ 4 ∷ [])
    ∷ step (Seek 0 0 6) (0 ∷ 6 ∷ [])
    ∷ step (Write 0 (text "X")) (0 ∷ 1 ∷ [])
    ∷ step (Seek 0 0 0) (0 ∷ 0 ∷ [])
    ∷ step (Read 0 9) (0 ∷ 7 ∷ 78 ∷ 0 ∷ 0 ∷ 0 ∷ 0 ∷ 0 ∷ 88 ∷ [])
    ∷ [])
    ≡ []
unfolding wrong
gaps = refl

-- more new blocks needed than are free: nothing is taken and nothing written; an empty write can need room too
rooms : wrong (zeroed 2 4 2) (
    step Prepare (0 ∷ [])
    ∷ step (Create (text "/a")) (0 ∷ 0 ∷ [])
    ∷ step (Seek 0 0 512) (0 ∷ 512 ∷ [])
    ∷ step (Write 0 (text "ab")) (9 ∷ 0 ∷ [])
    ∷ step (Fstat 0) (0 ∷ 0 ∷ 2 ∷ 1 ∷ [])
    ∷ step Room (0 ∷ 1 ∷ 2 ∷ 1 ∷ [])
    ∷ step (Write 0 []) (0 ∷ 0 ∷ [])
    ∷ step (Fstat 0) (0 ∷ 512 ∷ 2 ∷ 1 ∷ [])
    ∷ step Room (0 ∷ 0 ∷ 2 ∷ 1 ∷ [])
    ∷ step (Seek 0 0 32768) (0 ∷ 32768 ∷ [])
    ∷ step (Write 0 []) (9 ∷ 0 ∷ [])
    ∷ step (Seek 0 0 32769) (0 ∷ 32769 ∷ [])
    ∷ step (Write 0 []) (10 ∷ 0 ∷ [])
    ∷ step (Seek 0 0 32768) (0 ∷ 32768 ∷ [])
    ∷ step (Write 0 (text "a")) (10 ∷ 0 ∷ [])
    ∷ step (Seek 0 0 3) (0 ∷ 3 ∷ [])
    ∷ step (Write 0 []) (0 ∷ 0 ∷ [])
    ∷ step (Create (text "/b")) (0 ∷ 1 ∷ [])
    ∷ step Room (0 ∷ 0 ∷ 1 ∷ 0 ∷ [])
    ∷ [])
    ≡ []
unfolding wrong
rooms = refl

-- a new record that needs a block, where none is free: no call gives the name, and nothing is made
records : wrong (zeroed 1 4 2) (
    step Prepare (0 ∷ [])
    ∷ step (Mkdir (text "/d")) (0 ∷ [])
    ∷ step (Create (text "/d/x")) (9 ∷ 0 ∷ [])
    ∷ step (Mkdir (text "/d/x")) (9 ∷ [])
    ∷ step (Create (text "/a")) (0 ∷ 0 ∷ [])
    ∷ step (Link (text "/a") (text "/d/x")) (9 ∷ [])
    ∷ step (Move (text "/a") (text "/d/x")) (9 ∷ [])
    ∷ step (Ls (text "/d") 28) (0 ∷ 0 ∷ [])
    ∷ step (Link (text "/a") (text "/x")) (0 ∷ [])
    ∷ step (Move (text "/a") (text "/y")) (0 ∷ [])
    ∷ step Room (0 ∷ 0 ∷ 1 ∷ 1 ∷ [])
    ∷ [])
    ≡ []
unfolding wrong
records = refl

-- no file number is free: no record is filled; then no block for the record
numbers : wrong (zeroed 1 2 2) (
    step Prepare (0 ∷ [])
    ∷ step (Create (text "/a")) (0 ∷ 0 ∷ [])
    ∷ step (Create (text "/b")) (8 ∷ 0 ∷ [])
    ∷ step (Mkdir (text "/b")) (8 ∷ [])
    ∷ step (Ls (text "/") 14) (0 ∷ 1 ∷ 97 ∷ 0 ∷ 0 ∷ 0 ∷ 0 ∷ 0 ∷ 0 ∷ 0 ∷ 0 ∷ 0 ∷ 0 ∷ 0 ∷ 0 ∷ 0 ∷ [])
    ∷ step (Link (text "/a") (text "/b")) (0 ∷ [])
    ∷ step (Unlink (text "/a")) (0 ∷ [])
    ∷ step (Unlink (text "/b")) (0 ∷ [])
    ∷ step (Ls (text "/") 0) (0 ∷ 0 ∷ [])
    ∷ step Room (0 ∷ 0 ∷ 0 ∷ 1 ∷ [])
    ∷ step (Close 0) (0 ∷ [])
    ∷ step Room (0 ∷ 0 ∷ 1 ∷ 2 ∷ [])
    ∷ [])
    ≡ []
unfolding wrong
numbers = refl

-- a file is freed when its last name and its last channel are gone, not before
freeing : wrong (zeroed 3 3 2) (
    step Prepare (0 ∷ [])
    ∷ step (Create (text "/a")) (0 ∷ 0 ∷ [])
    ∷ step (Write 0 (text "hello")) (0 ∷ 5 ∷ [])
    ∷ step (Unlink (text "/a")) (0 ∷ [])
    ∷ step (Open (text "/a")) (4 ∷ 0 ∷ [])
    ∷ step Room (0 ∷ 1 ∷ 1 ∷ 1 ∷ [])
    ∷ step (Seek 0 0 1) (0 ∷ 1 ∷ [])
    ∷ step (Read 0 2) (0 ∷ 2 ∷ 101 ∷ 108 ∷ [])
    ∷ step (Create (text "/a")) (0 ∷ 1 ∷ [])
    ∷ step (Fstat 1) (0 ∷ 0 ∷ 3 ∷ 1 ∷ [])
    ∷ step (Close 0) (0 ∷ [])
    ∷ step Room (0 ∷ 2 ∷ 1 ∷ 1 ∷ [])
    ∷ step (Fstat 1) (0 ∷ 0 ∷ 3 ∷ 1 ∷ [])
    ∷ [])
    ≡ []
unfolding wrong
freeing = refl

-- a linked name stands for the same file; what it replaces is freed at once if nothing holds it
linking : wrong (zeroed 4 4 2) (
    step Prepare (0 ∷ [])
    ∷ step (Create (text "/a")) (0 ∷ 0 ∷ [])
    ∷ step (Write 0 (text "A")) (0 ∷ 1 ∷ [])
    ∷ step (Create (text "/b")) (0 ∷ 1 ∷ [])
    ∷ step (Write 1 (text "B")) (0 ∷ 1 ∷ [])
    ∷ step (Close 1) (0 ∷ [])
    ∷ step Room (0 ∷ 1 ∷ 1 ∷ 1 ∷ [])
    ∷ step (Link (text "/a") (text "/b")) (0 ∷ [])
    ∷ step Room (0 ∷ 2 ∷ 2 ∷ 1 ∷ [])
    ∷ step (Open (text "/b")) (0 ∷ 1 ∷ [])
    ∷ step (Read 1 5) (0 ∷ 1 ∷ 65 ∷ [])
    ∷ step (Link (text "/a") (text "/a")) (0 ∷ [])
    ∷ step (Link (text "/b") (text "/a")) (0 ∷ [])
    ∷ step (Ls (text "/") 28) (0 ∷ 2 ∷ 97 ∷ 0 ∷ 0 ∷ 0 ∷ 0 ∷ 0 ∷ 0 ∷ 0 ∷ 0 ∷ 0 ∷ 0 ∷ 0 ∷ 0 ∷ 0 ∷ 98 ∷ 0 ∷ 0 ∷ 0 ∷ 0 ∷ 0 ∷ 0 ∷ 0 ∷ 0 ∷ 0 ∷ 0 ∷ 0 ∷ 0 ∷ 0 ∷ [])
    ∷ step (Unlink (text "/a")) (0 ∷ [])
    ∷ step (Fstat 1) (0 ∷ 1 ∷ 2 ∷ 1 ∷ [])
    ∷ [])
    ≡ []
unfolding wrong
linking = refl

-- move is link, then unlink of the old name, also onto itself
moving : wrong (zeroed 4 4 2) (
    step Prepare (0 ∷ [])
    ∷ step (Create (text "/a")) (0 ∷ 0 ∷ [])
    ∷ step (Write 0 (text "A")) (0 ∷ 1 ∷ [])
    ∷ step (Mkdir (text "/d")) (0 ∷ [])
    ∷ step (Move (text "/a") (text "/d/b")) (0 ∷ [])
    ∷ step (Ls (text "/") 28) (0 ∷ 1 ∷ 100 ∷ 0 ∷ 0 ∷ 0 ∷ 0 ∷ 0 ∷ 0 ∷ 0 ∷ 0 ∷ 0 ∷ 0 ∷ 0 ∷ 0 ∷ 0 ∷ [])
    ∷ step (Ls (text "/d") 28) (0 ∷ 1 ∷ 98 ∷ 0 ∷ 0 ∷ 0 ∷ 0 ∷ 0 ∷ 0 ∷ 0 ∷ 0 ∷ 0 ∷ 0 ∷ 0 ∷ 0 ∷ 0 ∷ [])
    ∷ step (Close 0) (0 ∷ [])
    ∷ step (Open (text "/d/b")) (0 ∷ 0 ∷ [])
    ∷ step (Read 0 2) (0 ∷ 1 ∷ 65 ∷ [])
    ∷ step (Close 0) (0 ∷ [])
    ∷ step (Move (text "/d/b") (text "/d/b")) (0 ∷ [])
    ∷ step (Ls (text "/d") 28) (0 ∷ 0 ∷ [])
    ∷ step Room (0 ∷ 2 ∷ 2 ∷ 2 ∷ [])
    ∷ [])
    ≡ []
unfolding wrong
moving = refl

-- create empties an existing file; its other channels keep their positions
emptying : wrong (zeroed 3 3 2) (
    step Prepare (0 ∷ [])
    ∷ step (Create (text "/a")) (0 ∷ 0 ∷ [])
    ∷ step (Write 0 (text "hello")) (0 ∷ 5 ∷ [])
    ∷ step (Create (text "/a")) (0 ∷ 1 ∷ [])
    ∷ step (Fstat 0) (0 ∷ 0 ∷ 2 ∷ 1 ∷ [])
    ∷ step Room (0 ∷ 2 ∷ 1 ∷ 0 ∷ [])
    ∷ step (Create (text "/a")) (5 ∷ 0 ∷ [])
    ∷ step (Write 0 (text "!")) (0 ∷ 1 ∷ [])
    ∷ step (Read 1 9) (0 ∷ 6 ∷ 0 ∷ 0 ∷ 0 ∷ 0 ∷ 0 ∷ 33 ∷ [])
    ∷ [])
    ≡ []
unfolding wrong
emptying = refl

-- sums and products in full, no wrap at 2^32; 16,777,215 itself is allowed
seeking : wrong (zeroed 2 3 2) (
    step Prepare (0 ∷ [])
    ∷ step (Create (text "/a")) (0 ∷ 0 ∷ [])
    ∷ step (Write 0 (text "0123456789")) (0 ∷ 10 ∷ [])
    ∷ step (Seek 0 0 3) (0 ∷ 3 ∷ [])
    ∷ step (Seek 0 1 2) (0 ∷ 5 ∷ [])
    ∷ step (Seek 0 2 2) (0 ∷ 12 ∷ [])
    ∷ step (Seek 0 3 2) (0 ∷ 1024 ∷ [])
    ∷ step (Seek 0 4 2) (0 ∷ 2048 ∷ [])
    ∷ step (Seek 0 5 2) (0 ∷ 1034 ∷ [])
    ∷ step (Seek 0 6 0) (11 ∷ 0 ∷ [])
    ∷ step (Seek 0 0 16777216) (11 ∷ 0 ∷ [])
    ∷ step (Seek 0 0 16777215) (0 ∷ 16777215 ∷ [])
    ∷ step (Seek 0 1 1) (11 ∷ 0 ∷ [])
    ∷ step (Seek 0 1 4294967295) (11 ∷ 0 ∷ [])
    ∷ step (Seek 0 3 4294967295) (11 ∷ 0 ∷ [])
    ∷ step (Seek 0 5 32767) (0 ∷ 16776714 ∷ [])
    ∷ step (Read 0 4) (0 ∷ 0 ∷ [])
    ∷ step (Fstat 0) (0 ∷ 10 ∷ 2 ∷ 1 ∷ [])
    ∷ [])
    ≡ []
unfolding wrong
seeking = refl
