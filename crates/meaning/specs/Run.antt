-- Every call, what it gives on lent tables, and the promise that each call keeps (01, "How much a promise says").
use Rattle.std.specs.Prelude.{ℕ, ◌≡◌, List, [], ◌∷◌, Bool, not, replicate, eqb}
use Rattle.records.specs.Rows.{pick}
use Rattle.std.specs.Borrow.{MutBor}
use denote.Triple.Both.{Both}
use Rattle.meaning.specs.File.{over}
use Rattle.meaning.specs.Store.{Store, Change, prepared}
use Rattle.meaning.specs.Result.{Result, refused, done, unless}
use Rattle.meaning.specs.ChannelCalls.{close, read, write, seek, fstat, room}
use Rattle.meaning.specs.NameCalls.{create, open', link, unlink, move, mkdir, rmdir, ls}
use Rattle.meaning.specs.Tables.{Tables, tables, store_of, put_all}
use Rattle.meaning.specs.Sound.{sound, lengths_agree}
use Rattle.meaning.specs.declared.Report.{Report}
use Rattle.meaning.specs.declared.Report.TheVariants.{Ok, NotAStore, BadName, NoSuchCid, NoSuchName, NoFreeCids, IsDirectory, NotDirectory, NoFreeFids, NoRoom, TooBig, BadSeek, NameInUse, NotEmpty, OutShort, InUse}

-- ---- calls

-- names and data as bytes, channels by number; read and ls with the size of the lent buffer
pub data Call : Type 0 where
  Prepare Room : Call
  Create Open Unlink Mkdir Rmdir : List ℕ → Call
  Link Move : List ℕ → List ℕ → Call
  Ls : List ℕ → ℕ → Call
  Close Fstat : ℕ → Call
  Read : ℕ → ℕ → Call
  Write : ℕ → List ℕ → Call
  Seek : ℕ → ℕ → ℕ → Call

-- what a call gives on a store
unfoldable pub meaning : Call → Store → Result
meaning Prepare s = done [] [] (prepared ∷ [])
meaning Room s = room s
meaning (Create name) s = create name s
meaning (Open name) s = open' name s
meaning (Unlink name) s = unlink name s
meaning (Mkdir name) s = mkdir name s
meaning (Rmdir name) s = rmdir name s
meaning (Link old new) s = link old new s
meaning (Move old new) s = move old new s
meaning (Ls name size) s = ls name size s
meaning (Close c) s = close c s
meaning (Fstat c) s = fstat c s
meaning (Read c count) s = read c count s
meaning (Write c bytes) s = write c bytes s
meaning (Seek c mode n) s = seek c mode n s

-- what a call asks of its tables: prepare their lengths alone, every other call a sound store
unfoldable pub accepts : Call → Tables → Bool
accepts Prepare t = lengths_agree t
accepts Room t = sound t
accepts (Create name) t = sound t
accepts (Open name) t = sound t
accepts (Unlink name) t = sound t
accepts (Mkdir name) t = sound t
accepts (Rmdir name) t = sound t
accepts (Link old new) t = sound t
accepts (Move old new) t = sound t
accepts (Ls name size) t = sound t
accepts (Close c) t = sound t
accepts (Fstat c) t = sound t
accepts (Read c count) t = sound t
accepts (Write c bytes) t = sound t
accepts (Seek c mode n) t = sound t

-- what a call gives on lent tables: NotAStore comes before any other refusal
unfoldable pub result_of : Call → Tables → Result
result_of call t = let r = meaning call (store_of t) in unless (not (accepts call t)) NotAStore r

-- ---- answers

-- 01's number of a report
unfoldable pub number_of : Report → ℕ
number_of Ok = 0
number_of NotAStore = 1
number_of BadName = 2
number_of NoSuchCid = 3
number_of NoSuchName = 4
number_of NoFreeCids = 5
number_of IsDirectory = 6
number_of NotDirectory = 7
number_of NoFreeFids = 8
number_of NoRoom = 9
number_of TooBig = 10
number_of BadSeek = 11
number_of NameInUse = 12
number_of NotEmpty = 13
number_of OutShort = 14
number_of InUse = 15

-- how many numbers a call answers beside its report
abbrev pub width : Call → ℕ
width Prepare = 0
width Room = 3
width (Create name) = 1
width (Open name) = 1
width (Unlink name) = 0
width (Mkdir name) = 0
width (Rmdir name) = 0
width (Link old new) = 0
width (Move old new) = 0
width (Ls name size) = 1
width (Close c) = 0
width (Fstat c) = 3
width (Read c count) = 1
width (Write c bytes) = 1
width (Seek c mode n) = 1

-- what a caller is told: the report's number, then the values
abbrev pub Answer : Type 0
Answer = List ℕ

-- an accepted call: 0, then its numbers
abbrev pub accepted : List ℕ → Answer
accepted ns = number_of Ok ∷ ns

-- a refusal: its report's number, and every other number zero. Ok is no refusal: where numbers follow a report, it has no such row
unfoldable pub refusal : ℕ → Report → Answer
refusal n why = number_of why ∷ pick (eqb (number_of why) 0) [] (replicate {A = ℕ} n 0)

-- the answer of a call with n numbers
unfoldable pub answer_of : ℕ → Result → Answer
answer_of n (refused why) = refusal n why
answer_of n (done ns bytes changes) = accepted ns

-- the bytes for the lent buffer
unfoldable pub bytes_of : Result → List ℕ
bytes_of (refused why) = []
bytes_of (done ns bytes changes) = bytes

unfoldable pub changes_of : Result → List Change
changes_of (refused why) = []
changes_of (done ns bytes changes) = changes

-- ---- outcomes and promises

-- all that a caller can see of a call: the answer in 01's numbers, the lent buffer and the tables afterwards
pub record Outcome : Type 0 where
  pub answer : Answer
  pub buffer : List ℕ
  pub tables : Tables

-- the outcome of a call on tables, with a lent buffer: its bytes lie at the buffer's head, and the rest stays
unfoldable pub run : Call → Tables → List ℕ → Outcome
run call t buffer =
    let r = result_of call t in
    record { answer = answer_of (width call) r; buffer = over buffer (bytes_of r); tables = put_all t (changes_of r) }

-- the promise of every call: the answer, the lent buffer and every byte of the tables
pub record Promise (call : Call) (t : Tables) (buffer : List ℕ) (o : Outcome) : Type 0 where
  pub answers : o.answer ≡ answer_of (width call) (result_of call t)
  pub fills : o.buffer ≡ over buffer (bytes_of (result_of call t))
  pub leaves : o.tables ≡ put_all t (changes_of (result_of call t))

-- ---- the promise in a contract

-- a table, or a buffer, as a call was lent it to be changed, and as the call leaves it
abbrev pub Lent : Type 0
Lent = Both (MutBor (List ℕ)) (MutBor (List ℕ))

abbrev pub entered : Lent → Lent → Lent → Lent → Tables
entered b br fr cr = tables b.entry.now br.entry.now fr.entry.now cr.entry.now

abbrev pub left : Lent → Lent → Lent → Lent → Tables
left b br fr cr = tables b.exit.now br.exit.now fr.exit.now cr.exit.now

-- from the tables as the call was lent them to the tables as it leaves them; so too the buffer
abbrev pub KeepsInto : Call → Tables → Tables → List ℕ → List ℕ → Answer → Type 0
KeepsInto call t t' buffer buffer' answer = Promise call t buffer (record { answer = answer; buffer = buffer'; tables = t' })

abbrev pub Keeps : Call → Tables → Tables → Answer → Type 0
Keeps call t t' answer = Promise call t [] (record { answer = answer; buffer = []; tables = t' })
