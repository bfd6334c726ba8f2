-- For each call: two runs that keep its promise on the same tables, with the same buffer, answer the same
-- and leave the same buffer and the same tables, byte for byte (01, "How much a promise says").
use Rattle.std.specs.Prelude.{ℕ, ◌≡◌, List}
use Rattle.std.proofs.Common.{ap}
use Rattle.meaning.specs.Tables.{Tables}
use Rattle.meaning.specs.Run.{Call, Prepare, Room, Create, Open, Unlink, Mkdir, Rmdir, Link, Move, Ls, Close, Fstat, Read, Write, Seek, Answer, Outcome, Promise}
use Rattle.meaning.proofs.Determined.{same_outcome}
use Rattle.meaning.specs.Answers.{reported, opened, counted, sought, stat_of, space_of}
use Rattle.meaning.proofs.AnswerLaws.{reported-one, opened_one, counted-one, sought-one, stat_one, space-one}

-- what a run of a call leaves to be seen, its answer as the code gives it
pub record Seen (A : Type 0) : Type 0 where
  pub answer : A
  pub buffer : List ℕ
  pub tables : Tables

module _ {A : Type 0} (stands : A → Answer) where
  abbrev pub outcome : Seen A → Outcome
  outcome s = record { answer = stands s.answer; buffer = s.buffer; tables = s.tables }

  -- all that keeps the promise is one and the same
  abbrev pub OneOutcome : Call → Type 0
  OneOutcome call =
      (t : Tables) (buffer : List ℕ) (s s' : Seen A) → Promise call t buffer (outcome s) → Promise call t buffer (outcome s') → s ≡ s'

  one-outcome : ((a b : A) → stands a ≡ stands b → a ≡ b) → (call : Call) → OneOutcome call
  one-outcome known call t buffer s s' p q =
      let o = same_outcome call t buffer (outcome s) (outcome s') p q in
      let answers = known s.answer s'.answer (ap (λ (x : Outcome). x.answer) o) in
      λ i. record { answer = answers i; buffer = (o i).buffer; tables = (o i).tables }

pub one-prepare : OneOutcome reported Prepare
one-prepare = one-outcome reported reported-one Prepare

pub one-create : (name : List ℕ) → OneOutcome opened (Create name)
one-create name = one-outcome opened opened_one (Create name)

pub one-open : (name : List ℕ) → OneOutcome opened (Open name)
one-open name = one-outcome opened opened_one (Open name)

pub one-close : (c : ℕ) → OneOutcome reported (Close c)
one-close c = one-outcome reported reported-one (Close c)

pub one-read : (c count : ℕ) → OneOutcome counted (Read c count)
one-read c count = one-outcome counted counted-one (Read c count)

pub one-write : (c : ℕ) (bytes : List ℕ) → OneOutcome counted (Write c bytes)
one-write c bytes = one-outcome counted counted-one (Write c bytes)

pub one-seek : (c mode n : ℕ) → OneOutcome sought (Seek c mode n)
one-seek c mode n = one-outcome sought sought-one (Seek c mode n)

pub one-fstat : (c : ℕ) → OneOutcome stat_of (Fstat c)
one-fstat c = one-outcome stat_of stat_one (Fstat c)

pub one_link : (old new : List ℕ) → OneOutcome reported (Link old new)
one_link old new = one-outcome reported reported-one (Link old new)

pub one-unlink : (name : List ℕ) → OneOutcome reported (Unlink name)
one-unlink name = one-outcome reported reported-one (Unlink name)

pub one-move : (old new : List ℕ) → OneOutcome reported (Move old new)
one-move old new = one-outcome reported reported-one (Move old new)

pub one-ls : (name : List ℕ) (size : ℕ) → OneOutcome counted (Ls name size)
one-ls name size = one-outcome counted counted-one (Ls name size)

pub one-mkdir : (name : List ℕ) → OneOutcome reported (Mkdir name)
one-mkdir name = one-outcome reported reported-one (Mkdir name)

pub one-rmdir : (name : List ℕ) → OneOutcome reported (Rmdir name)
one-rmdir name = one-outcome reported reported-one (Rmdir name)

pub one-room : OneOutcome space_of Room
one-room = one-outcome space_of space-one Room
