-- Each call keeps its promise, and its answer is printed.
use Rattle.serving.specs.ServesLaws.{kept_served, kept_reported}
use Rattle.serving.proofs.serve.Goals as goal

pub returns-in-Prepare : goal.returns-in-Prepare
returns-in-Prepare c = rw c.in-Prepare.is (kept_reported _ _ _ _ c.prepare.ensures _ _ _ _ (c.print_answer.ensures 0))

pub returns-in-Room : goal.returns-in-Room
returns-in-Room c = rw c.in-Room.is (kept_served _ _ _ _ c.room.ensures _ _ _ _ (c.print_answer-in-Room.ensures 3))

pub returns-in-Create : goal.returns-in-Create
returns-in-Create c = rw c.in-Create.is (kept_served _ _ _ _ c.create.ensures _ _ _ _ (c.print_answer-in-Create.ensures 1))

pub returns-in-Open : goal.returns-in-Open
returns-in-Open c = rw c.in-Open.is (kept_served _ _ _ _ c.open.ensures _ _ _ _ (c.print_answer-in-Open.ensures 1))

pub returns-in-Unlink : goal.returns-in-Unlink
returns-in-Unlink c = rw c.in-Unlink.is (kept_reported _ _ _ _ c.unlink.ensures _ _ _ _ (c.print_answer-in-Unlink.ensures 0))

pub returns-in-Mkdir : goal.returns-in-Mkdir
returns-in-Mkdir c = rw c.in-Mkdir.is (kept_reported _ _ _ _ c.mkdir.ensures _ _ _ _ (c.print_answer-in-Mkdir.ensures 0))

pub returns-in-Rmdir : goal.returns-in-Rmdir
returns-in-Rmdir c = rw c.in-Rmdir.is (kept_reported _ _ _ _ c.rmdir.ensures _ _ _ _ (c.print_answer-in-Rmdir.ensures 0))

pub returns-in-Link : goal.returns-in-Link
returns-in-Link c = rw c.in-Link.is (kept_reported _ _ _ _ c.link.ensures _ _ _ _ (c.print_answer-in-Link.ensures 0))

pub returns-in-Move : goal.returns-in-Move
returns-in-Move c = rw c.in-Move.is (kept_reported _ _ _ _ c.move_name.ensures _ _ _ _ (c.print_answer-in-Move.ensures 0))

pub returns-in-Close : goal.returns-in-Close
returns-in-Close c = rw c.in-Close.is (kept_reported _ _ _ _ c.close.ensures _ _ _ _ (c.print_answer-in-Close.ensures 0))

pub returns-in-Fstat : goal.returns-in-Fstat
returns-in-Fstat c = rw c.in-Fstat.is (kept_served _ _ _ _ c.fstat.ensures _ _ _ _ (c.print_answer-in-Fstat.ensures 3))

pub returns-in-Write : goal.returns-in-Write
returns-in-Write c = rw c.in-Write.is (kept_served _ _ _ _ c.write.ensures _ _ _ _ (c.print_answer-in-Write.ensures 1))

pub returns-in-Seek : goal.returns-in-Seek
returns-in-Seek c = rw c.in-Seek.is (kept_served _ _ _ _ c.seek.ensures _ _ _ _ (c.print_answer-in-Seek.ensures 1))
