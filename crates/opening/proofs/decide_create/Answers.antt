-- Each return is a case of what create gives on a well-written name, by the tests that led there.
use Rattle.std.proofs.lemmas.Result.{err_from_is_err_and}
use Rattle.naming.specs.At.{judged_shelves, stands_at}
use Rattle.placing.specs.Free.{few-channels}
use Rattle.opening.specs.CreateCases.{create-refusal, no-directory, old-directory, old_no_channel, old_emptied}
use Rattle.opening.proofs.decide_create.Goals as goal

pub returns-in_err-k : goal.returns-in_err-k
returns-in_err-k c =
    let p = err_from_is_err_and c.from_residual.result c.from_residual.ensures.1 in
    rw (p.1, p.2) (create-refusal _ _ _ c.in_err-k.ensures)

pub locate-requires-clause-shelves : goal.locate-requires-clause-shelves
locate-requires-clause-shelves c = judged_shelves _ _ _ _ _ _ c.in_ok-k.ensures

pub returns-in-Nowhere : goal.returns-in-Nowhere
returns-in-Nowhere c = no-directory _ _ _ _ (stands_at _ _ _ _ _ _ c.in_ok-k.ensures _ c.in-Nowhere.ensures)

pub returns-then-is_directory : goal.returns-then-is_directory
returns-then-is_directory c = old-directory _ _ _ _ _ (stands_at _ _ _ _ _ _ c.in_ok-k.ensures _ c.in-Old.ensures) _ c.is_directory.ensures c.if-is_directory.true

pub find_channel-requires : goal.find_channel-requires
find_channel-requires c = few-channels _ c.in_ok-k.ensures.ok

pub returns-in_err-c-in-Old : goal.returns-in_err-c-in-Old
returns-in_err-c-in-Old c =
    let p = err_from_is_err_and c.from_residual-in_err-c-in-Old.result c.from_residual-in_err-c-in-Old.ensures.1 in
    rw (p.1, p.2)
    (old_no_channel _ _ _ _ _ (stands_at _ _ _ _ _ _ c.in_ok-k.ensures _ c.in-Old.ensures) _ c.is_directory.ensures c.if-is_directory.false _ c.find_channel.ensures
    _ c.in_err-c-in-Old.ensures.value)

pub returns-in_ok-c-in-Old : goal.returns-in_ok-c-in-Old
returns-in_ok-c-in-Old c =
    old_emptied _ _ _ _ _ (stands_at _ _ _ _ _ _ c.in_ok-k.ensures _ c.in-Old.ensures) _ c.is_directory.ensures c.if-is_directory.false _ c.find_channel.ensures
    _ c.in_ok-c-in-Old.ensures.value
