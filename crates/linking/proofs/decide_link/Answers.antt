-- Each return is a case of what link gives on two well-written names, by the tests that led there.
use Rattle.std.proofs.lemmas.Result.{err_from_is_err_and}
use Rattle.linking.specs.LinkLaws.{no_names, no_old, old-directory, no_new, here_directory, few-records, no_fit, accepted}
use Rattle.linking.proofs.decide_link.Goals as goal

pub returns-in_err-from : goal.returns-in_err-from
returns-in_err-from c =
    let p = err_from_is_err_and c.from_residual.result c.from_residual.ensures.1 in
    rw (p.1, p.2) (no_names _ _ _ _ _ _ _ c.in_err-from.ensures)

pub returns-in_default : goal.returns-in_default
returns-in_default c = no_old _ _ _ _ _ _ _ _ c.in_ok-from.ensures c.in_default.not-Old

pub returns-then-is_directory : goal.returns-then-is_directory
returns-then-is_directory c =
    old-directory _ _ _ _ _ _ _ _ c.in_ok-from.ensures _ _ c.in-Old.is _ c.is_directory.ensures c.if-is_directory.true

pub returns-in_err-to : goal.returns-in_err-to
returns-in_err-to c =
    let p = err_from_is_err_and c.from_residual-in_err-to.result c.from_residual-in_err-to.ensures.1 in
    rw (p.1, p.2)
    (no_new _ _ _ _ _ _ _ _ c.in_ok-from.ensures _ _ c.in-Old.is _ c.is_directory.ensures c.if-is_directory.false _ c.in_err-to.ensures)

pub record_fits-requires-clause-d_is_directory : goal.record_fits-requires-clause-d_is_directory
record_fits-requires-clause-d_is_directory c =
    here_directory _ _ _ _ _ _ _ _ c.in_ok-from.ensures _ _ c.in-Old.is _ c.is_directory.ensures c.if-is_directory.false _ _ _ c.in_ok-to.ensures

pub record_fits-requires-clause-length_in_bounds : goal.record_fits-requires-clause-length_in_bounds
record_fits-requires-clause-length_in_bounds c =
    few-records _ _ _ _ _ _ _ _ c.in_ok-from.ensures _ _ c.in-Old.is _ c.is_directory.ensures c.if-is_directory.false _ _ _ c.in_ok-to.ensures

pub returns-in_err-record_fits : goal.returns-in_err-record_fits
returns-in_err-record_fits c =
    let p = err_from_is_err_and c.from_residual-in_err-record_fits.result c.from_residual-in_err-record_fits.ensures.1 in
    rw (p.1, p.2)
    (no_fit _ _ _ _ _ _ _ _ c.in_ok-from.ensures _ _ c.in-Old.is _ c.is_directory.ensures c.if-is_directory.false _ _ _ c.in_ok-to.ensures
    _ c.in_err-record_fits.ensures)

pub returns : goal.returns
returns c =
    accepted _ _ _ _ _ _ _ _ c.in_ok-from.ensures _ _ c.in-Old.is _ c.is_directory.ensures c.if-is_directory.false _ _ _ c.in_ok-to.ensures
    _ c.in_ok-record_fits.ensures
