-- Each return is a case of what create gives on a new name, by the tests that led there.
use Rattle.std.proofs.lemmas.Result.{err_from_is_err_and}
use Rattle.naming.specs.At.{stands_at}
use Rattle.placing.specs.Free.{few-channels, few-files}
use Rattle.placing.specs.NewName.{directory_there, new_place, its_place, few_there}
use Rattle.opening.specs.CreateCases.{new_no_channel, new_no_file, new_refused, new-made}
use Rattle.opening.proofs.decide_new.Goals as goal

pub find_channel-requires : goal.find_channel-requires
find_channel-requires c = few-channels _ c.requires.spelled.ok

pub returns-in_err-c : goal.returns-in_err-c
returns-in_err-c c =
    let p = err_from_is_err_and c.from_residual.result c.from_residual.ensures.1 in
    rw (p.1, p.2) (new_no_channel _ _ _ _ (stands_at _ _ _ _ _ _ c.requires.spelled _ c.requires.located) _ c.find_channel.ensures _ c.in_err-c.ensures.value)

pub find_file-requires : goal.find_file-requires
find_file-requires c = few-files _ c.requires.spelled.ok

pub returns-in_err-f : goal.returns-in_err-f
returns-in_err-f c =
    let p = err_from_is_err_and c.from_residual-in_err-f.result c.from_residual-in_err-f.ensures.1 in
    rw (p.1, p.2)
    (new_no_file _ _ _ _ (stands_at _ _ _ _ _ _ c.requires.spelled _ c.requires.located) _ c.find_channel.ensures _ c.in_ok-c.ensures.value _ c.find_file.ensures _ c.in_err-f.ensures.value)

pub new_record-i-requires : goal.new_record-i-requires
new_record-i-requires c = new_place _ _ _ c.requires.spelled _ c.requires.located

pub record_fits-requires-clause-d_is_directory : goal.record_fits-requires-clause-d_is_directory
record_fits-requires-clause-d_is_directory c = directory_there _ _ _ c.requires.spelled _ c.requires.located

pub record_fits-requires-clause-length_in_bounds : goal.record_fits-requires-clause-length_in_bounds
record_fits-requires-clause-length_in_bounds c = few_there _ _ _ c.requires.spelled _ c.requires.located _ c.new_record-i.ensures

pub returns-in_err-record_fits : goal.returns-in_err-record_fits
returns-in_err-record_fits c =
    let p = err_from_is_err_and c.from_residual-in_err-record_fits.result c.from_residual-in_err-record_fits.ensures.1 in
    rw (p.1, p.2)
    (new_refused _ _ _ _ (stands_at _ _ _ _ _ _ c.requires.spelled _ c.requires.located) _ c.find_channel.ensures _ c.in_ok-c.ensures.value _ c.find_file.ensures _ c.in_ok-f.ensures.value
    _ (its_place _ _ _ c.requires.spelled _ c.requires.located _ c.new_record-i.ensures) _ c.in_err-record_fits.ensures)

pub returns : goal.returns
returns c =
    new-made _ _ _ _ (stands_at _ _ _ _ _ _ c.requires.spelled _ c.requires.located) _ c.find_channel.ensures _ c.in_ok-c.ensures.value _ c.find_file.ensures _ c.in_ok-f.ensures.value
    _ (its_place _ _ _ c.requires.spelled _ c.requires.located _ c.new_record-i.ensures) c.in_ok-record_fits.ensures
