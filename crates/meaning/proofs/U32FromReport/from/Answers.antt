-- Reports are declared in the order of their numbers.
use Rattle.std.specs.Prelude.{◌≡◌, refl}
use Rattle.meaning.specs.Run.{number_of}
use Rattle.meaning.specs.declared.Report.{Report}
use Rattle.meaning.specs.declared.Report.TheVariants.{Ok, NotAStore, BadName, NoSuchCid, NoSuchName, NoFreeCids, IsDirectory, NotDirectory, NoFreeFids, NoRoom, TooBig, BadSeek, NameInUse, NotEmpty, OutShort, InUse}
use Rattle.meaning.specs.contracts.Report.{the_type}
use denote.Enum.Declared.{tag_of}
use Rattle.meaning.proofs.U32FromReport.from.Goals as goal

in_order : (r : Report) → tag_of the_type r ≡ number_of r
unfolding number_of
in_order Ok = refl
in_order NotAStore = refl
in_order BadName = refl
in_order NoSuchCid = refl
in_order NoSuchName = refl
in_order NoFreeCids = refl
in_order IsDirectory = refl
in_order NotDirectory = refl
in_order NoFreeFids = refl
in_order NoRoom = refl
in_order TooBig = refl
in_order BadSeek = refl
in_order NameInUse = refl
in_order NotEmpty = refl
in_order OutShort = refl
in_order InUse = refl

pub returns : goal.returns
returns c = in_order c.args.report
