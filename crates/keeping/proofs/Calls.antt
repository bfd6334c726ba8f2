-- Every call on a well-formed store: the tables can take its changes, and the store that they leave is well formed.
use Rattle.std.specs.Prelude.{[], ◌∷◌}
use Rattle.meaning.specs.Store.{Store, prepared, after_all}
use Rattle.meaning.specs.Result.{Result, refused, done}
use Rattle.meaning.specs.Run.{Call, Prepare, Room, Create, Open, Unlink, Mkdir, Rmdir, Link, Move, Ls, Close, Fstat, Read, Write, Seek, meaning, changes_of}
use Rattle.soundness.specs.Well.{Well}
use Rattle.keeping.specs.Sure.{Sure, Good, Sized}
use Rattle.keeping.specs.OnChannels.{nothing, good-open, good-read, good-seek, good-fstat, good-room, good-ls}
use Rattle.keeping.proofs.WriteClose.{good-write, good-close}
use Rattle.keeping.proofs.OnNames.{good-unlink, good-link, good-move, good-rmdir}
use Rattle.keeping.proofs.NewFiles.{good-create, good-mkdir}
use Rattle.keeping.specs.Prepared.{prepared_well}

-- prepare asks for no well-formed store
pub sure_prepare : (s : Store) → Sure s (prepared ∷ [])
unfolding after_all
sure_prepare s = record { fits = (tt, tt); well = prepared_well s }

module _ (s : Store) (w : Well s) (z : Sized s) where
  pub good : (call : Call) → Good s (meaning call s)
  unfolding meaning
  good Prepare = sure_prepare s
  good Room = good-room s w z
  good (Create name) = good-create s w z name
  good (Open name) = good-open s w z name
  good (Unlink name) = good-unlink s w z name
  good (Mkdir name) = good-mkdir s w z name
  good (Rmdir name) = good-rmdir s w z name
  good (Link old new) = good-link s w z old new
  good (Move old new) = good-move s w z old new
  good (Ls name size) = good-ls s w z name size
  good (Close c) = good-close s w z c
  good (Fstat c) = good-fstat s w z c
  good (Read c count) = good-read s w z c count
  good (Write c bytes) = good-write s w z c bytes
  good (Seek c mode n) = good-seek s w z c mode n

  pub sure : (r : Result) → Good s r → Sure s (changes_of r)
  unfolding changes_of
  sure (refused why) ok = nothing s w z
  sure (done numbers bytes changes) ok = ok
