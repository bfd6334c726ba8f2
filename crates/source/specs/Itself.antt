-- Where the file that close, unlink or link might free is still referred to, the call is the source's operation itself. (Of move: Moved.)
use Rattle.std.specs.Prelude.{◌≡◌, refl}
use Rattle.std.proofs.Common.{◌∙◌, eq-eqb}
use Rattle.std.proofs.Math.Option.{some}
use Rattle.source.specs.Files.{FID}
use Rattle.source.specs.Channels.{CID}
use Rattle.source.specs.Naming.{NAME}
use Rattle.source.specs.Filing.{State, Used, closeFS}
use Rattle.source.specs.Departures.{Freeing, stays, goes, Replacing, nothing, something, Closing, unlinkFS, Unlinking, linkFS, Linking}
use Rattle.source.specs.StateLaws.{value}
use Rattle.source.specs.FreeingLaws.{clash}

still_there : (fid : FID) (y x' : State) → Freeing fid y x' → Used x' fid → x' ≡ y
still_there fid y x' (stays u e) used = e
still_there fid y x' (goes h) used =
    let (file, there) = h.change.after.used fid used in
    absurd (clash file (value h.file.destroys fid ∙ rw (eq-eqb fid fid refl)) there)

module _ (x x' : State) where
  pub close_itself : (cid : CID) (h : Closing cid x x') → Used x' h.chan.fid → closeFS cid x x'
  close_itself cid h used =
      let (m, closes, frees) = h.closes in
      rw (still_there h.chan.fid m x' frees used) closes

  pub unlink_itself : (name : NAME) (h : Unlinking name x x') → Used x' h.fid → unlinkFS name x x'
  unlink_itself name h used =
      let (m, unlinks, frees) = h.unlinks in
      rw (still_there h.fid m x' frees used) unlinks

  pub link_itself : (oldname newname : NAME) → Linking oldname newname x x' → ((fid : FID) → x.nstore newname ≡ some fid → Used x' fid) → linkFS oldname newname x x'
  link_itself oldname newname (m, links, replaces) used = rw (same replaces) links
    where
      same : Replacing x newname m x' → x' ≡ m
      same (nothing gone e) = e
      same (something fid at frees) = still_there fid m x' frees (used fid at)
