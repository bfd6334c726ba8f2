-- The name store where operations are composed, as the source's linkNS, destroyNS and moveNS say; and move is its schema.
use Rattle.std.specs.Prelude.{ℕ, List}
use Rattle.std.proofs.Common.{ap, ◌∙◌}
use Rattle.meaning.specs.Store.{Store, Change, after_all}
use Rattle.meaning.specs.NameCalls.{link, unlink, move}
use Rattle.keeping.specs.Sure.{Sure, sized_after, after_both}
use Rattle.keeping.proofs.OnNames.{good-link}
use Rattle.source.specs.Sets.{◌⩤◌, the_name}
use Rattle.source.specs.Naming.{NAME, NSTORE, createNS, linkNS, destroyNS, moveNS}
use Rattle.source.specs.Filing.{State}
use Rattle.source.specs.Departures.{createFS, Unlinking, Linking, Moving}
use Rattle.source.specs.View.{view}
use Rattle.source.specs.StateLaws.{freeing-names, replacing-names}
use Rattle.source.specs.Accepted.{Ready, sized, accepted-map, accepted_then}
use Rattle.source.specs.NameStatements.{MoveHolds}
use Rattle.source.proofs.Moved.{move_is}
use Rattle.source.proofs.Unlinking.{unlink-holds}
use Rattle.source.proofs.Linking.{link-holds}

-- ---- name stores of composed operations

module _ (x x' : State) where
  pub create-names : (name : NAME) (cid : ℕ) → createFS name cid x x' → (fid : ℕ) × createNS x.nstore x'.nstore name fid
  create-names name cid (m, first, second) =
      (first.fid, record { creates = second.names.names ∙ first.names.creates })

  pub link-names : (oldname newname : NAME) → Linking oldname newname x x' → (fid : ℕ) × linkNS x.nstore x'.nstore oldname newname fid
  link-names oldname newname (m, (k, first, second), replaces) =
      (first.fid, record { is = first.names.is; links = (replacing-names x newname m x' replaces).names ∙ second.names.names ∙ first.names.links })

  pub unlink-names : (name : NAME) → Unlinking name x x' → destroyNS x.nstore x'.nstore name
  unlink-names name h =
      let (m, (k, first, second), frees) = h.unlinks in
      record { exists = first.names.exists; destroys = (freeing-names h.fid m x' frees).names ∙ second.names.names ∙ first.names.destroys }

-- moveNS ≙ linkNS ⨾ destroyNS [oldname?/name?]
pub move-names : (x x' : State) (oldname newname : NAME) → Moving oldname newname x x' → (fid : ℕ) × moveNS x.nstore x'.nstore oldname newname fid
move-names x x' oldname newname (m, links, unlinks) =
    let (fid, linked) = link-names x m oldname newname links in
    let taken = unlink-names m x' oldname unlinks in
    (fid, record { is = linked.is; moves = taken.destroys ∙ ap (λ (n : NSTORE). the_name oldname ⩤ n) linked.links })

-- ---- move

ready_after : (s : Store) → Ready s → (changes : List Change) → Sure s changes → Ready (after_all s changes)
ready_after s ready changes sure =
    let z = sized_after s changes (sized s ready) in
    record { well = sure.well; some_file = z.some_files; few-files = z.few-files }

pub move-holds : MoveHolds
unfolding move
move-holds s ready old new oldname newname e h =
    accepted_then s _ _ (link old new s) (unlink old) (good-link s ready.well (sized s ready) old new) (link-holds s ready old new oldname newname e h)
    (λ numbers none changes sure linked.
    accepted-map _ _ _
    (λ more_numbers more-none more unlinked.
    rw (after_both s changes more) (
    let t = after_all s changes in
    let moves : Moving oldname newname (view s) (view (after_all t more)) = (view t, linked.0, unlinked.0) in (
      moves,
      unlinked.1,
      unlinked.2 ∙ linked.2,
      move-names (view s) (view (after_all t more)) oldname newname moves,
      move_is (view s) (view t) (view (after_all t more)) oldname newname linked.0 unlinked.0 unlinked.2,
    )))
    (unlink-holds (after_all s changes) (ready_after s ready changes sure) old oldname e))
