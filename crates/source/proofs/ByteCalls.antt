-- Bytes stay bytes: what every call writes into files, and what it reads, is made of the bytes that it was given and of those of the store.
use Rattle.std.specs.Prelude.{ℕ, ◌≡◌, List, true, false, length}
use Rattle.std.proofs.Common.{ap, ◌∙◌}
use Rattle.std.proofs.Math.Logic.{⊎_elim}
use Rattle.records.specs.Tests.{tested}
use Rattle.meaning.specs.File.{over}
use Rattle.meaning.specs.Store.{Store, after_all, last}
use Rattle.meaning.specs.Result.{Result, refused, done, on_channel, with_syllables, missing, if_fits}
use Rattle.meaning.specs.ChannelCalls.{close, read, write, seek, fstat, room}
use Rattle.meaning.specs.NameCalls.{create, open', link, unlink, move, mkdir, rmdir, ls, naming, unnaming, rewritten, if_naming_fits}
use Rattle.meaning.specs.Tables.{store_of, put_all}
use Rattle.meaning.specs.Run.{Call, Prepare, Room, Create, Open, Unlink, Mkdir, Rmdir, Link, Move, Ls, Close, Fstat, Read, Write, Seek, meaning, changes_of, bytes_of}
use Rattle.keeping.proofs.OnNames.{good-link}
use Rattle.source.specs.Naming.{NAME}
use Rattle.source.specs.ByteRows.{Bytes, of_seq, to-seq, no_bytes, both_bytes, dropped_bytes, zero_rows, read-bytes, write_bytes, entry-bytes, directory-bytes, listing-bytes, name-bytes}
use Rattle.source.specs.Accepted.{Ready, sized, Accepted, accepted, past, spelled, accepted-map, accepted_then}
use Rattle.source.specs.Invariants.{sound_ready}
use Rattle.source.proofs.Outcomes.{by_spelling, result_is}
use Rattle.source.specs.Limits.{Given, BytesKept}
use Rattle.source.proofs.LimitProofs.{file-bytes}
use Rattle.source.specs.ByteChanges.{ChangeBytes, Gives, both_changes, ByteStore, all_after, let_go_bytes, put_all_bytes}

-- ---- a directory with a record written anew

module _ (s : Store) (all : ByteStore s) (name : NAME) where
  naming-bytes : (f : ℕ) → Bytes (last name) → Bytes (naming s name f).bytes
  unfolding naming rewritten
  naming-bytes f h = directory-bytes _ _ _ (all.files _) (entry-bytes f (last name) h)

  unnaming-bytes : Bytes (unnaming s name).bytes
  unfolding unnaming rewritten
  unnaming-bytes = directory-bytes _ _ _ (all.files _) (zero_rows 16)

-- ---- the calls

module _ (s : Store) (all : ByteStore s) where
  link-bytes : (old new : List ℕ) → Bytes new → Gives (link old new s)
  unfolding link if_naming_fits if_fits with_syllables
  link-bytes old new h =
      by_spelling _ old (link old new s) (λ e. rw e) (λ from e.
      by_spelling _ new (link old new s) (λ k. rw (e, k)) (λ to k.
      spelled _ from _ _ e (
      spelled _ to _ _ k (
      past _ _ _ _ λ there.
      past _ _ _ _ λ plainly.
      past _ _ _ _ λ here.
      past _ _ _ _ λ plain.
      past _ _ _ _ λ size.
      past _ _ _ _ λ room-left.
      accepted _ _ _ _ (no_bytes, (naming-bytes s all to _ (name-bytes new to k h _), let_go_bytes _ _))))))

  unlink-bytes : (bytes : List ℕ) → Gives (unlink bytes s)
  unfolding unlink with_syllables
  unlink-bytes bytes =
      by_spelling _ bytes (unlink bytes s) (λ e. rw e) (λ name e.
      spelled _ name _ _ e (
      past _ _ _ _ λ there.
      past _ _ _ _ λ plain.
      accepted _ _ _ _ (no_bytes, (unnaming-bytes s all name, let_go_bytes _ _))))

  create-bytes : (bytes : List ℕ) → Bytes bytes → Gives (create bytes s)
  unfolding create if_naming_fits if_fits with_syllables
  create-bytes bytes h =
      by_spelling _ bytes (create bytes s) (λ e. rw e) (λ name e.
      spelled _ name _ _ e (
      past _ _ _ _ λ here.
      past _ _ _ _ λ plain.
      past _ _ _ _ λ free.
      ⊎_elim
      (λ (gone : missing s name ≡ true). rw gone (
      past _ _ _ _ λ Some-number.
      past _ _ _ _ λ size.
      past _ _ _ _ λ room-left.
      accepted _ _ _ _ (no_bytes, (naming-bytes s all name _ (name-bytes bytes name e h _), (no_bytes, (tt, tt))))))
      (λ (there : missing s name ≡ false). rw there (accepted _ _ _ _ (no_bytes, (no_bytes, (tt, tt)))))
      (tested (missing s name))))

  mkdir-bytes : (bytes : List ℕ) → Bytes bytes → Gives (mkdir bytes s)
  unfolding mkdir if_naming_fits if_fits with_syllables
  mkdir-bytes bytes h =
      by_spelling _ bytes (mkdir bytes s) (λ e. rw e) (λ name e.
      spelled _ name _ _ e (
      past _ _ _ _ λ short.
      past _ _ _ _ λ here.
      past _ _ _ _ λ gone.
      past _ _ _ _ λ Some-number.
      past _ _ _ _ λ size.
      past _ _ _ _ λ room-left.
      accepted _ _ _ _ (no_bytes, (naming-bytes s all name _ (name-bytes bytes name e h _), (no_bytes, tt)))))

  rmdir-bytes : (bytes : List ℕ) → Gives (rmdir bytes s)
  unfolding rmdir with_syllables
  rmdir-bytes bytes =
      by_spelling _ bytes (rmdir bytes s) (λ e. rw e) (λ name e.
      spelled _ name _ _ e (
      past _ _ _ _ λ there.
      past _ _ _ _ λ is.
      past _ _ _ _ λ unused.
      past _ _ _ _ λ empty.
      accepted _ _ _ _ (no_bytes, (unnaming-bytes s all name, (no_bytes, tt)))))

  ls-bytes : (bytes : List ℕ) (size : ℕ) → Gives (ls bytes size s)
  unfolding ls with_syllables
  ls-bytes bytes size =
      by_spelling _ bytes (ls bytes size s) (λ e. rw e) (λ name e.
      spelled _ name _ _ e (
      past _ _ _ _ λ there.
      past _ _ _ _ λ is.
      past _ _ _ _ λ enough.
      accepted _ _ _ _ (listing-bytes _ (all.files _), tt)))

  open-bytes : (bytes : List ℕ) → Gives (open' bytes s)
  unfolding open' with_syllables
  open-bytes bytes =
      by_spelling _ bytes (open' bytes s) (λ e. rw e) (λ name e.
      spelled _ name _ _ e (
      past _ _ _ _ λ there.
      past _ _ _ _ λ free.
      accepted _ _ _ _ (no_bytes, (tt, tt))))

  read-gives : (c count : ℕ) → Gives (read c count s)
  unfolding read on_channel
  read-gives c count = past _ _ _ _ λ e. accepted _ _ _ _ (read-bytes _ _ count (all.files _), (tt, tt))

  write-gives : (c : ℕ) (bytes : List ℕ) → Bytes bytes → Gives (write c bytes s)
  unfolding write on_channel if_fits
  write-gives c bytes h =
      past _ _ _ _ λ e.
      past _ _ _ _ λ plain.
      past _ _ _ _ λ size.
      past _ _ _ _ λ room-left.
      accepted _ _ _ _ (no_bytes, (write_bytes _ _ bytes (all.files _) h, (tt, tt)))

  close-bytes : (c : ℕ) → Gives (close c s)
  unfolding close on_channel
  close-bytes c = past _ _ _ _ λ e. accepted _ _ _ _ (no_bytes, (tt, let_go_bytes _ _))

  seek-bytes : (c mode n : ℕ) → Gives (seek c mode n s)
  unfolding seek on_channel
  seek-bytes c mode n =
      past _ _ _ _ λ e.
      past _ _ _ _ λ small.
      accepted _ _ _ _ (no_bytes, (tt, tt))

  fstat-bytes : (c : ℕ) → Gives (fstat c s)
  unfolding fstat on_channel
  fstat-bytes c = past _ _ _ _ λ e. accepted _ _ _ _ (no_bytes, tt)

  room-bytes : Gives (room s)
  unfolding room
  room-bytes = accepted _ _ _ _ (no_bytes, tt)

move-bytes : (s : Store) → Ready s → ByteStore s → (old new : List ℕ) → Bytes new → Gives (move old new s)
unfolding move
move-bytes s ready all old new h =
    accepted_then s _ _ (link old new s) (unlink old) (good-link s ready.well (sized s ready) old new) (link-bytes s all old new h)
    (λ numbers out changes sure linked.
    accepted-map _ _ (unlink old (after_all s changes)) (λ more_numbers more-out more k. (k.0, both_changes changes more linked.1 k.1))
    (unlink-bytes (after_all s changes) (all_after s changes linked.1 all) old))

call_bytes : (s : Store) → Ready s → ByteStore s → (call : Call) → Given call → Gives (meaning call s)
unfolding meaning Given
call_bytes s ready all (Read c count) h = read-gives s all c count
call_bytes s ready all (Write c bytes) h = write-gives s all c bytes (of_seq bytes h)
call_bytes s ready all (Seek c mode n) h = seek-bytes s all c mode n
call_bytes s ready all (Fstat c) h = fstat-bytes s all c
call_bytes s ready all (Close c) h = close-bytes s all c
call_bytes s ready all (Open bytes) h = open-bytes s all bytes
call_bytes s ready all (Create bytes) h = create-bytes s all bytes (of_seq bytes h)
call_bytes s ready all (Unlink bytes) h = unlink-bytes s all bytes
call_bytes s ready all (Link old new) h = link-bytes s all old new (of_seq new h)
call_bytes s ready all (Move old new) h = move-bytes s ready all old new (of_seq new h)
call_bytes s ready all (Ls bytes size) h = ls-bytes s all bytes size
call_bytes s ready all (Mkdir bytes) h = mkdir-bytes s all bytes (of_seq bytes h)
call_bytes s ready all (Rmdir bytes) h = rmdir-bytes s all bytes
call_bytes s ready all Prepare h = accepted _ _ _ _ (no_bytes, (tt, tt))
call_bytes s ready all Room h = room-bytes s all

-- ---- outcomes

of_result : (r : Result) → Gives r → Bytes (bytes_of r) × ChangeBytes (changes_of r)
unfolding Accepted bytes_of changes_of
of_result (refused why) h = (no_bytes, tt)
of_result (done numbers out changes) h = h

pub bytes_kept : BytesKept
unfolding store_of
bytes_kept call t buffer o kept given blocks lent =
    let s = store_of t in
    let own : Bytes t.blocks = of_seq t.blocks blocks in
    let (out, changes) = of_result (meaning call s) (call_bytes s (sound_ready t kept.0) (record { files = file-bytes t own }) call given) in
    let left : o.tables ≡ put_all t (changes_of (meaning call s)) = kept.1.leaves ∙ ap (λ (r : Result). put_all t (changes_of r)) (result_is call t buffer o kept) in
    let filled : o.buffer ≡ over buffer (bytes_of (meaning call s)) = kept.1.fills ∙ ap (λ (r : Result). over buffer (bytes_of r)) (result_is call t buffer o kept) in (
      to-seq o.tables.blocks (rw left (put_all_bytes t (changes_of (meaning call s)) changes own)),
      to-seq o.buffer (rw filled (both_bytes _ _ out (dropped_bytes (length (bytes_of (meaning call s))) buffer (of_seq buffer lent)))),
    )
