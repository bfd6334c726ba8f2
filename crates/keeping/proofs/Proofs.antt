-- The statements of Kept.antt, by the changes of each call and by what a change made in the tables does.
use Rattle.std.specs.Prelude.{ℕ, suc, ◌+◌, ◌≤◌, ◌<◌, ◌≡◌, ◌≢◌, Bool, true, false, length}
use Rattle.std.proofs.Math.Path.{refl, ap}
use Rattle.std.proofs.Common.{sym, ◌∙◌, ⊎_elim, true≢false, arith}
use mathlib.Core.List.{List, [], ◌∷◌}
use Rattle.records.specs.Rows.{pick}
use Rattle.records.specs.RowLaws.{sum_cong}
use Rattle.records.specs.Tests.{same_or_not}
use Rattle.meaning.specs.File.{needed}
use Rattle.meaning.specs.Store.{Store, Change, after, after_all, in_use, free_blocks, blocks_needed}
use Rattle.meaning.specs.Result.{unless}
use Rattle.meaning.specs.Tables.{Tables, store_of, block_count, put_all}
use Rattle.meaning.specs.Sound.{sound, lengths_agree}
use Rattle.meaning.specs.Run.{Call, Prepare, Room, Create, Open, Unlink, Mkdir, Rmdir, Link, Move, Ls, Close, Fstat, Read, Write, Seek, meaning, accepts, result_of, changes_of, run}
use Rattle.layout.specs.Lengths.{Lengths, agree_lengths}
use Rattle.layout.specs.Layout.{Holding, sound_layout}
use Rattle.layout.specs.Room.{same_blocks}
use Rattle.layout.specs.Counting.{free_blocks_lem, free_and_needed}
use Rattle.layout.specs.PutPrepared.{put_prepared}
use Rattle.layout.proofs.Putting.{put_all_lem, holding-sound}
use Rattle.lookup.specs.Filed.{sound_well}
use Rattle.soundness.specs.Use.{of_used}
use Rattle.soundness.specs.Well.{Well}
use Rattle.soundness.specs.WellFacts.{form_free}
use Rattle.soundness.specs.WellLaws.{of_well}
use Rattle.keeping.specs.Sure.{Sized}
use Rattle.keeping.specs.Prepared.{prepared_well}
use Rattle.keeping.proofs.Calls.{good, sure}
use Rattle.keeping.specs.Kept.{tables_after, tables_after_all, free_records, needed_in_use, SoundKept, RowsKept, PrepareSound, RoomKept, StoreRoomKept}

-- ---- what a call asks for

-- any call but prepare asks for a sound store
data Asked (call : Call) (t : Tables) : Type 0 where
  lengths : call ≡ Prepare → lengths_agree t ≡ true → Asked call t
  sound_store : sound t ≡ true → Asked call t

asked : (call : Call) (t : Tables) → accepts call t ≡ true → Asked call t
unfolding accepts
asked Prepare t e = lengths refl e
asked Room t e = sound_store e
asked (Create name) t e = sound_store e
asked (Open name) t e = sound_store e
asked (Unlink name) t e = sound_store e
asked (Mkdir name) t e = sound_store e
asked (Rmdir name) t e = sound_store e
asked (Link old new) t e = sound_store e
asked (Move old new) t e = sound_store e
asked (Ls name size) t e = sound_store e
asked (Close c) t e = sound_store e
asked (Fstat c) t e = sound_store e
asked (Read c count) t e = sound_store e
asked (Write c bytes) t e = sound_store e
asked (Seek c mode n) t e = sound_store e

-- a sound store has lengths that agree, so every call accepts it
pub sound-accepted : (call : Call) (t : Tables) → sound t ≡ true → accepts call t ≡ true
unfolding accepts
sound-accepted Prepare t e = agree_lengths t (sound_layout t e).lengths
sound-accepted Room t e = e
sound-accepted (Create name) t e = e
sound-accepted (Open name) t e = e
sound-accepted (Unlink name) t e = e
sound-accepted (Mkdir name) t e = e
sound-accepted (Rmdir name) t e = e
sound-accepted (Link old new) t e = e
sound-accepted (Move old new) t e = e
sound-accepted (Ls name size) t e = e
sound-accepted (Close c) t e = e
sound-accepted (Fstat c) t e = e
sound-accepted (Read c count) t e = e
sound-accepted (Write c bytes) t e = e
sound-accepted (Seek c mode n) t e = e

-- ---- the tables then hold the store that the changes leave

abbrev pub changes_on : Call → Tables → List Change
changes_on call t = changes_of (meaning call (store_of t))

pub record Left (call : Call) (t : Tables) : Type 0 where
  pub holding : Holding (put_all t (changes_on call t)) (after_all (store_of t) (changes_on call t))
  pub well : Well (after_all (store_of t) (changes_on call t))

pub sized : (t : Tables) → Lengths t → Sized (store_of t)
unfolding store_of
sized t L = record { some_files = L.some_files; few-files = L.few-files }

pub left-sound : (call : Call) (t : Tables) → sound t ≡ true → Left call t
left-sound call t e =
    let L = sound_layout t e in
    let w = sound_well t e in
    let z = sized t L.lengths in
    let c = sure (store_of t) w z (meaning call (store_of t)) (good (store_of t) w z call) in
    record { holding = put_all_lem t L (changes_on call t) c.fits; well = c.well }

left_prepared : (t : Tables) → lengths_agree t ≡ true → Left Prepare t
unfolding meaning changes_of put_all after_all
left_prepared t e = record { holding = put_prepared t e; well = prepared_well (store_of t) }

left_by_lem : (call : Call) (t : Tables) → Asked call t → Left call t
left_by_lem call t (lengths is e) = rw is (left_prepared t e)
left_by_lem call t (sound_store e) = left-sound call t e

-- ---- files in use need what all files need

unused_needs : (s : Store) → Well s → (f : ℕ) → 0 < f → f ≤ s.file_count → in_use s f ≡ false → 0 ≡ needed (length (s.file f).bytes)
unused_needs s w f some within unused =
    ⊎_elim
    (λ (k : (s.file f).kind ≡ 0). omega (arith, (form_free (s.file f) (w.files f some within) k).size))
    (λ (k : (s.file f).kind ≢ 0). absurd (true≢false (sym (of_used s f (record { some = some; within = within; kind = k })) ∙ unused)))
    (same_or_not (s.file f).kind 0)

needed_in_use_lem : (s : Store) → Well s → needed_in_use s ≡ blocks_needed s
unfolding blocks_needed
needed_in_use_lem s w =
    sum_cong s.file_count (λ i. pick (in_use s (suc i)) (needed (length (s.file (suc i)).bytes)) 0) (λ i. needed (length (s.file (suc i)).bytes))
    (λ i h. go (suc i) (in_use s (suc i)) (unused_needs s w (suc i) (omega arith) (omega arith)))
  where
    go : (f : ℕ) (t : Bool) → (t ≡ false → 0 ≡ needed (length (s.file f).bytes)) → pick t (needed (length (s.file f).bytes)) 0 ≡ needed (length (s.file f).bytes)
    go f true none = refl
    go f false none = none refl

-- ---- the tables after an accepted call

module _ (call : Call) (t : Tables) (buffer : List ℕ) (ok : accepts call t ≡ true) where
  l : Left call t
  l = left_by_lem call t (asked call t ok)

  made : tables_after call t buffer ≡ put_all t (changes_on call t)
  unfolding run result_of unless
  made = rw ok

  -- they hold the store that the call's changes leave
  pub store_after : store_of (tables_after call t buffer) ≡ after_all (store_of t) (changes_of (meaning call (store_of t)))
  store_after = rw made l.holding.stored

  pub accepted-sound : sound (tables_after call t buffer) ≡ true
  accepted-sound = rw made (holding-sound (put_all t (changes_on call t)) (after_all (store_of t) (changes_on call t)) l.holding (of_well (after_all (store_of t) (changes_on call t)) l.well))

  -- B stays
  blocks-after : (s : Store) (changes : List Change) → (after_all s changes).block_count ≡ s.block_count
  unfolding after_all
  blocks-after s [] = refl
  blocks-after s (change ∷ changes) = blocks-after (after s change) changes ∙ same_blocks s change

  blocks-same : (store_of (tables_after call t buffer)).block_count ≡ block_count t.block_records
  unfolding store_of
  blocks-same =
      ap (λ (s : Store). s.block_count) store_after
      ∙ blocks-after (store_of t) (changes_on call t)

  pub store_room : free_blocks (store_of (tables_after call t buffer)) + blocks_needed (store_of (tables_after call t buffer)) ≡ block_count t.block_records
  store_room = free_and_needed (tables_after call t buffer) (sound_layout (tables_after call t buffer) accepted-sound) ∙ blocks-same

  pub record_room : free_records (tables_after call t buffer) + needed_in_use (store_of (tables_after call t buffer)) ≡ block_count t.block_records
  record_room =
      let t' = tables_after call t buffer in
      let free = free_blocks_lem t' (sound_layout t' accepted-sound) in
      let all = needed_in_use_lem (store_of t') (sound_well t' accepted-sound) in
      omega (arith, store_room)

-- ---- the statements

pub sound_kept : SoundKept
sound_kept call t buffer e = accepted-sound call t buffer (sound-accepted call t e)

pub rows_kept : RowsKept
unfolding tables_after_all
rows_kept [] t e = e
rows_kept (call ∷ calls) t e = rows_kept calls (tables_after call t []) (sound_kept call t [] e)

pub prepare-sound : PrepareSound
prepare-sound t buffer e = accepted-sound Prepare t buffer (unfold accepts in e)

pub room_kept : RoomKept
room_kept = record_room

pub store_room_kept : StoreRoomKept
store_room_kept = store_room
