-- The limits hold of sound tables, by the rules of soundness, and are kept, since tables stay sound.
use Rattle.std.specs.Prelude.{ℕ, zero, suc, ◌-◌, ◌*◌, ◌≤◌, ◌<◌, ◌≡◌, refl, ◌≢◌, List, [], ◌∷◌, true, false, length, get_or}
use Rattle.std.proofs.Common.{ap, sym, ◌∙◌, true≢false, arith, length-take, get_or-take, le-leb}
use Rattle.std.proofs.Math.Logic.{⊎_elim}
use Rattle.records.specs.Rows.{sum}
use Rattle.records.specs.RowLaws.{sum_cong}
use Rattle.records.specs.Tests.{same_or_not, tested}
use Rattle.records.specs.ListLaws.{length-list_of, get_or-list_of}
use Rattle.records.specs.Numbers.{one}
use Rattle.meaning.specs.File.{needed}
use Rattle.meaning.specs.Name.{is_syllable}
use Rattle.meaning.specs.Store.{Store, Change, after, after_all, in_use, blocks_needed, named, front}
use Rattle.meaning.specs.Tables.{Tables, store_of, file_of, byte_of}
use Rattle.meaning.specs.Sound.{sound}
use Rattle.meaning.specs.Run.{Outcome, meaning, changes_of}
use Rattle.meaning.proofs.Determined.{run-outcome}
use Rattle.layout.specs.Layout.{sound_layout}
use Rattle.layout.specs.Room.{same_blocks, same-files}
use Rattle.layout.specs.Counting.{free_and_needed}
use Rattle.lookup.specs.Filed.{sound_well}
use Rattle.soundness.specs.Use.{used, of_used}
use Rattle.soundness.specs.Well.{Well}
use Rattle.soundness.specs.WellFacts.{file-size, free_file_lem, open_channel}
use Rattle.keeping.proofs.Proofs.{sound_kept}
use Rattle.source.specs.Sets.{◌∈dom◌, ◌··◌}
use Rattle.source.specs.Channels.{CHAN}
use Rattle.source.specs.Naming.{NAME}
use Rattle.source.specs.View.{view}
use Rattle.source.specs.ViewLaws.{no_more, numbered_not, file_used, file_is, channel_open, channel_is, open_below}
use Rattle.source.specs.Invariants.{sound_ready, invariants_hold}
use Rattle.source.specs.NameSteps.{last_syllable}
use Rattle.source.specs.ByteRows.{Bytes, of_seq, to-seq, no_bytes}
use Rattle.source.proofs.Outcomes.{store_left}
use Rattle.source.specs.Limits.{taking, represented, LimitsHold, SameLimits, LimitsKept}

-- ---- 4.3.1

pub file-bytes : (t : Tables) → Bytes t.blocks → (f : ℕ) → Bytes (file_of t f).bytes
unfolding file_of byte_of one
file-bytes t all zero = no_bytes
file-bytes t all (suc r) =
    of_seq _ (λ i h. rw (get_or-list_of _ (λ k. byte_of t (suc r) k) i 0 (rw length-list_of at h)) (all.at _))

-- ---- 4.5.3

sum_times : (n : ℕ) (g : ℕ → ℕ) → sum n (λ i. 512 * g i) ≡ 512 * sum n g
unfolding sum
sum_times zero g = refl
sum_times (suc n) g = omega (arith, sum_times n g)

module _ (s : Store) (w : Well s) where
  -- a file number takes what the blocks of its file have, in use or free
  pub takes : (f : ℕ) → 0 < f → f ≤ s.file_count → taking ((view s).fstore f) ≡ 512 * needed (length (s.file f).bytes)
  unfolding taking
  takes f some_file within =
      ⊎_elim
      (λ (u : in_use s f ≡ true). rw u)
      (λ (u : in_use s f ≡ false). ⊎_elim
      (λ (k : (s.file f).kind ≡ 0). rw (u, free_file_lem s w f some_file within k))
      (λ (k : (s.file f).kind ≢ 0). absurd (true≢false (sym (of_used s f (record { some = some_file; within = within; kind = k })) ∙ u)))
      (same_or_not (s.file f).kind 0))
      (tested (in_use s f))

  pub all_taken : represented s.file_count (view s).fstore ≡ 512 * blocks_needed s
  unfolding blocks_needed
  all_taken =
      sum_cong s.file_count (λ i. taking ((view s).fstore (suc i))) (λ i. 512 * needed (length (s.file (suc i)).bytes)) (λ i h. takes (suc i) (omega arith) (omega arith))
      ∙ sum_times s.file_count (λ i. needed (length (s.file (suc i)).bytes))

-- ---- names

-- a name's last syllable is one, and its front is a name
by_length : (s : Store) → Well s → ((name : NAME) → name ≢ [] → name ∈dom (view s).nstore → front name ∈dom (view s).nstore)
    → (k : ℕ) (name : NAME) → length name < k → name ∈dom (view s).nstore → (i : ℕ) → i < length name → is_syllable (get_or name i []) ≡ true
by_length s w fronts zero name h there i below = absurd (omega arith)
by_length s w fronts (suc k) name h there i below =
    ⊎_elim
    (λ (e : i ≡ length name - 1). rw e (last_syllable s w name (omega arith) (numbered_not (named s name) there.0 there.1)))
    (λ (o : i ≢ length name - 1).
    let inner : i < length (front name) = omega (arith, length-take (length name - 1) name) in
    let rest = by_length s w fronts k (front name) (omega (arith, length-take (length name - 1) name)) (fronts name (no_more name (omega arith)) there) i inner in
    rw (get_or-take (length name - 1) name i [] (omega arith)) at rest)
    (same_or_not i (length name - 1))

-- ---- the statements

in_range : (low high n : ℕ) → low ≤ n → n ≤ high → (low ·· high) n ≡ true
in_range low high n l h = rw (le-leb low n l, le-leb n high h)

pub limits_hold : LimitsHold
unfolding store_of
limits_hold t e =
    let s = store_of t in
    let w = sound_well t e in
    let L = sound_layout t e in
    let x = invariants_hold s (sound_ready t e) in
    record {
      bytes = λ all fid file is. rw (file_is s fid file is) at (to-seq (s.file fid).bytes (file-bytes t (of_seq t.blocks all) fid));
      file-size = λ fid file is.
          let u = used s fid (file_used s fid (file, is)) in
          rw (file_is s fid file is) at (file-size s w fid u.some u.within);
      file_numbers = λ fid there. let u = used s fid (file_used s fid there) in in_range 1 s.file_count fid u.some u.within;
      few-files = L.lengths.few-files;
      capacity = omega (arith, all_taken s w, free_and_needed t L);
      few-blocks = omega (arith, L.lengths.few-blocks);
      positions = λ cid chan is.
          let o = channel_open s cid chan is in
          in_range 0 16777215 chan.posn (omega arith) (rw (ap (λ (y : CHAN). y.posn) (channel_is s cid chan is)) at (open_channel s w cid o).posn);
      channel_numbers = λ cid (chan, is). open_below s cid (channel_open s cid chan is);
      few-channels = L.lengths.few-channels;
      few-syllables = x.few;
      syllables = λ name there. by_length s w (λ n more is. x.stored.directories (front n) (x.names.file-front n more is)) (suc (length name)) name (omega arith) there;
    }

same-channels : (s : Store) (change : Change) → (after s change).channel_count ≡ s.channel_count
unfolding after
same-channels s (Change.file f x) = refl
same-channels s (Change.channel c y) = refl
same-channels s Change.prepared = refl

all_limits : (s : Store) (changes : List Change) → SameLimits s (after_all s changes)
unfolding after_all
all_limits s [] = record { files = refl; capacity = refl; channels = refl }
all_limits s (change ∷ changes) =
    let rest = all_limits (after s change) changes in
    record {
      files = rest.files ∙ same-files s change;
      capacity = rest.capacity ∙ ap (λ (n : ℕ). 512 * n) (same_blocks s change);
      channels = rest.channels ∙ same-channels s change;
    }

pub limits_kept : LimitsKept
limits_kept call t buffer o kept =
    let still : sound o.tables ≡ true = ap (λ (p : Outcome). sound p.tables) (run-outcome call t buffer o kept.1) ∙ sound_kept call t buffer kept.0 in
    (limits_hold o.tables still, rw (store_left call t buffer o kept) (all_limits (store_of t) (changes_of (meaning call (store_of t)))))
