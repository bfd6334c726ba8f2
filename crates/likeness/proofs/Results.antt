-- Every call gives results that are the same but for the bytes of listed files: the same refusal; or the same numbers,
-- bytes that are equal unless they were read from a listed file, and changes that leave the stores the same.
use Rattle.std.specs.Prelude.{ℕ, ◌+◌, ◌≡◌, Bool, ◌&&◌}
use Rattle.std.proofs.Math.Path.{refl, ap}
use Rattle.std.proofs.Common.{ap₂, sym, ◌∙◌, true≢false, arith}
use mathlib.Core.List.{List, [], ◌∷◌}
use Rattle.std.proofs.Math.Bool.{true, false, not}
use Rattle.std.proofs.Math.ListN.{length}
use Rattle.meaning.specs.File.{readFILE, writeFILE}
use Rattle.meaning.proofs.FileLaws.{length-read, length-write}
use Rattle.meaning.specs.Store.{Store, Change, file, channel, channel_to, ordinary, after_all}
use Rattle.meaning.specs.Result.{Result, refused, done, unless, on_channel, if_fits}
use Rattle.meaning.specs.ChannelCalls.{read, write}
use Rattle.meaning.specs.Run.{Call, Prepare, Room, Create, Open, Unlink, Mkdir, Rmdir, Link, Move, Ls, Close, Fstat, Read, Write, Seek, meaning, accepted, answer_of, bytes_of, changes_of}
use Rattle.meaning.specs.declared.Report.{Report}
use Rattle.likeness.specs.Alike.{Listed, SameCall, same, other-bytes, is_create, ReadsUnlisted}
use Rattle.likeness.specs.Same.{SameFile, SameStore, after-file, after_same, after_all_lem}
use Rattle.likeness.specs.Congruence.{same_size, same_kind, same-open, same_free_blocks}
use Rattle.likeness.specs.Calls.{same-close, same-seek, same-fstat, same-room, same-open', same-create, same-link, same-unlink, same_move, same-mkdir, same-rmdir, same-ls}

-- the bytes are equal where `plain` holds, the changes where `fixed` does
pub record SameResult (listed : Listed) (s s' : Store) (plain fixed : Type 0) (r r' : Result) : Type 0 where
  pub answers : (n : ℕ) → answer_of n r ≡ answer_of n r'
  pub bytes : plain → bytes_of r ≡ bytes_of r'
  pub sizes : length (bytes_of r) ≡ length (bytes_of r')
  pub changes : fixed → changes_of r ≡ changes_of r'
  pub stores : SameStore listed (after_all s (changes_of r)) (after_all s' (changes_of r'))

module _ (listed : Listed) (s s' : Store) (a : SameStore listed s s') (plain fixed : Type 0) where
  pub equal_result : (r r' : Result) → r ≡ r' → SameResult listed s s' plain fixed r r'
  equal_result r r' e =
      record {
        answers = λ n. ap (answer_of n) e;
        bytes = λ _. ap bytes_of e;
        sizes = ap (λ r. length (bytes_of r)) e;
        changes = λ _. ap changes_of e;
        stores = rw e (after_all_lem listed (changes_of r') s s' a);
      }

  unless_result : (t t' : Bool) (why : Report) (r r' : Result) → t ≡ t' → SameResult listed s s' plain fixed r r'
      → SameResult listed s s' plain fixed (unless t why r) (unless t' why r')
  unfolding unless
  unless_result true t' why r r' e h = rw (← e) (equal_result (refused why) (refused why) refl)
  unless_result false t' why r r' e h = rw (← e) h

  done_result : (ns ns' bytes bytes' : List ℕ) (changes changes' : List Change) → ns ≡ ns' → (plain → bytes ≡ bytes') → length bytes ≡ length bytes'
      → (fixed → changes ≡ changes') → SameStore listed (after_all s changes) (after_all s' changes') → SameResult listed s s' plain fixed (done ns bytes changes) (done ns' bytes' changes')
  unfolding answer_of bytes_of changes_of
  done_result ns ns' bytes bytes' changes changes' e f g h st =
      record { answers = λ n. ap accepted e; bytes = f; sizes = g; changes = h; stores = st }

module _ (listed : Listed) (s s' : Store) (a : SameStore listed s s') (c : ℕ) where
  -- the file that the channel holds
  abbrev f : ℕ
  f = (s.channel c).file

  abbrev at : ℕ
  at = (s.channel c).posn

  unlisted_bytes : listed f ≡ false → (s.file f).bytes ≡ (s'.file f).bytes
  unlisted_bytes h = (a.file f).bytes (rw h)

  pub same_read : (count : ℕ) → SameResult listed s s' (listed f ≡ false) ⊥ (read c count s) (read c count s')
  unfolding read on_channel
  same_read count =
      let out = readFILE (s.file f).bytes at count in
      let out' = readFILE (s'.file f).bytes at count in
      let size : length out ≡ length out' =
      length-read (s.file f).bytes at count ∙ rw (same_size listed s s' a f) (sym (length-read (s'.file f).bytes at count)) in
      rw (← a.channel c)
      (unless_result listed s s' a (listed f ≡ false) ⊥ _ _ _ _ _ (ap not (same-open listed s s' a c))
      (done_result listed s s' a (listed f ≡ false) ⊥ _ _ out out' _ _
      (ap (λ n. n ∷ []) size)
      (λ h. ap (λ bytes. readFILE bytes at count) (unlisted_bytes h))
      size
      (λ z. absurd z)
      (rw (← size) (after_all_lem listed (channel c (channel_to f (at + length out)) ∷ []) s s' a))))

  module _ (bytes bytes' : List ℕ) (size : length bytes ≡ length bytes') (unlisted : listed f ≡ false → bytes ≡ bytes') where
    abbrev new : List ℕ
    new = writeFILE (s.file f).bytes at bytes

    abbrev new' : List ℕ
    new' = writeFILE (s'.file f).bytes at bytes'

    new-size : length new ≡ length new'
    new-size =
        omega (arith, length-write (s.file f).bytes at bytes, length-write (s'.file f).bytes at bytes', same_size listed s s' a f)

    same_new : SameFile listed f (ordinary new) (ordinary new')
    same_new =
        record {
          kind = refl;
          depth = refl;
          size = new-size;
          bytes = λ h. ap₂ (λ old more. writeFILE old at more) (unlisted_bytes (not_listed (listed f) h)) (unlisted (not_listed (listed f) h));
        }
      where
        not_listed : (t : Bool) → t && true ≡ false → t ≡ false
        not_listed true h = h
        not_listed false h = refl

    stores_written : (n : ℕ) → SameStore listed (after_all s (file f (ordinary new) ∷ channel c (channel_to f n) ∷ [])) (after_all s' (file f (ordinary new') ∷ channel c (channel_to f n) ∷ []))
    unfolding after_all
    stores_written n = after_same listed _ _ (after-file listed s s' a f (ordinary new) (ordinary new') same_new) (channel c (channel_to f n))

    pub same_write : (plain : Type 0) → SameResult listed s s' plain ⊥ (write c bytes s) (write c bytes' s')
    unfolding write on_channel if_fits
    same_write plain =
        rw (← a.channel c, ← new-size, ← same_size listed s s' a f, ← same_kind listed s s' a f, ← same_free_blocks listed s s' a, ← same-open listed s s' a c, ← size)
        (unless_result listed s s' a plain ⊥ _ _ _ _ _ refl
        (unless_result listed s s' a plain ⊥ _ _ _ _ _ refl
        (unless_result listed s s' a plain ⊥ _ _ _ _ _ refl
        (unless_result listed s s' a plain ⊥ _ _ _ _ _ refl
        (done_result listed s s' a plain ⊥ _ _ [] [] _ _ refl (λ _. refl) refl (λ z. absurd z) (stores_written (at + length bytes)))))))

-- ---- every call

-- a call here and the same there; create's changes are equal
abbrev pub Given : Listed → Store → Store → Call → Call → Type 0
Given listed s s' call call' = SameResult listed s s' (ReadsUnlisted listed s call) (is_create call ≡ true) (meaning call s) (meaning call' s')

module _ (listed : Listed) (s s' : Store) (a : SameStore listed s s') where
  equal : (call : Call) → meaning call s ≡ meaning call s' → Given listed s s' call call
  equal call e = equal_result listed s s' a (ReadsUnlisted listed s call) (is_create call ≡ true) (meaning call s) (meaning call s') e

  reading : (c count : ℕ) → Given listed s s' (Read c count) (Read c count)
  unfolding meaning is_create
  reading c count =
      let r = same_read listed s s' a c count in
      record {
        answers = r.answers;
        bytes = λ h. r.bytes (h c count refl);
        sizes = r.sizes;
        changes = λ e. absurd (true≢false (sym e));
        stores = r.stores;
      }

  writing : (c : ℕ) (bytes bytes' : List ℕ) → length bytes ≡ length bytes' → (listed (s.channel c).file ≡ false → bytes ≡ bytes')
      → Given listed s s' (Write c bytes) (Write c bytes')
  unfolding meaning is_create
  writing c bytes bytes' size unlisted =
      let r = same_write listed s s' a c bytes bytes' size unlisted (ReadsUnlisted listed s (Write c bytes)) in
      record {
        answers = r.answers;
        bytes = r.bytes;
        sizes = r.sizes;
        changes = λ e. absurd (true≢false (sym e));
        stores = r.stores;
      }

  same_again : (call : Call) → Given listed s s' call call
  unfolding meaning
  same_again Prepare = equal Prepare refl
  same_again Room = equal Room (same-room listed s s' a)
  same_again (Create name) = equal (Create name) (same-create listed s s' a name)
  same_again (Open name) = equal (Open name) (same-open' listed s s' a name)
  same_again (Unlink name) = equal (Unlink name) (same-unlink listed s s' a name)
  same_again (Mkdir name) = equal (Mkdir name) (same-mkdir listed s s' a name)
  same_again (Rmdir name) = equal (Rmdir name) (same-rmdir listed s s' a name)
  same_again (Link old new) = equal (Link old new) (same-link listed s s' a old new)
  same_again (Move old new) = equal (Move old new) (same_move listed s s' a old new)
  same_again (Ls name size) = equal (Ls name size) (same-ls listed s s' a name size)
  same_again (Close c) = equal (Close c) (same-close listed s s' a c)
  same_again (Fstat c) = equal (Fstat c) (same-fstat listed s s' a c)
  same_again (Read c count) = reading c count
  same_again (Write c bytes) = writing c bytes bytes refl (λ _. refl)
  same_again (Seek c mode n) = equal (Seek c mode n) (same-seek listed s s' a c mode n)

  pub same_result : {call call' : Call} → SameCall listed s call call' → Given listed s s' call call'
  same_result (same call) = same_again call
  same_result (other-bytes c bytes bytes' is size) = writing c bytes bytes' size (λ isnt. absurd (true≢false (sym is ∙ isnt)))
