-- The tests of one record pass exactly where the plain facts hold: a file's, a channel's, a directory's.
use Prim.Native.Nat.{ℕ, ◌%◌, ◌<◌}
use Rattle.std.specs.Prelude.{◌≡◌, List, true, false, ◌&&◌, ◌||◌, length}
use Rattle.std.proofs.Common.{sym, ◌∙◌, true≢false}
use Rattle.std.proofs.Math.Logic.{⊎_elim}
use Rattle.std.proofs.Math.Bool.{Bool, not}
use Rattle.std.proofs.Math.Dec.{leb, eqb}
use borrow.Author.Tests.{leb-true, eqb-true, eqb-false, le-leb, ne_eqb, not-true}
use Rattle.records.specs.Rows.{agree, every}
use Rattle.records.specs.RowLaws.{every_all, all_every}
use Rattle.records.specs.Tests.{tested, both, and_both, either, or_left, or_right, agree_same, same-agree}
use Rattle.meaning.specs.File.{longest}
use Rattle.meaning.specs.Name.{record_at, entry_at, is_blank, is_written, same}
use Rattle.meaning.specs.Store.{Store, File, Channel, root, in_use}
use Rattle.meaning.specs.ChannelCalls.{last_position}
use Rattle.meaning.specs.Sound.{as_free, as_ordinary, as_directory, file_sound, channel_sound, record_sound, name_new}
use Rattle.soundness.specs.Use.{three, four}
use Rattle.soundness.specs.Well.{FreeFile, OrdinaryFile, DirectoryFile, FileForm, as_free_lem, as_ordinary_lem, as_directory_lem, ChannelForm, RecordForm, as_blank, as_naming}

-- ---- a file record

module _ (x : File) where
  free_file_lem : as_free x ≡ true → FreeFile x
  unfolding as_free
  free_file_lem e =
      let (kind, depth, size) = three (eqb x.kind 0) (eqb x.depth 0) (eqb (length x.bytes) 0) e in
      record { kind = eqb-true x.kind 0 kind; depth = eqb-true x.depth 0 depth; size = eqb-true (length x.bytes) 0 size }

  of_free_file : FreeFile x → as_free x ≡ true
  unfolding as_free
  of_free_file h = rw (h.kind, h.depth, h.size)

  ordinary-file : as_ordinary x ≡ true → OrdinaryFile x
  unfolding as_ordinary
  ordinary-file e =
      let (kind, depth, size) = three (eqb x.kind 1) (eqb x.depth 0) (leb (length x.bytes) longest) e in
      record { kind = eqb-true x.kind 1 kind; depth = eqb-true x.depth 0 depth; size = leb-true (length x.bytes) longest size }

  of_ordinary-file : OrdinaryFile x → as_ordinary x ≡ true
  unfolding as_ordinary
  of_ordinary-file h = rw (h.kind, h.depth, le-leb (length x.bytes) longest h.size)

  directory-file : as_directory x ≡ true → DirectoryFile x
  unfolding as_directory
  directory-file e =
      let (kind, depth, size, whole) = four (eqb x.kind 2) (leb x.depth 7) (leb (length x.bytes) longest) (eqb (length x.bytes % 16) 0) e in
      record {
        kind = eqb-true x.kind 2 kind;
        depth = leb-true x.depth 7 depth;
        size = leb-true (length x.bytes) longest size;
        whole = eqb-true (length x.bytes % 16) 0 whole;
      }

  of_directory-file : DirectoryFile x → as_directory x ≡ true
  unfolding as_directory
  of_directory-file h =
      rw (h.kind, le-leb x.depth 7 h.depth, le-leb (length x.bytes) longest h.size, h.whole)

  abbrev form : Bool
  form = as_free x || as_ordinary x || as_directory x

  file-form : form ≡ true → FileForm x
  file-form e =
      ⊎_elim
      (λ (h : as_free x || as_ordinary x ≡ true). ⊎_elim (λ h. as_free_lem (free_file_lem h)) (λ h. as_ordinary_lem (ordinary-file h)) (either (as_free x) (as_ordinary x) h))
      (λ h. as_directory_lem (directory-file h))
      (either (as_free x || as_ordinary x) (as_directory x) e)

  of_file-form : FileForm x → form ≡ true
  of_file-form (as_free_lem h) = rw (of_free_file h)
  of_file-form (as_ordinary_lem h) = or_left (as_free x || as_ordinary x) (as_directory x) (or_right (as_free x) (as_ordinary x) (of_ordinary-file h))
  of_file-form (as_directory_lem h) = or_right (as_free x || as_ordinary x) (as_directory x) (of_directory-file h)

  abbrev is_top : Bool
  is_top = eqb x.kind 2 && eqb x.depth 0

  pub file-sound : (f : ℕ) → file_sound f x ≡ true → FileForm x × (eqb f root ≡ is_top)
  unfolding file_sound
  file-sound f e =
      let (one_of_lem, top) = both form (agree (eqb f root) is_top) e in
      (file-form one_of_lem, agree_same (eqb f root) is_top top)

  pub of_file-sound : (f : ℕ) → FileForm x → eqb f root ≡ is_top → file_sound f x ≡ true
  unfolding file_sound
  of_file-sound f h top =
      and_both form (agree (eqb f root) is_top) (of_file-form h) (same-agree (eqb f root) is_top top)

-- ---- a channel record

module _ (s : Store) (y : Channel) where
  pub channel_form : channel_sound s y ≡ true → ChannelForm s y
  unfolding channel_sound
  channel_form e =
      ⊎_elim
      (λ h.
      let (file, posn) = both (eqb y.file 0) (eqb y.posn 0) h in
      ChannelForm.as_free_lem (record { file = eqb-true y.file 0 file; posn = eqb-true y.posn 0 posn }))
      (λ h.
      let (is_in_use, posn) = both (in_use s y.file) (leb y.posn last_position) h in
      ChannelForm.as_open (record { is_in_use = is_in_use; posn = leb-true y.posn last_position posn }))
      (either (eqb y.file 0 && eqb y.posn 0) (in_use s y.file && leb y.posn last_position) e)

  pub of_channel_form : ChannelForm s y → channel_sound s y ≡ true
  unfolding channel_sound
  of_channel_form (ChannelForm.as_free_lem h) = rw (h.file, h.posn)
  of_channel_form (ChannelForm.as_open h) =
      or_right (eqb y.file 0 && eqb y.posn 0) (in_use s y.file && leb y.posn last_position)
      (and_both (in_use s y.file) (leb y.posn last_position) h.is_in_use (le-leb y.posn last_position h.posn))

-- ---- a directory's record

module _ (s : Store) (dir : List ℕ) (i : ℕ) where
  abbrev naming : Bool
  naming = in_use s (entry_at dir i).file && not (eqb (entry_at dir i).file root) && is_written (record_at dir i)

  pub record_form : record_sound s dir i ≡ true → RecordForm s dir i
  unfolding record_sound
  record_form e =
      ⊎_elim
      (λ h. as_blank h)
      (λ (h : naming ≡ true).
      let (is_in_use, other, is) = three (in_use s (entry_at dir i).file) (not (eqb (entry_at dir i).file root)) (is_written (record_at dir i)) h in
      as_naming (record { is_in_use = is_in_use; not_root = eqb-false (entry_at dir i).file root (not-true (eqb (entry_at dir i).file root) other); written = is }))
      (either (is_blank dir i) naming e)

  pub of_record_form : RecordForm s dir i → record_sound s dir i ≡ true
  unfolding record_sound
  of_record_form (as_blank h) = rw h
  of_record_form (as_naming h) =
      or_right (is_blank dir i) naming (rw (h.is_in_use, ne_eqb (entry_at dir i).file root h.not_root, h.written))

  pub name_new_lem : name_new dir i ≡ true → is_blank dir i ≡ false → (j : ℕ) → j < i → same (entry_at dir j).name (entry_at dir i).name ≡ false
  unfolding name_new
  name_new_lem e b j h =
      ⊎_elim
      (λ (t : is_blank dir i ≡ true). absurd (true≢false (sym t ∙ b)))
      (λ t. not-true (same (entry_at dir j).name (entry_at dir i).name) (every_all i others t j h))
      (either (is_blank dir i) (every i others) e)
    where
      others : ℕ → Bool
      others j = not (same (entry_at dir j).name (entry_at dir i).name)

  pub of_name-new : (is_blank dir i ≡ false → (j : ℕ) → j < i → same (entry_at dir j).name (entry_at dir i).name ≡ false) → name_new dir i ≡ true
  unfolding name_new
  of_name-new h =
      ⊎_elim
      (λ (t : is_blank dir i ≡ true). rw t)
      (λ (b : is_blank dir i ≡ false). or_right (is_blank dir i) (every i others) (all_every i others (λ j (l : j < i). rw (h b j l))))
      (tested (is_blank dir i))
    where
      others : ℕ → Bool
      others j = not (same (entry_at dir j).name (entry_at dir i).name)
