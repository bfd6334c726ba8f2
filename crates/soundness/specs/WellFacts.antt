-- What follows of a well-formed store: small facts that calls use.
use Rattle.std.specs.Prelude.{ℕ, ◌*◌, ◌≤◌, ◌<◌, ◌≡◌, refl, ◌≢◌, List, [], ◌∷◌, true, not, length, get_or, take, drop, ltb}
use Rattle.std.proofs.Common.{sym, ◌∙◌, true≢false, arith, get_or-take, get_or-drop}
use Rattle.std.proofs.Math.Bool.{false}
use Rattle.std.proofs.Math.Dec.{eqb}
use borrow.Author.Tests.{ltb-true, eqb-false, not-true}
use Rattle.records.specs.Numbers.{one, two}
use Rattle.records.specs.NumberLaws.{zeros_zero}
use Rattle.records.specs.Tests.{and_left, and_right}
use Rattle.meaning.specs.File.{longest}
use Rattle.meaning.specs.Name.{record_count, record_at, entry_at, entry_in, is_blank}
use Rattle.meaning.specs.Store.{Store, File, no_file, root, in_use, is_directory, is_open}
use Rattle.soundness.specs.Use.{Used, used, directory_used, directory-kind, of_directory, not_directory}
use Rattle.soundness.specs.Well.{FreeFile, OrdinaryFile, DirectoryFile, FileForm, as_free_lem, as_ordinary_lem, as_directory_lem, OpenChannel, ChannelForm, NamingRecord, RecordForm, as_blank, as_naming, Well}

-- ---- a file by its form

module _ (x : File) where
  no_bytes : (l : List ℕ) → length l ≡ 0 → l ≡ []
  no_bytes [] e = refl
  no_bytes (b ∷ l) e = absurd (omega arith)

  pub free_none : FreeFile x → x ≡ no_file
  free_none h = λ i. record { kind = h.kind i; depth = h.depth i; bytes = no_bytes x.bytes h.size i }

  pub form-size : FileForm x → length x.bytes ≤ longest
  form-size (as_free_lem h) = omega (arith, h.size)
  form-size (as_ordinary_lem h) = h.size
  form-size (as_directory_lem h) = h.size

  pub form-directory : FileForm x → x.kind ≡ 2 → DirectoryFile x
  form-directory (as_free_lem h) k = absurd (omega (arith, h.kind))
  form-directory (as_ordinary_lem h) k = absurd (omega (arith, h.kind))
  form-directory (as_directory_lem h) k = h

  pub form-ordinary : FileForm x → x.kind ≢ 0 → x.kind ≢ 2 → OrdinaryFile x
  form-ordinary (as_free_lem h) used plain = absurd (used h.kind)
  form-ordinary (as_ordinary_lem h) used plain = h
  form-ordinary (as_directory_lem h) used plain = absurd (plain h.kind)

  pub form_free : FileForm x → x.kind ≡ 0 → FreeFile x
  form_free (as_free_lem h) k = h
  form_free (as_ordinary_lem h) k = absurd (omega (arith, h.kind))
  form_free (as_directory_lem h) k = absurd (omega (arith, h.kind))

-- a blank record's file number is 0
pub blank_file : (dir : List ℕ) (i : ℕ) → is_blank dir i ≡ true → (entry_at dir i).file ≡ 0
unfolding is_blank entry_at entry_in record_at two one
blank_file dir i b =
    let byte : (k : ℕ) → k < 16 → get_or (take 16 (drop (16 * i) dir)) k 0 ≡ 0 =
    λ k (h : k < 16). get_or-take 16 (drop (16 * i) dir) k 0 h ∙ get_or-drop (16 * i) dir k 0 ∙ zeros_zero dir (16 * i) 16 b k h in
    omega (arith, byte 0 (omega arith), byte 1 (omega arith))

module _ (s : Store) (w : Well s) where
  pub file-size : (f : ℕ) → 0 < f → f ≤ s.file_count → length (s.file f).bytes ≤ longest
  file-size f some within = form-size (s.file f) (w.files f some within)

  -- a free file record holds no file
  pub free_file_lem : (f : ℕ) → 0 < f → f ≤ s.file_count → (s.file f).kind ≡ 0 → s.file f ≡ no_file
  free_file_lem f some within k = free_none (s.file f) (form_free (s.file f) (w.files f some within) k)

  pub directory-form : (d : ℕ) → is_directory s d ≡ true → DirectoryFile (s.file d)
  directory-form d is =
      let u = directory_used s d is in
      form-directory (s.file d) (w.files d u.some u.within) (directory-kind s d is)

  -- a directory's bytes are whole records
  pub directory-length : (d : ℕ) → is_directory s d ≡ true → length (s.file d).bytes ≡ 16 * record_count (s.file d).bytes
  directory-length d is = omega (arith, (directory-form d is).whole)

  -- a file in use that is no directory is ordinary
  pub ordinary-form : (f : ℕ) → in_use s f ≡ true → is_directory s f ≡ false → OrdinaryFile (s.file f)
  ordinary-form f is_in_use isnt =
      let u = used s f is_in_use in
      form-ordinary (s.file f) (w.files f u.some u.within) u.kind (not_directory s f is_in_use isnt)

  pub root-directory : 0 < s.file_count → is_directory s root ≡ true
  root-directory some = of_directory s root (omega arith) (omega arith) (w.top some).kind

  pub root-depth : 0 < s.file_count → (s.file root).depth ≡ 0
  root-depth some = (w.top some).depth

  -- ---- what a channel holds

  pub open_channel : (c : ℕ) → is_open s c ≡ true → OpenChannel s (s.channel c)
  unfolding is_open
  open_channel c e = go (w.channels c (ltb-true c s.channel_count (and_left (ltb c s.channel_count) (not (eqb (s.channel c).file 0)) e)))
    where
      some : eqb (s.channel c).file 0 ≡ false
      some = not-true (eqb (s.channel c).file 0) (and_right (ltb c s.channel_count) (not (eqb (s.channel c).file 0)) e)

      go : ChannelForm s (s.channel c) → OpenChannel s (s.channel c)
      go (ChannelForm.as_free_lem h) = absurd (eqb-false (s.channel c).file 0 some h.file)
      go (ChannelForm.as_open h) = h

  pub held_used : (c : ℕ) → is_open s c ≡ true → Used s (s.channel c).file
  held_used c e = used s (s.channel c).file (open_channel c e).is_in_use

  -- ---- what a record names

  module _ (d i : ℕ) (is : is_directory s d ≡ true) (h : i < record_count (s.file d).bytes) where
    abbrev dir : List ℕ
    dir = (s.file d).bytes

    pub naming_record : is_blank dir i ≡ false → NamingRecord s dir i
    naming_record b = go (w.records d i is h)
      where
        go : RecordForm s dir i → NamingRecord s dir i
        go (as_blank t) = absurd (true≢false (sym t ∙ b))
        go (as_naming r) = r

    pub named_used : is_blank dir i ≡ false → Used s (entry_at dir i).file
    named_used b = used s (entry_at dir i).file (naming_record b).is_in_use
