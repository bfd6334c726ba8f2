-- A directory with a record written is the file with 16 bytes written into it.
use Prim.Native.Nat.{ℕ, ◌+◌, ◌*◌, ◌≤◌}
use Rattle.std.specs.Prelude.{◌≡◌, true}
use Rattle.std.proofs.Math.Path.{ap}
use Rattle.std.proofs.Common.{sym, subst, ◌∙◌, arith}
use mathlib.Core.List.{List, [], ◌++◌, append-nil}
use Rattle.std.proofs.Math.ListN.{length, drop, replicate, drop_of_length-le}
use Rattle.std.proofs.Math.Seq.{sets, sets-eq}
use Rattle.meaning.specs.Name.{entry, written, with_entry, is_syllable}
use Rattle.meaning.specs.Store.{Store, File, file, is_directory}
use Rattle.meaning.specs.NameCalls.{rewritten}
use Rattle.meaning.specs.Tables.{Tables, tables, store_of, put}
use Rattle.layout.specs.Fits.{FileFits}
use Rattle.names.specs.Syllables.{part, last_start}
use Rattle.names.specs.SyllableTests.{syllable_short}
use Rattle.names.specs.RecordLaws.{length-written}
use Rattle.soundness.specs.Use.{directory-kind}
use Rattle.lookup.specs.Filed.{directory-seen}
use Rattle.files.specs.Files.{with_write, Writable}
use Rattle.recording.specs.Recording.{Rewritable, record_of}

-- the same file, said of records and of bytes
pub same-file : (s : Store) (d i : ℕ) (r : List ℕ) → is_directory s d ≡ true → with_write (s.file d) (16 * i) r ≡ rewritten s d i r
unfolding rewritten with_entry
same-file s d i r is =
    let kind = directory-kind s d is in
    λ j. record { kind = kind j; depth = (s.file d).depth; bytes = with_entry (s.file d).bytes i r }

module _ (blocks records files : List ℕ) (d i : ℕ) (r : List ℕ) (w : Rewritable blocks records files d i r) where
  pub writable_so : Writable blocks records files d (16 * i) r
  writable_so =
      record {
        channels = w.channels;
        layout = w.layout;
        fits =
            let s = store_of (tables blocks records files w.channels) in
            subst (FileFits s d) (sym (same-file s d i r w.is_directory_lem)) w.fits;
      }

  -- a directory beside any channel records
  still : (channels : List ℕ) → is_directory (store_of (tables blocks records files channels)) d ≡ true
  still channels = directory-seen blocks records files channels d ∙ sym (directory-seen blocks records files w.channels d) ∙ w.is_directory_lem

  pub rewrites_so : (channels : List ℕ) (t' : Tables) →
      let t = tables blocks records files channels in
      t' ≡ put t (file d (with_write ((store_of t).file d) (16 * i) r)) → t' ≡ put t (file d (rewritten (store_of t) d i r))
  rewrites_so channels t' e =
      let t = tables blocks records files channels in
      e ∙ ap (λ (x : File). put t (file d x)) (same-file (store_of t) d i r (still channels))

-- ---- the record as the code builds it

module _ (name : List ℕ) (inside : last_start name ≤ length name) (is : is_syllable (part name (last_start name) (length name)) ≡ true) where
  pub short_last : (syllable : List ℕ) → syllable ≡ part name (last_start name) (length name) → length syllable ≤ 14
  short_last syllable e = rw e (syllable_short (part name (last_start name) (length name)) is)

  -- 16 bytes laid over 16 zeros
  pub record_built : (f : ℕ) (syllable built : List ℕ) → syllable ≡ part name (last_start name) (length name) → built ≡ sets (replicate 16 0) 0 (written (entry f syllable)) → built ≡ record_of f name
  unfolding record_of
  record_built f syllable built e b =
      let v = written (entry f (part name (last_start name) (length name))) in
      let size : length v ≡ 16 = length-written (entry f (part name (last_start name) (length name))) is in
      let zeros : List ℕ = replicate 16 0 in
      let rest : drop (0 + length v) zeros ≡ [] = drop_of_length-le zeros {i = 0 + length v} (omega arith) in
      let all : sets zeros 0 v ≡ v ++ drop (0 + length v) zeros = sets-eq v zeros 0 (omega arith) in
      rw e at b ∙ all ∙ ap (λ (l : List ℕ). v ++ l) rest ∙ append-nil v

-- the same, where the bytes written are the record's
module _ (blocks records files : List ℕ) (d i : ℕ) (r built : List ℕ) (same : built ≡ r) (w : Rewritable blocks records files d i r) where
  pub writable_built : Writable blocks records files d (16 * i) built
  writable_built = subst (Writable blocks records files d (16 * i)) (sym same) (writable_so blocks records files d i r w)

  pub rewrites_built : (channels : List ℕ) (t' : Tables) →
      let t = tables blocks records files channels in
      t' ≡ put t (file d (with_write ((store_of t).file d) (16 * i) built)) → t' ≡ put t (file d (rewritten (store_of t) d i r))
  rewrites_built channels t' e =
      let t = tables blocks records files channels in
      rewrites_so blocks records files d i r w channels t' (e ∙ ap (λ (l : List ℕ). put t (file d (with_write ((store_of t).file d) (16 * i) l))) same)
