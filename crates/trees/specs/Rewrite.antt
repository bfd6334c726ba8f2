-- A store in which one record of one directory is written anew, added or blanked: what stays, and who is named how often.
use Prim.Native.Nat.{ℕ, suc, ◌+◌, ◌-◌, ◌*◌, ◌≤◌}
use Rattle.std.specs.Prelude.{◌≡◌, ◌≢◌, List, Bool, true, false, length, eqb}
use Rattle.std.proofs.Math.Path.{refl, ap, sym}
use Rattle.std.proofs.Common.{◌∙◌, ⊎_elim}
use native.Mathlib.Omega.{arith}
use Rattle.records.specs.Rows.{pick, tally, sum}
use Rattle.records.specs.RowLaws.{sum_cong, sum_update}
use Rattle.records.specs.Tests.{same_or_not}
use Rattle.meaning.specs.Name.{record_count, entry_in, entry_at, names_in, with_entry}
use Rattle.meaning.specs.Store.{Store, File, file, after, in_use, is_directory, held, names}
use Rattle.meaning.specs.NameCalls.{rewritten}
use Rattle.soundness.specs.Use.{directory_used, directory-kind}
use Rattle.soundness.specs.Well.{Well}
use Rattle.soundness.specs.WellFacts.{directory-length}
use Rattle.directories.specs.CountLaws.{names_with}
use Rattle.trees.specs.AfterFile.{file_changed, file-other, held-file, same_use, same-directory}

-- record i of directory d, whose bytes are whole records, is to be r
pub record Rewriting (s : Store) (d i : ℕ) (r : List ℕ) : Type 0 where
  pub directory : is_directory s d ≡ true
  pub whole : length (s.file d).bytes ≡ 16 * record_count (s.file d).bytes
  pub within : i ≤ record_count (s.file d).bytes
  pub size : length r ≡ 16

-- the store then
abbrev pub with_record : Store → ℕ → ℕ → List ℕ → Store
with_record s d i r = after s (file d (rewritten s d i r))

-- the names that file i + 1 gives to file f
abbrev pub given_by : Store → ℕ → ℕ → ℕ
given_by s f i = let n = names_in (s.file (suc i)).bytes f in pick (is_directory s (suc i)) n 0

-- ---- how often a file is named, where the directories are the same

-- two stores with as many files, the same directories and the same records in them that name f
pub same_names : (s s' : Store) (f : ℕ) → s'.file_count ≡ s.file_count → ((d : ℕ) → is_directory s' d ≡ is_directory s d)
    → ((d : ℕ) → is_directory s d ≡ true → names_in (s'.file d).bytes f ≡ names_in (s.file d).bytes f) → names s' f ≡ names s f
unfolding names
same_names s s' f counts dirs bytes =
    ap (λ (n : ℕ). sum n (given_by s' f)) counts
    ∙ sum_cong s.file_count (given_by s' f) (given_by s f) (λ i h. rw (dirs (suc i)) (go (suc i) (is_directory s (suc i)) refl))
  where
    go : (d : ℕ) (t : Bool) → is_directory s d ≡ t → pick t (names_in (s'.file d).bytes f) 0 ≡ pick t (names_in (s.file d).bytes f) 0
    go d true e = bytes d e
    go d false e = refl

module _ (s : Store) (d i : ℕ) (r : List ℕ) (w : Rewriting s d i r) where
  -- the directory that is written
  pub own_bytes : ((with_record s d i r).file d).bytes ≡ with_entry (s.file d).bytes i r
  unfolding rewritten
  own_bytes = ap (λ (x : File). x.bytes) (file_changed s d (rewritten s d i r))

  own_kind : ((with_record s d i r).file d).kind ≡ (s.file d).kind
  unfolding rewritten
  own_kind = ap (λ (x : File). x.kind) (file_changed s d (rewritten s d i r)) ∙ sym (directory-kind s d w.directory)

  own_depth : ((with_record s d i r).file d).depth ≡ (s.file d).depth
  unfolding rewritten
  own_depth = ap (λ (x : File). x.depth) (file_changed s d (rewritten s d i r))

  -- any other file
  pub other-file : (f : ℕ) → f ≢ d → (with_record s d i r).file f ≡ s.file f
  other-file f n = file-other s d (rewritten s d i r) f n

  -- ---- every file: its kind and depth, and so whether it is in use, and a directory; who holds it

  pub kind-same : (f : ℕ) → ((with_record s d i r).file f).kind ≡ (s.file f).kind
  kind-same f =
      ⊎_elim
      (λ (e : f ≡ d). rw e own_kind)
      (λ (n : f ≢ d). ap (λ (x : File). x.kind) (other-file f n))
      (same_or_not f d)

  pub depth_same : (f : ℕ) → ((with_record s d i r).file f).depth ≡ (s.file f).depth
  depth_same f =
      ⊎_elim
      (λ (e : f ≡ d). rw e own_depth)
      (λ (n : f ≢ d). ap (λ (x : File). x.depth) (other-file f n))
      (same_or_not f d)

  count_same : (with_record s d i r).file_count ≡ s.file_count
  unfolding after
  count_same = refl

  pub use_same : (f : ℕ) → in_use (with_record s d i r) f ≡ in_use s f
  use_same f = same_use s (with_record s d i r) count_same f (kind-same f)

  pub directory-same : (f : ℕ) → is_directory (with_record s d i r) f ≡ is_directory s f
  directory-same f = same-directory s (with_record s d i r) count_same f (kind-same f)

  pub held_same : (f : ℕ) → held (with_record s d i r) f ≡ held s f
  held_same f = held-file s d (rewritten s d i r) f

  -- ---- what names a file: the record that was there no longer does, the one that is there does

  given-same : (f k : ℕ) → suc k ≢ d → given_by s f k ≡ given_by (with_record s d i r) f k
  given-same f k n = rw (directory-same (suc k), other-file (suc k) n)

  given_own : (f k : ℕ) → suc k ≡ d → f ≢ 0
      → given_by (with_record s d i r) f k + tally (eqb (entry_at (s.file d).bytes i).file f) ≡ given_by s f k + tally (eqb (entry_in r).file f)
  given_own f k e some =
      rw (e, directory-same d, w.directory, own_bytes)
      (names_with (s.file d).bytes r (record_count (s.file d).bytes) i w.whole w.size w.within f some)

  pub names-after : (f : ℕ) → f ≢ 0
      → names (with_record s d i r) f + tally (eqb (entry_at (s.file d).bytes i).file f) ≡ names s f + tally (eqb (entry_in r).file f)
  unfolding names
  names-after f some =
      let u = directory_used s d w.directory in
      let counts : names (with_record s d i r) f ≡ sum s.file_count (given_by (with_record s d i r) f) = ap (λ (n : ℕ). sum n (given_by (with_record s d i r) f)) count_same in
      let e : suc (d - 1) ≡ d = omega (arith, u.some) in
      let change = sum_update s.file_count (given_by s f) (given_by (with_record s d i r) f) (d - 1) (omega (arith, u.some, u.within))
      (λ k h (n : k ≢ d - 1). given-same f k (omega arith)) in
      let own = given_own f (d - 1) e some in
      omega arith

-- a directory of a well-formed store has whole records
pub rewrites : (s : Store) → Well s → (d i : ℕ) (r : List ℕ) → is_directory s d ≡ true → i ≤ record_count (s.file d).bytes → length r ≡ 16 → Rewriting s d i r
rewrites s w d i r is within size =
    record { directory = is; whole = directory-length s w d is; within = within; size = size }
