-- What has to hold of a call's changes: the tables can take them, and the store that they leave is well formed.
-- A call's refusals are walked one by one; what is left is to hold where it is accepted.
use Rattle.std.specs.Prelude.{ℕ, ◌-◌, ◌≤◌, ◌<◌, ◌≡◌, ◌≢◌, List, [], ◌∷◌, ◌++◌, Bool, not, length, ltb}
use Rattle.std.proofs.Math.Path.{refl}
use Rattle.std.proofs.Math.Bool.{true, false}
use Rattle.std.proofs.Math.Option.{Option, none, some}
use Rattle.std.proofs.Common.{arith, ltb-false}
use Rattle.std.proofs.lemmas.Bool.{not-false}
use Rattle.records.specs.Rows.{pick}
use Rattle.meaning.specs.File.{needed, longest}
use Rattle.meaning.specs.Store.{Store, File, Change, after, after_all, is_open, free_blocks}
use Rattle.meaning.specs.Result.{Result, refused, done, unless, on_channel, with_syllables, if_fits}
use Rattle.meaning.specs.declared.Report.{Report}
use Rattle.meaning.specs.declared.Report.TheVariants.{BadName, NoSuchCid, NoRoom, TooBig}
use Rattle.layout.specs.Fits.{FileFits, Fits, FitsAll}
use Rattle.layout.specs.Room.{same-files}
use Rattle.soundness.specs.Well.{Well}

pub record Sure (s : Store) (changes : List Change) : Type 0 where
  pub fits : FitsAll s changes
  pub well : Well (after_all s changes)

-- a refusal has no changes
abbrev pub Good : Store → Result → Type 0
Good s (refused why) = Unit {0}
Good s (done numbers bytes changes) = Sure s changes

-- how many files tables have room for
pub record Sized (s : Store) : Type 0 where
  pub some_files : 0 < s.file_count
  pub few-files : s.file_count ≤ 64

-- ---- refusals: what holds of every refusal, and of what follows where its cause does not hold, holds of the result

module _ (P : Result → Type 0) (refusal : (why : Report) → P (refused why)) where
  pub past_cause : (t : Bool) (why : Report) (r : Result) → (t ≡ false → P r) → P (unless t why r)
  unfolding unless
  past_cause true why r next = refusal why
  past_cause false why r next = next refl

  pub past_name : (read : Option (List (List ℕ))) (r : List (List ℕ) → Result) → ((name : List (List ℕ)) → read ≡ some name → P (r name)) → P (with_syllables read r)
  unfolding with_syllables
  past_name none r next = refusal BadName
  past_name (some name) r next = next name refl

  pub past_fits : (s : Store) (old new : ℕ) (r : Result) → (new ≤ longest → needed new - needed old ≤ free_blocks s → P r) → P (if_fits s old new r)
  unfolding if_fits
  past_fits s old new r next =
      past_cause (ltb longest new) TooBig (unless (ltb (free_blocks s) (needed new - needed old)) NoRoom r)
      (λ e. past_cause (ltb (free_blocks s) (needed new - needed old)) NoRoom r
      (λ m. next (ltb-false longest new e) (ltb-false (free_blocks s) (needed new - needed old) m)))

-- the same of what has to hold of a call's changes
module _ (s : Store) where
  pub past : (t : Bool) (why : Report) (r : Result) → (t ≡ false → Good s r) → Good s (unless t why r)
  past = past_cause (Good s) (λ why. tt)

  pub with_name_lem : (read : Option (List (List ℕ))) (r : List (List ℕ) → Result) → ((name : List (List ℕ)) → read ≡ some name → Good s (r name)) → Good s (with_syllables read r)
  with_name_lem = past_name (Good s) (λ why. tt)

  pub if_fits_lem : (old new : ℕ) (r : Result) → (new ≤ longest → needed new - needed old ≤ free_blocks s → Good s r) → Good s (if_fits s old new r)
  if_fits_lem = past_fits (Good s) (λ why. tt) s

  pub on_channel_lem : (c : ℕ) (r : Result) → (is_open s c ≡ true → Good s r) → Good s (on_channel s c r)
  unfolding on_channel
  on_channel_lem c r good = past (not (is_open s c)) NoSuchCid r (λ e. good (not-false (is_open s c) e))

  -- one way where a test passes, and another where it fails
  pub by_test : (t : Bool) (a b : Result) → (t ≡ true → Good s a) → (t ≡ false → Good s b) → Good s (pick t a b)
  by_test true a b then else = then refl
  by_test false a b then else = else refl

-- ---- a change of a file that takes no more blocks

pub smaller_fits : (s : Store) (f : ℕ) (x : File) → 0 < f → f ≤ s.file_count → (0 < length x.bytes → x.kind ≢ 0)
    → needed (length x.bytes) ≤ needed (length (s.file f).bytes) → FileFits s f x
smaller_fits s f x first within used less = record { from_one = first; to_last = within; used = used; room = omega arith }

-- ---- one row of changes after another

pub after_both : (s : Store) (changes more : List Change) → after_all s (changes ++ more) ≡ after_all (after_all s changes) more
unfolding after_all
after_both s [] more = refl
after_both s (change ∷ changes) more = after_both (after s change) changes more

pub fits_both : (s : Store) (changes more : List Change) → FitsAll s changes → FitsAll (after_all s changes) more → FitsAll s (changes ++ more)
unfolding after_all
fits_both s [] more a b = b
fits_both s (change ∷ changes) more a b = (a.0, fits_both (after s change) changes more a.1 b)

pub sure_both : (s : Store) (changes more : List Change) → Sure s changes → Sure (after_all s changes) more → Sure s (changes ++ more)
sure_both s changes more a b =
    record { fits = fits_both s changes more a.fits b.fits; well = rw (after_both s changes more) b.well }

-- one change, and then more
pub sure_then : (s : Store) (change : Change) (changes : List Change) → Fits s change → Sure (after s change) changes → Sure s (change ∷ changes)
unfolding after_all
sure_then s change changes first rest = record { fits = (first, rest.fits); well = rest.well }

-- no change moves the count of files
pub sized_after : (s : Store) (changes : List Change) → Sized s → Sized (after_all s changes)
unfolding after_all
sized_after s [] z = z
sized_after s (change ∷ changes) z =
    let e = same-files s change in
    sized_after (after s change) changes (record { some_files = omega (arith, z.some_files); few-files = omega (arith, z.few-files) })
