-- Room for a directory's record: TooBig and NoRoom by the numbers that the code reads.
use Rattle.std.specs.Prelude.{ℕ, ◌-◌, ◌≤◌, ◌≡◌, ltb, Result as Answers, Ok, Err}
use Rattle.meaning.specs.File.{needed, longest}
use Rattle.meaning.specs.Result.{Result, refused, unless}
use Rattle.meaning.specs.declared.Report.{Report}
use Rattle.meaning.specs.declared.Report.TheVariants.{NoRoom, TooBig}

-- the two causes, where so many blocks are free
unfoldable pub if_fits_in : ℕ → ℕ → ℕ → Result → Result
if_fits_in free old new r = unless (ltb longest new) TooBig (unless (ltb free (needed new - needed old)) NoRoom r)

abbrev pub FitsIn : ℕ → ℕ → ℕ → Answers (Unit {0}) Report → Type 0
FitsIn free old new (Ok fits) = (new ≤ longest) × (needed new - needed old ≤ free)
FitsIn free old new (Err why) = (r : Result) → refused why ≡ if_fits_in free old new r
