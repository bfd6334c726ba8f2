-- A name that is read from the left (01, "Names"): the next syllable, and what is left behind it.
use Rattle.std.specs.Prelude.{ℕ, ◌+◌, ◌-◌, List, Bool, Option, Some, None, length, ltb, eqb}
use Rattle.std.specs.Borrow.{Bor}
use Rattle.records.specs.Rows.{pick, lowest_from}
use Rattle.records.specs.Numbers.{one}
use Rattle.meaning.specs.Name.{slash}
use Rattle.paths.specs.declared.PathReader.{PathReader}

-- a slash stands at place i
abbrev pub is_slash : List ℕ → ℕ → Bool
is_slash name i = eqb (one name i) slash

-- where the syllable that starts at a place ends: at the first slash from there on, or at the end of the name
unfoldable pub syllable_end : List ℕ → ℕ → ℕ
syllable_end name at = lowest_from at (length name - at) (is_slash name)

-- the syllable that starts at a place: where it starts and where it ends; none where the name is at its end
abbrev pub taken_at : List ℕ → ℕ → Option (ℕ × ℕ)
taken_at name at = pick (ltb at (length name)) (Some (at, syllable_end name at)) None

-- where what was taken at a place ends
abbrev pub end_taken : Option (ℕ × ℕ) → ℕ → ℕ
end_taken (Some (start, end)) at = end
end_taken None at = at

-- the place behind a syllable's end: behind the slash, or the end of the name
abbrev pub behind : List ℕ → ℕ → ℕ
behind name end = pick (ltb end (length name)) (end + 1) end

-- a reader of a name, set at a place
abbrev pub reader_at : Bor (List ℕ) → ℕ → PathReader
reader_at name at = record { name = name; at = at }

-- the same name, behind a syllable that ends at a place
abbrev pub left_of : PathReader → ℕ → PathReader
left_of r end = reader_at r.name (behind r.name.now end)
