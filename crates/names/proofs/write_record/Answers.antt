-- A record is a number of two bytes and then the name.
use Prim.Native.Nat.{ℕ, ◌+◌}
use mathlib.Core.Path.{◌≡◌}
use mathlib.Core.List.{List}
use lib.Seq.{sets}
use Rattle.records.specs.Numbers.{two_bytes}
use Rattle.meaning.specs.Name.{entry, written}
use Rattle.names.specs.RecordNames.{padded, laid-written}
use Rattle.names.proofs.write_record.Goals as goal

in_parts : (table table₁ table₂ s : List ℕ) (at f : ℕ) → table₁ ≡ sets table at (two_bytes f) → table₂ ≡ sets table₁ (at + 2) (padded s) →
    table₂ ≡ sets table at (written (entry f s))
in_parts table table₁ table₂ s at f e h = rw (h, e) (laid-written table s at f)

pub returns : goal.returns
returns c = search in_parts
