-- The number of two bytes that the record starts with.
use Prim.Native.Nat.{ℕ, ◌+◌, ◌≤◌}
use mathlib.Core.Path.{◌≡◌, ap, ◌∙◌}
use mathlib.Core.List.{List}
use native.Mathlib.Omega.{arith}
use lib.ListN.{length}
use Rattle.records.specs.Numbers.{one, two}
use Rattle.meaning.specs.Name.{entry_in}
use Rattle.names.specs.RecordNames.{record_from, record_one}
use Rattle.names.proofs.record_file.Goals as goal

number : (table : List ℕ) (at n : ℕ) → at + 16 ≤ length table → n ≡ two table at → n ≡ (entry_in (record_from table at)).file
unfolding entry_in two
number table at n fits e =
    let z : at + 0 ≡ at = omega arith in
    let low : one (record_from table at) 0 ≡ one table at = record_one table at fits 0 (omega arith) ∙ ap (one table) z in
    let high : one (record_from table at) 1 ≡ one table (at + 1) = record_one table at fits 1 (omega arith) in
    omega arith

pub returns : goal.returns
returns c = search number
