-- The parts of the record, one right after the other, are the record.
use Prim.Native.Nat.{ℕ, ◌+◌, ◌*◌}
use mathlib.Core.Path.{◌≡◌}
use mathlib.Core.List.{List, [], ◌∷◌, ◌++◌}
use native.Mathlib.Omega.{arith}
use lib.Seq.{sets}
use Rattle.records.specs.Numbers.{two_bytes, four_bytes, with_record}
use Rattle.records.specs.RecordLaws.{then_sets}
use Rattle.meaning.specs.Tables.{channel_record}
use Rattle.tables.proofs.put_channel_record.Goals as goal

in_parts : (l l₁ l₂ l₃ : List ℕ) (c f posn : ℕ) →
    l₁ ≡ sets l (8 * c) (two_bytes f) → l₂ ≡ sets l₁ (8 * c + 2) (two_bytes 0) → l₃ ≡ sets l₂ (8 * c + 4) (four_bytes posn)
    → l₃ ≡ with_record 8 l c (channel_record f posn)
unfolding with_record channel_record two_bytes
in_parts l l₁ l₂ l₃ c f posn e₁ e₂ e₃ =
    let two : l₂ ≡ sets l (8 * c) (two_bytes f ++ 0 ∷ 0 ∷ []) = then_sets (two_bytes f) (0 ∷ 0 ∷ []) l l₁ l₂ (8 * c) (8 * c + 2) (omega arith) e₁ e₂ in
    then_sets (two_bytes f ++ 0 ∷ 0 ∷ []) (four_bytes posn) l l₂ l₃ (8 * c) (8 * c + 4) (omega arith) two e₃

pub returns : goal.returns
returns c = search in_parts
