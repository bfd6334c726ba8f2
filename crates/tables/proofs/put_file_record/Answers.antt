-- The parts of the record, one right after the other, are the record.
use Prim.Native.Nat.{ℕ, ◌+◌, ◌*◌}
use mathlib.Core.Path.{◌≡◌}
use mathlib.Core.List.{List, [], ◌∷◌}
use native.Mathlib.Omega.{arith}
use lib.Seq.{sets}
use Rattle.records.specs.Numbers.{two_bytes, four_bytes, with_record}
use Rattle.records.specs.RecordLaws.{then_sets}
use Rattle.meaning.specs.Tables.{file_record}
use Rattle.tables.proofs.put_file_record.Goals as goal

in_parts : (l l₁ l₂ l₃ l₄ : List ℕ) (r kind depth size : ℕ) →
    l₁ ≡ sets l (8 * r) (kind ∷ []) → l₂ ≡ sets l₁ (8 * r + 1) (depth ∷ []) → l₃ ≡ sets l₂ (8 * r + 2) (two_bytes 0) → l₄ ≡ sets l₃ (8 * r + 4) (four_bytes size)
    → l₄ ≡ with_record 8 l r (file_record kind depth size)
unfolding with_record file_record two_bytes
in_parts l l₁ l₂ l₃ l₄ r kind depth size e₁ e₂ e₃ e₄ =
    let two : l₂ ≡ sets l (8 * r) (kind ∷ depth ∷ []) = then_sets (kind ∷ []) (depth ∷ []) l l₁ l₂ (8 * r) (8 * r + 1) (omega arith) e₁ e₂ in
    let three : l₃ ≡ sets l (8 * r) (kind ∷ depth ∷ 0 ∷ 0 ∷ []) = then_sets (kind ∷ depth ∷ []) (0 ∷ 0 ∷ []) l l₂ l₃ (8 * r) (8 * r + 2) (omega arith) two e₃ in
    then_sets (kind ∷ depth ∷ 0 ∷ 0 ∷ []) (four_bytes size) l l₃ l₄ (8 * r) (8 * r + 4) (omega arith) three e₄

pub returns : goal.returns
returns c =
    in_parts _ _ _ _ _ _ _ _ _ c.put_one.ensures c.put_one-2.ensures c.put_two.ensures c.put_four.ensures
