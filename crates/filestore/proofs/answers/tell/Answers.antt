-- A row of at most three numbers, with zeros behind it; or a report alone.
use Rattle.std.specs.Prelude.{ℕ, ◌≤◌, ◌≡◌, refl, List, [], ◌∷◌, ◌++◌, length, take, drop, slice_index_or, Ok, Result as Answers}
use Rattle.std.proofs.Common.{arith, ap, sym, ◌∙◌, length-take}
use Rattle.meaning.specs.Run.{accepted, number_of}
use Rattle.meaning.specs.Answers.{answered}
use Rattle.meaning.specs.declared.Report.{Report}
use Rattle.filestore.specs.Tells.{in_four}
use Rattle.filestore.specs.Rows.{refusal-alone}
use Rattle.filestore.proofs.answers.tell.Goals as goal

-- the row laid over three zeros
in_place : (row : List ℕ) (n : ℕ) → length row ≡ n → n ≤ 3 → (l : List ℕ) → l ≡ row ++ drop n (0 ∷ 0 ∷ 0 ∷ [])
    → 0 ∷ slice_index_or l 0 0 ∷ slice_index_or l 1 0 ∷ slice_index_or l 2 0 ∷ [] ≡ in_four (accepted row)
unfolding in_four number_of
in_place [] n size few l e = rw (e, sym size) refl
in_place (a ∷ []) n size few l e = rw (e, sym size) refl
in_place (a ∷ b ∷ []) n size few l e = rw (e, sym size) refl
in_place (a ∷ b ∷ c ∷ []) n size few l e = rw e refl
in_place (a ∷ b ∷ c ∷ d ∷ row) n size few l e = absurd (omega arith)

few_taken : (n : ℕ) → n ≤ 3 → length (take {A = ℕ} n (0 ∷ 0 ∷ 0 ∷ [])) ≡ n
few_taken n h = rw length-take (omega arith)

module _ {A : Type 0} (n : ℕ) (numbers : A → List ℕ) (answer : Answers A Report) (value : A) (is : answer ≡ Ok value) (row laid l : List ℕ) where
  told : n ≤ 3 → row ≡ numbers value → laid ≡ row → length laid ≡ length (take {A = ℕ} n (0 ∷ 0 ∷ 0 ∷ [])) → l ≡ laid ++ drop n (0 ∷ 0 ∷ 0 ∷ [])
      → 0 ∷ slice_index_or l 0 0 ∷ slice_index_or l 1 0 ∷ slice_index_or l 2 0 ∷ [] ≡ in_four (answered n numbers answer)
  told few same put size e =
      in_place laid n (size ∙ few_taken n few) few l e ∙ ap in_four (ap accepted (put ∙ same) ∙ ap (answered n numbers) (sym is))

pub returns-in-Ok : goal.returns-in-Ok
returns-in-Ok g c =
    told g.row.N g.T.Values.numbers _ _ c.in-Ok.is _ _ _ c.requires c.numbers.ensures c.copy_from_slice.ensures.after c.copy_from_slice.ensures.len refl

pub returns-in-Err : goal.returns-in-Err
returns-in-Err g c = rw (c.in-Err.is, c.from.ensures) (sym (refusal-alone g.row.N c.in-Err.why c.requires))
