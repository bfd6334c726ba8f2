-- Who refers to a file: records by their names, channels by holding it. Where the count says none, none does; and back.
use Prim.Native.Nat.{ℕ, suc, ◌-◌, ◌<◌}
use Rattle.std.specs.Prelude.{◌≡◌, refl, ◌≢◌, List, Bool, true, false}
use Rattle.std.proofs.Math.Path.{ap}
use Rattle.std.proofs.Common.{sym, ◌∙◌, arith}
use Rattle.std.proofs.Math.Bool.{true≢false}
use Rattle.std.proofs.Math.Dec.{eqb}
use borrow.Author.Tests.{eq-eqb, ne_eqb, lt-ltb}
use Rattle.records.specs.Rows.{pick, tally, how_many}
use Rattle.records.specs.RowLaws.{every_all, sum_cong, sum_constant, sum_term, how_many_none}
use Rattle.meaning.specs.Name.{record_count, is_blank, entry_at, names_in, is_empty}
use Rattle.meaning.specs.Store.{Store, in_use, is_directory, names, held}
use Rattle.soundness.specs.Use.{directory_used}
use Rattle.soundness.specs.Well.{RecordForm, as_blank, as_naming}
use Rattle.soundness.specs.WellFacts.{blank_file}
use Rattle.trees.specs.Rewrite.{given_by}
use Rattle.keeping.specs.Shape.{Shape}

-- where one index passes, the count is not 0
passes_some : (n : ℕ) (p : ℕ → Bool) (k : ℕ) → k < n → p k ≡ true → 0 < how_many n p
unfolding how_many
passes_some n p k h e = omega (arith, sum_term n (λ i. tally (p i)) k h, ap tally e)

-- ---- channels

module _ (s : Store) (g : ℕ) where
  pub holds-held : (c : ℕ) → c < s.channel_count → (s.channel c).file ≡ g → held s g ≡ true
  unfolding held
  holds-held c h e =
      let some = passes_some s.channel_count (λ c. eqb (s.channel c).file g) c h (eq-eqb (s.channel c).file g e) in
      lt-ltb 0 (how_many s.channel_count (λ c. eqb (s.channel c).file g)) some

  pub not_held : held s g ≡ false → (c : ℕ) → c < s.channel_count → (s.channel c).file ≢ g
  not_held none c h e = true≢false (sym (holds-held c h e) ∙ none)

-- ---- records

-- a directory of blank records names nothing
pub empty_names : (dir : List ℕ) (f : ℕ) → f ≢ 0 → is_empty dir ≡ true → names_in dir f ≡ 0
unfolding is_empty names_in
empty_names dir f some e =
    how_many_none (record_count dir) (λ i. eqb (entry_at dir i).file f)
    (λ i h. ne_eqb (entry_at dir i).file f (λ q. some (sym q ∙ blank_file dir i (every_all (record_count dir) (λ i. is_blank dir i) e i h))))

module _ (s : Store) (g : ℕ) where
  pub record_named_lem : (d i : ℕ) → is_directory s d ≡ true → i < record_count (s.file d).bytes → (entry_at (s.file d).bytes i).file ≡ g → 0 < names s g
  unfolding names names_in
  record_named_lem d i is h e =
      let u = directory_used s d is in
      let r : suc (d - 1) ≡ d = omega (arith, u.some) in
      let dir = (s.file d).bytes in
      let some : 0 < names_in dir g = passes_some (record_count dir) (λ i. eqb (entry_at dir i).file g) i h (eq-eqb (entry_at dir i).file g e) in
      let given : given_by s g (d - 1) ≡ names_in dir g = rw (r, is) in
      omega (arith, sum_term s.file_count (given_by s g) (d - 1) (omega (arith, u.some, u.within)))

  pub not_named : names s g ≡ 0 → (d i : ℕ) → is_directory s d ≡ true → i < record_count (s.file d).bytes → (entry_at (s.file d).bytes i).file ≢ g
  not_named none d i is h e = omega (arith, record_named_lem d i is h e)

  -- a file that is not in use has no name
  pub unused_unnamed : Shape s → g ≢ 0 → in_use s g ≡ false → names s g ≡ 0
  unfolding names names_in
  unused_unnamed shape some free =
      sum_cong s.file_count (given_by s g) (λ i. 0) (λ i h. go (suc i) (is_directory s (suc i)) refl)
      ∙ omega (arith, sum_constant s.file_count 0)
    where
      no_entry : (d i : ℕ) → RecordForm s (s.file d).bytes i → (entry_at (s.file d).bytes i).file ≢ g
      no_entry d i (as_blank b) e = some (sym e ∙ blank_file (s.file d).bytes i b)
      no_entry d i (as_naming m) e = true≢false (sym m.is_in_use ∙ ap (in_use s) e ∙ free)

      go : (d : ℕ) (t : Bool) → is_directory s d ≡ t → pick t (names_in (s.file d).bytes g) 0 ≡ 0
      go d false e = refl
      go d true e =
          how_many_none (record_count (s.file d).bytes) (λ i. eqb (entry_at (s.file d).bytes i).file g)
          (λ i h. ne_eqb (entry_at (s.file d).bytes i).file g (no_entry d i (shape.records d i e h)))
