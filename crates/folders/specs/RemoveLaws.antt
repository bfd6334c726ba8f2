-- A name that stands for a directory other than the root, held by no channel and without names.
use Rattle.std.specs.Prelude.{ℕ, ◌<◌, ◌≡◌, ◌≢◌, List, [], ◌∷◌, Bool, true, false}
use Rattle.std.proofs.Math.Path.{ap, subst}
use Rattle.std.proofs.Common.{sym, ◌∙◌, arith}
use Rattle.std.proofs.Math.Logic.{⊎_elim}
use Rattle.std.proofs.Math.Bool.{not}
use Rattle.records.specs.Rows.{tally, every, how_many}
use Rattle.records.specs.RowLaws.{every_all, all_every, how_many_none, sum_term}
use Rattle.records.specs.Tests.{tested}
use Rattle.meaning.specs.Name.{blank_record, is_blank, is_empty, name_count, record_count}
use Rattle.meaning.specs.Store.{Store, file, no_file, root, is_directory, named}
use Rattle.meaning.specs.Tables.{Tables, store_of}
use Rattle.meaning.specs.Result.{done, unless}
use Rattle.meaning.specs.Run.{Call, result_of, meaning, accepts}
use Rattle.meaning.specs.NameCalls.{parent, record_for, rewritten, unnaming, rmdir}
use Rattle.meaning.specs.declared.FileNo.{FileNo}
use Rattle.soundness.specs.Well.{Well}
use Rattle.soundness.specs.WellFacts.{directory-form}
use Rattle.lookup.specs.Filed.{sound_well}
use Rattle.trees.specs.Standing.{Standing, some_syllable}
use Rattle.keeping.specs.Sure.{Sure, Good}
use Rattle.keeping.proofs.Named.{other_standing}
use Rattle.keeping.proofs.OnNames.{good-rmdir}
use Rattle.naming.specs.At.{At, not_missing, old_dir, stands_for}
use Rattle.naming.specs.declared.Located.{Located}
use Rattle.naming.specs.declared.Located.TheVariants.{Old}
use Rattle.placing.specs.Free.{sized}
use Rattle.folders.specs.Acts.{Able, able}
use Rattle.folders.specs.Remove.{planned}

-- ---- a directory is empty exactly where it has no names

none_empty : (n : ℕ) (p : ℕ → Bool) → how_many n (λ i. not (p i)) ≡ 0 → every n p ≡ true
unfolding how_many
none_empty n p e =
    all_every n p (λ i h. ⊎_elim
    (λ (t : p i ≡ true). t)
    (λ (t : p i ≡ false). let one : tally (not (p i)) ≡ 1 = rw t in absurd (omega (arith, sum_term n (λ i. tally (not (p i))) i h)))
    (tested (p i)))

module _ (dir : List ℕ) where
  pub no_names_empty : name_count dir ≡ 0 → is_empty dir ≡ true
  unfolding name_count is_empty
  no_names_empty e = none_empty (record_count dir) (λ i. is_blank dir i) e

  pub names_not_empty : name_count dir ≢ 0 → is_empty dir ≡ false
  unfolding name_count is_empty
  names_not_empty some =
      ⊎_elim
      (λ (t : every (record_count dir) (λ i. is_blank dir i) ≡ true).
      absurd (some (how_many_none (record_count dir) (λ i. not (is_blank dir i)) (λ i h. ap not (every_all (record_count dir) (λ i. is_blank dir i) t i h)))))
      (λ (t : every (record_count dir) (λ i. is_blank dir i) ≡ false). t)
      (tested (every (record_count dir) (λ i. is_blank dir i)))

-- ---- a name that was located

module _ (t : Tables) (bytes : List ℕ) (k : ℕ) (x : Located) (a : At t bytes k x) (d f : FileNo) (old : x ≡ Old d f) (not-one : f.0 ≢ 1) where
  abbrev s : Store
  s = store_of t

  w : Well s
  w = sound_well t a.ok

  other : named s a.name ≢ root
  other e = not-one (stands_for t bytes k x a d f old ∙ e)

  pub deep : k ≢ 0
  deep e = omega (arith, some_syllable s a.name other, a.count)

  pub stands : Standing s a.name
  stands = other_standing s w (sized t a.ok) bytes a.name a.is (not_missing t bytes k x a d f old) other

  pub in_directory_lem : is_directory s d.0 ≡ true
  in_directory_lem = ap (is_directory s) (old_dir t bytes k x a d f old) ∙ stands.place.directory

  module _ (i : ℕ) (found : i ≡ record_for s a.name) where
    pub small : i < 65536
    small =
        let l : record_for s a.name < record_count (s.file (parent s a.name)).bytes = stands.there in
        omega (arith, (directory-form s w (parent s a.name) stands.place.directory).size)

    pub planned_is : planned t (d, i, f) ≡ done [] [] (file (parent s a.name) (unnaming s a.name) ∷ file (named s a.name) no_file ∷ [])
    unfolding unnaming
    planned_is = rw (old_dir t bytes k x a d f old, found, stands_for t bytes k x a d f old)

    -- what is planned, where it is what rmdir gives, can be done
    pub can : planned t (d, i, f) ≡ result_of (Call.Rmdir bytes) t → Able t d.0 i blank_record f.0
    unfolding result_of meaning accepts unless
    can e =
        let given : planned t (d, i, f) ≡ rmdir bytes s = rw a.ok at e in
        let sure : Sure s (file d.0 (rewritten s d.0 i blank_record) ∷ file f.0 no_file ∷ []) =
        subst (Good s) (sym given) (good-rmdir s w (sized t a.ok) bytes) in
        able t a.ok d.0 i blank_record f.0 no_file sure in_directory_lem small
