-- The records that name a file: some, where it has a name; one, where it is counted once.
use Prim.Native.Nat.{ℕ, zero, suc, ◌+◌, ◌-◌, ◌≤◌, ◌<◌}
use Rattle.std.specs.Prelude.{◌≡◌, ◌≢◌, length}
use Rattle.std.proofs.Math.Path.{refl, ap}
use Rattle.std.proofs.Common.{sym, ◌∙◌}
use Rattle.std.proofs.Math.Logic.{⊎_elim}
use Rattle.std.proofs.Math.Bool.{Bool, true, false}
use native.Mathlib.Omega.{arith}
use Rattle.std.proofs.Math.Dec.{eqb}
use borrow.Author.Tests.{eqb-true, eq-eqb, ne_eqb}
use Rattle.records.specs.Rows.{pick, tally, lowest, sum, how_many}
use Rattle.records.specs.RowLaws.{sum_term, sum_update, some_lowest, lowest_hit}
use Rattle.records.specs.Tests.{same_or_not, lt_or_ge}
use Rattle.meaning.specs.Name.{record_count, entry_at, record_named, in_directory, names_in}
use Rattle.meaning.specs.Store.{Store, root, is_directory, within, named, front, last, names}
use Rattle.soundness.specs.Use.{directory_used}
use Rattle.lookup.specs.Walk.{named-last}
use Rattle.trees.specs.Records.{named_has, in_found, in_some}
use Rattle.trees.proofs.Lookups.{within-directory, within_is}
use Rattle.trees.specs.Standing.{some_syllable}
use Rattle.trees.specs.Rewrite.{given_by}
use Rattle.keeping.specs.References.{record_named_lem}
use Rattle.source.specs.Naming.{NAME}

-- ---- a sum or a count that is not 0 has a term that is not

some_term : (n : ℕ) (g : ℕ → ℕ) → 0 < sum n g → (i : ℕ) × (i < n) × (0 < g i)
unfolding sum
some_term zero g h = absurd (omega arith)
some_term (suc n) g h =
    ⊎_elim
    (λ (l : 0 < sum n g). let (i, below, there) = some_term n g l in (i, omega arith, there))
    (λ (l : sum n g ≤ 0). (n, omega arith, omega arith))
    (lt_or_ge 0 (sum n g))

-- ---- records that name a file

-- record i of directory d names file f
pub record Names (s : Store) (f : ℕ) : Type 0 where
  pub d : ℕ
  pub i : ℕ
  pub directory : is_directory s d ≡ true
  pub within : i < record_count (s.file d).bytes
  pub file : (entry_at (s.file d).bytes i).file ≡ f

module _ (s : Store) (f : ℕ) where
  pub its_record : 0 < names s f → Names s f
  unfolding names names_in
  its_record h =
      let (r, below, there) = some_term s.file_count (given_by s f) h in
      go r (is_directory s (suc r)) refl there
    where
      go : (r : ℕ) (t : Bool) → is_directory s (suc r) ≡ t → 0 < pick t (names_in (s.file (suc r)).bytes f) 0 → Names s f
      go r true is there =
          let dir = (s.file (suc r)).bytes in
          let p : ℕ → Bool = λ i. eqb (entry_at dir i).file f in
          let l = some_lowest (record_count dir) p there in
          record {
            d = suc r;
            i = lowest (record_count dir) p;
            directory = is;
            within = l;
            file = eqb-true (entry_at dir (lowest (record_count dir) p)).file f (lowest_hit (record_count dir) p l);
          }
      go r false is there = absurd (omega arith)

  -- the record of a name that stands for the file: it lies in the name's directory, and has its last syllable
  pub record_of_lem : (name : NAME) → 0 < length name → named s name ≡ f → f ≢ 0
      → (r : Names s f) × (r.d ≡ named s (front name)) × ((entry_at (s.file r.d).bytes r.i).name ≡ last name)
  record_of_lem name more is there =
      let d = named s (front name) in
      let dir = (s.file d).bytes in
      let at : f ≡ within s d (last name) = sym is ∙ named-last s name more in
      let d-is = within-directory s d (last name) (λ z. there (at ∙ z)) in
      let its : f ≡ in_directory dir (last name) = at ∙ within_is s d (last name) d-is in
      let found : record_named dir (last name) < record_count dir = in_some dir (last name) (λ z. there (its ∙ z)) in (
        record { d = d; i = record_named dir (last name); directory = d-is; within = found; file = sym (its ∙ in_found dir (last name) found) },
        refl,
        named_has dir (last name) found,
      )

  -- a file that is not the root is counted by each of its names
  pub name_counts : (name : NAME) → named s name ≡ f → f ≢ 0 → f ≢ root → 0 < names s f
  name_counts name is there other =
      let r = (record_of_lem name (some_syllable s name (λ e. other (sym is ∙ e))) is there).0 in
      record_named_lem s f r.d r.i r.directory r.within r.file

-- ---- one record, where there is one name

-- two terms of a sum
two_terms : (n : ℕ) (g : ℕ → ℕ) (i j : ℕ) → i < n → j < n → i ≢ j → g i + g j ≤ sum n g
two_terms n g i j h l apart =
    let less : ℕ → ℕ = λ k. pick (eqb k i) 0 (g k) in
    let own : less i ≡ 0 = rw (eq-eqb i i refl) in
    let other : less j ≡ g j = rw (ne_eqb j i (λ e. apart (sym e))) in
    let rest : sum n less + g i ≡ sum n g + less i = sum_update n g less i h (λ k b d. sym (rw (ne_eqb k i d))) in
    omega (arith, sum_term n less j l)

two_passing : (n : ℕ) (p : ℕ → Bool) (i j : ℕ) → i < n → j < n → p i ≡ true → p j ≡ true → i ≢ j → 1 < how_many n p
unfolding how_many
two_passing n p i j h l a b apart =
    let one : tally (p i) ≡ 1 = ap tally a in
    let other : tally (p j) ≡ 1 = ap tally b in
    omega (arith, two_terms n (λ k. tally (p k)) i j h l apart)

module _ (s : Store) (f : ℕ) (once : names s f ≡ 1) where
  -- a directory with a record that names f counts it
  counts_it : (d : ℕ) → 0 < d → is_directory s d ≡ true → given_by s f (d - 1) ≡ names_in (s.file d).bytes f
  counts_it zero some is = absurd (omega arith)
  counts_it (suc r) some is =
      let e : suc r - 1 ≡ r = omega arith in
      rw (e, is)

  at_least_one : (r : Names s f) → 0 < names_in (s.file r.d).bytes f
  unfolding names_in how_many
  at_least_one r =
      let dir = (s.file r.d).bytes in
      let one : tally (eqb (entry_at dir r.i).file f) ≡ 1 = ap tally (eq-eqb (entry_at dir r.i).file f r.file) in
      omega (arith, sum_term (record_count dir) (λ j. tally (eqb (entry_at dir j).file f)) r.i r.within)

  pub one-directory : (a b : Names s f) → a.d ≡ b.d
  unfolding names
  one-directory a b =
      let u = directory_used s a.d a.directory in
      let v = directory_used s b.d b.directory in
      ⊎_elim
      (λ (e : a.d ≡ b.d). e)
      (λ (n : a.d ≢ b.d). absurd (omega (
        arith,
        two_terms s.file_count (given_by s f) (a.d - 1) (b.d - 1) (omega arith) (omega arith) (λ (q : a.d - 1 ≡ b.d - 1). absurd (n (omega arith))),
        counts_it a.d u.some a.directory,
        counts_it b.d v.some b.directory,
        at_least_one a,
        at_least_one b,
      )))
      (same_or_not a.d b.d)

  pub one_record : (a b : Names s f) → a.i ≡ b.i
  unfolding names names_in
  one_record a b =
      let same-d = one-directory a b in
      let u = directory_used s a.d a.directory in
      let dir = (s.file a.d).bytes in
      let p : ℕ → Bool = λ j. eqb (entry_at dir j).file f in
      let b-in : b.i < record_count dir = rw same-d b.within in
      let b-is : (entry_at dir b.i).file ≡ f = rw same-d b.file in
      ⊎_elim
      (λ (e : a.i ≡ b.i). e)
      (λ (n : a.i ≢ b.i). absurd (omega (
        arith,
        two_passing (record_count dir) p a.i b.i a.within b-in (eq-eqb (entry_at dir a.i).file f a.file) (eq-eqb (entry_at dir b.i).file f b-is) n,
        counts_it a.d u.some a.directory,
        sum_term s.file_count (given_by s f) (a.d - 1) (omega arith),
      )))
      (same_or_not a.i b.i)
