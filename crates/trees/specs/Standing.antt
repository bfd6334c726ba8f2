-- A name that stands for a file, and a new name whose directory is there: its directory, and where its record is or goes.
use Rattle.std.specs.Prelude.{ℕ, ◌-◌, ◌*◌, ◌≤◌, ◌<◌, ◌≡◌, ◌≢◌, List, [], ◌∷◌, Bool, length}
use Rattle.std.proofs.Math.Path.{refl}
use Rattle.std.proofs.Common.{sym, ◌∙◌, true≢false, arith, eqb-true}
use Rattle.std.proofs.Math.Logic.{⊎_elim}
use Rattle.std.proofs.Math.Bool.{true, false}
use Rattle.std.proofs.Math.Option.{some}
use Rattle.std.proofs.lemmas.Bool.{eqb-false}
use Rattle.records.specs.RowLaws.{lowest-within, lowest_hit}
use Rattle.records.specs.Tests.{lt_or_ge}
use Rattle.meaning.specs.Name.{is_syllable, syllables, record_count, is_blank, entry_at, record_named, record_for_new, in_directory}
use Rattle.meaning.specs.Store.{Store, root, in_use, is_directory, within, named_back, named, front, last}
use Rattle.meaning.specs.Result.{missing, nowhere}
use Rattle.meaning.specs.NameCalls.{parent, record_for}
use Rattle.names.specs.SameLaws.{is_same}
use Rattle.names.specs.ReadLaws.{read}
use Rattle.lookup.specs.Walk.{named-last}
use Rattle.soundness.specs.Well.{Well}
use Rattle.soundness.specs.WellFacts.{blank_file, directory-length}
use Rattle.trees.specs.Records.{named_has, named-first, in_found, in_some}
use Rattle.trees.specs.Entries.{not_blank, only, found_record, no_record, past_blank}

-- ---- a name in its directory

-- its directory is there, a row of whole records; its record is or goes at record_for, and no other record has the name;
-- that record names what the name stands for, 0 where it stands for nothing, and has the name where it stands for something
pub record Place (s : Store) (n : List (List ℕ)) : Type 0 where
  pub spelled : is_syllable (last n) ≡ true
  pub directory : is_directory s (parent s n) ≡ true
  pub whole : length (s.file (parent s n)).bytes ≡ 16 * record_count (s.file (parent s n)).bytes
  pub file : (entry_at (s.file (parent s n)).bytes (record_for s n)).file ≡ named s n
  pub own : named s n ≢ 0 → (entry_at (s.file (parent s n)).bytes (record_for s n)).name ≡ last n
  pub within : record_for s n ≤ record_count (s.file (parent s n)).bytes
  pub others : (j : ℕ) → j < record_count (s.file (parent s n)).bytes → j ≢ record_for s n
      → (entry_at (s.file (parent s n)).bytes j).name ≢ last n

-- the name stands for a file, in use and not the root: its record has the name
pub record Standing (s : Store) (n : List (List ℕ)) : Type 0 where
  pub place : Place s n
  pub there : record_for s n < record_count (s.file (parent s n)).bytes
  pub name : (entry_at (s.file (parent s n)).bytes (record_for s n)).name ≡ last n
  pub written : is_blank (s.file (parent s n)).bytes (record_for s n) ≡ false
  pub is_in_use : in_use s (named s n) ≡ true
  pub not_root : named s n ≢ root

-- the name stands for nothing: the record where it goes is blank, or lies past the end
pub record Vacant (s : Store) (n : List (List ℕ)) : Type 0 where
  pub place : Place s n
  pub none : named s n ≡ 0
  pub blank : is_blank (s.file (parent s n)).bytes (record_for s n) ≡ true
  pub fresh : (j : ℕ) → j < record_count (s.file (parent s n)).bytes → (entry_at (s.file (parent s n)).bytes j).name ≢ last n

-- ---- the root and the empty name

pub named_empty : (s : Store) → named s [] ≡ root
unfolding named named_back
named_empty s = refl

-- a name that does not stand for the root has a syllable
pub some_syllable : (s : Store) (name : List (List ℕ)) → named s name ≢ root → 0 < length name
some_syllable s [] other = absurd (other (named_empty s))
some_syllable s (first ∷ rest) other = omega arith

-- what the test of a missing name says
pub missing_none : (s : Store) (name : List (List ℕ)) → missing s name ≡ true → named s name ≡ 0
unfolding missing
missing_none s name m = eqb-true (named s name) 0 m

pub missing_some : (s : Store) (name : List (List ℕ)) → missing s name ≡ false → named s name ≢ 0
unfolding missing
missing_some s name m = eqb-false (named s name) 0 m

-- the last syllable of a name that was read
pub last_spelled : (bytes : List ℕ) (name : List (List ℕ)) → syllables bytes ≡ some name → 0 < length name → is_syllable (last name) ≡ true
last_spelled bytes name is more = (read bytes name is).each (length name - 1) (omega arith)

-- ---- what a name's directory says

module _ (s : Store) (name : List (List ℕ)) (some : 0 < length name) where
  by_parent : named s name ≡ within s (parent s name) (last name)
  unfolding parent
  by_parent = named-last s name some

  -- a name that stands for something lies in a directory
  pub parent-directory : named s name ≢ 0 → is_directory s (parent s name) ≡ true
  unfolding within
  parent-directory there = go (is_directory s (parent s name)) refl
    where
      go : (t : Bool) → is_directory s (parent s name) ≡ t → t ≡ true
      go true e = refl
      go false e = absurd (there (by_parent ∙ rw e))

  pub named-within-parent : is_directory s (parent s name) ≡ true → named s name ≡ in_directory (s.file (parent s name)).bytes (last name)
  unfolding within
  named-within-parent is = by_parent ∙ rw is

module _ (s : Store) (w : Well s) (name : List (List ℕ)) (spelled : is_syllable (last name) ≡ true) where
  abbrev dir : List ℕ
  dir = (s.file (parent s name)).bytes

  module _ (some : 0 < length name) (there : missing s name ≡ false) where
    its_directory : is_directory s (parent s name) ≡ true
    its_directory = parent-directory s name some (missing_some s name there)

    is_in : named s name ≡ in_directory dir (last name)
    is_in = named-within-parent s name some its_directory

    at_named : record_for s name ≡ record_named dir (last name)
    unfolding record_for
    at_named = rw there

    found : record_named dir (last name) < record_count dir
    found = in_some dir (last name) (λ z. missing_some s name there (is_in ∙ z))

    pub standing : Standing s name
    standing =
        let r = found_record s w (parent s name) its_directory (last name) spelled found in
        let has = named_has dir (last name) found in
        let is : (entry_at dir (record_named dir (last name))).file ≡ named s name = sym (is_in ∙ in_found dir (last name) found) in
        record {
          place = record {
            spelled = spelled;
            directory = its_directory;
            whole = directory-length s w (parent s name) its_directory;
            file = rw at_named is;
            own = rw at_named (λ z. has);
            within = rw at_named (omega (arith, found));
            others = rw at_named (λ j h n. only s w (parent s name) its_directory (last name) spelled (record_named dir (last name)) j found h (λ e. n (sym e)) has);
          };
          there = rw at_named found;
          name = rw at_named has;
          written = rw at_named (not_blank dir (record_named dir (last name)) (last name) spelled has);
          is_in_use = rw is at r.is_in_use;
          not_root = rw is at r.not_root;
        }

  module _ (gone : missing s name ≡ true) (here : nowhere s name ≡ false) where
    new-directory : is_directory s (parent s name) ≡ true
    unfolding nowhere parent
    new-directory = go (is_directory s (named s (front name))) refl
      where
        go : (t : Bool) → is_directory s (named s (front name)) ≡ t → t ≡ true
        go true e = refl
        go false e = absurd (true≢false (sym (rw (gone, e)) ∙ here))

    at_new : record_for s name ≡ record_for_new dir
    unfolding record_for
    at_new = rw gone

    not_there : in_directory dir (last name) ≡ 0
    not_there =
        let none = missing_none s name gone in
        sym (named-within-parent s name (some_syllable s name (λ (e : named s name ≡ root). absurd (omega arith))) new-directory) ∙ none

    none_has : (j : ℕ) → j < record_count dir → (entry_at dir j).name ≢ last name
    none_has j h e =
        let past = no_record s w (parent s name) new-directory (last name) spelled not_there in
        true≢false (sym (is_same (entry_at dir j).name (last name) e) ∙ named-first dir (last name) j (omega arith))

    new_blank : is_blank dir (record_for_new dir) ≡ true
    unfolding record_for_new
    new_blank =
        ⊎_elim
        (λ (h : record_for_new dir < record_count dir). lowest_hit (record_count dir) (λ i. is_blank dir i) h)
        (λ (h : record_count dir ≤ record_for_new dir). past_blank dir (record_for_new dir) (omega (arith, directory-length s w (parent s name) new-directory)))
        (lt_or_ge (record_for_new dir) (record_count dir))

    new-within : record_for_new dir ≤ record_count dir
    unfolding record_for_new
    new-within = lowest-within (record_count dir) (λ i. is_blank dir i)

    pub vacant : Vacant s name
    vacant =
        record {
          place = record {
            spelled = spelled;
            directory = new-directory;
            whole = directory-length s w (parent s name) new-directory;
            file = rw at_new (blank_file dir (record_for_new dir) new_blank ∙ sym (missing_none s name gone));
            own = λ there. absurd (there (missing_none s name gone));
            within = rw at_new new-within;
            others = λ j h n. none_has j h;
          };
          none = missing_none s name gone;
          blank = rw at_new new_blank;
          fresh = none_has;
        }
