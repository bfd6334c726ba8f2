-- Every directory of a well-formed store has a name, and one only; so has every file that a record names.
use Rattle.std.specs.Prelude.{ℕ, zero, suc, ◌+◌, ◌-◌, ◌<◌, ◌≡◌, refl, ◌≢◌, List, [], ◌∷◌, ◌++◌, true, false, length}
use Rattle.std.proofs.Common.{ap, ap₂, sym, ◌∙◌, ⊎_elim, true≢false, arith, length-take}
use Rattle.records.specs.Tests.{same_or_not, not_so}
use Rattle.names.specs.SameLaws.{is_same}
use Rattle.meaning.specs.Name.{record_count, is_blank, entry_at, record_named, in_directory}
use Rattle.meaning.specs.Store.{Store, root, is_directory, within, named, front, last, names}
use Rattle.soundness.specs.Use.{directory_used}
use Rattle.soundness.specs.Well.{Well}
use Rattle.soundness.specs.WellFacts.{blank_file, root-depth}
use Rattle.lookup.specs.Walk.{named_more, front-last}
use Rattle.trees.specs.Records.{named_is, in_found}
use Rattle.trees.proofs.Lookups.{within_is, named_cong}
use Rattle.trees.specs.Standing.{named_empty}
use Rattle.trees.proofs.Depth.{named-depth}
use Rattle.source.specs.Naming.{NAME}
use Rattle.source.specs.NamedBy.{Names, its_record, record_of_lem, one-directory, one_record}

-- ---- a store in which every directory has a name, and each record that names a file is the record of its name

pub record Tree (s : Store) : Type 0 where
  pub reached : (d : ℕ) → is_directory s d ≡ true → (name : NAME) × (named s name ≡ d)
  pub own : (d i : ℕ) → is_directory s d ≡ true → i < record_count (s.file d).bytes → (entry_at (s.file d).bytes i).file ≢ 0
      → record_named (s.file d).bytes (entry_at (s.file d).bytes i).name ≡ i

-- what the record of a name names
pub found_by : (dir : List ℕ) (i : ℕ) → i < record_count dir → record_named dir (entry_at dir i).name ≡ i → in_directory dir (entry_at dir i).name ≡ (entry_at dir i).file
found_by dir i h at = in_found dir (entry_at dir i).name (rw at h) ∙ ap (λ (k : ℕ). (entry_at dir k).file) at

-- what a record of a directory that has a name names has a name
record_reached : (s : Store) (f : ℕ) (r : Names s f) → record_named (s.file r.d).bytes (entry_at (s.file r.d).bytes r.i).name ≡ r.i
    → (name : NAME) × (named s name ≡ r.d) → (name : NAME) × (named s name ≡ f)
record_reached s f r own (name, at) =
    let dir = (s.file r.d).bytes in
    let syllable = (entry_at dir r.i).name in (
      name ++ syllable ∷ [],
      named_more s name syllable ∙ ap (λ (e : ℕ). within s e syllable) at ∙ within_is s r.d syllable r.directory ∙ found_by dir r.i r.within own ∙ r.file,
    )

pub name_of : (s : Store) → Tree s → (f : ℕ) → f ≢ 0 → 0 < names s f → (name : NAME) × (named s name ≡ f)
name_of s t f there h =
    let r = its_record s f h in
    record_reached s f r (t.own r.d r.i r.directory r.within (λ z. there (sym r.file ∙ z))) (t.reached r.d r.directory)

-- a store with the same directories is one too
pub same_tree : (s s' : Store) → ((d : ℕ) → is_directory s' d ≡ is_directory s d) → ((d : ℕ) → is_directory s d ≡ true → (s'.file d).bytes ≡ (s.file d).bytes)
    → Tree s → Tree s'
same_tree s s' dirs bytes t =
    record {
      reached = λ d is.
          let (name, at) = t.reached d (sym (dirs d) ∙ is) in
          (name, named_cong s s' dirs bytes name ∙ at);
      own = λ d i is h there. owns d (bytes d (sym (dirs d) ∙ is)) i (sym (dirs d) ∙ is) h there;
    }
  where
    owns : (d : ℕ) → (s'.file d).bytes ≡ (s.file d).bytes → (i : ℕ) → is_directory s d ≡ true → i < record_count (s'.file d).bytes → (entry_at (s'.file d).bytes i).file ≢ 0
        → record_named (s'.file d).bytes (entry_at (s'.file d).bytes i).name ≡ i
    owns d e i is h there = rw e (t.own d i is (rw e at h) (rw e at there))

-- ---- a well-formed store

module _ (s : Store) (w : Well s) where
  own_record : (d i : ℕ) → is_directory s d ≡ true → i < record_count (s.file d).bytes → (entry_at (s.file d).bytes i).file ≢ 0
      → record_named (s.file d).bytes (entry_at (s.file d).bytes i).name ≡ i
  own_record d i is h there =
      let dir = (s.file d).bytes in
      let name = (entry_at dir i).name in
      let used : is_blank dir i ≡ false = not_so (is_blank dir i) (λ b. there (blank_file dir i b)) in
      named_is dir name i (omega arith)
      (λ j (l : j < i) (e : (entry_at dir j).name ≡ name). true≢false (sym (is_same (entry_at dir j).name name e) ∙ w.distinct d j i is l h used))
      (λ l. refl)

  -- from the root down
  by_depth : (n d : ℕ) → is_directory s d ≡ true → (s.file d).depth < n → (name : NAME) × (named s name ≡ d)
  by_depth zero d is h = absurd (omega arith)
  by_depth (suc n) d is h =
      ⊎_elim
      (λ (e : d ≡ root). ([], named_empty s ∙ sym e))
      (λ (other : d ≢ root).
      let r = its_record s d (omega (arith, w.once d is other)) in
      let deeper : (s.file d).depth ≡ (s.file r.d).depth + 1 = rw r.file at (w.deeper r.d r.i r.directory r.within (rw r.file is)) in
      let there : (entry_at (s.file r.d).bytes r.i).file ≢ 0 = λ z. omega (arith, (directory_used s d is).some, r.file) in
      record_reached s d r (own_record r.d r.i r.directory r.within there) (by_depth n r.d r.directory (omega arith)))
      (same_or_not d root)

  pub well_tree : Tree s
  well_tree = record { reached = λ d is. by_depth (suc (s.file d).depth) d is (omega arith); own = own_record }

  -- ---- a directory has one name

  empty : (name : NAME) → length name ≡ 0 → name ≡ []
  empty [] e = refl
  empty (x ∷ name) e = absurd (omega arith)

  -- two names of one directory, not the root: their directories are one, and their last syllables
  module _ (a b : NAME) (more : 0 < length a) (also : 0 < length b) (is : is_directory s (named s a) ≡ true) (e : named s a ≡ named s b)
      (shorter : is_directory s (named s (front a)) ≡ true → named s (front a) ≡ named s (front b) → front a ≡ front b) where
    abbrev f : ℕ
    f = named s a

    there : f ≢ 0
    there z = omega (arith, (directory_used s f is).some)

    other : f ≢ root
    other z =
        let u = directory_used s f is in
        let depth : (s.file f).depth ≡ 0 = ap (λ (g : ℕ). (s.file g).depth) z ∙ root-depth s w (omega arith) in
        omega (arith, named-depth s w a is)

    by_front : a ≡ b
    by_front =
        let (r, r-in, r_last) = record_of_lem s f a more refl there in
        let (q, q-in, q-last) = record_of_lem s f b also (sym e) there in
        let once = w.once f is other in
        let dirs : named s (front a) ≡ named s (front b) = sym r-in ∙ one-directory s f once r q ∙ q-in in
        let lasts : last a ≡ last b =
        sym r_last ∙ ap₂ (λ (d i : ℕ). (entry_at (s.file d).bytes i).name) (one-directory s f once r q) (one_record s f once r q) ∙ q-last in
        let fronts : front a ≡ front b = shorter (rw r-in at r.directory) dirs in
        front-last a more ∙ ap₂ (λ (l : NAME) (x : List ℕ). l ++ x ∷ []) fronts lasts ∙ sym (front-last b also)

  by_length : (k : ℕ) (a b : NAME) → length a < k → is_directory s (named s a) ≡ true → named s a ≡ named s b → a ≡ b
  by_length zero a b h is e = absurd (omega arith)
  by_length (suc k) a b h is e =
      let lengths : length a ≡ length b = sym (named-depth s w a is) ∙ ap (λ (f : ℕ). (s.file f).depth) e ∙ named-depth s w b (rw e at is) in
      ⊎_elim
      (λ (z : length a ≡ 0). empty a z ∙ sym (empty b (sym lengths ∙ z)))
      (λ (some : length a ≢ 0). by_front a b (omega arith) (omega arith) is e (by_length k (front a) (front b) (omega (arith, length-take (length a - 1) a))))
      (same_or_not (length a) 0)

  pub one_name : (a b : NAME) → is_directory s (named s a) ≡ true → named s a ≡ named s b → a ≡ b
  one_name a b is e = by_length (suc (length a)) a b (omega arith) is e
