-- What every name stands for where the record of one name is written or blanked: that name apart, what it stood for.
use Rattle.std.specs.Prelude.{ℕ, zero, suc, ◌-◌, ◌<◌, ◌≡◌, refl, ◌≢◌, List, [], ◌∷◌, ◌++◌, true, false, length}
use Rattle.std.proofs.Common.{ap, ap₂, sym, ◌∙◌, ⊎_elim, true≢false, arith, length-take}
use Rattle.records.specs.Tests.{same_or_not, not_so}
use Rattle.meaning.specs.Name.{Entry, entry_in, record_count, is_blank, entry_at, record_named, in_directory, with_entry}
use Rattle.meaning.specs.Store.{Store, File, is_directory, within, named, front, last}
use Rattle.meaning.specs.NameCalls.{parent, record_for}
use Rattle.directories.specs.EntryLaws.{count_with, entry-same, entry_other}
use Rattle.soundness.specs.Use.{directory_used}
use Rattle.soundness.specs.Well.{Well}
use Rattle.soundness.specs.WellFacts.{blank_file}
use Rattle.lookup.specs.Walk.{named-last, front-last}
use Rattle.trees.specs.Records.{named_has, in_found, in_some, named_own, named_kept}
use Rattle.trees.specs.Rewrite.{Rewriting, with_record, own_bytes, other-file, directory-same}
use Rattle.trees.specs.Lookups.{KeepsDirectories}
use Rattle.trees.proofs.Lookups.{within-directory, within_is, named-same}
use Rattle.trees.specs.Standing.{named_empty}
use Rattle.source.specs.Naming.{NAME}
use Rattle.source.specs.Tree.{found_by, Tree, well_tree, one_name}

parent_is : (s : Store) (m : NAME) → parent s m ≡ named s (front m)
unfolding parent
parent_is s m = refl

-- two names with the same last syllable in one directory are one
pub apart_names : (s : Store) → Well s → (m n : NAME) → 0 < length m → 0 < length n → is_directory s (parent s n) ≡ true → m ≢ n → parent s m ≡ parent s n → last m ≢ last n
unfolding parent
apart_names s w m n more also is apart here e =
    let fronts : front n ≡ front m = one_name s w (front n) (front m) is (sym here) in
    apart (front-last m more ∙ ap₂ (λ (l : NAME) (x : List ℕ). l ++ x ∷ []) (sym fronts) e ∙ sym (front-last n also))

module _ (s : Store) (w : Well s) (n : NAME) (also : 0 < length n) (r : List ℕ) (k : KeepsDirectories s (parent s n) (record_for s n) r)
    (mine : (entry_in r).file ≢ 0 → (entry_in r).name ≡ last n) where
  abbrev d : ℕ
  d = parent s n

  abbrev i : ℕ
  i = record_for s n

  abbrev dir : List ℕ
  dir = (s.file d).bytes

  abbrev dir' : List ℕ
  dir' = with_entry dir i r

  abbrev s' : Store
  s' = with_record s d i r

  z : Rewriting s d i r
  z = k.rewriting

  -- another syllable that the directory now has, it had
  had : (syllable : List ℕ) → syllable ≢ last n → in_directory dir' syllable ≢ 0 → in_directory dir syllable ≡ in_directory dir' syllable
  had syllable apart there =
      let j = record_named dir' syllable in
      let found : j < record_count dir' = in_some dir' syllable there in
      let its : in_directory dir' syllable ≡ (entry_at dir' j).file = in_found dir' syllable found in
      let name : (entry_at dir' j).name ≡ syllable = named_has dir' syllable found in
      let count = count_with dir r (record_count dir) i z.whole z.size z.within in
      ⊎_elim
      (λ (e : j ≡ i).
      let own : entry_at dir' j ≡ entry_in r = ap (entry_at dir') e ∙ entry-same dir r (record_count dir) i z.whole z.size z.within in
      absurd (apart (sym name ∙ ap (λ (e : Entry). e.name) own ∙ mine (λ q. there (its ∙ ap (λ (e : Entry). e.file) own ∙ q)))))
      (λ (o : j ≢ i).
      let old : entry_at dir' j ≡ entry_at dir j = entry_other dir r (record_count dir) i z.whole z.size z.within j o in
      let within-old : j < record_count dir = omega arith in
      let was : in_directory dir' syllable ≡ (entry_at dir j).file = its ∙ ap (λ (e : Entry). e.file) old in
      let own = (well_tree s w).own d j z.directory within-old (λ q. there (was ∙ q)) in
      ap (in_directory dir) (sym name ∙ ap (λ (e : Entry). e.name) old) ∙ found_by dir j within-old own ∙ sym was)
      (same_or_not j i)

  -- and so in any directory
  had_within : (e : ℕ) (syllable : List ℕ) → (e ≡ d → syllable ≢ last n) → within s' e syllable ≢ 0 → within s e syllable ≡ within s' e syllable
  had_within e syllable apart there =
      let is : is_directory s e ≡ true = sym (directory-same s d i r z e) ∙ within-directory s' e syllable there in
      let now = within_is s' e syllable (directory-same s d i r z e ∙ is) in
      ⊎_elim
      (λ (q : e ≡ d).
      let bytes : (s'.file e).bytes ≡ dir' = ap (λ (f : ℕ). (s'.file f).bytes) q ∙ own_bytes s d i r z in
      let here : within s' e syllable ≡ in_directory dir' syllable = now ∙ ap (λ (l : List ℕ). in_directory l syllable) bytes in
      within_is s e syllable is
      ∙ ap (λ (f : ℕ). in_directory (s.file f).bytes syllable) q
      ∙ had syllable (apart q) (λ x. there (here ∙ x))
      ∙ sym here)
      (λ (o : e ≢ d).
      within_is s e syllable is ∙ ap (λ (x : File). in_directory x.bytes syllable) (sym (other-file s d i r z e o)) ∙ sym now)
      (same_or_not e d)

  -- the name itself stands for no directory
  module _ (plain : is_directory s (named s' n) ≡ false) where
    by_length : (k : ℕ) (m : NAME) → length m < k → m ≢ n → named s' m ≢ 0 → named s m ≡ named s' m
    by_length zero m h apart there = absurd (omega arith)
    by_length (suc k) [] h apart there = named_empty s ∙ sym (named_empty s')
    by_length (suc k) (x ∷ rest) h apart there =
        let m : NAME = x ∷ rest in
        let e = named s' (front m) in
        let at : named s' m ≡ within s' e (last m) = named-last s' m (omega arith) in
        let is : is_directory s e ≡ true = sym (directory-same s d i r z e) ∙ within-directory s' e (last m) (λ q. there (at ∙ q)) in
        let other : front m ≢ n = λ (q : front m ≡ n). true≢false (sym is ∙ ap (λ (l : NAME). is_directory s (named s' l)) q ∙ plain) in
        let before : named s (front m) ≡ e = by_length k (front m) (omega (arith, length-take (length m - 1) m)) other (λ q. omega (arith, (directory_used s e is).some)) in
        named-last s m (omega arith)
        ∙ ap (λ (f : ℕ). within s f (last m)) before
        ∙ had_within e (last m) (λ here. apart_names s w m n (omega arith) also z.directory apart (parent_is s m ∙ before ∙ here)) (λ q. there (at ∙ q))
        ∙ sym at

    -- every other name stands for what it stood for
    pub others_same : ((m : NAME) → 0 < length m → named s m ≢ 0 → (parent s m ≡ parent s n → last m ≢ last n) → named s' m ≡ named s m)
        → (m : NAME) → m ≢ n → named s' m ≡ named s m
    others_same kept [] apart = named_empty s' ∙ sym (named_empty s)
    others_same kept (x ∷ rest) apart =
        let m : NAME = x ∷ rest in
        ⊎_elim
        (λ (gone : named s m ≡ 0). ⊎_elim
        (λ (still : named s' m ≡ 0). still ∙ sym gone)
        (λ (there : named s' m ≢ 0). sym (by_length (suc (length m)) m (omega arith) apart there))
        (same_or_not (named s' m) 0))
        (λ (there : named s m ≢ 0). kept m (omega arith) there (apart_names s w m n (omega arith) also z.directory apart))
        (same_or_not (named s m) 0)

  -- ---- directories keep their names, and each record that names a file is still the record of its name

  module _ (first : (entry_in r).file ≢ 0 → (j : ℕ) → j < i → (entry_at dir j).name ≢ (entry_in r).name) where
    own_here : (j : ℕ) → j < record_count dir' → (entry_at dir' j).file ≢ 0 → record_named dir' (entry_at dir' j).name ≡ j
    own_here j h there =
        let count = count_with dir r (record_count dir) i z.whole z.size z.within in
        ⊎_elim
        (λ (e : j ≡ i).
        let own : entry_at dir' j ≡ entry_in r = ap (entry_at dir') e ∙ entry-same dir r (record_count dir) i z.whole z.size z.within in
        ap (λ (e : Entry). record_named dir' e.name) own
        ∙ named_own dir r (record_count dir) i z.whole z.size z.within (first (λ q. there (ap (λ (e : Entry). e.file) own ∙ q)))
        ∙ sym e)
        (λ (o : j ≢ i).
        let old : entry_at dir' j ≡ entry_at dir j = entry_other dir r (record_count dir) i z.whole z.size z.within j o in
        let below : j < record_count dir = omega arith in
        let was : (entry_at dir j).file ≢ 0 = λ q. there (ap (λ (e : Entry). e.file) old ∙ q) in
        let used : is_blank dir j ≡ false = not_so (is_blank dir j) (λ b. was (blank_file dir j b)) in
        let own : record_named dir (entry_at dir j).name ≡ j = (well_tree s w).own d j z.directory below was in
        ap (λ (e : Entry). record_named dir' e.name) old
        ∙ named_kept dir r (record_count dir) i z.whole z.size z.within (entry_at dir j).name (rw own below) (rw own o) (λ q. k.fresh j below o used (sym q))
        ∙ own)
        (same_or_not j i)

    own_after : (e j : ℕ) → is_directory s e ≡ true → j < record_count (s'.file e).bytes → (entry_at (s'.file e).bytes j).file ≢ 0
        → record_named (s'.file e).bytes (entry_at (s'.file e).bytes j).name ≡ j
    own_after e j is h there =
        ⊎_elim
        (λ (q : e ≡ d).
        let bytes : (s'.file e).bytes ≡ dir' = ap (λ (f : ℕ). (s'.file f).bytes) q ∙ own_bytes s d i r z in
        rw bytes (own_here j (rw bytes at h) (rw bytes at there)))
        (λ (o : e ≢ d).
        let bytes : (s'.file e).bytes ≡ (s.file e).bytes = ap (λ (x : File). x.bytes) (other-file s d i r z e o) in
        rw bytes ((well_tree s w).own e j is (rw bytes at h) (rw bytes at there)))
        (same_or_not e d)

    pub tree_after : Tree s'
    tree_after =
        record {
          reached = λ e is.
              let was : is_directory s e ≡ true = sym (directory-same s d i r z e) ∙ is in
              let (name, at) = (well_tree s w).reached e was in
              (name, named-same s d i r k name (rw at was) ∙ at);
          own = λ e j is. own_after e j (sym (directory-same s d i r z e) ∙ is);
        }
