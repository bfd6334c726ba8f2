-- What names stand for where a name is given to a file, or taken: that name, and every other.
use Rattle.std.specs.Prelude.{ℕ, ◌<◌, ◌≡◌, ◌≢◌, List, true, false, length}
use Rattle.std.proofs.Math.Path.{refl, ap, sym}
use Rattle.std.proofs.Common.{◌∙◌, ⊎_elim, true≢false, arith}
use Rattle.records.specs.Tests.{tested, same_or_not}
use Rattle.meaning.specs.Name.{Entry, entry, same, is_syllable, written, entry_in, blank_record, record_count, entry_at, record_named, in_directory}
use Rattle.meaning.specs.Store.{Store, is_directory, named, last}
use Rattle.meaning.specs.NameCalls.{parent, record_for, naming, unnaming}
use Rattle.names.specs.SameLaws.{same_is, is_same}
use Rattle.soundness.specs.Well.{Well}
use Rattle.trees.specs.Records.{named_has, in_found, in_some}
use Rattle.trees.specs.Rewrite.{with_record}
use Rattle.trees.specs.Entries.{not_empty}
use Rattle.trees.specs.Standing.{Place, parent-directory, named-within-parent}
use Rattle.trees.specs.Lookups.{KeepsDirectories}
use Rattle.trees.proofs.Lookups.{named_elsewhere, named_own_record, named-other_record, named_no_record}
use Rattle.trees.specs.Naming.{with_name, without_name, blank_entry, naming-entry, naming_keeps, unnaming_keeps}

-- ---- the record of name n is to be r; m is another name that stands for something

module _ (s : Store) (n : List (List ℕ)) (p : Place s n) (r : List ℕ) (k : KeepsDirectories s (parent s n) (record_for s n) r)
    (m : List (List ℕ)) (more : 0 < length m) (there : named s m ≢ 0)
    (apart : parent s m ≡ parent s n → last m ≢ last n) (other : parent s m ≡ parent s n → (entry_in r).name ≢ last m) where
  abbrev dir : List ℕ
  dir = (s.file (parent s n)).bytes

  m_directory : is_directory s (parent s m) ≡ true
  m_directory = parent-directory s m more there

  module _ (here : parent s m ≡ parent s n) where
    m_in : named s m ≡ in_directory dir (last m)
    m_in = named-within-parent s m more m_directory ∙ ap (λ (d : ℕ). in_directory (s.file d).bytes (last m)) here

    m_found : record_named dir (last m) < record_count dir
    m_found = in_some dir (last m) (λ z. there (m_in ∙ z))

    -- its record is not n's
    m_other : record_named dir (last m) ≢ record_for s n
    m_other e =
        let is-n : named s m ≡ named s n = m_in ∙ in_found dir (last m) m_found ∙ ap (λ (j : ℕ). (entry_at dir j).file) e ∙ p.file in
        let own = p.own (λ z. there (is-n ∙ z)) in
        apart here (sym (named_has dir (last m) m_found) ∙ ap (λ (j : ℕ). (entry_at dir j).name) e ∙ own)

  other_kept : named (with_record s (parent s n) (record_for s n) r) m ≡ named s m
  other_kept =
      ⊎_elim
      (λ (here : parent s m ≡ parent s n). named-other_record s (parent s n) (record_for s n) r k m more m_directory here (m_found here) (m_other here) (other here))
      (λ (away : parent s m ≢ parent s n). named_elsewhere s (parent s n) (record_for s n) r k m more m_directory away)
      (same_or_not (parent s m) (parent s n))

-- ---- n is given to file f

module _ (s : Store) (n : List (List ℕ)) (p : Place s n) (f : ℕ) (small : f < 65536) (plain : is_directory s (named s n) ≡ false) where
  abbrev r : List ℕ
  r = written (entry f (last n))

  keeps : KeepsDirectories s (parent s n) (record_for s n) r
  keeps = naming_keeps s n p f small plain

  is_last : (entry_in r).name ≡ last n
  is_last = ap (λ (e : Entry). e.name) (naming-entry s n p f small)

  -- a name m with n's record is n
  own_record : (m : List (List ℕ)) → 0 < length m → parent s m ≡ parent s n → last m ≡ last n → named (with_name s n f) m ≡ f
  unfolding naming
  own_record m more here e =
      named_own_record s (parent s n) (record_for s n) r keeps m more (rw here p.directory) here
      (λ j h. rw is_last (p.others j (omega (arith, p.within)) (omega arith)))
      (e ∙ sym is_last)
      ∙ ap (λ (e : Entry). e.file) (naming-entry s n p f small)

  pub named-given : 0 < length n → named (with_name s n f) n ≡ f
  named-given more = own_record n more refl refl

  pub named_beside : (m : List (List ℕ)) → 0 < length m → named s m ≢ 0 → (parent s m ≡ parent s n → last m ≢ last n) → named (with_name s n f) m ≡ named s m
  unfolding naming
  named_beside m more there apart = other_kept s n p r keeps m more there apart (λ here e. apart here (sym e ∙ is_last))

  -- so every name of f goes on standing for f
  pub named_still : (m : List (List ℕ)) → 0 < length m → named s m ≡ f → f ≢ 0 → named (with_name s n f) m ≡ f
  named_still m more e some =
      ⊎_elim
      (λ (here : parent s m ≡ parent s n). ⊎_elim
      (λ (t : same (last m) (last n) ≡ true). own_record m more here (same_is (last m) (last n) t))
      (λ (t : same (last m) (last n) ≡ false). named_beside m more (λ z. some (sym e ∙ z)) (λ h q. true≢false (sym (is_same (last m) (last n) q) ∙ t)) ∙ e)
      (tested (same (last m) (last n))))
      (λ (away : parent s m ≢ parent s n). named_beside m more (λ z. some (sym e ∙ z)) (λ h. absurd (away h)) ∙ e)
      (same_or_not (parent s m) (parent s n))

-- ---- n is taken

module _ (s : Store) (w : Well s) (n : List (List ℕ)) (p : Place s n) (plain : is_directory s (named s n) ≡ false) where
  pub named-taken : 0 < length n → named (without_name s n) n ≡ 0
  unfolding unnaming
  named-taken more =
      named_no_record s (parent s n) (record_for s n) blank_record (unnaming_keeps s n p w plain) n more p.directory refl p.others
      (rw blank_entry (λ e. not_empty (last n) p.spelled (sym e)))

  pub named-left : (m : List (List ℕ)) → 0 < length m → is_syllable (last m) ≡ true → named s m ≢ 0 → (parent s m ≡ parent s n → last m ≢ last n)
      → named (without_name s n) m ≡ named s m
  unfolding unnaming
  named-left m more spelled there apart =
      other_kept s n p blank_record (unnaming_keeps s n p w plain) m more there apart (rw blank_entry (λ here e. not_empty (last m) spelled (sym e)))
