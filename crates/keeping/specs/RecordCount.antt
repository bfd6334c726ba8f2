-- A record of a directory is written, added or blanked: its file gets a name, and the file that it named before has one less.
-- Every file but that one has the names that it needs.
use Rattle.std.specs.Prelude.{ℕ, ◌+◌, ◌<◌, ◌≡◌, ◌≢◌, List, true, eqb}
use Rattle.std.proofs.Common.{ap, sym, ◌∙◌, inl, inr, ⊎_elim, arith, eq-eqb, ne_eqb}
use Rattle.records.specs.Rows.{tally}
use Rattle.records.specs.Tests.{same_or_not}
use Rattle.meaning.specs.Name.{entry_in, entry_at}
use Rattle.meaning.specs.Store.{Store, in_use, is_directory, names, held}
use Rattle.soundness.specs.Use.{used, directory_used}
use Rattle.trees.specs.Rewrite.{Rewriting, with_record, use_same, directory-same, held_same, names-after}
use Rattle.keeping.specs.Shape.{Counted}

-- r's file may lack a name before; if it is a directory, it has none
module _ (s : Store) (d i : ℕ) (r : List ℕ) (w : Rewriting s d i r)
    (count : Counted (entry_in r).file s) (first : is_directory s (entry_in r).file ≡ true → names s (entry_in r).file ≡ 0) where
  -- every other file has as many as before, and r's file one more
  names_then : (f : ℕ) → f ≢ (entry_at (s.file d).bytes i).file → f ≢ 0 → names (with_record s d i r) f ≡ names s f + tally (eqb (entry_in r).file f)
  names_then f o some =
      let none : tally (eqb (entry_at (s.file d).bytes i).file f) ≡ 0 = ap tally (ne_eqb (entry_at (s.file d).bytes i).file f (λ e. o (sym e))) in
      omega (arith, names-after s d i r w f some)

  pub counted_record : Counted (entry_at (s.file d).bytes i).file (with_record s d i r)
  counted_record =
      record {
        once = λ f o is other.
            let was : is_directory s f ≡ true = sym (directory-same s d i r w f) ∙ is in
            let u = directory_used s f was in
            let now = names_then f o (omega (arith, u.some)) in
            ⊎_elim
            (λ (e : f ≡ (entry_in r).file).
            let one : tally (eqb (entry_in r).file f) ≡ 1 = ap tally (eq-eqb (entry_in r).file f (sym e)) in
            let none : names s f ≡ 0 = rw e (first (rw e at was)) in
            omega arith)
            (λ (e : f ≢ (entry_in r).file).
            let no_more : tally (eqb (entry_in r).file f) ≡ 0 = ap tally (ne_eqb (entry_in r).file f (λ q. e (sym q))) in
            let one : names s f ≡ 1 = count.once f e was other in
            omega arith)
            (same_or_not f (entry_in r).file);
        kept = λ f o is plain.
            let was : in_use s f ≡ true = sym (use_same s d i r w f) ∙ is in
            let u = used s f was in
            let now = names_then f o (omega (arith, u.some)) in
            ⊎_elim
            (λ (e : f ≡ (entry_in r).file).
            let one : tally (eqb (entry_in r).file f) ≡ 1 = ap tally (eq-eqb (entry_in r).file f (sym e)) in
            inl (omega arith))
            (λ (e : f ≢ (entry_in r).file). ⊎_elim
            (λ (m : 0 < names s f). inl (omega arith))
            (λ (m : held s f ≡ true). inr (held_same s d i r w f ∙ m))
            (count.kept f e was (sym (directory-same s d i r w f) ∙ plain)))
            (same_or_not f (entry_in r).file);
      }
