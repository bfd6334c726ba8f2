-- The root has no syllable; else the directory is looked up by all syllables but the last, and the file there by the last.
use Rattle.std.specs.Prelude.{ℕ, ◌≡◌, ◌≢◌, ◌-◌, List, Bool, true, false, not, length, Option, Some, None}
use Rattle.std.proofs.Common.{ap, sym, ◌∙◌}
use borrow.Author.Tests.{not-true, not-false}
use Rattle.meaning.specs.Name.{syllables}
use Rattle.meaning.specs.Store.{Store, root, is_directory, in_use, within}
use Rattle.meaning.specs.Types.{file_numbered, some_is, none_is}
use Rattle.meaning.specs.declared.FileNo.{FileNo}
use Rattle.names.specs.FormLaws.{Counted}
use Rattle.names.specs.Syllables.{part, syllables_from, last_start}
use Rattle.soundness.specs.Seen.{files_store}
use Rattle.lookup.specs.Walk.{walk}
use Rattle.lookup.specs.Filed.{filed, directory_here}
use Rattle.naming.specs.Located.{Locates}
use Rattle.naming.specs.LocateLaws.{reaches_front, at-root, at_nowhere, at_new, at_old}
use Rattle.naming.specs.declared.Located.TheVariants.{Nowhere, New, Old}
use Rattle.naming.proofs.locate.Goals as goal

no_directory : (s : Store) (d : ℕ) → d ≡ 0 → is_directory s d ≡ false
unfolding is_directory in_use
no_directory s d e = rw e

module _ (b br fr bytes : List ℕ) (k : ℕ) (c : Counted (syllables bytes) k) (some' : k ≢ 0)
    (x : Option FileNo) (walked : x ≡ file_numbered (walk (filed b br fr) root (syllables_from bytes 1 (k - 1)))) where
  abbrev s : Store
  s = filed b br fr

  nothing : x ≡ None → Locates s bytes (Nowhere None)
  nothing e = at_nowhere bytes k c s some' (no_directory s _ (none_is x _ walked e)) None (sym e ∙ walked)

  module _ (d : FileNo) (e : x ≡ Some d) (v : Bool) (tells : v ≡ is_directory (files_store fr) d.0) where
    in_d : d.0 ≡ walk s root (syllables_from bytes 1 (k - 1))
    in_d = (some_is x _ walked d e).1

    no_directory_there : not v ≡ true → Locates s bytes (Nowhere (Some d))
    no_directory_there n = at_nowhere bytes k c s some' (ap (is_directory s) (sym in_d) ∙ directory_here b br fr d.0 ∙ sym tells ∙ not-true v n) (Some d) (sym e ∙ walked)

    module _ (n : not v ≡ false) (syllable : List ℕ) (last : syllable ≡ part bytes (last_start bytes) (length bytes))
        (y : Option FileNo) (found : y ≡ file_numbered (within s d.0 syllable)) where
      there : is_directory s d.0 ≡ true
      there = directory_here b br fr d.0 ∙ sym tells ∙ not-false v n

      new : y ≡ None → Locates s bytes (New d)
      new none = at_new bytes k c s some' d in_d there (ap (within s d.0) (sym last) ∙ none_is y _ found none)

      old : (f : FileNo) → y ≡ Some f → Locates s bytes (Old d f)
      old f is =
          let facts = some_is y _ found f is in
          at_old bytes k c s some' d in_d there f (rw (sym facts.1) at facts.0) (facts.1 ∙ ap (within s d.0) last)

pub returns-then-k-eq0 : goal.returns-then-k-eq0
returns-then-k-eq0 c = at-root _ _ c.requires.k_counted _ c.if-k-eq0.true

pub lookup-requires : goal.lookup-requires
lookup-requires c = (c.requires.shelves, reaches_front _ _ c.requires.k_counted)

pub returns-in_default : goal.returns-in_default
returns-in_default c = nothing _ _ _ _ _ c.requires.k_counted c.if-k-eq0.false _ c.lookup.ensures c.in_default.is

pub returns-then-not-is_directory : goal.returns-then-not-is_directory
returns-then-not-is_directory c =
    no_directory_there _ _ _ _ _ c.requires.k_counted c.if-k-eq0.false _ c.lookup.ensures _ c.in-Some.is _ c.is_directory.ensures (ap not c.if-not-is_directory.true)

pub returns-in-Some-look_in : goal.returns-in-Some-look_in
returns-in-Some-look_in c =
    old _ _ _ _ _ c.requires.k_counted c.if-k-eq0.false _ c.lookup.ensures _ c.in-Some.is _ c.is_directory.ensures (ap not c.if-not-is_directory.false)
    _ c.last_syllable.ensures _ c.look_in.ensures _ c.in-Some-look_in.is

pub returns-in-None : goal.returns-in-None
returns-in-None c =
    new _ _ _ _ _ c.requires.k_counted c.if-k-eq0.false _ c.lookup.ensures _ c.in-Some.is _ c.is_directory.ensures (ap not c.if-not-is_directory.false)
    _ c.last_syllable.ensures _ c.look_in.ensures c.in-None.is
