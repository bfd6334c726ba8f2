-- The store that link leaves: the old name stands for its file as before, so a move's unlink finds it.
use Rattle.std.specs.Prelude.{ℕ, ◌<◌, ◌≡◌, refl, ◌≢◌, List, ◌∷◌, false, length}
use Rattle.std.proofs.Common.{sym, ◌∙◌}
use borrow.Author.Tests.{ne_eqb}
use Rattle.meaning.specs.Name.{entry, written}
use Rattle.meaning.specs.Store.{Store, file, after_all, is_directory, named, let_go, last}
use Rattle.meaning.specs.Result.{missing}
use Rattle.meaning.specs.NameCalls.{parent, record_for, naming}
use Rattle.trees.specs.Rewrite.{directory-same}
use Rattle.trees.specs.Standing.{Place}
use Rattle.trees.specs.Naming.{with_name, naming-rewrites}
use Rattle.trees.proofs.Given.{named_still}
use Rattle.trees.proofs.LetGo.{let_going, let_go_directory, let_go_named}

-- name `to` given to file f, and what it stood for let go
abbrev pub linked : Store → List (List ℕ) → ℕ → Store
linked s to f = let_going (with_name s to f) (named s to)

pub linked_is : (s : Store) (to : List (List ℕ)) (f : ℕ)
    → after_all s (file (parent s to) (naming s to f) ∷ let_go (with_name s to f) (named s to)) ≡ linked s to f
unfolding after_all
linked_is s to f = refl

module _ (s : Store) (to : List (List ℕ)) (p : Place s to) (f : ℕ) (small : f < 65536) where
  -- every directory stays one
  pub linked-directory : (g : ℕ) → is_directory (linked s to f) g ≡ is_directory s g
  unfolding naming
  linked-directory g =
      let_go_directory (with_name s to f) (named s to) g
      ∙ directory-same s (parent s to) (record_for s to) (written (entry f (last to))) (naming-rewrites s to p f small) g

  -- every name of f goes on standing for f
  module _ (plain : is_directory s (named s to) ≡ false) (from : List (List ℕ)) (more : 0 < length from) (is : named s from ≡ f) (some : f ≢ 0) where
    pub linked-named : named (linked s to f) from ≡ f
    linked-named = let_go_named (with_name s to f) (named s to) from ∙ named_still s to p f small plain from more is some

    pub linked_there : missing (linked s to f) from ≡ false
    unfolding missing
    linked_there = ne_eqb (named (linked s to f) from) 0 (λ z. some (sym linked-named ∙ z))
