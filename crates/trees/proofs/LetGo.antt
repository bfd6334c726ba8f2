-- A file let go where nothing refers to it: no directory sees it, so names stand for what they stood for.
use Rattle.std.specs.Prelude.{ℕ, ◌≡◌, ◌≢◌, List, [], ◌∷◌, Bool, not, eqb}
use Rattle.std.proofs.Math.Path.{refl, ap, sym}
use Rattle.std.proofs.Common.{◌∙◌, arith}
use Rattle.std.proofs.Math.Logic.{⊎_elim}
use Rattle.std.proofs.Math.Bool.{true, false}
use borrow.Author.Tests.{eqb-true, not-true}
use Rattle.records.specs.Rows.{pick}
use Rattle.records.specs.Tests.{same_or_not, not_so}
use Rattle.meaning.specs.Store.{Store, File, file, after, after_all, no_file, in_use, is_directory, named, names, held, is_orphan, let_go}
use Rattle.soundness.specs.Use.{four, directory-kind}
use Rattle.trees.specs.AfterFile.{file_changed, file-other, same-directory}
use Rattle.trees.proofs.Lookups.{named_cong}

-- an ordinary file with neither a name nor a channel
pub record Orphan (s : Store) (g : ℕ) : Type 0 where
  pub is_in_use : in_use s g ≡ true
  pub kind : (s.file g).kind ≡ 1
  pub unnamed : names s g ≡ 0
  pub unheld : held s g ≡ false

module _ (s : Store) (g : ℕ) where
  pub orphan : is_orphan s g ≡ true → Orphan s g
  unfolding is_orphan
  orphan e =
      let (is_in_use, kind, unnamed, unheld) = four (in_use s g) (eqb (s.file g).kind 1) (eqb (names s g) 0) (not (held s g)) e in
      record {
        is_in_use = is_in_use;
        kind = eqb-true (s.file g).kind 1 kind;
        unnamed = eqb-true (names s g) 0 unnamed;
        unheld = not-true (held s g) unheld;
      }

  -- the store then
  abbrev pub let_going : Store
  let_going = after_all s (let_go s g)

  -- either the store stays, or the orphan goes
  pub let_going_lem : (P : Store → Type 0) → (is_orphan s g ≡ false → P s) → (Orphan s g → P (after s (file g no_file))) → P let_going
  unfolding let_go after_all
  let_going_lem P stays goes = go (is_orphan s g) refl
    where
      go : (t : Bool) → is_orphan s g ≡ t → P (after_all s (pick t (file g no_file ∷ []) []))
      go true e = goes (orphan e)
      go false e = stays e

  module _ (o : Orphan s g) where
    gone_directory : (f : ℕ) → is_directory (after s (file g no_file)) f ≡ is_directory s f
    unfolding after
    gone_directory f =
        ⊎_elim
        (λ (e : f ≡ g). rw e (
        not_so (is_directory (after s (file g no_file)) g)
        (λ is. let k = directory-kind (after s (file g no_file)) g is in absurd (omega (arith, ap (λ (x : File). x.kind) (file_changed s g no_file))))
        ∙ sym (not_so (is_directory s g) (λ is. absurd (omega (arith, directory-kind s g is, o.kind))))))
        (λ (n : f ≢ g). same-directory s (after s (file g no_file)) refl f (ap (λ (x : File). x.kind) (file-other s g no_file f n)))
        (same_or_not f g)

    gone_bytes : (d : ℕ) → is_directory s d ≡ true → ((after s (file g no_file)).file d).bytes ≡ (s.file d).bytes
    gone_bytes d is =
        ap (λ (x : File). x.bytes) (file-other s g no_file d
        (λ e. let k : (s.file g).kind ≡ 2 = rw e at (directory-kind s d is) in omega (arith, o.kind)))

  pub let_go_directory : (f : ℕ) → is_directory let_going f ≡ is_directory s f
  let_go_directory f = let_going_lem (λ t. is_directory t f ≡ is_directory s f) (λ e. refl) (λ o. gone_directory o f)

  pub let_go_named : (name : List (List ℕ)) → named let_going name ≡ named s name
  let_go_named name =
      let_going_lem (λ t. named t name ≡ named s name) (λ e. refl) (λ o. named_cong s (after s (file g no_file)) (gone_directory o) (gone_bytes o) name)

  pub let_go_file : (f : ℕ) → f ≢ g → let_going.file f ≡ s.file f
  let_go_file f n = let_going_lem (λ t. t.file f ≡ s.file f) (λ e. refl) (λ o. file-other s g no_file f n)
