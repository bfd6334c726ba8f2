-- What goes with the new name, by numbers: in link, and where a move takes the old one.
use Rattle.std.specs.Prelude.{ℕ, zero, suc, ◌<◌, ◌≡◌, refl, [], ◌∷◌, Bool, true, false, not, ◌&&◌, eqb, Option, Some, None}
use Rattle.std.proofs.Common.{ap, arith, ne_eqb}
use Rattle.records.specs.Rows.{pick}
use Rattle.meaning.specs.Store.{Store, file, no_file, names, held}
use Rattle.meaning.specs.Types.{file_numbered}
use Rattle.meaning.specs.declared.FileNo.{FileNo}
use Rattle.counts.specs.Gone.{gone_with}
use Rattle.linking.specs.Act.{unlike, like, freed}

-- g is a file with one name and no channel
unfoldable pub lone : Store → ℕ → Bool
lone s g = not (eqb g 0) && (eqb (names s g) 1 && not (held s g))

abbrev numbered : ℕ → FileNo
numbered g = record { 0 = g }

-- a file goes with its name where it is alone
pub gone_lone : (s : Store) (g : ℕ) → file_numbered (gone_with s g) ≡ pick (lone s g) (Some (numbered g)) None
unfolding gone_with lone file_numbered
gone_lone s g = go g (eqb (names s g) 1 && not (held s g))
  where
    go : (g : ℕ) (b : Bool) → file_numbered (pick b g 0) ≡ pick (not (eqb g 0) && b) (Some (numbered g)) None
    go zero true = refl
    go zero false = refl
    go (suc r) true = rw (ne_eqb (suc r) 0 (omega arith))
    go (suc r) false = rw (ne_eqb (suc r) 0 (omega arith))

module _ (s : Store) (g : ℕ) (gone : Option FileNo) (is : gone ≡ file_numbered (gone_with s g)) (f : FileNo) where
  -- unless it is file f, or where it is f
  pub freed_unlike : freed (unlike f gone) ≡ pick (lone s g && not (eqb g f.0)) (file g no_file ∷ []) []
  freed_unlike = rw (is, gone_lone s g) (go (lone s g))
    where
      at_test : (t : Bool) → freed (pick t None (Some (numbered g))) ≡ pick (not t) (file g no_file ∷ []) []
      at_test true = refl
      at_test false = refl

      go : (l : Bool) → freed (unlike f (pick l (Some (numbered g)) None)) ≡ pick (l && not (eqb g f.0)) (file g no_file ∷ []) []
      go true = at_test (eqb g f.0)
      go false = refl

  pub freed_like : freed (like f gone) ≡ pick (lone s g && eqb g f.0) (file f.0 no_file ∷ []) []
  freed_like = rw (is, gone_lone s g) (go (lone s g))
    where
      at_test : (t : Bool) → freed (pick t (Some f) None) ≡ pick t (file f.0 no_file ∷ []) []
      at_test true = refl
      at_test false = refl

      go : (l : Bool) → freed (like f (pick l (Some (numbered g)) None)) ≡ pick (l && eqb g f.0) (file f.0 no_file ∷ []) []
      go true = at_test (eqb g f.0)
      go false = refl

-- the file that goes, where one does
module _ (f : FileNo) where
  pub unlike_some : (x : Option FileNo) (g : FileNo) → unlike f x ≡ Some g → x ≡ Some g
  unlike_some None g e = e
  unlike_some (Some h) g e = go (eqb h.0 f.0) e
    where
      go : (t : Bool) → pick t None (Some h) ≡ Some g → Some h ≡ Some g
      go true e = let z : ◌≡◌ {A = ℕ} 0 1 = cc in absurd (omega arith)
      go false e = e

  pub like_some : (x : Option FileNo) (g : FileNo) → like f x ≡ Some g → g.0 ≡ f.0
  like_some None g e = let z : ◌≡◌ {A = ℕ} 0 1 = cc in absurd (omega arith)
  like_some (Some h) g e = go (eqb h.0 f.0) e
    where
      go : (t : Bool) → pick t (Some f) None ≡ Some g → g.0 ≡ f.0
      go true e = let same : g ≡ f = cc in ap (λ (x : FileNo). x.0) same
      go false e = let z : ◌≡◌ {A = ℕ} 0 1 = cc in absurd (omega arith)

pub gone_same : (s : Store) (g : ℕ) → 0 < gone_with s g → gone_with s g ≡ g
unfolding gone_with
gone_same s g = go (eqb (names s g) 1 && not (held s g))
  where
    go : (b : Bool) → 0 < pick b g 0 → pick b g 0 ≡ g
    go true h = refl
    go false h = absurd (omega arith)
