-- A store in which one file changes, and one in which one channel does: what stays.
use Rattle.std.specs.Prelude.{ℕ, ◌≡◌, ◌≢◌, eqb}
use Rattle.std.proofs.Math.Path.{refl, fun_ext}
use Rattle.std.proofs.Common.{sym, ◌∙◌, ⊎_elim, eq-eqb, ne_eqb}
use Rattle.records.specs.Rows.{pick}
use Rattle.records.specs.Tests.{same_or_not}
use Rattle.meaning.specs.Store.{Store, File, Channel, file, channel, after, in_use, is_directory, held}

module _ (s : Store) (f : ℕ) (x : File) where
  pub file_changed : (after s (file f x)).file f ≡ x
  unfolding after
  file_changed = rw (eq-eqb f f refl)

  pub file-other : (g : ℕ) → g ≢ f → (after s (file f x)).file g ≡ s.file g
  unfolding after
  file-other g d = rw (ne_eqb g f d)

  pub held-file : (g : ℕ) → held (after s (file f x)) g ≡ held s g
  unfolding after held
  held-file g = refl

-- two files changed, in either order
pub files_swap : (s : Store) (f g : ℕ) (x y : File) → f ≢ g → after (after s (file f x)) (file g y) ≡ after (after s (file g y)) (file f x)
unfolding after
files_swap s f g x y n =
    λ i. record {
      block_count = s.block_count;
      file_count = s.file_count;
      channel_count = s.channel_count;
      file = fun_ext go i;
      channel = s.channel;
    }
  where
    go : (h : ℕ) → pick (eqb h g) y (pick (eqb h f) x (s.file h)) ≡ pick (eqb h f) x (pick (eqb h g) y (s.file h))
    go h =
        ⊎_elim
        (λ (e : h ≡ f). rw (ne_eqb h g (λ q. n (sym e ∙ q)), eq-eqb h f e))
        (λ (o : h ≢ f). rw (ne_eqb h f o))
        (same_or_not h f)

module _ (s : Store) (c : ℕ) (y : Channel) where
  pub channel_changed : (after s (channel c y)).channel c ≡ y
  unfolding after
  channel_changed = rw (eq-eqb c c refl)

  pub channel_other : (d : ℕ) → d ≢ c → (after s (channel c y)).channel d ≡ s.channel d
  unfolding after
  channel_other d n = rw (ne_eqb d c n)

-- two stores with as many files and the same kind at f
module _ (s s' : Store) (counts : s'.file_count ≡ s.file_count) (f : ℕ) (kind : (s'.file f).kind ≡ (s.file f).kind) where
  pub same_use : in_use s' f ≡ in_use s f
  unfolding in_use
  same_use = rw (counts, kind)

  pub same-directory : is_directory s' f ≡ is_directory s f
  unfolding is_directory
  same-directory = rw (same_use, kind)
