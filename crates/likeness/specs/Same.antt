-- Stores that differ at most in the bytes of listed ordinary files, depths included, and that changes keep them so.
use Rattle.std.specs.Prelude.{ℕ, ◌≡◌, refl, ◌≢◌, ◌⊎◌, List, [], ◌∷◌, true, false, ◌&&◌, ◌||◌, length, eqb}
use Rattle.std.proofs.Math.Path.{ap}
use Rattle.std.proofs.Common.{sym, inl, inr, true≢false, eq-eqb, ne_eqb, eqb-true}
use Rattle.std.proofs.Math.Logic.{⊎_elim}
use Rattle.records.specs.Rows.{pick}
use Rattle.records.specs.Tests.{same_or_not, either}
use Rattle.meaning.specs.Store.{Store, File, Change, file, channel, prepared, root, after, after_all}
use Rattle.likeness.specs.Alike.{Listed, rewrites}

pub record SameFile (listed : Listed) (f : ℕ) (x x' : File) : Type 0 where
  pub kind : x.kind ≡ x'.kind
  pub depth : x.depth ≡ x'.depth
  pub size : length x.bytes ≡ length x'.bytes
  pub bytes : listed f && eqb x.kind 1 ≡ false → x.bytes ≡ x'.bytes

pub record SameStore (listed : Listed) (s s' : Store) : Type 0 where
  pub blocks : s.block_count ≡ s'.block_count
  pub files : s.file_count ≡ s'.file_count
  pub channels : s.channel_count ≡ s'.channel_count
  pub root_unlisted : listed root ≡ false
  pub file : (f : ℕ) → SameFile listed f (s.file f) (s'.file f)
  pub channel : (c : ℕ) → s.channel c ≡ s'.channel c

pub equal_file : (listed : Listed) (f : ℕ) (x x' : File) → x ≡ x' → SameFile listed f x x'
equal_file listed f x x' e =
    record {
      kind = ap (λ (y : File). y.kind) e;
      depth = ap (λ (y : File). y.depth) e;
      size = ap (λ (y : File). length y.bytes) e;
      bytes = λ h. ap (λ (y : File). y.bytes) e;
    }

-- ---- changes

module _ (listed : Listed) (s s' : Store) (a : SameStore listed s s') where
  pub after-file : (f : ℕ) (x x' : File) → SameFile listed f x x' → SameStore listed (after s (file f x)) (after s' (file f x'))
  unfolding after
  after-file f x x' h =
      record {
        blocks = a.blocks;
        files = a.files;
        channels = a.channels;
        root_unlisted = a.root_unlisted;
        file = λ g. ⊎_elim
            (λ (e : g ≡ f). rw (eq-eqb g f e, e) h)
            (λ (d : g ≢ f). rw (ne_eqb g f d) (a.file g))
            (same_or_not g f);
        channel = a.channel;
      }

  -- the same change of both
  pub after_same : (change : Change) → SameStore listed (after s change) (after s' change)
  unfolding after
  after_same (file f x) = after-file f x x (equal_file listed f x x refl)
  after_same (channel c y) =
      record {
        blocks = a.blocks;
        files = a.files;
        channels = a.channels;
        root_unlisted = a.root_unlisted;
        file = a.file;
        channel = λ d. ap (pick (eqb d c) y) (a.channel d);
      }
  after_same prepared =
      record {
        blocks = a.blocks;
        files = a.files;
        channels = a.channels;
        root_unlisted = a.root_unlisted;
        file = λ g. equal_file listed g _ _ refl;
        channel = λ d. refl;
      }

pub after_all_lem : (listed : Listed) (changes : List Change) (s s' : Store) → SameStore listed s s' → SameStore listed (after_all s changes) (after_all s' changes)
unfolding after_all
after_all_lem listed [] s s' a = a
after_all_lem listed (change ∷ changes) s s' a = after_all_lem listed changes (after s change) (after s' change) (after_same listed s s' a change)

-- what the same changes write anew is equal
pub rewritten_equal : (changes : List Change) (s s' : Store) (f : ℕ) → (s.file f ≡ s'.file f) ⊎ (rewrites changes f ≡ true)
    → (after_all s changes).file f ≡ (after_all s' changes).file f
unfolding after_all after rewrites
rewritten_equal [] s s' f h = ⊎_elim (λ e. e) (λ z. absurd (true≢false (sym z))) h
rewritten_equal (file g x ∷ changes) s s' f h =
    rewritten_equal changes (after s (file g x)) (after s' (file g x)) f
    (⊎_elim
    (λ (e : s.file f ≡ s'.file f). inl (ap (pick (eqb f g) x) e))
    (λ (w : eqb g f || rewrites changes f ≡ true). ⊎_elim
    (λ (e : eqb g f ≡ true). inl (rw (eq-eqb f g (sym (eqb-true g f e)))))
    (λ (r : rewrites changes f ≡ true). inr r)
    (either (eqb g f) (rewrites changes f) w))
    h)
rewritten_equal (channel c y ∷ changes) s s' f h = rewritten_equal changes (after s (channel c y)) (after s' (channel c y)) f h
rewritten_equal (prepared ∷ changes) s s' f h = rewritten_equal changes (after s prepared) (after s' prepared) f (inl refl)
