-- What the source's state of a store says, in the store's own facts.
use Rattle.std.specs.Prelude.{ℕ, ◌<◌, ◌≡◌, refl, ◌≢◌, ◌⊎◌, List, [], ◌∷◌, length, ltb, eqb}
use Rattle.std.proofs.Common.{ap, sym, ◌∙◌, inl, inr, arith}
use Rattle.std.proofs.Math.Path.{fun_ext}
use mathlib.Core.Bool.{Bool, true, false, not, true≢false}
use Rattle.std.proofs.Math.Option.{none, some, some-injective, none-ne-some}
use borrow.Author.Tests.{eq-eqb, ne_eqb, eqb-true, eqb-false, ltb-true}
use Rattle.records.specs.Rows.{pick}
use Rattle.records.specs.Tests.{and_left, and_right, and_both}
use Rattle.names.specs.SameLaws.{same_is, is_same}
use Rattle.meaning.specs.Name.{same}
use Rattle.meaning.specs.Store.{Store, in_use, is_open}
use Rattle.source.specs.Sets.{◌⇸◌, ℙ, ◌⟼◌, ◌⊕◌, ◌⩤◌, ◌∈dom◌, ◌∉dom◌, the, same_name, the_name}
use Rattle.source.specs.Channels.{CHAN}
use Rattle.source.specs.View.{numbered, chan_of, view}

-- ---- what is picked by a test

module _ {A : Type 0} (a b : A) where
  picked_test : (t : Bool) → pick t (some a) none ≡ some b → t ≡ true
  picked_test true e = refl
  picked_test false e = absurd (none-ne-some b e)

  picked_value : (t : Bool) → pick t (some a) none ≡ some b → a ≡ b
  picked_value true e = some-injective a b e
  picked_value false e = absurd (none-ne-some b e)

picked_none : {A : Type 0} (a : A) (t : Bool) → pick t (some a) none ≡ none → t ≡ false
picked_none a true e = absurd (none-ne-some a (sym e))
picked_none a false e = refl

-- ---- numbers that may be none

pub numbered_some : (f : ℕ) → f ≢ 0 → numbered f ≡ some f
numbered_some f n = rw (ne_eqb f 0 n)

pub numbered_none : (f : ℕ) → f ≡ 0 → numbered f ≡ none
numbered_none f e = rw (eq-eqb f 0 e)

numbered_cases : (f g : ℕ) (t : Bool) → eqb f 0 ≡ t → pick t none (some f) ≡ some g → (f ≡ g) × (f ≢ 0)
numbered_cases f g true e h = absurd (none-ne-some g h)
numbered_cases f g false e h = (some-injective f g h, eqb-false f 0 e)

pub numbered_is : (f g : ℕ) → numbered f ≡ some g → f ≡ g
numbered_is f g e = (numbered_cases f g (eqb f 0) refl e).0

pub numbered_not : (f g : ℕ) → numbered f ≡ some g → f ≢ 0
numbered_not f g e = (numbered_cases f g (eqb f 0) refl e).1

numbered_zero : (f : ℕ) (t : Bool) → eqb f 0 ≡ t → pick t none (some f) ≡ none → f ≡ 0
numbered_zero f true e h = eqb-true f 0 e
numbered_zero f false e h = absurd (none-ne-some f (sym h))

pub numbered_gone : (f : ℕ) → numbered f ≡ none → f ≡ 0
numbered_gone f e = numbered_zero f (eqb f 0) refl e

-- ---- files and channels

module _ (s : Store) where
  pub file_there : (f : ℕ) → in_use s f ≡ true → (view s).fstore f ≡ some (s.file f).bytes
  file_there f u = rw u

  pub file_used : (f : ℕ) → f ∈dom (view s).fstore → in_use s f ≡ true
  file_used f (bytes, e) = picked_test (s.file f).bytes bytes (in_use s f) e

  pub file_is : (f : ℕ) (bytes : List ℕ) → (view s).fstore f ≡ some bytes → (s.file f).bytes ≡ bytes
  file_is f bytes e = picked_value (s.file f).bytes bytes (in_use s f) e

  pub channel_there : (c : ℕ) → is_open s c ≡ true → (view s).cstore c ≡ some (chan_of (s.channel c))
  channel_there c o = rw o

  pub channel_open : (c : ℕ) (chan : CHAN) → (view s).cstore c ≡ some chan → is_open s c ≡ true
  channel_open c chan e = picked_test (chan_of (s.channel c)) chan (is_open s c) e

  pub open_below : (c : ℕ) → is_open s c ≡ true → c < s.channel_count
  unfolding is_open
  open_below c o = ltb-true c s.channel_count (and_left (ltb c s.channel_count) (not (eqb (s.channel c).file 0)) o)

  pub channel_is : (c : ℕ) (chan : CHAN) → (view s).cstore c ≡ some chan → chan_of (s.channel c) ≡ chan
  channel_is c chan e = picked_value (chan_of (s.channel c)) chan (is_open s c) e

  pub channel_shut : (c : ℕ) → c ∉dom (view s).cstore → is_open s c ≡ false
  channel_shut c e = picked_none (chan_of (s.channel c)) (is_open s c) e

-- ---- names

pub name-same : (a b : List (List ℕ)) → same_name a b ≡ true → a ≡ b
unfolding same_name
name-same [] [] e = refl
name-same [] (y ∷ b) e = absurd (mathlib.Core.Bool.false≢true e)
name-same (x ∷ a) [] e = absurd (mathlib.Core.Bool.false≢true e)
name-same (x ∷ a) (y ∷ b) e =
    let heads = same_is x y (and_left (same x y) (same_name a b) e) in
    let tails = name-same a b (and_right (same x y) (same_name a b) e) in
    λ i. heads i ∷ tails i

pub same-name : (a : List (List ℕ)) → same_name a a ≡ true
unfolding same_name
same-name [] = refl
same-name (x ∷ a) = and_both (same x x) (same_name a a) (is_same x x refl) (same-name a)

pub same-name_or_not : (a b : List (List ℕ)) → (a ≡ b) ⊎ (a ≢ b)
same-name_or_not a b = go (same_name a b) refl
  where
    go : (t : Bool) → same_name a b ≡ t → (a ≡ b) ⊎ (a ≢ b)
    go true e = inl (name-same a b e)
    go false e = inr (λ q. true≢false (sym (same-name b) ∙ ap (λ (x : List (List ℕ)). same_name x b) (sym q) ∙ e))

-- a name with a syllable
pub more_syllables : (name : List (List ℕ)) → name ≢ [] → 0 < length name
more_syllables [] n = absurd (n refl)
more_syllables (x ∷ name) n = omega arith

pub no_more : (name : List (List ℕ)) → 0 < length name → name ≢ []
no_more name h e = let z : length name ≡ 0 = ap length e in omega arith

-- ---- a partial function with values changed, or taken away

module _ {A B : Type 0} (f g : A ⇸ B) (S : ℙ A) (others : (x : A) → S x ≡ false → g x ≡ f x) where
  put_where : (b : B) → ((x : A) → S x ≡ true → g x ≡ some b) → g ≡ f ⊕ S ⟼ b
  put_where b here = fun_ext (λ x. go x (S x) refl)
    where
      go : (x : A) (t : Bool) → S x ≡ t → g x ≡ (f ⊕ S ⟼ b) x
      go x true e = rw e (here x e)
      go x false e = rw e (others x e)

  drop_where : ((x : A) → S x ≡ true → g x ≡ none) → g ≡ S ⩤ f
  drop_where here = fun_ext (λ x. go x (S x) refl)
    where
      go : (x : A) (t : Bool) → S x ≡ t → g x ≡ (S ⩤ f) x
      go x true e = rw e (here x e)
      go x false e = rw e (others x e)

-- at one number
module _ {B : Type 0} (f g : ℕ ⇸ B) (a : ℕ) (others : (x : ℕ) → x ≢ a → g x ≡ f x) where
  pub changed : (b : B) → g a ≡ some b → g ≡ f ⊕ the a ⟼ b
  changed b here = put_where f g (the a) (λ x e. others x (eqb-false x a e)) b (λ x e. ap g (eqb-true x a e) ∙ here)

  pub removed : g a ≡ none → g ≡ the a ⩤ f
  removed here = drop_where f g (the a) (λ x e. others x (eqb-false x a e)) (λ x e. ap g (eqb-true x a e) ∙ here)

-- at one name
module _ {B : Type 0} (f g : List (List ℕ) ⇸ B) (a : List (List ℕ)) (others : (x : List (List ℕ)) → x ≢ a → g x ≡ f x) where
  other-names : (x : List (List ℕ)) → same_name x a ≡ false → g x ≡ f x
  other-names x e = others x (λ q. true≢false (sym (same-name a) ∙ ap (λ (y : List (List ℕ)). same_name y a) (sym q) ∙ e))

  pub renamed : (b : B) → g a ≡ some b → g ≡ f ⊕ the_name a ⟼ b
  renamed b here = put_where f g (the_name a) other-names b (λ x e. ap g (name-same x a e) ∙ here)

  pub unnamed : g a ≡ none → g ≡ the_name a ⩤ f
  unnamed here = drop_where f g (the_name a) other-names (λ x e. ap g (name-same x a e) ∙ here)
