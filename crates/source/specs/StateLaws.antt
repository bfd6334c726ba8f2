-- Laws of the source's states: who is referred to where names or channels change, and when the invariant goes over.
use Rattle.std.specs.Prelude.{ℕ, ◌≡◌, refl, ◌⊎◌, Bool, true, false}
use Rattle.std.proofs.Common.{ap, sym, ◌∙◌, inl, inr}
use Rattle.std.proofs.Math.Option.{none, some, some-injective, none-ne-some}
use Rattle.records.specs.Rows.{pick}
use Rattle.source.specs.Sets.{◌⇸◌, ℙ, ◌∈dom◌, above, ◌⊕◌, ◌⩤◌, ◌⟼◌}
use Rattle.source.specs.Channels.{CHAN, AS, ΔAS}
use Rattle.source.specs.Naming.{NAME, NS}
use Rattle.source.specs.Departures.{Freeing, stays, goes, Replacing, nothing, something}
use Rattle.source.specs.Filing.{State, Used, by_name, by_channel, FS, ΔFS, ΞNS}

-- ---- values of partial functions

pub value : {A B : Type 0} {f g : A ⇸ B} → f ≡ g → (a : A) → f a ≡ g a
value e a = λ i. e i a

pub defined : {A B : Type 0} {f g : A ⇸ B} → f ≡ g → (a : A) → a ∈dom g → a ∈dom f
defined e a (b, is) = (b, value e a ∙ is)

module _ {A B : Type 0} (f : A ⇸ B) (S : ℙ A) where
  -- a value of f ⊕ {a ↦ b} is b, at a, or f's
  pub over_value : (b : B) (x : A) (v : B) → (f ⊕ S ⟼ b) x ≡ some v → ((S x ≡ true) × (v ≡ b)) ⊎ (f x ≡ some v)
  over_value b x v e = go (S x) refl e
    where
      go : (t : Bool) → S x ≡ t → above (f x) (pick t (some b) none) ≡ some v → ((S x ≡ true) × (v ≡ b)) ⊎ (f x ≡ some v)
      go true s e = inl (s, sym (some-injective b v e))
      go false s e = inr e

  -- f ⊕ {a ↦ b} is defined wherever f is
  pub over_defined : (b : B) (x : A) → x ∈dom f → x ∈dom (f ⊕ S ⟼ b)
  over_defined b x (v, e) = go (S x)
    where
      go : (t : Bool) → (w : B) × (above (f x) (pick t (some b) none) ≡ some w)
      go true = (b, refl)
      go false = (v, e)

  -- and wherever another is that is defined there
  pub over_wider : (g : A ⇸ B) → ((x : A) → x ∈dom f → x ∈dom g) → (b : B) (x : A) → x ∈dom (f ⊕ S ⟼ b) → x ∈dom (g ⊕ S ⟼ b)
  over_wider g wider b x (v, e) = go (S x) e
    where
      go : (t : Bool) → above (f x) (pick t (some b) none) ≡ some v → (w : B) × (above (g x) (pick t (some b) none) ≡ some w)
      go true e = (b, refl)
      go false e = wider x (v, e)

  -- the value b itself
  pub over_here : (b : B) (x : A) → S x ≡ true → (f ⊕ S ⟼ b) x ≡ some b
  over_here b x e = rw e

  -- a value of f outside a set is f's
  pub without_value : (x : A) (v : B) → (S ⩤ f) x ≡ some v → f x ≡ some v
  without_value x v e = go (S x) e
    where
      go : (t : Bool) → pick t none (f x) ≡ some v → f x ≡ some v
      go true e = absurd (none-ne-some v e)
      go false e = e

-- ---- who is referred to

module _ (x x' : State) (channels : x'.cstore ≡ x.cstore) (names : x'.nstore ≡ x.nstore) where
  pub used_same : (fid : ℕ) → Used x' fid → Used x fid
  used_same fid (by_name name e) = by_name name (sym (value names name) ∙ e)
  used_same fid (by_channel cid chan e is) = by_channel cid chan (sym (value channels cid) ∙ e) is

-- ---- the invariant

pub access : (x : State) → FS x → AS x.fstore x.cstore
access x fs = record { refers = λ cid chan e. fs.used chan.fid (by_channel cid chan e refl) }

pub accesses : (x x' : State) → ΔFS x x' → ΔAS x.fstore x'.fstore x.cstore x'.cstore
accesses x x' d = record { before = access x d.before; after = access x' d.after }

module _ (x x' : State) (fs : FS x) (same : ΞNS x x') where
  pub fronts_same : NS x'.nstore x'.dnames
  fronts_same =
      record {
        file-front = λ name more (f, e). value_of same.directories _ ∙ fs.names.file-front name more (f, sym (value same.names name) ∙ e);
        directory-front = λ name more is. value_of same.directories _ ∙ fs.names.directory-front name more (sym (value_of same.directories name) ∙ is);
      }
    where
      value_of : {f g : NAME → Bool} → f ≡ g → (name : NAME) → f name ≡ g name
      value_of e name = λ i. e i name

  -- no file is lost, and each channel refers to a file
  pub still_filing : ((f : ℕ) → f ∈dom x.fstore → f ∈dom x'.fstore)
      → ((cid : ℕ) (chan : CHAN) → x'.cstore cid ≡ some chan → chan.fid ∈dom x'.fstore) → FS x'
  still_filing kept refers = record { names = fronts_same; used = all }
    where
      all : (f : ℕ) → Used x' f → f ∈dom x'.fstore
      all f (by_name name e) = kept f (fs.used f (by_name name (sym (value same.names name) ∙ e)))
      all f (by_channel cid chan e is) = rw is at (refers cid chan e)

-- ---- freeing leaves names and channels

module _ (fid : ℕ) (x x' : State) where
  pub freeing-names : Freeing fid x x' → ΞNS x x'
  freeing-names (stays u e) = record { names = ap (λ (y : State). y.nstore) e; directories = ap (λ (y : State). y.dnames) e }
  freeing-names (goes h) = h.names

pub replacing-names : (old : State) (name : NAME) (x x' : State) → Replacing old name x x' → ΞNS x x'
replacing-names old name x x' (nothing gone e) = record { names = ap (λ (y : State). y.nstore) e; directories = ap (λ (y : State). y.dnames) e }
replacing-names old name x x' (something fid is h) = freeing-names fid x x' h
