-- The source's notation: partial functions, sets and sequences.
use Rattle.std.specs.Prelude.{ℕ, zero, suc, ◌≡◌, List, [], ◌∷◌, Bool, true, false, ◌&&◌, leb, eqb}
use Rattle.std.proofs.Math.Option.{Option, none, some}
use Rattle.std.proofs.Math.ListN.{get_elem?}
use Rattle.records.specs.Rows.{pick}
use Rattle.meaning.specs.Name.{same}

infixr 3 ◌⇸◌
infix 4 ◌∈dom◌ ◌∉dom◌
infixl 5 ◌⊕◌
infixr 6 ◌◁◌ ◌⩤◌
infix 7 ◌⟼◌
infix 8 ◌··◌
-- a partial function
abbrev pub ◌⇸◌ : Type 0 → Type 0 → Type 0
A ⇸ B = A → Option B

-- a set, told by a test
abbrev pub ℙ : Type 0 → Type 0
ℙ A = A → Bool

abbrev pub ◌∈dom◌ : {A B : Type 0} → A → (A ⇸ B) → Type 0
◌∈dom◌ {B = B} a f = (b : B) × (f a ≡ some b)

abbrev pub ◌∉dom◌ : {A B : Type 0} → A → (A ⇸ B) → Type 0
a ∉dom f = f a ≡ none

-- the upper value, and the lower where there is none
abbrev pub above : {B : Type 0} → Option B → Option B → Option B
above lower none = lower
above lower (some b) = some b

-- overriding: f ⊕ g behaves like g except where g is undefined, in which case it behaves like f
abbrev pub ◌⊕◌ : {A B : Type 0} → (A ⇸ B) → (A ⇸ B) → A ⇸ B
(f ⊕ g) a = above (f a) (g a)

-- f within a set, and f outside it
abbrev pub ◌◁◌ : {A B : Type 0} → ℙ A → (A ⇸ B) → A ⇸ B
(S ◁ f) a = pick (S a) (f a) none

abbrev pub ◌⩤◌ : {A B : Type 0} → ℙ A → (A ⇸ B) → A ⇸ B
(S ⩤ f) a = pick (S a) none (f a)

-- b at each member of a set; at the set of a alone it is the source's {a ↦ b}
abbrev pub ◌⟼◌ : {A B : Type 0} → ℙ A → B → A ⇸ B
(S ⟼ b) a = pick (S a) (some b) none

-- the set of one number
abbrev pub the : ℕ → ℙ ℕ
the n m = eqb m n

-- two names are the same, syllable by syllable
unfoldable pub same_name : List (List ℕ) → List (List ℕ) → Bool
same_name [] [] = true
same_name [] (y ∷ ys) = false
same_name (x ∷ xs) [] = false
same_name (x ∷ xs) (y ∷ ys) = same x y && same_name xs ys

-- the set of one name
abbrev pub the_name : List (List ℕ) → ℙ (List (List ℕ))
the_name name n = same_name n name

-- the numbers from m to n
abbrev pub ◌··◌ : ℕ → ℕ → ℙ ℕ
(m ·· n) k = leb m k && leb k n

-- a sequence is a partial function from the numbers: its first element has number 1
abbrev pub seq : {A : Type 0} → List A → ℕ ⇸ A
seq s zero = none
seq s (suc k) = get_elem? s k
