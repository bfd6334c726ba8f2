-- A name spelled out: each syllable behind one "/". Spelling and reading undo each other.
use Rattle.std.specs.Prelude.{ℕ, suc, ◌<◌, ◌≡◌, refl, List, [], ◌∷◌, ◌++◌, Bool, true, false, eqb, length, drop, get_or}
use Rattle.std.proofs.Common.{ap, ap₂, sym, ◌∙◌, true≢false, arith, eqb-true}
use Rattle.std.proofs.Math.Option.{some}
use Rattle.records.specs.Numbers.{one}
use Rattle.records.specs.ListLaws.{drop-one}
use Rattle.meaning.specs.Name.{slash, is_syllable, before, split, are_syllables, syllables}
use Rattle.names.specs.SyllableTests.{syllable_no_slash}
use Rattle.names.specs.ReadLaws.{in_pieces, are_each, root_is}
use Rattle.names.specs.SyllableLaws.{split_some}

-- each syllable behind one "/"
unfoldable pub following : List (List ℕ) → List ℕ
following [] = []
following (s ∷ ss) = slash ∷ s ++ following ss

-- "/" is the name of no syllables
unfoldable pub spell : List (List ℕ) → List ℕ
spell [] = slash ∷ []
spell (s ∷ ss) = following (s ∷ ss)

-- ---- what is spelled reads as it was

-- no byte of a row is a slash
abbrev NoSlash : List ℕ → Type 0
NoSlash s = (i : ℕ) → i < length s → eqb (one s i) slash ≡ false

-- what follows belongs to the row behind it: nothing, or a slash and more
split-last : (s : List ℕ) → NoSlash s → split (s ++ []) ≡ s ∷ []
unfolding split before one
split-last [] h = refl
split-last (b ∷ s) h = rw (split-last s (λ i l. h (suc i) (omega arith)), h 0 (omega arith))

split-slash : (s : List ℕ) → NoSlash s → (rest : List ℕ) → split (s ++ slash ∷ rest) ≡ s ∷ split rest
unfolding split before one
split-slash [] h rest = refl
split-slash (b ∷ s) h rest = rw (split-slash s (λ i l. h (suc i) (omega arith)) rest, h 0 (omega arith))

split_spelled : (s : List ℕ) (ss : List (List ℕ)) → ((i : ℕ) → i < length (s ∷ ss) → is_syllable (get_or (s ∷ ss) i []) ≡ true) →
    split (s ++ following ss) ≡ s ∷ ss
unfolding following
split_spelled s [] each = split-last s (syllable_no_slash s (each 0 (omega arith)))
split_spelled s (t ∷ ss) each =
    split-slash s (syllable_no_slash s (each 0 (omega arith))) (t ++ following ss)
    ∙ ap (λ l. s ∷ l) (split_spelled t ss (λ i h. each (suc i) (omega arith)))

pub read_spelled : (name : List (List ℕ)) → are_syllables name ≡ true → syllables (spell name) ≡ some name
unfolding spell following syllables
read_spelled [] e = refl
read_spelled ([] ∷ ss) e = unfold is_syllable in absurd (true≢false (sym (are_each ([] ∷ ss) e 0 (omega arith))))
read_spelled ((b ∷ s) ∷ ss) e = rw (split_spelled (b ∷ s) ss (are_each ((b ∷ s) ∷ ss) e), e)

-- ---- what is read spells what was read

unfoldable joined : List (List ℕ) → List ℕ
joined [] = []
joined (p ∷ ps) = p ++ following ps

joined-split : (bytes : List ℕ) → joined (split bytes) ≡ bytes
unfolding joined split before following
joined-split [] = refl
joined-split (b ∷ bytes) = go (eqb b slash) refl (split bytes) (split_some bytes) (joined-split bytes)
  where
    go : (t : Bool) → eqb b slash ≡ t → (s : List (List ℕ)) → 0 < length s → joined s ≡ bytes → joined (before b t s) ≡ b ∷ bytes
    go t e [] h j = absurd (omega arith)
    go true e (p ∷ ps) h j = ap₂ ◌∷◌ (sym (eqb-true b slash e)) j
    go false e (p ∷ ps) h j = ap (λ l. b ∷ l) j

pub spelled_read : (bytes : List ℕ) (name : List (List ℕ)) → syllables bytes ≡ some name → spell name ≡ bytes
unfolding spell following joined
spelled_read bytes [] e = sym (root_is bytes e)
spelled_read bytes (s ∷ ss) e =
    let w = in_pieces bytes (s ∷ ss) e (omega arith) in
    let behind : s ++ following ss ≡ drop 1 bytes = ap joined (sym w.pieces) ∙ joined-split (drop 1 bytes) in
    ap₂ ◌∷◌ (sym w.first) behind ∙ sym (drop-one bytes 0 (omega (arith, w.long)))
