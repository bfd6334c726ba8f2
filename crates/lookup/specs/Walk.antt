-- A name looked up from the left, a syllable at a time, is the source's rule for stored directories.
use Rattle.std.specs.Prelude.{ℕ, suc, ◌-◌, ◌<◌, ◌≡◌, refl, length, take, drop, get_or}
use Rattle.std.proofs.Common.{ap, sym, ◌∙◌, arith, drop_of_length-le}
use mathlib.Core.List.{List, [], ◌∷◌, ◌++◌, reverse_aux}
use Rattle.std.proofs.Math.Seq.{split_at}
use Rattle.meaning.specs.Store.{Store, root, within, named_back, named, front, last}

-- from directory d by the syllables in turn
unfoldable pub walk : Store → ℕ → List (List ℕ) → ℕ
walk s d [] = d
walk s d (syllable ∷ rest) = walk s (within s d syllable) rest

-- what has been walked is the front of the name, its last syllable first
walked : (s : Store) (rest front : List (List ℕ)) → named_back s (reverse_aux rest front) ≡ walk s (named_back s front) rest
unfolding walk named_back
walked s [] front = refl
walked s (syllable ∷ rest) front = walked s rest (syllable ∷ front)

pub named-walk : (s : Store) (name : List (List ℕ)) → named s name ≡ walk s root name
unfolding named named_back
named-walk s name = walked s name []

-- one more syllable
pub walk_more : (s : Store) (d : ℕ) (name : List (List ℕ)) (last : List ℕ) → walk s d (name ++ last ∷ []) ≡ within s (walk s d name) last
unfolding walk
walk_more s d [] last = refl
walk_more s d (syllable ∷ rest) last = walk_more s (within s d syllable) rest last

pub named_more : (s : Store) (name : List (List ℕ)) (last : List ℕ) → named s (name ++ last ∷ []) ≡ within s (named s name) last
named_more s name last = named-walk s (name ++ last ∷ []) ∙ walk_more s root name last ∙ ap (λ d. within s d last) (sym (named-walk s name))

-- ---- a name's last syllable, in the directory that the syllables before it name

pub front-last : (name : List (List ℕ)) → 0 < length name → name ≡ front name ++ last name ∷ []
front-last name some =
    let k = length name - 1 in
    let none : drop (suc k) name ≡ [] = drop_of_length-le name {i = suc k} (omega arith) in
    split_at name k [] (omega arith) ∙ ap (λ l. take k name ++ get_or name k [] ∷ l) none

pub named-last : (s : Store) (name : List (List ℕ)) → 0 < length name → named s name ≡ within s (named s (front name)) (last name)
named-last s name some = ap (named s) (front-last name some) ∙ named_more s (front name) (last name)
