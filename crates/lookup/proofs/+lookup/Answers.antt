use Rattle.std.specs.Prelude.{ℕ, ◌≡◌, refl, ◌≢◌, ◌+◌, ◌-◌, List, take, drop, Option, Some, None}
use Rattle.std.proofs.Common.{rules, arith, ap, ◌∙◌}
use Rattle.meaning.specs.Store.{Store, within}
use Rattle.meaning.specs.Types.{file_numbered, some_is, none_is, some-numbered, none-numbered}
use Rattle.meaning.specs.declared.FileNo.{FileNo}
use Rattle.names.specs.Syllables.{part, syllables_from}
use Rattle.paths.specs.Taking.{syllable_end}
use Rattle.lookup.specs.Walk.{walk}
use Rattle.lookup.specs.LookLaws.{walk_none, walk-last, walk_on, walk_off, syllable_in, after_is, reaches_after}
use Rattle.lookup.proofs.+lookup.Goals as goal

-- what the first syllable names: nothing, so that all name nothing; or a file, from which the others go on
module _ (s : Store) (d : ℕ) (name : List ℕ) (at n end : ℕ) (ended : end ≡ syllable_end name at) (some : n ≢ 0)
    (x : Option FileNo) (found : x ≡ file_numbered (within s d (take (end - at) (drop at name)))) where
  nothing : x ≡ None → None ≡ file_numbered (walk s d (syllables_from name at n))
  unfolding part
  nothing e = none-numbered _ (walk_off s d name at n end ended some _ refl (none_is x _ found e))

  module _ (f : FileNo) (is : x ≡ Some f) where
    last : n ≡ 1 → Some f ≡ file_numbered (walk s d (syllables_from name at n))
    unfolding part
    last one =
        let facts = some_is x _ found f is in
        some-numbered f _ (walk-last s d name at n end ended some f.0 facts.1 one) (omega (arith, facts.1, walk-last s d name at n end ended some f.0 facts.1 one, facts.0))

    on : (after : ℕ) → after ≡ end + 1 → walk s f.0 (syllables_from name after (n - 1)) ≡ walk s d (syllables_from name at n)
    unfolding part
    on after goes = walk_on s d name at n end ended some f.0 (some_is x _ found f is).1 after goes _ refl

pub returns-then-n-eq0 : goal.returns-then-n-eq0
returns-then-n-eq0 t c = c.or_none.ensures ∙ ap file_numbered (walk_none _ _ _ _ _ c.if-n-eq0.true)

pub slice_bounds-look_in-count : goal.slice_bounds-look_in-count
slice_bounds-look_in-count t c = (syllable_in _ _ _ _ c.take_syllable-taken.ensures.0 c.if-n-eq0.false c.requires.1).0

pub slice_bounds-look_in-start : goal.slice_bounds-look_in-start
slice_bounds-look_in-start t c =
    let inside = syllable_in _ _ _ _ c.take_syllable-taken.ensures.0 c.if-n-eq0.false c.requires.1 in
    search rules

pub slice_bounds-look_in-end : goal.slice_bounds-look_in-end
slice_bounds-look_in-end t c =
    let inside = syllable_in _ _ _ _ c.take_syllable-taken.ensures.0 c.if-n-eq0.false c.requires.1 in
    search rules

pub returns-in_err-f : goal.returns-in_err-f
returns-in_err-f t c =
    c.from_residual.ensures ∙ nothing _ _ _ _ _ _ c.take_syllable-taken.ensures.0 c.if-n-eq0.false _ c.look_in.ensures c.in_err-f.was

pub returns-then-n-eq1 : goal.returns-then-n-eq1
returns-then-n-eq1 t c = last _ _ _ _ _ _ c.take_syllable-taken.ensures.0 c.if-n-eq0.false _ c.look_in.ensures _ c.in_ok-f.was c.if-n-eq1.true

pub lookup-requires : goal.lookup-requires
lookup-requires t c =
    (omega (arith, c.decreases), (c.requires.0, reaches_after _ _ _ _ c.take_syllable-taken.ensures.0 c.if-n-eq0.false c.requires.1 c.if-n-eq1.false _ c.take_syllable-taken.ensures.1))

pub returns : goal.returns
returns t c =
    let goes = after_is _ _ _ _ c.take_syllable-taken.ensures.0 c.if-n-eq0.false c.requires.1 c.if-n-eq1.false _ c.take_syllable-taken.ensures.1 in
    c.lookup.ensures ∙ ap file_numbered (on _ _ _ _ _ _ c.take_syllable-taken.ensures.0 c.if-n-eq0.false _ c.look_in.ensures _ c.in_ok-f.was _ goes)
