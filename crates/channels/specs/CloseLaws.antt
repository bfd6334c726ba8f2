-- A channel closed: who holds its file then, and whether the file goes.
use Rattle.std.specs.Prelude.{ℕ, zero, suc, ◌+◌, ◌<◌, ◌≡◌, ◌≢◌, [], ◌∷◌, Bool, true, false, not, ◌&&◌, ltb}
use Rattle.std.proofs.Math.Path.{refl, ap}
use Rattle.std.proofs.Common.{sym, ◌∙◌}
use native.Mathlib.Omega.{arith}
use Rattle.std.proofs.Math.Dec.{eqb}
use borrow.Author.Tests.{lt-ltb, eq-eqb, ne_eqb}
use Rattle.records.specs.Rows.{pick, tally, how_many}
use Rattle.records.specs.RowLaws.{how_many_update}
use Rattle.meaning.specs.Store.{Store, file, channel, after, no_file, no_channel, in_use, is_directory, names, held, is_orphan, let_go}

-- how many channels hold file f
abbrev pub holders : Store → ℕ → ℕ
holders s f = how_many s.channel_count (λ d. eqb (s.channel d).file f)

module _ (s : Store) (c : ℕ) where
  -- the store with channel c closed
  abbrev pub closed : Store
  closed = after s (channel c no_channel)

  -- names do not see channels
  pub orphan_closed : (f : ℕ) → is_orphan closed f ≡ in_use s f && eqb (s.file f).kind 1 && eqb (names s f) 0 && not (held closed f)
  unfolding is_orphan names is_directory in_use after
  orphan_closed f = refl

  module _ (f : ℕ) (below : c < s.channel_count) (holds : (s.channel c).file ≡ f) (some : f ≢ 0) where
    -- one holder less
    holders-closed : holders closed f + 1 ≡ holders s f
    unfolding after
    holders-closed =
        let u = how_many_update s.channel_count (λ d. eqb (s.channel d).file f) (λ d. eqb (pick (eqb d c) no_channel (s.channel d)).file f) c below
        (λ d h o. rw (ne_eqb d c o)) in
        let was : tally (eqb (s.channel c).file f) ≡ 1 = ap tally (eq-eqb (s.channel c).file f holds) in
        let is : tally (eqb (pick (eqb c c) no_channel (s.channel c)).file f) ≡ 0 = rw (eq-eqb c c refl, ne_eqb 0 f (λ e. some (sym e))) in
        omega arith

    last : (n m : ℕ) → n + 1 ≡ m → not (ltb 0 n) ≡ eqb m 1
    last zero m e = sym (eq-eqb m 1 (omega arith))
    last (suc n) m e = rw (lt-ltb 0 (suc n) (omega arith), ne_eqb m 1 (λ one. omega arith))

    -- none holds it then, exactly where one did
    left-holders : not (held closed f) ≡ eqb (holders s f) 1
    unfolding held after
    left-holders = last (holders closed f) (holders s f) holders-closed

    third_second : (a b c : Bool) → true && a && b && c ≡ a && c && b
    third_second false b c = refl
    third_second true true true = refl
    third_second true true false = refl
    third_second true false true = refl
    third_second true false false = refl

    -- the file goes with its channel exactly where it is ordinary, no other channel holds it and no record names it
    pub goes_where : in_use s f ≡ true → let_go closed f ≡ pick (eqb (s.file f).kind 1 && eqb (holders s f) 1 && eqb (names s f) 0) (file f no_file ∷ []) []
    unfolding let_go
    goes_where used =
        let all : is_orphan closed f ≡ eqb (s.file f).kind 1 && eqb (holders s f) 1 && eqb (names s f) 0 =
        orphan_closed f ∙ rw (used, left-holders) (third_second (eqb (s.file f).kind 1) (eqb (names s f) 0) (eqb (holders s f) 1)) in
        rw all
