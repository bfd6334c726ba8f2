-- The causes of refusals in the source's terms.
use Rattle.std.specs.Prelude.{ℕ, ◌≤◌, ◌<◌, ◌≡◌, ◌↔◌, Bool, true, not, ltb}
use Rattle.std.proofs.Common.{sym, ◌∙◌, true≢false, arith}
use Rattle.std.proofs.Math.Logic.{⊎_elim}
use Rattle.std.proofs.Math.Bool.{false}
use Rattle.std.proofs.Math.Dec.{eqb}
use borrow.Author.Tests.{eq-eqb, ne_eqb, lt-ltb, le-ltb, ltb-false, not-true}
use Rattle.records.specs.Rows.{lowest}
use Rattle.records.specs.RowLaws.{lowest-within, lowest_hit, lowest_misses}
use Rattle.records.specs.Tests.{both, and_both, and_false, lt_or_ge, not_so}
use Rattle.meaning.specs.Store.{Store, is_directory, is_open, free_channel, named, front}
use Rattle.meaning.specs.Result.{missing, nowhere, all_open}
use Rattle.trees.specs.Standing.{missing_none, missing_some}
use Rattle.source.specs.Sets.{◌∈dom◌, ◌∉dom◌}
use Rattle.source.specs.Naming.{NAME}
use Rattle.source.specs.View.{view, chan_of}
use Rattle.source.specs.ViewLaws.{numbered_some, numbered_none, numbered_gone, numbered_not, channel_there, channel_open, channel_shut}
use Rattle.source.specs.ErrorStatements.{Nowhere, NoneFree}

module _ (s : Store) where
  pub not_open : (c : ℕ) → (not (is_open s c) ≡ true) ↔ (c ∉dom (view s).cstore)
  not_open c = (λ e. rw (not-true (is_open s c) e), λ e. rw (channel_shut s c e))

  pub name-missing : (name : NAME) → (missing s name ≡ true) ↔ (name ∉dom (view s).nstore)
  unfolding missing
  name-missing name = (λ e. numbered_none (named s name) (missing_none s name e), λ e. eq-eqb (named s name) 0 (numbered_gone (named s name) e))

  pub name_there : (name : NAME) → (missing s name ≡ false) ↔ (name ∈dom (view s).nstore)
  unfolding missing
  name_there name =
      (λ e. (named s name, numbered_some (named s name) (missing_some s name e)), λ (f, e). ne_eqb (named s name) 0 (numbered_not (named s name) f e))

  pub name-nowhere : (name : NAME) → (nowhere s name ≡ true) ↔ Nowhere (view s) name
  unfolding nowhere
  name-nowhere name = (
    λ e.
        let (gone, none_there) = both (missing s name) (not (is_directory s (named s (front name)))) e in
        ((name-missing name).0 gone, not-true (is_directory s (named s (front name))) none_there),
    λ (gone, none_there).
        and_both (missing s name) (not (is_directory s (named s (front name)))) ((name-missing name).1 gone) (rw none_there),
  )

  pub name_somewhere : (name : NAME) → (nowhere s name ≡ false) ↔ (Nowhere (view s) name → ⊥)
  name_somewhere name =
      (λ e h. true≢false (sym ((name-nowhere name).1 h) ∙ e), λ h. not_so (nowhere s name) (λ e. h ((name-nowhere name).0 e)))

  -- ---- channels that are all open

  free_at : ℕ → Bool
  free_at c = eqb (s.channel c).file 0

  open-taken : all_open s ≡ true → NoneFree s
  unfolding all_open free_channel is_open free_at
  open-taken e c h =
      let all : lowest s.channel_count free_at ≡ s.channel_count =
      omega (arith, lowest-within s.channel_count free_at, ltb-false (lowest s.channel_count free_at) s.channel_count (not-true (ltb (lowest s.channel_count free_at) s.channel_count) e)) in
      let taken : eqb (s.channel c).file 0 ≡ false = lowest_misses s.channel_count free_at c (rw all h) in
      (chan_of (s.channel c), channel_there s c (rw (lt-ltb c s.channel_count h, taken)))

  taken-open : NoneFree s → all_open s ≡ true
  unfolding all_open free_channel is_open free_at
  taken-open all =
      let c = lowest s.channel_count free_at in
      ⊎_elim
      (λ (h : c < s.channel_count).
      let (chan, is) = all c h in
      let o = channel_open s c chan is in
      absurd (true≢false (sym o ∙ rw (lowest_hit s.channel_count free_at h, and_false (ltb c s.channel_count)))))
      (λ (h : s.channel_count ≤ c). rw (le-ltb c s.channel_count h))
      (lt_or_ge c s.channel_count)

  pub none_free : (all_open s ≡ true) ↔ NoneFree s
  none_free = (open-taken, taken-open)
