-- A channel is opened, moved or closed: the shape stays, and so do the names that files need, but for the file that it held.
use Prim.Native.Nat.{ℕ, ◌<◌}
use Rattle.std.specs.Prelude.{◌≡◌, ◌≢◌, ◌⊎◌, true}
use Rattle.std.proofs.Math.Path.{refl, ap, sym}
use Rattle.std.proofs.Common.{◌∙◌, inl, inr, arith}
use Rattle.std.proofs.Math.Logic.{⊎_elim}
use Rattle.std.proofs.Math.Bool.{Bool}
use Rattle.std.proofs.Math.Dec.{eqb}
use borrow.Author.Tests.{ne_eqb, lt-ltb, ltb-true}
use Rattle.records.specs.Rows.{tally, how_many}
use Rattle.records.specs.RowLaws.{how_many_update}
use Rattle.records.specs.Tests.{same_or_not}
use Rattle.meaning.specs.Store.{Store, Channel, channel, after, in_use, is_directory, names, held}
use Rattle.soundness.specs.Well.{ChannelForm, Well}
use Rattle.trees.specs.AfterFile.{channel_changed, channel_other}
use Rattle.keeping.specs.Shape.{Shape, Counted, shape, well_again, channel_moved, record_moved}

module _ (s : Store) (c : ℕ) (y : Channel) where
  abbrev s' : Store
  s' = after s (channel c y)

  -- ---- files and names do not see channels

  pub use_there : (f : ℕ) → in_use s' f ≡ in_use s f
  unfolding in_use after
  use_there f = refl

  pub directory_there : (f : ℕ) → is_directory s' f ≡ is_directory s f
  unfolding is_directory in_use after
  directory_there f = refl

  pub names_there : (f : ℕ) → names s' f ≡ names s f
  unfolding names is_directory in_use after
  names_there f = refl

  pub shape_channel : Shape s → ChannelForm s y → Shape s'
  unfolding after is_directory in_use
  shape_channel h form =
      record {
        files = h.files;
        top = h.top;
        below = h.below;
        channels = λ d l. channel_moved s s' (s'.channel d) (λ u. u) (go d l);
        records = λ d i is l. record_moved s s' (s.file d).bytes (s.file d).bytes i refl refl (λ u. u) (h.records d i is l);
        distinct = h.distinct;
        deeper = h.deeper;
      }
    where
      go : (d : ℕ) → d < s.channel_count → ChannelForm s (s'.channel d)
      go d l =
          ⊎_elim
          (λ (e : d ≡ c). rw (e, channel_changed s c y) form)
          (λ (o : d ≢ c). rw (channel_other s c y d o) (h.channels d l))
          (same_or_not d c)

  -- ---- who holds a file

  -- the channel held another file, or holds the same one: what was held is held
  pub still_held : c < s.channel_count → (f : ℕ) → (f ≢ (s.channel c).file) ⊎ (y.file ≡ (s.channel c).file) → held s f ≡ true → held s' f ≡ true
  unfolding held after
  still_held l f why was =
      let p : ℕ → Bool = λ d. eqb (s.channel d).file f in
      let q : ℕ → Bool = λ d. eqb (s'.channel d).file f in
      let change = how_many_update s.channel_count p q c l (λ d h o. sym (ap (λ (z : Channel). eqb z.file f) (channel_other s c y d o))) in
      let some : 0 < how_many s.channel_count p = ltb-true 0 (how_many s.channel_count p) was in
      let now : q c ≡ eqb y.file f = ap (λ (z : Channel). eqb z.file f) (channel_changed s c y) in
      let more : 0 < how_many s.channel_count q =
      ⊎_elim
      (λ (o : f ≢ (s.channel c).file). omega (arith, ap tally (ne_eqb (s.channel c).file f (λ e. o (sym e)))))
      (λ (e : y.file ≡ (s.channel c).file). omega (arith, ap tally (now ∙ ap (λ (g : ℕ). eqb g f) e)))
      why in
      lt-ltb 0 (how_many s.channel_count q) more

  module _ (w : Well s) (l : c < s.channel_count) where
    keep : (g : ℕ) → ((f : ℕ) → f ≢ g → (f ≢ (s.channel c).file) ⊎ (y.file ≡ (s.channel c).file)) → Counted g s'
    keep g why =
        record {
          once = λ f o is other. names_there f ∙ w.once f (sym (directory_there f) ∙ is) other;
          kept = λ f o is plain. ⊎_elim
              (λ (m : 0 < names s f). inl (omega (arith, names_there f)))
              (λ (m : held s f ≡ true). inr (still_held l f (why f o) m))
              (w.kept f (sym (use_there f) ∙ is) (sym (directory_there f) ∙ plain));
        }

    -- it held a file that may now lack a channel
    pub counted_channel : Counted (s.channel c).file s'
    counted_channel = keep (s.channel c).file (λ f o. inl o)

    module _ (form : ChannelForm s y) where
      -- it holds what it held
      pub moved_well : y.file ≡ (s.channel c).file → Well s'
      moved_well e = well_again s' (shape_channel (shape s w) form) (keep 0 (λ f o. inr e))

      -- it held nothing
      pub opened_well : (s.channel c).file ≡ 0 → Well s'
      opened_well e = well_again s' (shape_channel (shape s w) form) (rw e at counted_channel)
