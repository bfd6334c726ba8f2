-- write: an ordinary file's bytes, then the channel's position. close: the channel, then the file if nothing refers to it.
use Rattle.std.specs.Prelude.{ℕ, ◌+◌, ◌-◌, ◌≤◌, List, [], ◌∷◌, true, false, eqb}
use Rattle.std.proofs.Math.Path.{◌≡◌, refl}
use Rattle.std.proofs.Common.{sym, ◌∙◌, arith}
use Rattle.std.proofs.Math.ListN.{length}
use borrow.Author.Tests.{eqb-false}
use Rattle.records.specs.Tests.{not_so}
use Rattle.meaning.specs.File.{writeFILE, needed, longest}
use Rattle.meaning.proofs.FileLaws.{length-write}
use Rattle.meaning.specs.Store.{Store, file, channel, after, no_channel, channel_to, ordinary, is_directory, is_open, free_blocks, let_go}
use Rattle.meaning.specs.ChannelCalls.{close, write}
use Rattle.meaning.specs.declared.Report.TheVariants.{IsDirectory}
use Rattle.soundness.specs.Use.{directory-kind}
use Rattle.soundness.specs.Well.{ChannelForm, Well}
use Rattle.soundness.specs.WellFacts.{open_channel, held_used}
use Rattle.keeping.specs.Shape.{shape}
use Rattle.keeping.specs.ChannelStep.{directory_there, names_there, shape_channel, counted_channel}
use Rattle.keeping.specs.Sure.{Sure, Good, Sized, past, on_channel_lem, if_fits_lem, sure_then}
use Rattle.keeping.proofs.Files.{rewritten_well, let_go_lem}
use Rattle.keeping.specs.OnChannels.{channel_fits, open_below, goes}

module _ (s : Store) (w : Well s) (z : Sized s) where
  pub good-close : (c : ℕ) → Good s (close c s)
  unfolding close
  good-close c =
      let closed = channel c no_channel in
      let f = (s.channel c).file in
      let s' = after s closed in
      let none : ChannelForm s no_channel = ChannelForm.as_free_lem (record { file = refl; posn = refl }) in
      on_channel_lem s c _ λ is.
      let below = open_below s w z c is in
      sure_then s closed (let_go s' f) (channel_fits s w z c no_channel below none)
      (let_go_lem s' f (shape_channel s c no_channel (shape s w) none) (counted_channel s c no_channel w below)
      (λ directory other. names_there s c no_channel f ∙ w.once f (sym (directory_there s c no_channel f) ∙ directory) other))

  -- the file, and then the channel of the store that it leaves
  module _ (c : ℕ) (new : List ℕ) (posn : ℕ) (is : is_open s c ≡ true) (plain : is_directory s (s.channel c).file ≡ false)
      (short : length new ≤ longest) (room : needed (length new) - needed (length (s.file (s.channel c).file).bytes) ≤ free_blocks s) (before : posn ≤ longest) where
    abbrev f : ℕ
    f = (s.channel c).file

    abbrev s' : Store
    s' = after s (file f (ordinary new))

    still_open : is_open s' c ≡ true
    unfolding is_open after
    still_open = is

    sized : Sized s'
    unfolding after
    sized = record { some_files = z.some_files; few-files = z.few-files }

    written_sure : Sure s (file f (ordinary new) ∷ channel c (channel_to f posn) ∷ [])
    unfolding after
    written_sure =
        let u = held_used s w c is in
        sure_then s (file f (ordinary new)) (channel c (channel_to f posn) ∷ [])
        (record { from_one = u.some; to_last = u.within; used = λ l. λ (e : ◌≡◌ {A = ℕ} 1 0). omega arith; room = room })
        (goes s' (rewritten_well s w f new (open_channel s w c is).is_in_use plain short) sized c posn still_open (omega arith))

  pub good-write : (c : ℕ) (bytes : List ℕ) → Good s (write c bytes s)
  unfolding write
  good-write c bytes =
      let y = s.channel c in
      let old = s.file y.file in
      let new = writeFILE old.bytes y.posn bytes in
      on_channel_lem s c _ λ is.
      past s (eqb old.kind 2) IsDirectory _ λ kind.
      if_fits_lem s (length old.bytes) (length new) _ λ short room.
      written_sure c new (y.posn + length bytes) is
      (not_so (is_directory s y.file) (λ directory. eqb-false old.kind 2 kind (directory-kind s y.file directory)))
      short room (omega (arith, length-write old.bytes y.posn bytes))
