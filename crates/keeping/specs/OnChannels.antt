-- The calls on a channel, and open, room and ls: each leaves a well-formed store.
use Rattle.std.specs.Prelude.{ℕ, ◌+◌, ◌≤◌, ◌<◌, ◌≡◌, refl, ◌≢◌, List, [], ◌∷◌, true, false, not, ◌||◌}
use Rattle.std.proofs.Common.{sym, ◌∙◌, ⊎_elim}
use Rattle.std.proofs.Math.Bool.{true≢false}
use Rattle.std.proofs.Math.Option.{some}
use native.Mathlib.Omega.{arith}
use Rattle.std.proofs.Math.ListN.{length}
use Rattle.std.proofs.Math.Dec.{ltb, eqb}
use borrow.Author.Tests.{ltb-true, ltb-false, eqb-true, not-false}
use Rattle.records.specs.RowLaws.{lowest_hit}
use Rattle.records.specs.Tests.{and_left, or_right, same_or_not, not_so}
use Rattle.meaning.specs.File.{readFILE}
use Rattle.meaning.proofs.FileLaws.{length-read}
use Rattle.meaning.specs.Name.{syllables}
use Rattle.meaning.specs.Store.{Store, Channel, channel, after_all, channel_to, root, in_use, is_directory, is_open, free_channel, named}
use Rattle.meaning.specs.Result.{missing, all_open}
use Rattle.meaning.specs.ChannelCalls.{read, seek, seek_to, fstat, room, last_position}
use Rattle.meaning.specs.NameCalls.{open', ls}
use Rattle.meaning.specs.declared.Report.TheVariants.{NoSuchName, NoFreeCids, NotDirectory, BadSeek, OutShort}
use Rattle.layout.specs.Fits.{ChannelFits}
use Rattle.soundness.specs.Use.{used, of_used, directory_used}
use Rattle.soundness.specs.Well.{ChannelForm, Well}
use Rattle.soundness.specs.WellFacts.{file-size, root-directory, open_channel, held_used}
use Rattle.trees.specs.Standing.{standing, some_syllable, last_spelled}
use Rattle.keeping.specs.ChannelStep.{moved_well, opened_well}
use Rattle.keeping.specs.Sure.{Sure, Good, Sized, past, with_name_lem, on_channel_lem}

-- what a name stands for is in use
pub named_used : (s : Store) → Well s → Sized s → (bytes : List ℕ) (name : List (List ℕ)) → syllables bytes ≡ some name → missing s name ≡ false → in_use s (named s name) ≡ true
named_used s w z bytes name is there =
    ⊎_elim
    (λ (e : named s name ≡ root). rw e (of_used s root (directory_used s root (root-directory s w z.some_files))))
    (λ (o : named s name ≢ root).
    let more = some_syllable s name o in
    (standing s w name (last_spelled bytes name is more) more there).is_in_use)
    (same_or_not (named s name) root)

module _ (s : Store) (w : Well s) (z : Sized s) where
  pub nothing : Sure s []
  unfolding after_all
  nothing = record { fits = tt; well = w }

  -- ---- one channel

  module _ (c : ℕ) (y : Channel) (l : c < s.channel_count) where
    pub channel_fits : ChannelForm s y → ChannelFits s c y
    channel_fits (ChannelForm.as_free_lem h) = record { below = l; small_file = omega (arith, h.file); small_posn = omega (arith, h.posn) }
    channel_fits (ChannelForm.as_open h) =
        let u = used s y.file h.is_in_use in
        record { below = l; small_file = omega (arith, u.within, z.few-files); small_posn = omega (arith, h.posn) }

    -- the channel moves, or was free
    pub moved_sure : ChannelForm s y → y.file ≡ (s.channel c).file → Sure s (channel c y ∷ [])
    unfolding after_all
    moved_sure form e = record { fits = (channel_fits form, tt); well = moved_well s c y w l form e }

    pub opened_sure : ChannelForm s y → (s.channel c).file ≡ 0 → Sure s (channel c y ∷ [])
    unfolding after_all
    opened_sure form e = record { fits = (channel_fits form, tt); well = opened_well s c y w l form e }

  -- a channel that is open
  pub open_below : (c : ℕ) → is_open s c ≡ true → c < s.channel_count
  unfolding is_open
  open_below c e = ltb-true c s.channel_count (and_left (ltb c s.channel_count) (not (eqb (s.channel c).file 0)) e)

  -- it goes to another position
  pub goes : (c posn : ℕ) → is_open s c ≡ true → posn ≤ last_position → Sure s (channel c (channel_to (s.channel c).file posn) ∷ [])
  goes c posn is small =
      moved_sure c (channel_to (s.channel c).file posn) (open_below c is)
      (ChannelForm.as_open (record { is_in_use = (open_channel s w c is).is_in_use; posn = small })) refl

  -- the lowest free channel
  free_below : all_open s ≡ false → free_channel s < s.channel_count
  unfolding all_open
  free_below e = ltb-true (free_channel s) s.channel_count (not-false (ltb (free_channel s) s.channel_count) e)

  pub opens : (f : ℕ) → all_open s ≡ false → in_use s f ≡ true → Sure s (channel (free_channel s) (channel_to f 0) ∷ [])
  unfolding free_channel
  opens f e is =
      let c = free_channel s in
      opened_sure c (channel_to f 0) (free_below e) (ChannelForm.as_open (record { is_in_use = is; posn = omega arith }))
      (eqb-true (s.channel c).file 0 (lowest_hit s.channel_count (λ c. eqb (s.channel c).file 0) (free_below e)))

  -- ---- the calls

  pub good-open : (bytes : List ℕ) → Good s (open' bytes s)
  unfolding open'
  good-open bytes =
      with_name_lem s (syllables bytes) _ λ name is.
      past s (missing s name) NoSuchName _ λ there.
      past s (all_open s) NoFreeCids _ λ free.
      opens (named s name) free (named_used s w z bytes name is there)

  pub good-read : (c count : ℕ) → Good s (read c count s)
  unfolding read
  good-read c count =
      on_channel_lem s c _ λ is.
      let y = s.channel c in
      let u = held_used s w c is in
      let size = file-size s w y.file u.some u.within in
      goes c (y.posn + length (readFILE (s.file y.file).bytes y.posn count)) is
      (omega (arith, length-read (s.file y.file).bytes y.posn count, (open_channel s w c is).posn))

  pub good-seek : (c mode n : ℕ) → Good s (seek c mode n s)
  unfolding seek
  good-seek c mode n =
      let to = seek_to mode (s.channel c).posn (length (s.file (s.channel c).file).bytes) n in
      on_channel_lem s c _ λ is.
      past s (ltb 5 mode || ltb last_position to) BadSeek _ λ e.
      goes c to is (ltb-false last_position to (not_so (ltb last_position to) (λ t. true≢false (sym (or_right (ltb 5 mode) (ltb last_position to) t) ∙ e))))

  pub good-fstat : (c : ℕ) → Good s (fstat c s)
  unfolding fstat
  good-fstat c = on_channel_lem s c _ λ is. nothing

  pub good-room : Good s (room s)
  unfolding room
  good-room = nothing

  pub good-ls : (bytes : List ℕ) (size : ℕ) → Good s (ls bytes size s)
  unfolding ls
  good-ls bytes size =
      with_name_lem s (syllables bytes) _ λ name is.
      past s (missing s name) NoSuchName _ λ there.
      past s (not (is_directory s (named s name))) NotDirectory _ λ directory.
      past s (ltb size _) OutShort _ λ fits.
      nothing
