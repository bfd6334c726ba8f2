-- Alike sound tables hold stores that are the same but for listed bytes, whatever number is asked; and back.
use Rattle.std.specs.Prelude.{ℕ, ◌+◌, ◌-◌, ◌*◌, ◌≤◌, ◌<◌, ◌≡◌, refl, List, true, false, not, ◌&&◌}
use Rattle.std.proofs.Math.Path.{ap, sym}
use Rattle.std.proofs.Common.{◌∙◌, inr, true≢false}
use Rattle.std.proofs.Math.Logic.{⊎_elim}
use native.Mathlib.Omega.{arith}
use Rattle.std.proofs.Math.ListN.{length, get_or-eq_default}
use Rattle.std.proofs.Math.Dec.{eqb}
use borrow.Author.Tests.{eqb-true, not-false}
use Rattle.records.specs.Numbers.{one, two, four}
use Rattle.records.specs.Tests.{tested, both, lt_or_ge, le_or_gt}
use Rattle.meaning.specs.Store.{Store, File, Channel, no_file, no_channel, root, after_all}
use Rattle.meaning.specs.Tables.{Tables, store_of, file_of, file_count, channel_count, kind_at, depth_at, length_at, channel_file_at, position_at}
use Rattle.meaning.specs.Run.{Call, meaning, changes_of}
use Rattle.tables.specs.StoreLaws.{store_kind, store_depth, store_length, store_channel_file, store_channel_position}
use Rattle.layout.specs.Lengths.{Lengths}
use Rattle.layout.specs.Layout.{sound_layout}
use Rattle.lookup.specs.Filed.{sound_well}
use Rattle.soundness.specs.Use.{three}
use Rattle.soundness.specs.WellFacts.{free_none}
use Rattle.likeness.specs.Alike.{Listed, AlikeStores, Alike, rewrites, is_create, empties, left, listed_after}
use Rattle.likeness.specs.Same.{SameFile, SameStore, equal_file, rewritten_equal}
use Rattle.likeness.specs.Depths.{directory_unlisted, same-depth}
use Rattle.likeness.proofs.Results.{Given}

-- ---- past the last record all is zero

module _ (l : List ℕ) (at : ℕ) (past : length l ≤ at) where
  one_past : (j : ℕ) → at ≤ j → one l j ≡ 0
  unfolding one
  one_past j h = get_or-eq_default l 0 (omega arith)

  two_past : (j : ℕ) → at ≤ j → two l j ≡ 0
  unfolding two
  two_past j h = omega (arith, one_past j h, one_past (j + 1) (omega arith))

  four_past : (j : ℕ) → at ≤ j → four l j ≡ 0
  unfolding four
  four_past j h = omega (arith, two_past j h, two_past (j + 2) (omega arith))

no_file_lem : (t : Tables) → file_of t 0 ≡ no_file
unfolding file_of
no_file_lem t = refl

module _ (t : Tables) (l : Lengths t) where
  past_file : (f : ℕ) → file_count t.file_records < f → (store_of t).file f ≡ no_file
  unfolding kind_at depth_at length_at
  past_file f h =
      let F = t.file_records in
      let r = f - 1 in
      let past : length F ≤ 8 * r = omega (arith, l.file-records) in
      free_none ((store_of t).file f)
      (record {
        kind = store_kind t f (omega arith) ∙ one_past F (8 * r) past (8 * r) (omega arith);
        depth = store_depth t f (omega arith) ∙ one_past F (8 * r) past (8 * r + 1) (omega arith);
        size = store_length t f (omega arith) ∙ four_past F (8 * r) past (8 * r + 4) (omega arith);
      })

  past_channel : (c : ℕ) → channel_count t.channel_records ≤ c → (store_of t).channel c ≡ no_channel
  unfolding channel_file_at position_at
  past_channel c h =
      let C = t.channel_records in
      let past : length C ≤ 8 * c = omega (arith, l.channel_records_lem) in
      let file = store_channel_file t c ∙ two_past C (8 * c) past (8 * c) (omega arith) in
      let posn = store_channel_position t c ∙ four_past C (8 * c) past (8 * c + 4) (omega arith) in
      λ i. record { file = file i; posn = posn i }

-- ---- from alike tables

module _ (listed : Listed) (t t' : Tables) (a : Alike listed t t') where
  abbrev s : Store
  s = store_of t

  abbrev s' : Store
  s' = store_of t'

  abbrev b : AlikeStores listed s s'
  b = a.stores

  lengths_here : Lengths t
  lengths_here = (sound_layout t a.sound_here).lengths

  lengths_there : Lengths t'
  lengths_there = (sound_layout t' a.sound_there).lengths

  -- what is no listed ordinary file is not listed
  not_listed : (f : ℕ) → listed f && eqb (s.file f).kind 1 ≡ false → listed f ≡ false
  not_listed f h =
      ⊎_elim
      (λ (l : listed f ≡ true). absurd (true≢false (sym (rw (l, b.ordinary f l)) ∙ h)))
      (λ l. l)
      (tested (listed f))

  file_in : (f : ℕ) → 0 < f → f ≤ s.file_count → SameFile listed f (s.file f) (s'.file f)
  file_in f some last =
      record {
        kind = b.kinds f some last;
        depth = same-depth listed s s' (sound_well t a.sound_here) (sound_well t' a.sound_there) b f some last;
        size = b.lengths f some last;
        bytes = λ h. b.bytes f some last (not_listed f h);
      }

  -- no file has number 0 or one past the last
  file-out : (f : ℕ) → s.file f ≡ no_file → s'.file f ≡ no_file → SameFile listed f (s.file f) (s'.file f)
  file-out f e e' = equal_file listed f (s.file f) (s'.file f) (e ∙ sym e')

  any_file : (f : ℕ) → SameFile listed f (s.file f) (s'.file f)
  unfolding store_of
  any_file f =
      ⊎_elim
      (λ (some : 0 < f). ⊎_elim
      (λ (last : f ≤ s.file_count). file_in f some last)
      (λ (past : s.file_count < f). file-out f (past_file t lengths_here f past) (past_file t' lengths_there f (omega (arith, b.files))))
      (le_or_gt f s.file_count))
      (λ (none : f ≤ 0). let e : f ≡ 0 = omega arith in rw e (file-out 0 (no_file_lem t) (no_file_lem t')))
      (lt_or_ge 0 f)

  any_channel : (c : ℕ) → s.channel c ≡ s'.channel c
  unfolding store_of
  any_channel c =
      ⊎_elim
      (λ (h : c < s.channel_count). λ i. record { file = b.held c h i; posn = b.positions c h i })
      (λ (past : s.channel_count ≤ c). past_channel t lengths_here c past ∙ sym (past_channel t' lengths_there c (omega (arith, b.channels))))
      (lt_or_ge c s.channel_count)

  root_unlisted : listed root ≡ false
  unfolding store_of
  root_unlisted =
      let w = sound_well t a.sound_here in
      directory_unlisted listed s s' w (sound_well t' a.sound_there) b root (w.top lengths_here.some_files).kind

  pub same_stores : SameStore listed s s'
  same_stores =
      record {
        blocks = b.blocks;
        files = b.files;
        channels = b.channels;
        root_unlisted = root_unlisted;
        file = any_file;
        channel = any_channel;
      }

-- ---- back, with the list as a call leaves it

module _ (listed : Listed) (s s' : Store) (call call' : Call) (g : Given listed s s' call call') where
  -- what create empties is equal
  emptied_bytes : (f : ℕ) → empties call s f ≡ true → ((left call s).file f).bytes ≡ ((left call' s').file f).bytes
  unfolding empties
  emptied_bytes f e =
      let (is, again) = both (is_create call) (rewrites (changes_of (meaning call s)) f) e in
      ap (λ (x : File). x.bytes) (rewritten_equal (changes_of (meaning call s)) s s' f (inr again))
      ∙ ap (λ changes. ((after_all s' changes).file f).bytes) (g.changes is)

  still_bytes : (f : ℕ) → listed_after listed call s f ≡ false → ((left call s).file f).bytes ≡ ((left call' s').file f).bytes
  unfolding listed_after
  still_bytes f h =
      ⊎_elim
      (λ (l : listed f && eqb ((left call s).file f).kind 1 ≡ true). emptied_bytes f (not-false (empties call s f) (rw l at h)))
      (λ (l : listed f && eqb ((left call s).file f).kind 1 ≡ false). (g.stores.file f).bytes l)
      (tested (listed f && eqb ((left call s).file f).kind 1))

  pub alike-left : AlikeStores (listed_after listed call s) (left call s) (left call' s')
  unfolding listed_after
  alike-left =
      record {
        blocks = g.stores.blocks;
        files = g.stores.files;
        channels = g.stores.channels;
        ordinary = λ f h. eqb-true _ _ (three (listed f) (eqb ((left call s).file f).kind 1) (not (empties call s f)) h).1;
        kinds = λ f some last. (g.stores.file f).kind;
        lengths = λ f some last. (g.stores.file f).size;
        bytes = λ f some last h. still_bytes f h;
        held = λ c h. ap (λ (y : Channel). y.file) (g.stores.channel c);
        positions = λ c h. ap (λ (y : Channel). y.posn) (g.stores.channel c);
      }
