-- A well-formed store in two parts: the shape of files, channels and records; and the names that files need, but for one file
-- whose name a change takes or has still to give.
use Rattle.std.specs.Prelude.{ℕ, ◌+◌, ◌≤◌, ◌<◌, ◌≡◌, ◌≢◌, ◌⊎◌, List, true, false}
use Rattle.std.proofs.Common.{◌∙◌, ⊎_elim, arith}
use Rattle.records.specs.Tests.{same_or_not}
use Rattle.meaning.specs.Name.{record_count, record_at, entry_at, is_blank, same}
use Rattle.meaning.specs.Store.{Store, Channel, root, in_use, is_directory, names, held}
use Rattle.soundness.specs.Use.{used, directory_used}
use Rattle.soundness.specs.Well.{FileForm, TopDirectory, ChannelForm, RecordForm, as_blank, as_naming, Well}

-- all rules of Well that count no names
pub record Shape (s : Store) : Type 0 where
  pub files : (f : ℕ) → 0 < f → f ≤ s.file_count → FileForm (s.file f)
  pub top : 0 < s.file_count → TopDirectory (s.file root)
  pub below : (f : ℕ) → f ≢ root → is_directory s f ≡ true → 0 < (s.file f).depth
  pub channels : (c : ℕ) → c < s.channel_count → ChannelForm s (s.channel c)
  pub records : (d i : ℕ) → is_directory s d ≡ true → i < record_count (s.file d).bytes → RecordForm s (s.file d).bytes i
  pub distinct : (d j i : ℕ) → is_directory s d ≡ true → j < i → i < record_count (s.file d).bytes → is_blank (s.file d).bytes i ≡ false
      → same (entry_at (s.file d).bytes j).name (entry_at (s.file d).bytes i).name ≡ false
  pub deeper : (d i : ℕ) → is_directory s d ≡ true → i < record_count (s.file d).bytes → is_directory s (entry_at (s.file d).bytes i).file ≡ true
      → (s.file (entry_at (s.file d).bytes i).file).depth ≡ (s.file d).depth + 1

-- the rules that do, of every file but g
pub record Counted (g : ℕ) (s : Store) : Type 0 where
  pub once : (f : ℕ) → f ≢ g → is_directory s f ≡ true → f ≢ root → names s f ≡ 1
  pub kept : (f : ℕ) → f ≢ g → in_use s f ≡ true → is_directory s f ≡ false → (0 < names s f) ⊎ (held s f ≡ true)

module _ (s : Store) where
  pub shape : Well s → Shape s
  shape w =
      record {
        files = w.files;
        top = w.top;
        below = w.below;
        channels = w.channels;
        records = w.records;
        distinct = w.distinct;
        deeper = w.deeper;
      }

  pub counted : Well s → (g : ℕ) → Counted g s
  counted w g = record { once = λ f n. w.once f; kept = λ f n. w.kept f }

  -- there is no file 0
  pub well_again : Shape s → Counted 0 s → Well s
  well_again h c =
      record {
        files = h.files;
        top = h.top;
        below = h.below;
        channels = h.channels;
        records = h.records;
        distinct = h.distinct;
        deeper = h.deeper;
        once = λ f is. c.once f (λ z. let u = directory_used s f is in omega (arith, u.some)) is;
        kept = λ f is. c.kept f (λ z. let u = used s f is in omega (arith, u.some)) is;
      }

  -- what holds of file g too holds of all
  pub count_in : (g : ℕ) → Counted g s → (is_directory s g ≡ true → g ≢ root → names s g ≡ 1)
      → (in_use s g ≡ true → is_directory s g ≡ false → (0 < names s g) ⊎ (held s g ≡ true)) → Counted 0 s
  count_in g c once kept =
      record {
        once = λ f n is other. ⊎_elim (λ (e : f ≡ g). rw e (once (rw e at is) (rw e at other))) (λ (d : f ≢ g). c.once f d is other) (same_or_not f g);
        kept = λ f n is plain. ⊎_elim (λ (e : f ≡ g). rw e (kept (rw e at is) (rw e at plain))) (λ (d : f ≢ g). c.kept f d is plain) (same_or_not f g);
      }

-- ---- forms in a store with other files in use

module _ (s s' : Store) where
  pub channel_moved : (y : Channel) → (in_use s y.file ≡ true → in_use s' y.file ≡ true) → ChannelForm s y → ChannelForm s' y
  channel_moved y still (ChannelForm.as_free_lem h) = ChannelForm.as_free_lem h
  channel_moved y still (ChannelForm.as_open h) = ChannelForm.as_open (record { is_in_use = still h.is_in_use; posn = h.posn })

  pub record_moved : (dir dir' : List ℕ) (i : ℕ) → is_blank dir' i ≡ is_blank dir i → record_at dir' i ≡ record_at dir i
      → (in_use s (entry_at dir i).file ≡ true → in_use s' (entry_at dir i).file ≡ true) → RecordForm s dir i → RecordForm s' dir' i
  unfolding entry_at
  record_moved dir dir' i blank e still (as_blank b) = as_blank (blank ∙ b)
  record_moved dir dir' i blank e still (as_naming h) =
      as_naming (record { is_in_use = rw e (still h.is_in_use); not_root = rw e h.not_root; written = rw e h.written })
