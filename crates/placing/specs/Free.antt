-- Free channels and files, as a search of the records finds them.
use Rattle.std.specs.Prelude.{ℕ, ◌+◌, ◌≤◌, ◌<◌, ◌≡◌, refl, true, false, Option, Some, None, Result, Ok, Err, ok_or}
use Rattle.std.proofs.Common.{sym, ◌∙◌, arith}
use borrow.Author.Tests.{lt-ltb, le-ltb}
use Rattle.meaning.specs.Store.{Store, in_use, is_directory, free_file, free_channel}
use Rattle.meaning.specs.Tables.{Tables, store_of, file_count, channel_count}
use Rattle.meaning.specs.Sound.{sound}
use Rattle.meaning.specs.Result.{all_open, all_used}
use Rattle.meaning.specs.declared.Report.{Report}
use Rattle.meaning.specs.declared.FileNo.{FileNo}
use Rattle.meaning.specs.declared.ChannelNo.{ChannelNo}
use Rattle.tables.specs.Searches.{channel_with, channel_found, file_with, file_found}
use Rattle.tables.specs.Found.{found-file, no_file_lem, found_channel, no_channel_lem}
use Rattle.tables.specs.StoreLaws.{free_channel_lem, free_file_lem}
use Rattle.layout.specs.Layout.{sound_layout}
use Rattle.keeping.specs.Sure.{Sized}
use Rattle.keeping.proofs.Proofs as K

-- how many files tables have room for
pub sized : (t : Tables) → sound t ≡ true → Sized (store_of t)
sized t ok = K.sized t (sound_layout t ok).lengths

-- no file is no directory
pub no_directory : (s : Store) (f : ℕ) → f ≡ 0 → is_directory s f ≡ false
unfolding is_directory in_use
no_directory s f e = rw e

-- how many channels and files a search goes through
module _ (t : Tables) (ok : sound t ≡ true) where
  pub few-channels : channel_count t.channel_records ≤ 4294967296
  few-channels = omega (arith, (sound_layout t ok).lengths.few-channels)

  pub few-files : file_count t.file_records < 65536
  few-files = omega (arith, (sound_layout t ok).lengths.few-files)

-- what a search found, or the report where it found nothing
module _ {A : Type 0} (r : Report) where
  pub reports : (x : Option A) (why : Report) → ◌≡◌ {A = Result A Report} (Err why) (ok_or x r) → (x ≡ None) × (why ≡ r)
  reports None why e = (refl, cc)
  reports (Some v) why e = let z : ◌≡◌ {A = ℕ} 0 1 = cc in absurd (omega arith)

  pub finds : (x : Option A) (v : A) → ◌≡◌ {A = Result A Report} (Ok v) (ok_or x r) → x ≡ Some v
  finds None v e = let z : ◌≡◌ {A = ℕ} 0 1 = cc in absurd (omega arith)
  finds (Some w) v e = cc

module _ (t : Tables) (x : Option ChannelNo) (found : x ≡ channel_found (channel_count t.channel_records) (channel_with t.channel_records 0)) where
  abbrev its_channel : ℕ
  its_channel = channel_with t.channel_records 0

  abbrev channels : ℕ
  channels = channel_count t.channel_records

  pub no_channel_free : x ≡ None → all_open (store_of t) ≡ true
  unfolding all_open store_of
  no_channel_free e = rw (free_channel_lem t, le-ltb its_channel channels (no_channel_lem channels its_channel x found e))

  module _ (c : ChannelNo) (e : x ≡ Some c) where
    pub channel_free : free_channel (store_of t) ≡ c.0
    channel_free = free_channel_lem t ∙ sym (found_channel channels its_channel x found c e).1

    pub channel_below : c.0 < channels
    channel_below = omega (arith, found_channel channels its_channel x found c e)

    pub some_channel_free : all_open (store_of t) ≡ false
    unfolding all_open store_of
    some_channel_free = rw (channel_free, lt-ltb c.0 channels channel_below)

module _ (t : Tables) (x : Option FileNo) (found : x ≡ file_found (file_count t.file_records) (file_with t.file_records 0)) where
  abbrev its_record : ℕ
  its_record = file_with t.file_records 0

  abbrev files : ℕ
  files = file_count t.file_records

  pub no_file_free : x ≡ None → all_used (store_of t) ≡ true
  unfolding all_used store_of
  no_file_free e = rw (free_file_lem t, lt-ltb files (its_record + 1) (omega (arith, no_file_lem files its_record x found e)))

  module _ (f : FileNo) (e : x ≡ Some f) where
    pub file_free : free_file (store_of t) ≡ f.0
    file_free = free_file_lem t ∙ sym (found-file files its_record x found f e).1

    pub file-within : (0 < f.0) × (f.0 ≤ files)
    file-within = omega (arith, found-file files its_record x found f e)

    pub some_file_free : all_used (store_of t) ≡ false
    unfolding all_used store_of
    some_file_free = rw (file_free, le-ltb files f.0 file-within.1)
