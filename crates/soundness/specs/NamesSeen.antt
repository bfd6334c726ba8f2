-- The rules of names as the code tests them: directories one by one, then the counts of names.
use Prim.Native.Nat.{ℕ, zero, suc, ◌≤◌, ◌<◌}
use Rattle.std.specs.Prelude.{◌≡◌, List, [], Bool, not, ◌&&◌, ◌||◌}
use Rattle.std.proofs.Math.Path.{refl, sym, ap}
use Rattle.std.proofs.Common.{◌∙◌, arith}
use Rattle.std.proofs.Math.Bool.{true, false}
use Rattle.std.proofs.Math.ListN.{get_or}
use Rattle.records.specs.Rows.{every}
use Rattle.records.specs.RowLaws.{every_all, all_every, every_cong}
use Rattle.records.specs.Tests.{both, and_both, both_ways}
use Rattle.meaning.specs.Name.{record_count, entry_at}
use Rattle.meaning.specs.Store.{Store, in_use, is_directory, names, held}
use Rattle.meaning.specs.Tables.{Tables, tables, store_of, file_of, channel_of, byte_of, file_count}
use Rattle.meaning.specs.Sound.{record_sound, name_new, directories_sound, one_deeper, is_named}
use Rattle.soundness.specs.Rules.{deeper_than, is_named_by, named_by, all_named_by}
use Rattle.soundness.specs.Seen.{files_store, channels_store, in_use-seen, is_directory-seen, depth-seen}
use Rattle.soundness.specs.Slots.{directories_store}
use Rattle.soundness.specs.DirectoryRules.{directory_rule, directories_rule}
use Rattle.soundness.specs.Counts.{Counts, names_summed}

-- two rules of every index
every_and : (n : ℕ) (p q : ℕ → Bool) → every n (λ i. p i && q i) ≡ every n p && every n q
every_and n p q =
    both_ways (every n (λ i. p i && q i)) (every n p && every n q)
    (λ e.
    let each : (i : ℕ) → i < n → (p i ≡ true) × (q i ≡ true) = λ i h. both (p i) (q i) (every_all n (λ i. p i && q i) e i h) in
    and_both (every n p) (every n q) (all_every n p (λ i h. (each i h).0)) (all_every n q (λ i h. (each i h).1)))
    (λ e.
    let (a, b) = both (every n p) (every n q) e in
    all_every n (λ i. p i && q i) (λ i h. and_both (p i) (q i) (every_all n p a i h) (every_all n q b i h)))

-- ---- directories

module _ (s : Store) where
  -- each directory that a record names is one deeper
  abbrev deepers : ℕ → Bool
  deepers d = not (is_directory s d) || every (record_count (s.file d).bytes) (λ i. one_deeper s d i)

  abbrev pub deeper_sound : Bool
  deeper_sound = every s.file_count (λ r. deepers (suc r))

  abbrev records : ℕ → Bool
  records d = not (is_directory s d) || every (record_count (s.file d).bytes) (λ i. record_sound s (s.file d).bytes i && name_new (s.file d).bytes i)

  -- the rules of one directory are those of the store, at that directory
  one-directory : (d : ℕ) → directory_rule s d ≡ records d && deepers d
  unfolding directory_rule
  one-directory d =
      rw (every_and (record_count (s.file d).bytes) (λ i. record_sound s (s.file d).bytes i) (λ i. name_new (s.file d).bytes i)) (split (not (is_directory s d)) _ _)
    where
      split : (a b c : Bool) → a || (b && c) ≡ (a || b) && (a || c)
      split true b c = refl
      split false b c = refl

  pub directories_rules : directories_rule s ≡ directories_sound s && deeper_sound
  unfolding directories_rule directories_sound
  directories_rules =
      every_cong s.file_count (λ r. directory_rule s (suc r)) (λ r. records (suc r) && deepers (suc r)) (λ r h. one-directory (suc r))
      ∙ every_and s.file_count (λ r. records (suc r)) (λ r. deepers (suc r))

-- the rules of a directory see nothing of channel records
module _ (files dir : List ℕ) (is : Bool) (depth : ℕ) where
  abbrev rule_of : Bool
  rule_of =
      not is
      || (every (record_count dir) (λ i. record_sound (files_store files) dir i)
      && every (record_count dir) (λ i. name_new dir i)
      && every (record_count dir) (λ i. deeper_than (files_store files) depth (entry_at dir i).file))

rule-seen : (t : Tables) (d : ℕ) → directory_rule (store_of t) d ≡ rule_of t.file_records ((store_of t).file d).bytes (is_directory (files_store t.file_records) d) ((files_store t.file_records).file d).depth
unfolding directory_rule
rule-seen t d =
    let dir = ((store_of t).file d).bytes in
    let n = record_count dir in
    rw (
      is_directory-seen t d,
      every_cong n (λ i. record_sound (store_of t) dir i) (λ i. record_sound (files_store t.file_records) dir i) (λ i h. record_seen i),
      every_cong n (λ i. one_deeper (store_of t) d i) (λ i. deeper_than (files_store t.file_records) ((files_store t.file_records).file d).depth (entry_at dir i).file) (λ i h. deeper_seen i),
    )
  where
    record_seen : (i : ℕ) → record_sound (store_of t) ((store_of t).file d).bytes i ≡ record_sound (files_store t.file_records) ((store_of t).file d).bytes i
    record_seen i = unfold record_sound in rw (in_use-seen t (entry_at ((store_of t).file d).bytes i).file)

    deeper_seen : (i : ℕ) → one_deeper (store_of t) d i ≡ deeper_than (files_store t.file_records) ((files_store t.file_records).file d).depth (entry_at ((store_of t).file d).bytes i).file
    deeper_seen i =
        unfold one_deeper deeper_than in
        rw (is_directory-seen t (entry_at ((store_of t).file d).bytes i).file, depth-seen t (entry_at ((store_of t).file d).bytes i).file, depth-seen t d)

module _ (t : Tables) where
  abbrev seen : Store
  seen = directories_store t.blocks t.block_records t.file_records

  bytes-seen : (d : ℕ) → ((store_of t).file d).bytes ≡ (seen.file d).bytes
  unfolding store_of file_of byte_of
  bytes-seen zero = refl
  bytes-seen (suc r) = refl

  pub directories_rule-seen : directories_rule (store_of t) ≡ directories_rule seen
  unfolding directories_rule store_of
  directories_rule-seen =
      every_cong (file_count t.file_records) (λ r. directory_rule (store_of t) (suc r)) (λ r. directory_rule seen (suc r))
      (λ r h.
      let d = suc r in
      rule-seen t d
      ∙ ap (λ dir. rule_of t.file_records dir (is_directory (files_store t.file_records) d) ((files_store t.file_records).file d).depth) (bytes-seen d)
      ∙ sym (rule-seen (tables t.blocks t.block_records t.file_records []) d))

  -- ---- names of each file

  names-seen : (f : ℕ) → names (store_of t) f ≡ names seen f
  unfolding names is_directory in_use store_of file_of byte_of
  names-seen f = refl

  pub all_named : (counts : List ℕ) → Counts seen (file_count t.file_records) counts → file_count t.file_records ≤ 64 →
      all_named_by (channels_store t.file_records t.channel_records) counts ≡ every (store_of t).file_count (λ i. is_named (store_of t) (suc i))
  unfolding all_named_by named_by is_named_by is_named is_directory in_use held store_of file_of channel_of
  all_named counts counted few =
      every_cong (file_count t.file_records) (λ i. named_by (channels_store t.file_records t.channel_records) counts (suc i)) (λ i. is_named (store_of t) (suc i))
      (λ i (h : i < file_count t.file_records).
      let n : names (store_of t) (suc i) ≡ get_or counts (suc i) 0 = names-seen (suc i) ∙ names_summed seen (suc i) ∙ sym (counted.each (suc i) (omega arith)) in
      rw n)
