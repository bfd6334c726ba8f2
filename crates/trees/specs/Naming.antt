-- A name's record written with a file, or blanked: who is named how often then, and what names stand for.
use Rattle.std.specs.Prelude.{ℕ, suc, ◌+◌, ◌-◌, ◌≤◌, ◌<◌, ◌≡◌, refl, ◌≢◌, List, [], true, false, length, get_or, eqb}
use Rattle.std.proofs.Math.Path.{ap}
use Rattle.std.proofs.Common.{sym, ◌∙◌, ne_eqb}
use native.Mathlib.Omega.{arith}
use Rattle.std.proofs.Math.ListN.{get_or-eq_default}
use Rattle.records.specs.Rows.{tally, lowest, lowest_from}
use Rattle.records.specs.Numbers.{one, two, two_bytes, zeros}
use Rattle.records.specs.NumberLaws.{zero_zeros}
use Rattle.records.specs.Tests.{and_both}
use Rattle.meaning.specs.Name.{Entry, entry, is_syllable, written, name_end, entry_in, is_written, blank_record, entry_at}
use Rattle.meaning.specs.Store.{Store, file, after, is_directory, named, names, last}
use Rattle.meaning.specs.NameCalls.{parent, record_for, naming, unnaming}
use Rattle.names.specs.RecordLaws.{one-padded, length-written, name_end-written, read-written}
use Rattle.soundness.specs.Well.{Well}
use Rattle.soundness.specs.WellFacts.{naming_record}
use Rattle.trees.specs.Rewrite.{Rewriting, with_record, names-after}
use Rattle.trees.specs.Entries.{not_empty, naming_syllable}
use Rattle.trees.specs.Standing.{Place}
use Rattle.trees.specs.Lookups.{KeepsDirectories}

-- ---- the two records that calls write

-- behind the name stand zeros
written_past : (e : Entry) (j : ℕ) → length e.name ≤ j → get_or (written e) (2 + j) 0 ≡ 0
unfolding written two_bytes one
written_past e j h =
    let z : 2 + j ≡ suc (suc j) = omega arith in
    rw z (one-padded e.name (14 - length e.name) j ∙ get_or-eq_default e.name 0 h)

-- what is written is written by the rule
pub is_written_lem : (e : Entry) → is_syllable e.name ≡ true → e.file < 65536 → is_written (written e) ≡ true
unfolding is_written
is_written_lem e is small =
    let end : name_end (written e) ≡ length e.name = name_end-written e is in
    and_both (is_syllable (entry_in (written e)).name) (zeros (written e) (2 + name_end (written e)) (14 - name_end (written e)))
    (rw (read-written e is small) is)
    (zero_zeros (written e) (2 + name_end (written e)) (14 - name_end (written e))
    (λ k h.
    let z : 2 + name_end (written e) + k ≡ 2 + (name_end (written e) + k) = omega arith in
    rw z (written_past e (name_end (written e) + k) (omega arith))))

pub blank_entry : entry_in blank_record ≡ entry 0 []
unfolding entry_in two one name_end lowest lowest_from
blank_entry = refl

-- the store with the name standing for file f, and with the name's record blank
abbrev pub with_name : Store → List (List ℕ) → ℕ → Store
with_name s n f = after s (file (parent s n) (naming s n f))

abbrev pub without_name : Store → List (List ℕ) → Store
without_name s n = after s (file (parent s n) (unnaming s n))

-- ---- a name's record written

module _ (s : Store) (n : List (List ℕ)) (p : Place s n) (f : ℕ) (small : f < 65536) where
  abbrev r : List ℕ
  r = written (entry f (last n))

  pub naming-entry : entry_in r ≡ entry f (last n)
  naming-entry = read-written (entry f (last n)) p.spelled small

  pub naming-rewrites : Rewriting s (parent s n) (record_for s n) r
  naming-rewrites =
      record { directory = p.directory; whole = p.whole; within = p.within; size = length-written (entry f (last n)) p.spelled }

  -- what the name stood for has one name less, and f one more
  pub names-named : (g : ℕ) → g ≢ 0 → names (with_name s n f) g + tally (eqb (named s n) g) ≡ names s g + tally (eqb f g)
  unfolding naming
  names-named g some =
      rw (p.file, naming-entry) at (names-after s (parent s n) (record_for s n) r naming-rewrites g some)

  -- where the name stood for no directory, every directory keeps its name
  pub naming_keeps : is_directory s (named s n) ≡ false → KeepsDirectories s (parent s n) (record_for s n) r
  naming_keeps plain =
      record {
        rewriting = naming-rewrites;
        old = rw p.file plain;
        fresh = rw naming-entry (λ j h other used. p.others j h other);
      }

-- ---- a name's record blanked

module _ (s : Store) (n : List (List ℕ)) (p : Place s n) where
  pub unnaming-rewrites : Rewriting s (parent s n) (record_for s n) blank_record
  unnaming-rewrites =
      record { directory = p.directory; whole = p.whole; within = p.within; size = refl }

  -- what the name stood for has one name less
  pub names_unnamed : (g : ℕ) → g ≢ 0 → names (without_name s n) g + tally (eqb (named s n) g) ≡ names s g
  unfolding unnaming
  names_unnamed g some =
      let change = names-after s (parent s n) (record_for s n) blank_record unnaming-rewrites g some in
      let now : names (with_record s (parent s n) (record_for s n) blank_record) g + tally (eqb (named s n) g) ≡ names s g + tally (eqb 0 g) = rw (p.file, blank_entry) at change in
      let none : tally (eqb 0 g) ≡ 0 = ap tally (ne_eqb 0 g (λ z. some (sym z))) in
      omega arith

  pub unnaming_keeps : Well s → is_directory s (named s n) ≡ false → KeepsDirectories s (parent s n) (record_for s n) blank_record
  unnaming_keeps w plain =
      record {
        rewriting = unnaming-rewrites;
        old = rw p.file plain;
        fresh = rw blank_entry (λ j h other used.
            not_empty (entry_at (s.file (parent s n)).bytes j).name
            (naming_syllable s (s.file (parent s n)).bytes j (naming_record s w (parent s n) j p.directory h used)));
      }
