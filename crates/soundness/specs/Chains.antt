-- Chains of a directory's records: records of one name belong to one chain, so a name is compared with those of its chain alone.
use Rattle.std.specs.Prelude.{ℕ, ◌+◌, ◌*◌, ◌/◌, ◌%◌, ◌≤◌, ◌<◌, ◌≡◌, ◌≢◌, List, length, get_or}
use Rattle.records.specs.Numbers.{two, four}
use Rattle.soundness.specs.Slots.{slot}
use Rattle.soundness.specs.RecordRules.{Filled}

-- zeros stand behind the name of each of the first n records of a directory
pub record Padded (blocks starts : List ℕ) (n : ℕ) : Type 0 where
  pub each : (i : ℕ) → i < n → Filled blocks (16 * slot starts i)

-- the chain of the record that starts at a place of a table: the 14 bytes of its name, mixed
unfoldable pub chain_from : List ℕ → ℕ → ℕ
chain_from table at =
    (663608941 * four table (at + 2) + 1013904223 * four table (at + 6) + 741103597 * four table (at + 10) + 597273977 * two table (at + 14)) / 67108864 % 1024

-- the chain of record i of a directory
unfoldable pub chain_at : List ℕ → List ℕ → ℕ → ℕ
chain_at blocks starts i = chain_from blocks (16 * slot starts i)

-- x is one more than the last record of chain h before record i, or 0 where there is none
pub record Last (blocks starts : List ℕ) (h i x : ℕ) : Type 0 where
  pub low : x ≤ i
  pub there : (j : ℕ) → x ≡ j + 1 → chain_at blocks starts j ≡ h
  pub none : (j : ℕ) → x ≤ j → j < i → chain_at blocks starts j ≢ h

-- a row of the last record of each chain before record i
pub record Lasts (blocks starts : List ℕ) (i : ℕ) (lasts : List ℕ) : Type 0 where
  pub size : length lasts ≡ 1024
  pub each : (h : ℕ) → h < 1024 → Last blocks starts h i (get_or lasts h 0)

-- a row that has, for each record before record i, the last one before it of its chain
pub record Links (blocks starts : List ℕ) (i : ℕ) (links : List ℕ) : Type 0 where
  pub size : length links ≡ 2048
  pub each : (k : ℕ) → k < i → Last blocks starts (chain_at blocks starts k) k (get_or links k 0)
