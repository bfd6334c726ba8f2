-- Bytes laid into a lent buffer from a place on, all others as they were, and the place behind them, which is still within.
use Rattle.std.specs.Prelude.{ℕ, ◌+◌, ◌≤◌, ◌≡◌, List, length}
use Rattle.std.proofs.lemmas.List.Edits.{sets}

pub record Lays (out : List ℕ) (at : ℕ) (bytes : List ℕ) (after : List ℕ) (next : ℕ) : Type 0 where
  pub lies : after ≡ sets out at bytes
  pub ends : next ≡ at + length bytes
  pub fits : next ≤ length after

-- the same, of so many bytes at most
pub record LaysAtMost (most : ℕ) (out : List ℕ) (at : ℕ) (bytes : List ℕ) (after : List ℕ) (next : ℕ) : Type 0 where
  pub lays : Lays out at bytes after next
  pub near : next ≤ at + most

-- room enough for a line without hex
abbrev pub short_line : ℕ
short_line = 64
