-- The part of the output that is written is as long as is said.
use Rattle.std.proofs.Common.{ℕ, ◌≤◌, ◌≡◌, sym, List, length, take, length-take-le}

pub as_long : (n : ℕ) (out : List ℕ) → n ≤ length out → n ≡ length (take n out)
as_long n out h = sym (length-take-le n out h)
