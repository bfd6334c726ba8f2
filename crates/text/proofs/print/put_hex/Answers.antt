use Rattle.std.proofs.Common.{ℕ, ◌+◌, ◌*◌, ◌≤◌, ◌≡◌, refl, List, [], ◌∷◌, length, take, arith, rules}
use Rattle.text.specs.Print.{hex}
use Rattle.text.specs.Lays.{Lays}
use Rattle.text.proofs.PrintLaws.{hex-append, each_start, each_more}
use Rattle.text.proofs.print.put_hex.Goals as goal

hex_start : (out : List ℕ) (at : ℕ) (bytes : List ℕ) → at + 2 * length bytes ≤ length out → Lays out at (hex (take 0 bytes)) out at
unfolding hex
hex_start out at bytes h = each_start hex refl out at bytes (omega arith)

next_place : (out out' : List ℕ) (at i next next' b : ℕ) → next ≡ at + 2 * i → Lays out next (hex (b ∷ [])) out' next' → next' ≡ at + 2 * (i + 1)
unfolding hex
next_place out out' at i next next' b e l = omega (arith, l.ends)

pub loop-b-init : goal.loop-b-init
loop-b-init c = record { size = refl; ends = omega arith; lays = search hex_start }

pub loop-b-preserved : goal.loop-b-preserved
loop-b-preserved c = record { size = search rules; ends = search next_place; lays = search (each_more hex hex-append) }
