-- The bytes passed stand in hex, two digits each.
use Rattle.std.proofs.Common.{◌+◌, ◌*◌, ◌≡◌, length, take}
use Rattle.text.specs.Print.{hex}
use Rattle.text.specs.Lays.{Lays}
use Rattle.text.proofs.print.put_hex.Given as goal

abbrev pub invariant-loop-b : goal.invariant-loop-b
invariant-loop-b l =
    record {
      size : length l.out ≡ length l.initial.out;
      ends : l.next ≡ l.at + 2 * l.b-index;
      lays : Lays l.initial.out l.at (hex (take l.b-index l.bytes)) l.out l.next;
    }
