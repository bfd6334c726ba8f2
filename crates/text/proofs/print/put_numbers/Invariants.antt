-- The numbers passed stand in their places, each in eleven bytes at most.
use Rattle.std.proofs.Common.{◌+◌, ◌*◌, ◌≤◌, ◌≡◌, length, take}
use Rattle.text.specs.Print.{spaced}
use Rattle.text.specs.Lays.{Lays}
use Rattle.text.proofs.print.put_numbers.Given as goal

abbrev pub invariant-loop-n : goal.invariant-loop-n
invariant-loop-n l =
    record {
      size : length l.out ≡ length l.initial.out;
      near : l.next ≤ l.at + 11 * l.n-index;
      lays : Lays l.initial.out l.at (spaced (take l.n-index l.numbers)) l.out l.next;
    }
