use Rattle.std.proofs.Common.{rules, ℕ, ◌+◌, ◌-◌, ◌≤◌, ◌≡◌, refl, List, ◌++◌, length, take, drop, drop-drop, append_assoc, arith}
use Rattle.std.proofs.lemmas.List.Edits.{sets, sets-eq}
use Rattle.text.proofs.print.put_bytes.Goals as goal

-- a part written, and so the whole with it there
put_at : (out bytes : List ℕ) (at : ℕ) → at + length bytes ≤ length out
    → take at out ++ (bytes ++ drop (length bytes) (drop at out)) ≡ sets out at bytes
put_at out bytes at fits = rw (drop-drop (length bytes) at out, sets-eq bytes out at fits, append_assoc)

pub returns : goal.returns
returns c =
    let its_length : c.args.at + length c.args.bytes.now - c.args.at ≡ length c.args.bytes.now = omega arith in
    record {
      lies = rw (c.copy_from_slice.ensures.after, its_length) (put_at c.args.out.now c.args.bytes.now c.args.at c.requires);
      ends = refl;
      fits = search rules;
    }
