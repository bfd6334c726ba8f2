-- The record that gives a name that was read to a file.
use Rattle.std.specs.Prelude.{ℕ, ◌-◌, ◌≤◌, ◌<◌, ◌≡◌, true, length, drop}
use Rattle.std.proofs.Math.Path.{ap, sym}
use Rattle.std.proofs.Common.{◌∙◌, arith}
use mathlib.Core.List.{List}
use Rattle.std.proofs.Math.Option.{some}
use Rattle.std.proofs.Math.ListN.{length-drop}
use Rattle.std.proofs.Math.Seq.{take_all}
use Rattle.meaning.specs.Name.{syllables, entry, written, is_syllable}
use Rattle.meaning.specs.Store.{last}
use Rattle.names.specs.Syllables.{part, last_start}
use Rattle.names.specs.ReadLaws.{read}
use Rattle.names.specs.LastSyllable.{last_within, last_is}
use Rattle.recording.specs.Recording.{record_of}

module _ (bytes : List ℕ) (name : List (List ℕ)) (is : syllables bytes ≡ some name) (more : 0 < length name) where
  pub start_within : last_start bytes ≤ length bytes
  start_within = last_within bytes name is more

  -- the last syllable is the part from its start to the name's end
  last-part : part bytes (last_start bytes) (length bytes) ≡ last name
  unfolding part
  last-part =
      take_all (length bytes - last_start bytes) (drop (last_start bytes) bytes) (rw length-drop (omega arith))
      ∙ sym (last_is bytes name is more)

  pub part_spelled : is_syllable (part bytes (last_start bytes) (length bytes)) ≡ true
  part_spelled = ap is_syllable last-part ∙ (read bytes name is).each (length name - 1) (omega arith)

  pub name_record : (f : ℕ) → record_of f bytes ≡ written (entry f (last name))
  unfolding record_of
  name_record f = ap (λ (l : List ℕ). written (entry f l)) last-part
