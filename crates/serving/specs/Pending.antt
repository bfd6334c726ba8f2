-- Whatever is known of the line so far, there is a line that it stands for.
use Rattle.std.specs.Prelude.{ℕ, ◌≡◌, refl, Bool, true, false, Some, List, take, replicate}
use Rattle.std.proofs.Common.{sym, subst, arith}
use Rattle.std.proofs.lemmas.List.{length-replicate}
use Rattle.text.specs.Line.{asked}
use Rattle.text.specs.Commands.{command_call, commanded}
use Rattle.text.specs.Gathering.{Kept, Fits, Pends}
use Rattle.text.specs.GatheringLaws.{still_long}
use Rattle.text.specs.declared.lines.Pending.{Pending}
use Rattle.text.specs.declared.Command.{Command}
use Rattle.serving.specs.Brief.{BriefCall, servable, asked-brief}

-- what it asks for can be served
pub asked_servable : (p : Pending) (command : Command) → Fits p
    → ((bytes : List ℕ) → Pends bytes p → commanded (Some command) ≡ asked bytes) → BriefCall (command_call command)
asked_servable p command h f = go p.long refl
  where
    of : (bytes : List ℕ) → Pends bytes p → BriefCall (command_call command)
    of bytes pends = servable command (asked bytes) (f bytes pends) (asked-brief bytes)

    go : (t : Bool) → p.long ≡ t → BriefCall (command_call command)
    go true e = of (replicate 1025 0) (still_long (replicate 1025 0) p e (omega (arith, length-replicate {A = ℕ} 1025 0)))
    go false e = of (take p.len p.bytes) (record { fits = h; keeps = subst (λ t. Kept t p.len p.bytes (take p.len p.bytes)) (sym e) refl })
