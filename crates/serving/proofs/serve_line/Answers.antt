-- The line asks for a call, which is served, or for none.
use Rattle.std.proofs.Common.{Some}
use Rattle.text.specs.Commands.{command_call}
use Rattle.serving.specs.Brief.{brief_asked}
use Rattle.serving.specs.ServesLaws.{unknown_served}
use Rattle.serving.proofs.serve_line.Goals as goal

pub serve-requires-clause-brief : goal.serve-requires-clause-brief
serve-requires-clause-brief c = brief_asked (Some (command_call c.in-Some.command)) c.in-Some.ensures.some_line

pub returns-in-Some : goal.returns-in-Some
returns-in-Some c = record { serves = λ bytes h. rw (c.in-Some.ensures.asked bytes h) at c.serve.ensures; fits = c.serve.ensures.lays.fits }

pub returns-in-None : goal.returns-in-None
returns-in-None c =
    record {
      serves = λ bytes h. rw (← c.in-None.ensures.asked bytes h) (unknown_served _ _ _ _ _ c.print_unknown.ensures);
      fits = c.print_unknown.ensures.fits;
    }
