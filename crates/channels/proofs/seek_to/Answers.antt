-- Each mode is a place in the row of six.
use Rattle.meaning.specs.ChannelCalls.{seek_to}
use Rattle.channels.proofs.seek_to.Goals as goal

pub returns-in-0 : goal.returns-in-0
unfolding seek_to
returns-in-0 c = rw c.in-0.is

pub returns-in-1 : goal.returns-in-1
unfolding seek_to
returns-in-1 c = rw c.in-1.is

pub returns-in-2 : goal.returns-in-2
unfolding seek_to
returns-in-2 c = rw c.in-2.is

pub returns-in-3 : goal.returns-in-3
unfolding seek_to
returns-in-3 c = rw c.in-3.is

pub returns-in-4 : goal.returns-in-4
unfolding seek_to
returns-in-4 c = rw c.in-4.is

pub returns-in-5 : goal.returns-in-5
unfolding seek_to
returns-in-5 c = rw c.in-5.is
