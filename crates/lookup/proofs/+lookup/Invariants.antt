-- Each step looks one syllable up and goes on from what it names; the number of syllables left falls.
use Rattle.lookup.proofs.+lookup.Given as goal

abbrev pub decreases-lookup : goal.decreases-lookup
decreases-lookup l = l.n
