-- The source's state of a store keeps the source's invariants, and every call keeps them.
use Rattle.std.specs.Prelude.{◌≤◌, ◌≡◌, ◌≢◌, [], true, length}
use Rattle.meaning.specs.Name.{most_syllables}
use Rattle.meaning.specs.Store.{Store, after_all, root, front, last}
use Rattle.meaning.specs.Tables.{Tables, store_of}
use Rattle.meaning.specs.Sound.{sound}
use Rattle.meaning.specs.Run.{Call, meaning, changes_of}
use Rattle.lookup.specs.Walk.{walk}
use Rattle.source.specs.Sets.{◌∈dom◌}
use Rattle.source.specs.Channels.{AS}
use Rattle.source.specs.Naming.{NAME, NS, applied, dirstored}
use Rattle.source.specs.Filing.{FS}
use Rattle.source.specs.View.{numbered, view, dirformat, RootFid}
use Rattle.source.specs.Accepted.{Ready}

pub record StateHolds (s : Store) : Type 0 where
  pub access : AS (view s).fstore (view s).cstore
  pub names : NS (view s).nstore (view s).dnames
  pub stored : dirstored dirformat RootFid (view s).fstore (view s).nstore (view s).dnames
  pub filing : FS (view s)
  -- the source's rule speaks of names in the name store only; here every syllable of a directory makes a name
  pub whole : (name : NAME) → name ≢ [] → (view s).dnames (front name) ≡ true
      → (view s).nstore name ≡ applied (λ dir. dirformat dir (last name)) (applied (view s).fstore ((view s).nstore (front name)))
  -- a name looked up from the left stands for the same
  pub walked : (name : NAME) → (view s).nstore name ≡ numbered (walk s root name)
  -- and has at most 8 syllables
  pub few : (name : NAME) → name ∈dom (view s).nstore → length name ≤ most_syllables

abbrev pub InvariantsHold : Type 0
InvariantsHold = (s : Store) → Ready s → StateHolds s

abbrev pub InvariantsKept : Type 0
InvariantsKept = (s : Store) → Ready s → (call : Call) → StateHolds (after_all s (changes_of (meaning call s)))

-- the store of sound tables is one that calls take
abbrev pub SoundReady : Type 0
SoundReady = (t : Tables) → sound t ≡ true → Ready (store_of t)
