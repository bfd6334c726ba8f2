-- What a statement about an accepted call says, and how it is proved.
use Rattle.std.specs.Prelude.{ℕ, ◌≤◌, ◌<◌, ◌≡◌, refl, List, ◌++◌, Bool, true, false, ◌||◌}
use Rattle.std.proofs.Common.{true≢false}
use Rattle.std.proofs.Math.Option.{Option, some}
use Rattle.meaning.specs.Store.{Store, Change, after_all}
use Rattle.meaning.specs.Result.{Result, refused, done, unless, with_syllables}
use Rattle.meaning.specs.NameCalls.{with_changes, and_then}
use Rattle.meaning.specs.declared.Report.{Report}
use Rattle.soundness.specs.Well.{Well}
use Rattle.keeping.specs.Sure.{Sure, Good, Sized, past_cause}

-- a store that calls take: well formed, with 1 to 64 files
pub record Ready (s : Store) : Type 0 where
  pub well : Well s
  pub some_file : 0 < s.file_count
  pub few-files : s.file_count ≤ 64

pub sized : (s : Store) → Ready s → Sized s
sized s ready = record { some_files = ready.some_file; few-files = ready.few-files }

-- where the call is accepted, this holds of the answer's numbers, the bytes for the lent buffer, and the changes
unfoldable pub Accepted : Result → (List ℕ → List ℕ → List Change → Type 0) → Type 0
Accepted (refused why) P = Unit {0}
Accepted (done numbers bytes changes) P = P numbers bytes changes

module _ (P : List ℕ → List ℕ → List Change → Type 0) where
  pub accepted : (numbers bytes : List ℕ) (changes : List Change) → P numbers bytes changes → Accepted (done numbers bytes changes) P
  unfolding Accepted
  accepted numbers bytes changes p = p

  refusals : (why : Report) → Accepted (refused why) P
  unfolding Accepted
  refusals why = tt

  -- past a refusal
  pub past : (t : Bool) (why : Report) (r : Result) → (t ≡ false → Accepted r P) → Accepted (unless t why r) P
  past = past_cause (λ r. Accepted r P) refusals

  -- past BadName
  pub spelled : (name : List (List ℕ)) (bytes : Option (List (List ℕ))) (r : List (List ℕ) → Result) → bytes ≡ some name
      → Accepted (r name) P → Accepted (with_syllables bytes r) P
  unfolding with_syllables
  spelled name bytes r e h = rw e h

-- what follows from what is known of an accepted call
pub accepted-map : (P Q : List ℕ → List ℕ → List Change → Type 0) (r : Result)
    → ((numbers bytes : List ℕ) (changes : List Change) → P numbers bytes changes → Q numbers bytes changes) → Accepted r P → Accepted r Q
unfolding Accepted
accepted-map P Q (refused why) f h = tt
accepted-map P Q (done numbers bytes changes) f h = f numbers bytes changes h

-- one call, then another on the store that it leaves
pub accepted_then : (s : Store) (P Q : List ℕ → List ℕ → List Change → Type 0) (r : Result) (next : Store → Result) → Good s r → Accepted r Q
    → ((numbers bytes : List ℕ) (changes : List Change) → Sure s changes → Q numbers bytes changes
    → Accepted (next (after_all s changes)) (λ more_numbers more_bytes more. P more_numbers more_bytes (changes ++ more)))
    → Accepted (and_then s r next) P
unfolding and_then with_changes Accepted
accepted_then s P Q (refused why) next good h then = tt
accepted_then s P Q (done numbers bytes changes) next good h then = go (next (after_all s changes)) (then numbers bytes changes good h)
  where
    go : (r : Result) → Accepted r (λ more_numbers more_bytes more. P more_numbers more_bytes (changes ++ more)) → Accepted (with_changes changes r) P
    go (refused why) h = tt
    go (done more_numbers more_bytes more) h = h

-- a cause of two parts that does not hold
pub neither : (a b : Bool) → a || b ≡ false → (a ≡ false) × (b ≡ false)
neither true b e = absurd (true≢false e)
neither false b e = (refl, e)
