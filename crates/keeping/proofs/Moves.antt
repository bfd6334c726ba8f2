-- A move is refused exactly where link is: after it, the old name's unlink finds the file.
use Rattle.std.specs.Prelude.{ℕ, ◌<◌, ◌≡◌, List, [], ◌∷◌, ◌++◌, false}
use Rattle.std.proofs.Math.Path.{refl, ap}
use Rattle.std.proofs.Common.{sym, ◌∙◌, arith}
use Rattle.std.proofs.Math.Option.{some}
use Rattle.meaning.specs.Name.{syllables}
use Rattle.meaning.specs.Store.{Store, Change, file, after_all, is_directory, named, let_go}
use Rattle.meaning.specs.Result.{Result, refused, done, unless, with_syllables, missing, nowhere}
use Rattle.meaning.specs.NameCalls.{parent, naming, unnaming, if_naming_fits, link, unlink, move, and_then, with_changes}
use Rattle.meaning.specs.declared.Report.{Report}
use Rattle.meaning.specs.declared.Report.TheVariants.{NoSuchName, IsDirectory}
use Rattle.soundness.specs.Use.{used}
use Rattle.soundness.specs.Well.{Well}
use Rattle.trees.specs.Standing.{Place, some_syllable, missing_some}
use Rattle.trees.specs.Naming.{with_name, without_name}
use Rattle.trees.proofs.Linked.{linked, linked_is, linked-directory, linked-named, linked_there}
use Rattle.keeping.specs.Sure.{Sized, past_cause, past_name, past_fits}
use Rattle.keeping.specs.OnChannels.{named_used}
use Rattle.keeping.proofs.Named.{plain_other, plain_place}

-- unlink of a name that stands for an ordinary file
pub unlink_done : (s : Store) (bytes : List ℕ) (n : List (List ℕ)) → syllables bytes ≡ some n → missing s n ≡ false → is_directory s (named s n) ≡ false
    → unlink bytes s ≡ done [] [] (file (parent s n) (unnaming s n) ∷ let_go (without_name s n) (named s n))
unfolding unlink with_syllables unless
unlink_done s bytes n is there plain = rw (is, there, plain)

-- an accepted second call refuses nothing
never : {A : Type 0} (changes : List Change) (r : Result) (more : List Change) → r ≡ done [] [] more → (why : Report) → with_changes changes r ≡ refused why → A
unfolding with_changes
never changes r more is why e =
    let q : done [] [] (changes ++ more) ≡ refused why = sym (ap (with_changes changes) is) ∙ e in
    let z : ◌≡◌ {A = ℕ} 0 1 = cc in
    absurd (omega arith)

module _ (s : Store) (w : Well s) (z : Sized s) (old new : List ℕ) where
  -- what a refusal of the composition says of its first part
  abbrev Refuses : Result → Type 0
  Refuses r = (why : Report) → and_then s r (unlink old) ≡ refused why → r ≡ refused why

  refuses : (why : Report) → Refuses (refused why)
  unfolding and_then
  refuses why why' e = e

  -- after link the unlink is accepted
  goes_on : (from to : List (List ℕ)) → syllables old ≡ some from → missing s from ≡ false → is_directory s (named s from) ≡ false
      → Place s to → is_directory s (named s to) ≡ false
      → Refuses (done [] [] (file (parent s to) (naming s to (named s from)) ∷ let_go (with_name s to (named s from)) (named s to)))
  unfolding and_then with_changes
  goes_on from to is there ordinary p plain why e =
      let f = named s from in
      let s' = linked s to f in
      let u = used s f (named_used s w z old from is there) in
      let small : f < 65536 = omega (arith, u.within, z.few-files) in
      let more = some_syllable s from (plain_other s w z old from is ordinary) in
      let still = linked-named s to p f small plain from more refl (missing_some s from there) in
      let unlinked = unlink_done s' old from is (linked_there s to p f small plain from more refl (missing_some s from there))
      (ap (is_directory s') still ∙ linked-directory s to p f small f ∙ ordinary) in
      let changes = file (parent s to) (naming s to f) ∷ let_go (with_name s to f) (named s to) in
      let unlinked' = ap (unlink old) (linked_is s to f) ∙ unlinked in
      never changes (unlink old (after_all s changes)) _ unlinked' why e

  link_refuses : Refuses (link old new s)
  unfolding link if_naming_fits
  link_refuses =
      past_name Refuses refuses (syllables old) _ λ from is_from.
      past_name Refuses refuses (syllables new) _ λ to is-to.
      past_cause Refuses refuses (missing s from) NoSuchName _ λ there.
      past_cause Refuses refuses (is_directory s (named s from)) IsDirectory _ λ ordinary.
      past_cause Refuses refuses (nowhere s to) NoSuchName _ λ here.
      past_cause Refuses refuses (is_directory s (named s to)) IsDirectory _ λ plain.
      past_fits Refuses refuses s _ _ _ λ size room.
      goes_on from to is_from there ordinary (plain_place s w z new to is-to here plain) plain

  pub move_refused : (why : Report) → move old new s ≡ refused why → link old new s ≡ refused why
  unfolding move
  move_refused why e = link_refuses why e

  pub link_refused : (why : Report) → link old new s ≡ refused why → move old new s ≡ refused why
  unfolding move and_then
  link_refused why e = rw e
