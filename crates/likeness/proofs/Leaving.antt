-- What leaves the list: all that prepare frees, and the file that create opens.
use Rattle.std.specs.Prelude.{ℕ, ◌≡◌, Bool, false, not, ◌&&◌, eqb}
use Rattle.std.proofs.Math.Path.{refl}
use Rattle.std.proofs.Common.{sym}
use mathlib.Core.List.{List, [], ◌∷◌}
use Rattle.std.proofs.Math.Option.{Option, none, some}
use Rattle.std.proofs.Math.Bool.{true}
use borrow.Author.Tests.{eq-eqb}
use Rattle.records.specs.Rows.{pick}
use Rattle.records.specs.Tests.{and_false, or_right}
use Rattle.meaning.specs.Name.{syllables}
use Rattle.meaning.specs.Store.{Store, File, file, channel, root, directory, no_file, ordinary, channel_to, after, after_all, free_file, free_channel, named}
use Rattle.meaning.specs.Result.{Result, refused, done, unless, with_syllables, missing, if_fits}
use Rattle.meaning.specs.NameCalls.{create, parent, naming, if_naming_fits}
use Rattle.meaning.specs.Run.{Prepare, Create, meaning, answer_of, changes_of, accepted}
use Rattle.meaning.proofs.AnswerLaws.{never_accepted}
use Rattle.meaning.specs.declared.Report.{Report}
use Rattle.meaning.specs.declared.Report.TheVariants.{BadName}
use Rattle.likeness.specs.Alike.{Listed, rewrites, is_create, empties, left, listed_after}

-- prepare clears the list
pub prepare_clears : (listed : Listed) (s : Store) (f : ℕ) → listed_after listed Prepare s f ≡ false
unfolding listed_after meaning changes_of after_all after
prepare_clears listed s f = go (eqb f root) (listed f)
  where
    go : (t l : Bool) → l && eqb (pick t (directory 0 []) no_file).kind 1 && not (empties Prepare s f) ≡ false
    go true l = rw (and_false l)
    go false l = rw (and_false l)

-- ---- create

-- what holds of a refusal and of what follows holds of both
pub unless_either : (P : Result → Type 0) (t : Bool) (why : Report) (r : Result) → P (refused why) → P r → P (unless t why r)
unfolding unless
unless_either P true why r refusal h = refusal
unless_either P false why r refusal h = h

-- the file that the answered channel holds was written anew
abbrev Opens : Store → Result → Type 0
Opens s r = (c : ℕ) → answer_of 1 r ≡ accepted (c ∷ []) → rewrites (changes_of r) ((after_all s (changes_of r)).channel c).file ≡ true

module _ (s : Store) where
  refuses : (why : Report) → Opens s (refused why)
  unfolding answer_of
  refuses why c e = absurd (never_accepted 1 c [] why (sym e))

  unless_opens : (t : Bool) (why : Report) (r : Result) → Opens s r → Opens s (unless t why r)
  unless_opens t why r h = unless_either (Opens s) t why r (refuses why) h

  pick_opens : (t : Bool) (r r' : Result) → Opens s r → Opens s r' → Opens s (pick t r r')
  pick_opens true r r' h h' = h
  pick_opens false r r' h h' = h'

  syllables_opens : (o : Option (List (List ℕ))) (r : List (List ℕ) → Result) → ((name : List (List ℕ)) → Opens s (r name)) → Opens s (with_syllables o r)
  unfolding with_syllables
  syllables_opens none r h = refuses BadName
  syllables_opens (some name) r h = h name

  -- an existing file f, and a new one with its directory p
  opens_old : (f c : ℕ) → Opens s (done (c ∷ []) [] (file f (ordinary []) ∷ channel c (channel_to f 0) ∷ []))
  unfolding answer_of changes_of after_all after rewrites
  opens_old f c c' e =
      let same : c' ≡ c = cc in
      rw (same, eq-eqb c c refl, eq-eqb f f refl)

  opens_new : (p : ℕ) (x : File) (f c : ℕ) → Opens s (done (c ∷ []) [] (file p x ∷ file f (ordinary []) ∷ channel c (channel_to f 0) ∷ []))
  unfolding answer_of changes_of after_all after rewrites
  opens_new p x f c c' e =
      let same : c' ≡ c = cc in
      rw (same, eq-eqb c c refl, eq-eqb f f refl) (or_right (eqb p f) true refl)

  create_opens : (bytes : List ℕ) → Opens s (create bytes s)
  unfolding create if_naming_fits if_fits
  create_opens bytes =
      syllables_opens (syllables bytes) _ λ name.
      unless_opens _ _ _
      (unless_opens _ _ _
      (unless_opens _ _ _
      (pick_opens (missing s name) _ _
      (unless_opens _ _ _ (unless_opens _ _ _ (unless_opens _ _ _ (opens_new (parent s name) (naming s name (free_file s)) (free_file s) (free_channel s)))))
      (opens_old (named s name) (free_channel s)))))

created_emptied : (s : Store) (bytes : List ℕ) (c : ℕ) → answer_of 1 (meaning (Create bytes) s) ≡ accepted (c ∷ [])
    → empties (Create bytes) s ((left (Create bytes) s).channel c).file ≡ true
unfolding empties is_create meaning
created_emptied s bytes c e = create_opens s bytes c e

-- the file that create opens a channel to is not listed afterwards
pub created_unlisted : (listed : Listed) (s : Store) (bytes : List ℕ) (c : ℕ) → answer_of 1 (meaning (Create bytes) s) ≡ accepted (c ∷ [])
    → listed_after listed (Create bytes) s ((left (Create bytes) s).channel c).file ≡ false
unfolding listed_after
created_unlisted listed s bytes c e =
    let f = ((left (Create bytes) s).channel c).file in
    rw (created_emptied s bytes c e) (and_false (listed f && eqb ((left (Create bytes) s).file f).kind 1))
