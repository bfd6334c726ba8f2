-- The statements on outcomes, by what holds of stores (the files named after the calls), and by T1 and T2: the tables that a call
-- leaves hold the store that its changes leave.
use Rattle.std.specs.Prelude.{ℕ, ◌*◌, ◌≡◌, List, ◌∷◌, length, take, drop, get_or}
use Rattle.std.proofs.Math.Path.{refl, ap, sym}
use Rattle.std.proofs.Common.{◌∙◌, subst, true≢false, take_at, eq-eqb}
use Rattle.std.proofs.Math.Option.{Option, none, some}
use Rattle.std.proofs.Math.ListN.{replicate}
use Rattle.meaning.specs.File.{over}
use Rattle.meaning.specs.Name.{syllables}
use Rattle.meaning.specs.Store.{Store, Change, after_all}
use Rattle.meaning.specs.Result.{Result, refused, done, unless, with_syllables}
use Rattle.meaning.specs.NameCalls.{create, open', link, unlink, move, ls, and_then}
use Rattle.meaning.specs.Tables.{Tables, store_of, put_all}
use Rattle.meaning.specs.Run.{Call, Prepare, Room, Create, Open, Unlink, Mkdir, Rmdir, Link, Move, Ls, Close, Fstat, Read, Write, Seek, meaning, result_of, number_of, width, answer_of, bytes_of, changes_of, accepted, Outcome}
use Rattle.meaning.proofs.Determined.{same_report}
use Rattle.meaning.proofs.Refusals.{refused_row}
use Rattle.meaning.specs.declared.Report.TheVariants.{BadName, Ok}
use Rattle.keeping.proofs.Proofs.{sound-accepted, left-sound}
use Rattle.source.specs.Naming.{NAME}
use Rattle.source.specs.Accepted.{Ready, Accepted, accepted-map}
use Rattle.source.specs.Invariants.{sound_ready}
use Rattle.source.specs.ChannelStatements.{OfRead}
use Rattle.source.specs.NameStatements.{OfLs}
use Rattle.source.proofs.ChannelProofs.{read-holds, seek-holds, fstat-holds}
use Rattle.source.proofs.Writing.{write-holds}
use Rattle.source.proofs.OpenClose.{open-holds, close-holds}
use Rattle.source.proofs.Creating.{create-holds}
use Rattle.source.proofs.Unlinking.{unlink-holds}
use Rattle.source.proofs.Linking.{link-holds}
use Rattle.source.proofs.Moving.{move-holds}
use Rattle.source.proofs.Contents.{ls-holds}
use Rattle.source.specs.OutcomeStatements.{state_of, Schema, shown, Kept, OutcomeHolds, RefusedUnaltered}

-- ---- of stores

-- a name that is not written as one is refused
module _ (P : List ℕ → List ℕ → List Change → Type 0) where
  pub by_spelling : (bytes : List ℕ) (r : Result) → (syllables bytes ≡ none → r ≡ refused BadName) → ((name : NAME) → syllables bytes ≡ some name → Accepted r P) → Accepted r P
  unfolding Accepted
  by_spelling bytes r bad well = go (syllables bytes) refl
    where
      go : (o : Option NAME) → syllables bytes ≡ o → Accepted r P
      go none e = rw (bad e) tt
      go (some name) e = well name e

-- what the source does not speak of
accepted_any : (r : Result) → Accepted r (λ numbers out changes. Unit {0})
unfolding Accepted
accepted_any (refused why) = tt
accepted_any (done numbers out changes) = tt

-- every call is its schema
schema_holds : (call : Call) (s : Store) → Ready s → Accepted (meaning call s) (λ numbers out changes. Schema call s (after_all s changes) numbers out)
unfolding meaning Schema open' create unlink link move and_then ls with_syllables
schema_holds (Read c count) s ready = read-holds s ready c count
schema_holds (Write c bytes) s ready = write-holds s ready c bytes
schema_holds (Seek c mode n) s ready = seek-holds s ready c mode n
schema_holds (Fstat c) s ready = fstat-holds s ready c
schema_holds (Close c) s ready = close-holds s ready c
schema_holds (Open bytes) s ready =
    by_spelling _ bytes (open' bytes s) (λ e. rw e) (λ name e. accepted-map _ _ (open' bytes s) (λ numbers out changes h. (name, e, h)) (open-holds s ready bytes name e))
schema_holds (Create bytes) s ready =
    by_spelling _ bytes (create bytes s) (λ e. rw e) (λ name e. accepted-map _ _ (create bytes s) (λ numbers out changes h. (name, e, h)) (create-holds s ready bytes name e))
schema_holds (Unlink bytes) s ready =
    by_spelling _ bytes (unlink bytes s) (λ e. rw e) (λ name e. accepted-map _ _ (unlink bytes s) (λ numbers out changes h. (name, e, h)) (unlink-holds s ready bytes name e))
schema_holds (Link old new) s ready =
    by_spelling _ old (link old new s) (λ e. rw e) (λ oldname e.
    by_spelling _ new (link old new s) (λ h. rw (e, h)) (λ newname h.
    accepted-map _ _ (link old new s) (λ numbers out changes holds. (oldname, e, (newname, h, holds))) (link-holds s ready old new oldname newname e h)))
schema_holds (Move old new) s ready =
    by_spelling _ old (move old new s) (λ e. rw e) (λ oldname e.
    by_spelling _ new (move old new s) (λ h. rw (e, h)) (λ newname h.
    accepted-map _ _ (move old new s) (λ numbers out changes holds. (oldname, e, (newname, h, holds))) (move-holds s ready old new oldname newname e h)))
schema_holds (Ls bytes size) s ready =
    by_spelling _ bytes (ls bytes size s) (λ e. rw e) (λ name e. accepted-map _ _ (ls bytes size s) (λ numbers out changes h. (name, e, h)) (ls-holds s ready bytes name e size))
schema_holds Prepare s ready = accepted_any (meaning Prepare s)
schema_holds Room s ready = accepted_any (meaning Room s)
schema_holds (Mkdir bytes) s ready = accepted_any (meaning (Mkdir bytes) s)
schema_holds (Rmdir bytes) s ready = accepted_any (meaning (Rmdir bytes) s)

-- ---- of outcomes

-- the buffer's first bytes are those that the call gives
first-bytes : (n : ℕ) (buffer out : List ℕ) → length out ≡ n → out ≡ take n (over buffer out)
first-bytes n buffer out e = sym (take_at out (drop (length out) buffer) n e)

shown-bytes : (call : Call) (s s' : Store) (numbers buffer out : List ℕ) → Schema call s s' numbers out → Schema call s s' numbers (take (shown call numbers) (over buffer out))
unfolding Schema shown
shown-bytes (Read c count) s s' numbers buffer out h =
    subst (λ (l : List ℕ). OfRead c count s s' numbers l) (first-bytes (get_or numbers 0 0) buffer out (sym (ap (λ (l : List ℕ). get_or l 0 0) h.1))) h
shown-bytes (Write c bytes) s s' numbers buffer out h = h
shown-bytes (Seek c mode n) s s' numbers buffer out h = h
shown-bytes (Fstat c) s s' numbers buffer out h = h
shown-bytes (Close c) s s' numbers buffer out h = h
shown-bytes (Open bytes) s s' numbers buffer out h = h
shown-bytes (Create bytes) s s' numbers buffer out h = h
shown-bytes (Unlink bytes) s s' numbers buffer out h = h
shown-bytes (Link old new) s s' numbers buffer out h = h
shown-bytes (Move old new) s s' numbers buffer out h = h
shown-bytes (Ls bytes size) s s' numbers buffer out (name, e, h) =
    let size_is : length out ≡ 14 * get_or numbers 0 0 = h.3 ∙ ap (λ (l : List ℕ). 14 * get_or l 0 0) (sym h.2) in
    (name, e, subst (λ (l : List ℕ). OfLs name s s' numbers l) (first-bytes (14 * get_or numbers 0 0) buffer out size_is) h)
shown-bytes Prepare s s' numbers buffer out h = h
shown-bytes Room s s' numbers buffer out h = h
shown-bytes (Mkdir bytes) s s' numbers buffer out h = h
shown-bytes (Rmdir bytes) s s' numbers buffer out h = h

module _ (call : Call) (t : Tables) (buffer : List ℕ) (o : Outcome) (kept : Kept call t buffer o) where
  abbrev s : Store
  s = store_of t

  pub result_is : result_of call t ≡ meaning call s
  unfolding result_of unless
  result_is = rw (sound-accepted call t kept.0)

  -- the tables that the call leaves hold the store that its changes leave
  pub store_left : store_of o.tables ≡ after_all s (changes_of (meaning call s))
  store_left = ap store_of (kept.1.leaves ∙ ap (λ (r : Result). put_all t (changes_of r)) result_is) ∙ (left-sound call t kept.0).holding.stored

  module _ (numbers : List ℕ) (ok : o.answer ≡ accepted numbers) where
    by_result : (r : Result) → meaning call s ≡ r → Schema call s (store_of o.tables) numbers (take (shown call numbers) o.buffer)
    unfolding answer_of bytes_of changes_of Accepted number_of
    by_result (refused why) is =
        let (refuses, row) = refused_row call t why (result_is ∙ is) in
        let head : 0 ∷ numbers ≡ number_of why ∷ replicate (width call) 0 = sym ok ∙ kept.1.answers ∙ row in
        let zero_number : number_of why ≡ 0 = cc in
        absurd (true≢false (sym (eq-eqb (number_of why) 0 zero_number) ∙ refuses))
    by_result (done ns bytes changes) is =
        let answer : accepted numbers ≡ accepted ns = sym ok ∙ kept.1.answers ∙ ap (answer_of (width call)) (result_is ∙ is) in
        let same : numbers ≡ ns = cc in
        let filled : o.buffer ≡ over buffer bytes = kept.1.fills ∙ ap (λ (r : Result). over buffer (bytes_of r)) (result_is ∙ is) in
        let left : store_of o.tables ≡ after_all s changes = store_left ∙ ap (λ (r : Result). after_all s (changes_of r)) is in
        let holds : Schema call s (after_all s changes) ns bytes = rw is at (schema_holds call s (sound_ready t kept.0)) in
        rw (filled, left, same) (shown-bytes call s (after_all s changes) ns buffer bytes holds)

    pub of_outcome : Schema call s (store_of o.tables) numbers (take (shown call numbers) o.buffer)
    of_outcome = by_result (meaning call s) refl

pub outcome-holds : OutcomeHolds
outcome-holds = of_outcome

-- ---- refusals

pub refused_unaltered : RefusedUnaltered
unfolding answer_of bytes_of changes_of put_all
refused_unaltered call t buffer o p why n numbers e = go (result_of call t) refl
  where
    go : (r : Result) → result_of call t ≡ r → (numbers ≡ replicate (width call) 0) × (o.buffer ≡ buffer) × (o.tables ≡ t) × (state_of o.tables ≡ state_of t)
    go (refused other) is =
        let row = (refused_row call t other is).1 in
        let answer : number_of why ∷ numbers ≡ number_of other ∷ replicate (width call) 0 = sym e ∙ p.answers ∙ row in
        let rest : numbers ≡ replicate (width call) 0 = cc in
        let stay : o.tables ≡ t = p.leaves ∙ ap (λ (r : Result). put_all t (changes_of r)) is in
        (rest, p.fills ∙ ap (λ (r : Result). over buffer (bytes_of r)) is, stay, ap state_of stay)
    go (done ns bytes changes) is =
        let answer : number_of why ∷ numbers ≡ accepted ns = sym e ∙ p.answers ∙ ap (answer_of (width call)) is in
        let number : number_of why ≡ number_of Ok = cc in
        absurd (n (same_report why Ok number))
