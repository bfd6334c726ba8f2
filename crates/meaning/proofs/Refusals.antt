-- A refused call answers its report's number and zeros, and the number is never Ok's (01: "a refusal has every other number zero").
use Rattle.std.specs.Prelude.{ℕ, ◌≡◌, refl, List, ◌∷◌, ◌++◌, Bool, true, false, eqb, replicate, Err}
use Rattle.std.proofs.Common.{ap, ◌∙◌, arith}
use Rattle.std.proofs.Math.Option.{Option, none, some}
use Rattle.records.specs.Rows.{pick}
use Rattle.meaning.specs.Name.{syllables}
use Rattle.meaning.specs.Store.{Store, Change, after_all, free_file}
use Rattle.meaning.specs.Result.{Result, refused, done, unless, on_channel, with_syllables, missing, all_used, if_fits}
use Rattle.meaning.specs.ChannelCalls.{close, read, write, seek, fstat, room}
use Rattle.meaning.specs.NameCalls.{create, open', link, unlink, with_changes, and_then, move, mkdir, rmdir, ls, naming, if_naming_fits}
use Rattle.meaning.specs.Tables.{Tables, store_of}
use Rattle.meaning.specs.Run.{Call, Prepare, Room, Create, Open, Unlink, Mkdir, Rmdir, Link, Move, Ls, Close, Fstat, Read, Write, Seek, meaning, result_of, width, refusal, answer_of, number_of}
use Rattle.meaning.specs.Answers.{reported}
use Rattle.meaning.specs.declared.Report.{Report}
use Rattle.meaning.specs.declared.Report.TheVariants.{NotAStore, BadName, NoFreeFids}

-- ---- rows of refusals

-- its number is not Ok's
abbrev pub IsNo : Report → Type 0
IsNo why = eqb (number_of why) 0 ≡ false

-- a report alone
pub refusal-alone : (why : Report) → IsNo why → refusal 0 why ≡ reported (Err why)
unfolding refusal
refusal-alone why e = rw e

refusal-row : (n : ℕ) (why : Report) → IsNo why → refusal n why ≡ number_of why ∷ replicate n 0
unfolding refusal
refusal-row n why e = rw e

-- ---- no call is refused with Ok

-- where a result is a refusal, it is not with Ok
Refuses : Result → Type 0
Refuses r = (why : Report) → r ≡ refused why → IsNo why

by_cause : (cause : Report) → IsNo cause → Refuses (refused cause)
unfolding Refuses
by_cause cause h why e = let same : why ≡ cause = cc in rw same h

never : (ns bytes : List ℕ) (changes : List Change) → Refuses (done ns bytes changes)
unfolding Refuses
never ns bytes changes why e = let z : ◌≡◌ {A = ℕ} 0 1 = cc in absurd (omega arith)

or_else : (t : Bool) (cause : Report) (r : Result) → IsNo cause → Refuses r → Refuses (unless t cause r)
unfolding unless
or_else true cause r h rest = by_cause cause h
or_else false cause r h rest = rest

either : (t : Bool) (r r' : Result) → Refuses r → Refuses r' → Refuses (pick t r r')
either true r r' a b = a
either false r r' a b = b

on_name_lem : (read : Option (List (List ℕ))) (r : List (List ℕ) → Result) → ((name : List (List ℕ)) → Refuses (r name)) → Refuses (with_syllables read r)
unfolding with_syllables number_of
on_name_lem none r rest = by_cause BadName refl
on_name_lem (some name) r rest = rest name

on_channel_lem : (s : Store) (c : ℕ) (r : Result) → Refuses r → Refuses (on_channel s c r)
unfolding on_channel number_of
on_channel_lem s c r rest = or_else _ _ r refl rest

if_fits_lem : (s : Store) (old new : ℕ) (r : Result) → Refuses r → Refuses (if_fits s old new r)
unfolding if_fits number_of
if_fits_lem s old new r rest = or_else _ _ _ refl (or_else _ _ r refl rest)

with_changes_lem : (changes : List Change) (r : Result) → Refuses r → Refuses (with_changes changes r)
unfolding with_changes
with_changes_lem changes (refused why) rest = rest
with_changes_lem changes (done ns bytes more) rest = never ns bytes (changes ++ more)

and_then_lem : (s : Store) (r : Result) (next : Store → Result) → Refuses r → ((x : Store) → Refuses (next x)) → Refuses (and_then s r next)
unfolding and_then
and_then_lem s (refused why) next rest more = rest
and_then_lem s (done ns bytes changes) next rest more = with_changes_lem changes (next (after_all s changes)) (more (after_all s changes))

link_refuses : (old new : List ℕ) (s : Store) → Refuses (link old new s)
unfolding link if_naming_fits number_of
link_refuses old new s =
    on_name_lem (syllables old) _ λ from.
    on_name_lem (syllables new) _ λ to.
    or_else _ _ _ refl
    (or_else _ _ _ refl
    (or_else _ _ _ refl
    (or_else _ _ _ refl
    (if_fits_lem s _ _ _
    (never _ _ _)))))

unlink_refuses : (bytes : List ℕ) (s : Store) → Refuses (unlink bytes s)
unfolding unlink number_of
unlink_refuses bytes s =
    on_name_lem (syllables bytes) _ λ name.
    or_else _ _ _ refl
    (or_else _ _ _ refl
    (never _ _ _))

call_refuses : (call : Call) (s : Store) → Refuses (meaning call s)
unfolding meaning close read write seek fstat room create open' move mkdir rmdir ls if_naming_fits number_of
call_refuses Prepare s = never _ _ _
call_refuses Room s = never _ _ _
call_refuses (Create name) s =
    on_name_lem (syllables name) _ λ name.
    or_else _ _ _ refl
    (or_else _ _ _ refl
    (or_else _ _ _ refl
    (either (missing s name)
    (unless (all_used s) NoFreeFids (if_naming_fits s name (naming s name (free_file s)) (done _ _ _)))
    (done _ _ _)
    (or_else (all_used s) _ _ refl (if_fits_lem s _ _ _ (never _ _ _)))
    (never _ _ _))))
call_refuses (Open name) s =
    on_name_lem (syllables name) _ λ name.
    or_else _ _ _ refl (or_else _ _ _ refl (never _ _ _))
call_refuses (Unlink name) s = unlink_refuses name s
call_refuses (Mkdir name) s =
    on_name_lem (syllables name) _ λ name.
    or_else _ _ _ refl
    (or_else _ _ _ refl
    (or_else _ _ _ refl
    (or_else _ _ _ refl (if_fits_lem s _ _ _ (never _ _ _)))))
call_refuses (Rmdir name) s =
    on_name_lem (syllables name) _ λ name.
    or_else _ _ _ refl
    (or_else _ _ _ refl
    (or_else _ _ _ refl (or_else _ _ _ refl (never _ _ _))))
call_refuses (Link old new) s = link_refuses old new s
call_refuses (Move old new) s = and_then_lem s (link old new s) (unlink old) (link_refuses old new s) (unlink_refuses old)
call_refuses (Ls name size) s =
    on_name_lem (syllables name) _ λ name.
    or_else _ _ _ refl
    (or_else _ _ _ refl (or_else _ _ _ refl (never _ _ _)))
call_refuses (Close c) s = on_channel_lem s c _ (never _ _ _)
call_refuses (Fstat c) s = on_channel_lem s c _ (never _ _ _)
call_refuses (Read c count) s = on_channel_lem s c _ (never _ _ _)
call_refuses (Write c bytes) s = on_channel_lem s c _ (or_else _ _ _ refl (if_fits_lem s _ _ _ (never _ _ _)))
call_refuses (Seek c mode n) s = on_channel_lem s c _ (or_else _ _ _ refl (never _ _ _))

-- the theorem: where a call is refused, its answer is the report's number, which is not 0, and zeros
pub refused_row : (call : Call) (t : Tables) (why : Report) → result_of call t ≡ refused why
    → (eqb (number_of why) 0 ≡ false) × (answer_of (width call) (result_of call t) ≡ number_of why ∷ replicate (width call) 0)
unfolding answer_of result_of Refuses number_of
refused_row call t why e =
    let h = or_else _ NotAStore _ refl (call_refuses call (store_of t)) why e in
    (h, ap (answer_of (width call)) e ∙ refusal-row (width call) why h)
