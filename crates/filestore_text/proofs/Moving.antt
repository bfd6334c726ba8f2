-- A piece served line by line: what is printed is written, or waits in the output.
use Rattle.std.proofs.Common.{ℕ, ◌≡◌, refl, sym, ap, ◌∙◌, subst, List, [], ◌++◌, append_assoc, Option, take}
use Rattle.std.specs.Prelude.{Result, Ok, Err, OnOk}
use Rattle.std.specs.Option.{unwrap_or}
use Rattle.std.specs.Io.KnownBytes.{Appends}
use Rattle.std.proofs.KnownBytes.{Appends-nil, Appends-trans}
use Rattle.meaning.specs.Tables.{Tables}
use Rattle.text.specs.Print.{transcript}
use Rattle.text.specs.Program.{unended}
use Rattle.text.specs.declared.lines.Pending.{Pending}
use Rattle.filestore_text.specs.Parts.{ServesPart, Steps, PrintsLast, WritesSome, ServesPiece, ServesLast}
use Rattle.filestore_text.specs.PartLaws.{part_none, part-behind, part_onto}

-- where a result is Ok, from one fact to another
pub on_ok : {E : Type 0} (r : Result (Unit {0}) E) (A B : Type 0) → (A → B) → OnOk r A → OnOk r B
on_ok (Ok x) A B f a = f a
on_ok (Err e) A B f a = tt

pub ok_so : {E : Type 0} (r : Result (Unit {0}) E) (A : Type 0) → A → OnOk r A
ok_so (Ok x) A a = a
ok_so (Err e) A a = tt

pub nothing_waits : (at : ℕ) (bytes : List ℕ) → at ≡ 0 → take at bytes ≡ []
nothing_waits at bytes e = rw e refl

-- a piece up to a place: a part of it is served, behind which `rest` is left
pub record SoFar (piece : List ℕ) (p₀ : Pending) (t₀ : Tables) (held₀ : Option (List ℕ)) (rest : List ℕ) (p : Pending) (t : Tables) (out : List ℕ) (held : Option (List ℕ)) : Type 0 where
  pub part : List ℕ
  pub printed : List ℕ
  pub all : piece ≡ part ++ rest
  pub serves : ServesPart part p₀ t₀ [] p t (printed ++ out)
  pub appends : Appends held₀ held printed

pub nothing_yet : (piece : List ℕ) (p : Pending) (t : Tables) (held : Option (List ℕ)) (out : List ℕ) → out ≡ [] → SoFar piece p t held piece p t out held
nothing_yet piece p t held out e =
    record { part = []; printed = []; all = refl; serves = rw e (part_none p t []); appends = Appends-nil held }

module _ (piece : List ℕ) (p₀ : Pending) (t₀ : Tables) (held₀ : Option (List ℕ)) (rest : List ℕ) (p : Pending) (t : Tables) (out : List ℕ) (held : Option (List ℕ))
    (so_far : SoFar piece p₀ t₀ held₀ rest p t out held) where
  -- a step further
  pub step : (p' : Pending) (t' : Tables) (out' : List ℕ) (next : Option (List ℕ)) → Steps rest p t out p' t' out' next → SoFar piece p₀ t₀ held₀ (unwrap_or next []) p' t' out' held
  step p' t' out' next s =
      record {
        part = so_far.part ++ s.part;
        printed = so_far.printed;
        all = so_far.all ∙ ap (λ x. so_far.part ++ x) s.all ∙ sym (append_assoc so_far.part s.part (unwrap_or next []));
        serves = part-behind so_far.part s.part p₀ t₀ [] p t (so_far.printed ++ out) p' t' (so_far.printed ++ out') so_far.serves
            (part_onto so_far.printed s.part p t out p' t' out' s.serves);
        appends = so_far.appends;
      }

  -- more of it written
  pub writes_on : (out' : List ℕ) (held' : Option (List ℕ)) → WritesSome held out held' out' → SoFar piece p₀ t₀ held₀ rest p t out' held'
  writes_on out' held' h =
      let same : so_far.printed ++ out ≡ (so_far.printed ++ h.written) ++ out' =
      ap (λ x. so_far.printed ++ x) h.all ∙ sym (append_assoc so_far.printed h.written out') in
      record {
        part = so_far.part;
        printed = so_far.printed ++ h.written;
        all = so_far.all;
        serves = subst (λ x. ServesPart so_far.part p₀ t₀ [] p t x) same so_far.serves;
        appends = Appends-trans held₀ held held' so_far.printed h.written so_far.appends h.appends;
      }

  -- a write fails
  pub cut : {E : Type 0} (why : E) (held' : Option (List ℕ)) → ServesPiece piece rest p₀ t₀ p t held₀ held' (Err why)
  cut why held' =
      record { part = so_far.part; all = so_far.all; whole = tt; hands = record { handed = so_far.printed ++ out; serves = so_far.serves }; writes = tt }

  -- the piece is served, and the last of it handed to write
  pub whole_piece : {E : Type 0} → rest ≡ [] → (held' : Option (List ℕ)) (r : Result (Unit {0}) E) → OnOk r (Appends held held' out) → ServesPiece piece rest p₀ t₀ p t held₀ held' r
  whole_piece e held' r wrote =
      record {
        part = so_far.part;
        all = so_far.all;
        whole = ok_so r (rest ≡ []) e;
        hands = record { handed = so_far.printed ++ out; serves = so_far.serves };
        writes = on_ok r (Appends held held' out) (Appends held₀ held' (so_far.printed ++ out)) (Appends-trans held₀ held held' so_far.printed out so_far.appends) wrote;
      }

-- ---- the last line

pub last_written : {E : Type 0} (p : Pending) (t : Tables) (out : List ℕ) (t' : Tables) (out' : List ℕ) → PrintsLast p t out t' out' → out ≡ []
    → (held held' : Option (List ℕ)) (r : Result (Unit {0}) E) → OnOk r (Appends held held' out') → ServesLast p t t' held held' r
last_written p t out t' out' s e held held' r wrote =
    record {
      leaves = s.leaves;
      writes = λ line h. subst (λ x. OnOk r (Appends held held' x)) (s.prints line h ∙ ap (λ x. x ++ transcript (unended line) t) e) wrote;
    }
