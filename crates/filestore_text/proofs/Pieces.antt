-- The input served piece by piece.
use Rattle.std.proofs.Common.{ℕ, ◌≡◌, refl, sym, ap, ◌∙◌, subst, true, false, true≢false, List, [], ◌++◌, append-nil, append_assoc, Option}
use Rattle.std.specs.Prelude.{Result, Ok, Err, is_err}
use Rattle.std.specs.Io.KnownBytes.{Appends, Consumes, Keeps, IsAtEnd}
use Rattle.std.proofs.KnownBytes.{Appends-nil, Appends-trans, Consumes-nil, Consumes-trans, Consumes-kept, Consumes-whole}
use Rattle.meaning.specs.Tables.{Tables}
use Rattle.text.specs.Print.{transcript}
use Rattle.text.specs.Program.{completed, remaining, unended, lines, written, after_lines, at_start}
use Rattle.text.specs.Gathering.{Pends}
use Rattle.text.specs.Cuts.{after_both, transcript_both}
use Rattle.text.specs.declared.lines.Pending.{Pending}
use Rattle.filestore_text.specs.Parts.{Hands, ServesPiece, ServesLast, ServesInput}
use Rattle.filestore_text.specs.PartLaws.{hands_none, hands_behind}
use Rattle.filestore_text.specs.Endings.{ServesGiven, MovesAll}

-- a result that is no Err
pub ok_of : {E : Type 0} (r : Result (Unit {0}) E) → false ≡ is_err r → (u : Unit {0}) × (r ≡ Ok u)
ok_of (Ok u) e = (u, refl)
ok_of (Err why) e = absurd (true≢false (sym e))

-- what has come of the input: it is served, and all that is printed is written
pub record SoFar (p₀ : Pending) (t₀ : Tables) (given held : Option (List ℕ)) (p : Pending) (t : Tables) (given' held' : Option (List ℕ)) : Type 0 where
  pub input : List ℕ
  pub hands : Hands input p₀ t₀ p t
  pub reads : Consumes given given' input
  pub writes : Appends held held' hands.handed

pub nothing_yet : (p : Pending) (t : Tables) (given held : Option (List ℕ)) → SoFar p t given held p t given held
unfolding hands_none
nothing_yet p t given held = record { input = []; hands = hands_none p t; reads = Consumes-nil given; writes = Appends-nil held }

module _ (p₀ : Pending) (t₀ : Tables) (given held : Option (List ℕ)) (p : Pending) (t : Tables) (given' held' : Option (List ℕ))
    (so_far : SoFar p₀ t₀ given held p t given' held') where
  module _ {E : Type 0} (bytes rest : List ℕ) (p' : Pending) (t' : Tables) (held'' : Option (List ℕ)) (r : Result (Unit {0}) E)
      (s : ServesPiece bytes rest p t p' t' held' held'' r) where
    -- what of a piece is served
    abbrev both : Hands (so_far.input ++ s.part) p₀ t₀ p' t'
    both = hands_behind so_far.input s.part p₀ t₀ p t p' t' so_far.hands s.hands

    -- a piece further
    pub onward : (u : Unit {0}) → r ≡ Ok u → (given'' : Option (List ℕ)) → Consumes given' given'' bytes → SoFar p₀ t₀ given held p' t' given'' held''
    unfolding hands_behind
    onward u e given'' read =
        let none : rest ≡ [] = rw e at s.whole in
        let wrote : Appends held' held'' s.hands.handed = rw e at s.writes in
        let all : bytes ≡ s.part = s.all ∙ ap (λ x. s.part ++ x) none ∙ append-nil s.part in
        record {
          input = so_far.input ++ s.part;
          hands = both;
          reads = Consumes-trans given given' given'' so_far.input s.part so_far.reads (subst (Consumes given' given'') all read);
          writes = Appends-trans held held' held'' so_far.hands.handed s.hands.handed so_far.writes wrote;
        }

  module _ (starts : Pends [] p₀) (start : t₀ ≡ at_start) where
    -- a read fails, or the loop ends
    pub cut_short : ServesInput t false
    cut_short =
        record {
          input = so_far.input;
          handed = so_far.hands.handed;
          leaves = rw (← start) (so_far.hands.serves.leaves [] starts);
          prints = rw (← start) (so_far.hands.serves.prints [] starts);
        }

    pub given_short : (given'' : Option (List ℕ)) → Keeps given' given'' → ServesGiven given given'' t false
    given_short given'' kept =
        record {
          input = so_far.input;
          rest = [];
          reads = rw (append-nil so_far.input) (Consumes-kept given given' given'' so_far.input so_far.reads kept);
          leaves = rw (← start) (so_far.hands.serves.leaves [] starts);
          whole = λ e. absurd (true≢false (sym e));
        }

    -- a write fails
    module _ {E : Type 0} (bytes rest : List ℕ) (p' : Pending) (t' : Tables) (held'' : Option (List ℕ)) (r : Result (Unit {0}) E)
        (s : ServesPiece bytes rest p t p' t' held' held'' r) where
      abbrev hands : Hands (so_far.input ++ s.part) p₀ t₀ p' t'
      hands = both bytes rest p' t' held'' r s

      pub cut_in_piece : ServesInput t' false
      cut_in_piece =
          record {
            input = so_far.input ++ s.part;
            handed = hands.handed;
            leaves = rw (← start) (hands.serves.leaves [] starts);
            prints = rw (← start) (hands.serves.prints [] starts);
          }

      pub given_in_piece : (given'' : Option (List ℕ)) → Consumes given' given'' bytes → ServesGiven given given'' t' false
      given_in_piece given'' read =
          let all : so_far.input ++ bytes ≡ (so_far.input ++ s.part) ++ rest =
          ap (λ x. so_far.input ++ x) s.all ∙ sym (append_assoc so_far.input s.part rest) in
          record {
            input = so_far.input ++ s.part;
            rest = rest;
            reads = subst (Consumes given given'') all (Consumes-trans given given' given'' so_far.input bytes so_far.reads read);
            leaves = rw (← start) (hands.serves.leaves [] starts);
            whole = λ e. absurd (true≢false (sym e));
          }

    -- the input has ended
    module _ {E : Type 0} (t' : Tables) (held'' : Option (List ℕ)) (r : Result (Unit {0}) E) (last : ServesLast p t t' held' held'' r) where
      pends : Pends (remaining [] so_far.input) p
      pends = so_far.hands.serves.pends [] starts

      all_served : t' ≡ after_lines (lines so_far.input) at_start
      unfolding lines
      all_served =
          let input : List ℕ = so_far.input in
          rw (← start, after_both (completed [] input) (unended (remaining [] input)) t₀, ← so_far.hands.serves.leaves [] starts) (last.leaves (remaining [] input) pends)

      all_printed : so_far.hands.handed ++ transcript (unended (remaining [] so_far.input)) t ≡ transcript (lines so_far.input) at_start
      unfolding lines
      all_printed =
          let input : List ℕ = so_far.input in
          rw (
            ← start,
            transcript_both (completed [] input) (unended (remaining [] input)) t₀,
            ← so_far.hands.serves.leaves [] starts,
            ← so_far.hands.serves.prints [] starts,
          ) refl

      pub at_end : ServesInput t' true
      at_end =
          record {
            input = so_far.input;
            handed = so_far.hands.handed ++ transcript (unended (remaining [] so_far.input)) t;
            leaves = all_served;
            prints = all_printed;
          }

      pub given_whole : (given'' : Option (List ℕ)) → Consumes given' given'' [] → IsAtEnd given'' → ServesGiven given given'' t' true
      given_whole given'' read ends =
          record {
            input = so_far.input;
            rest = [];
            reads = Consumes-trans given given' given'' so_far.input [] so_far.reads read;
            leaves = all_served;
            whole = λ e. (refl, ends);
          }

      pub all_moved : (u : Unit {0}) → r ≡ Ok u → (given'' : Option (List ℕ)) → Consumes given' given'' [] → IsAtEnd given'' → MovesAll given held held'' t'
      unfolding written
      all_moved u e given'' read ends =
          let reads : Consumes given given'' so_far.input =
          subst (Consumes given given'') (append-nil so_far.input) (Consumes-trans given given' given'' so_far.input [] so_far.reads read) in
          let wrote : Appends held' held'' (transcript (unended (remaining [] so_far.input)) t) = rw e at (last.writes (remaining [] so_far.input) pends) in
          let writes : Appends held held'' (transcript (lines so_far.input) at_start) =
          rw (← all_printed) (Appends-trans held held' held'' so_far.hands.handed (transcript (unended (remaining [] so_far.input)) t) so_far.writes wrote) in
          record {
            leaves = Consumes-whole given given'' so_far.input (λ input. t' ≡ after_lines (lines input) at_start) reads ends all_served;
            writes = Consumes-whole given given'' so_far.input (λ input. Appends held held'' (transcript (lines input) at_start)) reads ends writes;
          }
