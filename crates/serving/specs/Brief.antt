-- What a line asks for can be served: a read asks for no more than is lent.
use Rattle.std.specs.Prelude.{ℕ, ◌≤◌, ◌≡◌, refl, Bool, true, false, List, [], ◌∷◌, length, leb, ltb, Option, None, Some}
use Rattle.std.proofs.Common.{leb-true}
use Rattle.records.specs.Rows.{pick}
use Rattle.meaning.specs.Name.{same}
use Rattle.meaning.specs.Run.{Call, Prepare, Room, Create, Open, Unlink, Mkdir, Rmdir, Link, Move, Ls, Close, Fstat, Read, Write, Seek}
use Rattle.text.specs.Line.{lent_bytes, longest_line, given, nothing, a_word, number, a_number, the_data, a_name, two_names, last_number, reading, Form, forms, formed, asked, first_word, after_word}
use Rattle.text.specs.Commands.{command_call, commanded}
use Rattle.text.specs.declared.Command.{Command}

abbrev pub BriefCall : Call → Type 0
BriefCall Prepare = Unit
BriefCall Room = Unit
BriefCall (Create name) = Unit
BriefCall (Open name) = Unit
BriefCall (Unlink name) = Unit
BriefCall (Mkdir name) = Unit
BriefCall (Rmdir name) = Unit
BriefCall (Link old new) = Unit
BriefCall (Move old new) = Unit
BriefCall (Ls name size) = Unit
BriefCall (Close c) = Unit
BriefCall (Fstat c) = Unit
BriefCall (Read c count) = count ≤ lent_bytes
BriefCall (Write c bytes) = Unit
BriefCall (Seek c mode n) = Unit

abbrev pub Brief : Option Call → Type 0
Brief None = Unit
Brief (Some call) = BriefCall call

-- ---- each form of arguments

either : (t : Bool) (a b : Option Call) → Brief a → Brief b → Brief (pick t a b)
either true a b p q = p
either false a b p q = q

of_nothing : (call : Call) → BriefCall call → (rest : Option (List ℕ)) → Brief (nothing call rest)
unfolding nothing
of_nothing call h None = h
of_nothing call h (Some rest) = tt

of_word : (k : List ℕ → Option (List ℕ) → Option Call) → ((word : List ℕ) (rest : Option (List ℕ)) → Brief (k word rest)) → (rest : Option (List ℕ)) → Brief (a_word k rest)
unfolding a_word
of_word k h None = tt
of_word k h (Some rest) = either (ltb 0 (length (first_word rest))) (k (first_word rest) (after_word rest)) None (h (first_word rest) (after_word rest)) tt

of_given : (o : Option ℕ) (k : ℕ → Option Call) → ((n : ℕ) → Brief (k n)) → Brief (given o k)
unfolding given
of_given None k h = tt
of_given (Some n) k h = h n

of_number : (k : ℕ → Option (List ℕ) → Option Call) → ((n : ℕ) (rest : Option (List ℕ)) → Brief (k n rest)) → (rest : Option (List ℕ)) → Brief (a_number k rest)
unfolding a_number
of_number k h rest = of_word (λ word rest. given (number word) (λ n. k n rest)) (λ word rest. of_given (number word) (λ n. k n rest) (λ n. h n rest)) rest

of_data : (call : List ℕ → Call) → ((bytes : List ℕ) → BriefCall (call bytes)) → (rest : Option (List ℕ)) → Brief (the_data call rest)
unfolding the_data
of_data call h None = h []
of_data call h (Some []) = tt
of_data call h (Some (b ∷ bytes)) = h (b ∷ bytes)

of_name : (call : List ℕ → Call) → ((name : List ℕ) → BriefCall (call name)) → (rest : Option (List ℕ)) → Brief (a_name call rest)
unfolding a_name
of_name call h rest = of_word (λ name. nothing (call name)) (λ name. of_nothing (call name) (h name)) rest

of_names : (call : List ℕ → List ℕ → Call) → ((old new : List ℕ) → BriefCall (call old new)) → (rest : Option (List ℕ)) → Brief (two_names call rest)
unfolding two_names
of_names call h rest = of_word (λ old. a_name (call old)) (λ old. of_name (call old) (h old)) rest

of_last : (call : ℕ → Call) → ((n : ℕ) → BriefCall (call n)) → (rest : Option (List ℕ)) → Brief (last_number call rest)
unfolding last_number
of_last call h rest = of_number (λ n. nothing (call n)) (λ n. of_nothing (call n) (h n)) rest

of_reading : (c count : ℕ) (rest : Option (List ℕ)) → Brief (reading c count rest)
unfolding reading
of_reading c count rest = go (leb count lent_bytes) refl
  where
    go : (t : Bool) → leb count lent_bytes ≡ t → Brief (pick t (nothing (Read c count) rest) None)
    go true e = of_nothing (Read c count) (leb-true count lent_bytes e) rest
    go false e = tt

-- ---- every form

abbrev AllBrief : List Form → Type 0
AllBrief [] = Unit
AllBrief (form ∷ others) = ((rest : Option (List ℕ)) → Brief (form.call rest)) × AllBrief others

of_formed : (fs : List Form) → AllBrief fs → (word : List ℕ) (rest : Option (List ℕ)) → Brief (formed fs word rest)
unfolding formed
of_formed [] h word rest = tt
of_formed (form ∷ others) h word rest = either (same form.word word) (form.call rest) (formed others word rest) (h.0 rest) (of_formed others h.1 word rest)

all_brief : AllBrief forms
unfolding forms
all_brief = (
  of_nothing Prepare tt,
  (
    of_name Create (λ n. tt),
    (
      of_name Open (λ n. tt),
      (
        of_last Close (λ n. tt),
        (
          of_number (λ c. a_number (reading c)) (λ c. of_number (reading c) (of_reading c)),
          (
            of_number (λ c. the_data (Write c)) (λ c. of_data (Write c) (λ b. tt)),
            (
              of_number (λ c. a_number λ mode. last_number (Seek c mode)) (λ c. of_number (λ mode. last_number (Seek c mode)) (λ mode. of_last (Seek c mode) (λ n. tt))),
              (
                of_last Fstat (λ n. tt),
                (
                  of_names Link (λ a b. tt),
                  (
                    of_name Unlink (λ n. tt),
                    (
                      of_names Move (λ a b. tt),
                      (
                        of_name (λ name. Ls name lent_bytes) (λ n. tt),
                        (
                          of_name Mkdir (λ n. tt),
                          (
                            of_name Rmdir (λ n. tt),
                            (of_nothing Room tt, tt),
                          ),
                        ),
                      ),
                    ),
                  ),
                ),
              ),
            ),
          ),
        ),
      ),
    ),
  ),
)

pub asked-brief : (line : List ℕ) → Brief (asked line)
unfolding asked
asked-brief line = either (leb (length line) longest_line) (formed forms (first_word line) (after_word line)) None (of_formed forms all_brief (first_word line) (after_word line)) tt

-- ---- a command that was read can be served

pub servable : (command : Command) (call : Option Call) → commanded (Some command) ≡ call → Brief call → BriefCall (command_call command)
servable command call e b = rw (← e) at b

-- ---- so can what some line of text asks for

pub brief_asked : (call : Option Call) → (bytes : List ℕ) × (call ≡ asked bytes) → Brief call
brief_asked call s = rw (s.1) (asked-brief s.0)
