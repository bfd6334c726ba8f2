-- The reports of limits, of calls that give a name, and then of all: by the causes that a call lists before them.
use Rattle.std.specs.Prelude.{ℕ, zero, suc, ◌+◌, ◌≤◌, ◌≡◌, refl, ◌≢◌, ◌⊎◌, List, [], ◌∷◌, Bool, true, false, not, length, eqb}
use Rattle.std.proofs.Common.{sym, ◌∙◌, inl, inr, true≢false, arith}
use Rattle.std.proofs.Math.Logic.{⊎_elim}
use Rattle.std.proofs.Math.Option.{some}
use borrow.Author.Tests.{ltb-true, eqb-false, not-false}
use Rattle.records.specs.Rows.{lowest}
use Rattle.records.specs.RowLaws.{lowest_misses}
use Rattle.records.specs.Tests.{tested}
use Rattle.meaning.specs.Name.{syllables, most_syllables}
use Rattle.meaning.specs.Store.{Store, file, channel, after, channel_to, ordinary, directory, is_directory, free_file, free_channel, named, front, let_go}
use Rattle.meaning.specs.Result.{Result, done, unless, with_syllables, missing, nowhere, all_open, all_used}
use Rattle.meaning.specs.NameCalls.{parent, naming, create, link, move, mkdir, if_naming_fits}
use Rattle.meaning.specs.Tables.{store_of}
use Rattle.meaning.specs.Run.{Call, Create, Mkdir, Link, Move, Write, Seek, meaning, number_of}
use Rattle.meaning.specs.declared.Report.{Report}
use Rattle.meaning.specs.declared.Report.TheVariants.{Ok, NoSuchName, NoFreeCids, IsDirectory, NoFreeFids, NoRoom, TooBig, BadSeek, BadName, NameInUse}
use Rattle.soundness.specs.Use.{of_used, directory_used}
use Rattle.trees.specs.Standing.{missing_some, parent-directory}
use Rattle.source.specs.Files.{FILE}
use Rattle.source.specs.Naming.{NAME}
use Rattle.source.specs.ViewLaws.{numbered_some, file_there}
use Rattle.source.specs.Accepted.{Ready}
use Rattle.source.specs.Invariants.{sound_ready, directory_there}
use Rattle.source.proofs.Unlinking.{plain_name}
use Rattle.source.specs.ErrorStatements.{report_of}
use Rattle.source.specs.Reports.{other_report, Never, never_done, never_fits}
use Rattle.source.specs.NameErrors.{move_reports}
use Rattle.source.proofs.OutcomeErrors.{head_report}
use Rattle.source.specs.LimitErrors.{Only, TooLong, Overfull, Recorded, AllFiles, LimitErrs}
use Rattle.source.proofs.LimitCauses.{past_room, before, first, fits_big, fits_full, done_big, done_full, seek_past, write_big, write_full}

-- ---- a name's record

module _ (s : Store) (ready : Ready s) (name : NAME) where
  -- the directory of a name that may be given
  in_directory_lem : nowhere s name ≡ false → (missing s name ≡ true) ⊎ (is_directory s (named s name) ≡ false) → is_directory s (parent s name) ≡ true
  unfolding nowhere parent
  in_directory_lem here given =
      ⊎_elim
      (λ (gone : missing s name ≡ true). not-false (is_directory s (named s (front name))) (rw gone at here))
      (λ (there : missing s name ≡ false). ⊎_elim
      (λ (gone : missing s name ≡ true). absurd (true≢false (sym gone ∙ there)))
      (λ (plain : is_directory s (named s name) ≡ false). parent-directory s name (plain_name s ready name plain) (missing_some s name there))
      given)
      (tested (missing s name))

  module _ (is : is_directory s (parent s name) ≡ true) (new : ℕ) (r : Result) where
    recorded : (P : Store → ℕ → FILE → Type 0) → P s (parent s name) (naming s name new).bytes → Recorded P name s
    unfolding parent
    recorded P passes =
        record { directory = parent s name; new = new; is = numbered_some (parent s name) (directory_there s (parent s name) is); passes = passes }

    naming_big : Never TooBig r → report_of (if_naming_fits s name (naming s name new) r) ≡ TooBig → Recorded TooLong name s
    unfolding if_naming_fits
    naming_big n e = recorded TooLong (fits_big s _ _ r n e)

    naming_full : Never NoRoom r → report_of (if_naming_fits s name (naming s name new) r) ≡ NoRoom → Recorded Overfull name s
    unfolding if_naming_fits
    naming_full n e =
        recorded Overfull (past_room s ready.well (parent s name) (of_used s (parent s name) (directory_used s (parent s name) is)) (naming s name new).bytes (fits_full s _ _ r n e))

-- every file number is taken
all_files : (s : Store) → all_used s ≡ true → AllFiles s
unfolding all_used free_file
all_files s e zero from_one within = absurd (omega arith)
all_files s e (suc r) from_one within =
    let free : ℕ → Bool = λ i. eqb (s.file (suc i)).kind 0 in
    let all : s.file_count ≤ lowest s.file_count free = omega (arith, ltb-true s.file_count (suc (lowest s.file_count free)) e) in
    let taken : eqb (s.file (suc r)).kind 0 ≡ false = lowest_misses s.file_count free r (omega arith) in
    ((s.file (suc r)).bytes, file_there s (suc r) (of_used s (suc r) (record { some = from_one; within = within; kind = eqb-false (s.file (suc r)).kind 0 taken })))

-- ---- create, make directory, link

module _ (s : Store) (ready : Ready s) (bytes : List ℕ) (name : NAME) (spelled : syllables bytes ≡ some name) where
  -- create's causes for a new name, which come after those that it lists first
  abbrev made : Result
  made = done (free_channel s ∷ []) [] (file (parent s name) (naming s name (free_file s)) ∷ file (free_file s) (ordinary []) ∷ channel (free_channel s) (channel_to (free_file s) 0) ∷ [])

  create_causes : (why : Report) → NoSuchName ≢ why → IsDirectory ≢ why → NoFreeCids ≢ why → Ok ≢ why → report_of (create bytes s) ≡ why
      → (is_directory s (parent s name) ≡ true) × (report_of (unless (all_used s) NoFreeFids (if_naming_fits s name (naming s name (free_file s)) made)) ≡ why)
  unfolding create with_syllables
  create_causes why a b c d e =
      let (here, rest) = before why (nowhere s name) NoSuchName _ a (rw spelled at e) in
      let (plain, more) = before why (is_directory s (named s name)) IsDirectory _ b rest in
      let (free, last_of) = before why (all_open s) NoFreeCids _ c more in
      ⊎_elim
      (λ (gone : missing s name ≡ true). (in_directory_lem s ready name here (inl gone), rw gone at last_of))
      (λ (there : missing s name ≡ false). absurd (never_done why d _ _ _ (rw there at last_of)))
      (tested (missing s name))

  -- and make directory's
  abbrev founded : Result
  founded = done [] [] (file (parent s name) (naming s name (free_file s)) ∷ file (free_file s) (directory ((s.file (parent s name)).depth + 1) []) ∷ [])

  mkdir_causes : (why : Report) → BadName ≢ why → NoSuchName ≢ why → NameInUse ≢ why → report_of (mkdir bytes s) ≡ why
      → (is_directory s (parent s name) ≡ true) × (report_of (unless (all_used s) NoFreeFids (if_naming_fits s name (naming s name (free_file s)) founded)) ≡ why)
  unfolding mkdir with_syllables
  mkdir_causes why a b c e =
      let (short, rest) = before why (eqb (length name) most_syllables) BadName _ a (rw spelled at e) in
      let (here, more) = before why (nowhere s name) NoSuchName _ b rest in
      let (gone, last_of) = before why (not (missing s name)) NameInUse _ c more in
      (in_directory_lem s ready name here (inl (not-false (missing s name) gone)), last_of)

  -- what the two share: no number is free; else the directory's file passes a limit
  module _ (r : Result) where
    new_none : Never NoFreeFids r → report_of (unless (all_used s) NoFreeFids (if_naming_fits s name (naming s name (free_file s)) r)) ≡ NoFreeFids → AllFiles s
    unfolding if_naming_fits number_of
    new_none n e = all_files s (first NoFreeFids (all_used s) _ (never_fits NoFreeFids s _ _ r (other_report TooBig NoFreeFids refl) (other_report NoRoom NoFreeFids refl) n) e)

    new_big : is_directory s (parent s name) ≡ true → Never TooBig r → report_of (unless (all_used s) NoFreeFids (if_naming_fits s name (naming s name (free_file s)) r)) ≡ TooBig → Recorded TooLong name s
    unfolding number_of
    new_big is n e = naming_big s ready name is (free_file s) r n (before TooBig (all_used s) NoFreeFids _ (other_report NoFreeFids TooBig refl) e).1

    new_full : is_directory s (parent s name) ≡ true → Never NoRoom r → report_of (unless (all_used s) NoFreeFids (if_naming_fits s name (naming s name (free_file s)) r)) ≡ NoRoom → Recorded Overfull name s
    unfolding number_of
    new_full is n e = naming_full s ready name is (free_file s) r n (before NoRoom (all_used s) NoFreeFids _ (other_report NoFreeFids NoRoom refl) e).1

  create_none : report_of (create bytes s) ≡ NoFreeFids → AllFiles s
  unfolding number_of
  create_none e =
      let (is, h) = create_causes NoFreeFids (other_report NoSuchName NoFreeFids refl) (other_report IsDirectory NoFreeFids refl) (other_report NoFreeCids NoFreeFids refl) (other_report Ok NoFreeFids refl) e in
      new_none made (never_done NoFreeFids (other_report Ok NoFreeFids refl) _ _ _) h

  create_big : report_of (create bytes s) ≡ TooBig → Recorded TooLong name s
  unfolding number_of
  create_big e =
      let (is, h) = create_causes TooBig (other_report NoSuchName TooBig refl) (other_report IsDirectory TooBig refl) (other_report NoFreeCids TooBig refl) (other_report Ok TooBig refl) e in
      new_big made is (done_big _ _ _) h

  create_full : report_of (create bytes s) ≡ NoRoom → Recorded Overfull name s
  unfolding number_of
  create_full e =
      let (is, h) = create_causes NoRoom (other_report NoSuchName NoRoom refl) (other_report IsDirectory NoRoom refl) (other_report NoFreeCids NoRoom refl) (other_report Ok NoRoom refl) e in
      new_full made is (done_full _ _ _) h

  mkdir_none : report_of (mkdir bytes s) ≡ NoFreeFids → AllFiles s
  unfolding number_of
  mkdir_none e =
      let (is, h) = mkdir_causes NoFreeFids (other_report BadName NoFreeFids refl) (other_report NoSuchName NoFreeFids refl) (other_report NameInUse NoFreeFids refl) e in
      new_none founded (never_done NoFreeFids (other_report Ok NoFreeFids refl) _ _ _) h

  mkdir_big : report_of (mkdir bytes s) ≡ TooBig → Recorded TooLong name s
  unfolding number_of
  mkdir_big e =
      let (is, h) = mkdir_causes TooBig (other_report BadName TooBig refl) (other_report NoSuchName TooBig refl) (other_report NameInUse TooBig refl) e in
      new_big founded is (done_big _ _ _) h

  mkdir_full : report_of (mkdir bytes s) ≡ NoRoom → Recorded Overfull name s
  unfolding number_of
  mkdir_full e =
      let (is, h) = mkdir_causes NoRoom (other_report BadName NoRoom refl) (other_report NoSuchName NoRoom refl) (other_report NameInUse NoRoom refl) e in
      new_full founded is (done_full _ _ _) h

module _ (s : Store) (ready : Ready s) (old new : List ℕ) (from to : NAME) (e : syllables old ≡ some from) (h : syllables new ≡ some to) where
  abbrev linked : Result
  linked = let change = file (parent s to) (naming s to (named s from)) in done [] [] (change ∷ let_go (after s change) (named s to))

  link_causes : (why : Report) → NoSuchName ≢ why → IsDirectory ≢ why → report_of (link old new s) ≡ why
      → (is_directory s (parent s to) ≡ true) × (report_of (if_naming_fits s to (naming s to (named s from)) linked) ≡ why)
  unfolding link with_syllables
  link_causes why a b told =
      let (there, rest) = before why (missing s from) NoSuchName _ a (rw (e, h) at told) in
      let (plainly, more) = before why (is_directory s (named s from)) IsDirectory _ b rest in
      let (here, still) = before why (nowhere s to) NoSuchName _ a more in
      let (plain, last_of) = before why (is_directory s (named s to)) IsDirectory _ b still in
      (in_directory_lem s ready to here (inr plain), last_of)

  link_big : report_of (link old new s) ≡ TooBig → Recorded TooLong to s
  unfolding number_of
  link_big told =
      let (is, fits) = link_causes TooBig (other_report NoSuchName TooBig refl) (other_report IsDirectory TooBig refl) told in
      naming_big s ready to is (named s from) linked (done_big _ _ _) fits

  link_full : report_of (link old new s) ≡ NoRoom → Recorded Overfull to s
  unfolding number_of
  link_full told =
      let (is, fits) = link_causes NoRoom (other_report NoSuchName NoRoom refl) (other_report IsDirectory NoRoom refl) told in
      naming_full s ready to is (named s from) linked (done_full _ _ _) fits

  -- a move is refused exactly where its link is
  move_big : report_of (move old new s) ≡ TooBig → Recorded TooLong to s
  unfolding number_of
  move_big told = link_big ((move_reports s ready old new TooBig (other_report Ok TooBig refl)).0 told)

  move_full : report_of (move old new s) ≡ NoRoom → Recorded Overfull to s
  unfolding number_of
  move_full told = link_full ((move_reports s ready old new NoRoom (other_report Ok NoRoom refl)).0 told)

-- ---- the statement

only : (call : Call) (why : Report) (cause : Store → Type 0) → ((s : Store) → Ready s → report_of (meaning call s) ≡ why → cause s) → Only call why cause
only call why cause h t buffer o kept numbers e =
    h (store_of t) (sound_ready t kept.0) ((head_report call t buffer o kept why).0 (numbers, e))

pub limit_errs : LimitErrs
unfolding meaning
limit_errs =
    record {
      seek_past = λ c mode n. only (Seek c mode n) BadSeek _ (λ s ready. seek_past s ready c mode n);
      write_big = λ c bytes. only (Write c bytes) TooBig _ (λ s ready. write_big s ready c bytes);
      write_full = λ c bytes. only (Write c bytes) NoRoom _ (λ s ready. write_full s ready c bytes);
      create_none = λ bytes name e. only (Create bytes) NoFreeFids _ (λ s ready. create_none s ready bytes name e);
      create_big = λ bytes name e. only (Create bytes) TooBig _ (λ s ready. create_big s ready bytes name e);
      create_full = λ bytes name e. only (Create bytes) NoRoom _ (λ s ready. create_full s ready bytes name e);
      mkdir_none = λ bytes name e. only (Mkdir bytes) NoFreeFids _ (λ s ready. mkdir_none s ready bytes name e);
      mkdir_big = λ bytes name e. only (Mkdir bytes) TooBig _ (λ s ready. mkdir_big s ready bytes name e);
      mkdir_full = λ bytes name e. only (Mkdir bytes) NoRoom _ (λ s ready. mkdir_full s ready bytes name e);
      link_big = λ old new from to e h. only (Link old new) TooBig _ (λ s ready. link_big s ready old new from to e h);
      link_full = λ old new from to e h. only (Link old new) NoRoom _ (λ s ready. link_full s ready old new from to e h);
      move_big = λ old new from to e h. only (Move old new) TooBig _ (λ s ready. move_big s ready old new from to e h);
      move_full = λ old new from to e h. only (Move old new) NoRoom _ (λ s ready. move_full s ready old new from to e h);
    }
