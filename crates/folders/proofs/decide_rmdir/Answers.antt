-- Each return is a case of what rmdir gives on a well-written name, by the tests that led there.
use Rattle.std.specs.Prelude.{ℕ, ◌/◌, ◌≡◌, ◌≢◌, refl, List, [], ◌∷◌, Bool, true, false, not, ◌||◌, ltb, eqb, Ok, Err}
use Rattle.std.proofs.Common.{rules, sym, ap, ◌∙◌, eq-eqb, true≢false}
use Rattle.std.proofs.lemmas.Result.{err_from_is_err_and}
use borrow.Author.Tests.{not-true, not-false}
use Rattle.meaning.specs.Name.{name_count, is_empty}
use Rattle.meaning.specs.Store.{Store, file, no_file, root, is_directory, named, held}
use Rattle.meaning.specs.Tables.{Tables, tables, store_of, file_length}
use Rattle.meaning.specs.NameCalls.{parent, record_for, unnaming, rmdir}
use Rattle.meaning.specs.Result.{Result, refused, done, unless, missing}
use Rattle.meaning.specs.Run.{Call, result_of, meaning, accepts}
use Rattle.meaning.specs.Decisions.{refusing, planning}
use Rattle.meaning.specs.declared.FileNo.{FileNo}
use Rattle.meaning.specs.declared.Report.{Report}
use Rattle.meaning.specs.declared.Report.TheVariants.{NoSuchName, NotDirectory, InUse, NotEmpty}
use Rattle.tables.specs.Searches.{channels_with}
use Rattle.tables.specs.StoreLaws.{held-channels}
use Rattle.soundness.specs.Seen.{files_store}
use Rattle.directories.specs.Find.{Lies}
use Rattle.lookup.specs.Filed.{filed}
use Rattle.naming.specs.Judged.{Judged, OnName, on_name_of, refuses}
use Rattle.naming.specs.Located.{Locates, OldIn, Recorded}
use Rattle.naming.specs.At.{At, located_shelves, located_counted, located_at, follows, not_old, not_missing, stands_for, file-directory}
use Rattle.naming.specs.InStore.{found_record, located_old}
use Rattle.naming.specs.declared.Located.{Located}
use Rattle.naming.specs.declared.Located.TheVariants.{Old}
use Rattle.listing.specs.Names.{place_count}
use Rattle.listing.specs.Listed.{listed_lies, listed_count}
use Rattle.folders.specs.Remove.{Removed, Fits, planned}
use Rattle.folders.specs.RemoveLaws.{no_names_empty, names_not_empty, deep, in_directory_lem, planned_is, can}
use Rattle.folders.proofs.decide_rmdir.Goals.{then-eq-via-then-eq, then-eq-via-else-eq+then-is_held}
use Rattle.folders.proofs.decide_rmdir.Goals as goal

abbrev rest : Tables → List (List ℕ) → Result
rest t name =
    let s = store_of t in
    let f = named s name in
    unless (missing s name) NoSuchName
    (unless (not (is_directory s f)) NotDirectory
    (unless (eqb f root || held s f) InUse
    (unless (not (is_empty (s.file f).bytes)) NotEmpty
    (done [] [] (file (parent s name) (unnaming s name) ∷ file f no_file ∷ [])))))

module _ (t : Tables) (bytes : List ℕ) where
  abbrev call : Result
  call = result_of (Call.Rmdir bytes) t

  on_name_lem : on_name_of t bytes (rest t) ≡ call
  unfolding result_of meaning accepts rmdir on_name_of
  on_name_lem = refl

  refused_by : (why : Report) → refused why ≡ call → Removed t bytes (Err why)
  refused_by = refusing (planned t) (Fits t) call

  refusal : (h : Judged) → OnName t bytes h → (why : Report) → h ≡ Err why → Removed t bytes (Err why)
  refusal h on why e = refused_by why (refuses t bytes h on why e (rest t) ∙ on_name_lem)

  module _ (k : ℕ) (x : Located) (a : At t bytes k x) where
    abbrev s : Store
    s = store_of t

    given : rest t a.name ≡ call
    given = follows t bytes k x a (rest t) ∙ on_name_lem

    no_name : ((d f : FileNo) → x ≢ Old d f) → Removed t bytes (Err NoSuchName)
    unfolding unless
    no_name other = refused_by NoSuchName (rw (not_old t bytes k x a other) at given)

    module _ (d f : FileNo) (old : x ≡ Old d f) (v : Bool) (seen : v ≡ is_directory (files_store t.file_records) f.0) where
      stands : f.0 ≡ named s a.name
      stands = stands_for t bytes k x a d f old

      no_directory : v ≡ false → Removed t bytes (Err NotDirectory)
      unfolding unless
      no_directory e = refused_by NotDirectory (rw (not_missing t bytes k x a d f old, file-directory t bytes k x a d f old v seen, e) at given)

      module _ (is : v ≡ true) (one : Bool) (tested : one ≡ eqb f.0 1) where
        directory : is_directory s f.0 ≡ true
        directory = ap (is_directory s) stands ∙ file-directory t bytes k x a d f old v seen ∙ is

        root_is : eqb (named s a.name) root ≡ one
        root_is = ap (λ (n : ℕ). eqb n root) (sym stands) ∙ sym tested

        its_root : one ≡ true → Removed t bytes (Err InUse)
        unfolding unless
        its_root e = refused_by InUse (rw (not_missing t bytes k x a d f old, file-directory t bytes k x a d f old v seen, is, root_is, e) at given)

        module _ (other : one ≡ false) (u : Bool) (holds : u ≡ ltb 0 (channels_with t.channel_records f.0)) where
          not-one : f.0 ≢ 1
          not-one e = let z : true ≡ false = sym (eq-eqb f.0 1 e) ∙ sym tested ∙ other in true≢false z

          held_is : held s (named s a.name) ≡ u
          held_is = ap (held s) (sym stands) ∙ held-channels t f.0 ∙ sym holds

          is_in_use : u ≡ true → Removed t bytes (Err InUse)
          unfolding unless
          is_in_use e =
              refused_by InUse (rw (not_missing t bytes k x a d f old, file-directory t bytes k x a d f old v seen, is, root_is, other, held_is, e) at given)

          module _ (free : u ≡ false) (count : ℕ) (counted : count ≡ file_length t.file_records f.0 / 16)
              (names : ℕ) (has : names ≡ place_count t.blocks t.block_records f.0 count) where
            abbrev dir : List ℕ
            dir = (s.file (named s a.name)).bytes

            name-count : name_count dir ≡ names
            name-count = ap (λ (f : ℕ). name_count (s.file f).bytes) (sym stands) ∙ sym (has ∙ listed_count t a.ok f.0 directory count counted)

            not_empty : names ≢ 0 → Removed t bytes (Err NotEmpty)
            unfolding unless
            not_empty some =
                let full : is_empty dir ≡ false = names_not_empty dir (λ e. some (sym name-count ∙ e)) in
                refused_by NotEmpty
                (rw (not_missing t bytes k x a d f old, file-directory t bytes k x a d f old v seen, is, root_is, other, held_is, free, full) at given)

            removes : names ≡ 0 → (i : ℕ) → i ≡ record_for s a.name → Removed t bytes (Ok (d, i, f))
            unfolding unless
            removes none i found =
                let empty : is_empty dir ≡ true = no_names_empty dir (name-count ∙ none) in
                let result : done [] [] (file (parent s a.name) (unnaming s a.name) ∷ file (named s a.name) no_file ∷ []) ≡ call =
                rw (not_missing t bytes k x a d f old, file-directory t bytes k x a d f old v seen, is, root_is, other, held_is, free, empty) at given in
                let means = planned_is t bytes k x a d f old not-one i found ∙ result in
                planning (planned t) (Fits t) call (d, i, f) means (can t bytes k x a d f old not-one i found means)

-- the same, over what the code has at hand
module _ (b br fr cr bytes : List ℕ) (h : Judged) (on : OnName (tables b br fr cr) bytes h) (k : ℕ) (e : h ≡ Ok k) (x : Located) (l : Locates (filed b br fr) bytes x) where
  abbrev t : Tables
  t = tables b br fr cr

  at : At t bytes k x
  at = located_at b br fr cr bytes h on k e x l

  nothing_so : ((d f : FileNo) → x ≢ Old d f) → Removed t bytes (Err NoSuchName)
  nothing_so = no_name t bytes k x at

  module _ (d f : FileNo) (old : x ≡ Old d f) (v : Bool) (seen : v ≡ is_directory (files_store fr) f.0) where
    plain_so : not v ≡ true → Removed t bytes (Err NotDirectory)
    plain_so n = no_directory t bytes k x at d f old v seen (not-true v n)

    module _ (n : not v ≡ false) where
      lies_so : (count : ℕ) → count ≡ file_length fr f.0 / 16 → Lies b br f.0 count
      lies_so count counted = listed_lies t at.ok f.0 (directory t bytes k x at d f old v seen (not-false v n) _ refl) count counted

      module _ (one : Bool) (tested : one ≡ eqb f.0 1) where
        root_so : one ≡ true → Removed t bytes (Err InUse)
        root_so = its_root t bytes k x at d f old v seen (not-false v n) one tested

        module _ (other : one ≡ false) (u : Bool) (holds : u ≡ ltb 0 (channels_with cr f.0)) where
          held_so : u ≡ true → Removed t bytes (Err InUse)
          held_so = is_in_use t bytes k x at d f old v seen (not-false v n) one tested other u holds

          place_so : OldIn b br fr bytes d.0
          place_so =
              let apart = not-one t bytes k x at d f old v seen (not-false v n) one tested other u holds in
              located_old b br fr cr bytes h on k e x l (deep t bytes k x at d f old apart) d f old (in_directory_lem t bytes k x at d f old apart)

          module _ (free : u ≡ false) (count : ℕ) (counted : count ≡ file_length fr f.0 / 16)
              (names : ℕ) (has : names ≡ place_count b br f.0 count) where
            full_so : names ≢ 0 → Removed t bytes (Err NotEmpty)
            full_so = not_empty t bytes k x at d f old v seen (not-false v n) one tested other u holds free count counted names has

            removes_so : names ≡ 0 → (i : ℕ) → Recorded (filed b br fr) bytes i → Removed t bytes (Ok (d, i, f))
            removes_so none i r =
                removes t bytes k x at d f old v seen (not-false v n) one tested other u holds free count counted names has none i (found_record b br fr cr bytes k x at i r)

pub returns-in_err-k : goal.returns-in_err-k
returns-in_err-k c =
    let p = err_from_is_err_and c.from_residual.result c.from_residual.ensures.1 in
    rw (p.1, p.2) (refusal _ _ _ c.judge_name.ensures _ c.in_err-k.was)

pub locate-requires : goal.locate-requires
locate-requires c =
    record {
      shelves = located_shelves _ _ _ _ _ _ c.judge_name.ensures _ c.in_ok-k.was;
      k_counted = located_counted _ _ _ _ _ _ c.judge_name.ensures _ c.in_ok-k.was;
    }

pub returns-in_default : goal.returns-in_default
returns-in_default c = nothing_so _ _ _ _ _ _ c.judge_name.ensures _ c.in_ok-k.was _ c.locate.ensures c.in_default.not-Old

pub returns-then-not-is_directory : goal.returns-then-not-is_directory
returns-then-not-is_directory c =
    plain_so _ _ _ _ _ _ c.judge_name.ensures _ c.in_ok-k.was _ c.locate.ensures _ _ c.in-Old.is _ c.is_directory.ensures (ap not c.if-not-is_directory.true)

pub returns-then-eq : goal.returns-then-eq
returns-then-eq c =
    elim c.then-eq.branch [
      | then-eq-via-then-eq w ↦ root_so _ _ _ _ _ _ c.judge_name.ensures _ c.in_ok-k.was _ c.locate.ensures _ _ c.in-Old.is _ c.is_directory.ensures (ap not c.if-not-is_directory.false) _ c.eq.ensures w.if-eq.true
      | then-eq-via-else-eq+then-is_held w ↦ held_so _ _ _ _ _ _ c.judge_name.ensures _ c.in_ok-k.was _ c.locate.ensures _ _ c.in-Old.is _ c.is_directory.ensures (ap not c.if-not-is_directory.false) _ c.eq.ensures w.if-eq.false _ w.is_held.ensures w.if-is_held.true
    ]

pub record_count-count-requires : goal.record_count-count-requires
record_count-count-requires c = sym c.is_directory.ensures ∙ not-false _ (ap not c.if-not-is_directory.false)

pub count_names-requires : goal.count_names-requires
count_names-requires c =
    lies_so _ _ _ c.args.store.now.channel_records.now _ _ c.judge_name.ensures _ c.in_ok-k.was _ c.locate.ensures _ _ c.in-Old.is _ c.is_directory.ensures (ap not c.if-not-is_directory.false) _ c.record_count-count.ensures

pub returns-then-count_names-ne0 : goal.returns-then-count_names-ne0
returns-then-count_names-ne0 c =
    full_so _ _ _ _ _ _ c.judge_name.ensures _ c.in_ok-k.was _ c.locate.ensures _ _ c.in-Old.is _ c.is_directory.ensures (ap not c.if-not-is_directory.false) _ c.eq.ensures c.if-eq.false
    _ c.is_held.ensures c.if-is_held.false _ c.record_count-count.ensures _ c.count_names.ensures (search rules)

pub own_record-i-requires : goal.own_record-i-requires
own_record-i-requires c =
    place_so _ _ _ _ _ _ c.judge_name.ensures _ c.in_ok-k.was _ c.locate.ensures _ _ c.in-Old.is _ c.is_directory.ensures (ap not c.if-not-is_directory.false) _ c.eq.ensures c.if-eq.false
    _ c.is_held.ensures

pub returns : goal.returns
returns c =
    removes_so _ _ _ _ _ _ c.judge_name.ensures _ c.in_ok-k.was _ c.locate.ensures _ _ c.in-Old.is _ c.is_directory.ensures (ap not c.if-not-is_directory.false) _ c.eq.ensures c.if-eq.false
    _ c.is_held.ensures c.if-is_held.false _ c.record_count-count.ensures _ c.count_names.ensures (search rules) _ c.own_record-i.ensures
