-- Each return is a case of what ls gives on a well-written name, by the tests that led there.
use Rattle.std.specs.Prelude.{ℕ, ◌*◌, ◌/◌, ◌≤◌, ◌<◌, ◌≡◌, refl, ◌≢◌, List, [], ◌∷◌, Bool, true, false, not, ltb, Ok, Err}
use Rattle.std.proofs.Common.{rules, sym, ap, ◌∙◌, arith, lt-ltb, le-ltb}
use Rattle.std.proofs.lemmas.Result.{err_from_is_err_and}
use borrow.Author.Tests.{not-true, not-false}
use Rattle.records.specs.LoopLaws.{how_many-within}
use Rattle.meaning.specs.Name.{name_count, listing}
use Rattle.meaning.specs.Store.{is_directory, named}
use Rattle.meaning.specs.Tables.{Tables, tables, store_of, file_length}
use Rattle.meaning.specs.NameCalls.{ls}
use Rattle.meaning.specs.Result.{Result, refused, done, unless, missing}
use Rattle.meaning.specs.Run.{Call, result_of, meaning, accepts}
use Rattle.meaning.specs.Decisions.{refusing, planning}
use Rattle.meaning.specs.declared.FileNo.{FileNo}
use Rattle.meaning.specs.declared.Report.{Report}
use Rattle.meaning.specs.declared.Report.TheVariants.{NoSuchName, NotDirectory, OutShort}
use Rattle.soundness.specs.Seen.{files_store}
use Rattle.directories.specs.Find.{Lies, blank_at}
use Rattle.directories.specs.Places.{record_place}
use Rattle.lookup.specs.Filed.{filed}
use Rattle.naming.specs.Judged.{Judged, OnName, on_name_of, refuses}
use Rattle.naming.specs.Located.{Locates}
use Rattle.naming.specs.At.{At, located_shelves, located_counted, located_at, follows, not_old, not_missing, stands_for, file-directory}
use Rattle.naming.specs.declared.Located.{Located}
use Rattle.naming.specs.declared.Located.TheVariants.{Old}
use Rattle.listing.specs.Names.{place_count, place_names}
use Rattle.listing.specs.Listed.{listed_lies, listed_count, listed_names, listed_length}
use Rattle.listing.specs.List.{Decided, Fits, planned}
use Rattle.listing.proofs.decide_ls.Goals as goal

abbrev rest : Tables → ℕ → List (List ℕ) → Result
rest t size name =
    let s = store_of t in
    let f = named s name in
    let dir = (s.file f).bytes in
    unless (missing s name) NoSuchName
    (unless (not (is_directory s f)) NotDirectory
    (unless (ltb size (14 * name_count dir)) OutShort
    (done (name_count dir ∷ []) (listing dir) [])))

module _ (t : Tables) (bytes : List ℕ) (size : ℕ) where
  abbrev call : Result
  call = result_of (Call.Ls bytes size) t

  on_name_lem : on_name_of t bytes (rest t size) ≡ call
  unfolding result_of meaning accepts ls on_name_of
  on_name_lem = refl

  refused_by : (why : Report) → refused why ≡ call → Decided t bytes size (Err why)
  refused_by = refusing (planned t) (Fits t size) call

  refusal : (h : Judged) → OnName t bytes h → (why : Report) → h ≡ Err why → Decided t bytes size (Err why)
  refusal h on why e = refused_by why (refuses t bytes h on why e (rest t size) ∙ on_name_lem)

  module _ (k : ℕ) (x : Located) (a : At t bytes k x) where
    given : rest t size a.name ≡ call
    given = follows t bytes k x a (rest t size) ∙ on_name_lem

    no_name : ((d f : FileNo) → x ≢ Old d f) → Decided t bytes size (Err NoSuchName)
    unfolding unless
    no_name other = refused_by NoSuchName (rw (not_old t bytes k x a other) at given)

    module _ (d f : FileNo) (old : x ≡ Old d f) (v : Bool) (seen : v ≡ is_directory (files_store t.file_records) f.0) where
      no_directory : v ≡ false → Decided t bytes size (Err NotDirectory)
      unfolding unless
      no_directory e = refused_by NotDirectory (rw (not_missing t bytes k x a d f old, file-directory t bytes k x a d f old v seen, e) at given)

      module _ (is : v ≡ true) (count : ℕ) (counted : count ≡ file_length t.file_records f.0 / 16)
          (names : ℕ) (has : names ≡ place_count t.blocks t.block_records f.0 count) where
        stands : f.0 ≡ named (store_of t) a.name
        stands = stands_for t bytes k x a d f old

        directory : is_directory (store_of t) f.0 ≡ true
        directory = ap (is_directory (store_of t)) stands ∙ file-directory t bytes k x a d f old v seen ∙ is

        lies : Lies t.blocks t.block_records f.0 count
        lies = listed_lies t a.ok f.0 directory count counted

        name-count : name_count ((store_of t).file (named (store_of t) a.name)).bytes ≡ names
        name-count = ap (λ (f : ℕ). name_count ((store_of t).file f).bytes) (sym stands) ∙ sym (has ∙ listed_count t a.ok f.0 directory count counted)

        names_are : listing ((store_of t).file (named (store_of t) a.name)).bytes ≡ place_names t.blocks t.block_records f.0 count
        names_are = ap (λ (f : ℕ). listing ((store_of t).file f).bytes) (sym stands) ∙ sym (listed_names t a.ok f.0 directory count counted)

        short : size < 14 * names → Decided t bytes size (Err OutShort)
        unfolding unless
        short h =
            refused_by OutShort
            (rw (not_missing t bytes k x a d f old, file-directory t bytes k x a d f old v seen, is, name-count, lt-ltb size (14 * names) h) at given)

        lists : 14 * names ≤ size → Decided t bytes size (Ok (f, count, names))
        unfolding unless
        lists h =
            planning (planned t) (Fits t size) call (f, count, names)
            (rw (not_missing t bytes k x a d f old, file-directory t bytes k x a d f old v seen, is, name-count, le-ltb size (14 * names) h, names_are) at given)
            (record { lies = lies; room = omega (arith, has, listed_length t a.ok f.0 directory count counted) })

-- the same, over what the code has at hand
module _ (b br fr cr bytes : List ℕ) (size : ℕ) (h : Judged) (on : OnName (tables b br fr cr) bytes h) (k : ℕ) (e : h ≡ Ok k) (x : Located) (l : Locates (filed b br fr) bytes x) where
  abbrev t : Tables
  t = tables b br fr cr

  at : At t bytes k x
  at = located_at b br fr cr bytes h on k e x l

  nothing_so : ((d f : FileNo) → x ≢ Old d f) → Decided t bytes size (Err NoSuchName)
  nothing_so = no_name t bytes size k x at

  module _ (d f : FileNo) (old : x ≡ Old d f) (v : Bool) (seen : v ≡ is_directory (files_store fr) f.0) where
    plain_so : not v ≡ true → Decided t bytes size (Err NotDirectory)
    plain_so n = no_directory t bytes size k x at d f old v seen (not-true v n)

    module _ (n : not v ≡ false) where
      is_so : is_directory (files_store fr) f.0 ≡ true
      is_so = sym seen ∙ not-false v n

      module _ (count : ℕ) (counted : count ≡ file_length fr f.0 / 16) where
        lies_so : Lies b br f.0 count
        lies_so = lies t bytes size k x at d f old v seen (not-false v n) count counted (place_count b br f.0 count) refl

        module _ (names : ℕ) (has : names ≡ place_count b br f.0 count) where
          few : names ≤ 2048
          unfolding place_count
          few = omega (arith, lies_so.few, how_many-within (λ i. not (blank_at b (record_place br f.0 i))) count)

          short_so : size < 14 * names → Decided t bytes size (Err OutShort)
          short_so = short t bytes size k x at d f old v seen (not-false v n) count counted names has

          listed : 14 * names ≤ size → Decided t bytes size (Ok (f, count, names))
          listed = lists t bytes size k x at d f old v seen (not-false v n) count counted names has

pub returns-in_err-k : goal.returns-in_err-k
returns-in_err-k c =
    let p = err_from_is_err_and c.from_residual.result c.from_residual.ensures.1 in
    rw (p.1, p.2) (refusal _ _ _ _ c.judge_name.ensures _ c.in_err-k.was)

pub locate-requires : goal.locate-requires
locate-requires c =
    record {
      shelves = located_shelves _ _ _ _ _ _ c.judge_name.ensures _ c.in_ok-k.was;
      k_counted = located_counted _ _ _ _ _ _ c.judge_name.ensures _ c.in_ok-k.was;
    }

pub returns-in_default : goal.returns-in_default
returns-in_default c = nothing_so _ _ _ _ _ _ _ c.judge_name.ensures _ c.in_ok-k.was _ c.locate.ensures c.in_default.not-Old

pub returns-then-not-is_directory : goal.returns-then-not-is_directory
returns-then-not-is_directory c =
    plain_so _ _ _ _ _ _ _ c.judge_name.ensures _ c.in_ok-k.was _ c.locate.ensures _ _ c.in-Old.is _ c.is_directory.ensures (ap not c.if-not-is_directory.true)

pub record_count-count-requires : goal.record_count-count-requires
record_count-count-requires c = sym c.is_directory.ensures ∙ not-false _ (ap not c.if-not-is_directory.false)

pub count_names-names-requires : goal.count_names-names-requires
count_names-names-requires c =
    lies_so _ _ _ c.args.store.now.channel_records.now _ c.args.size _ c.judge_name.ensures _ c.in_ok-k.was _ c.locate.ensures _ _ c.in-Old.is _ c.is_directory.ensures (ap not c.if-not-is_directory.false) _ c.record_count-count.ensures

pub overflow_mul-names : goal.overflow_mul-names
overflow_mul-names c =
    let small = few _ _ _ c.args.store.now.channel_records.now _ c.args.size _ c.judge_name.ensures _ c.in_ok-k.was _ c.locate.ensures _ _ c.in-Old.is _ c.is_directory.ensures (ap not c.if-not-is_directory.false) _ c.record_count-count.ensures _ c.count_names-names.ensures in
    omega arith

pub returns-then-size-names : goal.returns-then-size-names
returns-then-size-names c =
    short_so _ _ _ _ _ _ _ c.judge_name.ensures _ c.in_ok-k.was _ c.locate.ensures _ _ c.in-Old.is _ c.is_directory.ensures (ap not c.if-not-is_directory.false) _ c.record_count-count.ensures _ c.count_names-names.ensures (search rules)

pub overflow_cast-result : goal.overflow_cast-result
overflow_cast-result c =
    let small = few _ _ _ c.args.store.now.channel_records.now _ c.args.size _ c.judge_name.ensures _ c.in_ok-k.was _ c.locate.ensures _ _ c.in-Old.is _ c.is_directory.ensures (ap not c.if-not-is_directory.false) _ c.record_count-count.ensures _ c.count_names-names.ensures in
    omega arith

pub returns : goal.returns
returns c =
    listed _ _ _ _ _ _ _ c.judge_name.ensures _ c.in_ok-k.was _ c.locate.ensures _ _ c.in-Old.is _ c.is_directory.ensures (ap not c.if-not-is_directory.false) _ c.record_count-count.ensures _ c.count_names-names.ensures (search rules)
