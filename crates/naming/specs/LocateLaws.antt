-- A name located, and its record found, step by step.
use Rattle.std.specs.Prelude.{ℕ, ◌-◌, ◌/◌, ◌≤◌, ◌<◌, ◌≡◌, refl, ◌≢◌, Bool, true, false, length, Option as Option'}
use Rattle.std.proofs.Math.Path.{ap, sym}
use Rattle.std.proofs.Common.{◌∙◌, arith, eq-eqb, ne_eqb, ⊎_elim}
use mathlib.Core.List.{List, [], ◌∷◌}
use Rattle.std.proofs.Math.Option.{Option, some}
use Rattle.std.proofs.Math.ListN.{take, drop, length-drop}
use Rattle.std.proofs.Math.Seq.{take_all}
use Rattle.std.specs.Option.{unwrap_or}
use borrow.Author.Tests.{lt-ltb, le-ltb}
use Rattle.records.specs.Rows.{lowest, found_below}
use Rattle.records.specs.RowLaws.{lowest-within}
use Rattle.records.specs.Tests.{lt_or_ge}
use Rattle.directories.specs.Places.{record_place}
use Rattle.meaning.specs.Name.{syllables}
use Rattle.meaning.specs.Store.{Store, root, within, named, named_back, is_directory, front, last}
use Rattle.meaning.specs.Result.{missing}
use Rattle.meaning.specs.NameCalls.{parent, record_for}
use Rattle.meaning.specs.Tables.{file_length}
use Rattle.meaning.specs.Types.{file_numbered}
use Rattle.names.specs.FormLaws.{Counted}
use Rattle.names.specs.Syllables.{part, syllables_from, Reaches, last_start}
use Rattle.names.specs.ReadLaws.{read}
use Rattle.names.specs.LastSyllable.{last_within, last_is, front_is}
use Rattle.soundness.specs.Seen.{files_store}
use Rattle.directories.specs.Find.{place_lowest, named_at, blank_at}
use Rattle.lookup.specs.Walk.{walk, named-walk, named-last}
use Rattle.lookup.specs.Filed.{filed, directory_here}
use Rattle.lookup.specs.LookLaws.{is_named_lem, is_blank_lem}
use Rattle.naming.specs.Located.{Locates, In, NewIn, OldIn, Recorded, file_no, located}
use Rattle.naming.specs.declared.Located.TheVariants.{Nowhere, New, Old}
use Rattle.meaning.specs.declared.FileNo.{FileNo}

-- bytes spell one name
pub one_name : (o : Option (List (List ℕ))) (m n : List (List ℕ)) → o ≡ some m → o ≡ some n → m ≡ n
one_name o m n p q = cc

no_syllables : (n : List (List ℕ)) → length n ≡ 0 → n ≡ []
no_syllables [] e = refl
no_syllables (x ∷ n) e = absurd (omega arith)

module _ (bytes : List ℕ) (k : ℕ) (c : Counted (syllables bytes) k) where
  pub reaches_front : Reaches bytes 1 (k - 1)
  reaches_front = (read bytes c.name c.is).reaches (k - 1) (omega (arith, c.count))

  -- the last syllable is the part from its start to the name's end
  pub last-part : k ≢ 0 → last c.name ≡ part bytes (last_start bytes) (length bytes)
  unfolding part
  last-part some' =
      let all : take (length bytes - last_start bytes) (drop (last_start bytes) bytes) ≡ drop (last_start bytes) bytes =
      take_all (length bytes - last_start bytes) (drop (last_start bytes) bytes) (rw length-drop (omega arith)) in
      last_is bytes c.name c.is (omega (arith, c.count)) ∙ sym all

  pub last_inside : k ≢ 0 → last_start bytes ≤ length bytes
  last_inside some' = last_within bytes c.name c.is (omega (arith, c.count))

  module _ (s : Store) where
    abbrev d : ℕ
    d = walk s root (syllables_from bytes 1 (k - 1))

    abbrev last_bytes : List ℕ
    last_bytes = part bytes (last_start bytes) (length bytes)

    pub at-root : k ≡ 0 → Locates s bytes (Old (file_no 1) (file_no 1))
    unfolding located missing parent named named_back
    at-root e n is =
        let empty : c.name ≡ [] = no_syllables c.name (c.count ∙ e) in
        let m : n ≡ [] = one_name (syllables bytes) n c.name is c.is ∙ empty in
        rw m

    module _ (some' : k ≢ 0) (n : List (List ℕ)) (is : syllables bytes ≡ some n) where
      same_name : c.name ≡ n
      same_name = one_name (syllables bytes) c.name n c.is is

      directory_is : d ≡ parent s n
      unfolding parent
      directory_is =
          let before : front c.name ≡ syllables_from bytes 1 (k - 1) =
          rw (← c.count) (front_is bytes c.name c.is (omega (arith, c.count))) in
          ap (walk s root) (sym before) ∙ sym (named-walk s (front c.name)) ∙ ap (λ m. named s (front m)) same_name

      file_is : within s d last_bytes ≡ named s n
      unfolding parent
      file_is =
          let before : front c.name ≡ syllables_from bytes 1 (k - 1) =
          rw (← c.count) (front_is bytes c.name c.is (omega (arith, c.count))) in
          let dir : d ≡ named s (front c.name) = ap (walk s root) (sym before) ∙ sym (named-walk s (front c.name)) in
          ap (within s d) (sym (last-part some'))
          ∙ ap (λ x. within s x (last c.name)) dir
          ∙ sym (named-last s c.name (omega (arith, c.count)))
          ∙ ap (named s) same_name

      -- where no directory is, no name is
      nothing_within : is_directory s d ≡ false → (missing s n ≡ true) × (is_directory s (parent s n) ≡ false)
      unfolding within missing
      nothing_within isnt =
          let none_so : within s d last_bytes ≡ 0 = rw isnt in
          (eq-eqb (named s n) 0 (sym file_is ∙ none_so), ap (is_directory s) (sym directory_is) ∙ isnt)

    module _ (some' : k ≢ 0) where
      pub at_nowhere : is_directory s d ≡ false → (p : Option' FileNo) → p ≡ file_numbered d → Locates s bytes (Nowhere p)
      unfolding located
      at_nowhere isnt p in_its_place n is =
          let facts = nothing_within some' n is isnt in
          rw (facts.0, facts.1) (ap Nowhere (in_its_place ∙ ap file_numbered (directory_is some' n is)))

      module _ (e : FileNo) (in_d : e.0 ≡ d) (there : is_directory s e.0 ≡ true) where
        in_parent : (n : List (List ℕ)) → syllables bytes ≡ some n → is_directory s (parent s n) ≡ true
        in_parent n is = ap (is_directory s) (sym (in_d ∙ directory_is some' n is)) ∙ there

        same_file_no : (n : List (List ℕ)) → syllables bytes ≡ some n → e ≡ file_no (parent s n)
        same_file_no n is = let p = in_d ∙ directory_is some' n is in λ i. record { 0 = p i }

        pub at_new : within s e.0 last_bytes ≡ 0 → Locates s bytes (New e)
        unfolding located missing
        at_new none_so n is =
            let gone : named s n ≡ 0 = sym (file_is some' n is) ∙ ap (λ x. within s x last_bytes) (sym in_d) ∙ none_so in
            rw (eq-eqb (named s n) 0 gone, in_parent n is) (ap New (same_file_no n is))

        pub at_old : (f : FileNo) → 0 < f.0 → f.0 ≡ within s e.0 last_bytes → Locates s bytes (Old e f)
        unfolding located missing
        at_old f some'' found n is =
            let same : f.0 ≡ named s n = found ∙ ap (λ x. within s x last_bytes) in_d ∙ file_is some' n is in
            let there' : named s n ≢ 0 = λ z. let zero : f.0 ≡ 0 = same ∙ z in omega (arith, some'') in
            rw (ne_eqb (named s n) 0 there') (λ i. Old (same_file_no n is i) (record { 0 = same i }))

-- ---- the record of a located name

-- a search that found a place, or none and then the end
pub place_or_end : (p : ℕ → Bool) (records : List ℕ) (count d : ℕ) (x : Option' ℕ) → x ≡ found_below count (place_lowest p records d count) → unwrap_or x count ≡ place_lowest p records d count
unfolding place_lowest found_below
place_or_end p records count d x e =
    let q : ℕ → Bool = λ k. p (record_place records d k) in
    let i = lowest count q in
    ⊎_elim
    (λ (h : i < count). rw (e, lt-ltb i count h))
    (λ (h : count ≤ i). let last : count ≡ i = omega (arith, lowest-within count q) in rw (e, le-ltb i count h) last)
    (lt_or_ge i count)

module _ (blocks records files bytes : List ℕ) (d : ℕ) where
  module _ (m : Bool) (h : In blocks records files bytes d m) where
    pub here : is_directory (files_store files) d ≡ true
    here = sym (directory_here blocks records files d) ∙ h.is_directory_lem

  module _ (count : ℕ) (counted : count ≡ file_length files d / 16) where
    pub new_recorded : (h : NewIn blocks records files bytes d) → (i : ℕ) → i ≡ place_lowest (blank_at blocks) records d count → Recorded (filed blocks records files) bytes i
    unfolding record_for
    new_recorded h i found n is =
        let facts = h.names n is in
        rw (facts.0, ← facts.1) (is_blank_lem blocks records files d h.shelf (here true h) count counted i found)

    pub own_recorded : (h : OldIn blocks records files bytes d) → (i : ℕ) → i ≡ place_lowest (named_at blocks (part bytes (last_start bytes) (length bytes))) records d count
        → Recorded (filed blocks records files) bytes i
    unfolding record_for
    own_recorded h i found n is =
        let facts = h.names n is in
        let l : part bytes (last_start bytes) (length bytes) ≡ last n = sym (last-part bytes h.k h.counted h.deep) ∙ ap last (one_name (syllables bytes) h.counted.name n h.counted.is is) in
        rw (facts.0, ← facts.1, ← l) (is_named_lem blocks records files d h.shelf (here false h) count counted (part bytes (last_start bytes) (length bytes)) i found)
