-- A record of a directory is written, added or blanked: the shape stays.
use Rattle.std.specs.Prelude.{ℕ, suc, ◌+◌, ◌≤◌, ◌<◌, max, ◌≡◌, refl, ◌≢◌, true, false, length}
use Rattle.std.proofs.Math.Path.{ap}
use Rattle.std.proofs.Common.{sym, ◌∙◌, ⊎_elim, true≢false, arith}
use mathlib.Core.List.{List, []}
use Rattle.records.specs.Rows.{every}
use Rattle.records.specs.Numbers.{one, zeros}
use Rattle.records.specs.Tests.{same_or_not}
use Rattle.meaning.specs.File.{longest}
use Rattle.meaning.specs.Name.{Entry, is_syllable, same, entry_in, blank_record, record_count, record_at, is_blank, entry_at, with_entry}
use Rattle.meaning.specs.Store.{Store, File, after, root, is_directory}
use Rattle.names.specs.SameLaws.{not_same}
use Rattle.directories.specs.EntryLaws.{length_with, count_with, record_same, record_other, entry-same, entry_other, blank_same, blank_other}
use Rattle.soundness.specs.Use.{directory_used, directory-kind}
use Rattle.soundness.specs.Well.{FileForm, DirectoryFile, as_directory_lem, RecordForm, as_blank, as_naming}
use Rattle.soundness.specs.WellFacts.{form-directory}
use Rattle.trees.specs.Rewrite.{Rewriting, with_record, own_bytes, other-file, kind-same, depth_same, use_same, directory-same}
use Rattle.trees.specs.Entries.{not_empty, naming_syllable}
use Rattle.trees.specs.Naming.{blank_entry}
use Rattle.keeping.specs.Shape.{Shape, channel_moved, record_moved}
use Rattle.keeping.specs.RecordStep.{NewRecord, as_blanked, as_named}

blank_zeros : zeros blank_record 0 16 ≡ true
unfolding zeros every one
blank_zeros = refl

module _ (s : Store) (d i : ℕ) (r : List ℕ) (w : Rewriting s d i r) where
  abbrev dir : List ℕ
  dir = (s.file d).bytes

  abbrev n : ℕ
  n = record_count (s.file d).bytes

  abbrev s' : Store
  s' = with_record s d i r

  abbrev dir' : List ℕ
  dir' = ((with_record s d i r).file d).bytes

  count-now : record_count dir' ≡ max n (suc i)
  count-now = ap record_count (own_bytes s d i r w) ∙ count_with dir r n i w.whole w.size w.within

  now_record : record_at dir' i ≡ r
  now_record = ap (λ (l : List ℕ). record_at l i) (own_bytes s d i r w) ∙ record_same dir r n i w.whole w.size w.within

  now-entry : entry_at dir' i ≡ entry_in r
  now-entry = ap (λ (l : List ℕ). entry_at l i) (own_bytes s d i r w) ∙ entry-same dir r n i w.whole w.size w.within

  now_blank : is_blank dir' i ≡ zeros r 0 16
  now_blank = ap (λ (l : List ℕ). is_blank l i) (own_bytes s d i r w) ∙ blank_same dir r n i w.whole w.size w.within

  -- a record of the store then is the one that was written, or one that was there
  record Old (e j : ℕ) : Type 0 where
    directory : is_directory s e ≡ true
    there : j < record_count (s.file e).bytes
    as_was : record_at (s'.file e).bytes j ≡ record_at (s.file e).bytes j
    entry : entry_at (s'.file e).bytes j ≡ entry_at (s.file e).bytes j
    blank : is_blank (s'.file e).bytes j ≡ is_blank (s.file e).bytes j
    other : e ≡ d → j ≢ i

  data Seen (e j : ℕ) : Type 0 where
    new : e ≡ d → j ≡ i → Seen e j
    old : Old e j → Seen e j

  seen : (e j : ℕ) → is_directory s' e ≡ true → j < record_count (s'.file e).bytes → Seen e j
  seen e j is l =
      ⊎_elim
      (λ (q : e ≡ d). ⊎_elim
      (λ (p : j ≡ i). new q p)
      (λ (o : j ≢ i).
      let l' : j < record_count dir' = rw q at l in
      rw q (old (record {
        directory = w.directory;
        there = omega (arith, count-now, w.within);
        as_was = ap (λ (l : List ℕ). record_at l j) (own_bytes s d i r w) ∙ record_other dir r n i w.whole w.size w.within j o;
        entry = ap (λ (l : List ℕ). entry_at l j) (own_bytes s d i r w) ∙ entry_other dir r n i w.whole w.size w.within j o;
        blank = ap (λ (l : List ℕ). is_blank l j) (own_bytes s d i r w) ∙ blank_other dir r n i w.whole w.size w.within j o;
        other = λ q. o;
      })))
      (same_or_not j i))
      (λ (o : e ≢ d).
      let same-file : (s'.file e).bytes ≡ (s.file e).bytes = ap (λ (x : File). x.bytes) (other-file s d i r w e o) in
      old (record {
        directory = sym (directory-same s d i r w e) ∙ is;
        there = rw same-file at l;
        as_was = ap (λ (l : List ℕ). record_at l j) same-file;
        entry = ap (λ (l : List ℕ). entry_at l j) same-file;
        blank = ap (λ (l : List ℕ). is_blank l j) same-file;
        other = λ q. absurd (o q);
      }))
      (same_or_not e d)

  module _ (h : Shape s) (fits : NewRecord s d i r) (size : length (with_entry dir i r) ≤ longest) where
    own_form : DirectoryFile (s.file d)
    own_form =
        let u = directory_used s d w.directory in
        form-directory (s.file d) (h.files d u.some u.within) (directory-kind s d w.directory)

    file-form : (f : ℕ) → 0 < f → f ≤ s.file_count → FileForm (s'.file f)
    file-form f some within =
        ⊎_elim
        (λ (e : f ≡ d). rw e (as_directory_lem (record {
          kind = kind-same s d i r w d ∙ own_form.kind;
          depth = rw (depth_same s d i r w d) own_form.depth;
          size = rw (own_bytes s d i r w) size;
          whole = rw (own_bytes s d i r w) (omega (arith, length_with dir r n i w.whole w.size w.within));
        })))
        (λ (o : f ≢ d). rw (other-file s d i r w f o) (h.files f some within))
        (same_or_not f d)

    -- ---- the record that is written

    now-form : NewRecord s d i r → RecordForm s' dir' i
    unfolding entry_at
    now-form (as_blanked e) = as_blank (now_blank ∙ ap (λ (l : List ℕ). zeros l 0 16) e ∙ blank_zeros)
    now-form (as_named m) =
        as_naming (record {
          is_in_use = rw now_record (use_same s d i r w (entry_in r).file ∙ m.is_in_use);
          not_root = rw now_record m.not_root;
          written = rw now_record m.written;
        })

    now_deeper : NewRecord s d i r → is_directory s (entry_in r).file ≡ true → (s.file (entry_in r).file).depth ≡ (s.file d).depth + 1
    now_deeper (as_blanked e) is =
        let none : (entry_in r).file ≡ 0 = ap (λ (l : List ℕ). (entry_in l).file) e ∙ ap (λ (x : Entry). x.file) blank_entry in
        let u = directory_used s (entry_in r).file is in
        absurd (omega (arith, u.some))
    now_deeper (as_named m) is = m.deeper is

    -- no record that is there has its name
    apart_from : NewRecord s d i r → (j : ℕ) → j < n → j ≢ i → is_blank dir j ≡ false → (entry_at dir j).name ≢ (entry_in r).name
    apart_from (as_blanked e) j l o b =
        let none : (entry_in r).name ≡ [] = ap (λ (l : List ℕ). (entry_in l).name) e ∙ ap (λ (x : Entry). x.name) blank_entry in
        λ q. not_empty (entry_at dir j).name (syllable (h.records d j w.directory l)) (q ∙ none)
      where
        syllable : RecordForm s dir j → is_syllable (entry_at dir j).name ≡ true
        syllable (as_blank t) = absurd (true≢false (sym t ∙ b))
        syllable (as_naming m) = naming_syllable s dir j m
    apart_from (as_named m) j l o b = m.fresh j l o

    now-fresh : NewRecord s d i r → (j : ℕ) → j < n → j ≢ i → is_blank dir' i ≡ false → (entry_at dir j).name ≢ (entry_in r).name
    now-fresh (as_blanked e) j l o b = absurd (true≢false (sym (now_blank ∙ ap (λ (l : List ℕ). zeros l 0 16) e ∙ blank_zeros) ∙ b))
    now-fresh (as_named m) j l o b = m.fresh j l o

    -- ---- every record

    record_form : (e j : ℕ) → Seen e j → RecordForm s' (s'.file e).bytes j
    record_form e j (new q p) = rw (q, p) (now-form fits)
    record_form e j (old z) =
        record_moved s s' (s.file e).bytes (s'.file e).bytes j z.blank z.as_was (λ u. use_same s d i r w (entry_at (s.file e).bytes j).file ∙ u)
        (h.records e j z.directory z.there)

    depths : (f e : ℕ) → (is_directory s f ≡ true → (s.file f).depth ≡ (s.file e).depth + 1) → is_directory s' f ≡ true → (s'.file f).depth ≡ (s'.file e).depth + 1
    depths f e was is = rw (depth_same s d i r w f, depth_same s d i r w e) (was (sym (directory-same s d i r w f) ∙ is))

    deeper_form : (e j : ℕ) → Seen e j → is_directory s' (entry_at (s'.file e).bytes j).file ≡ true
        → (s'.file (entry_at (s'.file e).bytes j).file).depth ≡ (s'.file e).depth + 1
    deeper_form e j (new q p) = rw (q, p, now-entry) (depths (entry_in r).file d (now_deeper fits))
    deeper_form e j (old z) = rw z.entry (depths (entry_at (s.file e).bytes j).file e (h.deeper e j z.directory z.there))

    distinct_form : (e j k : ℕ) → j < k → Seen e j → Seen e k → is_blank (s'.file e).bytes k ≡ false
        → same (entry_at (s'.file e).bytes j).name (entry_at (s'.file e).bytes k).name ≡ false
    distinct_form e j k l (new q p) (new q' p') b = absurd (omega arith)
    distinct_form e j k l (old y) (old z) b = rw (y.entry, z.entry) (h.distinct e j k y.directory l z.there (sym z.blank ∙ b))
    distinct_form e j k l (new q p) (old z) b =
        let z' : Old d k = rw q at z in
        let b' : is_blank dir' k ≡ false = rw q at b in
        rw (q, p, now-entry, z'.entry) (not_same (entry_in r).name (entry_at dir k).name
        (λ a. apart_from fits k z'.there (z'.other refl) (sym z'.blank ∙ b') (sym a)))
    distinct_form e j k l (old y) (new q p) b =
        let y' : Old d j = rw q at y in
        let b' : is_blank dir' i ≡ false = rw (q, p) at b in
        rw (q, p, now-entry, y'.entry) (not_same (entry_at dir j).name (entry_in r).name (now-fresh fits j y'.there (y'.other refl) b'))

    pub shape_record : Shape s'
    unfolding after
    shape_record =
        record {
          files = file-form;
          top = λ some. let t = h.top some in record { kind = kind-same s d i r w root ∙ t.kind; depth = depth_same s d i r w root ∙ t.depth };
          below = λ f other is. rw (depth_same s d i r w f) (h.below f other (sym (directory-same s d i r w f) ∙ is));
          channels = λ c l. channel_moved s s' (s.channel c) (λ u. use_same s d i r w (s.channel c).file ∙ u) (h.channels c l);
          records = λ e j is l. record_form e j (seen e j is l);
          distinct = λ e j k is l m b. distinct_form e j k l (seen e j is (omega arith)) (seen e k is m) b;
          deeper = λ e j is l. deeper_form e j (seen e j is l);
        }
