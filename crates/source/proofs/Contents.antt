-- ls is its schema.
use Rattle.std.specs.Prelude.{ℕ, ◌-◌, ◌*◌, ◌<◌, ◌≡◌, refl, ◌≢◌, List, [], ◌∷◌, ◌++◌, true, false, length}
use Rattle.std.proofs.Common.{ap, sym, ◌∙◌, arith, length-append, take_at}
use Rattle.std.proofs.Math.Option.{some}
use Rattle.std.proofs.lemmas.List.{get_or_at}
use Rattle.std.proofs.lemmas.Bool.{not-false}
use Rattle.records.specs.Tests.{not_so}
use Rattle.meaning.specs.Name.{record_count, is_blank, entry_at, name_count, listing}
use Rattle.meaning.specs.Store.{Store, after_all, is_directory, named, front, last}
use Rattle.meaning.specs.NameCalls.{ls}
use Rattle.soundness.specs.WellFacts.{directory-length, blank_file, named_used}
use Rattle.lookup.specs.Walk.{named_more}
use Rattle.trees.proofs.Lookups.{within_is}
use Rattle.source.specs.Naming.{NAME, SYL, Content}
use Rattle.source.specs.Filing.{lsFS}
use Rattle.source.specs.View.{view, Listed}
use Rattle.source.specs.ViewLaws.{numbered_some, numbered_not, more_syllables, no_more}
use Rattle.source.specs.Invariants.{filing_system}
use Rattle.source.specs.NamedBy.{record_of_lem}
use Rattle.source.specs.Tree.{found_by, well_tree}
use Rattle.source.proofs.Listing.{length-listing, row_record, record_row}
use Rattle.source.specs.Accepted.{Ready, accepted, past, spelled}
use Rattle.source.specs.NameStatements.{LsHolds}

-- ---- one more syllable

module _ (dir : NAME) (syllable : SYL) where
  more_length : length (dir ++ syllable ∷ []) - 1 ≡ length dir
  more_length = omega (arith, length-append dir (syllable ∷ []))

  pub more_front : front (dir ++ syllable ∷ []) ≡ dir
  more_front = rw more_length (take_at dir (syllable ∷ []) (length dir) refl)

  pub more_last : last (dir ++ syllable ∷ []) ≡ syllable
  more_last = rw more_length (get_or_at dir syllable [] [] (length dir) refl)

-- ---- a directory's contents are the names in its records

module _ (s : Store) (ready : Ready s) (dir : NAME) (is : is_directory s (named s dir) ≡ true) where
  abbrev d : ℕ
  d = named s dir

  abbrev bytes : List ℕ
  bytes = (s.file d).bytes

  whole : length bytes ≡ 16 * record_count bytes
  whole = directory-length s ready.well d is

  -- a row is a content
  listed_content : (syllable : SYL) → Listed (name_count bytes) (listing bytes) syllable → Content (view s).nstore dir syllable
  listed_content syllable l =
      let (k, h, there, name) = row_record bytes whole l.row l.within in
      let its : (entry_at bytes k).name ≡ syllable = sym name ∙ l.is in
      let number : (entry_at bytes k).file ≢ 0 = λ z. omega (arith, (named_used s ready.well d k is h there).some) in
      let at : named s (dir ++ syllable ∷ []) ≡ (entry_at bytes k).file =
      named_more s dir syllable ∙ within_is s d syllable is
      ∙ rw its at (found_by bytes k h ((well_tree s ready.well).own d k is h number)) in
      record {
        name = dir ++ syllable ∷ [];
        named = (named s (dir ++ syllable ∷ []), numbered_some (named s (dir ++ syllable ∷ [])) (λ z. number (sym at ∙ z)));
        more = no_more (dir ++ syllable ∷ []) (omega (arith, length-append dir (syllable ∷ [])));
        lies = more_front dir syllable;
        ends = more_last dir syllable;
      }

  -- a content has a row
  content_listed : (syllable : SYL) → Content (view s).nstore dir syllable → Listed (name_count bytes) (listing bytes) syllable
  content_listed syllable c = go c.named
    where
      go : (f : ℕ) × ((view s).nstore c.name ≡ some f) → Listed (name_count bytes) (listing bytes) syllable
      go (f, e) =
          let there = numbered_not (named s c.name) f e in
          let (q, q-in, q-last) = record_of_lem s (named s c.name) c.name (more_syllables c.name c.more) refl there in
          let same : q.d ≡ d = q-in ∙ ap (named s) c.lies in
          let h : q.i < record_count bytes = rw same at q.within in
          let file : (entry_at bytes q.i).file ≡ named s c.name = rw same at q.file in
          let used : is_blank bytes q.i ≡ false = not_so (is_blank bytes q.i) (λ b. there (sym file ∙ blank_file bytes q.i b)) in
          let name : (entry_at bytes q.i).name ≡ last c.name = rw same at q-last in
          let (j, l, row) = record_row bytes whole q.i h used in
          record { row = j; within = l; is = row ∙ name ∙ c.ends }

  contents : lsFS dir (Listed (name_count bytes) (listing bytes)) (view s) (view s)
  contents =
      let fs = filing_system s ready.well ready.some_file in
      record {
        change = record { before = fs; after = fs };
        files = refl;
        channels = refl;
        lists = record { stays = refl; stay = refl; is = is; lists = λ syllable. (listed_content syllable, content_listed syllable) };
      }

pub ls-holds : LsHolds
unfolding ls after_all
ls-holds s ready bytes name e size =
    spelled _ name _ _ e (
    past _ _ _ _ λ there.
    past _ _ _ _ λ directory.
    past _ _ _ _ λ room.
    let is = not-false (is_directory s (named s name)) directory in
    accepted _ _ _ _ (name_count (s.file (named s name)).bytes, contents s ready name is, refl, length-listing (s.file (named s name)).bytes (whole s ready name is)))
