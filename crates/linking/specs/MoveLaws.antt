-- The store that an accepted link leaves: the old name stands for its file as before, by the same record, so that a move can take it.
use Rattle.std.specs.Prelude.{ℕ, ◌<◌, ◌≡◌, refl, ◌≢◌, List, false, length}
use Rattle.std.proofs.Math.Path.{sym, ap, subst}
use Rattle.std.proofs.Common.{◌∙◌, true≢false, arith}
use Rattle.std.proofs.Math.Logic.{⊎_elim}
use Rattle.records.specs.Tests.{same_or_not}
use Rattle.std.proofs.Math.Option as O
use Rattle.meaning.specs.Name.{syllables, Entry, entry, written, record_count, entry_at, with_entry}
use Rattle.meaning.specs.Store.{Store, File, after_all, is_directory, named, last}
use Rattle.meaning.specs.Tables.{Tables, store_of}
use Rattle.meaning.specs.Result.{missing}
use Rattle.meaning.specs.NameCalls.{parent, record_for, naming}
use Rattle.soundness.specs.Well.{Well}
use Rattle.directories.specs.EntryLaws.{count_with, entry-same, entry_other}
use Rattle.trees.specs.Rewrite.{own_bytes, other-file}
use Rattle.trees.proofs.Lookups.{parent-same}
use Rattle.trees.specs.Standing.{Place, Standing, some_syllable, missing_some}
use Rattle.trees.specs.Naming.{with_name, naming-entry, naming-rewrites, naming_keeps}
use Rattle.trees.proofs.LetGo.{let_go_named, let_go_file}
use Rattle.trees.proofs.Linked.{linked, linked_is, linked-directory, linked-named, linked_there}
use Rattle.keeping.specs.Sure.{Sized, sized_after}
use Rattle.keeping.proofs.Named.{plain_other, other_standing}
use Rattle.linking.specs.Link.{Accepted}
use Rattle.linking.specs.Act.{link_changes}
use Rattle.linking.specs.ActLaws as L
use Rattle.linking.specs.declared.Plan.{Plan}

module _ (t : Tables) (old new : List ℕ) (p : Plan) (a : Accepted t old new p) where
  abbrev s : Store
  s = store_of t

  abbrev from : List (List ℕ)
  from = a.old-name.name

  abbrev to : List (List ℕ)
  to = a.new-name.name

  abbrev f : ℕ
  f = named s from

  abbrev g : ℕ
  g = named s to

  -- the name given, and the store that link leaves
  abbrev s' : Store
  s' = with_name s to f

  abbrev r : List ℕ
  r = written (entry f (last to))

  abbrev pub after-link : Store
  after-link = after_all s (link_changes s new p)

  pub after_is : after-link ≡ linked s to f
  after_is = ap (after_all s) (L.changes_are t old new p a) ∙ linked_is s to f

  pub place : Place s to
  place = L.to-place t old new p a

  pub small : f < 65536
  small = L.from_small t old new p a

  pub some : f ≢ 0
  some = missing_some s from a.there

  is_from : syllables old ≡ O.some from
  is_from = a.old-name.is

  other_from : f ≢ 1
  other_from = plain_other s (L.well t old new p a) (L.size_of t old new p a) old from is_from a.ordinary

  pub from_more : 0 < length from
  from_more = some_syllable s from other_from

  pub standing_from : Standing s from
  standing_from = other_standing s (L.well t old new p a) (L.size_of t old new p a) old from is_from a.there other_from

  -- ---- the old name's directory and record

  linked-parent : parent (linked s to f) from ≡ parent s from
  unfolding parent naming
  linked-parent =
      let_go_named s' g _
      ∙ parent-same s (parent s to) (record_for s to) r (naming_keeps s to place f small a.plain) from standing_from.place.directory

  abbrev d : ℕ
  d = parent s from

  abbrev j : ℕ
  j = record_for s from

  not_replaced : d ≢ g
  not_replaced e = true≢false (sym standing_from.place.directory ∙ ap (is_directory s) e ∙ a.plain)

  abbrev dir : List ℕ
  dir = (s.file (parent s to)).bytes

  -- in the directory that got the record
  own_has : d ≡ parent s to → (j < record_count (s'.file (parent s to)).bytes) × ((entry_at (s'.file (parent s to)).bytes j).name ≡ last from)
  unfolding naming
  own_has e =
      let w = naming-rewrites s to place f small in
      let there : j < record_count dir = rw e at standing_from.there in
      let has : (entry_at dir j).name ≡ last from = rw e at standing_from.name in
      let named-f : (entry_at dir j).file ≡ f = rw e at standing_from.place.file in
      let bytes = own_bytes s (parent s to) (record_for s to) r w in
      let count = count_with dir r (record_count dir) (record_for s to) w.whole w.size w.within in
      rw bytes (
        omega (arith, count, there),
        ⊎_elim
            (λ (q : j ≡ record_for s to).
            let is-g : g ≡ f = sym place.file ∙ ap (λ (k : ℕ). (entry_at dir k).file) (sym q) ∙ named-f in
            let last-to : (entry_at dir j).name ≡ last to = ap (λ (k : ℕ). (entry_at dir k).name) q ∙ place.own (λ z. some (sym is-g ∙ z)) in
            ap (λ (k : ℕ). (entry_at (with_entry dir (record_for s to) r) k).name) q
            ∙ ap (λ (x : Entry). x.name) (entry-same dir r (record_count dir) (record_for s to) w.whole w.size w.within ∙ naming-entry s to place f small)
            ∙ sym last-to ∙ has)
            (λ (q : j ≢ record_for s to).
            ap (λ (x : Entry). x.name) (entry_other dir r (record_count dir) (record_for s to) w.whole w.size w.within j q) ∙ has)
            (same_or_not j (record_for s to)),
      )

  given_has : (j < record_count (s'.file d).bytes) × ((entry_at (s'.file d).bytes j).name ≡ last from)
  unfolding naming
  given_has =
      ⊎_elim
      (λ (e : d ≡ parent s to). subst (λ (k : ℕ). (j < record_count (s'.file k).bytes) × ((entry_at (s'.file k).bytes j).name ≡ last from)) (sym e) (own_has e))
      (λ (n : d ≢ parent s to).
      let same : s'.file d ≡ s.file d = other-file s (parent s to) (record_for s to) r (naming-rewrites s to place f small) d n in
      rw same (standing_from.there, standing_from.name))
      (same_or_not d (parent s to))

  linked_has : (j < record_count ((linked s to f).file d).bytes) × ((entry_at ((linked s to f).file d).bytes j).name ≡ last from)
  linked_has = subst (λ (x : File). (j < record_count x.bytes) × ((entry_at x.bytes j).name ≡ last from)) (sym (let_go_file s' g d not_replaced)) given_has

  -- ---- the store after link

  pub after_well : Well after-link
  after_well = (L.sure t old new p a).well

  pub after_sized : Sized after-link
  after_sized = sized_after s (link_changes s new p) (L.size_of t old new p a)

  pub after-named : named after-link from ≡ f
  after-named = ap (λ (u : Store). named u from) after_is ∙ linked-named s to place f small a.plain from from_more refl some

  pub after_there : missing after-link from ≡ false
  after_there = ap (λ (u : Store). missing u from) after_is ∙ linked_there s to place f small a.plain from from_more refl some

  pub after_plain : is_directory after-link (named after-link from) ≡ false
  after_plain =
      ap (is_directory after-link) after-named ∙ ap (λ (u : Store). is_directory u f) after_is ∙ linked-directory s to place f small f ∙ a.ordinary

  pub after_standing : Standing after-link from
  after_standing = other_standing after-link after_well after_sized old from is_from after_there (λ e. other_from (sym after-named ∙ e))

  pub after-parent : parent after-link from ≡ d
  after-parent = ap (λ (u : Store). parent u from) after_is ∙ linked-parent

  after_has : (j < record_count (after-link.file (parent after-link from)).bytes) × ((entry_at (after-link.file (parent after-link from)).bytes j).name ≡ last from)
  after_has =
      subst (λ (k : ℕ). (j < record_count (after-link.file k).bytes) × ((entry_at (after-link.file k).bytes j).name ≡ last from)) (sym after-parent)
      (subst (λ (u : Store). (j < record_count (u.file d).bytes) × ((entry_at (u.file d).bytes j).name ≡ last from)) (sym after_is) linked_has)

  pub after_record : record_for after-link from ≡ j
  after_record =
      ⊎_elim
      (λ (e : j ≡ record_for after-link from). sym e)
      (λ (n : j ≢ record_for after-link from). absurd (after_standing.place.others j after_has.0 n after_has.1))
      (same_or_not j (record_for after-link from))
