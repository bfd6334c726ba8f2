-- An accepted link: what its act asks holds, and the changes of the plan are those of link.
use Rattle.std.specs.Prelude.{ℕ, ◌≤◌, ◌<◌, ◌≢◌, Bool, ◌&&◌, length, eqb, Some}
use Rattle.std.proofs.Math.Path.{◌≡◌, refl, sym, ap}
use Rattle.std.proofs.Common.{subst, ◌∙◌, true≢false}
use Rattle.std.proofs.Math.Logic.{⊎_elim}
use mathlib.Core.List.{List, [], ◌∷◌}
use Rattle.std.proofs.Math.Bool.{true, not, and-true}
use native.Mathlib.Omega.{arith}
use borrow.Author.Tests.{eq-eqb, ne_eqb}
use Rattle.records.specs.Rows.{pick}
use Rattle.records.specs.Tests.{same_or_not, and_false}
use Rattle.meaning.specs.Name.{entry, written}
use Rattle.meaning.specs.Store.{Store, File, Change, file, no_file, in_use, is_directory, named, names, held, is_orphan, let_go, last}
use Rattle.meaning.specs.Tables.{Tables, store_of, file_count}
use Rattle.meaning.specs.Sound.{sound}
use Rattle.meaning.specs.Types.{numbered-some}
use Rattle.meaning.specs.Result.{done, unless, missing}
use Rattle.meaning.specs.NameCalls.{parent, rewritten, naming}
use Rattle.meaning.specs.Run.{Call, result_of}
use Rattle.names.specs.Syllables.{part, last_start}
use Rattle.layout.specs.Layout.{sound_layout}
use Rattle.layout.specs.Fits.{FileFits}
use Rattle.soundness.specs.Use.{used}
use Rattle.soundness.specs.Well.{Well}
use Rattle.soundness.specs.WellFacts.{directory-form}
use Rattle.lookup.specs.Filed.{sound_well}
use Rattle.trees.specs.Standing.{Place, Standing, some_syllable}
use Rattle.trees.specs.Naming.{with_name}
use Rattle.trees.proofs.Orphans.{orphan_replaced, orphan_again, orphan_none}
use Rattle.keeping.specs.Sure.{Sure, Sized}
use Rattle.keeping.specs.OnChannels.{named_used}
use Rattle.keeping.proofs.OnNames.{link_sure}
use Rattle.keeping.proofs.Named.{plain_other, plain_place, other_standing, named_fits}
use Rattle.naming.specs.LocateLaws.{last-part, last_inside}
use Rattle.recording.specs.Recording.{record_of}
use Rattle.counts.specs.Gone.{gone_with}
use Rattle.linking.specs.Link.{Accepted}
use Rattle.linking.specs.Gone.{lone, freed_unlike, unlike_some, gone_same}
use Rattle.placing.specs.Free.{sized}
use Rattle.linking.specs.LinkRest.{link_on}
use Rattle.linking.specs.Act.{goes, unlike, freed, link_changes, Linkable}
use Rattle.meaning.specs.declared.FileNo.{FileNo}
use Rattle.linking.specs.declared.Plan.{Plan}

module _ (t : Tables) (old new : List ℕ) (p : Plan) (a : Accepted t old new p) where
  abbrev pub s : Store
  s = store_of t

  abbrev pub from : List (List ℕ)
  from = a.old-name.name

  abbrev pub to : List (List ℕ)
  to = a.new-name.name

  abbrev pub f : ℕ
  f = named s from

  abbrev pub g : ℕ
  g = named s to

  pub is_sound : sound t ≡ true
  is_sound = a.ok

  pub well : Well s
  well = sound_well t is_sound

  pub size_of : Sized s
  size_of = sized t is_sound

  pub to-place : Place s to
  to-place = plain_place s well size_of new to a.new-name.is a.here a.plain

  pub to_more : 0 < length to
  to_more = some_syllable s to (plain_other s well size_of new to a.new-name.is a.plain)

  pub from_used : in_use s f ≡ true
  from_used = named_used s well size_of old from a.old-name.is a.there

  pub from_small : f < 65536
  from_small = let u = used s f from_used in omega (arith, u.within, size_of.few-files)

  -- ---- the record

  deep : a.k ≢ 0
  deep = omega (arith, to_more, a.new-name.count)

  last_is : last to ≡ part new (last_start new) (length new)
  last_is = last-part new a.k a.new-name deep

  record_is : record_of p.file.0 new ≡ written (entry f (last to))
  unfolding record_of
  record_is =
      ap (λ (h : ℕ). written (entry h (part new (last_start new) (length new)))) a.file_is
      ∙ ap (λ (l : List ℕ). written (entry f l)) (sym last_is)

  pub dir_is : rewritten s p.to.0 p.place (record_of p.file.0 new) ≡ naming s to f
  unfolding naming
  dir_is =
      ap (rewritten s p.to.0 p.place) record_is
      ∙ ap (λ (d : ℕ). rewritten s d p.place (written (entry f (last to)))) a.to_is
      ∙ ap (λ (i : ℕ). rewritten s (parent s to) i (written (entry f (last to)))) a.place

  -- ---- the file that the new name stood for

  standing_to : g ≢ 0 → Standing s to
  unfolding missing
  standing_to d =
      other_standing s well size_of new to a.new-name.is
      (ne_eqb g 0 d)
      (plain_other s well size_of new to a.new-name.is a.plain)

  pub goes_is : freed (goes p) ≡ pick (lone s g && not (eqb g f)) (file g no_file ∷ []) []
  unfolding goes
  goes_is =
      freed_unlike s g p.gone a.gone_is p.file
      ∙ ap (λ (h : ℕ). pick (lone s g && not (eqb g h)) (file g no_file ∷ []) []) a.file_is

  pub orphan_is : is_orphan (with_name s to f) g ≡ lone s g && not (eqb g f)
  unfolding lone
  orphan_is =
      ⊎_elim
      (λ (z : g ≡ 0). ap (is_orphan (with_name s to f)) z ∙ orphan_none (with_name s to f) ∙ sym (rw (eq-eqb g 0 z)))
      (λ (n : g ≢ 0).
      ⊎_elim
      (λ (e : f ≡ g).
      ap (λ (h : ℕ). is_orphan (with_name s to h) g) e ∙ orphan_again s well to (standing_to n) a.plain (rw e at from_small)
      ∙ sym (rw (eq-eqb g f (sym e)) (and_false (lone s g))))
      (λ (d : f ≢ g).
      orphan_replaced s well to (standing_to n) a.plain f from_small d
      ∙ sym (rw (ne_eqb g f (λ e. d (sym e)), ne_eqb g 0 n) (and-true (eqb (names s g) 1 && not (held s g)))))
      (same_or_not f g))
      (same_or_not g 0)

  pub changes_are : link_changes s new p ≡ file (parent s to) (naming s to f) ∷ let_go (with_name s to f) g
  unfolding link_changes let_go
  changes_are =
      ap (λ (x : File). file p.to.0 x ∷ freed (goes p)) dir_is
      ∙ ap (λ (d : ℕ). file d (naming s to f) ∷ freed (goes p)) a.to_is
      ∙ ap (λ (l : List Change). file (parent s to) (naming s to f) ∷ l) goes_is
      ∙ ap (λ (b : Bool). file (parent s to) (naming s to f) ∷ pick b (file g no_file ∷ []) []) (sym orphan_is)

  -- the changes of the plan are those of link
  pub means : done [] [] (link_changes s new p) ≡ result_of (Call.Link old new) t
  unfolding unless
  means = ap (done [] []) changes_are ∙ link_on t old new p a

  -- the tables can take them, and the store that they leave is well formed
  pub sure : Sure s (link_changes s new p)
  sure =
      rw changes_are
      (link_sure s well size_of to to-place a.plain f
      (record {
        is_in_use = from_used;
        not_root = plain_other s well size_of old from a.old-name.is a.ordinary;
        small = from_small;
        deeper = λ is. absurd (true≢false (sym is ∙ a.ordinary));
      })
      a.ordinary a.size a.room)

  -- what the act asks
  count_is : s.file_count ≡ file_count t.file_records
  unfolding store_of
  count_is = refl

  pub linkable : Linkable t.blocks t.block_records t.file_records new p
  linkable =
      record {
        giving = record {
          channels = t.channel_records;
          layout = sound_layout t is_sound;
          is_directory_lem = ap (is_directory s) a.to_is ∙ to-place.directory;
          fits =
              subst (λ (d : ℕ). FileFits s d (rewritten s p.to.0 p.place (record_of p.file.0 new))) (sym a.to_is)
              (subst (FileFits s (parent s to)) (sym dir_is) (named_fits s to to-place f a.room));
        };
        few = omega (arith, a.place, to-place.within, (directory-form s well (parent s to) to-place.directory).size);
        begins = last_inside new a.k a.new-name deep;
        spelled = rw (← last_is) to-place.spelled;
        replaced = λ h e. few_replaced h (unfold goes in e);
      }
    where
      few_replaced : (h : FileNo) → unlike p.file p.gone ≡ Some h → (0 < h.0) × (h.0 ≤ file_count t.file_records)
      few_replaced h e =
          let is = numbered-some (gone_with s g) h (sym a.gone_is ∙ unlike_some p.file p.gone h e) in
          let same = gone_same s g is.0 in
          let n : g ≢ 0 = λ z. (let no : 0 < 0 = rw (same, z) at is.0 in omega arith) in
          let u = used s g (standing_to n).is_in_use in
          (omega (arith, is, same, u.some), omega (arith, is, same, u.within, count_is))
