-- unlink, link, move and remove directory: each leaves a well-formed store.
use Rattle.std.specs.Prelude.{ℕ, ◌-◌, ◌≤◌, ◌≡◌, ◌≢◌, List, [], ◌∷◌, false, not, ◌||◌, length, eqb}
use Rattle.std.proofs.Math.Path.{refl, ap}
use Rattle.std.proofs.Common.{sym, ◌∙◌, arith, eq-eqb}
use Rattle.std.proofs.Math.Bool.{true, true≢false}
use Rattle.std.proofs.lemmas.Bool.{not-false}
use Rattle.records.specs.Rows.{tally, every}
use Rattle.records.specs.RowLaws.{every_all}
use Rattle.records.specs.Tests.{or_left, or_right, not_so}
use Rattle.meaning.specs.File.{needed, longest}
use Rattle.meaning.specs.Name.{syllables, blank_record, record_count, is_blank, is_empty}
use Rattle.meaning.specs.Store.{Store, Change, file, after_all, no_file, root, is_directory, free_blocks, named, held, let_go, last}
use Rattle.meaning.specs.Result.{Result, refused, done, missing, nowhere}
use Rattle.meaning.specs.NameCalls.{parent, record_for, rewritten, naming, unnaming, if_naming_fits, link, unlink, rmdir, move, and_then, with_changes}
use Rattle.meaning.specs.declared.Report.TheVariants.{NoSuchName, IsDirectory, NotDirectory, NotEmpty, InUse}
use Rattle.layout.specs.Room.{same-files}
use Rattle.soundness.specs.Use.{used, directory_used}
use Rattle.soundness.specs.Well.{as_free_lem, Well}
use Rattle.trees.specs.Rewrite.{other-file, directory-same, held_same}
use Rattle.trees.specs.Standing.{Place, Standing}
use Rattle.trees.specs.Naming.{with_name, without_name, naming-rewrites, unnaming-rewrites, names_unnamed}
use Rattle.keeping.specs.Shape.{shape, counted}
use Rattle.keeping.specs.FileStep.{Refiled}
use Rattle.keeping.specs.Sure.{Sure, Good, Sized, past, with_name_lem, if_fits_lem, smaller_fits, sure_then, sure_both, sized_after}
use Rattle.keeping.proofs.Files.{freed_well, let_go_lem}
use Rattle.keeping.specs.OnChannels.{named_used}
use Rattle.keeping.proofs.Named.{plain_other, other_standing, plain_place, named_fits, unnamed_fits, unnamed_shape, unnamed_counted, spot, Nameable, given_shape, given_counted}

module _ (s : Store) (w : Well s) (z : Sized s) where
  -- ---- unlink: the name is taken, and the file let go

  pub unlink_sure : (n : List (List ℕ)) → Standing s n → is_directory s (named s n) ≡ false
      → Sure s (file (parent s n) (unnaming s n) ∷ let_go (without_name s n) (named s n))
  unfolding unnaming
  unlink_sure n t plain =
      sure_then s (file (parent s n) (unnaming s n)) (let_go (without_name s n) (named s n)) (unnamed_fits s w n t)
      (let_go_lem (without_name s n) (named s n) (unnamed_shape s w n t) (unnamed_counted s w n t)
      (λ is. absurd (true≢false (sym is ∙ directory-same s (parent s n) (record_for s n) _ (unnaming-rewrites s n t.place) (named s n) ∙ plain))))

  pub good-unlink : (bytes : List ℕ) → Good s (unlink bytes s)
  unfolding unlink
  good-unlink bytes =
      with_name_lem s (syllables bytes) _ λ n is.
      past s (missing s n) NoSuchName _ λ there.
      past s (is_directory s (named s n)) IsDirectory _ λ plain.
      unlink_sure n (other_standing s w z bytes n is there (plain_other s w z bytes n is plain)) plain

  -- ---- link: the name is given, and the file that it stood for let go

  module _ (to : List (List ℕ)) (p : Place s to) (plain : is_directory s (named s to) ≡ false) (f : ℕ) (q : Nameable s (parent s to) f)
      (ordinary : is_directory s f ≡ false) (size : length (naming s to f).bytes ≤ longest)
      (room : needed (length (naming s to f).bytes) - needed (length (s.file (parent s to)).bytes) ≤ free_blocks s) where
    pub link_sure : Sure s (file (parent s to) (naming s to f) ∷ let_go (with_name s to f) (named s to))
    unfolding naming rewritten
    link_sure =
        sure_then s (file (parent s to) (naming s to f)) (let_go (with_name s to f) (named s to)) (named_fits s to p f room)
        (let_go_lem (with_name s to f) (named s to)
        (given_shape s (parent s to) (record_for s to) (last to) (spot s to p) f q (shape s w) size)
        (rw p.file at (given_counted s (parent s to) (record_for s to) (last to) (spot s to p) f q (counted s w f) (λ is. absurd (true≢false (sym is ∙ ordinary)))))
        (λ is. absurd (true≢false (sym is ∙ directory-same s (parent s to) (record_for s to) _ (naming-rewrites s to p f q.small) (named s to) ∙ plain))))

  pub good-link : (old new : List ℕ) → Good s (link old new s)
  unfolding link if_naming_fits
  good-link old new =
      with_name_lem s (syllables old) _ λ from is_from.
      with_name_lem s (syllables new) _ λ to is-to.
      past s (missing s from) NoSuchName _ λ there.
      past s (is_directory s (named s from)) IsDirectory _ λ ordinary.
      past s (nowhere s to) NoSuchName _ λ here.
      past s (is_directory s (named s to)) IsDirectory _ λ plain.
      if_fits_lem s _ _ _ λ size room.
      let is_in_use = named_used s w z old from is_from there in
      let u = used s (named s from) is_in_use in
      link_sure to (plain_place s w z new to is-to here plain) plain (named s from)
      (record {
        is_in_use = is_in_use;
        not_root = plain_other s w z old from is_from ordinary;
        small = omega (arith, u.within, z.few-files);
        deeper = λ is. absurd (true≢false (sym is ∙ ordinary));
      })
      ordinary size room

  -- ---- move: link, then unlink on the store that it leaves

  pub good_then : (r : Result) (next : Store → Result) → Good s r → ((changes : List Change) → Sure s changes → Good (after_all s changes) (next (after_all s changes)))
      → Good s (and_then s r next)
  unfolding and_then with_changes
  good_then (refused why) next good then = tt
  good_then (done numbers bytes changes) next good then = go (next (after_all s changes)) (then changes good)
    where
      go : (r : Result) → Good (after_all s changes) r → Good s (with_changes changes r)
      go (refused why) more = tt
      go (done numbers bytes more) sure = sure_both s changes more good sure

  -- ---- remove directory: the name is taken, and the directory freed

  module _ (n : List (List ℕ)) (t : Standing s n) (is : is_directory s (named s n) ≡ true) (free : held s (named s n) ≡ false)
      (empty : is_empty (s.file (named s n)).bytes ≡ true) where
    abbrev f : ℕ
    f = named s n

    abbrev s' : Store
    s' = without_name s n

    -- its parent has a record that is not blank
    not_parent : f ≢ parent s n
    unfolding is_empty
    not_parent e =
        let dir = (s.file (parent s n)).bytes in
        let blank : every (record_count dir) (λ i. is_blank dir i) ≡ true = rw e at empty in
        true≢false (sym (every_all (record_count dir) (λ i. is_blank dir i) blank (record_for s n) t.there) ∙ t.written)

    emptied : Refiled s' f no_file
    unfolding unnaming
    emptied =
        let u = directory_used s f is in
        let r = unnaming-rewrites s n t.place in
        record {
          from_one = u.some;
          to_last = rw (same-files s (file (parent s n) (unnaming s n))) u.within;
          not_root = t.not_root;
          form = as_free_lem (record { kind = refl; depth = refl; size = refl });
          deep = λ k. absurd (omega arith);
          was_empty = λ is. rw (other-file s (parent s n) (record_for s n) blank_record r f not_parent) empty;
          is_empty_lem = λ k. absurd (omega arith);
          unnamed = λ k.
              let one : tally (eqb f f) ≡ 1 = ap tally (eq-eqb f f refl) in
              omega (arith, names_unnamed s n t.place f (omega (arith, u.some)), w.once f is t.not_root);
          unheld = λ k. held_same s (parent s n) (record_for s n) blank_record r f ∙ free;
        }

    pub rmdir_sure : Sure s (file (parent s n) (unnaming s n) ∷ file f no_file ∷ [])
    unfolding after_all
    rmdir_sure =
        let u = directory_used s f is in
        sure_then s (file (parent s n) (unnaming s n)) (file f no_file ∷ []) (unnamed_fits s w n t)
        (record {
          fits = (smaller_fits s' f no_file u.some emptied.to_last (λ l. absurd (omega arith)) (omega arith), tt);
          well = freed_well s' f (unnamed_shape s w n t) (unnamed_counted s w n t) emptied;
        })

  pub good-rmdir : (bytes : List ℕ) → Good s (rmdir bytes s)
  unfolding rmdir
  good-rmdir bytes =
      with_name_lem s (syllables bytes) _ λ n is.
      let f = named s n in
      past s (missing s n) NoSuchName _ λ there.
      past s (not (is_directory s f)) NotDirectory _ λ directory.
      past s (eqb f root || held s f) InUse _ λ free.
      past s (not (is_empty (s.file f).bytes)) NotEmpty _ λ empty.
      let other : f ≢ root = λ e. true≢false (sym (or_left (eqb f root) (held s f) (eq-eqb f root e)) ∙ free) in
      rmdir_sure n (other_standing s w z bytes n is there other) (not-false (is_directory s f) directory)
      (not_so (held s f) (λ h. true≢false (sym (or_right (eqb f root) (held s f) h) ∙ free)))
      (not-false (is_empty (s.file f).bytes) empty)

pub good-move : (s : Store) → Well s → Sized s → (old new : List ℕ) → Good s (move old new s)
unfolding move
good-move s w z old new =
    good_then s w z (link old new s) (unlink old) (good-link s w z old new)
    (λ changes sure. good-unlink (after_all s changes) sure.well (sized_after s changes z) old)
