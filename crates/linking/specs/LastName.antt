-- Whether the old name's file goes, where a move takes its name from the store that link leaves.
use Rattle.std.specs.Prelude.{ℕ, ◌+◌, ◌≡◌, refl, ◌≢◌, List, ◌&&◌}
use Rattle.std.proofs.Common.{sym, ◌∙◌, arith}
use Rattle.std.proofs.Math.Path.{ap}
use Rattle.std.proofs.Math.Logic.{⊎_elim}
use Rattle.std.proofs.Math.Bool.{not, true≢false, and-true}
use Rattle.std.proofs.Math.Dec.{eqb}
use borrow.Author.Tests.{eq-eqb, ne_eqb}
use Rattle.records.specs.Rows.{tally}
use Rattle.records.specs.Tests.{same_or_not, and_false}
use Rattle.meaning.specs.Name.{entry, written, names_in}
use Rattle.meaning.specs.Store.{Store, File, after, after_all, is_directory, named, names, held, is_orphan, last}
use Rattle.meaning.specs.Tables.{Tables, store_of}
use Rattle.meaning.specs.NameCalls.{parent, record_for, naming}
use Rattle.trees.specs.AfterFile.{held-file}
use Rattle.trees.specs.Rewrite.{same_names, directory-same, held_same}
use Rattle.trees.specs.Naming.{with_name, without_name, naming-rewrites, names-named}
use Rattle.trees.proofs.LetGo.{let_going_lem, let_go_directory, let_go_file}
use Rattle.trees.proofs.Linked.{linked}
use Rattle.trees.specs.Orphans.{names_less}
use Rattle.trees.proofs.Orphans.{orphan_unlinked}
use Rattle.linking.specs.Link.{Accepted}
use Rattle.linking.specs.Gone.{lone}
use Rattle.linking.specs.Act.{link_changes}
use Rattle.linking.specs.ActLaws as L
use Rattle.linking.specs.declared.Plan.{Plan}
use Rattle.linking.specs.MoveLaws as M

module _ (t : Tables) (old new : List ℕ) (p : Plan) (a : Accepted t old new p) where
  abbrev s : Store
  s = store_of t

  abbrev from : List (List ℕ)
  from = a.old-name.name

  abbrev to : List (List ℕ)
  to = a.new-name.name

  abbrev f : ℕ
  f = named s from

  abbrev g : ℕ
  g = named s to

  -- the name given, and the store that link leaves
  abbrev s' : Store
  s' = with_name s to f

  abbrev r : List ℕ
  r = written (entry f (last to))

  abbrev after-link : Store
  after-link = after_all s (link_changes s new p)

  -- ---- its file goes where the new name stood for it too, and it has no other name and no channel

  linked-names : names (linked s to f) f ≡ names s' f
  unfolding naming
  linked-names =
      same_names s' (linked s to f) f (let_going_lem s' g (λ u. u.file_count ≡ s'.file_count) (λ e. refl) (λ o. unfold after in refl)) (let_go_directory s' g)
      (λ k is. ap (λ (x : File). names_in x.bytes f) (let_go_file s' g k
      (λ e. true≢false (sym is ∙ directory-same s (parent s to) (record_for s to) r (naming-rewrites s to (M.place t old new p a) f (M.small t old new p a)) k ∙ ap (is_directory s) e ∙ a.plain))))

  linked-held : held (linked s to f) f ≡ held s f
  unfolding naming
  linked-held =
      let_going_lem s' g (λ u. held u f ≡ held s f) (λ e. held_same s (parent s to) (record_for s to) r (naming-rewrites s to (M.place t old new p a) f (M.small t old new p a)) f)
      (λ o. held-file s' g _ f ∙ held_same s (parent s to) (record_for s to) r (naming-rewrites s to (M.place t old new p a) f (M.small t old new p a)) f)

  count-names : names after-link f + tally (eqb g f) ≡ names s f + 1
  count-names =
      let own : tally (eqb f f) ≡ 1 = ap tally (eq-eqb f f refl) in
      omega (arith, ap (λ (u : Store). names u f) (M.after_is t old new p a), linked-names, names-named s to (M.place t old new p a) f (M.small t old new p a) f (M.some t old new p a), own)

  orphan_moved : eqb (names after-link f) 1 && not (held after-link f) ≡ lone s g && eqb g f
  unfolding lone
  orphan_moved =
      let holders : held after-link f ≡ held s f = ap (λ (u : Store). held u f) (M.after_is t old new p a) ∙ linked-held in
      ⊎_elim
      (λ (e : g ≡ f).
      let one : tally (eqb g f) ≡ 1 = ap tally (eq-eqb g f e) in
      let same : names after-link f ≡ names s f = omega (arith, count-names) in
      rw (same, holders) (sym (rw (eq-eqb g f e, e, ne_eqb f 0 (M.some t old new p a)) (and-true (eqb (names s f) 1 && not (held s f))))))
      (λ (n : g ≢ f).
      let none : tally (eqb g f) ≡ 0 = ap tally (ne_eqb g f n) in
      let more : names after-link f ≢ 1 = omega (arith, count-names, names_less s (L.well t old new p a) from (M.standing_from t old new p a)) in
      rw (ne_eqb (names after-link f) 1 more) (sym (rw (ne_eqb g f n) (and_false (lone s g)))))
      (same_or_not g f)

  pub last_orphan : is_orphan (without_name after-link from) f ≡ lone s g && eqb g f
  last_orphan =
      ap (is_orphan (without_name after-link from)) (sym (M.after-named t old new p a))
      ∙ orphan_unlinked after-link (M.after_well t old new p a) from (M.after_standing t old new p a) (M.after_plain t old new p a)
      ∙ ap (λ (h : ℕ). eqb (names after-link h) 1 && not (held after-link h)) (M.after-named t old new p a)
      ∙ orphan_moved
