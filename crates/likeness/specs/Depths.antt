-- Depths of alike well-formed stores agree, though likeness does not name them: the root is at 0, every other directory
-- one below the directory that names it, and directories are equal.
use Prim.Native.Nat.{ℕ, zero, suc, ◌+◌, ◌≤◌, ◌<◌}
use Rattle.std.specs.Prelude.{◌≡◌, refl, ◌≢◌, Bool, true, false, eqb}
use Rattle.std.proofs.Common.{sym, ◌∙◌, ⊎_elim, arith, eqb-true}
use Rattle.records.specs.Rows.{pick, lowest, sum}
use Rattle.records.specs.RowLaws.{lowest_hit, some_lowest}
use Rattle.records.specs.Tests.{tested, same_or_not, lt_or_ge}
use Rattle.meaning.specs.Name.{record_count, entry_at, names_in}
use Rattle.meaning.specs.Store.{Store, File, is_directory, names, root}
use Rattle.soundness.specs.Use.{directory_used, directory-kind, of_directory}
use Rattle.soundness.specs.Well.{Well, FileForm, as_free_lem, as_ordinary_lem, as_directory_lem}
use Rattle.soundness.specs.WellFacts.{root-depth}
use Rattle.likeness.specs.Alike.{Listed, AlikeStores}

-- ---- a file with a name is named by some record

-- a sum that is not 0 has a term that is not
pub some_term : (n : ℕ) (g : ℕ → ℕ) → 0 < sum n g → (i : ℕ) × (i < n) × (0 < g i)
unfolding sum
some_term zero g h = absurd (omega arith)
some_term (suc n) g h =
    ⊎_elim
    (λ (l : 0 < g n). (n, omega arith, l))
    (λ (l : g n ≤ 0). let (i, below, some) = some_term n g (omega arith) in (i, omega arith, some))
    (lt_or_ge 0 (g n))

-- record i of directory d names file f
pub record NamedBy (s : Store) (f d i : ℕ) : Type 0 where
  pub directory : is_directory s d ≡ true
  pub within : i < record_count (s.file d).bytes
  pub names : (entry_at (s.file d).bytes i).file ≡ f

module _ (s : Store) (f : ℕ) where
  pub some_record : 0 < names s f → (d i : ℕ) × NamedBy s f d i
  unfolding names names_in
  some_record h = go (some_term s.file_count count h)
    where
      count : ℕ → ℕ
      count i = pick (is_directory s (suc i)) (names_in (s.file (suc i)).bytes f) 0

      in_directory_lem : (d : ℕ) (t : Bool) → is_directory s d ≡ t → 0 < pick t (names_in (s.file d).bytes f) 0 → (d i : ℕ) × NamedBy s f d i
      in_directory_lem d false is some = absurd (omega arith)
      in_directory_lem d true is some =
          let dir = (s.file d).bytes in
          let test : ℕ → Bool = λ i. eqb (entry_at dir i).file f in
          let i = lowest (record_count dir) test in
          let within : i < record_count dir = some_lowest (record_count dir) test some in
          (d, i, record { directory = is; within = within; names = eqb-true (entry_at dir i).file f (lowest_hit (record_count dir) test within) })

      go : (i : ℕ) × (i < s.file_count) × (0 < count i) → (d i : ℕ) × NamedBy s f d i
      go r = in_directory_lem (suc r.0) (is_directory s (suc r.0)) refl r.2

-- ---- two stores

module _ (listed : Listed) (s s' : Store) (w : Well s) (w' : Well s') (a : AlikeStores listed s s') where
  -- no directory is listed
  pub directory_unlisted : (d : ℕ) → (s.file d).kind ≡ 2 → listed d ≡ false
  directory_unlisted d k =
      ⊎_elim (λ (l : listed d ≡ true). absurd (omega (arith, a.ordinary d l))) (λ l. l) (tested (listed d))

  directory_there : (d : ℕ) → is_directory s d ≡ true → is_directory s' d ≡ true
  directory_there d is =
      let u = directory_used s d is in
      of_directory s' d u.some (omega (arith, u.within, a.files)) (sym (a.kinds d u.some u.within) ∙ directory-kind s d is)

  directory-same : (d : ℕ) → is_directory s d ≡ true → (s.file d).bytes ≡ (s'.file d).bytes
  directory-same d is =
      let u = directory_used s d is in
      a.bytes d u.some u.within (directory_unlisted d (directory-kind s d is))

  -- what names f here does there
  named_there : (f d i : ℕ) → is_directory s f ≡ true → NamedBy s f d i → (s'.file f).depth ≡ (s'.file d).depth + 1
  named_there f d i is r =
      let e = directory-same d r.directory in
      let names : (entry_at (s'.file d).bytes i).file ≡ f = rw (← e) r.names in
      rw names at (w'.deeper d i (directory_there d r.directory) (rw (← e) r.within) (rw names (directory_there f is)))

  directory-depth : (n f : ℕ) → is_directory s f ≡ true → (s.file f).depth < n → (s.file f).depth ≡ (s'.file f).depth
  directory-depth zero f is h = absurd (omega arith)
  directory-depth (suc n) f is h =
      ⊎_elim
      (λ (e : f ≡ root).
      let u = directory_used s f is in
      let here : (s.file f).depth ≡ 0 = rw e (root-depth s w (omega (arith, u.some, u.within))) in
      let there : (s'.file f).depth ≡ 0 = rw e (root-depth s' w' (omega (arith, u.some, u.within, a.files))) in
      omega arith)
      (λ (other : f ≢ root).
      let (d, i, r) = some_record s f (omega (arith, w.once f is other)) in
      let here : (s.file f).depth ≡ (s.file d).depth + 1 = rw r.names at (w.deeper d i r.directory r.within (rw r.names is)) in
      let there : (s'.file f).depth ≡ (s'.file d).depth + 1 = named_there f d i is r in
      omega (arith, directory-depth n d r.directory (omega arith)))
      (same_or_not f root)

  -- ordinary and free files have depth 0
  plain_depth : (x : File) → FileForm x → x.kind ≢ 2 → x.depth ≡ 0
  plain_depth x (as_free_lem h) k = h.depth
  plain_depth x (as_ordinary_lem h) k = h.depth
  plain_depth x (as_directory_lem h) k = absurd (k h.kind)

  pub same-depth : (f : ℕ) → 0 < f → f ≤ s.file_count → (s.file f).depth ≡ (s'.file f).depth
  same-depth f some last =
      ⊎_elim
      (λ (k : (s.file f).kind ≡ 2). directory-depth (suc (s.file f).depth) f (of_directory s f some last k) (omega arith))
      (λ (k : (s.file f).kind ≢ 2).
      plain_depth (s.file f) (w.files f some last) k
      ∙ sym (plain_depth (s'.file f) (w'.files f some (omega (arith, a.files))) (λ k'. k (a.kinds f some last ∙ k'))))
      (same_or_not (s.file f).kind 2)
