-- A file without records is written, made or freed: the shape stays, and who is named how often.
use Prim.Native.Nat.{ℕ, suc, ◌+◌, ◌-◌, ◌≤◌, ◌<◌}
use Rattle.std.specs.Prelude.{◌≡◌, ◌≢◌, [], Bool, true}
use Rattle.std.proofs.Math.Path.{refl, ap}
use Rattle.std.proofs.Common.{sym, ◌∙◌, inl, inr, ⊎_elim, arith}
use Rattle.std.proofs.Math.Bool.{false}
use Rattle.records.specs.Rows.{pick, sum, every}
use Rattle.records.specs.RowLaws.{sum_update}
use Rattle.records.specs.Tests.{same_or_not}
use Rattle.meaning.specs.Name.{record_count, entry_at, names_in, is_empty}
use Rattle.meaning.specs.Store.{Store, File, file, after, root, in_use, is_directory, names, held}
use Rattle.soundness.specs.Use.{used, of_used, directory_used, directory-kind}
use Rattle.soundness.specs.Well.{FileForm, ChannelForm, RecordForm}
use Rattle.trees.specs.AfterFile.{file_changed, file-other, held-file, same_use, same-directory}
use Rattle.trees.specs.Rewrite.{given_by}
use Rattle.keeping.specs.Shape.{Shape, Counted, channel_moved, record_moved}
use Rattle.keeping.specs.References.{empty_names, not_held, not_named}
use Rattle.keeping.specs.FileStep.{Refiled}

module _ (s : Store) (g : ℕ) (x : File) (w : Refiled s g x) where
  abbrev s' : Store
  s' = after s (file g x)

  count_same : s'.file_count ≡ s.file_count
  unfolding after
  count_same = refl

  other-kind : (f : ℕ) → f ≢ g → (s'.file f).kind ≡ (s.file f).kind
  other-kind f o = ap (λ (y : File). y.kind) (file-other s g x f o)

  pub other_use : (f : ℕ) → f ≢ g → in_use s' f ≡ in_use s f
  other_use f o = same_use s s' count_same f (other-kind f o)

  pub other-directory : (f : ℕ) → f ≢ g → is_directory s' f ≡ is_directory s f
  other-directory f o = same-directory s s' count_same f (other-kind f o)

  pub own_use : x.kind ≢ 0 → in_use s' g ≡ true
  own_use k = of_used s' g (record { some = w.from_one; within = rw count_same w.to_last; kind = rw (file_changed s g x) k })

  pub own_kind : is_directory s' g ≡ true → x.kind ≡ 2
  own_kind is = sym (ap (λ (y : File). y.kind) (file_changed s g x)) ∙ directory-kind s' g is

  own_bytes : is_directory s' g ≡ true → (s'.file g).bytes ≡ []
  own_bytes is = ap (λ (y : File). y.bytes) (file_changed s g x) ∙ w.is_empty_lem (own_kind is)

  -- a record of the store then is a record as it was, of a directory that stays
  record Kept (e i : ℕ) : Type 0 where
    other : e ≢ g
    directory : is_directory s e ≡ true
    bytes : (s'.file e).bytes ≡ (s.file e).bytes
    there : i < record_count (s.file e).bytes

  kept : (e i : ℕ) → is_directory s' e ≡ true → i < record_count (s'.file e).bytes → Kept e i
  kept e i is h =
      ⊎_elim
      (λ (q : e ≡ g).
      let none : i < record_count [] = rw (q, own_bytes (rw q at is)) at h in
      absurd (omega arith))
      (λ (o : e ≢ g).
      let same-file : (s'.file e).bytes ≡ (s.file e).bytes = ap (λ (y : File). y.bytes) (file-other s g x e o) in
      record { other = o; directory = sym (other-directory e o) ∙ is; bytes = same-file; there = rw same-file at h })
      (same_or_not e g)

  -- what a record or a channel refers to stays in use
  stays : (f : ℕ) → (f ≡ g → x.kind ≢ 0) → in_use s f ≡ true → in_use s' f ≡ true
  stays f own was =
      ⊎_elim (λ (e : f ≡ g). rw e (own_use (own e))) (λ (o : f ≢ g). other_use f o ∙ was) (same_or_not f g)

  -- a record names g only if g is then ordinary
  named-kind : (e i : ℕ) → Kept e i → (entry_at (s.file e).bytes i).file ≡ g → x.kind ≡ 1
  named-kind e i k q =
      ⊎_elim (λ h. h) (λ (o : x.kind ≢ 1). absurd (not_named s g (w.unnamed o) e i k.directory k.there q)) (same_or_not x.kind 1)

  module _ (h : Shape s) where
    file-form : (f : ℕ) → 0 < f → f ≤ s.file_count → FileForm (s'.file f)
    file-form f some within =
        ⊎_elim
        (λ (e : f ≡ g). rw (e, file_changed s g x) w.form)
        (λ (o : f ≢ g). rw (file-other s g x f o) (h.files f some within))
        (same_or_not f g)

    below_form : (f : ℕ) → f ≢ root → is_directory s' f ≡ true → 0 < (s'.file f).depth
    below_form f other is =
        ⊎_elim
        (λ (e : f ≡ g). rw (e, file_changed s g x) (w.deep (own_kind (rw e at is))))
        (λ (o : f ≢ g). rw (file-other s g x f o) (h.below f other (sym (other-directory f o) ∙ is)))
        (same_or_not f g)

    channel_form : (c : ℕ) → c < s.channel_count → ChannelForm s' (s.channel c)
    channel_form c l =
        channel_moved s s' (s.channel c) (stays (s.channel c).file (λ e k. not_held s g (w.unheld k) c l e)) (h.channels c l)

    record_form : (e i : ℕ) → Kept e i → RecordForm s' (s'.file e).bytes i
    record_form e i k =
        let dir = (s.file e).bytes in
        rw k.bytes (record_moved s s' dir dir i refl refl (stays (entry_at dir i).file (λ q z. let one = named-kind e i k q in absurd (omega arith)))
        (h.records e i k.directory k.there))

    deeper_form : (e i : ℕ) → Kept e i → is_directory s' (entry_at (s.file e).bytes i).file ≡ true
        → (s'.file (entry_at (s.file e).bytes i).file).depth ≡ (s'.file e).depth + 1
    deeper_form e i k is =
        let f = (entry_at (s.file e).bytes i).file in
        ⊎_elim
        (λ (q : f ≡ g).
        let one = named-kind e i k q in
        let two = own_kind (rw q at is) in
        absurd (omega arith))
        (λ (o : f ≢ g). rw (file-other s g x f o, file-other s g x e k.other) (h.deeper e i k.directory k.there (sym (other-directory f o) ∙ is)))
        (same_or_not f g)

    pub shape_file : Shape s'
    unfolding after
    shape_file =
        record {
          files = file-form;
          top = λ some. rw (file-other s g x root (λ e. w.not_root (sym e))) (h.top some);
          below = below_form;
          channels = channel_form;
          records = λ e i is l. record_form e i (kept e i is l);
          distinct = λ e j i is l m b.
              let k = kept e i is m in
              rw k.bytes (h.distinct e j i k.directory l k.there (rw k.bytes at b));
          deeper = λ e i is l. let k = kept e i is l in rw k.bytes (deeper_form e i k);
        }

  -- ---- nobody's names change

  given_own : (f : ℕ) → f ≢ 0 → (r : ℕ) → suc r ≡ g → (given_by s f r ≡ 0) × (given_by s' f r ≡ 0)
  given_own f some r e = rw e (before (is_directory s g) refl, then (is_directory s' g) refl)
    where
      before : (t : Bool) → is_directory s g ≡ t → pick t (names_in (s.file g).bytes f) 0 ≡ 0
      before true is = empty_names (s.file g).bytes f some (w.was_empty is)
      before false is = refl

      then : (t : Bool) → is_directory s' g ≡ t → pick t (names_in (s'.file g).bytes f) 0 ≡ 0
      then true is = empty_names (s'.file g).bytes f some (rw (own_bytes is) (unfold is_empty every in refl))
      then false is = refl

  pub names-file : (f : ℕ) → f ≢ 0 → names s' f ≡ names s f
  unfolding names
  names-file f some =
      let r : suc (g - 1) ≡ g = omega (arith, w.from_one) in
      let counts : names s' f ≡ sum s.file_count (given_by s' f) = ap (λ (n : ℕ). sum n (given_by s' f)) count_same in
      let own = given_own f some (g - 1) r in
      let change = sum_update s.file_count (given_by s f) (given_by s' f) (g - 1) (omega (arith, w.from_one, w.to_last))
      (λ k h (o : k ≢ g - 1). rw (other-directory (suc k) (omega arith), file-other s g x (suc k) (omega arith))) in
      omega (arith, own.0, own.1)

  pub counted-file : Counted g s → Counted g s'
  counted-file c =
      record {
        once = λ f o is other.
            let was : is_directory s f ≡ true = sym (other-directory f o) ∙ is in
            let u = directory_used s f was in
            names-file f (omega (arith, u.some)) ∙ c.once f o was other;
        kept = λ f o is plain.
            let was : in_use s f ≡ true = sym (other_use f o) ∙ is in
            let u = used s f was in
            ⊎_elim
            (λ (m : 0 < names s f). inl (omega (arith, names-file f (omega (arith, u.some)))))
            (λ (m : held s f ≡ true). inr (held-file s g x f ∙ m))
            (c.kept f o was (sym (other-directory f o) ∙ plain));
      }
