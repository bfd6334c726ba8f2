-- The source's state where one channel, or one file that is no directory, changes.
use Rattle.std.specs.Prelude.{ℕ, ◌≤◌, ◌<◌, ◌≡◌, ◌≢◌, true, false, ◌&&◌, ltb}
use Rattle.std.proofs.Math.Path.{refl, fun_ext}
use Rattle.std.proofs.Common.{ap, sym, ◌∙◌, ⊎_elim, true≢false}
use Rattle.std.proofs.Math.Option.{none, some}
use Rattle.std.proofs.Math.Dec.{leb}
use borrow.Author.Tests.{eq-eqb, ne_eqb, lt-ltb}
use Rattle.records.specs.Tests.{and_false, same_or_not, not_so}
use Rattle.meaning.specs.Store.{Store, File, Channel, file, channel, after, in_use, is_directory, is_open, named}
use Rattle.soundness.specs.Use.{of_used, directory-kind}
use Rattle.trees.specs.AfterFile.{file_changed, file-other}
use Rattle.trees.proofs.Lookups.{named_cong}
use Rattle.source.specs.Sets.{◌⊕◌, ◌⩤◌, ◌⟼◌, the}
use Rattle.source.specs.Naming.{NAME}
use Rattle.source.specs.Filing.{ΞNS}
use Rattle.source.specs.View.{numbered, chan_of, view}
use Rattle.source.specs.ViewLaws.{changed, removed, file_there}

-- ---- two stores with the same directories have the same names

module _ (s s' : Store) (dirs : (d : ℕ) → is_directory s' d ≡ is_directory s d) (bytes : (d : ℕ) → is_directory s d ≡ true → (s'.file d).bytes ≡ (s.file d).bytes) where
  pub names_stay : ΞNS (view s) (view s')
  names_stay =
      let same = named_cong s s' dirs bytes in
      record {
        names = fun_ext (λ (name : NAME). ap numbered (same name));
        directories = fun_ext (λ (name : NAME). dirs (named s' name) ∙ ap (is_directory s) (same name));
      }

-- ---- a channel

module _ (s : Store) (c : ℕ) (y : Channel) where
  abbrev s' : Store
  s' = after s (channel c y)

  pub channel_files : (view s').fstore ≡ (view s).fstore
  unfolding after in_use
  channel_files = refl

  pub channel_dirs : (d : ℕ) → is_directory s' d ≡ is_directory s d
  unfolding after is_directory in_use
  channel_dirs d = refl

  pub channel_bytes : (d : ℕ) → is_directory s d ≡ true → (s'.file d).bytes ≡ (s.file d).bytes
  unfolding after
  channel_bytes d is = refl

  pub channel_names : ΞNS (view s) (view s')
  channel_names = names_stay s s' channel_dirs channel_bytes

  open-other : (d : ℕ) → d ≢ c → (view s').cstore d ≡ (view s).cstore d
  unfolding is_open after
  open-other d n = rw (ne_eqb d c n)

  pub channel_put : c < s.channel_count → y.file ≢ 0 → (view s').cstore ≡ (view s).cstore ⊕ the c ⟼ chan_of y
  unfolding is_open after
  channel_put below some_file = changed (view s).cstore (view s').cstore c open-other (chan_of y) here
    where
      here : (view s').cstore c ≡ some (chan_of y)
      here = rw (eq-eqb c c refl, lt-ltb c s.channel_count below, ne_eqb y.file 0 some_file)

  pub channel_dropped : y.file ≡ 0 → (view s').cstore ≡ the c ⩤ (view s).cstore
  unfolding is_open after
  channel_dropped none-held = removed (view s).cstore (view s').cstore c open-other here
    where
      here : (view s').cstore c ≡ none
      here = rw (eq-eqb c c refl, none-held, and_false (ltb c s.channel_count))

-- ---- a file that is no directory, before and after

module _ (s : Store) (f : ℕ) (x : File) where
  abbrev t : Store
  t = after s (file f x)

  pub file-channels : (view t).cstore ≡ (view s).cstore
  unfolding after is_open
  file-channels = refl

  file_counts : t.file_count ≡ s.file_count
  unfolding after
  file_counts = refl

  dir-other : (g : ℕ) → g ≢ f → is_directory t g ≡ is_directory s g
  unfolding is_directory in_use after
  dir-other g n = rw (ne_eqb g f n)

  stored_other : (g : ℕ) → g ≢ f → (view t).fstore g ≡ (view s).fstore g
  unfolding in_use after
  stored_other g n = rw (ne_eqb g f n)

  module _ (plain : is_directory s f ≡ false) (plainly : x.kind ≢ 2) where
    still_plain : is_directory t f ≡ false
    still_plain = not_so (is_directory t f) (λ is. plainly (sym (ap (λ (z : File). z.kind) (file_changed s f x)) ∙ directory-kind t f is))

    file_dirs : (d : ℕ) → is_directory t d ≡ is_directory s d
    file_dirs d =
        ⊎_elim
        (λ (e : d ≡ f). rw e (still_plain ∙ sym plain))
        (λ (n : d ≢ f). dir-other d n)
        (same_or_not d f)

    file-bytes : (d : ℕ) → is_directory s d ≡ true → (t.file d).bytes ≡ (s.file d).bytes
    file-bytes d is =
        ap (λ (z : File). z.bytes) (file-other s f x d (λ (e : d ≡ f). true≢false (sym is ∙ ap (is_directory s) e ∙ plain)))

    pub file-names : ΞNS (view s) (view t)
    file-names = names_stay s t file_dirs file-bytes

  pub file-put : 0 < f → f ≤ s.file_count → x.kind ≢ 0 → (view t).fstore ≡ (view s).fstore ⊕ the f ⟼ x.bytes
  file-put from_one to_last there = changed (view s).fstore (view t).fstore f stored_other x.bytes here
    where
      here : (view t).fstore f ≡ some x.bytes
      here =
          let is = file_changed s f x in
          let kind : (t.file f).kind ≢ 0 = λ z. there (sym (ap (λ (z : File). z.kind) is) ∙ z) in
          file_there t f (of_used t f (record { some = from_one; within = rw file_counts to_last; kind = kind })) ∙ ap (λ (z : File). some z.bytes) is

  pub file_dropped : x.kind ≡ 0 → (view t).fstore ≡ the f ⩤ (view s).fstore
  unfolding in_use after
  file_dropped gone = removed (view s).fstore (view t).fstore f stored_other here
    where
      here : (view t).fstore f ≡ none
      here = rw (eq-eqb f f refl, gone, and_false (ltb 0 f && leb f s.file_count))
