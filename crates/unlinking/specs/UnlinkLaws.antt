-- A name that stands for an ordinary file: its record can be made blank, and the file goes or stays as the code finds.
use Rattle.std.specs.Prelude.{ℕ, zero, suc, Option, ◌≤◌, ◌<◌, ◌≡◌, refl, ◌≢◌, List, [], ◌∷◌, Bool, true, false, ◌&&◌, eqb}
use Rattle.std.proofs.Common.{sym, ◌∙◌, arith, ne_eqb}
use Rattle.std.proofs.Math.Bool.{not}
use Rattle.records.specs.Rows.{pick}
use Rattle.meaning.specs.Name.{blank_record}
use Rattle.meaning.specs.Store.{Store, file, no_file, root, is_directory, named, names, held, let_go}
use Rattle.meaning.specs.Tables.{Tables, store_of, file_count}
use Rattle.meaning.specs.Types.{file_numbered, file_or_zero, or_zero_is}
use Rattle.meaning.specs.declared.FileNo.{FileNo}
use Rattle.meaning.specs.NameCalls.{parent, record_for, rewritten, unnaming}
use Rattle.layout.specs.Layout.{sound_layout}
use Rattle.layout.specs.Fits.{FileFits}
use Rattle.soundness.specs.Seen.{files_store}
use Rattle.soundness.specs.Use.{used}
use Rattle.soundness.specs.Well.{Well}
use Rattle.lookup.specs.Filed.{sound_well}
use Rattle.trees.specs.Standing.{Standing}
use Rattle.trees.specs.Naming.{without_name}
use Rattle.trees.proofs.Orphans.{orphan_unlinked}
use Rattle.keeping.proofs.Named.{plain_other, unnamed_fits}
use Rattle.naming.specs.At.{At, file-directory, old_dir, stands_for}
use Rattle.naming.specs.declared.Located.TheVariants.{Old}
use Rattle.counts.specs.Gone.{gone_with}
use Rattle.placing.specs.Free.{sized}
use Rattle.placing.specs.OldName.{freed, small}
use Rattle.placing.specs.OldName as O
use Rattle.unlinking.specs.Unlink.{freeing, CanGo, Takes}

-- a file let go, by its number
freed_numbered : (g : ℕ) → freed (file_numbered g) ≡ freeing g
unfolding file_numbered freeing
freed_numbered zero = refl
freed_numbered (suc g) = rw (ne_eqb (suc g) 0 (omega arith))

pub freed_is : (x : Option FileNo) (g : ℕ) → x ≡ file_numbered g → freed x ≡ freeing (file_or_zero x)
freed_is x g is = rw (or_zero_is x g is, is) (freed_numbered g)

-- the file that goes is the one that is let go, and is one of the tables'
freeing_picked : (g : ℕ) → g ≢ 0 → (v : Bool) → freeing (pick v g 0) ≡ pick v (file g no_file ∷ []) []
unfolding freeing
freeing_picked g some true = rw (ne_eqb g 0 some)
freeing_picked g some false = refl

picked_within : (n g : ℕ) → g ≤ n → (v : Bool) → pick v g 0 ≤ n
picked_within n g l true = l
picked_within n g l false = omega arith

freed_picked : (g : ℕ) → 0 < g → (v : Bool) → freed (file_numbered (pick v g 0)) ≡ pick v (file g no_file ∷ []) []
freed_picked g some v = freed_numbered (pick v g 0) ∙ freeing_picked g (λ e. omega (arith, some)) v

picked_can_go : (t : Tables) (g : ℕ) → g ≤ file_count t.file_records → (v : Bool) → CanGo t (file_numbered (pick v g 0))
unfolding file_numbered
picked_can_go t zero l true = tt
picked_can_go t (suc g) l true = (omega arith, l)
picked_can_go t g l false = tt

-- ---- over plain numbers: directory d, record i, file f

module _ (s : Store) (n : List (List ℕ)) (d i : ℕ) (dir : d ≡ parent s n) (found : i ≡ record_for s n) where
  pub same_record : file d (rewritten s d i blank_record) ≡ file (parent s n) (unnaming s n)
  unfolding unnaming
  same_record = rw (dir, found)

  pub record_fits : FileFits s (parent s n) (unnaming s n) → FileFits s d (rewritten s d i blank_record)
  unfolding unnaming
  record_fits fits = rw (dir, found) fits

module _ (s : Store) (w : Well s) (n : List (List ℕ)) (stands : Standing s n) (ordinary : is_directory s (named s n) ≡ false)
    (f : ℕ) (its : f ≡ named s n) (gone : Option FileNo) (goes : gone ≡ file_numbered (gone_with s f)) where
  pub same_gone : freed gone ≡ let_go (without_name s n) (named s n)
  unfolding let_go gone_with
  same_gone =
      rw (goes, its, orphan_unlinked s w n stands ordinary)
      (freed_picked (named s n) (used s (named s n) stands.is_in_use).some (eqb (names s (named s n)) 1 && not (held s (named s n))))

module _ (s : Store) (w : Well s) (n : List (List ℕ)) (stands : Standing s n) (ordinary : is_directory s (named s n) ≡ false)
    (f g : ℕ) (its : f ≡ named s n) (gone : g ≡ gone_with s f) where
  pub gone_let_go : freeing g ≡ let_go (without_name s n) (named s n)
  gone_let_go = sym (freed_numbered g) ∙ same_gone s w n stands ordinary f its (file_numbered g) (λ i. file_numbered (gone i))

  pub gone_within : g ≤ s.file_count
  unfolding gone_with
  gone_within =
      let u = used s (named s n) stands.is_in_use in
      rw gone (picked_within s.file_count f (omega (arith, u.within)) (eqb (names s f) 1 && not (held s f)))

-- ---- a name that was located

module _ (t : Tables) (bytes : List ℕ) (k : ℕ) (d f : FileNo) (a : At t bytes k (Old d f)) (plain : is_directory (files_store t.file_records) f.0 ≡ false) where
  abbrev s : Store
  s = store_of t

  abbrev n : List (List ℕ)
  n = a.name

  w : Well s
  w = sound_well t a.ok

  pub ordinary : is_directory s (named s n) ≡ false
  ordinary = file-directory t bytes k (Old d f) a d f refl false (sym plain)

  pub other : named s n ≢ root
  other = plain_other s w (sized t a.ok) bytes n a.is ordinary

  pub deep : k ≢ 0
  deep = O.deep t bytes k (Old d f) a d f refl other

  pub stands : Standing s n
  stands = O.stands t bytes k (Old d f) a d f refl other

  pub in_directory_lem : is_directory s d.0 ≡ true
  in_directory_lem = O.in_directory_lem t bytes k (Old d f) a d f refl other

  dir : d.0 ≡ parent s n
  dir = old_dir t bytes k (Old d f) a d f refl

  its_file : f.0 ≡ named s n
  its_file = stands_for t bytes k (Old d f) a d f refl

  pub to_last : f.0 ≤ file_count t.file_records
  unfolding store_of
  to_last = let u = used s (named s n) stands.is_in_use in omega (arith, its_file, u.within)

  module _ (i : ℕ) (found : i ≡ record_for s n) (gone : Option FileNo) (goes : gone ≡ file_numbered (gone_with s f.0)) where
    pub its_record : file d.0 (rewritten s d.0 i blank_record) ≡ file (parent s n) (unnaming s n)
    its_record = same_record s n d.0 i dir found

    pub its_end : freed gone ≡ let_go (without_name s n) (named s n)
    its_end = same_gone s w n stands ordinary f.0 its_file gone goes

    can_go : CanGo t gone
    unfolding gone_with
    can_go = rw goes (picked_can_go t f.0 to_last (eqb (names s f.0) 1 && not (held s f.0)))

    pub takes : Takes t d.0 i gone
    takes =
        record {
          small = small t bytes k (Old d f) a d f refl other i found;
          rewritable = record {
            channels = t.channel_records;
            layout = sound_layout t a.ok;
            is_directory_lem = in_directory_lem;
            fits = record_fits s n d.0 i dir found (unnamed_fits s w n stands);
          };
          can_go = can_go;
        }
