-- Each return is a case of what unlink gives on a well-written name, by the tests that led there.
use Rattle.std.specs.Prelude.{ℕ, ◌≡◌, refl, ◌≢◌, List, [], ◌∷◌, Bool, true, false, Option, Ok, Err}
use Rattle.std.proofs.Common.{ap₂, sym, ◌∙◌}
use Rattle.std.proofs.lemmas.Result.{err_from_is_err_and}
use Rattle.meaning.specs.Store.{Change, file, after, is_directory, named, let_go}
use Rattle.meaning.specs.Tables.{Tables, store_of}
use Rattle.meaning.specs.Types.{file_numbered}
use Rattle.meaning.specs.NameCalls.{parent, unnaming, unlink}
use Rattle.meaning.specs.Result.{Result, done, unless, missing}
use Rattle.meaning.specs.Run.{Call, result_of, meaning, accepts}
use Rattle.meaning.specs.declared.Report.{Report}
use Rattle.meaning.specs.declared.Report.TheVariants.{NoSuchName, IsDirectory}
use Rattle.meaning.specs.declared.FileNo.{FileNo}
use Rattle.soundness.specs.Seen.{files_store}
use Rattle.lookup.specs.Filed.{filed}
use Rattle.trees.specs.Naming.{without_name}
use Rattle.counts.specs.OfStore.{OfStore, of_store}
use Rattle.counts.specs.Gone.{gone_with}
use Rattle.naming.specs.Judged.{OnName, Spelled, on_name_of}
use Rattle.naming.specs.Located.{Locates, OldIn, Recorded}
use Rattle.naming.specs.At.{At, judged_shelves, stands_at, follows, not_old, not_missing, file-directory}
use Rattle.naming.specs.InStore.{found_record}
use Rattle.naming.specs.declared.Located.{Located}
use Rattle.naming.specs.declared.Located.TheVariants.{Old}
use Rattle.placing.specs.OldName.{old_place}
use Rattle.unlinking.specs.Unlink.{Decided}
use Rattle.unlinking.specs.UnlinkLaws.{ordinary, other, to_last, its_record, its_end, takes}
use Rattle.unlinking.proofs.decide_unlink.Goals as goal

abbrev rest : Tables → List (List ℕ) → Result
rest t name =
    let s = store_of t in
    let unlinked = file (parent s name) (unnaming s name) in
    unless (missing s name) NoSuchName
    (unless (is_directory s (named s name)) IsDirectory
    (done [] [] (unlinked ∷ let_go (after s unlinked) (named s name))))

on_name_lem : (t : Tables) (bytes : List ℕ) → on_name_of t bytes (rest t) ≡ result_of (Call.Unlink bytes) t
unfolding result_of meaning accepts unlink on_name_of
on_name_lem t bytes = refl

refusal : (t : Tables) (bytes : List ℕ) (why : Report) → OnName t bytes (Err why) → Decided t bytes (Err why)
refusal t bytes why on = record { means = on (rest t) ∙ on_name_lem t bytes; fits = tt }

module _ (t : Tables) (bytes : List ℕ) (k : ℕ) (x : Located) (a : At t bytes k x) where
  given : rest t a.name ≡ result_of (Call.Unlink bytes) t
  given = follows t bytes k x a (rest t) ∙ on_name_lem t bytes

  no_name : ((d f : FileNo) → x ≢ Old d f) → Decided t bytes (Err NoSuchName)
  unfolding unless
  no_name other = record { means = rw (not_old t bytes k x a other) at given; fits = tt }

module _ (t : Tables) (bytes : List ℕ) (k : ℕ) (d f : FileNo) (a : At t bytes k (Old d f)) where
  directory : (v : Bool) → v ≡ is_directory (files_store t.file_records) f.0 → v ≡ true → Decided t bytes (Err IsDirectory)
  unfolding unless
  directory v tells is =
      record {
        means = rw (not_missing t bytes k (Old d f) a d f refl, file-directory t bytes k (Old d f) a d f refl v tells, is) at (given t bytes k (Old d f) a);
        fits = tt;
      }

module _ (t : Tables) (bytes : List ℕ) (k : ℕ) (sp : Spelled t bytes k) (d f : FileNo) (l : Locates (filed t.blocks t.block_records t.file_records) bytes (Old d f))
    (v : Bool) (tells : v ≡ is_directory (files_store t.file_records) f.0) (isnt : v ≡ false) where
  abbrev at : At t bytes k (Old d f)
  at = stands_at t.blocks t.block_records t.file_records t.channel_records bytes k sp (Old d f) l

  plain : is_directory (files_store t.file_records) f.0 ≡ false
  plain = sym tells ∙ isnt

  in_place : OldIn t.blocks t.block_records t.file_records bytes d.0
  in_place = old_place t bytes k sp (Old d f) l d f refl (other t bytes k d f at plain)

  counted : OfStore t.blocks t.block_records t.file_records f.0
  counted = of_store t at.ok f.0 (to_last t bytes k d f at plain)

  goes_on : done [] [] (file (parent (store_of t) at.name) (unnaming (store_of t) at.name) ∷ let_go (without_name (store_of t) at.name) (named (store_of t) at.name))
      ≡ result_of (Call.Unlink bytes) t
  unfolding unless
  goes_on = rw (not_missing t bytes k (Old d f) at d f refl, ordinary t bytes k d f at plain) at (given t bytes k (Old d f) at)

  unlinks : (i : ℕ) → Recorded (filed t.blocks t.block_records t.file_records) bytes i
      → (gone : Option FileNo) → gone ≡ file_numbered (gone_with (store_of t) f.0) → Decided t bytes (Ok (d, i, gone))
  unlinks i r gone goes =
      let found = found_record t.blocks t.block_records t.file_records t.channel_records bytes k (Old d f) at i r in
      record {
        means =
            ap₂ (λ (change : Change) (more : List Change). done [] [] (change ∷ more))
            (its_record t bytes k d f at plain i found gone goes) (its_end t bytes k d f at plain i found gone goes)
            ∙ goes_on;
        fits = takes t bytes k d f at plain i found gone goes;
      }

pub returns-in_err-k : goal.returns-in_err-k
returns-in_err-k c =
    let p = err_from_is_err_and c.from_residual.result c.from_residual.ensures.1 in
    rw (p.1, p.2) (refusal _ _ _ c.in_err-k.ensures)

pub locate-requires-clause-shelves : goal.locate-requires-clause-shelves
locate-requires-clause-shelves c = judged_shelves _ _ _ _ _ _ c.in_ok-k.ensures

pub returns-in_default : goal.returns-in_default
returns-in_default c = no_name _ _ _ _ (stands_at _ _ _ _ _ _ c.in_ok-k.ensures _ c.locate.ensures) c.in_default.not-Old

pub returns-then-is_directory : goal.returns-then-is_directory
returns-then-is_directory c = directory _ _ _ _ _ (stands_at _ _ _ _ _ _ c.in_ok-k.ensures _ c.in-Old.ensures) _ c.is_directory.ensures c.if-is_directory.true

pub own_record-i-requires : goal.own_record-i-requires
own_record-i-requires c = in_place _ _ _ c.in_ok-k.ensures _ _ c.in-Old.ensures _ c.is_directory.ensures c.if-is_directory.false

pub gone_with-gone-requires : goal.gone_with-gone-requires
gone_with-gone-requires c = counted _ _ _ c.in_ok-k.ensures _ _ c.in-Old.ensures _ c.is_directory.ensures c.if-is_directory.false

pub returns : goal.returns
returns c =
    unlinks _ _ _ c.in_ok-k.ensures _ _ c.in-Old.ensures _ c.is_directory.ensures c.if-is_directory.false _ c.own_record-i.ensures _ c.gone_with-gone.ensures
