-- What create gives on a well-written name, case by case.
use Rattle.std.specs.Prelude.{ℕ, ◌+◌, ◌-◌, ◌*◌, max, ◌≡◌, refl, List, [], ◌∷◌, Bool, true, false, Option, Some, Result as Answers, Ok, Err, ok_or}
use Rattle.std.proofs.Math.Path.{sym}
use Rattle.std.proofs.Common.{◌∙◌}
use borrow.Author.Tests.{le-ltb}
use Rattle.records.specs.Rows.{pick}
use Rattle.meaning.specs.File.{needed, longest}
use Rattle.meaning.specs.Store.{Store, Change, file, channel, channel_to, ordinary, is_directory, named, free_channel, free_file}
use Rattle.meaning.specs.Tables.{Tables, store_of, file_count, channel_count, file_length}
use Rattle.meaning.specs.NameCalls.{parent, record_for, rewritten, naming, if_naming_fits, create}
use Rattle.meaning.specs.Result.{Result, done, unless, missing, nowhere, all_open, all_used}
use Rattle.meaning.specs.Run.{Call, result_of, meaning, accepts}
use Rattle.meaning.specs.declared.Report.{Report}
use Rattle.meaning.specs.declared.Report.TheVariants.{NoSuchName, IsDirectory, NoFreeCids, NoFreeFids}
use Rattle.meaning.specs.declared.FileNo.{FileNo}
use Rattle.meaning.specs.declared.ChannelNo.{ChannelNo}
use Rattle.tables.specs.Searches.{channel_with, channel_found, file_with, file_found, free_block_count}
use Rattle.soundness.specs.Seen.{files_store}
use Rattle.naming.specs.Judged.{OnName, on_name_of}
use Rattle.naming.specs.At.{At, follows, is_nowhere, is_missing, somewhere, not_missing, there, stands_for, file-directory}
use Rattle.naming.specs.declared.Located.{Located}
use Rattle.naming.specs.declared.Located.TheVariants as L
use Rattle.recording.specs.Recording.{record_of}
use Rattle.recording.specs.Fit.{FitsIn, if_fits_in}
use Rattle.placing.specs.Free.{reports, finds, channel_below, channel_free, no_channel_free, some_channel_free, file-within, file_free, no_file_free, some_file_free}
use Rattle.placing.specs.NewName.{fits_is, no_directory}
use Rattle.opening.specs.Create.{Created}
use Rattle.opening.specs.CreateLaws.{old_clears, same_record, makes}
use Rattle.opening.specs.declared.Creation.TheVariants.{Old, New}

-- what follows on the name
abbrev rest : Tables → List (List ℕ) → Result
rest t name =
    let s = store_of t in
    let f = named s name in
    let c = free_channel s in
    let new = free_file s in
    let dir = naming s name new in
    unless (nowhere s name) NoSuchName
    (unless (is_directory s f) IsDirectory
    (unless (all_open s) NoFreeCids
    (pick (missing s name)
    (unless (all_used s) NoFreeFids
    (if_naming_fits s name dir
    (done (c ∷ []) [] (file (parent s name) dir ∷ file new (ordinary []) ∷ channel c (channel_to new 0) ∷ []))))
    (done (c ∷ []) [] (file f (ordinary []) ∷ channel c (channel_to f 0) ∷ [])))))

on_name_lem : (t : Tables) (bytes : List ℕ) → on_name_of t bytes (rest t) ≡ result_of (Call.Create bytes) t
unfolding result_of meaning accepts create on_name_of
on_name_lem t bytes = refl

pub create-refusal : (t : Tables) (bytes : List ℕ) (why : Report) → OnName t bytes (Err why) → Created t bytes (Err why)
create-refusal t bytes why on = record { means = on (rest t) ∙ on_name_lem t bytes; fits = tt }

-- over plain numbers
old-same : (s : Store) (n : List (List ℕ)) (c f : ℕ) → c ≡ free_channel s → f ≡ named s n
    → done (c ∷ []) [] (file f (ordinary []) ∷ channel c (channel_to f 0) ∷ [])
    ≡ done (free_channel s ∷ []) [] (file (named s n) (ordinary []) ∷ channel (free_channel s) (channel_to (named s n) 0) ∷ [])
old-same s n c f p q = rw (p, q)

new-same : (s : Store) (n : List (List ℕ)) (c f : ℕ) (change : Change) → c ≡ free_channel s → f ≡ free_file s → change ≡ file (parent s n) (naming s n f)
    → done (c ∷ []) [] (change ∷ file f (ordinary []) ∷ channel c (channel_to f 0) ∷ [])
    ≡ done (free_channel s ∷ []) [] (file (parent s n) (naming s n (free_file s)) ∷ file (free_file s) (ordinary []) ∷ channel (free_channel s) (channel_to (free_file s) 0) ∷ [])
new-same s n c f change p q r = rw (r, p, q)

-- what a report tells of its cause
abbrev Told : {A : Type 0} → Report → Option A → Report → Type 0
Told {A} r x why = ◌≡◌ {A = Answers A Report} (Err why) (ok_or x r)

abbrev Got : {A : Type 0} → Report → Option A → A → Type 0
Got {A} r x v = ◌≡◌ {A = Answers A Report} (Ok v) (ok_or x r)

module _ (t : Tables) (bytes : List ℕ) (k : ℕ) (x : Located) (a : At t bytes k x) where
  given : rest t a.name ≡ result_of (Call.Create bytes) t
  given = follows t bytes k x a (rest t) ∙ on_name_lem t bytes

-- ---- the name's directory is not there

pub no-directory : (t : Tables) (bytes : List ℕ) (k : ℕ) (p : Option FileNo) → At t bytes k (L.Nowhere p) → Created t bytes (Err NoSuchName)
unfolding unless
no-directory t bytes k p a = record { means = rw ((is_nowhere t bytes k (L.Nowhere p) a p refl).1) at (given t bytes k (L.Nowhere p) a); fits = tt }

-- ---- the name stands for a file

module _ (t : Tables) (bytes : List ℕ) (k : ℕ) (d f : FileNo) (a : At t bytes k (L.Old d f)) (v : Bool) (tells : v ≡ is_directory (files_store t.file_records) f.0) where
  at_hand : nowhere (store_of t) a.name ≡ false
  at_hand = there t bytes k (L.Old d f) a d f refl

  kind : is_directory (store_of t) (named (store_of t) a.name) ≡ v
  kind = file-directory t bytes k (L.Old d f) a d f refl v tells

  pub old-directory : v ≡ true → Created t bytes (Err IsDirectory)
  unfolding unless
  old-directory is = record { means = rw (at_hand, kind, is) at (given t bytes k (L.Old d f) a); fits = tt }

  module _ (isnt : v ≡ false) (y : Option ChannelNo) (found : y ≡ channel_found (channel_count t.channel_records) (channel_with t.channel_records 0)) where
    pub old_no_channel : (why : Report) → Told NoFreeCids y why → Created t bytes (Err why)
    unfolding unless
    old_no_channel why e =
        let r = reports NoFreeCids y why e in
        rw r.1 (record { means = rw (at_hand, kind, isnt, no_channel_free t y found r.0) at (given t bytes k (L.Old d f) a); fits = tt })

    module _ (c : ChannelNo) (got : Got NoFreeCids y c) where
      its_channel : y ≡ Some c
      its_channel = finds NoFreeCids y c got

      emptied :
          let s = store_of t in
          let c = free_channel s in
          let f = named s a.name in
          done (c ∷ []) [] (file f (ordinary []) ∷ channel c (channel_to f 0) ∷ []) ≡ result_of (Call.Create bytes) t
      unfolding unless
      emptied = rw (at_hand, kind, isnt, some_channel_free t y found c its_channel, not_missing t bytes k (L.Old d f) a d f refl) at (given t bytes k (L.Old d f) a)

      pub old_emptied : Created t bytes (Ok (Old c f))
      old_emptied =
          record {
            means = old-same (store_of t) a.name c.0 f.0 (sym (channel_free t y found c its_channel)) (stands_for t bytes k (L.Old d f) a d f refl) ∙ emptied;
            fits = record { below = channel_below t y found c its_channel; clearable = old_clears t bytes k d f a };
          }

-- ---- the name is new

module _ (t : Tables) (bytes : List ℕ) (k : ℕ) (d : FileNo) (a : At t bytes k (L.New d)) (y : Option ChannelNo)
    (found : y ≡ channel_found (channel_count t.channel_records) (channel_with t.channel_records 0)) where
  abbrev s : Store
  s = store_of t

  abbrev n : List (List ℕ)
  n = a.name

  here : nowhere s n ≡ false
  here = somewhere t bytes k (L.New d) a d refl

  no_dir : is_directory s (named s n) ≡ false
  no_dir = no_directory t bytes k (L.New d) a d refl

  new : missing s n ≡ true
  new = is_missing t bytes k (L.New d) a d refl

  pub new_no_channel : (why : Report) → Told NoFreeCids y why → Created t bytes (Err why)
  unfolding unless
  new_no_channel why e =
      let r = reports NoFreeCids y why e in
      rw r.1 (record { means = rw (here, no_dir, no_channel_free t y found r.0) at (given t bytes k (L.New d) a); fits = tt })

  module _ (c : ChannelNo) (got : Got NoFreeCids y c) (z : Option FileNo) (free : z ≡ file_found (file_count t.file_records) (file_with t.file_records 0)) where
    spare : y ≡ Some c
    spare = finds NoFreeCids y c got

    pub new_no_file : (why : Report) → Told NoFreeFids z why → Created t bytes (Err why)
    unfolding unless
    new_no_file why e =
        let r = reports NoFreeFids z why e in
        rw r.1
        (record { means = rw (here, no_dir, some_channel_free t y found c spare, new, no_file_free t z free r.0) at (given t bytes k (L.New d) a); fits = tt })

    module _ (f : FileNo) (got_file : Got NoFreeFids z f) (i : ℕ) (place : i ≡ record_for s n) where
      unused : z ≡ Some f
      unused = finds NoFreeFids z f got_file

      abbrev size : ℕ
      size = file_length t.file_records d.0

      abbrev made : Result
      made = done (free_channel s ∷ []) [] (file (parent s n) (naming s n (free_file s)) ∷ file (free_file s) (ordinary []) ∷ channel (free_channel s) (channel_to (free_file s) 0) ∷ [])

      if_fits_lem : if_fits_in (free_block_count t.block_records) size (max size (16 * i + 16)) made ≡ result_of (Call.Create bytes) t
      unfolding unless
      if_fits_lem =
          sym (fits_is t bytes k (L.New d) a d refl i place (free_file s) made)
          ∙ (rw (here, no_dir, some_channel_free t y found c spare, new, some_file_free t z free f unused) at (given t bytes k (L.New d) a))

      pub new_refused : (why : Report) → FitsIn (free_block_count t.block_records) size (max size (16 * i + 16)) (Err why) → Created t bytes (Err why)
      new_refused why cause = record { means = cause made ∙ if_fits_lem; fits = tt }

      fitting : FitsIn (free_block_count t.block_records) size (max size (16 * i + 16)) (Ok tt) → made ≡ result_of (Call.Create bytes) t
      unfolding if_fits_in unless
      fitting fit =
          rw (le-ltb longest (max size (16 * i + 16)) fit.0, le-ltb (free_block_count t.block_records) (needed (max size (16 * i + 16)) - needed size) fit.1) at if_fits_lem

      pub new-made : FitsIn (free_block_count t.block_records) size (max size (16 * i + 16)) (Ok tt) → Created t bytes (Ok (New c f d i))
      new-made fit =
          let within = file-within t z free f unused in
          record {
            means =
                new-same s n c.0 f.0 (file d.0 (rewritten s d.0 i (record_of f.0 bytes)))
                (sym (channel_free t y found c spare)) (sym (file_free t z free f unused)) (same_record t bytes k d a i place f.0)
                ∙ fitting fit;
            fits = makes t bytes k d a i place fit.0 fit.1 c.0 f.0 (channel_below t y found c spare) within.0 within.1;
          }
