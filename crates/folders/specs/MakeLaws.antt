-- A new directory: its depth, the refusals of its record, and that what is planned can be done.
use Rattle.std.specs.Prelude.{ℕ, ◌-◌, ◌≤◌, ◌≡◌}
use Rattle.std.proofs.Common.{sym, ap, ◌∙◌, arith}
use Rattle.std.proofs.Math.Path.{subst}
use mathlib.Core.List.{List, [], ◌∷◌}
use Rattle.meaning.specs.Store.{Store, file, directory}
use Rattle.meaning.specs.Tables.{Tables, store_of, depth_at}
use Rattle.meaning.specs.Result.{done, unless}
use Rattle.meaning.specs.NameCalls.{parent, record_for, rewritten, mkdir}
use Rattle.meaning.specs.Run.{Call, result_of, meaning, accepts}
use Rattle.meaning.specs.declared.FileNo.{FileNo}
use Rattle.tables.specs.StoreLaws.{store_depth}
use Rattle.soundness.specs.Use.{directory_used}
use Rattle.soundness.specs.Well.{Well}
use Rattle.soundness.specs.WellFacts.{directory-form}
use Rattle.lookup.specs.Filed.{sound_well}
use Rattle.keeping.specs.Sure.{Sure, Good}
use Rattle.keeping.proofs.NewFiles.{good-mkdir}
use Rattle.naming.specs.At.{At, new_dir}
use Rattle.naming.specs.declared.Located.{Located}
use Rattle.naming.specs.declared.Located.TheVariants.{New}
use Rattle.recording.specs.Recording.{record_of}
use Rattle.recording.specs.NameRecord.{start_within, part_spelled}
use Rattle.placing.specs.Free.{sized}
use Rattle.placing.specs.NewName.{vacancy, more, in_directory_lem, few-records}
use Rattle.folders.specs.Acts.{able}
use Rattle.folders.specs.Make.{Names}

module _ (t : Tables) (bytes : List ℕ) (k : ℕ) (x : Located) (a : At t bytes k x) (d : FileNo) (new : x ≡ New d) where
  abbrev s : Store
  s = store_of t

  abbrev n : List (List ℕ)
  n = a.name

  w : Well s
  w = sound_well t a.ok

  -- the directory's depth, as its record has it
  pub its_depth : (depth : ℕ) → depth ≡ depth_at t.file_records (d.0 - 1) → (s.file (parent s n)).depth ≡ depth
  its_depth depth e =
      ap (λ (d : ℕ). (s.file d).depth) (sym (new_dir t bytes k x a d new))
      ∙ store_depth t d.0 (directory_used s d.0 (in_directory_lem t bytes k x a d new)).some ∙ sym e

  pub shallow : (s.file (parent s n)).depth ≤ 7
  shallow = (directory-form s w (parent s n) (vacancy t bytes k x a d new).place.directory).depth

  module _ (i : ℕ) (found : i ≡ record_for s n) where
    -- what is planned, where it is what mkdir gives, can be done
    pub can : (f depth : ℕ)
        → done [] [] (file d.0 (rewritten s d.0 i (record_of f bytes)) ∷ file f (directory depth []) ∷ []) ≡ result_of (Call.Mkdir bytes) t
        → Names t bytes d.0 i f
    unfolding result_of meaning accepts unless
    can f depth e =
        let few = few-records t bytes k x a d new i found in
        let many = more t bytes k x a d new in
        let plan = done [] [] (file d.0 (rewritten s d.0 i (record_of f bytes)) ∷ file f (directory depth []) ∷ []) in
        let given : plan ≡ mkdir bytes s = rw a.ok at e in
        let sure : Sure s (file d.0 (rewritten s d.0 i (record_of f bytes)) ∷ file f (directory depth []) ∷ []) =
        subst (Good s) (sym given) (good-mkdir s w (sized t a.ok) bytes) in
        record {
          able = able t a.ok d.0 i (record_of f bytes) f (directory depth []) sure (in_directory_lem t bytes k x a d new) (omega (arith, few.1));
          start = start_within bytes n a.is many;
          syllable = part_spelled bytes n a.is many;
        }
