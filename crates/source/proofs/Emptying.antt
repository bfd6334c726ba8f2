-- create of a name that stands for a file is its schema: the file is emptied.
use Rattle.std.specs.Prelude.{ℕ, ◌≡◌, [], true, false}
use Rattle.std.proofs.Math.Path.{refl}
use Rattle.std.proofs.Common.{sym, ◌∙◌, arith}
use Rattle.std.proofs.Math.Option.{some, none-ne-some}
use Rattle.meaning.specs.Store.{Store, Channel, file, channel, after, channel_to, ordinary, in_use, is_directory, free_channel, named}
use Rattle.meaning.specs.Result.{missing, all_open}
use Rattle.soundness.specs.Use.{used}
use Rattle.trees.specs.Standing.{missing_some}
use Rattle.source.specs.Sets.{◌∈dom◌, ◌⊕◌, ◌⟼◌, the}
use Rattle.source.specs.Naming.{NAME}
use Rattle.source.specs.Filing.{by_name, FS, ΔFS, ΞNS}
use Rattle.source.specs.Departures.{createFS}
use Rattle.source.specs.View.{chan_of, view}
use Rattle.source.specs.ViewLaws.{numbered_some, file_there, renamed}
use Rattle.source.specs.Invariants.{filing_system, name_used, directories_stored}
use Rattle.source.specs.StateLaws.{defined, over_defined}
use Rattle.source.specs.StepLaws.{channel_files, file-channels, file-names, file-put}
use Rattle.source.specs.Moves.{Filed, put-names, put_channel, put-change}
use Rattle.source.proofs.OpenClose.{free_below, free_new}
use Rattle.source.specs.Accepted.{Ready}
use Rattle.source.specs.NameStatements.{SameDirectories}

module _ (s : Store) (ready : Ready s) (name : NAME) (plain : is_directory s (named s name) ≡ false) (free : all_open s ≡ false) where
  abbrev pub c : ℕ
  c = free_channel s

  fs : FS (view s)
  fs = filing_system s ready.well ready.some_file

  -- ---- the name stands for a file, which is emptied

  module _ (there : missing s name ≡ false) where
    abbrev pub f : ℕ
    f = named s name

    abbrev pub t : Store
    t = after s (file f (ordinary []))

    abbrev pub y : Channel
    y = channel_to f 0

    abbrev pub t' : Store
    t' = after t (channel c y)

    is_in_use : in_use s f ≡ true
    is_in_use = name_used s ready.well ready.some_file name (missing_some s name there)

    is_named_lem : (view s).nstore name ≡ some f
    is_named_lem = numbered_some f (missing_some s name there)

    put : (view t).fstore ≡ (view s).fstore ⊕ the f ⟼ []
    put = let u = used s f is_in_use in file-put s f (ordinary []) u.some u.within (λ (e : 1 ≡ 0). absurd (omega arith))

    count : t.channel_count ≡ s.channel_count
    unfolding after
    count = refl

    kept : (g : ℕ) → g ∈dom (view s).fstore → g ∈dom (view t).fstore
    kept g h = defined put g (over_defined (view s).fstore (the f) [] g h)

    emptied : Filed s t
    emptied =
        record {
          filing = fs;
          count = count;
          channels = file-channels s f (ordinary []);
          names = file-names s f (ordinary []) plain (λ (e : 1 ≡ 2). absurd (omega arith));
          kept = kept;
        }

    exists : f ∈dom (view t).fstore
    exists = kept f ((s.file f).bytes, file_there s f is_in_use)

    same_names : ΞNS (view s) (view t')
    same_names = put-names s t emptied c y (free_below s free) (missing_some s name there) exists

    change : ΔFS (view s) (view t')
    change = put-change s t emptied c y (free_below s free) (missing_some s name there) exists

    pub create-old : createFS name c (view s) (view t')
    create-old = (
      view t',
      record {
        change = change;
        fid = f;
        chan = chan_of y;
        file = record { creates = channel_files t c y ∙ put };
        channel =
            record {
              new = free_new s free;
              start = refl;
              opens = put_channel s t emptied c y (free_below s free) (missing_some s name there) exists;
            };
        names = record { creates = same_names.names ∙ renamed (view s).nstore (view s).nstore name (λ x n. refl) f is_named_lem };
        refers = refl;
        existing = λ _. is_named_lem;
        new = λ gone. absurd (none-ne-some f (sym gone ∙ is_named_lem));
      },
      record {
        change = record { before = change.after; after = change.after };
        channels = refl;
        names = record { names = refl; directories = refl };
        stored = directories_stored t' (λ m g e. change.after.used g (by_name m e));
        others = λ g not-one. refl;
      },
    )

    pub create-old_directories : SameDirectories (view s) (view t')
    create-old_directories = same_names.directories
