-- create of a new name is its schema; and so is create.
use Rattle.std.specs.Prelude.{ℕ, ◌<◌, ◌≡◌, refl, ◌≢◌, [], true, false, length}
use Rattle.std.proofs.Math.Path.{ap}
use Rattle.std.proofs.Common.{sym, ◌∙◌, ⊎_elim, true≢false, arith, eq-eqb}
use Rattle.std.proofs.Math.Option.{Option, some, none-ne-some}
use Rattle.records.specs.Tests.{tested, not_so}
use Rattle.meaning.specs.Store.{Store, Channel, file, channel, after, after_all, channel_to, ordinary, in_use, is_directory, free_file, free_channel, named, front}
use Rattle.meaning.specs.Result.{missing, all_open, if_fits}
use Rattle.meaning.specs.NameCalls.{parent, create, if_naming_fits}
use Rattle.soundness.specs.Use.{used, directory-kind}
use Rattle.trees.specs.Standing.{Place, missing_none, last_spelled}
use Rattle.trees.specs.Naming.{with_name}
use Rattle.keeping.proofs.NewFiles.{FreeNumber, free_number}
use Rattle.source.specs.Sets.{◌∈dom◌, above, ◌⊕◌, ◌⟼◌, the}
use Rattle.source.specs.Files.{FILE, FSTORE}
use Rattle.source.specs.Channels.{CHAN, CSTORE}
use Rattle.source.specs.Naming.{NAME}
use Rattle.source.specs.Filing.{State, by_channel, FS, ΞNS, createFS0, direncode}
use Rattle.source.specs.Departures.{createFS}
use Rattle.source.specs.View.{chan_of, view, dirformat, RootFid}
use Rattle.source.specs.ViewLaws.{numbered_none, file_used}
use Rattle.source.specs.Invariants.{filing_system}
use Rattle.source.specs.StateLaws.{value, defined, over_value, over_defined, over_wider, over_here}
use Rattle.source.specs.StepLaws.{channel_files, channel_names, channel_put, file-channels, file-names, file-put}
use Rattle.source.specs.Moves.{unchanged}
use Rattle.source.proofs.OpenClose.{free_below, free_new}
use Rattle.source.specs.NameSteps.{Rewritten, given-names, given_facts}
use Rattle.source.specs.Encoding.{naming_state, naming_filing, encoded}
use Rattle.source.specs.Accepted.{Ready, accepted, past, spelled}
use Rattle.source.specs.NameStatements.{CreateHolds}
use Rattle.source.proofs.Unlinking.{plain_name}
use Rattle.source.proofs.Linking.{place_of, place-directory, place-front}
use Rattle.source.proofs.Emptying.{create-old, create-old_directories}

module _ (s : Store) (ready : Ready s) (name : NAME) (plain : is_directory s (named s name) ≡ false) (free : all_open s ≡ false) where
  abbrev c : ℕ
  c = free_channel s

  fs : FS (view s)
  fs = filing_system s ready.well ready.some_file

  -- ---- a new name

  module _ (gone : missing s name ≡ true) (p : Place s name) (g : ℕ) (number : FreeNumber s g) where
    abbrev t₁ : Store
    t₁ = with_name s name g

    abbrev t₂ : Store
    t₂ = after t₁ (file g (ordinary []))

    abbrev z : Channel
    z = channel_to g 0

    abbrev t₃ : Store
    t₃ = after t₂ (channel c z)

    more : 0 < length name
    more = plain_name s ready name plain

    unused : in_use s g ≡ false
    unused = not_so (in_use s g) (λ u. (used s g u).kind number.kind)

    no_directory : is_directory s g ≡ false
    no_directory = not_so (is_directory s g) (λ is. omega (arith, directory-kind s g is, number.kind))

    small : g < 65536
    small = omega (arith, number.to_last, ready.few-files)

    some_number : g ≢ 0
    some_number e = omega (arith, number.from_one)

    facts : Rewritten s t₁ (parent s name)
    facts = given_facts s ready.well name more p g small some_number plain no_directory

    abbrev fstore₂ : FSTORE
    fstore₂ = (view s).fstore ⊕ the g ⟼ []

    abbrev cstore₂ : CSTORE
    cstore₂ = (view s).cstore ⊕ the c ⟼ chan_of z

    abbrev mid : State
    mid = naming_state (view s) name g fstore₂ cstore₂

    made : g ∈dom fstore₂
    made = ([], over_here (view s).fstore (the g) [] g (eq-eqb g g refl))

    wider : (h : ℕ) → h ∈dom (view s).fstore → h ∈dom fstore₂
    wider h u = over_defined (view s).fstore (the g) [] h u

    mid_refers : (cid : ℕ) (chan : CHAN) → cstore₂ cid ≡ some chan → chan.fid ∈dom fstore₂
    mid_refers cid chan e =
        ⊎_elim
        (λ (new : (the c cid ≡ true) × (chan ≡ chan_of z)). rw new.1 made)
        (λ (old : (view s).cstore cid ≡ some chan). wider chan.fid (fs.used chan.fid (by_channel cid chan old refl)))
        (over_value (view s).cstore (the c) (chan_of z) cid chan e)

    mid_filing : FS mid
    mid_filing = naming_filing (view s) fs name (place-directory s name more p) g fstore₂ cstore₂ wider made mid_refers

    first : createFS0 name c (view s) mid
    first =
        record {
          change = record { before = fs; after = mid_filing };
          fid = g;
          chan = chan_of z;
          file = record { creates = refl };
          channel = record { new = free_new s free; start = refl; opens = refl };
          names = record { creates = refl };
          refers = refl;
          existing = λ (h, e). absurd (none-ne-some h (sym (numbered_none (named s name) (missing_none s name gone)) ∙ e));
          new = λ _ u. true≢false (sym (file_used s g (fs.used g u)) ∙ unused);
        }

    -- the files of the store that is left
    last-files : (view t₃).fstore ≡ (view t₁).fstore ⊕ the g ⟼ []
    unfolding after
    last-files =
        channel_files t₂ c z ∙ file-put t₁ g (ordinary []) number.from_one number.to_last (λ (e : 1 ≡ 0). absurd (omega arith))

    last-channels : (view t₃).cstore ≡ cstore₂
    unfolding after
    last-channels =
        channel_put t₂ c z (free_below s free) some_number
        ∙ ap (λ (x : CSTORE). x ⊕ the c ⟼ chan_of z) (file-channels t₁ g (ordinary []) ∙ facts.channels)

    steps : ΞNS (view t₁) (view t₃)
    steps =
        unchanged (view t₁) (view t₂) (view t₃)
        (file-names t₁ g (ordinary []) (facts.dirs g ∙ no_directory) (λ (e : 1 ≡ 2). absurd (omega arith)))
        (channel_names t₂ c z)

    last-names : ΞNS mid (view t₃)
    last-names =
        record {
          names = steps.names ∙ given-names s ready.well name more p g small some_number plain no_directory;
          directories = steps.directories ∙ facts.directories;
        }

    second : direncode dirformat RootFid mid (view t₃)
    second =
        encoded mid mid_filing t₃ last-channels last-names
        (λ h u. defined last-files h (over_wider (view s).fstore (the g) (view t₁).fstore facts.kept [] h u))
        (parent s name) (front name) (place-directory s name more p) (place-front s name more p g)
        (λ h o. value last-files h ∙ ap (λ (x : Option FILE). above x ((the g ⟼ []) h)) (facts.files h o))

    create-new : createFS name c (view s) (view t₃)
    create-new = (mid, first, second)

pub create-holds : CreateHolds
unfolding create if_naming_fits if_fits after_all
create-holds s ready bytes name e =
    spelled _ name _ _ e (
    past _ _ _ _ λ here.
    past _ _ _ _ λ plain.
    past _ _ _ _ λ free.
    ⊎_elim
    (λ (gone : missing s name ≡ true). rw gone (
    past _ _ _ _ λ numbers.
    past _ _ _ _ λ size.
    past _ _ _ _ λ room.
    let p = place_of s ready name (last_spelled bytes name e (plain_name s ready name plain)) here plain in
    let number = free_number s numbers in
    accepted _ _ _ _ (free_channel s, create-new s ready name plain free gone p (free_file s) number, refl, free_below s free, (last-names s ready name plain free gone p (free_file s) number).directories)))
    (λ (there : missing s name ≡ false). rw there (
    accepted _ _ _ _ (free_channel s, create-old s ready name plain free there, refl, free_below s free, create-old_directories s ready name plain free there)))
    (tested (missing s name)))
