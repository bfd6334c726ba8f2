-- read and open with their errors, as the source's figures 4.1 and 4.2 expand them.
use Rattle.std.specs.Prelude.{ℕ, ◌≡◌, ◌⊎◌, List, [], ◌∷◌, Bool, not}
use Rattle.std.proofs.Math.Path.{refl}
use Rattle.std.proofs.Math.Logic.{inl, inr}
use Rattle.std.proofs.Math.Bool.{true, false}
use Rattle.std.proofs.Math.Option.{some}
use Rattle.meaning.specs.Name.{syllables}
use Rattle.meaning.specs.Store.{Store, Change, channel, after_all, channel_to, is_open, free_channel, named}
use Rattle.meaning.specs.Result.{Result, done, unless, on_channel, with_syllables, missing, all_open}
use Rattle.meaning.specs.ChannelCalls.{read}
use Rattle.meaning.specs.NameCalls.{open'}
use Rattle.meaning.specs.Run.{bytes_of, changes_of}
use Rattle.meaning.specs.declared.Report.TheVariants.{Ok, NoSuchCid, NoSuchName, NoFreeCids}
use Rattle.source.specs.Naming.{NAME}
use Rattle.source.specs.Filing.{readFS, openFS, CidErr, NameErr, ChanErr}
use Rattle.source.specs.View.{view}
use Rattle.source.specs.Accepted.{Accepted}
use Rattle.source.proofs.ChannelProofs.{read-holds}
use Rattle.source.proofs.OpenClose.{open-holds}
use Rattle.source.specs.ErrorStatements.{report_of, left_by, ReadIs, OpenIs}
use Rattle.source.specs.Causes.{not_open, name-missing, none_free}

-- done, and then what holds of an accepted call; or NoSuchCid
module _ (s : Store) (c : ℕ) (P : List ℕ → List ℕ → List Change → Type 0) (Q : List ℕ → Store → Type 0)
    (enough : (numbers bytes : List ℕ) (changes : List Change) → P numbers bytes changes → Q bytes (after_all s changes)) where
  abbrev Whole : Result → Type 0
  Whole r = (Q (bytes_of r) (left_by s r) × (report_of r ≡ Ok)) ⊎ CidErr c (report_of r) (view s) (view (left_by s r))

  by_channel : (t : Bool) → not (is_open s c) ≡ t → (numbers bytes : List ℕ) (changes : List Change) → Accepted (unless t NoSuchCid (done numbers bytes changes)) P → Whole (unless t NoSuchCid (done numbers bytes changes))
  unfolding unless Accepted report_of bytes_of changes_of after_all
  by_channel true e numbers bytes changes h = inr (record { missing = (not_open s c).0 e; reports = refl; unaltered = refl })
  by_channel false e numbers bytes changes h = inl (enough numbers bytes changes h, refl)

pub read_is : ReadIs
unfolding read on_channel
read_is s ready c count =
    by_channel s c _ (λ bytes t. readFS c count bytes (view s) (view t)) (λ numbers bytes changes h. h.0) (not (is_open s c)) refl _ _ _ (read-holds s ready c count)

module _ (s : Store) (name : NAME) (P : List ℕ → List ℕ → List Change → Type 0) (Q : Store → Type 0)
    (enough : (numbers bytes : List ℕ) (changes : List Change) → P numbers bytes changes → Q (after_all s changes)) where
  abbrev WholeName : Result → Type 0
  WholeName r = (Q (left_by s r) × (report_of r ≡ Ok)) ⊎ NameErr name (report_of r) (view s) (view (left_by s r)) ⊎ ChanErr s.channel_count (report_of r) (view s) (view (left_by s r))

  by_name : (t u : Bool) → missing s name ≡ t → all_open s ≡ u → (numbers bytes : List ℕ) (changes : List Change)
      → Accepted (unless t NoSuchName (unless u NoFreeCids (done numbers bytes changes))) P → WholeName (unless t NoSuchName (unless u NoFreeCids (done numbers bytes changes)))
  unfolding unless Accepted report_of changes_of after_all
  by_name true u e full numbers bytes changes h = inr (inl (record { missing = (name-missing s name).0 e; reports = refl; unaltered = refl }))
  by_name false true e full numbers bytes changes h = inr (inr (record { all = (none_free s).0 full; reports = refl; unaltered = refl }))
  by_name false false e full numbers bytes changes h = inl (enough numbers bytes changes h, refl)

-- open of a name that is well written
opening : (s : Store) (bytes : List ℕ) (name : NAME) → syllables bytes ≡ some name
    → open' bytes s ≡ unless (missing s name) NoSuchName (unless (all_open s) NoFreeCids (done (free_channel s ∷ []) [] (channel (free_channel s) (channel_to (named s name) 0) ∷ [])))
unfolding open' with_syllables
opening s bytes name e = rw e

pub open_is : OpenIs
open_is s ready bytes name e =
    let is = opening s bytes name e in
    rw is (by_name s name _ (λ t. (c : ℕ) × openFS name c (view s) (view t)) (λ numbers none changes h. (h.0, h.1)) (missing s name) (all_open s) refl refl _ _ _
    (rw is at (open-holds s ready bytes name e)))
