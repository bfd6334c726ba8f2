-- NoSuchName and NoFreeCids are reported exactly where the source's NameErr and ChanErr hold, and no earlier cause does.
use Rattle.std.specs.Prelude.{ℕ, ◌≡◌, refl, ◌≢◌, ◌⊎◌, ◌↔◌, List, true, false}
use Rattle.std.proofs.Common.{inl, inr, ⊎_elim}
use Rattle.std.proofs.Math.Logic.Iff
use Rattle.std.proofs.Math.Option.{some}
use Rattle.records.specs.Tests.{tested}
use Rattle.meaning.specs.Name.{syllables}
use Rattle.meaning.specs.Store.{Store, File, Change, is_directory, named}
use Rattle.meaning.specs.Result.{Result, done, missing, nowhere, all_open}
use Rattle.meaning.specs.NameCalls.{create, open', link, unlink, move, ls, if_naming_fits}
use Rattle.meaning.specs.Run.{meaning, number_of}
use Rattle.meaning.specs.declared.Report.{Report}
use Rattle.meaning.specs.declared.Report.TheVariants.{Ok, NoSuchName, NoFreeCids, IsDirectory, NotDirectory, NoFreeFids, NoRoom, TooBig, OutShort}
use Rattle.keeping.proofs.Moves.{move_refused, link_refused}
use Rattle.source.specs.Sets.{◌∈dom◌}
use Rattle.source.specs.Naming.{NAME}
use Rattle.source.specs.View.{view}
use Rattle.source.specs.Accepted.{Ready, sized}
use Rattle.source.specs.ErrorStatements.{report_of, OnStores, OnReady, Missing, Nowhere, NoLink, NoneFree, NameErrs, ChanErrs}
use Rattle.source.specs.Reports.{other_report, Never, never_done, never_unless, never_fits, reported-first, reported_later, reported_twice, reported-named, report_refused, refused_report, in_second, both_parts, in_right}
use Rattle.source.specs.Causes.{name-missing, name_there, name-nowhere, name_somewhere, none_free}

-- ---- what never comes later

done_name : (numbers bytes : List ℕ) (changes : List Change) → Never NoSuchName (done numbers bytes changes)
unfolding number_of
done_name = never_done NoSuchName (other_report Ok NoSuchName refl)

naming_fits_name : (s : Store) (name : NAME) (dir : File) (r : Result) → Never NoSuchName r → Never NoSuchName (if_naming_fits s name dir r)
unfolding if_naming_fits number_of
naming_fits_name s name dir r h = never_fits NoSuchName s _ _ r (other_report TooBig NoSuchName refl) (other_report NoRoom NoSuchName refl) h

-- ---- NoSuchName

open-missing : (s : Store) (bytes : List ℕ) (name : NAME) → syllables bytes ≡ some name → (report_of (open' bytes s) ≡ NoSuchName) ↔ Missing (view s) name
unfolding open' number_of
open-missing s bytes name e =
    reported-named NoSuchName _ name _ _ e
    (Iff.trans (reported-first NoSuchName (missing s name) _ (never_unless NoSuchName _ NoFreeCids _ (other_report NoFreeCids NoSuchName refl) (done_name _ _ _))) (name-missing s name))

unlink-missing : (s : Store) (bytes : List ℕ) (name : NAME) → syllables bytes ≡ some name → (report_of (unlink bytes s) ≡ NoSuchName) ↔ Missing (view s) name
unfolding unlink number_of
unlink-missing s bytes name e =
    reported-named NoSuchName _ name _ _ e
    (Iff.trans (reported-first NoSuchName (missing s name) _ (never_unless NoSuchName _ IsDirectory _ (other_report IsDirectory NoSuchName refl) (done_name _ _ _))) (name-missing s name))

ls-missing : (size : ℕ) (s : Store) (bytes : List ℕ) (name : NAME) → syllables bytes ≡ some name → (report_of (ls bytes size s) ≡ NoSuchName) ↔ Missing (view s) name
unfolding ls number_of
ls-missing size s bytes name e =
    reported-named NoSuchName _ name _ _ e
    (Iff.trans (reported-first NoSuchName (missing s name) _
    (never_unless NoSuchName _ NotDirectory _ (other_report NotDirectory NoSuchName refl)
    (never_unless NoSuchName _ OutShort _ (other_report OutShort NoSuchName refl) (done_name _ _ _)))) (name-missing s name))

create-nowhere : (s : Store) (bytes : List ℕ) (name : NAME) → syllables bytes ≡ some name → (report_of (create bytes s) ≡ NoSuchName) ↔ Nowhere (view s) name
unfolding create number_of
create-nowhere s bytes name e =
    reported-named NoSuchName _ name _ _ e
    (Iff.trans (reported-first NoSuchName (nowhere s name) _
    (never_unless NoSuchName _ IsDirectory _ (other_report IsDirectory NoSuchName refl)
    (never_unless NoSuchName _ NoFreeCids _ (other_report NoFreeCids NoSuchName refl)
    (⊎_elim
    (λ (gone : missing s name ≡ true). rw gone (never_unless NoSuchName _ NoFreeFids _ (other_report NoFreeFids NoSuchName refl) (naming_fits_name s name _ _ (done_name _ _ _))))
    (λ (there : missing s name ≡ false). rw there (done_name _ _ _))
    (tested (missing s name)))))) (name-nowhere s name))

-- the old name is missing; or it is there, an ordinary file's, and the new name has nowhere to go
no_link : (s : Store) (from to : NAME) → ((missing s from ≡ true) ⊎ ((missing s from ≡ false) × ((is_directory s (named s from) ≡ false) × (nowhere s to ≡ true)))) ↔ NoLink (view s) from to
no_link s from to = (
  λ h. ⊎_elim (λ gone. inl ((name-missing s from).0 gone)) (λ h. inr ((name_there s from).0 h.0, h.1.0, (name-nowhere s to).0 h.1.1)) h,
  λ h. ⊎_elim (λ gone. inl ((name-missing s from).1 gone)) (λ h. inr ((name_there s from).1 h.0, (h.1, (name-nowhere s to).1 h.2))) h,
)

link-nowhere : (s : Store) → Ready s → (old new : List ℕ) (from to : NAME) → syllables old ≡ some from → syllables new ≡ some to
    → (report_of (link old new s) ≡ NoSuchName) ↔ NoLink (view s) from to
unfolding link number_of
link-nowhere s ready old new from to e h =
    reported-named NoSuchName _ from _ _ e
    (reported-named NoSuchName _ to _ _ h
    (Iff.trans (reported_twice NoSuchName (missing s from) _)
    (Iff.trans
    (in_right (Iff.trans
    (reported_later NoSuchName (is_directory s (named s from)) IsDirectory _ (other_report IsDirectory NoSuchName refl))
    (in_second (reported-first NoSuchName (nowhere s to) _
    (never_unless NoSuchName _ IsDirectory _ (other_report IsDirectory NoSuchName refl) (naming_fits_name s to _ _ (done_name _ _ _)))))))
    (no_link s from to))))

-- a move is refused exactly where its link is
pub move_reports : (s : Store) → Ready s → (old new : List ℕ) (why : Report) → Ok ≢ why → (report_of (move old new s) ≡ why) ↔ (report_of (link old new s) ≡ why)
move_reports s ready old new why other =
    let z = sized s ready in (
      λ m. refused_report why (link old new s) (move_refused s ready.well z old new why (report_refused why other (move old new s) m)),
      λ l. refused_report why (move old new s) (link_refused s ready.well z old new why (report_refused why other (link old new s) l)),
    )

move-nowhere : (s : Store) → Ready s → (old new : List ℕ) (from to : NAME) → syllables old ≡ some from → syllables new ≡ some to
    → (report_of (move old new s) ≡ NoSuchName) ↔ NoLink (view s) from to
unfolding number_of
move-nowhere s ready old new from to e h =
    Iff.trans (move_reports s ready old new NoSuchName (other_report Ok NoSuchName refl)) (link-nowhere s ready old new from to e h)

pub name_errs : NameErrs OnStores OnReady
unfolding meaning
name_errs =
    record {
      of_open = λ bytes name e s. open-missing s bytes name e;
      of_unlink = λ bytes name e s. unlink-missing s bytes name e;
      of_ls = λ bytes name e size s. ls-missing size s bytes name e;
      of_create = λ bytes name e s. create-nowhere s bytes name e;
      of_link = λ old new from to e h s ready. link-nowhere s ready old new from to e h;
      of_move = λ old new from to e h s ready. move-nowhere s ready old new from to e h;
    }

-- ---- NoFreeCids

done_full : (numbers bytes : List ℕ) (changes : List Change) → Never NoFreeCids (done numbers bytes changes)
unfolding number_of
done_full = never_done NoFreeCids (other_report Ok NoFreeCids refl)

open_full : (s : Store) (bytes : List ℕ) (name : NAME) → syllables bytes ≡ some name
    → (report_of (open' bytes s) ≡ NoFreeCids) ↔ ((name ∈dom (view s).nstore) × NoneFree s)
unfolding open' number_of
open_full s bytes name e =
    reported-named NoFreeCids _ name _ _ e
    (Iff.trans
    (reported_later NoFreeCids (missing s name) NoSuchName _ (other_report NoSuchName NoFreeCids refl))
    (both_parts (name_there s name) (Iff.trans (reported-first NoFreeCids (all_open s) _ (done_full _ _ _)) (none_free s))))

create_full : (s : Store) (bytes : List ℕ) (name : NAME) → syllables bytes ≡ some name
    → (report_of (create bytes s) ≡ NoFreeCids) ↔ ((Nowhere (view s) name → ⊥) × ((view s).dnames name ≡ false) × NoneFree s)
unfolding create if_naming_fits number_of
create_full s bytes name e =
    reported-named NoFreeCids _ name _ _ e
    (Iff.trans
    (reported_later NoFreeCids (nowhere s name) NoSuchName _ (other_report NoSuchName NoFreeCids refl))
    (Iff.trans
    (both_parts (name_somewhere s name) (Iff.trans
    (reported_later NoFreeCids (is_directory s (named s name)) IsDirectory _ (other_report IsDirectory NoFreeCids refl))
    (in_second (Iff.trans (reported-first NoFreeCids (all_open s) _
    (⊎_elim
    (λ (gone : missing s name ≡ true). rw gone (never_unless NoFreeCids _ NoFreeFids _ (other_report NoFreeFids NoFreeCids refl) (never_fits NoFreeCids s _ _ _ (other_report TooBig NoFreeCids refl) (other_report NoRoom NoFreeCids refl) (done_full _ _ _))))
    (λ (there : missing s name ≡ false). rw there (done_full _ _ _))
    (tested (missing s name)))) (none_free s)))))
    (λ h. (h.0, h.1.0, h.1.1), λ h. (h.0, (h.1, h.2)))))

pub chan_errs : ChanErrs OnStores
unfolding meaning
chan_errs = record { of_open = λ bytes name e s. open_full s bytes name e; of_create = λ bytes name e s. create_full s bytes name e }
