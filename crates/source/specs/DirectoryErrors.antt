-- IsDirectory is reported exactly where a directory is named or held, and no earlier cause holds.
use Rattle.std.specs.Prelude.{ℕ, ◌≡◌, refl, ◌⊎◌, ◌↔◌, List, true, false, not, eqb}
use Rattle.std.proofs.Common.{sym, ap, ◌∙◌, inl, inr, ⊎_elim}
use Rattle.std.proofs.Math.Logic.Iff
use Rattle.std.proofs.Math.Option.{some}
use borrow.Author.Tests.{eqb-true, eq-eqb, ne_eqb, not-false}
use Rattle.records.specs.Tests.{tested}
use Rattle.meaning.specs.Name.{syllables}
use Rattle.meaning.specs.Store.{Store, File, Change, is_directory, is_open, named}
use Rattle.meaning.specs.Result.{Result, done, on_channel, missing, nowhere}
use Rattle.meaning.specs.ChannelCalls.{write}
use Rattle.meaning.specs.NameCalls.{create, link, unlink, move, if_naming_fits}
use Rattle.meaning.specs.Run.{meaning, number_of}
use Rattle.meaning.specs.declared.Report.TheVariants.{Ok, NoSuchCid, NoSuchName, NoFreeCids, IsDirectory, NoFreeFids, NoRoom, TooBig}
use Rattle.soundness.specs.Use.{used, directory-kind, of_directory}
use Rattle.source.specs.Naming.{NAME}
use Rattle.source.specs.Channels.{CHAN}
use Rattle.source.specs.View.{chan_of, view}
use Rattle.source.specs.ViewLaws.{numbered_some, numbered_is, channel_there, channel_open, channel_is}
use Rattle.source.specs.Accepted.{Ready}
use Rattle.source.specs.Invariants.{directory_there}
use Rattle.source.specs.Tree.{well_tree}
use Rattle.source.specs.HeldChannel.{its_use}
use Rattle.source.specs.ErrorStatements.{report_of, OnStores, OnReady, HoldsDirectory, EitherDirectory, DirectoryErrs}
use Rattle.source.specs.Reports.{other_report, Never, never_done, never_unless, never_fits, reported-first, reported_later, reported_twice, reported-named, in_second, in_right}
use Rattle.source.specs.Causes.{name_there}
use Rattle.source.specs.NameErrors.{move_reports}

-- ---- a directory's name is there

module _ (s : Store) (name : NAME) where
  there : is_directory s (named s name) ≡ true → missing s name ≡ false
  unfolding missing
  there is = ne_eqb (named s name) 0 (directory_there s (named s name) is)

  pub directory-named : ((missing s name ≡ false) × (is_directory s (named s name) ≡ true)) ↔ ((view s).dnames name ≡ true)
  directory-named = (λ h. h.1, λ is. (there is, is))

  somewhere : is_directory s (named s name) ≡ true → nowhere s name ≡ false
  unfolding nowhere
  somewhere is = rw (there is)

  pub directory_somewhere : ((nowhere s name ≡ false) × (is_directory s (named s name) ≡ true)) ↔ ((view s).dnames name ≡ true)
  directory_somewhere = (λ h. h.1, λ is. (somewhere is, is))

done_directory : (numbers bytes : List ℕ) (changes : List Change) → Never IsDirectory (done numbers bytes changes)
unfolding number_of
done_directory = never_done IsDirectory (other_report Ok IsDirectory refl)

naming_fits_directory : (s : Store) (name : NAME) (dir : File) (r : Result) → Never IsDirectory r → Never IsDirectory (if_naming_fits s name dir r)
unfolding if_naming_fits number_of
naming_fits_directory s name dir r h = never_fits IsDirectory s _ _ r (other_report TooBig IsDirectory refl) (other_report NoRoom IsDirectory refl) h

-- ---- the calls

unlink-directory : (s : Store) (bytes : List ℕ) (name : NAME) → syllables bytes ≡ some name → (report_of (unlink bytes s) ≡ IsDirectory) ↔ ((view s).dnames name ≡ true)
unfolding unlink number_of
unlink-directory s bytes name e =
    reported-named IsDirectory _ name _ _ e
    (Iff.trans (reported_later IsDirectory (missing s name) NoSuchName _ (other_report NoSuchName IsDirectory refl))
    (Iff.trans (in_second (reported-first IsDirectory (is_directory s (named s name)) _ (done_directory _ _ _))) (directory-named s name)))

create-directory : (s : Store) (bytes : List ℕ) (name : NAME) → syllables bytes ≡ some name → (report_of (create bytes s) ≡ IsDirectory) ↔ ((view s).dnames name ≡ true)
unfolding create number_of
create-directory s bytes name e =
    reported-named IsDirectory _ name _ _ e
    (Iff.trans (reported_later IsDirectory (nowhere s name) NoSuchName _ (other_report NoSuchName IsDirectory refl))
    (Iff.trans (in_second (reported-first IsDirectory (is_directory s (named s name)) _
    (never_unless IsDirectory _ NoFreeCids _ (other_report NoFreeCids IsDirectory refl)
    (⊎_elim
    (λ (gone : missing s name ≡ true). rw gone (never_unless IsDirectory _ NoFreeFids _ (other_report NoFreeFids IsDirectory refl) (naming_fits_directory s name _ _ (done_directory _ _ _))))
    (λ (is : missing s name ≡ false). rw is (done_directory _ _ _))
    (tested (missing s name)))))) (directory_somewhere s name)))

-- the old name first, then the new
either_directory : (s : Store) (from to : NAME)
    → ((missing s from ≡ false) × ((is_directory s (named s from) ≡ true) ⊎ ((is_directory s (named s from) ≡ false) × ((nowhere s to ≡ false) × (is_directory s (named s to) ≡ true)))))
    ↔ EitherDirectory (view s) from to
either_directory s from to = (
  λ h. ⊎_elim (λ is. inl is) (λ l. inr ((name_there s from).0 h.0, l.0, l.1.1)) h.1,
  λ h. ⊎_elim
      (λ is. (((directory-named s from).1 is).0, inl is))
      (λ l. ((name_there s from).1 l.0, inr (l.1, (directory_somewhere s to).1 l.2)))
      h,
)

link-directory : (s : Store) → Ready s → (old new : List ℕ) (from to : NAME) → syllables old ≡ some from → syllables new ≡ some to
    → (report_of (link old new s) ≡ IsDirectory) ↔ EitherDirectory (view s) from to
unfolding link number_of
link-directory s ready old new from to e h =
    reported-named IsDirectory _ from _ _ e
    (reported-named IsDirectory _ to _ _ h
    (Iff.trans (reported_later IsDirectory (missing s from) NoSuchName _ (other_report NoSuchName IsDirectory refl))
    (Iff.trans
    (in_second (Iff.trans (reported_twice IsDirectory (is_directory s (named s from)) _)
    (in_right (Iff.trans (reported_later IsDirectory (nowhere s to) NoSuchName _ (other_report NoSuchName IsDirectory refl))
    (in_second (reported-first IsDirectory (is_directory s (named s to)) _ (naming_fits_directory s to _ _ (done_directory _ _ _))))))))
    (either_directory s from to))))

move-directory : (s : Store) → Ready s → (old new : List ℕ) (from to : NAME) → syllables old ≡ some from → syllables new ≡ some to
    → (report_of (move old new s) ≡ IsDirectory) ↔ EitherDirectory (view s) from to
unfolding number_of
move-directory s ready old new from to e h =
    Iff.trans (move_reports s ready old new IsDirectory (other_report Ok IsDirectory refl)) (link-directory s ready old new from to e h)

-- ---- write

module _ (s : Store) (ready : Ready s) (c : ℕ) where
  abbrev f : ℕ
  f = (s.channel c).file

  holds-directory : ((not (is_open s c) ≡ false) × (eqb (s.file f).kind 2 ≡ true)) ↔ HoldsDirectory (view s) c
  holds-directory = (held, kind)
    where
      held : (not (is_open s c) ≡ false) × (eqb (s.file f).kind 2 ≡ true) → HoldsDirectory (view s) c
      held (e, k) =
          let o = not-false (is_open s c) e in
          let u = used s f (its_use s ready c o) in
          let is : is_directory s f ≡ true = of_directory s f u.some u.within (eqb-true (s.file f).kind 2 k) in
          let (name, at) = (well_tree s ready.well).reached f is in
          let its : is_directory s (named s name) ≡ true = ap (is_directory s) at ∙ is in
          record {
            chan = chan_of (s.channel c);
            is = channel_there s c o;
            of = record { name = name; directory = its; named = numbered_some (named s name) (directory_there s (named s name) its) ∙ ap some at };
          }

      kind : HoldsDirectory (view s) c → (not (is_open s c) ≡ false) × (eqb (s.file f).kind 2 ≡ true)
      kind h =
          let name = h.of.name in
          let same : named s name ≡ f = numbered_is (named s name) h.chan.fid h.of.named ∙ ap (λ (y : CHAN). y.fid) (sym (channel_is s c h.chan h.is)) in
          (rw (channel_open s c h.chan h.is), eq-eqb (s.file f).kind 2 (ap (λ (g : ℕ). (s.file g).kind) (sym same) ∙ directory-kind s (named s name) h.of.directory))

write-directory : (s : Store) → Ready s → (c : ℕ) (bytes : List ℕ) → (report_of (write c bytes s) ≡ IsDirectory) ↔ HoldsDirectory (view s) c
unfolding write on_channel number_of
write-directory s ready c bytes =
    Iff.trans (reported_later IsDirectory (not (is_open s c)) NoSuchCid _ (other_report NoSuchCid IsDirectory refl))
    (Iff.trans (in_second (reported-first IsDirectory (eqb (s.file (s.channel c).file).kind 2) _
    (never_fits IsDirectory s _ _ _ (other_report TooBig IsDirectory refl) (other_report NoRoom IsDirectory refl) (done_directory _ _ _))))
    (holds-directory s ready c))

pub directory_errs : DirectoryErrs OnStores OnReady
unfolding meaning
directory_errs =
    record {
      of_write = λ c bytes s ready. write-directory s ready c bytes;
      of_create = λ bytes name e s. create-directory s bytes name e;
      of_unlink = λ bytes name e s. unlink-directory s bytes name e;
      of_link = λ old new from to e h s ready. link-directory s ready old new from to e h;
      of_move = λ old new from to e h s ready. move-directory s ready old new from to e h;
    }
