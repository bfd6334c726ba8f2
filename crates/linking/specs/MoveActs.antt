-- An accepted move: what its two acts ask holds, and their changes are those of move.
use Rattle.std.specs.Prelude.{ℕ, ◌≡◌, List, [], ◌∷◌, ◌++◌, Bool, true, false, not, ◌&&◌, eqb, Some}
use Rattle.std.proofs.Math.Path.{refl, sym, ap}
use Rattle.std.proofs.Common.{subst, ◌∙◌, arith}
use Rattle.records.specs.Rows.{pick}
use Rattle.meaning.specs.Name.{blank_record}
use Rattle.meaning.specs.Store.{Store, File, Change, file, no_file, after_all, is_directory, named, is_orphan, let_go}
use Rattle.meaning.specs.Tables.{Tables, store_of, file_count, put, put_all}
use Rattle.meaning.specs.Sound.{sound}
use Rattle.meaning.specs.Result.{Result, refused, done, unless}
use Rattle.meaning.specs.NameCalls.{parent, record_for, rewritten, unnaming, link, unlink, move, and_then, with_changes}
use Rattle.meaning.specs.Run.{Call, result_of, meaning, accepts}
use Rattle.meaning.specs.declared.FileNo.{FileNo}
use Rattle.meaning.specs.declared.Report.{Report}
use Rattle.meaning.specs.declared.Report.TheVariants.{NotAStore}
use Rattle.layout.specs.Layout.{Holding, sound_layout}
use Rattle.layout.specs.Fits.{FileFits}
use Rattle.layout.proofs.Putting.{put_all_lem}
use Rattle.soundness.specs.Use.{used}
use Rattle.soundness.specs.WellFacts.{directory-form}
use Rattle.trees.specs.Naming.{without_name}
use Rattle.keeping.proofs.Named.{unnamed_fits}
use Rattle.keeping.proofs.Moves.{unlink_done}
use Rattle.linking.specs.Link.{Accepted}
use Rattle.linking.specs.Act.{link_changes, drop_changes, freed, last_goes, Droppable}
use Rattle.linking.specs.Gone.{lone, freed_like, like_some}
use Rattle.linking.specs.Move.{Movable}
use Rattle.linking.specs.ActLaws as L
use Rattle.linking.specs.MoveLaws as M
use Rattle.linking.specs.LastName as N
use Rattle.linking.specs.declared.Plan.{Plan}

-- one row of changes after another, in the tables
pub put_both : (t : Tables) (changes more : List Change) → put_all t (changes ++ more) ≡ put_all (put_all t changes) more
unfolding put_all
put_both t [] more = refl
put_both t (change ∷ changes) more = put_both (put t change) changes more

-- where link is refused, move is
pub move-refusal : (t : Tables) (old new : List ℕ) (why : Report) → refused why ≡ result_of (Call.Link old new) t → refused why ≡ result_of (Call.Move old new) t
unfolding result_of meaning accepts move and_then unless
move-refusal t old new why e = go (sound t) e
  where
    go : (b : Bool) → refused why ≡ unless (not b) NotAStore (link old new (store_of t)) → refused why ≡ unless (not b) NotAStore (and_then (store_of t) (link old new (store_of t)) (unlink old))
    go true e = subst (λ (r : Result). refused why ≡ and_then (store_of t) r (unlink old)) e refl
    go false e = e

module _ (t : Tables) (old new : List ℕ) (p : Plan) (i : ℕ) (m : Movable t old new p i) where
  abbrev a : Accepted t old new p
  a = m.accepted

  abbrev s : Store
  s = store_of t

  abbrev from : List (List ℕ)
  from = a.old-name.name

  -- the store that link leaves
  abbrev s' : Store
  s' = after_all s (link_changes s new p)

  dir_is : p.from.0 ≡ parent s' from
  dir_is = a.from_is ∙ sym (M.after-parent t old new p a)

  place_is : i ≡ record_for s' from
  place_is = m.taken ∙ sym (M.after_record t old new p a)

  file_is : p.file.0 ≡ named s' from
  file_is = a.file_is ∙ sym (M.after-named t old new p a)

  blanked : rewritten s' p.from.0 i blank_record ≡ unnaming s' from
  unfolding unnaming
  blanked =
      ap (λ (d : ℕ). rewritten s' d i blank_record) dir_is
      ∙ ap (λ (j : ℕ). rewritten s' (parent s' from) j blank_record) place_is

  abbrev g : ℕ
  g = named s a.new-name.name

  pub last_is : freed (last_goes p) ≡ pick (lone s g && eqb g (named s from)) (file p.file.0 no_file ∷ []) []
  unfolding last_goes
  last_is =
      freed_like s g p.gone a.gone_is p.file
      ∙ ap (λ (h : ℕ). pick (lone s g && eqb g h) (file p.file.0 no_file ∷ []) []) a.file_is

  drops_are : drop_changes s' p i ≡ file (parent s' from) (unnaming s' from) ∷ let_go (without_name s' from) (named s' from)
  unfolding drop_changes let_go
  drops_are =
      let orphan : lone s g && eqb g (named s from) ≡ is_orphan (without_name s' from) (named s' from) =
      sym (ap (is_orphan (without_name s' from)) (M.after-named t old new p a) ∙ N.last_orphan t old new p a) in
      ap (λ (x : File). file p.from.0 x ∷ freed (last_goes p)) blanked
      ∙ ap (λ (d : ℕ). file d (unnaming s' from) ∷ freed (last_goes p)) dir_is
      ∙ ap (λ (l : List Change). file (parent s' from) (unnaming s' from) ∷ l) last_is
      ∙ ap (λ (b : Bool). file (parent s' from) (unnaming s' from) ∷ pick b (file p.file.0 no_file ∷ []) []) orphan
      ∙ ap (λ (h : ℕ). file (parent s' from) (unnaming s' from) ∷ pick (is_orphan (without_name s' from) (named s' from)) (file h no_file ∷ []) []) file_is

  linked : link old new s ≡ done [] [] (link_changes s new p)
  linked = sym (L.means t old new p a ∙ at-sound)
    where
      at-sound : result_of (Call.Link old new) t ≡ link old new s
      at-sound = unfold result_of meaning accepts unless in rw (L.is_sound t old new p a)

  unlinked : unlink old s' ≡ done [] [] (drop_changes s' p i)
  unlinked =
      unlink_done s' old from a.old-name.is (M.after_there t old new p a) (M.after_plain t old new p a)
      ∙ ap (done [] []) (sym drops_are)

  -- the changes of the two acts are those of move
  pub moves : done [] [] (link_changes s new p ++ drop_changes s' p i) ≡ result_of (Call.Move old new) t
  unfolding result_of meaning accepts move and_then with_changes unless
  moves = sym (rw (L.is_sound t old new p a, linked, unlinked))

  -- ---- the tables after link

  module _ (t' : Tables) (made : t' ≡ put_all t (link_changes s new p)) where
    pub holding : Holding t' s'
    holding =
        subst (λ (u : Tables). Holding u s') (sym made)
        (put_all_lem t (sound_layout t (L.is_sound t old new p a)) (link_changes s new p) (L.sure t old new p a).fits)

    fits : FileFits s' p.from.0 (rewritten s' p.from.0 i blank_record)
    fits =
        subst (λ (d : ℕ). FileFits s' d (rewritten s' p.from.0 i blank_record)) (sym dir_is)
        (subst (FileFits s' (parent s' from)) (sym blanked) (unnamed_fits s' (M.after_well t old new p a) from (M.after_standing t old new p a)))

    count_is : (store_of t').file_count ≡ file_count t'.file_records
    unfolding store_of
    count_is = refl

    own_file : (h : FileNo) → last_goes p ≡ Some h → h.0 ≡ p.file.0
    unfolding last_goes
    own_file h e = like_some p.file p.gone h e

    pub droppable : Droppable t'.blocks t'.block_records t'.file_records p i
    droppable =
        record {
          taking = record {
            channels = t'.channel_records;
            layout = holding.laid_out;
            is_directory_lem = ap (λ (u : Store). is_directory u p.from.0) holding.stored ∙ ap (is_directory s') dir_is ∙ (M.after_standing t old new p a).place.directory;
            fits = subst (λ (u : Store). FileFits u p.from.0 (rewritten u p.from.0 i blank_record)) (sym holding.stored) fits;
          };
          few =
              omega (
                arith,
                place_is,
                (M.after_standing t old new p a).there,
                (directory-form s' (M.after_well t old new p a) (parent s' from) (M.after_standing t old new p a).place.directory).size,
              );
          own = λ h e.
              let own : h.0 ≡ p.file.0 = own_file h e in
              let u = used s' (named s' from) (M.after_standing t old new p a).is_in_use in
              let count : s'.file_count ≡ file_count t'.file_records = sym (ap (λ (x : Store). x.file_count) holding.stored) ∙ count_is in
              (omega (arith, u.some, file_is, own), omega (arith, u.within, count, file_is, own));
        }

    -- both acts together
    pub moved : (t'' : Tables) → t'' ≡ put_all t' (drop_changes (store_of t') p i) → t'' ≡ put_all t (link_changes s new p ++ drop_changes s' p i)
    moved t'' e =
        e ∙ ap (λ (u : Store). put_all t' (drop_changes u p i)) holding.stored
        ∙ ap (λ (u : Tables). put_all u (drop_changes s' p i)) made
        ∙ sym (put_both t (link_changes s new p) (drop_changes s' p i))
