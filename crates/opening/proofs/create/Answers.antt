-- What is decided is done: a refusal leaves the tables; an existing file is emptied, a new one gets its name's record and its own;
-- then the channel's record is put.
use Rattle.std.specs.Prelude.{ℕ, ◌≡◌, List, [], ◌∷◌, Ok, Err}
use Rattle.std.proofs.Common.{ap, sym, subst, ◌∙◌}
use Rattle.std.proofs.lemmas.Result.{err_from_is_err_and}
use Rattle.records.specs.Numbers.{with_record}
use Rattle.meaning.specs.Store.{file, channel, channel_to, ordinary}
use Rattle.meaning.specs.NameCalls.{rewritten}
use Rattle.meaning.specs.Tables.{Tables, tables, store_of, put, put_all, channel_record}
use Rattle.meaning.specs.Run.{Call, Promise, Answer, refusal, accepted}
use Rattle.meaning.proofs.PromiseLaws.{kept_refusal, kept_done}
use Rattle.meaning.specs.declared.Report.{Report}
use Rattle.meaning.specs.declared.ChannelNo.{ChannelNo}
use Rattle.meaning.specs.declared.FileNo.{FileNo}
use Rattle.files.specs.Files.{Clearable, cleared}
use Rattle.recording.specs.Recording.{record_of}
use Rattle.recording.specs.AfterRecord.{Written, clearable_written}
use Rattle.opening.specs.Create.{Created, InsideNew, Makes, planned_new}
use Rattle.opening.specs.declared.Creation.{Creation}
use Rattle.opening.specs.declared.Creation.TheVariants.{Old, New}
use Rattle.opening.proofs.create.Goals as goal

-- the promise, for an answer and the tables that are left
abbrev Kept : Tables → List ℕ → Answer → Tables → Type 0
Kept t bytes answer left = Promise (Call.Create bytes) t [] (record { answer = answer; buffer = []; tables = left })

-- file f cleared, whatever the blocks hold
abbrev Emptied : List ℕ → List ℕ → List ℕ → List ℕ → ℕ → Type 0
Emptied br fr br' fr' f = (blocks channels : List ℕ) → tables blocks br' fr' channels ≡ put (tables blocks br fr channels) (file f (cleared 1 0))

channel_put : (b br fr cr cr' : List ℕ) (u : Tables) (c f : ℕ) → tables b br fr cr ≡ u → cr' ≡ with_record 8 cr c (channel_record f 0)
    → tables b br fr cr' ≡ put u (channel c (channel_to f 0))
unfolding put
channel_put b br fr cr cr' u c f e p = ap (tables b br fr) p ∙ ap (λ (v : Tables). put v (channel c (channel_to f 0))) e

module _ (t : Tables) (bytes : List ℕ) where
  refused_so : (why : Report) → Created t bytes (Err why) → Kept t bytes (refusal 1 why) t
  refused_so why decided = kept_refusal (Call.Create bytes) t [] why decided.means

  module _ (plan : Creation) (decided : Created t bytes (Ok plan)) where
    old_emptied : (c : ChannelNo) (f : FileNo) → plan ≡ Old c f → (br' fr' : List ℕ) → Emptied t.block_records t.file_records br' fr' f.0
        → (cr' : List ℕ) → cr' ≡ with_record 8 t.channel_records c.0 (channel_record f.0 0)
        → Kept t bytes (accepted (c.0 ∷ [])) (tables t.blocks br' fr' cr')
    unfolding put_all
    old_emptied c f e br' fr' clears cr' p =
        kept_done (Call.Create bytes) t [] (c.0 ∷ []) [] (file f.0 (ordinary []) ∷ channel c.0 (channel_to f.0 0) ∷ [])
        (ap (planned_new t bytes) (sym e) ∙ decided.means) (tables t.blocks br' fr' cr')
        (channel_put t.blocks br' fr' t.channel_records cr' (put t (file f.0 (ordinary []))) c.0 f.0 (clears t.blocks t.channel_records) p)

    module _ (c : ChannelNo) (f d : FileNo) (i : ℕ) (e : plan ≡ New c f d i)
        (b' br' fr' : List ℕ) (gave : Written t.blocks t.block_records t.file_records b' br' fr' d.0 i (record_of f.0 bytes)) where
      new_clears : Clearable br' fr' f.0
      new_clears =
          let makes : Makes t bytes c.0 f.0 d.0 i = subst (InsideNew t bytes) e decided.fits in
          clearable_written t.blocks t.block_records t.file_records d.0 i (record_of f.0 bytes) makes.rewritable b' br' fr' gave f.0 makes.from_one makes.to_last

      new-made : (br'' fr'' : List ℕ) → Emptied br' fr' br'' fr'' f.0 → (cr' : List ℕ) → cr' ≡ with_record 8 t.channel_records c.0 (channel_record f.0 0)
          → Kept t bytes (accepted (c.0 ∷ [])) (tables b' br'' fr'' cr')
      unfolding put_all
      new-made br'' fr'' clears cr' q =
          let given = file d.0 (rewritten (store_of t) d.0 i (record_of f.0 bytes)) in
          kept_done (Call.Create bytes) t [] (c.0 ∷ []) [] (given ∷ file f.0 (ordinary []) ∷ channel c.0 (channel_to f.0 0) ∷ [])
          (ap (planned_new t bytes) (sym e) ∙ decided.means) (tables b' br'' fr'' cr')
          (channel_put b' br'' fr'' t.channel_records cr' (put (put t given) (file f.0 (ordinary []))) c.0 f.0
          (clears b' t.channel_records ∙ ap (λ (u : Tables). put u (file f.0 (ordinary []))) (gave t.channel_records)) q)

pub returns-in_err-c : goal.returns-in_err-c
returns-in_err-c c =
    let p = err_from_is_err_and c.from_residual.result c.from_residual.ensures.1 in
    rw (p.1, p.2) (refused_so _ _ _ c.in_err-c.ensures)

pub clear_file-requires-in-New : goal.clear_file-requires-in-New
clear_file-requires-in-New c = new_clears _ _ _ c.in_ok-c.ensures _ _ _ _ c.in-New.is _ _ _ c.give_name.ensures

pub returns-in-Old : goal.returns-in-Old
returns-in-Old c = old_emptied _ _ _ c.in_ok-c.ensures _ _ c.in-Old.is _ _ c.clear_file.ensures _ c.open_channel.ensures

pub returns-in-New : goal.returns-in-New
returns-in-New c =
    new-made _ _ _ c.in_ok-c.ensures _ _ _ _ c.in-New.is _ _ _ c.give_name.ensures _ _ c.clear_file-in-New.ensures _ c.open_channel-in-New.ensures
