-- A record rewritten in the tables, and then a file let go, or none.
use Rattle.std.specs.Prelude.{ℕ, ◌≤◌, ◌<◌, ◌≡◌, List, ◌∷◌, Option, Some}
use Rattle.std.proofs.Common.{sym, ◌∙◌, arith}
use Rattle.std.proofs.Math.Path.{ap, subst}
use Rattle.meaning.specs.Store.{Store, file}
use Rattle.meaning.specs.Tables.{Tables, tables, store_of, file_count, put, put_all}
use Rattle.meaning.specs.NameCalls.{rewritten}
use Rattle.meaning.specs.declared.FileNo.{FileNo}
use Rattle.layout.specs.Layout.{Layout}
use Rattle.layout.proofs.Putting.{put_store, put_layout}
use Rattle.layout.specs.Room.{same-files}
use Rattle.files.specs.FileLaws.{clearable}
use Rattle.recording.specs.Recording.{Rewritable}
use Rattle.linking.specs.Act.{freed, MayGo}

module _ (b br fr : List ℕ) (d i : ℕ) (r : List ℕ) (b' br' fr' : List ℕ)
    (given : (channels : List ℕ) → tables b' br' fr' channels ≡ put (tables b br fr channels) (file d (rewritten (store_of (tables b br fr channels)) d i r))) where
  pub may_go : Rewritable b br fr d i r → (going : Option FileNo) → ((g : FileNo) → going ≡ Some g → (0 < g.0) × (g.0 ≤ file_count fr)) → MayGo br' fr' going
  unfolding store_of
  may_go w going within =
      let cr = w.channels in
      let before = tables b br fr cr in
      let change = file d (rewritten (store_of before) d i r) in
      let laid : Layout (tables b' br' fr' cr) = subst Layout (sym (given cr)) (put_layout before w.layout change w.fits) in
      let counts : file_count fr' ≡ file_count fr =
      ap (λ (u : Tables). file_count u.file_records) (given cr)
      ∙ ap (λ (s : Store). s.file_count) (put_store before w.layout change w.fits)
      ∙ same-files (store_of before) change in
      record { clears = λ g e. let h = within g e in clearable (tables b' br' fr' cr) laid g.0 h.0 (omega (arith, h, counts)) }

  pub then_go : (going : Option FileNo) (br'' fr'' : List ℕ)
      → ((blocks channels : List ℕ) → tables blocks br'' fr'' channels ≡ put_all (tables blocks br' fr' channels) (freed going))
      → (channels : List ℕ) → tables b' br'' fr'' channels ≡ put_all (tables b br fr channels) (file d (rewritten (store_of (tables b br fr channels)) d i r) ∷ freed going)
  unfolding put_all
  then_go going br'' fr'' goes channels = goes b' channels ∙ ap (λ (u : Tables). put_all u (freed going)) (given channels)
