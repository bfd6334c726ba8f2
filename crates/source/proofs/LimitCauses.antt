-- A file that grows past what is free passes the capacity; the causes of TooBig, NoRoom and BadSeek, of seek and write.
use Prim.Native.Nat.{ℕ, zero, suc, ◌-◌, ◌*◌, ◌≤◌, ◌<◌}
use Rattle.std.specs.Prelude.{◌≡◌, ◌≢◌, ◌⊎◌, List, Bool, true, false, not, ◌||◌, length, leb, eqb}
use Rattle.std.proofs.Math.Path.{refl, ap}
use Rattle.std.proofs.Common.{◌∙◌, arith}
use Rattle.std.proofs.Math.Logic.{inl, inr, ⊎_elim}
use Rattle.std.proofs.Math.Dec.{ltb}
use borrow.Author.Tests.{eq-eqb, ne_eqb, ltb-true, ltb-false, lt-leb, not-false}
use Rattle.records.specs.RowLaws.{sum_update}
use Rattle.records.specs.Tests.{and_false, tested}
use Rattle.meaning.specs.File.{needed, longest, writeFILE}
use Rattle.meaning.specs.Store.{Store, Change, in_use, is_open, free_blocks}
use Rattle.meaning.specs.Result.{Result, done, unless, on_channel, if_fits}
use Rattle.meaning.specs.ChannelCalls.{write, seek, seek_to, last_position}
use Rattle.meaning.specs.Run.{number_of}
use Rattle.meaning.specs.declared.Report.{Report}
use Rattle.meaning.specs.declared.Report.TheVariants.{Ok, NoSuchCid, IsDirectory, NoRoom, TooBig, BadSeek}
use Rattle.soundness.specs.Use.{used}
use Rattle.soundness.specs.Well.{Well}
use Rattle.source.specs.Sets.{◌⊕◌, ◌⟼◌, the, ◌··◌}
use Rattle.source.specs.Files.{FILE}
use Rattle.source.specs.View.{chan_of, view}
use Rattle.source.specs.ViewLaws.{channel_there}
use Rattle.source.specs.FileLaws.{write_schema}
use Rattle.source.specs.Accepted.{Ready}
use Rattle.source.specs.HeldChannel.{its_use, its_file}
use Rattle.source.specs.ErrorStatements.{report_of}
use Rattle.source.specs.Reports.{other_report, Never, never_done, never_unless, reported-first, reported_later}
use Rattle.source.specs.Limits.{taking}
use Rattle.source.proofs.LimitProofs.{takes, all_taken}
use Rattle.source.specs.LimitErrors.{TooLong, Overfull, Written, PastPosition}

-- ---- a file that grows past what is free

module _ (s : Store) (w : Well s) (f : ℕ) (u : in_use s f ≡ true) (file' : FILE) where
  pub past_room : free_blocks s < needed (length file') - needed (length (s.file f).bytes) → Overfull s f file'
  unfolding free_blocks
  past_room h = go f (used s f u).some (used s f u).within refl
    where
      go : (g : ℕ) → 0 < g → g ≤ s.file_count → g ≡ f → Overfull s f file'
      go zero some_file within e = absurd (omega arith)
      go (suc k) some_file within e =
          let old : ℕ → ℕ = λ i. taking ((view s).fstore (suc i)) in
          let new : ℕ → ℕ = λ i. taking (((view s).fstore ⊕ the f ⟼ file') (suc i)) in
          let grown = sum_update s.file_count old new k within (λ i l (o : i ≢ k). rw (ne_eqb (suc i) f (λ (q : suc i ≡ f). o (omega arith)))) in
          let before : old k ≡ 512 * needed (length (s.file f).bytes) = ap (λ (g : ℕ). taking ((view s).fstore g)) e ∙ takes s w f (used s f u).some (used s f u).within in
          let now : new k ≡ 512 * needed (length file') = rw (eq-eqb (suc k) f e) (unfold taking in refl) in
          omega (arith, grown, before, now, all_taken s w)

-- ---- causes in their order

-- a cause that is reported before did not hold
pub before : (why : Report) (t : Bool) (other : Report) (r : Result) → other ≢ why → report_of (unless t other r) ≡ why → (t ≡ false) × (report_of r ≡ why)
before why t other r n e = (reported_later why t other r n).0 e

-- nothing else is reported
pub first : (why : Report) (t : Bool) (r : Result) → Never why r → report_of (unless t why r) ≡ why → t ≡ true
first why t r n e = (reported-first why t r n).0 e

pub fits_big : (s : Store) (old new : ℕ) (r : Result) → Never TooBig r → report_of (if_fits s old new r) ≡ TooBig → longest < new
unfolding if_fits number_of
fits_big s old new r n e = ltb-true longest new (first TooBig (ltb longest new) _ (never_unless TooBig _ NoRoom r (other_report NoRoom TooBig refl) n) e)

pub fits_full : (s : Store) (old new : ℕ) (r : Result) → Never NoRoom r → report_of (if_fits s old new r) ≡ NoRoom → free_blocks s < needed new - needed old
unfolding if_fits number_of
fits_full s old new r n e =
    let (small, rest) = before NoRoom (ltb longest new) TooBig _ (other_report TooBig NoRoom refl) e in
    ltb-true (free_blocks s) (needed new - needed old) (first NoRoom (ltb (free_blocks s) (needed new - needed old)) r n rest)

pub done_big : (numbers bytes : List ℕ) (changes : List Change) → Never TooBig (done numbers bytes changes)
unfolding number_of
done_big = never_done TooBig (other_report Ok TooBig refl)

pub done_full : (numbers bytes : List ℕ) (changes : List Change) → Never NoRoom (done numbers bytes changes)
unfolding number_of
done_full = never_done NoRoom (other_report Ok NoRoom refl)

past_range : (high n : ℕ) → high < n → (0 ·· high) n ≡ false
past_range high n h = rw (lt-leb n high h) (and_false (leb 0 n))

-- ---- seek

module _ (s : Store) (ready : Ready s) (c : ℕ) where
  pub seek_past : (mode n : ℕ) → report_of (seek c mode n s) ≡ BadSeek → (5 < mode) ⊎ PastPosition c mode n s
  unfolding seek on_channel seek_to number_of
  seek_past mode n e =
      let y = s.channel c in
      let to : ℕ → ℕ = λ m. seek_to m y.posn (length (s.file y.file).bytes) n in
      let (closed, rest) = before BadSeek (not (is_open s c)) NoSuchCid _ (other_report NoSuchCid BadSeek refl) e in
      let o = not-false (is_open s c) closed in
      let past = first BadSeek (ltb 5 mode || ltb last_position (to mode)) _ (never_done BadSeek (other_report Ok BadSeek refl) _ _ _) rest in
      ⊎_elim
      (λ (small : ltb 5 mode ≡ true). inl (ltb-true 5 mode small))
      (λ (options : ltb 5 mode ≡ false).
      let far : last_position < to mode = ltb-true last_position (to mode) (rw options at past) in
      let by : (k : ℕ) → mode ≡ k → to mode ≡ to k = λ k e. ap to e in
      inr (record {
        chan = chan_of y;
        offset = to mode;
        is = channel_there s c o;
        by_option =
            record {
              options = ltb-false 5 mode options;
              file = (s.file y.file).bytes;
              of = its_file s ready c o;
              start = by 0;
              current = by 1;
              end = by 2;
              start_512 = by 3;
              current_512 = by 4;
              end-512 = by 5;
            };
        passes = past_range 16777215 (to mode) far;
      }))
      (tested (ltb 5 mode))

  -- ---- write

  module _ (bytes : List ℕ) where
    abbrev old : FILE
    old = (s.file (s.channel c).file).bytes

    abbrev new : FILE
    new = writeFILE old (s.channel c).posn bytes

    written : (P : Store → ℕ → FILE → Type 0) → is_open s c ≡ true → P s (s.channel c).file new → Written P c bytes s
    written P o passes =
        record {
          chan = chan_of (s.channel c);
          file = old;
          file' = new;
          is = channel_there s c o;
          of = its_file s ready c o;
          writes = write_schema old (s.channel c).posn bytes;
          passes = passes;
        }

    pub write_big : report_of (write c bytes s) ≡ TooBig → Written TooLong c bytes s
    unfolding write on_channel number_of
    write_big e =
        let (closed, rest) = before TooBig (not (is_open s c)) NoSuchCid _ (other_report NoSuchCid TooBig refl) e in
        let (plain, fits) = before TooBig (eqb (s.file (s.channel c).file).kind 2) IsDirectory _ (other_report IsDirectory TooBig refl) rest in
        written TooLong (not-false (is_open s c) closed) (fits_big s _ _ _ (done_big _ _ _) fits)

    pub write_full : report_of (write c bytes s) ≡ NoRoom → Written Overfull c bytes s
    unfolding write on_channel number_of
    write_full e =
        let (closed, rest) = before NoRoom (not (is_open s c)) NoSuchCid _ (other_report NoSuchCid NoRoom refl) e in
        let (plain, fits) = before NoRoom (eqb (s.file (s.channel c).file).kind 2) IsDirectory _ (other_report IsDirectory NoRoom refl) rest in
        let o = not-false (is_open s c) closed in
        written Overfull o (past_room s ready.well (s.channel c).file (its_use s ready c o) new (fits_full s _ _ _ (done_full _ _ _) fits))
