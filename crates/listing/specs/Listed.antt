-- A directory of a sound store: what the block table gives is its count of names and its listing.
use Rattle.std.specs.Prelude.{ℕ, zero, suc, ◌+◌, ◌*◌, ◌/◌, ◌≤◌, ◌<◌, ◌≡◌, List, [], ◌++◌, true, length, take, drop}
use Rattle.std.proofs.Math.Path.{refl, ap, sym}
use Rattle.std.proofs.Common.{◌∙◌, append-nil, append_assoc, arith, length-take, length-drop, drop-drop, take-add, drop_at}
use Rattle.std.proofs.Math.Bool.{not}
use Rattle.records.specs.Rows.{pick, how_many}
use Rattle.records.specs.RowLaws.{how_many_cong}
use Rattle.meaning.specs.Name.{is_blank, record_at, record_count, name_count, names_from, listing}
use Rattle.meaning.specs.Store.{is_directory}
use Rattle.meaning.specs.Tables.{Tables, store_of, file_length}
use Rattle.meaning.specs.Sound.{sound}
use Rattle.layout.specs.Layout.{sound_layout, length-file}
use Rattle.soundness.specs.WellFacts.{directory-length}
use Rattle.names.specs.RecordNames.{record_from}
use Rattle.directories.specs.Places.{record_place, record_there, blank_there}
use Rattle.directories.specs.Find.{Lies, blank_at}
use Rattle.lookup.specs.Found.{directory_lies, record_inside}
use Rattle.lookup.specs.Filed.{sound_well}
use Rattle.listing.specs.Names.{rows, name_at, place_count, place_names}
use Rattle.listing.specs.NameLaws.{rows-length, rows_cong, name-length}

-- the name of a record is what follows its file number
name-part : (blocks : List ℕ) (at : ℕ) → at + 16 ≤ length blocks → take 14 (drop (at + 2) blocks) ≡ drop 2 (record_from blocks at)
unfolding record_from
name-part blocks at h =
    let l = drop at blocks in
    let two : length (take 2 l) ≡ 2 = simp (length-take, length-drop) (omega arith) in
    ap (take 14) (sym (drop-drop 2 at blocks)) ∙ sym (ap (drop 2) (take-add 2 14 l) ∙ drop_at (take 2 l) (take 14 (drop 2 l)) 2 two)

-- a listing is a row of names
abbrev named : List ℕ → ℕ → List ℕ
named dir i = pick (is_blank dir i) [] (drop 2 (record_at dir i))

from_next : (dir : List ℕ) (i n : ℕ) → names_from dir i (suc n) ≡ names_from dir i n ++ named dir (i + n)
unfolding names_from
from_next dir i zero = let e : i + 0 ≡ i = omega arith in rw (e, append-nil)
from_next dir i (suc n) =
    let e : suc i + n ≡ i + suc n = omega arith in
    rw (← e, append_assoc, ← from_next dir (suc i) n)

listing-rows : (dir : List ℕ) (n : ℕ) → names_from dir 0 n ≡ rows n (named dir)
unfolding rows
listing-rows dir zero = unfold names_from in refl
listing-rows dir (suc n) =
    let e : 0 + n ≡ n = omega arith in
    from_next dir 0 n ∙ rw (e, listing-rows dir n)

module _ (t : Tables) (ok : sound t ≡ true) (d : ℕ) (is : is_directory (store_of t) d ≡ true) (count : ℕ) (counted : count ≡ file_length t.file_records d / 16) where
  abbrev dir : List ℕ
  dir = ((store_of t).file d).bytes

  count_is : record_count dir ≡ count
  unfolding store_of
  count_is = ap (λ (n : ℕ). n / 16) (length-file t d) ∙ sym counted

  pub listed_lies : Lies t.blocks t.block_records d count
  listed_lies = rw (← count_is) (directory_lies t (sound_layout t ok) (sound_well t ok) d is)

  inside : (i : ℕ) → i < count → record_place t.block_records d i + 16 ≤ length t.blocks
  inside i h = record_inside t (sound_layout t ok) (sound_well t ok) d is i (rw count_is h)

  whole : (i : ℕ) → i < count → 16 * i + 16 ≤ length dir
  whole i h = omega (arith, directory-length (store_of t) (sound_well t ok) d is, count_is)

  blank_is : (i : ℕ) → i < count → blank_at t.blocks (record_place t.block_records d i) ≡ is_blank dir i
  unfolding blank_at
  blank_is i h = sym (blank_there t d i (whole i h))

  pub listed_count : place_count t.blocks t.block_records d count ≡ name_count dir
  unfolding place_count name_count
  listed_count =
      how_many_cong count (λ i. not (blank_at t.blocks (record_place t.block_records d i))) (λ i. not (is_blank dir i)) (λ i h. ap not (blank_is i h))
      ∙ ap (λ (n : ℕ). how_many n (λ i. not (is_blank dir i))) (sym count_is)

  name_is : (i : ℕ) → i < count → name_at t.blocks (record_place t.block_records d i) ≡ named dir i
  unfolding name_at
  name_is i h =
      let at = record_place t.block_records d i in
      rw (blank_is i h, record_there t d i (whole i h) (inside i h)) (ap (pick (is_blank dir i) []) (name-part t.blocks at (inside i h)))

  pub listed_names : place_names t.blocks t.block_records d count ≡ listing dir
  unfolding place_names listing
  listed_names =
      rows_cong count (λ i. name_at t.blocks (record_place t.block_records d i)) (named dir) name_is
      ∙ sym (listing-rows dir count) ∙ ap (names_from dir 0) (sym count_is)

  pub listed_length : length (place_names t.blocks t.block_records d count) ≡ 14 * place_count t.blocks t.block_records d count
  unfolding place_names place_count
  listed_length =
      rows-length (λ i. name_at t.blocks (record_place t.block_records d i)) (λ i. not (blank_at t.blocks (record_place t.block_records d i))) count
      (λ i h. name-length t.blocks (record_place t.block_records d i) (inside i h))
