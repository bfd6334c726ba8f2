-- read gives so many bytes as it answers, and ls 14 for each name; no more than are lent.
use Rattle.std.specs.Prelude.{ℕ, zero, suc, ◌+◌, ◌*◌, ◌≤◌, ◌≡◌, Bool, true, false, not, List, [], ◌∷◌, length, drop, ltb}
use Rattle.std.proofs.Math.Path.{refl}
use Rattle.std.proofs.Common.{ap, ◌∙◌, arith, length-append, length-take, length-drop, ltb-false}
use Rattle.std.proofs.Math.Option.{Option, none, some}
use Rattle.records.specs.Rows.{pick, sum, how_many, tally}
use Rattle.meaning.specs.File.{readFILE}
use Rattle.meaning.specs.Name.{syllables, record_at, record_count, is_blank, name_count, names_from, listing}
use Rattle.meaning.specs.Store.{named, is_directory, is_open}
use Rattle.meaning.specs.Tables.{Tables, store_of}
use Rattle.meaning.specs.ChannelCalls.{read}
use Rattle.meaning.specs.NameCalls.{ls}
use Rattle.meaning.specs.Result.{done, unless, on_channel, with_syllables, missing}
use Rattle.meaning.specs.Run.{Call, meaning, accepts, result_of}
use Rattle.meaning.specs.declared.Report.TheVariants.{NotAStore, NoSuchCid, NoSuchName, NotDirectory, OutShort}
use Rattle.serving.specs.Shown.{Sized, sized_unless}

read-size : (file : List ℕ) (posn count : ℕ) → length (readFILE file posn count) ≤ count
unfolding readFILE
read-size file posn count = simp (length-take) (omega arith)

pub read_sized : (c count : ℕ) (t : Tables) → Sized 1 count (result_of (Call.Read c count) t)
unfolding result_of meaning read on_channel
read_sized c count t =
    sized_unless 1 count (not (accepts (Call.Read c count) t)) NotAStore _
    (λ ok. sized_unless 1 count (not (is_open (store_of t) c)) NoSuchCid _
    (λ is.
    record {
      n = _;
      one = refl;
      each = omega arith;
      fits = read-size _ _ count;
    }))

-- ---- a listing

name-size : (dir : List ℕ) (i : ℕ) → 16 * i + 16 ≤ length dir → (t : Bool) → length (pick t [] (drop 2 (record_at dir i))) ≡ 14 * tally (not t)
unfolding record_at
name-size dir i h true = refl
name-size dir i h false = simp (length-drop, length-take) (omega arith)

how_many_from : (ℕ → Bool) → ℕ → ℕ → ℕ
how_many_from p i zero = 0
how_many_from p i (suc n) = tally (p i) + how_many_from p (suc i) n

from_last : (p : ℕ → Bool) (i n : ℕ) → how_many_from p i (suc n) ≡ how_many_from p i n + tally (p (i + n))
unfolding how_many_from
from_last p i zero = let e : i + 0 ≡ i = omega arith in rw e (omega arith)
from_last p i (suc n) = let e : suc i + n ≡ i + suc n = omega arith in let f : how_many_from p (suc i) (suc n) ≡ how_many_from p (suc i) n + tally (p (i + suc n)) = rw (← e) (from_last p (suc i) n) in omega (arith, f)

from_all : (p : ℕ → Bool) (n : ℕ) → how_many_from p 0 n ≡ how_many n p
unfolding how_many sum
from_all p zero = unfold how_many_from in refl
from_all p (suc n) = let e : 0 + n ≡ n = omega arith in from_last p 0 n ∙ rw (e, from_all p n)

names-size : (dir : List ℕ) (i n : ℕ) → 16 * (i + n) ≤ length dir → length (names_from dir i n) ≡ 14 * how_many_from (λ j. not (is_blank dir j)) i n
unfolding names_from how_many_from
names-size dir i zero h = refl
names-size dir i (suc n) h =
    let here = name-size dir i (omega arith) (is_blank dir i) in
    let rest = names-size dir (suc i) n (omega arith) in
    length-append (pick (is_blank dir i) [] (drop 2 (record_at dir i))) (names_from dir (suc i) n) ∙ omega (arith, here, rest)

listing-size : (dir : List ℕ) → length (listing dir) ≡ 14 * name_count dir
unfolding listing name_count
listing-size dir =
    names-size dir 0 (record_count dir) (omega arith) ∙ ap (λ (n : ℕ). 14 * n) (from_all (λ j. not (is_blank dir j)) (record_count dir))

pub ls_sized : (name : List ℕ) (size : ℕ) (t : Tables) → Sized 14 size (result_of (Call.Ls name size) t)
unfolding result_of meaning ls with_syllables
ls_sized name size t = sized_unless 14 size (not (accepts (Call.Ls name size) t)) NotAStore _ (λ ok. go (syllables name))
  where
    go : (o : Option (List (List ℕ))) → Sized 14 size (with_syllables o (λ name.
        let f = named (store_of t) name in
        let dir = ((store_of t).file f).bytes in
        unless (missing (store_of t) name) NoSuchName
        (unless (not (is_directory (store_of t) f)) NotDirectory
        (unless (ltb size (14 * name_count dir)) OutShort
        (done (name_count dir ∷ []) (listing dir) [])))))
    go none = tt
    go (some name) =
        let f = named (store_of t) name in
        let dir = ((store_of t).file f).bytes in
        sized_unless 14 size (missing (store_of t) name) NoSuchName _
        (λ m. sized_unless 14 size (not (is_directory (store_of t) f)) NotDirectory _
        (λ d. sized_unless 14 size (ltb size (14 * name_count dir)) OutShort _
        (λ o.
        record {
          n = name_count dir;
          one = refl;
          each = listing-size dir;
          fits = omega (arith, listing-size dir, ltb-false size (14 * name_count dir) o);
        })))
