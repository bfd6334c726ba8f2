-- Changes that put bytes into files leave a store, and tables, made of bytes.
use Rattle.std.specs.Prelude.{ℕ, zero, suc, ◌+◌, ◌*◌, ◌/◌, ◌%◌, ◌≡◌, ◌≢◌, List, [], ◌∷◌, ◌++◌, Bool, true, false, ◌&&◌, length, get_or, eqb, ltb}
use Rattle.std.proofs.Common.{⊎_elim}
use Rattle.records.specs.Rows.{pick}
use Rattle.records.specs.Tests.{same_or_not}
use Rattle.records.specs.Numbers.{one}
use Rattle.records.specs.ListLaws.{length-list_of, get_or-list_of}
use Rattle.meaning.specs.Store.{Store, Change, file, channel, prepared, after, after_all, is_orphan, let_go, no_file}
use Rattle.meaning.specs.Result.{Result}
use Rattle.meaning.specs.Tables.{Tables, owner, place, put, put_all, laid}
use Rattle.trees.specs.AfterFile.{file_changed, file-other}
use Rattle.source.specs.Files.{BYTE}
use Rattle.source.specs.ByteRows.{Bytes, of_seq, no_bytes}
use Rattle.source.specs.Accepted.{Accepted}

-- ---- changes

abbrev pub FileBytes : Change → Type 0
FileBytes (file f x) = Bytes x.bytes
FileBytes (channel c y) = Unit {0}
FileBytes prepared = Unit {0}

abbrev pub ChangeBytes : List Change → Type 0
ChangeBytes [] = Unit {0}
ChangeBytes (change ∷ changes) = FileBytes change × ChangeBytes changes

-- what a call gives: bytes for the lent buffer, and in every file
abbrev pub Gives : Result → Type 0
Gives r = Accepted r (λ numbers out changes. Bytes out × ChangeBytes changes)

pub both_changes : (a b : List Change) → ChangeBytes a → ChangeBytes b → ChangeBytes (a ++ b)
both_changes [] b h k = k
both_changes (change ∷ a) b h k = (h.0, both_changes a b h.1 k)

-- a store whose files are made of bytes
pub record ByteStore (s : Store) : Type 0 where
  pub files : (f : ℕ) → Bytes (s.file f).bytes

after-bytes : (s : Store) (change : Change) → FileBytes change → ByteStore s → ByteStore (after s change)
unfolding after
after-bytes s (file f x) h all =
    record {
      files = λ g.
          ⊎_elim
          (λ (e : g ≡ f). rw (e, file_changed s f x) h)
          (λ (o : g ≢ f). rw (file-other s f x g o) (all.files g))
          (same_or_not g f);
    }
after-bytes s (channel c y) h all = record { files = all.files }
after-bytes s prepared h all = record { files = λ g. go (eqb g 1) }
  where
    go : (t : Bool) → Bytes (pick t (record { kind = 2; depth = 0; bytes = [] }) no_file).bytes
    go true = no_bytes
    go false = no_bytes

pub all_after : (s : Store) (changes : List Change) → ChangeBytes changes → ByteStore s → ByteStore (after_all s changes)
unfolding after_all
all_after s [] h all = all
all_after s (change ∷ changes) h all = all_after (after s change) changes h.1 (after-bytes s change h.0 all)

pub let_go_bytes : (s : Store) (f : ℕ) → ChangeBytes (let_go s f)
unfolding let_go
let_go_bytes s f = go (is_orphan s f)
  where
    go : (t : Bool) → ChangeBytes (pick t (file f no_file ∷ []) [])
    go true = (no_bytes, tt)
    go false = tt

-- ---- made in the tables

laid-bytes : (blocks records : List ℕ) (f : ℕ) (bytes : List ℕ) → Bytes blocks → Bytes bytes → Bytes (laid blocks records f bytes)
unfolding laid one
laid-bytes blocks records f bytes all h =
    of_seq (laid blocks records f bytes) (λ i below. rw (get_or-list_of {A = ℕ} (length blocks) (λ k. byte k) i 0 (rw length-list_of at below)) (go (test i) (at i) i))
  where
    test : ℕ → Bool
    test k = eqb (owner records (k / 512)) f && ltb (512 * place records (k / 512) + k % 512) (length bytes)

    at : ℕ → ℕ
    at k = 512 * place records (k / 512) + k % 512

    byte : ℕ → ℕ
    byte k = pick (test k) (get_or bytes (at k) 0) (get_or blocks k 0)

    go : (u : Bool) (j k : ℕ) → BYTE (pick u (get_or bytes j 0) (get_or blocks k 0)) ≡ true
    go true j k = h.at j
    go false j k = all.at k

put-bytes : (t : Tables) (change : Change) → FileBytes change → Bytes t.blocks → Bytes (put t change).blocks
unfolding put
put-bytes t (file zero x) h all = all
put-bytes t (file (suc r) x) h all = laid-bytes t.blocks _ (suc r) x.bytes all h
put-bytes t (channel c y) h all = all
put-bytes t prepared h all = all

pub put_all_bytes : (t : Tables) (changes : List Change) → ChangeBytes changes → Bytes t.blocks → Bytes (put_all t changes).blocks
unfolding put_all
put_all_bytes t [] h all = all
put_all_bytes t (change ∷ changes) h all = put_all_bytes (put t change) changes h.1 (put-bytes t change h.0 all)
