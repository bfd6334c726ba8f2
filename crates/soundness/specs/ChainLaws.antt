-- Records of one name belong to one chain, and a chain is looked through from its last record down.
use Rattle.std.specs.Prelude.{ℕ, ◌+◌, ◌-◌, ◌*◌, ◌≤◌, ◌<◌, ◌≡◌, ◌≢◌, List, true, length, get_or, set, replicate}
use Rattle.std.proofs.Common.{sym, ap, ◌∙◌, ⊎_elim, length-set, get_or-set_same, get_or-set_other}
use Rattle.std.proofs.Math.Bool.{not}
use native.Mathlib.Omega.{arith}
use Rattle.std.proofs.lemmas.List.{length-replicate, get_or-replicate}
use Rattle.records.specs.Rows.{every}
use Rattle.records.specs.RowLaws.{every_all, all_every}
use Rattle.records.specs.NumberLaws.{zeros_zero}
use Rattle.records.specs.Numbers.{one, zeros}
use Rattle.records.specs.Tests.{and_right, lt_or_ge, same_or_not, not_so}
use Rattle.meaning.specs.Name.{entry_in, name_end, is_blank, is_written, is_syllable, same}
use Rattle.meaning.specs.Store.{Store}
use Rattle.meaning.specs.Sound.{record_sound}
use Rattle.names.specs.RecordNames.{record_from, record_at_lem, entry-at}
use Rattle.soundness.specs.Well.{RecordForm, as_blank, as_naming}
use Rattle.soundness.specs.FormLaws.{record_form}
use Rattle.soundness.specs.Rules.{records_at}
use Rattle.soundness.specs.Slots.{slot, Within}
use Rattle.soundness.specs.RecordRules.{Filled, SameWords, name_byte, same_words}
use Rattle.soundness.specs.NewNames.{other}
use Rattle.soundness.specs.Chains.{Padded, chain_from, chain_at, Last, Lasts, Links}

-- ---- sound records have zeros behind their names

filled : (s : Store) (blocks : List ℕ) (k : ℕ) → 16 * k + 16 ≤ length blocks → record_sound s blocks k ≡ true → Filled blocks (16 * k)
unfolding is_blank is_written one
filled s blocks k fits is = record { zero = λ j l h. go j l h (record_form s blocks k is) }
  where
    r : List ℕ
    r = record_from blocks (16 * k)

    go : (j : ℕ) → name_end r ≤ j → j < 14 → RecordForm s blocks k → one blocks (16 * k + 2 + j) ≡ 0
    go j l h (as_blank b) =
        let e : 16 * k + (2 + j) ≡ 16 * k + 2 + j = omega arith in
        rw e at (zeros_zero blocks (16 * k) 16 b (2 + j) (omega arith))
    go j l h (as_naming n) =
        let is : is_written r ≡ true = rw (record_at_lem blocks k) at n.written in
        let all : zeros r (2 + name_end r) (14 - name_end r) ≡ true = and_right (is_syllable (entry_in r).name) (zeros r (2 + name_end r) (14 - name_end r)) is in
        let e : 2 + name_end r + (j - name_end r) ≡ 2 + j = omega arith in
        sym (name_byte blocks (16 * k) fits j h) ∙ rw e at (zeros_zero r (2 + name_end r) (14 - name_end r) all (j - name_end r) (omega arith))

pub padded-sound : (s : Store) (blocks starts : List ℕ) (n : ℕ) → Within blocks starts n → records_at s blocks starts n ≡ true → Padded blocks starts n
unfolding records_at
padded-sound s blocks starts n w is =
    record {
      each = λ i h. filled s blocks (slot starts i) (w.inside i h) (every_all n (λ i. record_sound s blocks (slot starts i)) is i h);
    }

pub padded_less : (blocks starts : List ℕ) (n m : ℕ) → m ≤ n → Padded blocks starts n → Padded blocks starts m
padded_less blocks starts n m l p = record { each = λ i (h : i < m). p.each i (omega arith) }

module _ (blocks starts : List ℕ) (n : ℕ) (padded : Padded blocks starts n) (i : ℕ) (h : i < n) where
  pub slot-filled : (at : ℕ) → at ≡ 16 * slot starts i → Filled blocks at
  slot-filled at e = rw e (padded.each i h)

-- ---- records of one name belong to one chain

chain_same : (table : List ℕ) (at bt : ℕ) → SameWords table at bt → chain_from table at ≡ chain_from table bt
unfolding chain_from
chain_same table at bt w = rw (w.first, w.second, w.third, w.last)

module _ (blocks starts : List ℕ) (n : ℕ) (w : Within blocks starts n) (padded : Padded blocks starts n) where
  other_chain : (j i : ℕ) → j < n → i < n → chain_at blocks starts j ≢ chain_at blocks starts i → other blocks starts i j ≡ true
  unfolding chain_at other
  other_chain j i h l d =
      let a = 16 * slot starts j in
      let b = 16 * slot starts i in
      rw (entry-at blocks (slot starts j), entry-at blocks (slot starts i))
      (ap not (not_so (same (entry_in (record_from blocks a)).name (entry_in (record_from blocks b)).name)
      (λ e. d (chain_same blocks a b (same_words blocks a b (w.inside j h) (w.inside i l) (padded.each j h) (padded.each i l) e)))))

-- ---- a chain looked through

-- the records from x on before record i have other names than it, and x, if not 0, is one more than a record of its chain
pub record Looked (blocks starts : List ℕ) (i x : ℕ) : Type 0 where
  pub low : x ≤ i
  pub there : (j : ℕ) → x ≡ j + 1 → chain_at blocks starts j ≡ chain_at blocks starts i
  pub others : (j : ℕ) → x ≤ j → j < i → other blocks starts i j ≡ true

module _ (blocks starts : List ℕ) (i : ℕ) (w : Within blocks starts (i + 1)) (padded : Padded blocks starts (i + 1)) where
  pub looked_start : (x : ℕ) → Last blocks starts (chain_at blocks starts i) i x → Looked blocks starts i x
  looked_start x last =
      record {
        low = last.low;
        there = last.there;
        others = λ j l (h : j < i). other_chain blocks starts (i + 1) w padded j i (omega arith) (omega arith) (last.none j l h);
      }

  pub looked_next : (links : List ℕ) → Links blocks starts i links → (x j : ℕ) → x ≡ j + 1 → Looked blocks starts i x →
      other blocks starts i j ≡ true → Looked blocks starts i (get_or links j 0)
  looked_next links linked x j e looked differ =
      let before : j < i = omega (arith, looked.low) in
      let last : Last blocks starts (chain_at blocks starts j) j (get_or links j 0) = linked.each j before in
      let chain : chain_at blocks starts j ≡ chain_at blocks starts i = looked.there j e in
      record {
        low = omega (arith, last.low);
        there = λ k f. last.there k f ∙ chain;
        others = λ k l (h : k < i). ⊎_elim
            (λ (b : k < j).
            other_chain blocks starts (i + 1) w padded k i (omega arith) (omega arith) (λ c. last.none k l b (c ∙ sym chain)))
            (λ (b : j ≤ k). ⊎_elim
            (λ (s : k ≡ j). rw s differ)
            (λ (d : k ≢ j). looked.others k (omega arith) h)
            (same_or_not k j))
            (lt_or_ge k j);
      }

  pub looked_all : (x : ℕ) → x ≤ 0 → Looked blocks starts i x → every i (other blocks starts i) ≡ true
  looked_all x z looked = all_every i (other blocks starts i) (λ j (h : j < i). looked.others j (omega arith) h)

-- ---- one record more

module _ (blocks starts : List ℕ) where
  pub chain_below : (table : List ℕ) (at : ℕ) → chain_from table at < 1024
  unfolding chain_from
  chain_below table at = omega arith

  pub lasts_start : Lasts blocks starts 0 (replicate 1024 0)
  lasts_start =
      record {
        size = length-replicate {A = ℕ} 1024 0;
        each = λ h l. rw (get_or-replicate {A = ℕ} 1024 h 0 0 l) (record { low = omega arith; there = λ j e. absurd (omega arith); none = λ j a b. absurd (omega arith) });
      }

  pub links_start : Links blocks starts 0 (replicate 2048 0)
  links_start = record { size = length-replicate {A = ℕ} 2048 0; each = λ k h. absurd (omega arith) }

  module _ (i h : ℕ) (chain : h ≡ chain_at blocks starts i) (low : h < 1024) (lasts : List ℕ) (passed : Lasts blocks starts i lasts) where
    pub last_of : Last blocks starts (chain_at blocks starts i) i (get_or lasts h 0)
    last_of = rw (← chain) (passed.each h low)

    pub lasts_next : Lasts blocks starts (i + 1) (set lasts h (i + 1))
    lasts_next =
        record {
          size = length-set lasts h (i + 1) ∙ passed.size;
          each = λ g (l : g < 1024). ⊎_elim
              (λ (e : g ≡ h).
              let now : get_or (set lasts h (i + 1)) g 0 ≡ i + 1 = rw e (get_or-set_same lasts h (i + 1) 0 (omega (arith, passed.size))) in
              rw now (record {
                low = omega arith;
                there = λ j f. let s : j ≡ i = omega arith in rw (s, e) (sym chain);
                none = λ j a b. absurd (omega arith);
              }))
              (λ (d : g ≢ h).
              let last : Last blocks starts g i (get_or lasts g 0) = passed.each g l in
              rw (get_or-set_other lasts h g (i + 1) 0 d) (record {
                low = omega (arith, last.low);
                there = last.there;
                none = λ j a (b : j < i + 1). ⊎_elim
                    (λ (s : j ≡ i). rw s (λ c. d (sym c ∙ sym chain)))
                    (λ (o : j ≢ i). last.none j a (omega arith))
                    (same_or_not j i);
              }))
              (same_or_not g h);
        }

    pub links_next : i < 2048 → (links : List ℕ) → Links blocks starts i links → Links blocks starts (i + 1) (set links i (get_or lasts h 0))
    links_next few links linked =
        record {
          size = length-set links i (get_or lasts h 0) ∙ linked.size;
          each = λ k (l : k < i + 1). ⊎_elim
              (λ (e : k ≡ i). rw (e, get_or-set_same links i (get_or lasts h 0) 0 (omega (arith, linked.size))) last_of)
              (λ (d : k ≢ i). rw (get_or-set_other links i k (get_or lasts h 0) 0 d) (linked.each k (omega arith)))
              (same_or_not k i);
        }
