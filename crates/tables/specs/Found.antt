-- What a search found, as its code answers and as a caller reads the answer.
use Rattle.std.specs.Prelude.{ℕ, ◌+◌, ◌≤◌, ◌<◌, ◌≡◌, refl, Option, Some, None}
use Rattle.std.proofs.Common.{ap, ⊎_elim, arith}
use borrow.Author.Tests.{lt-ltb, le-ltb}
use Rattle.records.specs.Rows.{found_below}
use Rattle.records.specs.Tests.{lt_or_ge}
use Rattle.meaning.specs.declared.FileNo.{FileNo}
use Rattle.meaning.specs.declared.ChannelNo.{ChannelNo}
use Rattle.tables.specs.Searches.{file_found, channel_found}

-- ---- an index

module _ (n i : ℕ) where
  index_found : i < n → Some i ≡ found_below n i
  unfolding found_below
  index_found h = rw (lt-ltb i n h)

  index_nowhere : n ≤ i → None ≡ found_below n i
  unfolding found_below
  index_nowhere h = rw (le-ltb i n h)

  module _ (x : Option ℕ) (is : x ≡ found_below n i) where
    pub found_index : (k : ℕ) → x ≡ Some k → (i < n) × (k ≡ i)
    found_index k e =
        ⊎_elim
        (λ (h : i < n). (h, cc (is, e, index_found h)))
        (λ (h : n ≤ i). let z : ◌≡◌ {A = ℕ} 0 1 = cc (is, e, index_nowhere h) in absurd (omega arith))
        (lt_or_ge i n)

    pub no_index : x ≡ None → n ≤ i
    no_index e =
        ⊎_elim
        (λ (h : i < n). let z : ◌≡◌ {A = ℕ} 0 1 = cc (is, e, index_found h) in absurd (omega arith))
        (λ (h : n ≤ i). h)
        (lt_or_ge i n)

-- ---- a file

module _ (count r : ℕ) where
  pub file-found : (i : ℕ) → i ≡ r → i < count → Some (record { 0 = i + 1 }) ≡ file_found count r
  unfolding file_found
  file-found i e h = rw (← e, lt-ltb i count h)

  pub file-nowhere : count ≤ r → None ≡ file_found count r
  unfolding file_found
  file-nowhere h = rw (le-ltb r count h)

  module _ (x : Option FileNo) (is : x ≡ file_found count r) where
    pub found-file : (f : FileNo) → x ≡ Some f → (r < count) × (f.0 ≡ r + 1)
    found-file f e =
        ⊎_elim
        (λ (h : r < count). (h, let same : f ≡ record { 0 = r + 1 } = cc (is, e, file-found r refl h) in ap (λ (n : FileNo). n.0) same))
        (λ (h : count ≤ r). let z : ◌≡◌ {A = ℕ} 0 1 = cc (is, e, file-nowhere h) in absurd (omega arith))
        (lt_or_ge r count)

    pub no_file_lem : x ≡ None → count ≤ r
    no_file_lem e =
        ⊎_elim
        (λ (h : r < count). let z : ◌≡◌ {A = ℕ} 0 1 = cc (is, e, file-found r refl h) in absurd (omega arith))
        (λ (h : count ≤ r). h)
        (lt_or_ge r count)

-- ---- a channel

module _ (count c : ℕ) where
  pub channel_found_lem : (i : ℕ) → i ≡ c → i < count → Some (record { 0 = i }) ≡ channel_found count c
  unfolding channel_found
  channel_found_lem i e h = rw (← e, lt-ltb i count h)

  pub channel_nowhere : count ≤ c → None ≡ channel_found count c
  unfolding channel_found
  channel_nowhere h = rw (le-ltb c count h)

  module _ (x : Option ChannelNo) (is : x ≡ channel_found count c) where
    pub found_channel : (k : ChannelNo) → x ≡ Some k → (c < count) × (k.0 ≡ c)
    found_channel k e =
        ⊎_elim
        (λ (h : c < count). (h, let same : k ≡ record { 0 = c } = cc (is, e, channel_found_lem c refl h) in ap (λ (n : ChannelNo). n.0) same))
        (λ (h : count ≤ c). let z : ◌≡◌ {A = ℕ} 0 1 = cc (is, e, channel_nowhere h) in absurd (omega arith))
        (lt_or_ge c count)

    pub no_channel_lem : x ≡ None → count ≤ c
    no_channel_lem e =
        ⊎_elim
        (λ (h : c < count). let z : ◌≡◌ {A = ℕ} 0 1 = cc (is, e, channel_found_lem c refl h) in absurd (omega arith))
        (λ (h : count ≤ c). h)
        (lt_or_ge c count)
