-- A record that was written, read back: the same record gives what was written, another gives what it gave before.
use Rattle.std.specs.Prelude.{ℕ, ◌+◌, ◌*◌, ◌<◌, ◌≡◌, ◌≢◌, List, [], ◌∷◌, ◌++◌, true, ◌&&◌, length, eqb}
use Rattle.std.proofs.Math.Path.{refl}
use Rattle.std.proofs.Common.{◌∙◌, arith}
use Rattle.records.specs.Rows.{every}
use Rattle.records.specs.Numbers.{one, two, two_bytes, four_bytes, zeros, with_record}
use Rattle.records.specs.NumberLaws.{length-two_bytes, two_of, four_of, two-first, two-second, four-second}
use Rattle.records.specs.RecordLaws.{one_written, two-written, four-written, zeros-written, one_kept, two_kept, four_kept, zeros_kept}
use Rattle.meaning.specs.Tables.{block_count, owner, place, block_record, holds, file_count, kind_at, depth_at, length_at, file_record, channel_count, channel_file_at, position_at, channel_record}

-- ---- block records

pub length-block_record : (f i : ℕ) → length (block_record f i) ≡ 4
unfolding block_record two_bytes
length-block_record f i = refl

module _ (f i : ℕ) where
  in_first : f < 65536 → two (block_record f i) 0 ≡ f
  unfolding block_record
  in_first h = two-first (two_bytes f) (two_bytes i) 0 (omega (arith, length-two_bytes f)) ∙ two_of f h

  in_second : i < 65536 → two (block_record f i) 2 ≡ i
  unfolding block_record
  in_second h = two-second (two_bytes f) (two_bytes i) 0 2 (omega (arith, length-two_bytes f)) ∙ two_of i h

module _ (records : List ℕ) (b f i : ℕ) where
  whole_block : length (block_record f i) ≡ 4
  whole_block = length-block_record f i

  module _ (inside : b < block_count records) where
    pub owner-written : f < 65536 → owner (with_record 4 records b (block_record f i)) b ≡ f
    unfolding owner
    owner-written h =
        two-written 4 records b (block_record f i) (omega arith) (omega (arith, whole_block)) 0 (4 * b) (omega arith) (omega (arith, whole_block)) ∙ in_first f i h

    pub place-written : i < 65536 → place (with_record 4 records b (block_record f i)) b ≡ i
    unfolding place
    place-written h =
        two-written 4 records b (block_record f i) (omega arith) (omega (arith, whole_block)) 2 (4 * b + 2) (omega arith) (omega (arith, whole_block)) ∙ in_second f i h

    pub holds-written : f < 65536 → i < 65536 → (g j : ℕ) → holds (with_record 4 records b (block_record f i)) g j b ≡ eqb f g && eqb i j
    unfolding holds
    holds-written h k g j = rw (owner-written h, place-written k)

  module _ (d : ℕ) (other : d ≢ b) where
    pub owner_kept : owner (with_record 4 records b (block_record f i)) d ≡ owner records d
    unfolding owner
    owner_kept = two_kept 4 records b (block_record f i) (omega (arith, whole_block)) d other 0 (4 * d) (omega arith) (omega arith)

    pub place_kept : place (with_record 4 records b (block_record f i)) d ≡ place records d
    unfolding place
    place_kept = two_kept 4 records b (block_record f i) (omega (arith, whole_block)) d other 2 (4 * d + 2) (omega arith) (omega arith)

    pub holds_kept : (g j : ℕ) → holds (with_record 4 records b (block_record f i)) g j d ≡ holds records g j d
    unfolding holds
    holds_kept g j = rw (owner_kept, place_kept)

-- ---- file records

pub length-file_record : (kind depth size : ℕ) → length (file_record kind depth size) ≡ 8
unfolding file_record four_bytes two_bytes
length-file_record kind depth size = refl

module _ (records : List ℕ) (r kind depth size : ℕ) where
  whole-file : length (file_record kind depth size) ≡ 8
  whole-file = length-file_record kind depth size

  module _ (inside : r < file_count records) where
    pub kind-written : kind_at (with_record 8 records r (file_record kind depth size)) r ≡ kind
    unfolding kind_at file_record one
    kind-written =
        one_written 8 records r (file_record kind depth size) (omega arith) (omega (arith, whole-file)) 0 (8 * r) (omega arith) (omega (arith, whole-file))

    pub depth-written : depth_at (with_record 8 records r (file_record kind depth size)) r ≡ depth
    unfolding depth_at file_record one
    depth-written =
        one_written 8 records r (file_record kind depth size) (omega arith) (omega (arith, whole-file)) 1 (8 * r + 1) refl (omega (arith, whole-file))

    pub length-written : size < 4294967296 → length_at (with_record 8 records r (file_record kind depth size)) r ≡ size
    unfolding length_at file_record
    length-written h =
        four-written 8 records r (file_record kind depth size) (omega arith) (omega (arith, whole-file)) 4 (8 * r + 4) refl (omega (arith, whole-file))
        ∙ four-second (kind ∷ depth ∷ 0 ∷ 0 ∷ []) (four_bytes size) 0 4 refl
        ∙ four_of size h

    pub file-zeros-written : zeros (with_record 8 records r (file_record kind depth size)) (8 * r + 2) 2 ≡ true
    unfolding file_record zeros every one
    file-zeros-written =
        zeros-written 8 records r (file_record kind depth size) (omega arith) (omega (arith, whole-file)) 2 (8 * r + 2) 2 refl (omega (arith, whole-file))

  module _ (q : ℕ) (other : q ≢ r) where
    pub kind_kept : kind_at (with_record 8 records r (file_record kind depth size)) q ≡ kind_at records q
    unfolding kind_at
    kind_kept = one_kept 8 records r (file_record kind depth size) (omega (arith, whole-file)) q other 0 (8 * q) (omega arith) (omega arith)

    pub depth_kept : depth_at (with_record 8 records r (file_record kind depth size)) q ≡ depth_at records q
    unfolding depth_at
    depth_kept = one_kept 8 records r (file_record kind depth size) (omega (arith, whole-file)) q other 1 (8 * q + 1) refl (omega arith)

    pub length_kept : length_at (with_record 8 records r (file_record kind depth size)) q ≡ length_at records q
    unfolding length_at
    length_kept = four_kept 8 records r (file_record kind depth size) (omega (arith, whole-file)) q other 4 (8 * q + 4) refl (omega arith)

    pub file-zeros_kept : zeros (with_record 8 records r (file_record kind depth size)) (8 * q + 2) 2 ≡ zeros records (8 * q + 2) 2
    file-zeros_kept = zeros_kept 8 records r (file_record kind depth size) (omega (arith, whole-file)) q other 2 (8 * q + 2) 2 refl (omega arith)

-- ---- channel records

pub length-channel_record : (f posn : ℕ) → length (channel_record f posn) ≡ 8
unfolding channel_record four_bytes two_bytes
length-channel_record f posn = refl

module _ (records : List ℕ) (c f posn : ℕ) where
  whole_channel : length (channel_record f posn) ≡ 8
  whole_channel = length-channel_record f posn

  module _ (inside : c < channel_count records) where
    pub file-written : f < 65536 → channel_file_at (with_record 8 records c (channel_record f posn)) c ≡ f
    unfolding channel_file_at channel_record
    file-written h =
        two-written 8 records c (channel_record f posn) (omega arith) (omega (arith, whole_channel)) 0 (8 * c) (omega arith) (omega (arith, whole_channel))
        ∙ two-first (two_bytes f) (0 ∷ 0 ∷ four_bytes posn) 0 (omega (arith, length-two_bytes f))
        ∙ two_of f h

    pub position_written : posn < 4294967296 → position_at (with_record 8 records c (channel_record f posn)) c ≡ posn
    unfolding position_at channel_record two_bytes
    position_written h =
        four-written 8 records c (channel_record f posn) (omega arith) (omega (arith, whole_channel)) 4 (8 * c + 4) refl (omega (arith, whole_channel))
        ∙ four-second (two_bytes f ++ 0 ∷ 0 ∷ []) (four_bytes posn) 0 4 refl
        ∙ four_of posn h

    pub channel_zeros-written : zeros (with_record 8 records c (channel_record f posn)) (8 * c + 2) 2 ≡ true
    unfolding channel_record two_bytes zeros every one
    channel_zeros-written =
        zeros-written 8 records c (channel_record f posn) (omega arith) (omega (arith, whole_channel)) 2 (8 * c + 2) 2 refl (omega (arith, whole_channel))

  module _ (d : ℕ) (other : d ≢ c) where
    pub file_kept : channel_file_at (with_record 8 records c (channel_record f posn)) d ≡ channel_file_at records d
    unfolding channel_file_at
    file_kept = two_kept 8 records c (channel_record f posn) (omega (arith, whole_channel)) d other 0 (8 * d) (omega arith) (omega arith)

    pub position_kept : position_at (with_record 8 records c (channel_record f posn)) d ≡ position_at records d
    unfolding position_at
    position_kept = four_kept 8 records c (channel_record f posn) (omega (arith, whole_channel)) d other 4 (8 * d + 4) refl (omega arith)

    pub channel_zeros_kept : zeros (with_record 8 records c (channel_record f posn)) (8 * d + 2) 2 ≡ zeros records (8 * d + 2) 2
    channel_zeros_kept = zeros_kept 8 records c (channel_record f posn) (omega (arith, whole_channel)) d other 2 (8 * d + 2) 2 refl (omega arith)
