-- A file is a row of bytes (the source, 4.3.1 and 4.3.2).
use Rattle.std.specs.Prelude.{ℕ, ◌+◌, ◌/◌, List, ◌++◌, length, take, drop, replicate}

-- readFILE: the bytes after the first `offset`, no more than `count` of them
unfoldable pub readFILE : List ℕ → ℕ → ℕ → List ℕ
readFILE file offset count = take count (drop offset file)

-- the source's zero: a row of n zero bytes
abbrev pub zero_bytes : ℕ → List ℕ
zero_bytes n = replicate n 0

-- the source's overriding: where both have a byte, the upper one's
abbrev pub over : List ℕ → List ℕ → List ℕ
over lower upper = upper ++ drop (length upper) lower

-- the same with the upper one shifted by `offset`, which the lower one reaches
abbrev pub over_from : ℕ → List ℕ → List ℕ → List ℕ
over_from offset lower upper = take offset lower ++ over (drop offset lower) upper

-- writeFILE: zeros up to the offset, overlaid by the file, overlaid by the data shifted to the offset
unfoldable pub writeFILE : List ℕ → ℕ → List ℕ → List ℕ
writeFILE file offset bytes = over_from offset (over (zero_bytes offset) file) bytes

-- how many blocks of 512 bytes hold n bytes: n / 512, rounded up
abbrev pub needed : ℕ → ℕ
needed n = (n + 511) / 512

-- no file and no directory is longer
abbrev pub longest : ℕ
longest = 32768
