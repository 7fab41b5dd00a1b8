-- CRC-32C (Castagnoli): of each byte what eight steps of the reflected polynomial make of it.
use Rattle.std.specs.Prelude.{ℕ, zero, suc, ◌+◌, ◌%◌, ◌/◌, List, [], ◌∷◌, bit_xor, if◌then◌else◌, ◌==◌}

-- one step: the polynomial is added where a bit goes out
unfoldable pub crc_step : ℕ → ℕ
crc_step crc = if crc % 2 == 1 then bit_xor 0x82F63B78 (crc / 2) else crc / 2

-- so many of them
abbrev pub crc_steps : ℕ → ℕ → ℕ
crc_steps zero crc = crc
crc_steps (suc steps) crc = crc_steps steps (crc_step crc)

-- the row of the table for a byte
unfoldable pub crc_row : ℕ → ℕ
crc_row byte = crc_steps 8 byte

-- a byte more
abbrev pub crc_next : ℕ → ℕ → ℕ
crc_next crc byte = bit_xor (crc_row (bit_xor crc byte % 256)) (crc / 256)

-- these bytes behind others, which have this number; both before the last step
abbrev pub crc_more : ℕ → List ℕ → ℕ
crc_more crc [] = crc
crc_more crc (byte ∷ bytes) = crc_more (crc_next crc byte) bytes

-- no bytes, before the last step
abbrev pub crc_start : ℕ
crc_start = 0xFFFFFFFF

-- the CRC-32C of bytes
abbrev pub crc_of : List ℕ → ℕ
crc_of bytes = bit_xor (crc_more crc_start bytes) 0xFFFFFFFF

-- the rows of so many bytes, from one on
abbrev pub crc_rows : ℕ → ℕ → List ℕ
crc_rows zero byte = []
crc_rows (suc count) byte = crc_row byte ∷ crc_rows count (byte + 1)
