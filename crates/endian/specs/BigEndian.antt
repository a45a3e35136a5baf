-- Big-endian numbers in a list of bytes, of any width (manual, 2.1). A byte past the end reads as 0 and is not written.
use Rattle.std.specs.Prelude.{ℕ, zero, suc, ◌+◌, ◌*◌, ◌/◌, ◌%◌, List, get_or, set}

-- the number in the w bytes from an offset: each byte further on counts 256 times less
unfoldable pub read_at : ℕ → List ℕ → ℕ → ℕ
read_at zero s at = 0
read_at (suc w) s at = read_at w s at * 256 + get_or s (at + w) 0

-- the list with the low w bytes of a number from an offset: the lowest in the last, and the rest before it
unfoldable pub write_at : ℕ → List ℕ → ℕ → ℕ → List ℕ
write_at zero s at v = s
write_at (suc w) s at v = write_at w (set s (at + w) (v % 256)) at (v / 256)
