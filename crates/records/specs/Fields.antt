use Rattle.std.specs.Prelude.{ℕ, List, take, drop}
use Rattle.std.specs.Int.Digits.{number_from_digits}

-- the number in n bytes from a place on, big-endian
abbrev pub field : ℕ → ℕ → List ℕ → ℕ
field at n bytes = number_from_digits 256 (take n (drop at bytes))
