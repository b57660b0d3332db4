use Rattle.std.specs.Prelude.{ℕ, ◌+◌, ◌*◌, ◌%◌, ◌^◌}

-- the number after another in the sequence of pseudo-random numbers
abbrev pub next_number : ℕ → ℕ
next_number n = (n * 1664525 + 1013904223) % 2 ^ 32
