use Rattle.std.specs.Prelude.{ℕ, min}

-- a sum as far as 32 bits go; a table that vouches for a list never gets there
abbrev pub capped : ℕ → ℕ
capped n = min n 4294967295
