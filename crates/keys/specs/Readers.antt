use Rattle.std.specs.Prelude.{ℕ, zero, suc, Some, None, Option}
use Rattle.std.proofs.Common.{suc-le-suc, zero-le}
use Rattle.keys.specs.declared.reader.Reader.{Reader}

-- the reader of a number: none of 0, and one of each other number
abbrev pub reader_of : ℕ → Option Reader
reader_of zero = None
reader_of (suc n) = Some (record { number = suc n; real = suc-le-suc zero-le })
