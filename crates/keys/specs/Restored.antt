use Rattle.std.specs.Prelude.{◌≡◌, ℕ, zero, suc, ◌<◌, Some, Option}
use Rattle.std.proofs.Common.{ap, suc-le-suc, zero-le, arith}
use Rattle.std.proofs.Math.Bridge.{le_prop}
use Rattle.keys.specs.declared.reader.Reader.{Reader}
use Rattle.keys.specs.Readers.{reader_of}

-- a number above 0 gives the reader of that number, whatever shows that it is above 0
pub reader_at : (n : ℕ) (h : 0 < n) → reader_of n ≡ Some (record { number = n; real = h })
reader_at zero h = absurd (omega arith)
reader_at (suc n) h =
    let made : 0 < suc n → Option Reader = λ p. Some (record { number = suc n; real = p }) in
    ap made (le_prop (suc-le-suc zero-le) h)

-- a number that gives a reader is that reader's
pub number_back : (a : Reader) (n : ℕ) → reader_of n ≡ Some a → a.number ≡ n
number_back a zero e = absurd (let z : ◌≡◌ {A = ℕ} 0 1 = cc in omega arith)
number_back a (suc n) e = cc
