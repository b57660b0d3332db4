use Rattle.std.specs.Prelude.{ℕ, ◌*◌, Bool, if◌then◌else◌, ◌&&◌, Ok, Err, Result, nat_le, nat_lt}
use Rattle.keys.specs.declared.refusal.Refusal.{Refusal}
use Rattle.keys.specs.declared.refusal.Refusal.TheVariants.{ImpossibleShare}

-- whether p/q is a share: 1 ≤ p ≤ q ≤ 1,000
abbrev pub is_share : ℕ → ℕ → Bool
is_share p q = nat_le 1 p && (nat_le p q && nat_le q 1000)

-- what is told of p/q: its two numbers where it is a share, otherwise the refusal
abbrev pub share_of : ℕ → ℕ → Result (ℕ × ℕ) Refusal
share_of p q = if is_share p q then Ok (p, q) else Err ImpossibleShare

-- whether a part is strictly more than p/q of the whole
abbrev pub passes : ℕ → ℕ → ℕ → ℕ → Bool
passes p q part whole = nat_lt (p * whole) (part * q)
