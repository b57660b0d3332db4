use Rattle.std.specs.Prelude.{ℕ, zero, suc, ◌-◌, ◌/◌, ◌%◌, ◌^◌, Bool, if◌then◌else◌, ◌&&◌, List, [], ◌∷◌, ◌++◌, take, drop, Ok, Err, sum, Result, ◌==◌}
use Rattle.std.specs.Int.Digits.{number_from_digits}
use Rattle.keys.specs.declared.refusal.Refusal.{Refusal}
use Rattle.keys.specs.declared.refusal.Refusal.TheVariants.{MisreadBadge}
use Rattle.keys.specs.declared.badge.Badge.{Badge}

-- the n lowest bits of a number, from the highest of them down
unfoldable pub bits : ℕ → ℕ → List ℕ
bits zero f = []
bits (suc n) f = f / 2 ^ n % 2 ∷ bits n f

abbrev pub even : ℕ → Bool
even n = n % 2 == 0

abbrev pub odd : ℕ → Bool
odd n = n % 2 == 1

-- a frame is 26 bits with zeros above; how many of some bits are ones is their sum
abbrev pub zeros_above : ℕ → Bool
zeros_above f = f / 2 ^ 26 == 0

abbrev pub first_thirteen : ℕ → List ℕ
first_thirteen f = take 13 (bits 26 f)

abbrev pub last_thirteen : ℕ → List ℕ
last_thirteen f = drop 13 (bits 26 f)

-- zeros above, an even number of ones in the first thirteen bits, and an odd one in the last thirteen
abbrev pub well_formed : ℕ → Bool
well_formed f = zeros_above f && (even (sum (first_thirteen f)) && odd (sum (last_thirteen f)))

-- after the first bit, eight bits are the site code, and the sixteen after those the card number
abbrev pub badge_in : ℕ → Badge
badge_in f = record { site = number_from_digits 2 (take 8 (drop 1 (bits 26 f))); card = number_from_digits 2 (take 16 (drop 9 (bits 26 f))) }

-- what is read of a frame: the badge in it where it is well formed, otherwise the refusal
abbrev pub frame_read : ℕ → Result Badge Refusal
frame_read f = if well_formed f then Ok (badge_in f) else Err MisreadBadge

-- the bit that makes the number of ones even, or odd
abbrev pub even_bit : List ℕ → ℕ
even_bit bs = sum bs % 2

abbrev pub odd_bit : List ℕ → ℕ
odd_bit bs = 1 - sum bs % 2

-- the 24 bits of a badge, between a first bit that evens the twelve next to it and a last bit that odds the other twelve
abbrev pub badge_bits : Badge → List ℕ
badge_bits b = bits 8 b.site ++ bits 16 b.card

abbrev pub frame_of : Badge → ℕ
frame_of b =
    let bs = badge_bits b in number_from_digits 2 (even_bit (take 12 bs) ∷ (bs ++ (odd_bit (drop 12 bs) ∷ [])))
