-- what the shifts and masks of the code compute
use Rattle.std.proofs.Common.{◌≡◌, ℕ, ◌+◌, ◌*◌, ◌/◌, ◌%◌, ◌<◌, sum, sym, refl, ap, ◌∙◌, mod-eq_of_lt, arith}
use lib.Bits.{bit_and, bit_or}
use lib.Count.{ones}
use Rattle.std.proofs.lemmas.Nat.{and_mask, or_shifted}
use Rattle.keys.specs.declared.badge.Badge.{Badge}
use Rattle.records.specs.Frames.{first_thirteen, last_thirteen, badge_in}
use Rattle.records.proofs.Framed.{Held, framed, first_ones, last_ones, badge_is}

pub first_masked : (f : ℕ) → ones (bit_and (f / 8192) 8191) ≡ sum (first_thirteen f)
first_masked f = ap ones (and_mask (f / 8192) 13) ∙ sym (first_ones f)

pub last_masked : (f : ℕ) → ones (bit_and f 8191) ≡ sum (last_thirteen f)
last_masked f = ap ones (and_mask f 13) ∙ sym (last_ones f)

pub fields_masked : (f : ℕ) → record { site = bit_and (f / 131072) 255; card = bit_and (f / 2) 65535 } ≡ badge_in f
fields_masked f =
    let a : bit_and (f / 131072) 255 ≡ f / 131072 % 256 = and_mask (f / 131072) 8 in
    let b : bit_and (f / 2) 65535 ≡ f / 2 % 65536 = and_mask (f / 2) 16 in
    rw (badge_is f, a, b) refl

-- a first bit, a badge's two numbers and a last bit put together
pub joined_shifted : (x : ℕ) (b : Badge) (y s c : ℕ) → s ≡ b.site → c ≡ b.card → x < 2 → y < 2 → Held b → bit_or (bit_or (bit_or (x * 33554432 % 4294967296) (s * 131072 % 4294967296)) (c * 2 % 4294967296)) y ≡ framed x b y
joined_shifted x b y s c u v i j h =
    let k : s < 256 = omega (arith, h.site) in
    let l : c < 65536 = omega (arith, h.card) in
    let a : x * 33554432 % 4294967296 ≡ x * 33554432 = mod-eq_of_lt (omega arith) in
    let b : s * 131072 % 4294967296 ≡ s * 131072 = mod-eq_of_lt (omega arith) in
    let d : c * 2 % 4294967296 ≡ c * 2 = mod-eq_of_lt (omega arith) in
    let e : bit_or (x * 33554432) (s * 131072) ≡ x * 33554432 + s * 131072 = or_shifted x 25 (s * 131072) (omega arith) in
    let f : x * 33554432 + s * 131072 ≡ (x * 256 + s) * 131072 = omega arith in
    let g : bit_or ((x * 256 + s) * 131072) (c * 2) ≡ (x * 256 + s) * 131072 + c * 2 = or_shifted (x * 256 + s) 17 (c * 2) (omega arith) in
    let m : (x * 256 + s) * 131072 + c * 2 ≡ ((x * 256 + s) * 65536 + c) * 2 = omega arith in
    rw (a, b, d, e, f, g, m) (or_shifted ((x * 256 + s) * 65536 + c) 1 y j ∙ omega (arith, u, v))
