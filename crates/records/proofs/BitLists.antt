-- lists of bits: how they are cut, and what they make
use Rattle.std.proofs.Common.{◌≡◌, ℕ, zero, suc, ◌+◌, ◌*◌, ◌/◌, ◌%◌, ◌^◌, ◌<◌, ◌≤◌, ◌∷◌, ◌++◌, length, take, drop, sum, sym, refl, ap, ◌∙◌, ⊎_elim, mul_assoc, mul_comm, add-mul, add_comm, suc-add, pow-suc, zero-add, one-add, arith}
use lib.Count.{ones, ones_cat}
use Rattle.std.proofs.lemmas.Nat.{shr-shr, mod-pow-add, pow_pos, mod_below}
use Rattle.std.proofs.lemmas.List.Sums.{sum_by-cons}
use Rattle.std.proofs.lemmas.List.{take_at, drop_at}
use Rattle.std.proofs.lemmas.Bool.{cases_lt}
use Rattle.std.specs.Int.Digits.{number_from_digits_after}
use Rattle.records.specs.Frames.{bits}

pub length_bits : (n f : ℕ) → length (bits n f) ≡ n
unfolding bits
length_bits zero f = refl
length_bits (suc n) f = ap suc (length_bits n f)

-- the higher m of m + n bits, and the lower n
pub bits_split : (m n f : ℕ) → bits (m + n) f ≡ bits m (f / 2 ^ n) ++ bits n f
unfolding bits
bits_split zero n f = rw (zero-add n) refl
bits_split (suc m) n f =
    rw (suc-add m n, shr-shr f n m, add_comm n m) (ap (λ t. f / 2 ^ (m + n) % 2 ∷ t) (bits_split m n f))

-- one bit more above n
mod_more : (n f : ℕ) → f % 2 ^ suc n ≡ f / 2 ^ n % 2 * 2 ^ n + f % 2 ^ n
mod_more n f = rw (← one-add n) (mod-pow-add f 1 n)

pub number_bits : (a n f : ℕ) → number_from_digits_after 2 a (bits n f) ≡ a * 2 ^ n + f % 2 ^ n
unfolding bits
number_bits a zero f = omega (arith, mod_below f 1 (omega arith))
number_bits a (suc n) f =
    let d = f / 2 ^ n % 2 in
    let e : (a * 2 + d) * 2 ^ n ≡ a * 2 * 2 ^ n + d * 2 ^ n = add-mul (a * 2) d (2 ^ n) in
    let g : a * 2 * 2 ^ n ≡ a * (2 * 2 ^ n) = mul_assoc a 2 (2 ^ n) in
    rw (mod_more n f, pow-suc 2 n, mul_comm (2 ^ n) 2) (number_bits (a * 2 + d) n f ∙ omega (arith, e, g))

pub ones_bit : (x : ℕ) → x < 2 → ones x ≡ x
unfolding ones
ones_bit x h =
    ⊎_elim
    (λ (l : x < 1). let e : x ≡ 0 = omega arith in rw e refl)
    (λ (l : 1 ≤ x). let e : x ≡ 1 = omega arith in rw e refl)
    (cases_lt x 1)

pub sum_bits : (n f : ℕ) → sum (bits n f) ≡ ones (f % 2 ^ n)
unfolding bits
sum_bits zero f = let e : f % 1 ≡ 0 = omega (arith, mod_below f 1 (omega arith)) in rw e (sym (ones_bit 0 (omega arith)))
sum_bits (suc n) f =
    let d = f / 2 ^ n % 2 in
    sum_by-cons (λ x. x) d (bits n f) ∙ rw (
      sum_bits n f,
      mod_more n f,
      ones_cat n d (f % 2 ^ n) (mod_below f (2 ^ n) (pow_pos n)),
      ones_bit d (mod_below (f / 2 ^ n) 2 (omega arith)),
    ) refl

-- the first m of m + n bits, and the last n
pub take_bits : (m n f : ℕ) → take m (bits (m + n) f) ≡ bits m (f / 2 ^ n)
take_bits m n f = ap (take m) (bits_split m n f) ∙ take_at (bits m (f / 2 ^ n)) (bits n f) m (length_bits m (f / 2 ^ n))

pub drop_bits : (m n f : ℕ) → drop m (bits (m + n) f) ≡ bits n f
drop_bits m n f = ap (drop m) (bits_split m n f) ∙ drop_at (bits m (f / 2 ^ n)) (bits n f) m (length_bits m (f / 2 ^ n))
