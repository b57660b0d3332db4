-- frames by their bits, in terms of shifts and masks
use Rattle.std.proofs.Common.{◌≡◌, ℕ, ◌+◌, ◌-◌, ◌*◌, ◌/◌, ◌%◌, ◌<◌, true, ◌&&◌, eqb, [], ◌∷◌, ◌++◌, length, take, drop, sum, sym, refl, ap, ◌∙◌, mod-eq_of_lt, arith, length-append}
use lib.Count.{ones, ones_cat}
use Rattle.std.proofs.lemmas.Int.Digits.{number_after_append}
use Rattle.std.proofs.lemmas.List.{take_at, drop_at, append_assoc}
use Rattle.std.proofs.lemmas.List.Sums.{sum_by-append}
use Rattle.std.proofs.lemmas.Bool.{eq-eqb, eqb-true, and_parts}
use Rattle.std.specs.Int.Digits.{number_from_digits, number_from_digits_after}
use Rattle.keys.specs.declared.badge.Badge.{Badge}
use Rattle.records.specs.Frames.{bits, well_formed, first_thirteen, last_thirteen, badge_in, badge_bits, frame_of, even_bit, odd_bit}
use Rattle.records.proofs.BitLists.{length_bits, bits_split, number_bits, ones_bit, sum_bits, take_bits, drop_bits}

pub first_ones : (f : ℕ) → sum (first_thirteen f) ≡ ones (f / 8192 % 8192)
first_ones f = ap sum (take_bits 13 13 f) ∙ sum_bits 13 (f / 8192)

pub last_ones : (f : ℕ) → sum (last_thirteen f) ≡ ones (f % 8192)
last_ones f = ap sum (drop_bits 13 13 f) ∙ sum_bits 13 f

pub well_is : (f : ℕ) → well_formed f ≡ (eqb (f / 67108864) 0 && (eqb (ones (f / 8192 % 8192) % 2) 0 && eqb (ones (f % 8192) % 2) 1))
well_is f = rw (first_ones f, last_ones f) refl

site_is : (f : ℕ) → number_from_digits 2 (take 8 (drop 1 (bits 26 f))) ≡ f / 131072 % 256
site_is f = rw (drop_bits 1 25 f, take_bits 8 17 f) (number_bits 0 8 (f / 131072) ∙ omega arith)

card_is : (f : ℕ) → number_from_digits 2 (take 16 (drop 9 (bits 26 f))) ≡ f / 2 % 65536
card_is f = rw (drop_bits 9 17 f, take_bits 16 1 f) (number_bits 0 16 (f / 2) ∙ omega arith)

pub badge_is : (f : ℕ) → badge_in f ≡ record { site = f / 131072 % 256; card = f / 2 % 65536 }
badge_is f = rw (site_is f, card_is f) refl

-- a badge's bits, cut into the twelve next to the first bit of its frame and the twelve before the last
halves : (s c : ℕ) → bits 8 s ++ bits 16 c ≡ (bits 8 s ++ bits 4 (c / 4096)) ++ bits 12 c
halves s c = rw (bits_split 4 12 c) (sym (append_assoc (bits 8 s) (bits 4 (c / 4096)) (bits 12 c)))

front_length : (s c : ℕ) → length (bits 8 s ++ bits 4 (c / 4096)) ≡ 12
front_length s c = rw (length-append (bits 8 s) (bits 4 (c / 4096)), length_bits 8 s, length_bits 4 (c / 4096)) refl

front_ones : (s c : ℕ) → sum (take 12 (bits 8 s ++ bits 16 c)) ≡ ones (s % 256) + ones (c / 4096 % 16)
front_ones s c =
    let a : take 12 (bits 8 s ++ bits 16 c) ≡ bits 8 s ++ bits 4 (c / 4096) = ap (take 12) (halves s c) ∙ take_at _ (bits 12 c) 12 (front_length s c) in
    ap sum a ∙ sum_by-append (λ x. x) (bits 8 s) (bits 4 (c / 4096)) ∙ rw (sum_bits 8 s, sum_bits 4 (c / 4096)) refl

back_ones : (s c : ℕ) → sum (drop 12 (bits 8 s ++ bits 16 c)) ≡ ones (c % 4096)
back_ones s c =
    let a : drop 12 (bits 8 s ++ bits 16 c) ≡ bits 12 c = ap (drop 12) (halves s c) ∙ drop_at _ (bits 12 c) 12 (front_length s c) in
    ap sum a ∙ sum_bits 12 c

-- the number that a first bit, a badge's bits and a last bit make
joined : (x y s c : ℕ) → number_from_digits 2 (x ∷ (bits 8 s ++ bits 16 c) ++ (y ∷ [])) ≡ ((x * 256 + s % 256) * 65536 + c % 65536) * 2 + y
joined x y s c =
    let z : 0 * 2 + x ≡ x = omega arith in
    let a = number_after_append 2 x (bits 8 s ++ bits 16 c) (y ∷ []) in
    let b = number_after_append 2 x (bits 8 s) (bits 16 c) in
    let d = number_bits x 8 s in
    let e = number_bits (x * 256 + s % 256) 16 c in
    ap (λ n. number_from_digits_after 2 n ((bits 8 s ++ bits 16 c) ++ (y ∷ []))) z ∙ a ∙ rw (b, d, e) refl

-- the number of a frame: a first bit, a badge's two numbers and a last bit
abbrev pub framed : ℕ → Badge → ℕ → ℕ
framed x b y = x * 33554432 + (b.site * 65536 + b.card) * 2 + y

-- a badge's numbers fit their bits
pub record Held (b : Badge) : Type 0 where
  pub site : b.site < 256
  pub card : b.card < 65536

front_sum : (b : Badge) → Held b → sum (take 12 (badge_bits b)) ≡ ones b.site + ones (b.card / 4096)
front_sum b h =
    let u : b.site % 256 ≡ b.site = mod-eq_of_lt h.site in
    let v : b.card / 4096 % 16 ≡ b.card / 4096 = mod-eq_of_lt (omega arith) in
    front_ones b.site b.card ∙ rw (u, v) refl

first_bit_is : (b : Badge) → Held b → even_bit (take 12 (badge_bits b)) ≡ (ones b.site + ones (b.card / 4096)) % 2
first_bit_is b h = ap (λ n. n % 2) (front_sum b h)

last_bit_is : (b : Badge) → odd_bit (drop 12 (badge_bits b)) ≡ 1 - ones (b.card % 4096) % 2
last_bit_is b = ap (λ n. 1 - n % 2) (back_ones b.site b.card)

pub framed_is : (x : ℕ) (b : Badge) (y : ℕ) → Held b → number_from_digits 2 (x ∷ (badge_bits b ++ (y ∷ []))) ≡ framed x b y
framed_is x b y h = joined x y b.site b.card ∙ omega arith

-- the ones in the two halves of a frame
first_half : (x : ℕ) (b : Badge) (y : ℕ) → x < 2 → y < 2 → Held b → ones (framed x b y / 8192 % 8192) ≡ x + (ones b.site + ones (b.card / 4096))
first_half x b y i j h =
    let s = b.site in
    let c = b.card in
    let e : framed x b y / 8192 % 8192 ≡ x * 4096 + (s * 16 + c / 4096) = omega arith in
    let a : ones (x * 4096 + (s * 16 + c / 4096)) ≡ ones x + ones (s * 16 + c / 4096) = ones_cat 12 x (s * 16 + c / 4096) (omega arith) in
    let d : ones (s * 16 + c / 4096) ≡ ones s + ones (c / 4096) = ones_cat 4 s (c / 4096) (omega arith) in
    rw (e, a, d, ones_bit x i) refl

last_half : (x : ℕ) (b : Badge) (y : ℕ) → y < 2 → ones (framed x b y % 8192) ≡ ones (b.card % 4096) + y
last_half x b y j =
    let c = b.card in
    let e : framed x b y % 8192 ≡ c % 4096 * 2 + y = omega arith in
    let a : ones (c % 4096 * 2 + y) ≡ ones (c % 4096) + ones y = ones_cat 1 (c % 4096) y j in
    rw (e, a, ones_bit y j) refl

pub framed_well : (x : ℕ) (b : Badge) (y : ℕ) → x < 2 → y < 2 → Held b → x ≡ even_bit (take 12 (badge_bits b)) → y ≡ odd_bit (drop 12 (badge_bits b)) → well_formed (framed x b y) ≡ true
framed_well x b y i j h d e =
    let f = framed x b y in
    let u : x ≡ (ones b.site + ones (b.card / 4096)) % 2 = d ∙ first_bit_is b h in
    let v : y ≡ 1 - ones (b.card % 4096) % 2 = e ∙ last_bit_is b in
    let z : eqb (f / 67108864) 0 ≡ true = eq-eqb (f / 67108864) 0 (omega arith) in
    let g : ones (f / 8192 % 8192) % 2 ≡ 0 = rw (first_half x b y i j h) (omega arith) in
    let l : ones (f % 8192) % 2 ≡ 1 = rw (last_half x b y j) (omega arith) in
    rw (well_is f, z, eq-eqb _ 0 g, eq-eqb _ 1 l) refl

pub framed_read : (x : ℕ) (b : Badge) (y : ℕ) → x < 2 → y < 2 → Held b → badge_in (framed x b y) ≡ b
framed_read x b y i j h =
    let f = framed x b y in
    let s : f / 131072 % 256 ≡ b.site = omega arith in
    let c : f / 2 % 65536 ≡ b.card = omega arith in
    rw (badge_is f, s, c) refl

-- a number as a first part, the badge's two numbers and a last bit
parted : (f : ℕ) → f ≡ f / 33554432 * 33554432 + (f / 131072 % 256 * 65536 + f / 2 % 65536) * 2 + f % 2
parted f =
    let a : f / 131072 ≡ f / 33554432 * 256 + f / 131072 % 256 = omega arith in
    let b : f / 2 ≡ f / 131072 * 65536 + f / 2 % 65536 = omega arith in
    omega arith

-- a well_formed frame is the frame of the badge in it
pub written_back : (f : ℕ) → well_formed f ≡ true → frame_of (badge_in f) ≡ f
written_back f w =
    let b : Badge = record { site = f / 131072 % 256; card = f / 2 % 65536 } in
    let x = f / 33554432 in
    let y = f % 2 in
    let h : Held b = record { site = omega arith; card = omega arith } in
    let whole : f ≡ framed x b y = parted f in
    let tests = and_parts _ _ (sym (well_is f) ∙ w) in
    let ones-tests = and_parts _ _ tests.1 in
    let z : f / 67108864 ≡ 0 = eqb-true (f / 67108864) 0 tests.0 in
    let e : ones (f / 8192 % 8192) % 2 ≡ 0 = eqb-true (ones (f / 8192 % 8192) % 2) 0 ones-tests.0 in
    let o : ones (f % 8192) % 2 ≡ 1 = eqb-true (ones (f % 8192) % 2) 1 ones-tests.1 in
    let i : x < 2 = omega arith in
    let j : y < 2 = omega arith in
    let s : ones (f / 8192 % 8192) ≡ x + (ones b.site + ones (b.card / 4096)) = ap (λ n. ones (n / 8192 % 8192)) whole ∙ first_half x b y i j h in
    let t : ones (f % 8192) ≡ ones (b.card % 4096) + y = ap (λ n. ones (n % 8192)) whole ∙ last_half x b y j in
    let u : even_bit (take 12 (badge_bits b)) ≡ x = first_bit_is b h ∙ omega arith in
    let v : odd_bit (drop 12 (badge_bits b)) ≡ y = last_bit_is b ∙ omega arith in
    ap frame_of (badge_is f) ∙ rw (u, v) (framed_is x b y h ∙ sym whole)

-- the ones in the two halves, by the badge's bits
pub first_sum : (x : ℕ) (b : Badge) (y : ℕ) → x < 2 → y < 2 → Held b → sum (first_thirteen (framed x b y)) ≡ x + sum (take 12 (badge_bits b))
first_sum x b y i j h = first_ones (framed x b y) ∙ first_half x b y i j h ∙ ap (λ n. x + n) (sym (front_sum b h))

pub last_sum : (x : ℕ) (b : Badge) (y : ℕ) → y < 2 → sum (last_thirteen (framed x b y)) ≡ sum (drop 12 (badge_bits b)) + y
last_sum x b y j = last_ones (framed x b y) ∙ last_half x b y j ∙ ap (λ n. n + y) (sym (back_ones b.site b.card))
