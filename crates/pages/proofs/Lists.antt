use Rattle.keys.proofs.Ranges.{range_next}
use Rattle.std.proofs.Common.{◌≡◌, ℕ, zero, suc, ◌+◌, ◌<◌, ◌≤◌, List, [], ◌∷◌, ◌++◌, length, drop, Some, None, Option, refl, ◌∙◌, sym, ap, add-one, slice_set, slice_index_or, ⊎_elim, arith}
use Rattle.std.proofs.lemmas.List.{length-append, append-nil, append_assoc, set_at, drop_more, length_push}
use Rattle.std.proofs.lemmas.Bool.{cases_lt}
use Rattle.std.proofs.lemmas.List.Elements.{filter_map-append}
use Rattle.std.specs.List.{filter_map, range_with_len, cons_option}
use Rattle.std.specs.Option.{option_to_list}
use Rattle.pages.specs.Listed.{listed, over}

one_row : {X : Type 0} (r : Option X) → cons_option r [] ≡ option_to_list r
one_row None = refl
one_row (Some r) = refl

-- a listing with one place more
pub listed_next : {X : Type 0} (row : ℕ → Option X) (n : ℕ) → listed row (suc n) ≡ listed row n ++ option_to_list (row n)
listed_next row n = ap (filter_map row) (range_next n) ∙ filter_map-append row (range_with_len 0 n) (n ∷ []) ∙ ap (λ l. listed row n ++ l) (one_row (row n))

pub listed_grows : {X : Type 0} (row : ℕ → Option X) (i m : ℕ) → i ≤ m → length (listed row i) ≤ length (listed row m)
listed_grows row i zero h = let z : i ≡ 0 = omega arith in rw z (omega arith)
listed_grows row i (suc m) h =
    ⊎_elim
    (λ (l : i < suc m). let r = listed_grows row i m (omega arith) in let a = length-append (listed row m) (option_to_list (row m)) in let e = ap length (listed_next row m) in omega arith)
    (λ (l : suc m ≤ i). let z : i ≡ suc m = omega arith in rw z (omega arith))
    (cases_lt i (suc m))

-- a listing's step: a place has a row, which goes behind those of the places before, and there is room for it
module _ {X : Type 0} (row : ℕ → Option X) (i : ℕ) (r : X) (is : row i ≡ Some r) where
  pub listed_more : listed row (i + 1) ≡ listed row i ++ r ∷ []
  listed_more = rw add-one (listed_next row i ∙ ap (λ o. listed row i ++ option_to_list o) is)

  pub length_more : length (listed row (i + 1)) ≡ length (listed row i) + 1
  length_more = ap length listed_more ∙ length_push (listed row i) r

  pub room : (m len : ℕ) → i < m → length (listed row m) ≤ len → length (listed row i) < len
  room m len l h = let g = listed_grows row (i + 1) m (omega arith) in omega (arith, length_more)

  pub over_more : (n : ℕ) (was page next : List X) → n ≡ length (listed row i) → n < length was → page ≡ over (listed row i) was → next ≡ slice_set page n r → next ≡ over (listed row (i + 1)) was
  over_more n was page next e l p q =
      let rows = listed row i in
      let h : length rows < length was = omega arith in
      rw (q, p, e, listed_more, drop_more was (length rows) r h, length_push rows r)
      (set_at rows (slice_index_or was (length rows) r) (drop (length rows + 1) was) r (length rows) refl ∙ sym (append_assoc rows (r ∷ []) (drop (length rows + 1) was)))

-- and a place without a row leaves the listing as it was
pub listed_same : {X : Type 0} (row : ℕ → Option X) (i : ℕ) → row i ≡ None → listed row (i + 1) ≡ listed row i
listed_same row i is = rw add-one (listed_next row i ∙ ap (λ o. listed row i ++ option_to_list o) is ∙ append-nil (listed row i))
