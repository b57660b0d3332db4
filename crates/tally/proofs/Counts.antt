-- how a count grows with an arrival
use Rattle.std.proofs.Common.{◌≡◌, ℕ, zero, suc, ◌+◌, ◌-◌, ◌<◌, ◌≤◌, Bool, true, false, cond, eqb, List, [], ◌∷◌, ◌++◌, length, Ok, Err, Option, Result, sym, refl, ap, ◌∙◌, ⊎_elim, add-zero, arith}
use Rattle.std.proofs.lemmas.List.{length-drop}
use Rattle.std.proofs.lemmas.List.Sums.{count_by-le-length, sum_by-cons, sum_by_push, sum_by-take-drop}
use Rattle.std.proofs.lemmas.Bool.{cases_Bool, cases_lt, eqb-false, or_parts}
use Rattle.std.specs.Cmp.{IsEquivalence}
use Rattle.keys.specs.declared.refusal.Refusal.{Refusal}
use Rattle.keys.specs.declared.refusal.Refusal.TheVariants.{RunFull}
use Rattle.tally.specs.Arrivals.{latest, occurs, true_count}
use Rattle.tally.specs.Owed.{held_below, holds, most_arrivals}

module _ {K : Type 0} (alike : K → K → Bool) (k j : K) (xs : List K) where
  one_more : occurs alike k (xs ++ j ∷ []) ≡ occurs alike k xs + cond (alike k j) 1 0
  one_more = sum_by_push (λ x. cond (alike k x) 1 0) xs j

  pub occurs_same : alike k j ≡ true → occurs alike k (xs ++ j ∷ []) ≡ occurs alike k xs + 1
  occurs_same e = one_more ∙ ap (λ b. occurs alike k xs + cond b 1 0) e

  pub occurs_other : alike k j ≡ false → occurs alike k (xs ++ j ∷ []) ≡ occurs alike k xs
  occurs_other e = one_more ∙ ap (λ b. occurs alike k xs + cond b 1 0) e ∙ add-zero (occurs alike k xs)

-- a list no longer than t is its latest t
pub latest_all : {K : Type 0} (t : ℕ) (xs : List K) → length xs ≤ t → latest t xs ≡ xs
latest_all t xs l = let z : length xs - t ≡ 0 = omega arith in rw z refl

pub true_count_all : {K : Type 0} (alike : K → K → Bool) (t : ℕ) (k : K) (xs : List K) → length xs ≤ t → true_count alike t k xs ≡ occurs alike k xs
true_count_all alike t k xs l = ap (occurs alike k) (latest_all t xs l)

-- a key held at no place below n is not held at any
pub held_nowhere : {K : Type 0} (alike : K → K → Bool) (held : ℕ → Option K) (k : K) (n : ℕ) → held_below alike held k n ≡ false → (i : ℕ) → i < n → holds alike k (held i) ≡ false
held_nowhere alike held k zero e i l = absurd (omega arith)
held_nowhere alike held k (suc n) e i l =
    let parts = or_parts (holds alike k (held n)) (held_below alike held k n) e in
    ⊎_elim
    (λ (h : i < n). held_nowhere alike held k n parts.1 i h)
    (λ (h : n ≤ i). let z : i ≡ n = omega arith in rw z parts.0)
    (cases_lt i n)

-- no key stands in the latest t arrivals more than t times
pub true_count_below : {K : Type 0} (alike : K → K → Bool) (t : ℕ) (k : K) (xs : List K) → true_count alike t k xs ≤ t
true_count_below alike t k xs =
    let l = count_by-le-length (alike k) (latest t xs) in
    let d = length-drop (length xs - t) xs in
    omega arith

-- the latest t arrivals are a part of all
pub true_count_part : {K : Type 0} (alike : K → K → Bool) (t : ℕ) (k : K) (xs : List K) → true_count alike t k xs ≤ occurs alike k xs
true_count_part alike t k xs =
    let h = sum_by-take-drop (λ x. cond (alike k x) 1 0) xs (length xs - t) in omega arith

-- keys that are the same come equally often
pub occurs_alike : {K : Type 0} (alike : K → K → Bool) (law : IsEquivalence alike) (a b : K) → alike a b ≡ true → (xs : List K) → occurs alike a xs ≡ occurs alike b xs
occurs_alike alike law a b e [] = refl
occurs_alike alike law a b e (x ∷ xs) =
    let h = occurs_alike alike law a b e xs in
    sum_by-cons (λ y. cond (alike a y) 1 0) x xs
    ∙ rw (law.congr a b x e, h) (sym (sum_by-cons (λ y. cond (alike b y) 1 0) x xs))

-- a note that is taken finds room
pub not_full : (n : ℕ) (u : Unit {0}) → ◌≡◌ {A = Result (Unit {0}) Refusal} (Ok u) (cond (eqb n most_arrivals) (Err RunFull) (Ok tt)) → n ≤ most_arrivals → n < most_arrivals
not_full n u e l =
    ⊎_elim
    (λ (t : eqb n most_arrivals ≡ true).
    let f : ◌≡◌ {A = Result (Unit {0}) Refusal} (Ok u) (Err RunFull) = rw t at e in
    let z : ◌≡◌ {A = ℕ} 0 1 = cc in
    absurd (omega arith))
    (λ (t : eqb n most_arrivals ≡ false). omega (arith, eqb-false n most_arrivals t))
    (cases_Bool (eqb n most_arrivals))
