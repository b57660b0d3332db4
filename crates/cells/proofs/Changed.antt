-- a write at the place that `first` gives
use Rattle.std.proofs.Common.{◌≡◌, ℕ, suc, ◌+◌, ◌-◌, ◌≤◌, Bool, true, false, cond, List, [], ◌∷◌, length, get_or, set, Some, None, refl, ap, ⊎_elim, arith}
use Rattle.std.proofs.lemmas.Bool.{cases_Bool}
use Rattle.std.specs.List.{position_from}
use Rattle.cells.specs.Cells.{taken_by}
use Rattle.cells.specs.Vouched.{Absent}
use Rattle.cells.specs.Cells.{Cell}

-- a list whose first element that passes a test is changed
abbrev pub changed : {X : Type 0} → (X → Bool) → (X → X) → List X → List X
changed p f [] = []
changed p f (x ∷ xs) = cond (p x) (f x ∷ xs) (x ∷ changed p f xs)

first_set_from : {X : Type 0} (p : X → Bool) (f : X → X) (d : X) (xs : List X) (j i : ℕ) → position_from p j xs ≡ Some i → (j ≤ i) × (set xs (i - j) (f (get_or xs (i - j) d)) ≡ changed p f xs)
first_set_from p f d [] j i e = let z : ◌≡◌ {A = ℕ} 0 1 = cc in absurd (omega arith)
first_set_from p f d (x ∷ xs) j i e =
    ⊎_elim
    (λ (t : p x ≡ true).
    let a : Some j ≡ Some i = rw t at e in
    let b : j ≡ i = cc in
    let z : i - j ≡ 0 = omega arith in
    (omega arith, rw (z, t) refl))
    (λ (t : p x ≡ false).
    let r = first_set_from p f d xs (j + 1) i (rw t at e) in
    let l : j + 1 ≤ i = r.0 in
    let z : i - j ≡ suc (i - (j + 1)) = omega arith in
    (omega arith, rw (z, t) (ap (λ (ys : List _). x ∷ ys) r.1)))
    (cases_Bool (p x))

pub first_set : {X : Type 0} (p : X → Bool) (f : X → X) (d : X) (xs : List X) (i : ℕ) → position_from p 0 xs ≡ Some i → set xs i (f (get_or xs i d)) ≡ changed p f xs
first_set p f d xs i e = let z : i - 0 ≡ i = omega arith in rw z at (first_set_from p f d xs 0 i e).1

pub length_changed : {X : Type 0} (p : X → Bool) (f : X → X) (xs : List X) → length (changed p f xs) ≡ length xs
length_changed p f [] = refl
length_changed p f (x ∷ xs) =
    ⊎_elim (λ (t : p x ≡ true). rw t refl) (λ (t : p x ≡ false). rw t (ap suc (length_changed p f xs))) (cases_Bool (p x))

-- where no cell is found, none is taken by the key
pub first_none : {R X : Type 0} (is : R → Bool) (cs : List (Cell R X)) (j : ℕ) → position_from (taken_by is) j cs ≡ None → Absent is cs
first_none is [] j e = tt
first_none is (None ∷ cs) j e = (refl, first_none is cs (j + 1) e)
first_none is (Some s ∷ cs) j e =
    ⊎_elim
    (λ (t : is s.key ≡ true). let a : Some j ≡ None = rw t at e in let z : ◌≡◌ {A = ℕ} 0 1 = cc in absurd (omega arith))
    (λ (t : is s.key ≡ false). (t, first_none is cs (j + 1) (rw t at e)))
    (cases_Bool (is s.key))
