-- the sum of the counters after each of the three rules
use Rattle.std.proofs.Common.{◌≡◌, ℕ, ◌+◌, ◌<◌, Bool, true, false, eqb, List, [], ◌∷◌, map, length, Some, None, Option, ⊎_elim, arith, is_none}
use Rattle.std.proofs.lemmas.Bool.{cases_Bool, eqb-true}
use Rattle.std.proofs.lemmas.List.Sums.{sum_by-cons}
use Rattle.std.specs.List.{position_from}
use Rattle.cells.specs.Cells.{counted, taken_by, worn}
use Rattle.cells.specs.Vouched.{Sound, counter, counters}
use Rattle.cells.specs.Cells.{Cell}
use Rattle.cells.specs.declared.cell.Slot.{Slot}
use Rattle.cells.proofs.Changed.{changed}

module _ {R X : Type 0} (level : ℕ) where
  pub counters_cons : (c : Cell R X) (cs : List (Cell R X)) → counters level (c ∷ cs) ≡ counter level c + counters level cs
  counters_cons c cs = sum_by-cons (counter level) c cs

module _ {K R X : Type 0} (alike : K → K → Bool) (reads : R → Option K) where
  pub counters_counted : (of : R → Bool) (level n : ℕ) (cs : List (Cell R X)) (j i : ℕ) → n < 100_000_000 → Sound alike reads level n cs → position_from (taken_by of) j cs ≡ Some i → counters level (changed (taken_by of) counted cs) ≡ counters level cs + 1
  counters_counted of level n [] j i few h e = let z : ◌≡◌ {A = ℕ} 0 1 = cc in absurd (omega arith)
  counters_counted of level n (None ∷ cs) j i few h e = counters_counted of level n cs (j + 1) i few h e
  counters_counted of level n (Some s ∷ cs) j i few h e =
      let l = h.1 in
      ⊎_elim
      (λ (t : of s.key ≡ true). rw (t, counters_cons level (counted (Some s)) cs, counters_cons level (Some s) cs) (omega arith))
      (λ (t : of s.key ≡ false).
      let r = counters_counted of level n cs (j + 1) i few h.2 (rw t at e) in
      rw (t, counters_cons level (Some s) (changed (taken_by of) counted cs), counters_cons level (Some s) cs) (omega arith))
      (cases_Bool (of s.key))

  pub counters_raised : (level n : ℕ) (cs : List (Cell R X)) (j : ℕ) → Sound alike reads level n cs → position_from is_none j cs ≡ None → counters (level + 1) (map (worn (level + 1)) cs) + length cs ≡ counters level cs
  counters_raised level n [] j h e = omega arith
  counters_raised level n (None ∷ cs) j h e = let z : ◌≡◌ {A = ℕ} 0 1 = cc in absurd (omega arith)
  counters_raised level n (Some s ∷ cs) j h e =
      let l = h.1 in
      let r = counters_raised level n cs (j + 1) h.2 e in
      let a = counters_cons level (Some s) cs in
      ⊎_elim
      (λ (t : eqb (s.count + s.mark) (level + 1) ≡ true).
      let q = eqb-true (s.count + s.mark) (level + 1) t in
      let b = counters_cons (level + 1) None (map (worn (level + 1)) cs) in
      rw t (omega arith))
      (λ (t : eqb (s.count + s.mark) (level + 1) ≡ false).
      let b = counters_cons (level + 1) (Some s) (map (worn (level + 1)) cs) in
      rw t (omega arith))
      (cases_Bool (eqb (s.count + s.mark) (level + 1)))

pub counters_entered : {R X : Type 0} (level : ℕ) (new : Slot R X) → new.count + new.mark ≡ level + 1 → (cs : List (Cell R X)) (j i : ℕ) → position_from is_none j cs ≡ Some i → counters level (changed is_none (λ (c : Cell R X). Some new) cs) ≡ counters level cs + 1
counters_entered level new one [] j i e = let z : ◌≡◌ {A = ℕ} 0 1 = cc in absurd (omega arith)
counters_entered level new one (None ∷ cs) j i e = let a = counters_cons level (Some new) cs in let b = counters_cons level None cs in omega arith
counters_entered level new one (Some s ∷ cs) j i e =
    let r = counters_entered level new one cs (j + 1) i e in
    let a = counters_cons level (Some s) (changed is_none (λ (c : Cell _ _). Some new) cs) in
    let b = counters_cons level (Some s) cs in
    omega arith
