-- what cells that vouch for a list owe: how wide ranges are, how large, and what a key held nowhere has
use Rattle.std.proofs.Common.{◌≡◌, ℕ, suc, ◌+◌, ◌/◌, ◌<◌, ◌≤◌, Bool, true, false, List, [], ◌∷◌, length, get_or, Some, None, Option, sym, refl, ◌∙◌, ⊎_elim, mul_comm, add-mul, arith}
use Rattle.std.proofs.lemmas.Bool.{cases_Bool}
use Rattle.std.proofs.lemmas.Nat.{le-div}
use Rattle.tally.proofs.Counts.{held_nowhere, true_count_all}
use Rattle.tally.specs.Owed.{Contains, held_below, holds}
use Rattle.cells.specs.Cells.{ends, key_at, key_in, taken_by}
use Rattle.keys.specs.OfKey.{of_key}
use Rattle.cells.specs.Vouched.{Absent, Sound, Vouched, counters}
use Rattle.cells.specs.Cells.{Cell}
use Rattle.cells.proofs.Counters.{counters_cons}
use Rattle.cells.proofs.Kept.{level_below}
use Rattle.tally.proofs.OfKey.{holds_read}
use Rattle.cells.proofs.Ranges.{ends_absent}

module _ {K R X : Type 0} (alike : K → K → Bool) (reads : R → Option K) where
  -- no range is wider than the level
  pub narrow : (is : R → Bool) (level n : ℕ) (cs : List (Cell R X)) → Sound alike reads level n cs → (ends is level cs).1 ≤ (ends is level cs).0 + level
  narrow is level n [] h = omega arith
  narrow is level n (None ∷ cs) h = narrow is level n cs h
  narrow is level n (Some s ∷ cs) h =
      let l = h.1 in
      ⊎_elim
      (λ (t : is s.key ≡ true). rw t (omega arith))
      (λ (t : is s.key ≡ false). rw t (narrow is level n cs h.2))
      (cases_Bool (is s.key))

  -- no high end passes n by more than the level
  pub high_below : (is : R → Bool) (level n : ℕ) (cs : List (Cell R X)) → Sound alike reads level n cs → (ends is level cs).1 ≤ n + level
  high_below is level n [] h = omega arith
  high_below is level n (None ∷ cs) h = high_below is level n cs h
  high_below is level n (Some s ∷ cs) h =
      let l = h.1 in
      ⊎_elim
      (λ (t : is s.key ≡ true). rw t (omega arith))
      (λ (t : is s.key ≡ false). rw t (high_below is level n cs h.2))
      (cases_Bool (is s.key))

  -- nor does it pass the level and the counters together
  high_accounted : (is : R → Bool) (level n : ℕ) (cs : List (Cell R X)) → Sound alike reads level n cs → (ends is level cs).1 ≤ level + counters level cs
  high_accounted is level n [] h = omega arith
  high_accounted is level n (None ∷ cs) h = high_accounted is level n cs h
  high_accounted is level n (Some s ∷ cs) h =
      let l = h.1 in
      let a = counters_cons level (Some s) cs in
      ⊎_elim
      (λ (t : is s.key ≡ true). rw t (omega arith))
      (λ (t : is s.key ≡ false). let r = high_accounted is level n cs h.2 in rw t (omega arith))
      (cases_Bool (is s.key))

  -- so no high end passes n
  pub high_covered : (is : R → Bool) (cs : List (Cell R X)) (level n : ℕ) (xs : List K) → Vouched alike reads cs level n xs → (ends is level cs).1 ≤ n
  high_covered is cs level n xs v =
      let a = high_accounted is level n cs v.sound in
      let b = add-mul (length cs) 1 level in
      let w = v.covered in
      omega arith

  -- a key's true count lies in its range
  pub contains : (cs : List (Cell R X)) (level n : ℕ) (xs : List K) → Vouched alike reads cs level n xs → (k : K) (t : ℕ) → n ≤ t → Contains alike t k xs (ends (of_key alike reads k) level cs).0 (ends (of_key alike reads k) level cs).1
  contains cs level n xs v k t le =
      let l = v.long in
      let f = v.few in
      let o = v.ranged k in
      let all = true_count_all alike t k xs (omega arith) in
      let h = high_below (of_key alike reads k) level n cs v.sound in
      let m = level_below alike reads cs level n xs v in
      record { from = rw all o.0; upto = rw all o.1; bounded = omega arith }

  pub contains_pair : (cs : List (Cell R X)) (level : ℕ) (k : K) (both : ℕ × ℕ) → both ≡ ends (of_key alike reads k) level cs → (t n : ℕ) (xs : List K) → n ≤ t → Vouched alike reads cs level n xs → Contains alike t k xs both.0 both.1
  contains_pair cs level k both e t n xs le v = rw e (contains cs level n xs v k t le)

  -- the level is at most n/(k + 1)
  pub level_share : (cs : List (Cell R X)) (level n : ℕ) (xs : List K) → Vouched alike reads cs level n xs → level ≤ n / (length cs + 1)
  level_share cs level n xs v =
      let w = v.covered in
      let m = mul_comm (length cs + 1) level in
      le-div level n (length cs + 1) (omega arith) (omega arith)

  taken_holds : (k : K) (c : Cell R X) → holds alike k (key_in reads c) ≡ taken_by (of_key alike reads k) c
  taken_holds k None = refl
  taken_holds k (Some s) = holds_read alike reads k s.key

  -- a key held at no place is held by no cell
  pub absent_from : (k : K) (cs : List (Cell R X)) → ((i : ℕ) → i < length cs → holds alike k (key_in reads (get_or cs i None)) ≡ false) → Absent (of_key alike reads k) cs
  absent_from k [] h = tt
  absent_from k (c ∷ cs) h = (sym (taken_holds k c) ∙ h 0 (omega arith), absent_from k cs (λ i l. h (suc i) (omega arith)))

  -- and so its range is 0 to the level
  pub missed : (k : K) (level : ℕ) (cs : List (Cell R X)) → held_below alike (key_at reads cs) k (length cs) ≡ false → ends (of_key alike reads k) level cs ≡ (0, level)
  missed k level cs h = ends_absent (of_key alike reads k) level cs (absent_from k cs (held_nowhere alike (key_at reads cs) k (length cs) h))
