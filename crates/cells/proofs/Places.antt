-- cells by their places
use Rattle.std.proofs.Common.{◌≡◌, ℕ, zero, suc, ◌+◌, ◌-◌, ◌<◌, ◌≤◌, Bool, true, false, eqb, List, [], ◌∷◌, map, length, get_or, Some, Option, sym, refl, ap, ◌∙◌, ⊎_elim, arith, None}
use Rattle.std.proofs.lemmas.Bool.{cases_Bool}
use Rattle.std.specs.List.{position_from}
use Rattle.cells.proofs.Ranges.{Once}
use Rattle.cells.specs.Cells.{capped, ends, taken_by, worn}
use Rattle.cells.specs.Vouched.{Absent, Live, Sound}
use Rattle.cells.specs.Cells.{Cell}
use Rattle.cells.specs.declared.cell.Slot.{Slot}

-- an element that `first` gives passes the test
first_at_from : {X : Type 0} (p : X → Bool) (d : X) (xs : List X) (j i : ℕ) → position_from p j xs ≡ Some i → (j ≤ i) × ((i - j < length xs) × (p (get_or xs (i - j) d) ≡ true))
first_at_from p d [] j i e = let z : ◌≡◌ {A = ℕ} 0 1 = cc in absurd (omega arith)
first_at_from p d (x ∷ xs) j i e =
    ⊎_elim
    (λ (t : p x ≡ true).
    let a : Some j ≡ Some i = rw t at e in
    let b : j ≡ i = cc in
    let z : i - j ≡ 0 = omega arith in
    (omega arith, rw z (omega arith, t)))
    (λ (t : p x ≡ false).
    let r = first_at_from p d xs (j + 1) i (rw t at e) in
    let l : j + 1 ≤ i = r.0 in
    let z : i - j ≡ suc (i - (j + 1)) = omega arith in
    (omega arith, rw z (omega (arith, r.1.0), r.1.1)))
    (cases_Bool (p x))

pub first_at : {X : Type 0} (p : X → Bool) (d : X) (xs : List X) (i : ℕ) → position_from p 0 xs ≡ Some i → (i < length xs) × (p (get_or xs i d) ≡ true)
first_at p d xs i e = let z : i - 0 ≡ i = omega arith in rw z at (first_at_from p d xs 0 i e).1

module _ {R X : Type 0} where
  -- a cell that a key takes holds it
  pub taken_holds : (is : R → Bool) (c : Cell R X) → taken_by is c ≡ true → (s : Slot R X) × ((c ≡ Some s) × (is s.key ≡ true))
  taken_holds is None e = let z : ◌≡◌ {A = ℕ} 0 1 = cc in absurd (omega arith)
  taken_holds is (Some s) e = (s, (refl, e))

  -- what a level leaves was there
  pub worn_was : (level : ℕ) (c : Cell R X) (s : Slot R X) → worn level c ≡ Some s → c ≡ Some s
  worn_was level None s e = e
  worn_was level (Some q) s e =
      ⊎_elim
      (λ (t : eqb (q.count + q.mark) level ≡ true).
      let a : ◌≡◌ {A = Cell R X} None (Some s) = rw t at e in
      let z : ◌≡◌ {A = ℕ} 0 1 = cc in
      absurd (omega arith))
      (λ (t : eqb (q.count + q.mark) level ≡ false). rw t at e)
      (cases_Bool (eqb (q.count + q.mark) level))

  pub worn_at : (level : ℕ) (cs : List (Cell R X)) (i : ℕ) (s : Slot R X) → get_or (map (worn level) cs) i None ≡ Some s → get_or cs i None ≡ Some s
  worn_at level [] i s e = e
  worn_at level (c ∷ cs) zero s e = worn_was level c s e
  worn_at level (c ∷ cs) (suc i) s e = worn_at level cs i s e

  -- a key that no cell holds is held at no place
  pub absent_at : (is : R → Bool) (cs : List (Cell R X)) (i : ℕ) (s : Slot R X) → Absent is cs → get_or cs i None ≡ Some s → is s.key ≡ false
  absent_at is [] i s h e = let z : ◌≡◌ {A = ℕ} 0 1 = cc in absurd (omega arith)
  absent_at is (c ∷ cs) zero s h e = rw e at h.0
  absent_at is (c ∷ cs) (suc i) s h e = absent_at is cs i s h.1 e

  -- and one that is held once is held at no other place
  pub once_at : (is : R → Bool) (cs : List (Cell R X)) (i t : ℕ) (s q : Slot R X) → Once is cs → get_or cs i None ≡ Some s → is s.key ≡ true → (i ≡ t → ⊥) → get_or cs t None ≡ Some q → is q.key ≡ false
  once_at is [] i t s q h e one ne f = let z : ◌≡◌ {A = ℕ} 0 1 = cc in absurd (omega arith)
  once_at is (None ∷ cs) zero t s q h e one ne f = let z : ◌≡◌ {A = ℕ} 0 1 = cc in absurd (omega arith)
  once_at is (None ∷ cs) (suc i) zero s q h e one ne f = let z : ◌≡◌ {A = ℕ} 0 1 = cc in absurd (omega arith)
  once_at is (None ∷ cs) (suc i) (suc t) s q h e one ne f = once_at is cs i t s q h e one (λ z. ne (ap suc z)) f
  once_at is (Some c ∷ cs) zero zero s q h e one ne f = absurd (ne refl)
  once_at is (Some c ∷ cs) zero (suc t) s q h e one ne f =
      let w : c ≡ s = cc in absent_at is cs t q (h.0 (ap (λ (y : Slot R X). is y.key) w ∙ one)) f
  once_at is (Some c ∷ cs) (suc i) zero s q h e one ne f =
      ⊎_elim
      (λ (y : is q.key ≡ true).
      let w : c ≡ q = cc in
      let gone = absent_at is cs i s (h.0 (ap (λ (y : Slot R X). is y.key) w ∙ y)) e in
      let z : true ≡ false = sym one ∙ gone in
      let zz : ◌≡◌ {A = ℕ} 0 1 = cc in absurd (omega arith))
      (λ (y : is q.key ≡ false). y)
      (cases_Bool (is q.key))
  once_at is (Some c ∷ cs) (suc i) (suc t) s q h e one ne f = once_at is cs i t s q h.1 e one (λ z. ne (ap suc z)) f

module _ {K R X : Type 0} (alike : K → K → Bool) (reads : R → Option K) where
  -- a sound cell is live, at whichever place
  pub sound_at : (level n : ℕ) (cs : List (Cell R X)) (i : ℕ) (s : Slot R X) → Sound alike reads level n cs → get_or cs i None ≡ Some s → Live level n s
  sound_at level n [] i s h e = let z : ◌≡◌ {A = ℕ} 0 1 = cc in absurd (omega arith)
  sound_at level n (None ∷ cs) zero s h e = let z : ◌≡◌ {A = ℕ} 0 1 = cc in absurd (omega arith)
  sound_at level n (None ∷ cs) (suc i) s h e = sound_at level n cs i s h e
  sound_at level n (Some q ∷ cs) zero s h e = let w : q ≡ s = cc in rw w at h.1
  sound_at level n (Some q ∷ cs) (suc i) s h e = sound_at level n cs i s h.2 e

module _ {R X : Type 0} (is : R → Bool) (level : ℕ) where
  -- the range of a key that is held once, at whichever place
  pub ends_at_place : (cs : List (Cell R X)) (i : ℕ) (s : Slot R X) → Once is cs → get_or cs i None ≡ Some s → is s.key ≡ true → ends is level cs ≡ (s.count, capped (s.count + s.mark))
  ends_at_place [] i s h e t = let z : ◌≡◌ {A = ℕ} 0 1 = cc in absurd (omega arith)
  ends_at_place (None ∷ cs) zero s h e t = let z : ◌≡◌ {A = ℕ} 0 1 = cc in absurd (omega arith)
  ends_at_place (None ∷ cs) (suc i) s h e t = ends_at_place cs i s h e t
  ends_at_place (Some q ∷ cs) zero s h e t = let w : q ≡ s = cc in rw (w, t) refl
  ends_at_place (Some q ∷ cs) (suc i) s h e t =
      ⊎_elim
      (λ (b : is q.key ≡ true).
      let z : true ≡ false = sym t ∙ absent_at is cs i s (h.0 b) e in
      let zz : ◌≡◌ {A = ℕ} 0 1 = cc in absurd (omega arith))
      (λ (b : is q.key ≡ false). rw b (ends_at_place cs i s h.1 e t))
      (cases_Bool (is q.key))

module _ {K R X : Type 0} (alike : K → K → Bool) (reads : R → Option K) where
  -- a sound cell holds a key, at whichever place
  pub key_of_place : (level n : ℕ) (cs : List (Cell R X)) (i : ℕ) (s : Slot R X) → Sound alike reads level n cs → get_or cs i None ≡ Some s → (k : K) × (reads s.key ≡ Some k)
  key_of_place level n [] i s h e = let z : ◌≡◌ {A = ℕ} 0 1 = cc in absurd (omega arith)
  key_of_place level n (None ∷ cs) zero s h e = let z : ◌≡◌ {A = ℕ} 0 1 = cc in absurd (omega arith)
  key_of_place level n (None ∷ cs) (suc i) s h e = key_of_place level n cs i s h e
  key_of_place level n (Some q ∷ cs) zero s h e =
      let w : q ≡ s = cc in (h.0.0, sym (ap (λ (y : Slot R X). reads y.key) w) ∙ h.0.1)
  key_of_place level n (Some q ∷ cs) (suc i) s h e = key_of_place level n cs i s h.2 e
