-- the range of a key after each of the three rules
use Rattle.std.proofs.Common.{◌≡◌, ℕ, ◌+◌, ◌<◌, ◌≤◌, Bool, true, false, eqb, List, [], ◌∷◌, map, Some, Option, unwrap_or, refl, ap, ◌∙◌, ⊎_elim, arith, None, is_none}
use Rattle.std.proofs.lemmas.Bool.{cases_Bool, eqb-true}
use Rattle.std.specs.List.{position_from}
use Rattle.cells.specs.Cells.{capped, cell_ends, counted, ends, taken_by, worn}
use Rattle.cells.specs.Vouched.{Absent, Sound}
use Rattle.cells.specs.Cells.{Cell}
use Rattle.cells.specs.declared.cell.Slot.{Slot}
use Rattle.cells.proofs.Changed.{changed}

module _ {R X : Type 0} (is : R → Bool) (level : ℕ) where
  pub ends_at : (s : Slot R X) (cs : List (Cell R X)) → is s.key ≡ true → ends is level (Some s ∷ cs) ≡ (s.count, capped (s.count + s.mark))
  ends_at s cs e = rw e refl

  pub ends_on : (s : Slot R X) (cs : List (Cell R X)) → is s.key ≡ false → ends is level (Some s ∷ cs) ≡ ends is level cs
  ends_on s cs e = rw e refl

  -- a key that no cell holds
  pub ends_absent : (cs : List (Cell R X)) → Absent is cs → ends is level cs ≡ (0, level)
  ends_absent [] h = refl
  ends_absent (None ∷ cs) h = ends_absent cs h.1
  ends_absent (Some s ∷ cs) h = ends_on s cs h.0 ∙ ends_absent cs h.1

-- a key is counted: the range of another key
pub count_other : {R X : Type 0} (is is0 : R → Bool) (level : ℕ) → ((r : R) → is0 r ≡ true → is r ≡ false) → (cs : List (Cell R X)) → ends is level (changed (taken_by is0) counted cs) ≡ ends is level cs
count_other is is0 level far [] = refl
count_other is is0 level far (None ∷ cs) = count_other is is0 level far cs
count_other is is0 level far (Some s ∷ cs) =
    ⊎_elim
    (λ (e : is0 s.key ≡ true). let z : is s.key ≡ false = far s.key e in rw (e, z) refl)
    (λ (e : is0 s.key ≡ false). ⊎_elim (λ (z : is s.key ≡ true). rw (e, z) refl) (λ (z : is s.key ≡ false). rw (e, z) (count_other is is0 level far cs)) (cases_Bool (is s.key)))
    (cases_Bool (is0 s.key))

-- and of the same key, where its cell has room
pub count_same : {R X : Type 0} (is is0 : R → Bool) (level n : ℕ) → ((r : R) → is r ≡ is0 r) → n < 100_000_000 → level ≤ n → {K : Type 0} (alike : K → K → Bool) (reads : R → Option K) (cs : List (Cell R X)) (j i : ℕ) → Sound alike reads level n cs → position_from (taken_by is0) j cs ≡ Some i →
    ((ends is level (changed (taken_by is0) counted cs)).0 ≡ (ends is level cs).0 + 1) × ((ends is level (changed (taken_by is0) counted cs)).1 ≡ (ends is level cs).1 + 1)
count_same is is0 level n one few le alike reads [] j i sound e = let z : ◌≡◌ {A = ℕ} 0 1 = cc in absurd (omega arith)
count_same is is0 level n one few le alike reads (None ∷ cs) j i sound e = count_same is is0 level n one few le alike reads cs (j + 1) i sound e
count_same is is0 level n one few le alike reads (Some s ∷ cs) j i sound e =
    ⊎_elim
    (λ (h : is0 s.key ≡ true). let z : is s.key ≡ true = one s.key ∙ h in
    let live = sound.1 in
    rw (h, z) (omega arith, omega arith))
    (λ (h : is0 s.key ≡ false). let z : is s.key ≡ false = one s.key ∙ h in
    rw (h, z) (count_same is is0 level n one few le alike reads cs (j + 1) i sound.2 (rw h at e)))
    (cases_Bool (is0 s.key))

-- a key enters: the range of another key, and of the key itself
pub enter_other : {R X : Type 0} (is : R → Bool) (level : ℕ) (new : Slot R X) → is new.key ≡ false → (cs : List (Cell R X)) → ends is level (changed is_none (λ (c : Cell R X). Some new) cs) ≡ ends is level cs
enter_other is level new far [] = refl
enter_other is level new far (None ∷ cs) = rw far refl
enter_other is level new far (Some s ∷ cs) = ap (λ (v : ℕ × ℕ). unwrap_or (cell_ends is (Some s)) v) (enter_other is level new far cs)

pub enter_same : {R X : Type 0} (is : R → Bool) (level : ℕ) (new : Slot R X) → is new.key ≡ true → (cs : List (Cell R X)) (j i : ℕ) → Absent is cs → position_from is_none j cs ≡ Some i → ends is level (changed is_none (λ (c : Cell R X). Some new) cs) ≡ (new.count, capped (new.count + new.mark))
enter_same is level new one [] j i h e = let z : ◌≡◌ {A = ℕ} 0 1 = cc in absurd (omega arith)
enter_same is level new one (None ∷ cs) j i h e = rw one refl
enter_same is level new one (Some s ∷ cs) j i h e = let z : is s.key ≡ false = h.0 in rw z (enter_same is level new one cs (j + 1) i h.1 e)

-- the level grows
pub absent_worn : {R X : Type 0} (is : R → Bool) (level : ℕ) (cs : List (Cell R X)) → Absent is cs → Absent is (map (worn level) cs)
absent_worn is level [] h = tt
absent_worn is level (None ∷ cs) h = (refl, absent_worn is level cs h.1)
absent_worn is level (Some s ∷ cs) h =
    (⊎_elim (λ (e : eqb (s.count + s.mark) level ≡ true). rw e refl) (λ (e : eqb (s.count + s.mark) level ≡ false). rw e h.0) (cases_Bool (eqb (s.count + s.mark) level)), absent_worn is level cs h.1)

abbrev pub Once : {R X : Type 0} → (R → Bool) → List (Cell R X) → Type 0
Once is [] = Unit {0}
Once is (None ∷ cs) = Once is cs
Once is (Some s ∷ cs) = (is s.key ≡ true → Absent is cs) × Once is cs

pub raise_other : {R X : Type 0} (is : R → Bool) (level : ℕ) (cs : List (Cell R X)) → Once is cs →
    ((ends is (level + 1) (map (worn (level + 1)) cs)).0 ≤ (ends is level cs).0) × ((ends is level cs).1 ≤ (ends is (level + 1) (map (worn (level + 1)) cs)).1)
raise_other is level [] h = (omega arith, omega arith)
raise_other is level (None ∷ cs) h = raise_other is level cs h
raise_other is level (Some s ∷ cs) h =
    ⊎_elim
    (λ (e : eqb (s.count + s.mark) (level + 1) ≡ true). ⊎_elim
    (λ (z : is s.key ≡ true). let n = eqb-true (s.count + s.mark) (level + 1) e in
    rw (e, z, ends_absent is (level + 1) (map (worn (level + 1)) cs) (absent_worn is (level + 1) cs (h.0 z))) (omega arith, omega arith))
    (λ (z : is s.key ≡ false). rw (e, z) (raise_other is level cs h.1))
    (cases_Bool (is s.key)))
    (λ (e : eqb (s.count + s.mark) (level + 1) ≡ false). ⊎_elim
    (λ (z : is s.key ≡ true). rw (e, z) (omega arith, omega arith))
    (λ (z : is s.key ≡ false). rw (e, z) (raise_other is level cs h.1))
    (cases_Bool (is s.key)))
    (cases_Bool (eqb (s.count + s.mark) (level + 1)))
