-- the three rules keep cells sound
use Rattle.std.proofs.Common.{◌≡◌, ℕ, ◌+◌, ◌<◌, Bool, true, false, eqb, List, [], ◌∷◌, map, Some, Option, sym, refl, ◌∙◌, ⊎_elim, arith, None, is_none}
use Rattle.std.proofs.lemmas.Bool.{cases_Bool, eqb-false}
use Rattle.std.specs.Cmp.{IsEquivalence}
use Rattle.cells.specs.Cells.{counted, taken_by, worn}
use Rattle.keys.specs.OfKey.{of_key}
use Rattle.cells.specs.Vouched.{Absent, Live, Sound}
use Rattle.cells.specs.Cells.{Cell}
use Rattle.cells.specs.declared.cell.Slot.{Slot}
use Rattle.cells.proofs.Changed.{changed}
use Rattle.tally.proofs.OfKey.{agree, of_key_at}
use Rattle.cells.proofs.Ranges.{Once, absent_worn}

pub absent_agree : {R X : Type 0} (is was : R → Bool) → ((r : R) → is r ≡ was r) → (cs : List (Cell R X)) → Absent was cs → Absent is cs
absent_agree is was e [] h = tt
absent_agree is was e (None ∷ cs) h = (refl, absent_agree is was e cs h.1)
absent_agree is was e (Some s ∷ cs) h = (e s.key ∙ h.0, absent_agree is was e cs h.1)

absent_counted : {R X : Type 0} (is of : R → Bool) (cs : List (Cell R X)) → Absent is cs → Absent is (changed (taken_by of) counted cs)
absent_counted is of [] h = tt
absent_counted is of (None ∷ cs) h = (refl, absent_counted is of cs h.1)
absent_counted is of (Some s ∷ cs) h =
    ⊎_elim
    (λ (t : of s.key ≡ true). rw t h)
    (λ (t : of s.key ≡ false). rw t (h.0, absent_counted is of cs h.1))
    (cases_Bool (of s.key))

absent_entered : {R X : Type 0} (is : R → Bool) (new : Slot R X) → is new.key ≡ false → (cs : List (Cell R X)) → Absent is cs → Absent is (changed is_none (λ (c : Cell R X). Some new) cs)
absent_entered is new far [] h = tt
absent_entered is new far (None ∷ cs) h = (far, h.1)
absent_entered is new far (Some s ∷ cs) h = (h.0, absent_entered is new far cs h.1)

module _ {K R X : Type 0} (alike : K → K → Bool) (reads : R → Option K) (law : IsEquivalence alike) where
  -- in sound cells a key is held once
  pub sound_once : (k : K) (level n : ℕ) (cs : List (Cell R X)) → Sound alike reads level n cs → Once (of_key alike reads k) cs
  sound_once k level n [] h = tt
  sound_once k level n (None ∷ cs) h = sound_once k level n cs h
  sound_once k level n (Some s ∷ cs) h = (
    λ e. absent_agree (of_key alike reads k) (of_key alike reads h.0.0) (agree alike reads law k h.0.0 (sym (of_key_at alike reads law k h.0.0 s.key h.0.1) ∙ e)) cs h.0.2,
    sound_once k level n cs h.2,
  )

  live_more : (level n : ℕ) (s : Slot R X) → Live level n s → Live level (n + 1) s
  live_more level n s l = record { ahead = l.ahead; marked = l.marked; some = l.some; within = omega arith }

  sound_more : (level n : ℕ) (cs : List (Cell R X)) → Sound alike reads level n cs → Sound alike reads level (n + 1) cs
  sound_more level n [] h = tt
  sound_more level n (None ∷ cs) h = sound_more level n cs h
  sound_more level n (Some s ∷ cs) h = (h.0, live_more level n s h.1, sound_more level n cs h.2)

  pub sound_counted : (of : R → Bool) (level n : ℕ) (cs : List (Cell R X)) → n < 100_000_000 → Sound alike reads level n cs → Sound alike reads level (n + 1) (changed (taken_by of) counted cs)
  sound_counted of level n [] few h = tt
  sound_counted of level n (None ∷ cs) few h = sound_counted of level n cs few h
  sound_counted of level n (Some s ∷ cs) few h =
      let l = h.1 in
      ⊎_elim
      (λ (t : of s.key ≡ true). rw t (h.0, record { ahead = omega arith; marked = l.marked; some = omega arith; within = omega arith }, sound_more level n cs h.2))
      (λ (t : of s.key ≡ false). rw t ((h.0.0, h.0.1, absent_counted (of_key alike reads h.0.0) of cs h.0.2), live_more level n s l, sound_counted of level n cs few h.2))
      (cases_Bool (of s.key))

  pub sound_entered : (k : K) (level n : ℕ) (new : Slot R X) → reads new.key ≡ Some k → Live level (n + 1) new → (cs : List (Cell R X)) → Absent (of_key alike reads k) cs → Sound alike reads level n cs → Sound alike reads level (n + 1) (changed is_none (λ (c : Cell R X). Some new) cs)
  sound_entered k level n new is live [] out h = tt
  sound_entered k level n new is live (None ∷ cs) out h = ((k, is, out.1), live, sound_more level n cs h)
  sound_entered k level n new is live (Some s ∷ cs) out h =
      let j = h.0.0 in
      let u : alike k j ≡ false = sym (of_key_at alike reads law k j s.key h.0.1) ∙ out.0 in
      let v : of_key alike reads j new.key ≡ false = of_key_at alike reads law j k new.key is ∙ (law.symm j k ∙ u) in
      ((j, h.0.1, absent_entered (of_key alike reads j) new v cs h.0.2), live_more level n s h.1, sound_entered k level n new is live cs out.1 h.2)

  pub sound_raised : (level n : ℕ) (cs : List (Cell R X)) → Sound alike reads level n cs → Sound alike reads (level + 1) (n + 1) (map (worn (level + 1)) cs)
  sound_raised level n [] h = tt
  sound_raised level n (None ∷ cs) h = sound_raised level n cs h
  sound_raised level n (Some s ∷ cs) h =
      let l = h.1 in
      ⊎_elim
      (λ (t : eqb (s.count + s.mark) (level + 1) ≡ true). rw t (sound_raised level n cs h.2))
      (λ (t : eqb (s.count + s.mark) (level + 1) ≡ false).
      let ne = eqb-false (s.count + s.mark) (level + 1) t in
      let more : level + 1 < s.count + s.mark = omega (arith, ne) in
      rw t (
        (h.0.0, h.0.1, absent_worn (of_key alike reads h.0.0) (level + 1) cs h.0.2),
        record { ahead = more; marked = omega arith; some = l.some; within = omega arith },
        sound_raised level n cs h.2,
      ))
      (cases_Bool (eqb (s.count + s.mark) (level + 1)))
