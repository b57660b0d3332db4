-- keys and counters in cells follow the method of Misra and Gries, rule by rule
use Rattle.std.proofs.Common.{◌≡◌, ℕ, suc, ◌+◌, ◌-◌, ◌<◌, ◌≤◌, Bool, true, false, eqb, ltb, List, [], ◌∷◌, map, length, Some, None, Option, sym, refl, ap, ◌∙◌, ⊎_elim, arith, is_none}
use mathlib.Core.List.Permᴰ
use mathlib.Core.List.{Permᴰ}
use Rattle.std.proofs.lemmas.Bool.{cases_Bool, eqb-true, eqb-false, lt-ltb, le-ltb}
use Rattle.std.specs.Cmp.{IsEquivalence}
use Rattle.std.specs.List.{position_from}
use Rattle.cells.specs.Cells.{capped, counted, taken_by, worn}
use Rattle.keys.specs.OfKey.{of_key}
use Rattle.cells.specs.MisraGries.{decremented, has_counter, incremented}
use Rattle.cells.specs.Vouched.{Absent, Sound, counted_keys}
use Rattle.cells.specs.Cells.{Cell}
use Rattle.cells.specs.declared.cell.Slot.{Slot}
use Rattle.cells.proofs.Changed.{changed}
use Rattle.tally.proofs.OfKey.{agree, of_key_at}
use Rattle.tally.proofs.Options.{cases_option}
use Rattle.cells.proofs.Sounds.{absent_agree}

module _ {K R X : Type 0} (alike : K → K → Bool) (reads : R → Option K) (law : IsEquivalence alike) where
  abbrev keys : ℕ → List (Cell R X) → List (K × ℕ)
  keys = counted_keys alike reads

  -- a key that no cell holds has no counter, and counting it changes none
  pub has_not : (x : K) (level n : ℕ) (cs : List (Cell R X)) → Sound alike reads level n cs → Absent (of_key alike reads x) cs → has_counter alike x (keys level cs) ≡ false
  has_not x level n [] h out = refl
  has_not x level n (None ∷ cs) h out = has_not x level n cs h out.1
  has_not x level n (Some s ∷ cs) h out =
      let f : alike x h.0.0 ≡ false = sym (of_key_at alike reads law x h.0.0 s.key h.0.1) ∙ out.0 in
      rw (h.0.1, f) (has_not x level n cs h.2 out.1)

  incremented_none : (x : K) (level n : ℕ) (cs : List (Cell R X)) → Sound alike reads level n cs → Absent (of_key alike reads x) cs → map (incremented alike x) (keys level cs) ≡ keys level cs
  incremented_none x level n [] h out = refl
  incremented_none x level n (None ∷ cs) h out = incremented_none x level n cs h out.1
  incremented_none x level n (Some s ∷ cs) h out =
      let k = h.0.0 in
      let f : alike x k ≡ false = sym (of_key_at alike reads law x k s.key h.0.1) ∙ out.0 in
      rw (h.0.1, f) (ap (λ (t : List (K × ℕ)). (k, s.count + s.mark - level) ∷ t) (incremented_none x level n cs h.2 out.1))

  -- a key that a cell holds has a counter
  pub has_one : (x : K) (level n : ℕ) (cs : List (Cell R X)) (j i : ℕ) → Sound alike reads level n cs → position_from (taken_by (of_key alike reads x)) j cs ≡ Some i → has_counter alike x (keys level cs) ≡ true
  has_one x level n [] j i h e = let z : ◌≡◌ {A = ℕ} 0 1 = cc in absurd (omega arith)
  has_one x level n (None ∷ cs) j i h e = has_one x level n cs (j + 1) i h e
  has_one x level n (Some s ∷ cs) j i h e =
      let k = h.0.0 in
      let at = of_key_at alike reads law x k s.key h.0.1 in
      ⊎_elim
      (λ (t : of_key alike reads x s.key ≡ true). let f : alike x k ≡ true = sym at ∙ t in rw (h.0.1, f) refl)
      (λ (t : of_key alike reads x s.key ≡ false).
      let f : alike x k ≡ false = sym at ∙ t in
      rw (h.0.1, f) (has_one x level n cs (j + 1) i h.2 (rw t at e)))
      (cases_Bool (of_key alike reads x s.key))

  -- a key is counted
  pub keys_counted : (x : K) (level n : ℕ) (cs : List (Cell R X)) → n < 100_000_000 → Sound alike reads level n cs → keys level (changed (taken_by (of_key alike reads x)) counted cs) ≡ map (incremented alike x) (keys level cs)
  keys_counted x level n [] few h = refl
  keys_counted x level n (None ∷ cs) few h = keys_counted x level n cs few h
  keys_counted x level n (Some s ∷ cs) few h =
      let k = h.0.0 in
      let l = h.1 in
      let at = of_key_at alike reads law x k s.key h.0.1 in
      ⊎_elim
      (λ (t : of_key alike reads x s.key ≡ true).
      let f : alike x k ≡ true = sym at ∙ t in
      let gone = absent_agree (of_key alike reads x) (of_key alike reads k) (agree alike reads law x k f) cs h.0.2 in
      let c : capped (s.count + 1) + s.mark - level ≡ s.count + s.mark - level + 1 = omega arith in
      rw (t, h.0.1, f, c, incremented_none x level n cs h.2 gone) refl)
      (λ (t : of_key alike reads x s.key ≡ false).
      let f : alike x k ≡ false = sym at ∙ t in
      rw (t, h.0.1, f) (ap (λ (r : List (K × ℕ)). (k, s.count + s.mark - level) ∷ r) (keys_counted x level n cs few h.2)))
      (cases_Bool (of_key alike reads x s.key))

  -- a key enters, where a cell is free
  pub keys_entered : (x : K) (level : ℕ) (new : Slot R X) → reads new.key ≡ Some x → new.count + new.mark ≡ level + 1 → (cs : List (Cell R X)) (j i : ℕ) → position_from is_none j cs ≡ Some i → Permᴰ (keys level (changed is_none (λ (c : Cell R X). Some new) cs)) ((x, 1) ∷ keys level cs)
  keys_entered x level new is one [] j i e = let z : ◌≡◌ {A = ℕ} 0 1 = cc in absurd (omega arith)
  keys_entered x level new is one (None ∷ cs) j i e =
      let c : new.count + new.mark - level ≡ 1 = omega arith in rw (is, c) (Permᴰ.refl ((x, 1) ∷ keys level cs))
  keys_entered x level new is one (Some s ∷ cs) j i e =
      let rest = keys_entered x level new is one cs (j + 1) i e in
      ⊎_elim
      (λ (t : reads s.key ≡ None). rw t rest)
      (λ (t : (k : K) × (reads s.key ≡ Some k)). rw t.1 (Permᴰ.trans (Permᴰ.cons refl rest) (Permᴰ.swap refl refl)))
      (cases_option (reads s.key))

  -- the level grows
  pub keys_raised : (level n : ℕ) (cs : List (Cell R X)) → Sound alike reads level n cs → keys (level + 1) (map (worn (level + 1)) cs) ≡ decremented (keys level cs)
  keys_raised level n [] h = refl
  keys_raised level n (None ∷ cs) h = keys_raised level n cs h
  keys_raised level n (Some s ∷ cs) h =
      let k = h.0.0 in
      let l = h.1 in
      let c = s.count + s.mark - level in
      ⊎_elim
      (λ (t : eqb (s.count + s.mark) (level + 1) ≡ true).
      let q = eqb-true (s.count + s.mark) (level + 1) t in
      let z : ltb 0 (c - 1) ≡ false = le-ltb 0 (c - 1) (omega arith) in
      rw (t, h.0.1, z) (keys_raised level n cs h.2))
      (λ (t : eqb (s.count + s.mark) (level + 1) ≡ false).
      let ne = eqb-false (s.count + s.mark) (level + 1) t in
      let z : ltb 0 (c - 1) ≡ true = lt-ltb 0 (c - 1) (omega (arith, ne)) in
      let d : s.count + s.mark - (level + 1) ≡ c - 1 = omega arith in
      rw (t, h.0.1, z, d) (ap (λ (r : List (K × ℕ)). (k, c - 1) ∷ r) (keys_raised level n cs h.2)))
      (cases_Bool (eqb (s.count + s.mark) (level + 1)))

  keys_few : (level : ℕ) (cs : List (Cell R X)) → length (keys level cs) ≤ length cs
  keys_few level [] = omega arith
  keys_few level (None ∷ cs) = let r = keys_few level cs in omega arith
  keys_few level (Some s ∷ cs) =
      let r = keys_few level cs in
      ⊎_elim
      (λ (t : reads s.key ≡ None). rw t (omega arith))
      (λ (t : (k : K) × (reads s.key ≡ Some k)). rw t.1 (omega arith))
      (cases_option (reads s.key))

  -- a free cell is one that has no key
  pub keys_room : (level : ℕ) (cs : List (Cell R X)) (j i : ℕ) → position_from is_none j cs ≡ Some i → length (keys level cs) < length cs
  keys_room level [] j i e = let z : ◌≡◌ {A = ℕ} 0 1 = cc in absurd (omega arith)
  keys_room level (None ∷ cs) j i e = let r = keys_few level cs in omega arith
  keys_room level (Some s ∷ cs) j i e =
      let r = keys_room level cs (j + 1) i e in
      ⊎_elim
      (λ (t : reads s.key ≡ None). rw t (omega arith))
      (λ (t : (k : K) × (reads s.key ≡ Some k)). rw t.1 (omega arith))
      (cases_option (reads s.key))

  pub keys_full : (level n : ℕ) (cs : List (Cell R X)) (j : ℕ) → Sound alike reads level n cs → position_from is_none j cs ≡ None → length (keys level cs) ≡ length cs
  keys_full level n [] j h e = refl
  keys_full level n (None ∷ cs) j h e = let z : ◌≡◌ {A = ℕ} 0 1 = cc in absurd (omega arith)
  keys_full level n (Some s ∷ cs) j h e = rw h.0.1 (ap suc (keys_full level n cs (j + 1) h.2 e))
