-- what a ring that vouches for a list owes: ranges, width and ceiling
use Rattle.std.proofs.Common.{◌≡◌, ℕ, zero, suc, ◌+◌, ◌*◌, ◌/◌, ◌<◌, ◌≤◌, min, Bool, false, ◌⊎◌, List, ◌++◌, length, Option, sym, refl, ap, ◌∙◌, inl, inr, ⊎_elim, mul-le-mul_right, suc-mul, mul_comm, add-one, arith}
use Rattle.std.proofs.lemmas.Nat.{div-mul-add, le-div, mod-mul-add, mul-le}
use Rattle.std.proofs.lemmas.List.{append_assoc, length-append}
use Rattle.std.proofs.lemmas.Bool.{cases_lt, eq-eqb, le-leb, lt-ltb}
use Rattle.cells.proofs.Bounds.{absent_from, high_covered, narrow}
use Rattle.cells.proofs.Kept.{level_below}
use Rattle.cells.proofs.Ranges.{ends_absent}
use Rattle.cells.specs.Cells.{Cell, key_at}
use Rattle.keys.specs.OfKey.{of_key}
use Rattle.tally.proofs.Counts.{held_nowhere}
use Rattle.tally.specs.Arrivals.{occurs, true_count}
use Rattle.tally.specs.Owed.{Contains, held_below, holds}
use Rattle.panering.specs.Panes.{high_back, inside, kept, level_back, low_back, pane_back, ring_high, ring_key, ring_low, ring_reach, ring_spots, ring_top, ring_width, slot_back, sum_below, tail}
use Rattle.panering.specs.Ringed.{Ringed, size_back, stretch}
use Rattle.panering.specs.declared.shape.Shape.{Shape}
use Rattle.parts.proofs.Areas.{length_part, slot_room}
use Rattle.panering.proofs.Slots.{slot_below}
use Rattle.panering.proofs.Stretches.{end_inside, latest_inside, length_stretch, occurs_stretch, sum_both, sum_grows, sum_le, sum_same, sum_times}

-- how many arrivals the first panes have
sum_sizes : (s : Shape) (m : ℕ) → sum_below (size_back s) (suc m) ≡ s.filled + m * s.length
sum_sizes s zero = omega arith
sum_sizes s (suc m) = let r = sum_sizes s m in let a = suc-mul m s.length in omega arith

-- and that those within reach have no more than the reach
sizes_below : (s : Shape) (m : ℕ) → 1 ≤ m → m ≤ s.panes → s.filled < s.length → sum_below (size_back s) m ≤ ring_reach s
sizes_below s zero some l f = absurd (omega arith)
sizes_below s (suc m) some l f =
    let r = sum_sizes s m in
    let a : (m + 1) * s.length ≤ s.panes * s.length = mul-le-mul_right s.length (omega arith) in
    omega arith

module _ {K R X : Type 0} (alike : K → K → Bool) (reads : R → Option K) (s : Shape) (levels : List ℕ) (cs : List (Cell R X)) (n : ℕ) (xs : List K) (v : Ringed alike reads s levels cs n xs) where
  abbrev seg : ℕ → List K
  seg = v.segments

  abbrev low : K → ℕ → ℕ
  low k = low_back (of_key alike reads k) s levels cs

  abbrev high : K → ℕ → ℕ
  high k = high_back (of_key alike reads k) s levels cs

  abbrev level : ℕ → ℕ
  level = level_back s levels

  -- the tail stands behind the panes within reach, where there is one
  split : ((s.complete < s.panes) × (inside s ≡ kept s)) ⊎ ((s.complete ≡ s.panes) × (inside s ≡ s.panes))
  split =
      ⊎_elim
      (λ (l : s.complete < s.panes). inl (l, omega arith))
      (λ (l : s.panes ≤ s.complete). inr (omega arith, omega arith))
      (cases_lt s.complete s.panes)

  inside_few : inside s ≤ kept s
  inside_few = omega arith

  seg_sizes : (m : ℕ) → m ≤ kept s → length (stretch seg m) ≡ sum_below (size_back s) m
  seg_sizes m l = length_stretch seg m ∙ sum_same (λ j. length (seg j)) (size_back s) m (λ j h. (v.each j (omega arith)).long)

  -- a list ends in the stretch of the panes within reach
  ending : (front : List K) × (xs ≡ front ++ stretch seg (inside s))
  ending =
      ⊎_elim
      (λ (a : (s.complete < s.panes) × (inside s ≡ kept s)). (v.older, v.joined ∙ ap (λ (m : ℕ). v.older ++ stretch seg m) (sym a.1)))
      (λ (b : (s.complete ≡ s.panes) × (inside s ≡ s.panes)).
      let e : kept s ≡ suc (inside s) = omega (arith, b.0, b.1) in
      (v.older ++ seg (inside s), v.joined ∙ ap (λ (m : ℕ). v.older ++ stretch seg m) e ∙ sym (append_assoc v.older (seg (inside s)) (stretch seg (inside s)))))
      split

  inside_short : length (stretch seg (inside s)) ≤ min n (ring_reach s)
  inside_short =
      let e = seg_sizes (inside s) inside_few in
      let b = sizes_below s (inside s) (omega arith) (omega arith) v.sized.unfilled in
      let f = ending in
      let a = ap length f.1 ∙ length-append f.0 (stretch seg (inside s)) in
      omega arith

  kept_sizes : sum_below (size_back s) (kept s) ≡ s.filled + s.complete * s.length
  kept_sizes = ap (sum_below (size_back s)) (add-one s.complete) ∙ sum_sizes s s.complete

  kept_long : min n (ring_reach s) ≤ length (stretch seg (kept s))
  kept_long =
      let e = seg_sizes (kept s) (omega arith) in
      let a = ap length v.joined ∙ length-append v.older (stretch seg (kept s)) in
      ⊎_elim
      (λ (p : (s.complete < s.panes) × (inside s ≡ kept s)). let o = ap length (v.whole p.0) in omega arith)
      (λ (p : (s.complete ≡ s.panes) × (inside s ≡ s.panes)).
      let z = kept_sizes in
      let w : ring_reach s ≡ s.complete * s.length = ap (λ (c : ℕ). c * s.length) (sym p.0) in
      omega arith)
      split

  -- all kept panes together are small
  kept_small : sum_below (size_back s) (kept s) ≤ 5_000_000
  kept_small =
      let a = kept_sizes in
      let b = mul-le s.complete s.length 64 65535 (omega arith) v.sized.short in
      omega arith

  highs_small : (k : K) (m : ℕ) → m ≤ kept s → sum_below (high k) m ≤ sum_below (size_back s) m
  highs_small k m l = sum_le (high k) (size_back s) m (λ j h. high_covered alike reads (of_key alike reads k) (pane_back s cs j) (level j) (size_back s j) (seg j) (v.each j (omega arith)))

  levels_small : (m : ℕ) → m ≤ kept s → sum_below level m ≤ sum_below (size_back s) m
  levels_small m l = sum_le level (size_back s) m (λ j h. level_below alike reads (pane_back s cs j) (level j) (size_back s j) (seg j) (v.each j (omega arith)))

  sizes_grow : (m : ℕ) → m ≤ kept s → sum_below (size_back s) m ≤ sum_below (size_back s) (kept s)
  sizes_grow m l = sum_grows (size_back s) m (kept s) l

  low_true : (k : K) → sum_below (low k) (inside s) ≤ true_count alike (min n (ring_reach s)) k xs
  low_true k =
      let a = sum_le (low k) (λ j. occurs alike k (seg j)) (inside s) (λ j h. ((v.each j (omega (arith, inside_few))).ranged k).0) in
      let b = occurs_stretch alike k seg (inside s) in
      let f = ending in
      let d = end_inside alike k (min n (ring_reach s)) f.0 (stretch seg (inside s)) inside_short in
      let e = ap (true_count alike (min n (ring_reach s)) k) f.1 in
      omega arith

  high_true : (k : K) → true_count alike (min n (ring_reach s)) k xs ≤ sum_below (high k) (kept s)
  high_true k =
      let a = sum_le (λ j. occurs alike k (seg j)) (high k) (kept s) (λ j h. ((v.each j (omega arith)).ranged k).1) in
      let b = occurs_stretch alike k seg (kept s) in
      let d = latest_inside alike k (min n (ring_reach s)) v.older (stretch seg (kept s)) kept_long in
      let e = ap (true_count alike (min n (ring_reach s)) k) v.joined in
      omega arith

  -- no sum is cut off
  low_whole : (k : K) → ring_low (of_key alike reads k) s levels cs ≡ sum_below (low k) (inside s)
  low_whole k =
      let a = sum_le (low k) (high k) (inside s) (λ j h. low_below_high j (omega (arith, inside_few)) k) in
      let b = highs_small k (inside s) inside_few in
      let d = sizes_grow (inside s) inside_few in
      let e = kept_small in
      omega arith
    where
      low_below_high : (j : ℕ) → j ≤ s.complete → (k : K) → low k j ≤ high k j
      low_below_high j h k = let r = (v.each j h).ranged k in omega arith

  high_whole : (k : K) → ring_high (of_key alike reads k) s levels cs ≡ sum_below (high k) (kept s)
  high_whole k = let b = highs_small k (kept s) (omega arith) in let e = kept_small in omega arith

  pub ring_contains : (k : K) → Contains alike (min n (ring_reach s)) k xs (ring_low (of_key alike reads k) s levels cs) (ring_high (of_key alike reads k) s levels cs)
  ring_contains k =
      let a = low_true k in
      let b = high_true k in
      let d = low_whole k in
      let e = high_whole k in
      let g = highs_small k (kept s) (omega arith) in
      let h = kept_small in
      record { from = omega arith; upto = omega arith; bounded = omega arith }

  size_past : (j : ℕ) → 1 ≤ j → size_back s j ≡ s.length
  size_past zero l = absurd (omega arith)
  size_past (suc j) l = refl

  tail_small : tail s ≤ s.length
  tail_small = grind arith

  width_whole : ring_width s levels ≡ sum_below level (inside s) + tail s
  width_whole =
      let a = levels_small (inside s) inside_few in
      let b = sizes_grow (inside s) inside_few in
      let d = kept_small in
      let e = tail_small in
      omega arith

  -- what the panes within reach leave open
  inside_narrow : (k : K) → sum_below (high k) (inside s) ≤ sum_below (low k) (inside s) + sum_below level (inside s)
  inside_narrow k =
      let a = sum_le (high k) (λ j. low k j + level j) (inside s) (λ j h. narrow alike reads (of_key alike reads k) (level j) (size_back s j) (pane_back s cs j) (v.each j (omega (arith, inside_few))).sound) in
      let b = sum_both (low k) level (inside s) in
      omega arith

  -- and what a tail adds
  tail_narrow : (k : K) → sum_below (high k) (kept s) ≤ sum_below (high k) (inside s) + tail s
  tail_narrow k =
      ⊎_elim
      (λ (a : (s.complete < s.panes) × (inside s ≡ kept s)). let e = ap (sum_below (high k)) a.1 in omega arith)
      (λ (b : (s.complete ≡ s.panes) × (inside s ≡ s.panes)).
      let e : kept s ≡ suc (inside s) = omega (arith, b.0, b.1) in
      let q = ap (sum_below (high k)) e in
      let h = high_covered alike reads (of_key alike reads k) (pane_back s cs (inside s)) (level (inside s)) (size_back s (inside s)) (seg (inside s)) (v.each (inside s) (omega (arith, b.0, b.1))) in
      let p = size_past (inside s) (omega (arith, b.1)) in
      rw (eq-eqb s.complete s.panes b.0) (omega arith))
      split

  pub ring_narrow : (k : K) → ring_high (of_key alike reads k) s levels cs ≤ ring_low (of_key alike reads k) s levels cs + ring_width s levels
  ring_narrow k =
      let a = low_whole k in
      let b = high_whole k in
      let d = width_whole in
      let e = inside_narrow k in
      let f = tail_narrow k in
      omega arith

  pub ring_width_bounded : ring_width s levels ≤ 200_000_000
  ring_width_bounded =
      let a = levels_small (inside s) inside_few in
      let b = sizes_grow (inside s) inside_few in
      let d = kept_small in
      let e = tail_small in
      omega arith

  pane_room : (j : ℕ) → j ≤ s.complete → slot_back s j * s.k + s.k ≤ length cs
  pane_room j h = slot_room s.k (slot_back s j) s.panes (length cs) (slot_below s j v.sized.turned (omega arith)) v.sized.room

  -- the width is at most b + W/(k + 1)
  pub ring_width_share : ring_width s levels ≤ s.length + ring_reach s / (s.k + 1)
  ring_width_share =
      let a = sum_le (λ j. (s.k + 1) * level j) (size_back s) (inside s) (λ j h.
      let c = (v.each j (omega (arith, inside_few))).covered in
      let n = length_part s.k (slot_back s j) cs (pane_room j (omega (arith, inside_few))) in
      let e = ap (λ (m : ℕ). (m + 1) * level j) n in
      omega arith) in
      let b = sum_times (s.k + 1) level (inside s) in
      let d = sizes_below s (inside s) (omega arith) (omega arith) v.sized.unfilled in
      let m = mul_comm (s.k + 1) (sum_below level (inside s)) in
      let e = le-div (sum_below level (inside s)) (ring_reach s) (s.k + 1) (omega arith) (omega arith) in
      let t = tail_small in
      let w = width_whole in
      omega arith

  -- the key at a place of a kept pane
  place_read : (j c : ℕ) → j ≤ s.complete → c < s.k → (j * s.k + c < ring_spots s) × (ring_key reads s cs (j * s.k + c) ≡ key_at reads (pane_back s cs j) c)
  place_read j c h l =
      let a : (j + 1) * s.k ≤ (s.panes + 1) * s.k = mul-le-mul_right s.k (omega arith) in
      let i : j * s.k + c < ring_spots s = omega arith in
      let q = div-mul-add j s.k c l in
      let r = mod-mul-add j s.k c l in
      (i, rw (lt-ltb (j * s.k + c) (ring_spots s) i, q, r, le-leb j s.complete h) refl)

  missed_high : (k : K) → held_below alike (ring_key reads s cs) k (ring_spots s) ≡ false → (j : ℕ) → j ≤ s.complete → high k j ≡ level j
  missed_high k out j h =
      let none = held_nowhere alike (ring_key reads s cs) k (ring_spots s) out in
      let n = length_part s.k (slot_back s j) cs (pane_room j h) in
      let gone = absent_from alike reads k (pane_back s cs j) (λ c l.
      let p = place_read j c h (omega arith) in
      sym (ap (holds alike k) p.1) ∙ none (j * s.k + c) p.0) in
      ap (λ (e : ℕ × ℕ). e.1) (ends_absent (of_key alike reads k) (level j) (pane_back s cs j) gone)

  pub ring_missed : (k : K) → held_below alike (ring_key reads s cs) k (ring_spots s) ≡ false → (ring_high (of_key alike reads k) s levels cs ≤ ring_top s levels) × (true_count alike (min n (ring_reach s)) k xs ≤ ring_top s levels)
  ring_missed k out =
      let e = sum_same (high k) level (kept s) (λ j h. missed_high k out j (omega arith)) in
      let a = (ring_contains k).upto in
      let b = high_whole k in
      (omega arith, omega arith)

  pub ring_top_bounded : ring_top s levels ≤ 200_000_000
  ring_top_bounded = let a = levels_small (kept s) (omega arith) in let d = kept_small in omega arith
