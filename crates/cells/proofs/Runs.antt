-- a whole run of arrivals leads where the method of Misra and Gries leads, and the sum for n stays exact
use Rattle.std.proofs.Common.{◌≡◌, ℕ, ◌+◌, ◌*◌, ◌<◌, ◌≤◌, Bool, true, false, List, [], ◌∷◌, ◌++◌, map, length, Some, None, Option, sym, refl, ap, ◌∙◌, mul-add, arith, is_none}
use mathlib.Core.List.{Permᴰ}
use Rattle.std.proofs.lemmas.Bool.{lt-ltb, le-ltb}
use Rattle.std.proofs.lemmas.List.{length-map}
use Rattle.std.proofs.lemmas.List.Sums.{fold_push}
use Rattle.std.specs.Cmp.{IsEquivalence}
use Rattle.std.specs.List.{position_from}
use Rattle.cells.specs.Cells.{capped, cells_after, counted, level_after, rule_for, taken_by, worn}
use Rattle.keys.specs.OfKey.{of_key}
use Rattle.cells.specs.MisraGries.{Summary, decremented, has_counter, incremented, misra_gries, not_zero, less_one, with_arrival}
use Rattle.cells.specs.Vouched.{Absent, Ran, counted_keys, counters}
use Rattle.cells.specs.Cells.{Cell}
use Rattle.cells.specs.declared.cell.Slot.{Slot}
use Rattle.cells.proofs.Bounds.{level_share}
use Rattle.cells.proofs.ByRule.{by_rule}
use Rattle.cells.proofs.Changed.{changed, first_none, length_changed}
use Rattle.cells.proofs.Counters.{counters_counted, counters_entered, counters_raised}
use Rattle.cells.proofs.Kept.{level_below, note_kept}
use Rattle.cells.proofs.Literature.{has_not, has_one, keys_counted, keys_entered, keys_full, keys_raised, keys_room}
use Rattle.cells.proofs.Perms.{perm_has, perm_kept, perm_length, perm_map}

-- an arrival at a key that has a counter, at one that has none while there is room, and at one that finds no room
module _ {K : Type 0} (alike : K → K → Bool) (k : ℕ) (s : Summary K) (x : K) where
  arrival_held : has_counter alike x s.entries ≡ true → with_arrival alike k s x ≡ record { entries = map (incremented alike x) s.entries; decrements = s.decrements }
  arrival_held h = rw h refl

  arrival_room : has_counter alike x s.entries ≡ false → length s.entries < k → with_arrival alike k s x ≡ record { entries = (x, 1) ∷ s.entries; decrements = s.decrements }
  arrival_room h l = rw (h, lt-ltb (length s.entries) k l) refl

  arrival_full : has_counter alike x s.entries ≡ false → k ≤ length s.entries → with_arrival alike k s x ≡ record { entries = decremented s.entries; decrements = s.decrements + 1 }
  arrival_full h l = rw (h, le-ltb (length s.entries) k l) refl

-- the exact part of a run: the sum for n, and the summary
record Exact {K R X : Type 0} (alike : K → K → Bool) (reads : R → Option K) (k n : ℕ) (s : Summary K) (cs : List (Cell R X)) (level : ℕ) : Type 0 where
  size : length cs ≡ k
  total : n ≡ (k + 1) * level + counters level cs
  same_counters : Permᴰ (counted_keys alike reads level cs) s.entries
  same_decrements : level ≡ s.decrements

module _ {K R X : Type 0} (alike : K → K → Bool) (reads : R → Option K) (law : IsEquivalence alike) (key : K) (r : R) (restored : reads r ≡ Some key) (x : X) (cs : List (Cell R X)) (level n : ℕ) (xs : List K) where
  abbrev of : R → Bool
  of = of_key alike reads key

  abbrev summary : Summary K
  summary = misra_gries alike (length cs) xs

  abbrev Next : List (Cell R X) → ℕ → Type 0
  Next ds lv = Exact alike reads (length cs) (n + 1) (with_arrival alike (length cs) summary key) ds lv

  abbrev new : Slot R X
  new = record { key = r; count = 1; mark = level; beside = x }

  count_exact : (i : ℕ) → n < 100_000_000 → position_from (taken_by of) 0 cs ≡ Some i → Ran alike reads cs level n xs → Next (changed (taken_by of) counted cs) level
  count_exact i few e v =
      let sound = v.vouched.sound in
      let has = sym (perm_has alike key v.same_counters) ∙ has_one alike reads law key level n cs 0 i sound e in
      let q = counters_counted alike reads of level n cs 0 i few sound e in
      let w = v.total in
      rw (arrival_held alike (length cs) summary key has) (record {
        size = length_changed (taken_by of) counted cs;
        total = rw q (omega arith);
        same_counters = rw (keys_counted alike reads law key level n cs few sound) (perm_map (incremented alike key) v.same_counters);
        same_decrements = v.same_decrements;
      })

  enter_exact : (i : ℕ) → Absent of cs → position_from is_none 0 cs ≡ Some i → Ran alike reads cs level n xs → Next (changed is_none (λ (c : Cell R X). Some new) cs) level
  enter_exact i out e v =
      let sound = v.vouched.sound in
      let has = sym (perm_has alike key v.same_counters) ∙ has_not alike reads law key level n cs sound out in
      let room = keys_room alike reads law level cs 0 i e in
      let same = perm_length v.same_counters in
      let l : length summary.entries < length cs = omega arith in
      let q = counters_entered level new (omega arith) cs 0 i e in
      let w = v.total in
      rw (arrival_room alike (length cs) summary key has l) (record {
        size = length_changed is_none (λ (c : Cell R X). Some new) cs;
        total = rw q (omega arith);
        same_counters = Permᴰ.trans (keys_entered alike reads law key level new restored (omega arith) cs 0 i e) (Permᴰ.cons refl v.same_counters);
        same_decrements = v.same_decrements;
      })

  raise_exact : Absent of cs → position_from is_none 0 cs ≡ None → Ran alike reads cs level n xs → Next (map (worn (level + 1)) cs) (level + 1)
  raise_exact out e v =
      let sound = v.vouched.sound in
      let has = sym (perm_has alike key v.same_counters) ∙ has_not alike reads law key level n cs sound out in
      let full = keys_full alike reads law level n cs 0 sound e in
      let same = perm_length v.same_counters in
      let l : length cs ≤ length summary.entries = omega arith in
      let q = counters_raised alike reads level n cs 0 sound e in
      let w = v.total in
      let m = mul-add (length cs + 1) level 1 in
      let d = v.same_decrements in
      rw (arrival_full alike (length cs) summary key has l) (record {
        size = length-map cs (worn (level + 1));
        total = omega arith;
        same_counters = rw (keys_raised alike reads law level n cs sound) (perm_kept not_zero (perm_map less_one v.same_counters));
        same_decrements = ap (λ (m : ℕ). m + 1) d;
      })

  pub note_ran : n < 100_000_000 → Ran alike reads cs level n xs → Ran alike reads (cells_after level r x cs (rule_for of cs)) (level_after level (rule_for of cs)) (n + 1) (xs ++ key ∷ [])
  note_ran few v =
      let ds = cells_after level r x cs (rule_for of cs) in
      let lv = level_after level (rule_for of cs) in
      let le = level_below alike reads cs level n xs v.vouched in
      let up : capped (level + 1) ≡ level + 1 = omega arith in
      let exact : Next ds lv =
      by_rule Next of level r x cs
      (λ i e. count_exact i few e v)
      (λ i f e. enter_exact i (first_none of cs 0 f) e v)
      (λ f e. rw up (raise_exact (first_none of cs 0 f) e v)) in
      let step : misra_gries alike (length ds) (xs ++ key ∷ []) ≡ with_arrival alike (length cs) summary key =
      ap (λ (k : ℕ). misra_gries alike k (xs ++ key ∷ [])) exact.size ∙ fold_push (with_arrival alike (length cs)) (record { entries = []; decrements = 0 }) xs key in
      let vouches = note_kept alike reads law key r restored x cs level n xs few v.vouched in
      record {
        vouched = vouches;
        share = level_share alike reads ds lv (n + 1) (xs ++ key ∷ []) vouches;
        total = exact.total ∙ ap (λ (k : ℕ). (k + 1) * lv + counters lv ds) (sym exact.size);
        same_counters = rw step exact.same_counters;
        same_decrements = exact.same_decrements ∙ ap (λ (s : Summary K). s.decrements) (sym step);
      }
