-- cells that vouch for a list vouch for it with one arrival more
use Rattle.std.proofs.Common.{◌≡◌, ℕ, ◌+◌, ◌<◌, ◌≤◌, Bool, true, false, List, [], ◌∷◌, ◌++◌, map, length, Some, None, Option, ap, ◌∙◌, ⊎_elim, add-mul, mul-add, arith, is_none}
use Rattle.std.proofs.lemmas.Bool.{cases_Bool}
use Rattle.std.proofs.lemmas.List.{length_push, length-map}
use Rattle.tally.proofs.Counts.{occurs_same, occurs_other}
use Rattle.std.specs.Cmp.{IsEquivalence}
use Rattle.std.specs.List.{position_from}
use Rattle.cells.specs.Cells.{capped, cells_after, counted, level_after, rule_for, taken_by, worn}
use Rattle.keys.specs.OfKey.{of_key}
use Rattle.cells.specs.Vouched.{Absent, Vouched}
use Rattle.cells.specs.Cells.{Cell}
use Rattle.cells.specs.declared.cell.Slot.{Slot}
use Rattle.cells.proofs.ByRule.{by_rule}
use Rattle.cells.proofs.Changed.{changed, first_none, length_changed}
use Rattle.cells.proofs.Counters.{counters_counted, counters_entered, counters_raised}
use Rattle.tally.proofs.OfKey.{agree, apart, of_key_at}
use Rattle.cells.proofs.Ranges.{absent_worn, count_other, count_same, ends_absent, enter_other, enter_same, raise_other}
use Rattle.cells.proofs.Sounds.{absent_agree, sound_counted, sound_entered, sound_once, sound_raised}

-- the level is at most n
pub level_below : {K R X : Type 0} (alike : K → K → Bool) (reads : R → Option K) (cs : List (Cell R X)) (level n : ℕ) (xs : List K) → Vouched alike reads cs level n xs → level ≤ n
level_below alike reads cs level n xs v = let m = add-mul (length cs) 1 level in let t = v.covered in omega arith

module _ {K R X : Type 0} (alike : K → K → Bool) (reads : R → Option K) (law : IsEquivalence alike) (key : K) (r : R) (restored : reads r ≡ Some key) (x : X) (cs : List (Cell R X)) (level n : ℕ) (xs : List K) where
  abbrev of : R → Bool
  of = of_key alike reads key

  abbrev Next : List (Cell R X) → ℕ → Type 0
  Next ds lv = Vouched alike reads ds lv (n + 1) (xs ++ key ∷ [])

  count_kept : (i : ℕ) → n < 100_000_000 → level ≤ n → position_from (taken_by of) 0 cs ≡ Some i → Vouched alike reads cs level n xs → Next (changed (taken_by of) counted cs) level
  count_kept i few le e v = record {
    long = length_push xs key ∙ ap (λ (m : ℕ). m + 1) v.long;
    few = omega arith;
    ranged = λ k. ⊎_elim
        (λ (t : alike k key ≡ true).
        let b = count_same (of_key alike reads k) of level n (agree alike reads law k key t) few le alike reads cs 0 i v.sound e in
        let o = v.ranged k in
        rw (occurs_same alike k key xs t, b.0, b.1) (omega arith, omega arith))
        (λ (t : alike k key ≡ false).
        let b = count_other (of_key alike reads k) of level (apart alike reads law k key t) cs in
        rw (occurs_other alike k key xs t, b) (v.ranged k))
        (cases_Bool (alike k key));
    sound = sound_counted alike reads law of level n cs few v.sound;
    covered =
        let q = counters_counted alike reads of level n cs 0 i few v.sound e in
        let w = v.covered in
        rw (length_changed (taken_by of) counted cs, q) (omega arith);
  }

  abbrev new : Slot R X
  new = record { key = r; count = 1; mark = level; beside = x }

  enter_kept : (i : ℕ) → n < 100_000_000 → level ≤ n → Absent of cs → position_from is_none 0 cs ≡ Some i → Vouched alike reads cs level n xs → Next (changed is_none (λ (c : Cell R X). Some new) cs) level
  enter_kept i few le out e v = record {
    long = length_push xs key ∙ ap (λ (m : ℕ). m + 1) v.long;
    few = omega arith;
    ranged = λ k. ⊎_elim
        (λ (t : alike k key ≡ true).
        let gone : Absent (of_key alike reads k) cs = absent_agree (of_key alike reads k) of (agree alike reads law k key t) cs out in
        let b = enter_same (of_key alike reads k) level new (of_key_at alike reads law k key r restored ∙ t) cs 0 i gone e in
        let o = rw (ends_absent (of_key alike reads k) level cs gone) at (v.ranged k) in
        rw (occurs_same alike k key xs t, b) (omega arith, omega arith))
        (λ (t : alike k key ≡ false).
        let b = enter_other (of_key alike reads k) level new (of_key_at alike reads law k key r restored ∙ t) cs in
        rw (occurs_other alike k key xs t, b) (v.ranged k))
        (cases_Bool (alike k key));
    sound = sound_entered alike reads law key level n new restored (record { ahead = omega arith; marked = omega arith; some = omega arith; within = omega arith }) cs out v.sound;
    covered =
        let q = counters_entered level new (omega arith) cs 0 i e in
        let w = v.covered in
        rw (length_changed is_none (λ (c : Cell R X). Some new) cs, q) (omega arith);
  }

  raise_kept : n < 100_000_000 → Absent of cs → position_from is_none 0 cs ≡ None → Vouched alike reads cs level n xs → Next (map (worn (level + 1)) cs) (level + 1)
  raise_kept few out e v = record {
    long = length_push xs key ∙ ap (λ (m : ℕ). m + 1) v.long;
    few = omega arith;
    ranged = λ k. ⊎_elim
        (λ (t : alike k key ≡ true).
        let gone : Absent (of_key alike reads k) cs = absent_agree (of_key alike reads k) of (agree alike reads law k key t) cs out in
        let o = rw (ends_absent (of_key alike reads k) level cs gone) at (v.ranged k) in
        rw (occurs_same alike k key xs t, ends_absent (of_key alike reads k) (level + 1) (map (worn (level + 1)) cs) (absent_worn (of_key alike reads k) (level + 1) cs gone)) (omega arith, omega arith))
        (λ (t : alike k key ≡ false).
        let b = raise_other (of_key alike reads k) level cs (sound_once alike reads law k level n cs v.sound) in
        let o = v.ranged k in
        rw (occurs_other alike k key xs t) (omega arith, omega arith))
        (cases_Bool (alike k key));
    sound = sound_raised alike reads law level n cs v.sound;
    covered =
        let q = counters_raised alike reads level n cs 0 v.sound e in
        let w = v.covered in
        let m = mul-add (length cs + 1) level 1 in
        rw (length-map cs (worn (level + 1))) (omega arith);
  }

  -- an arrival, by whichever rule
  pub note_kept : n < 100_000_000 → Vouched alike reads cs level n xs → Next (cells_after level r x cs (rule_for of cs)) (level_after level (rule_for of cs))
  note_kept few v =
      let le = level_below alike reads cs level n xs v in
      let up : capped (level + 1) ≡ level + 1 = omega arith in
      by_rule Next of level r x cs
      (λ i e. count_kept i few le e v)
      (λ i f e. enter_kept i few le (first_none of cs 0 f) e v)
      (λ f e. rw up (raise_kept few (first_none of cs 0 f) e v))
