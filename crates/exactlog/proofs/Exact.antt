-- a log counts what it keeps, exactly
use Rattle.std.proofs.Common.{◌≡◌, ℕ, suc, ◌<◌, ◌≤◌, min, Bool, false, cond, List, [], ◌∷◌, map, reverse, length, Some, count_by, sym, refl, ap, ◌∙◌, arith}
use Rattle.std.proofs.lemmas.List.{length-take}
use Rattle.std.proofs.lemmas.Grind.{common_steps}
use Rattle.std.proofs.lemmas.List.Sums.{count_by-le-length, sum_by-append, sum_by-cons, sum_by-take-drop}
use Rattle.std.proofs.lemmas.List.Sorted.{IsPermutation-reverse, sum_by-IsPermutation}
use Rattle.std.specs.Cmp.{IsEquivalence}
use Rattle.std.specs.List.{slice_get}
use Rattle.exactlog.specs.ExactLog.{count_in, key_at, reach_of, vouches}
use Rattle.exactlog.specs.Logs.{in_order, kept, read_with}
use Rattle.exactlog.specs.declared.log.ExactLog.{ExactLog}
use Rattle.keys.specs.Kinds.{KeyKind}
use Rattle.keys.specs.OfKey.{of_key}
use Rattle.tally.proofs.Counts.{held_nowhere}
use Rattle.tally.proofs.OfKey.{holds_read, of_key_at}
use Rattle.tally.specs.Arrivals.{latest, occurs, true_count}
use Rattle.tally.specs.Owed.{Contains, held_below, holds}

-- the order does not matter
count_in_order : {X : Type 0} (p : X → Bool) (next : ℕ) (ys : List X) → count_by p (in_order next ys) ≡ count_by p ys
count_in_order p next ys = grind (arith, sum_by-append, sum_by-take-drop)

count_reverse : {X : Type 0} (p : X → Bool) (ys : List X) → count_by p (reverse ys) ≡ count_by p ys
count_reverse p ys = sum_by-IsPermutation (λ y. cond (p y) 1 0) ys (reverse ys) (IsPermutation-reverse ys)

module _ {K R : Type 0} (kind : KeyKind K R) (law : IsEquivalence kind.eq) (restored : (a : K) → kind.reads (kind.lies a) ≡ Some a) where
  -- whether a record is that of a key
  abbrev is : K → R → Bool
  is k r = of_key kind.eq kind.reads k r

  -- records count as their keys do
  count_records : (k : K) (zs : List K) → count_by (is k) (map kind.lies zs) ≡ occurs kind.eq k zs
  count_records k [] = refl
  count_records k (z ∷ zs) =
      sum_by-cons (λ r. cond (is k r) 1 0) (kind.lies z) (map kind.lies zs)
      ∙ rw (of_key_at kind.eq kind.reads law k z (kind.lies z) (restored z), count_records k zs) (sym (sum_by-cons (λ y. cond (kind.eq k y) 1 0) z zs))

  -- a key that no record is of
  none_counted : (k : K) (zs : List R) → ((i : ℕ) → i < length zs → holds kind.eq k (read_with kind.reads (slice_get zs i)) ≡ false) → count_by (is k) zs ≡ 0
  none_counted k [] h = refl
  none_counted k (z ∷ zs) h =
      let f : is k z ≡ false = sym (holds_read kind.eq kind.reads k z) ∙ h 0 (omega arith) in
      grind (arith, sum_by-cons, f, none_counted k zs (λ i l. h (suc i) (omega arith)))

  module _ (t : ExactLog K R) where
    -- a log's records, oldest first
    abbrev ordered : List R
    ordered = in_order t.next (kept t.run t.area.now)

    exact_count : (xs : List K) → vouches kind t xs → (k : K) → true_count kind.eq (min t.run (reach_of t)) k xs ≡ count_in kind t k
    exact_count xs v k =
        sym (count_records k (latest (min t.run (reach_of t)) xs))
        ∙ ap (count_by (is k)) v.same
        ∙ count_in_order (is k) t.next (kept t.run t.area.now)

    -- a key's true count is how often it stands in the log
    pub exact_contains : (xs : List K) → vouches kind t xs → (k : K) → Contains kind.eq (min t.run (reach_of t)) k xs (count_in kind t k) (count_in kind t k)
    exact_contains xs v k =
        let e = exact_count xs v k in
        let l = count_by-le-length (is k) (kept t.run t.area.now) in
        let m = length-take (min t.run (reach_of t)) t.area.now in
        record { from = omega arith; upto = omega arith; bounded = omega arith }

    length_ordered : length (reverse ordered) ≤ reach_of t
    length_ordered = grind (arith, common_steps)

    -- a key held at no place is not counted
    pub missed_none : (k : K) → held_below kind.eq (key_at kind t) k (reach_of t) ≡ false → count_in kind t k ≡ 0
    missed_none k out =
        let few = length_ordered in
        let h = held_nowhere kind.eq (key_at kind t) k (reach_of t) out in
        let none = none_counted k (reverse ordered) (λ i l. h i (omega arith)) in
        sym (count_in_order (is k) t.next (kept t.run t.area.now)) ∙ sym (count_reverse (is k) ordered) ∙ none
