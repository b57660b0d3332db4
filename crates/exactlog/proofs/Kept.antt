-- a log keeps its latest arrivals
use Rattle.std.proofs.Common.{◌≡◌, ℕ, ◌+◌, ◌-◌, ◌<◌, ◌≤◌, min, List, [], ◌∷◌, ◌++◌, map, length, take, drop, set, sym, ap, ◌∙◌, ⊎_elim, arith}
use Rattle.std.proofs.lemmas.List.{append_assoc, drop-append-le, drop-drop, drop-map, length_push, map-append}
use Rattle.std.proofs.lemmas.Bool.{cases_lt}
use Rattle.std.proofs.lemmas.Grind.{common_steps}
use Rattle.std.proofs.Math.Seq.{take-set-lt}
use Rattle.tally.proofs.Counts.{latest_all}
use Rattle.tally.specs.Arrivals.{latest}
use Rattle.exactlog.specs.Logs.{Logged, area_after, in_order, kept, next_after, size}

-- all but the first of two lists, of which the first has one
drop_first : {X : Type 0} (i : ℕ) (xs ys : List X) → i < length xs → drop 1 (drop i xs ++ ys) ≡ drop (i + 1) xs ++ ys
drop_first i xs ys l =
    drop-append-le 1 (drop i xs) ys (grind (arith, common_steps)) ∙ ap (λ (zs : List _). zs ++ ys) (drop-drop 1 i xs)

-- the latest s of a list that is longer, after one arrival more
latest_push : {K : Type 0} (s : ℕ) (xs : List K) (x : K) → 0 < s → s ≤ length xs → latest s (xs ++ x ∷ []) ≡ drop 1 (latest s xs) ++ x ∷ []
latest_push s xs x some l =
    let n = length_push xs x in
    let m : length (xs ++ x ∷ []) - s ≡ length xs - s + 1 = omega arith in
    ap (λ (t : ℕ). drop t (xs ++ x ∷ [])) m
    ∙ drop-append-le (length xs - s + 1) xs (x ∷ []) (omega arith)
    ∙ ap (λ (zs : List _). zs ++ x ∷ []) (sym (drop-drop 1 (length xs - s) xs))

module _ {R : Type 0} (n next : ℕ) (r : R) (area : List R) where
  -- the records after an arrival, from the oldest to the newest
  abbrev order_after : List R
  order_after = in_order (next_after next area) (kept (n + 1) (area_after next r area))

  -- an arrival in a log that is still filling comes after all others
  filled : n < size area → next ≡ n → order_after ≡ in_order next (kept n area) ++ r ∷ []
  filled l e = grind (arith, common_steps)

  -- an arrival in a full log takes the place of the oldest
  overwritten : size area ≤ n → next < size area → order_after ≡ drop 1 (in_order next (kept n area)) ++ r ∷ []
  overwritten full l =
      let ys = take (size area) area in
      let old : kept n area ≡ ys = grind (arith, common_steps) in
      let new : kept (n + 1) (area_after next r area) ≡ set ys next r = grind (arith, common_steps, take-set-lt) in
      let turned : in_order (next_after next area) (set ys next r) ≡ drop (next + 1) ys ++ (take next ys ++ r ∷ []) = grind (arith, common_steps) in
      rw (new, old, drop_first next ys (take next ys) (grind (arith, common_steps))) (turned ∙ sym (append_assoc (drop (next + 1) ys) (take next ys) (r ∷ [])))

module _ {K R : Type 0} (lies : K → R) (n next : ℕ) (area : List R) (xs : List K) (key : K) (v : Logged lies n next area xs) where
  -- what a log has to keep after an arrival
  abbrev latest_after : List R
  latest_after = map lies (latest (min (n + 1) (size area)) (xs ++ key ∷ []))

  same_filling : n < size area → latest_after ≡ order_after n next (lies key) area
  same_filling l =
      let long = v.long in
      let same = v.same in
      let new : latest_after ≡ map lies xs ++ lies key ∷ [] = grind (arith, common_steps, latest_all) in
      let old : map lies xs ≡ in_order next (kept n area) = grind (arith, common_steps, latest_all) in
      new ∙ ap (λ (ys : List R). ys ++ lies key ∷ []) old ∙ sym (filled n next (lies key) area l (v.filling l))

  same_full : size area ≤ n → 0 < size area → latest_after ≡ order_after n next (lies key) area
  same_full full some =
      let long = v.long in
      let same = v.same in
      let old : map lies (latest (size area) xs) ≡ in_order next (kept n area) = grind arith in
      let m : min (n + 1) (size area) ≡ size area = omega arith in
      rw (m, latest_push (size area) xs key some (omega arith), overwritten n next (lies key) area full (v.wrapped full some))
      (map-append lies (drop 1 (latest (size area) xs)) (key ∷ [])
      ∙ ap (λ (ys : List R). ys ++ lies key ∷ []) (sym (drop-map lies 1 (latest (size area) xs)) ∙ ap (drop 1) old))

  same_none : size area ≤ 0 → latest_after ≡ order_after n next (lies key) area
  same_none none = grind (arith, common_steps)

  -- one arrival more
  pub logged_noted : n < 100_000_000 → Logged lies (n + 1) (next_after next area) (area_after next (lies key) area) (xs ++ key ∷ [])
  logged_noted few =
      let z : size (area_after next (lies key) area) ≡ size area = grind (arith, common_steps) in
      let same : latest_after ≡ order_after n next (lies key) area =
      ⊎_elim
      (λ (l : n < size area). same_filling l)
      (λ (l : size area ≤ n). ⊎_elim (λ (some : 0 < size area). same_full l some) (λ (none : size area ≤ 0). same_none none) (cases_lt 0 (size area)))
      (cases_lt n (size area)) in
      record {
        long = length_push xs key ∙ ap (λ (m : ℕ). m + 1) v.long;
        few = omega arith;
        filling = λ l. grind (arith, v.filling);
        wrapped = λ full some. grind (arith, v.filling, v.wrapped);
        same = ap (λ (t : ℕ). map lies (latest (min (n + 1) t) (xs ++ key ∷ []))) z ∙ same;
      }
