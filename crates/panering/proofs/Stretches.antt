-- sums over panes, and the stretches that they count
use Rattle.std.proofs.Common.{◌≡◌, ℕ, zero, suc, ◌+◌, ◌-◌, ◌*◌, ◌<◌, ◌≤◌, Bool, cond, List, [], ◌∷◌, ◌++◌, length, drop, sym, refl, ap, ◌∙◌, ⊎_elim, mul-zero, mul-add, arith}
use Rattle.std.proofs.lemmas.List.{append_assoc, append-nil, drop-append-le, length-append}
use Rattle.std.proofs.lemmas.List.Sums.{sum_by-append, sum_by-take-drop}
use Rattle.std.proofs.Math.Seq.{drop-append-add}
use Rattle.std.proofs.lemmas.Bool.{cases_lt}
use Rattle.tally.specs.Arrivals.{occurs, true_count}
use Rattle.panering.specs.Panes.{sum_below}
use Rattle.panering.specs.Ringed.{stretch}

pub sum_le : (f g : ℕ → ℕ) (m : ℕ) → ((j : ℕ) → j < m → f j ≤ g j) → sum_below f m ≤ sum_below g m
sum_le f g zero h = omega arith
sum_le f g (suc m) h = let r = sum_le f g m (λ j l. h j (omega arith)) in let e = h m (omega arith) in omega arith

pub sum_same : (f g : ℕ → ℕ) (m : ℕ) → ((j : ℕ) → j < m → f j ≡ g j) → sum_below f m ≡ sum_below g m
sum_same f g zero h = refl
sum_same f g (suc m) h = let r = sum_same f g m (λ j l. h j (omega arith)) in let e = h m (omega arith) in omega arith

pub sum_grows : (f : ℕ → ℕ) (m n : ℕ) → m ≤ n → sum_below f m ≤ sum_below f n
sum_grows f m zero l = grind arith
sum_grows f m (suc n) l =
    ⊎_elim
    (λ (h : m < suc n). let r = sum_grows f m n (omega arith) in omega arith)
    (λ (h : suc n ≤ m). let z : m ≡ suc n = omega arith in rw z (omega arith))
    (cases_lt m (suc n))

pub sum_both : (f g : ℕ → ℕ) (m : ℕ) → sum_below (λ j. f j + g j) m ≡ sum_below f m + sum_below g m
sum_both f g zero = refl
sum_both f g (suc m) = let r = sum_both f g m in omega arith

pub sum_times : (c : ℕ) (f : ℕ → ℕ) (m : ℕ) → sum_below (λ j. c * f j) m ≡ c * sum_below f m
sum_times c f zero = sym (mul-zero c)
sum_times c f (suc m) = let r = sum_times c f m in let d = mul-add c (sum_below f m) (f m) in omega arith

module _ {K : Type 0} where
  pub length_stretch : (seg : ℕ → List K) (m : ℕ) → length (stretch seg m) ≡ sum_below (λ j. length (seg j)) m
  length_stretch seg zero = refl
  length_stretch seg (suc m) = let r = length_stretch seg m in let a = length-append (seg m) (stretch seg m) in omega arith

  occurs_append : (alike : K → K → Bool) (k : K) (xs ys : List K) → occurs alike k (xs ++ ys) ≡ occurs alike k xs + occurs alike k ys
  occurs_append alike k xs ys = sum_by-append (λ x. cond (alike k x) 1 0) xs ys

  pub occurs_stretch : (alike : K → K → Bool) (k : K) (seg : ℕ → List K) (m : ℕ) → occurs alike k (stretch seg m) ≡ sum_below (λ j. occurs alike k (seg j)) m
  occurs_stretch alike k seg zero = refl
  occurs_stretch alike k seg (suc m) = let r = occurs_stretch alike k seg m in let a = occurs_append alike k (seg m) (stretch seg m) in omega arith

  -- the end of a list, of at most t arrivals, lies within its latest t
  pub end_inside : (alike : K → K → Bool) (k : K) (t : ℕ) (front end : List K) → length end ≤ t → occurs alike k end ≤ true_count alike t k (front ++ end)
  end_inside alike k t front end l =
      let n = length-append front end in
      let i = length (front ++ end) - t in
      let e : drop i (front ++ end) ≡ drop i front ++ end = drop-append-le i front end (omega arith) in
      let o = ap (occurs alike k) e ∙ occurs_append alike k (drop i front) end in
      omega arith

  -- the latest t of a list lie within its end of at least t arrivals
  pub latest_inside : (alike : K → K → Bool) (k : K) (t : ℕ) (front end : List K) → t ≤ length end → true_count alike t k (front ++ end) ≤ occurs alike k end
  latest_inside alike k t front end l =
      let n = length-append front end in
      let m : length (front ++ end) - t ≡ length front + (length end - t) = omega arith in
      let e : drop (length (front ++ end) - t) (front ++ end) ≡ drop (length end - t) end =
      ap (λ (i : ℕ). drop i (front ++ end)) m ∙ drop-append-add front end (length end - t) in
      let h = sum_by-take-drop (λ x. cond (alike k x) 1 0) end (length end - t) in
      let o = ap (occurs alike k) e in
      omega arith

  -- an arrival more in the current pane
  pub stretch_noted : (seg new : ℕ → List K) (key : K) → new 0 ≡ seg 0 ++ key ∷ [] → ((j : ℕ) → new (suc j) ≡ seg (suc j)) → (m : ℕ) → stretch new (suc m) ≡ stretch seg (suc m) ++ key ∷ []
  stretch_noted seg new key a b zero = append-nil (new 0) ∙ a ∙ ap (λ (xs : List K). xs ++ key ∷ []) (sym (append-nil (seg 0)))
  stretch_noted seg new key a b (suc m) =
      rw (b m, stretch_noted seg new key a b m) (sym (append_assoc (seg (suc m)) (stretch seg (suc m)) (key ∷ [])))

  -- an empty pane before the others
  pub stretch_turned : (seg new : ℕ → List K) → new 0 ≡ [] → ((j : ℕ) → new (suc j) ≡ seg j) → (m : ℕ) → stretch new (suc m) ≡ stretch seg m
  stretch_turned seg new a b zero = append-nil (new 0) ∙ a
  stretch_turned seg new a b (suc m) = rw (b m, stretch_turned seg new a b m) refl
