-- counts of readers and of badges at a reader, and how they grow with an arrival
use Rattle.std.proofs.Common.{◌≡◌, ℕ, ◌+◌, ◌≤◌, Bool, true, false, cond, List, [], ◌∷◌, ◌++◌, refl, ap, ⊎_elim, arith}
use Rattle.badgetable.specs.Shown.{badge_count, both_alike, reader_count, readers_of}
use Rattle.std.proofs.lemmas.List.{map_push}
use Rattle.std.proofs.lemmas.List.Sums.{sum_by-cons}
use Rattle.std.proofs.lemmas.Bool.{cases_Bool}
use Rattle.tally.proofs.Counts.{occurs_other, occurs_same}

abbrev one : Bool → ℕ
one b = cond b 1 0

at_most_one : (b : Bool) → one b ≤ 1
at_most_one true = omega arith
at_most_one false = omega arith

module _ {A B : Type 0} (x : A → A → Bool) (y : B → B → Bool) where
  pub readers_push : (ps : List (A × B)) (a : A) (b : B) → readers_of (ps ++ (a, b) ∷ []) ≡ readers_of ps ++ a ∷ []
  readers_push ps a b = map_push (λ p. p.0) ps (a, b)

  -- a badge's count at a reader is a part of the reader's
  pub badge_part : (a : A) (b : B) (ps : List (A × B)) → badge_count x y a b ps ≤ reader_count x a ps
  badge_part a b [] = omega arith
  badge_part a b (p ∷ ps) =
      let h = badge_part a b ps in
      let whole = sum_by-cons (λ z. one (x a z)) p.0 (readers_of ps) in
      let both = sum_by-cons (λ z. one (both_alike x y (a, b) z)) p ps in
      ⊎_elim
      (λ (t : x a p.0 ≡ true). let c = ap one t in let d = at_most_one (both_alike x y (a, b) p) in omega (arith, whole, both, c, d, h))
      (λ (t : x a p.0 ≡ false). let d : one (both_alike x y (a, b) p) ≡ 0 = rw t refl in omega (arith, whole, both, d, h))
      (cases_Bool (x a p.0))

  module _ (a : A) (b : B) (ps : List (A × B)) (c : A) (d : B) where
    -- at another reader
    pub elsewhere : x c a ≡ false → badge_count x y c d (ps ++ (a, b) ∷ []) ≡ badge_count x y c d ps
    elsewhere e =
        let f : both_alike x y (c, d) (a, b) ≡ false = rw e refl in occurs_other (both_alike x y) (c, d) (a, b) ps f

    -- the same badge at the same reader, and another badge there
    pub this_badge : x c a ≡ true → y d b ≡ true → badge_count x y c d (ps ++ (a, b) ∷ []) ≡ badge_count x y c d ps + 1
    this_badge e f =
        let h : both_alike x y (c, d) (a, b) ≡ true = rw (e, f) refl in occurs_same (both_alike x y) (c, d) (a, b) ps h

    pub other_badge : x c a ≡ true → y d b ≡ false → badge_count x y c d (ps ++ (a, b) ∷ []) ≡ badge_count x y c d ps
    other_badge e f =
        let h : both_alike x y (c, d) (a, b) ≡ false = rw (e, f) refl in occurs_other (both_alike x y) (c, d) (a, b) ps h
