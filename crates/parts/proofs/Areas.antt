-- parts of an area, before and after a change of one of them
use Rattle.std.proofs.Common.{◌≡◌, ℕ, ◌+◌, ◌-◌, ◌*◌, ◌<◌, ◌≤◌, List, ◌++◌, length, take, drop, replicate, sym, refl, ap, ◌∙◌, ⊎_elim, mul-le-mul_right, add-mul, arith}
use borrow.Rule.Slice.PartMut.{put_mid}
use Rattle.std.proofs.lemmas.List.{drop_at, drop-drop, drop-replicate, length-append, length-drop, length-replicate, length-take, places, same_lists, take_at, take-replicate}
use Rattle.std.proofs.lemmas.Bool.{cases_lt, le-leb}
use Rattle.parts.specs.Parts.{amid, part, with_part}

-- what is left after a part that is lent as `&mut xs[from..from + k]` was changed by f
pub amid_is : {X : Type 0} (f : List X → List X) (from k : ℕ) (xs ys : List X) → ys ≡ f (take (from + k - from) (drop from xs)) → put_mid from (from + k - from) xs ys ≡ amid from k f xs
amid_is f from k xs ys e = let n : from + k - from ≡ k = omega arith in rw (e, n, drop-drop k from xs) refl

-- parts up to the last lie within an area of so many
pub slot_room : (k s p area : ℕ) → s ≤ p → (p + 1) * k ≤ area → s * k + k ≤ area
slot_room k s p area l h = let a : (s + 1) * k ≤ (p + 1) * k = mul-le-mul_right k (omega arith) in let b = add-mul s 1 k in omega arith

pub part_is : {X : Type 0} (k s : ℕ) (cs : List X) → s * k + k ≤ length cs → part k s cs ≡ take k (drop (s * k) cs)
part_is k s cs h = rw (le-leb (s * k + k) (length cs) h) refl

pub with_part_is : {X : Type 0} (k s : ℕ) (f : List X → List X) (cs : List X) → s * k + k ≤ length cs → with_part k s f cs ≡ amid (s * k) k f cs
with_part_is k s f cs h = rw (le-leb (s * k + k) (length cs) h) refl

pub length_part : {X : Type 0} (k s : ℕ) (cs : List X) → s * k + k ≤ length cs → length (part k s cs) ≡ k
length_part k s cs h = ap length (part_is k s cs h) ∙ simp (length-take, length-drop) (omega arith)

-- a part of equal elements
pub part_replicate : {X : Type 0} (k s m : ℕ) (x : X) → s * k + k ≤ m → part k s (replicate m x) ≡ replicate k x
part_replicate k s m x l =
    let n : length (replicate m x) ≡ m = length-replicate m x in
    part_is k s (replicate m x) (omega arith)
    ∙ ap (take k) (drop-replicate (s * k) m x)
    ∙ take-replicate k (m - s * k) x (omega arith)

module _ {X : Type 0} (f : List X → List X) (keeps : (ys : List X) → length (f ys) ≡ length ys) (k : ℕ) (xs : List X) where
  part_length : (from : ℕ) → from + k ≤ length xs → length (f (take k (drop from xs))) ≡ k
  part_length from h = keeps (take k (drop from xs)) ∙ simp (length-take, length-drop) (omega arith)

  amid_length : (from : ℕ) → from + k ≤ length xs → length (amid from k f xs) ≡ length xs
  amid_length from h = let n = part_length from h in simp (length-append, length-take, length-drop) (omega arith)

  amid_below : (from a : ℕ) → a + k ≤ from → from + k ≤ length xs → take k (drop a (amid from k f xs)) ≡ take k (drop a xs)
  amid_below from a l h =
      same_lists _ _ (simp (length-take, length-drop, length-append) (omega arith)) (λ i d p. grind (arith, places))

  amid_at : (from : ℕ) → from + k ≤ length xs → take k (drop from (amid from k f xs)) ≡ f (take k (drop from xs))
  amid_at from h =
      let n = part_length from h in
      let m : length (take from xs) ≡ from = simp length-take (omega arith) in
      rw (drop_at (take from xs) (f (take k (drop from xs)) ++ drop (from + k) xs) from m) (take_at (f (take k (drop from xs))) (drop (from + k) xs) k n)

  amid_above : (from a : ℕ) → from + k ≤ a → from + k ≤ length xs → take k (drop a (amid from k f xs)) ≡ take k (drop a xs)
  amid_above from a l h =
      let n = part_length from h in
      same_lists _ _ (simp (length-take, length-drop, length-append) (omega arith)) (λ i d p. grind (arith, places))

  pub with_part_length : (s : ℕ) → s * k + k ≤ length xs → length (with_part k s f xs) ≡ length xs
  with_part_length s h = ap length (with_part_is k s f xs h) ∙ amid_length (s * k) h

  pub part_changed : (s : ℕ) → s * k + k ≤ length xs → part k s (with_part k s f xs) ≡ f (part k s xs)
  part_changed s h =
      let n = with_part_length s h in
      part_is k s (with_part k s f xs) (omega arith)
      ∙ ap (λ (ys : List X). take k (drop (s * k) ys)) (with_part_is k s f xs h)
      ∙ amid_at (s * k) h
      ∙ ap f (sym (part_is k s xs h))

  pub part_other : (s t : ℕ) → s * k + k ≤ length xs → t * k + k ≤ length xs → (s ≡ t → ⊥) → part k t (with_part k s f xs) ≡ part k t xs
  part_other s t h g ne =
      let n = with_part_length s h in
      let same : take k (drop (t * k) (amid (s * k) k f xs)) ≡ take k (drop (t * k) xs) =
      ⊎_elim
      (λ (p : t < s).
      let a : (t + 1) * k ≤ s * k = mul-le-mul_right k (omega arith) in
      let b = add-mul t 1 k in
      amid_below (s * k) (t * k) (omega arith) h)
      (λ (p : s ≤ t).
      let a : (s + 1) * k ≤ t * k = mul-le-mul_right k (omega (arith, ne)) in
      let b = add-mul s 1 k in
      amid_above (s * k) (t * k) (omega arith) h)
      (cases_lt t s) in
      part_is k t (with_part k s f xs) (omega arith)
      ∙ ap (λ (ys : List X). take k (drop (t * k) ys)) (with_part_is k s f xs h)
      ∙ same
      ∙ sym (part_is k t xs g)
