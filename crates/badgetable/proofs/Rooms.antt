-- every row has its part of the cells, and keeps it
use Rattle.std.proofs.Common.{◌≡◌, ℕ, zero, suc, ◌+◌, ◌*◌, ◌/◌, ◌<◌, ◌≤◌, true, false, eqb, leb, List, [], ◌∷◌, length, get_or, refl, ap, ◌∙◌, ⊎_elim, mul-le-mul_right, mul_comm, add-mul, mul-zero, div-mul-le_self, mul-div_cancel, arith, None, Some, is_none}
use Rattle.badgetable.specs.Plans.{cells_a_row, plan_fits}
use Rattle.badgetable.specs.Rows.{swept, swept_row}
use Rattle.cells.proofs.Lengths.{length_emptied}
use Rattle.cells.specs.Cells.{emptied}
use Rattle.cells.specs.Cells.{Cell}
use Rattle.cells.specs.declared.cell.Slot.{Slot}
use Rattle.parts.proofs.Areas.{part_other, with_part_length}
use Rattle.parts.specs.Parts.{part, with_part}
use Rattle.tally.specs.Plans.{plannable}
use Rattle.std.proofs.lemmas.Bool.{and_parts, cases_Bool, eqb-true, leb-true}

-- K rows of J cells lie within the area
pub rows_room : (k area : ℕ) → k * cells_a_row k area ≤ area
rows_room k area =
    ⊎_elim
    (λ (t : eqb k 0 ≡ true). rw t (let z = mul-zero k in omega (arith, z)))
    (λ (t : eqb k 0 ≡ false). rw t (let a = div-mul-le_self area k in let b = mul_comm k (area / k) in omega (arith, a, b)))
    (cases_Bool (eqb k 0))

pub row_room : (k area i : ℕ) → i < k → i * cells_a_row k area + cells_a_row k area ≤ area
row_room k area i l =
    let j = cells_a_row k area in
    let a : (i + 1) * j ≤ k * j = mul-le-mul_right j (omega arith) in
    let b = add-mul i 1 j in
    let c = rows_room k area in
    omega (arith, a, b, c)

-- an area that was planned for K rows of J cells has J cells a row
planned_row : (k j : ℕ) → 1 ≤ k → cells_a_row k (k * j) ≡ j
planned_row k j l =
    ⊎_elim
    (λ (t : eqb k 0 ≡ true). let z = eqb-true k 0 t in absurd (omega arith))
    (λ (t : eqb k 0 ≡ false). rw t (ap (λ (m : ℕ). m / k) (mul_comm k j) ∙ mul-div_cancel j (omega arith)))
    (cases_Bool (eqb k 0))

pub held_inside : {R X : Type 0} (cs : List (Cell R X)) (t : ℕ) (q : Slot R X) → get_or cs t None ≡ Some q → t < length cs
held_inside [] t q e = let z : ◌≡◌ {A = ℕ} 0 1 = cc in absurd (omega arith)
held_inside (c ∷ cs) zero q e = omega arith
held_inside (c ∷ cs) (suc t) q e = let h = held_inside cs t q e in omega (arith, h)

-- a changed part leaves the area as long as it was
pub with_part_keeps : {X : Type 0} (f : List X → List X) (keeps : (ys : List X) → length (f ys) ≡ length ys) (k s : ℕ) (xs : List X) → length (with_part k s f xs) ≡ length xs
with_part_keeps f keeps k s xs =
    ⊎_elim
    (λ (t : leb (s * k + k) (length xs) ≡ true). with_part_length f keeps k xs s (leb-true (s * k + k) (length xs) t))
    (λ (t : leb (s * k + k) (length xs) ≡ false). rw t refl)
    (cases_Bool (leb (s * k + k) (length xs)))

module _ {R S : Type 0} (j : ℕ) where
  swept_row_length : (i : ℕ) (row : Cell R ℕ) (cs : List (Cell S (Unit {0}))) → length (swept_row j i row cs) ≡ length cs
  swept_row_length i None cs = with_part_keeps emptied length_emptied j i cs
  swept_row_length i (Some q) cs = refl

  pub swept_length : (i : ℕ) (rows : List (Cell R ℕ)) (cs : List (Cell S (Unit {0}))) → length (swept j i rows cs) ≡ length cs
  swept_length i [] cs = refl
  swept_length i (row ∷ rows) cs = swept_length (i + 1) rows (swept_row j i row cs) ∙ swept_row_length i row cs

  -- a sweep leaves the cells of a row that is not free
  pub swept_other : (t i : ℕ) (rows : List (Cell R ℕ)) (cs : List (Cell S (Unit {0}))) → t * j + j ≤ length cs → ((u : ℕ) → u < length rows → (i + u) * j + j ≤ length cs) → ((u : ℕ) → i + u ≡ t → u < length rows → is_none (get_or rows u None) ≡ false) → part j t (swept j i rows cs) ≡ part j t cs
  swept_other t i [] cs room rooms held = refl
  swept_other t i (Some q ∷ rows) cs room rooms held =
      swept_other t (i + 1) rows cs room
      (λ u l. let e : i + suc u ≡ i + 1 + u = omega arith in rw e at (rooms (suc u) (omega arith)))
      (λ u e l. held (suc u) (omega arith) (omega arith))
  swept_other t i (None ∷ rows) cs room rooms held =
      let ds = with_part j i emptied cs in
      let n : length ds ≡ length cs = with_part_keeps emptied length_emptied j i cs in
      let z : i + 0 ≡ i = omega arith in
      let here : i * j + j ≤ length cs = rw z at (rooms 0 (omega arith)) in
      let ne : i ≡ t → ⊥ = λ e. let f : true ≡ false = held 0 (omega arith) (omega arith) in let zz : ◌≡◌ {A = ℕ} 0 1 = cc in absurd (omega arith) in
      swept_other t (i + 1) rows ds (omega (arith, room, n))
      (λ u l. let e : i + suc u ≡ i + 1 + u = omega arith in let h = rw e at (rooms (suc u) (omega arith)) in omega (arith, h, n))
      (λ u e l. held (suc u) (omega arith) (omega arith))
      ∙ part_other emptied length_emptied j cs i t here room ne

-- areas that a plan fits have its rows and cells
pub plan_holds : (k j rows cells : ℕ) → plan_fits k j rows cells ≡ true → (rows ≡ k) × (cells_a_row rows cells ≡ j)
plan_holds k j rows cells e =
    let one = and_parts (plannable 64 k) _ e in
    let two = and_parts (plannable 64 j) _ one.1 in
    let three = and_parts (eqb rows k) (eqb cells (k * j)) two.1 in
    let some = leb-true 1 k (and_parts (leb 1 k) (leb k 64) one.0).0 in
    let r = eqb-true rows k three.0 in
    let c = eqb-true cells (k * j) three.1 in
    (r, ap (λ (m : ℕ). cells_a_row m cells) r ∙ ap (cells_a_row k) c ∙ planned_row k j some)
