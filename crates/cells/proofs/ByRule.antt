-- what holds after each of the three rules holds after an arrival
use Rattle.std.proofs.Common.{◌≡◌, ℕ, ◌+◌, Bool, List, map, get_or, set, Some, None, ⊎_elim, is_none}
use Rattle.std.specs.List.{position_from}
use Rattle.cells.specs.Cells.{capped, cells_after, counted, entered, level_after, rule_for, taken_by, worn}
use Rattle.cells.specs.Cells.{Cell}
use Rattle.cells.proofs.Changed.{changed, first_set}
use Rattle.tally.proofs.Options.{cases_option}

pub by_rule : {R X : Type 0} (P : List (Cell R X) → ℕ → Type 0) (is : R → Bool) (level : ℕ) (r : R) (x : X) (cs : List (Cell R X))
    → ((i : ℕ) → position_from (taken_by is) 0 cs ≡ Some i → P (changed (taken_by is) counted cs) level)
    → ((i : ℕ) → position_from (taken_by is) 0 cs ≡ None → position_from is_none 0 cs ≡ Some i → P (changed is_none (λ (c : Cell R X). entered level r x) cs) level)
    → (position_from (taken_by is) 0 cs ≡ None → position_from is_none 0 cs ≡ None → P (map (worn (capped (level + 1))) cs) (capped (level + 1)))
    → P (cells_after level r x cs (rule_for is cs)) (level_after level (rule_for is cs))
by_rule {R} {X} P is level r x cs count enter raise =
    ⊎_elim
    (λ (f : position_from (taken_by is) 0 cs ≡ None). ⊎_elim
    (λ (e : position_from is_none 0 cs ≡ None). rw (f, e) (raise f e))
    (λ (e : (i : ℕ) × (position_from is_none 0 cs ≡ Some i)).
    let w : set cs e.0 (entered level r x) ≡ changed is_none (λ (c : Cell R X). entered level r x) cs = first_set is_none (λ (c : Cell R X). entered level r x) None cs e.0 e.1 in
    rw (f, e.1, w) (enter e.0 f e.1))
    (cases_option (position_from is_none 0 cs)))
    (λ (f : (i : ℕ) × (position_from (taken_by is) 0 cs ≡ Some i)).
    let w : set cs f.0 (counted (get_or cs f.0 None)) ≡ changed (taken_by is) counted cs = first_set (taken_by is) counted None cs f.0 f.1 in
    rw (f.1, w) (count f.0 f.1))
    (cases_option (position_from (taken_by is) 0 cs))
