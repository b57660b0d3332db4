-- a listing behind a gate
use Rattle.std.proofs.Common.{◌≡◌, ℕ, Bool, true, false, if◌then◌else◌, List, length, Ok, Err, Result, refl, ◌∙◌, ⊎_elim, nat_le, arith}
use Rattle.std.proofs.lemmas.Bool.{cases_Bool}
use Rattle.keys.specs.declared.refusal.Refusal.{Refusal}
use Rattle.keys.specs.declared.refusal.Refusal.TheVariants.{ImpossibleShare, TooFine}
use Rattle.pages.specs.Listed.{fitted, page_after}
use Rattle.listings.specs.Listings.{passed, roomed, written}
use Rattle.listings.specs.Right.{Given}

written_fitted : {X : Type 0} (rows page : List X) → page_after rows page ≡ written (fitted rows (length page)) page
written_fitted rows page =
    ⊎_elim
    (λ (t : nat_le (length rows) (length page) ≡ true). rw t refl)
    (λ (t : nat_le (length rows) (length page) ≡ false). rw t refl)
    (cases_Bool (nat_le (length rows) (length page)))

pub behind : {X : Type 0} (gate : Result (Unit {0}) Refusal) (rows : List X) (room : ℕ) (r : Result (List X) Refusal) → r ≡ passed gate (Ok rows) → roomed r room ≡ passed gate (fitted rows room)
behind (Ok u) rows room r e = rw e refl
behind (Err x) rows room r e = rw e refl

pub page_behind : {X : Type 0} (gate : Result (Unit {0}) Refusal) (rows was page : List X) → Ok was ≡ passed gate (Ok rows) → page_after was page ≡ written (passed gate (fitted rows (length page))) page
page_behind gate rows was page e = written_fitted was page ∙ rw (behind gate rows (length page) (Ok was) e) refl

-- a gate that is open: the share is one, and not too fine
pub gate_open : (share fine : Bool) → ◌≡◌ {A = Result (Unit {0}) Refusal} (if share then (if fine then Err TooFine else Ok tt) else Err ImpossibleShare) (Ok tt) → (share ≡ true) × (fine ≡ false)
gate_open true true e = let z : ◌≡◌ {A = ℕ} 0 1 = cc in absurd (omega arith)
gate_open true false e = (refl, refl)
gate_open false fine e = let z : ◌≡◌ {A = ℕ} 0 1 = cc in absurd (omega arith)

-- what is promised of the rows behind an open gate is promised of the listing
pub given_behind : {X : Type 0} (gate : Result (Unit {0}) Refusal) (rows : List X) (room : ℕ) (promise : List X → Type 0) → (gate ≡ Ok tt → promise rows) → Given (passed gate (fitted rows room)) promise
given_behind (Ok u) rows room promise h =
    ⊎_elim
    (λ (t : nat_le (length rows) room ≡ true). rw t (h refl))
    (λ (t : nat_le (length rows) room ≡ false). rw t tt)
    (cases_Bool (nat_le (length rows) room))
given_behind (Err x) rows room promise h = tt
