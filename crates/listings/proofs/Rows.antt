-- the rows of places: whether one passes a test, and what holds of each and of each two
use Rattle.std.proofs.Common.{◌≡◌, ℕ, zero, suc, ◌<◌, ◌≤◌, Bool, true, List, [], ◌++◌, Some, None, Option, refl, ap, ◌∙◌, ⊎_elim, arith}
use Rattle.std.proofs.lemmas.Bool.{cases_lt, or_left, or_right}
use Rattle.std.proofs.lemmas.List.{append-nil}
use Rattle.std.proofs.lemmas.List.Elements.{All-append, All-cons, All-nil}
use Rattle.std.proofs.lemmas.List.Folds.{list_any-append}
use Rattle.std.proofs.lemmas.List.Quantifiers.{all_pairs_push}
use Rattle.std.specs.List.{All, AllPairs, list_any}
use Rattle.std.specs.Option.{option_to_list}
use Rattle.pages.proofs.Lists.{listed_next}
use Rattle.pages.specs.Listed.{listed}

module _ {X : Type 0} where
  all_option : (P : X → Type 0) (o : Option X) → ((r : X) → o ≡ Some r → P r) → All P (option_to_list o)
  all_option P None h = All-nil P
  all_option P (Some r) h = All-cons P r [] (h r refl) (All-nil P)

  pairs_option : (R : X → X → Type 0) (xs : List X) (o : Option X) → AllPairs R xs → ((s : X) → o ≡ Some s → All (λ r. R r s) xs) → AllPairs R (xs ++ option_to_list o)
  pairs_option R xs None h g = rw (append-nil xs) h
  pairs_option R xs (Some s) h g = all_pairs_push R xs s h (g s refl)

  module _ (row : ℕ → Option X) where
    pub any_listed : (f : X → Bool) (m i : ℕ) (r : X) → i < m → row i ≡ Some r → f r ≡ true → list_any f (listed row m) ≡ true
    any_listed f zero i r l e t = absurd (omega arith)
    any_listed f (suc m) i r l e t =
        let before = list_any f (listed row m) in
        let here = list_any f (option_to_list (row m)) in
        ap (list_any f) (listed_next row m)
        ∙ list_any-append f (listed row m) (option_to_list (row m))
        ∙ ⊎_elim
        (λ (h : i < m). or_left before here (any_listed f m i r h e t))
        (λ (h : m ≤ i). let z : m ≡ i = omega arith in or_right before here (rw (z, e, t) refl))
        (cases_lt i m)

    pub all_listed : (P : X → Type 0) (m : ℕ) → ((i : ℕ) (r : X) → i < m → row i ≡ Some r → P r) → All P (listed row m)
    all_listed P zero h = All-nil P
    all_listed P (suc m) h =
        rw (listed_next row m)
        (All-append P (listed row m) (option_to_list (row m)) (all_listed P m (λ i r l e. h i r (omega arith) e)) (all_option P (row m) (λ r e. h m r (omega arith) e)))

    pub pairs_listed : (R : X → X → Type 0) (m : ℕ) → ((i j : ℕ) (r s : X) → i < j → row i ≡ Some r → row j ≡ Some s → R r s) → AllPairs R (listed row m)
    pairs_listed R zero h = λ i j d l k. absurd (omega arith)
    pairs_listed R (suc m) h =
        rw (listed_next row m)
        (pairs_option R (listed row m) (row m) (pairs_listed R m h) (λ s e. all_listed (λ r. R r s) m (λ i r l f. h i m r s l f e)))
