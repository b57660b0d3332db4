-- records and the keys that they are of
use Rattle.std.proofs.Common.{◌≡◌, Bool, true, false, Some, None, Option, sym, refl, ◌∙◌, ⊎_elim}
use Rattle.std.proofs.lemmas.Bool.{cases_Bool, both_ways}
use Rattle.std.specs.Cmp.{IsEquivalence}
use Rattle.keys.specs.OfKey.{of_key}
use Rattle.tally.specs.Owed.{holds}
use Rattle.tally.proofs.Options.{cases_option}

module _ {K R : Type 0} (alike : K → K → Bool) (reads : R → Option K) (law : IsEquivalence alike) where
  pub of_key_at : (a j : K) (r : R) → reads r ≡ Some j → of_key alike reads a r ≡ alike a j
  of_key_at a j r e = rw (e, of_key) refl

  -- keys that are the same have the same records
  pub agree : (a b : K) → alike a b ≡ true → (r : R) → of_key alike reads a r ≡ of_key alike reads b r
  agree a b e r =
      ⊎_elim
      (λ (n : reads r ≡ None). rw (n, of_key) refl)
      (λ (s : (x : K) × (reads r ≡ Some x)). of_key_at a s.0 r s.1 ∙ law.congr a b s.0 e ∙ sym (of_key_at b s.0 r s.1))
      (cases_option (reads r))

  -- and keys that are not have no record in common
  pub apart : (a b : K) → alike a b ≡ false → (r : R) → of_key alike reads b r ≡ true → of_key alike reads a r ≡ false
  apart a b e r t =
      ⊎_elim
      (λ (f : of_key alike reads a r ≡ true). ⊎_elim
      (λ (n : reads r ≡ None). rw (n, of_key) refl)
      (λ (s : (x : K) × (reads r ≡ Some x)).
      let p : alike a s.0 ≡ true = sym (of_key_at a s.0 r s.1) ∙ f in
      let q : alike b s.0 ≡ true = sym (of_key_at b s.0 r s.1) ∙ t in
      absurd (both_ways (alike a b) e (law.symm a b ∙ law.congr b s.0 a q ∙ law.symm s.0 a ∙ p)))
      (cases_option (reads r)))
      (λ (f : of_key alike reads a r ≡ false). f)
      (cases_Bool (of_key alike reads a r))

-- a place holds a key where what is read of its record is the key
pub holds_read : {K R : Type 0} (alike : K → K → Bool) (reads : R → Option K) (k : K) (r : R) → holds alike k (reads r) ≡ of_key alike reads k r
holds_read alike reads k r = elim (reads r) [ None ↦ refl | Some j ↦ refl ]
