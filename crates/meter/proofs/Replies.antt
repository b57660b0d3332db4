-- what is given of a rule that is right is right, read from an answer that tells the same
use Rattle.std.proofs.Common.{◌≡◌, Ok, Err, Result, subst}
use Rattle.keys.specs.Refusals.{told}
use Rattle.keys.specs.declared.refusal.Refusal.{Refusal}
use Rattle.listings.specs.Right.{Given}
use Rattle.meter.specs.Runs.{Reply}

module _ {X R Q : Type 0} (f : X → Reply R Q) (one : (x y : X) → f x ≡ f y → x ≡ y) where
  pub given_as : (rule : Result X Refusal) (P : X → Type 0) → Given rule P → (a : Result (Reply R Q) Refusal) → a ≡ told f rule → (x : X) → a ≡ Ok (f x) → P x
  given_as (Ok y) P h a e x g =
      let same : f y ≡ f x = cc in subst P (one y x same) h
  given_as (Err n) P h a e x g = absurd cc
