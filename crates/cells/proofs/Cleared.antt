-- free cells at level 0 are where the empty run leads
use Rattle.std.proofs.Common.{◌≡◌, ℕ, zero, suc, ◌+◌, Bool, List, [], length, replicate, Option, refl, zero-le, mul-zero, arith, None}
use mathlib.Core.List.{Permᴰ}
use Rattle.cells.specs.Cells.{ends}
use Rattle.keys.specs.OfKey.{of_key}
use Rattle.cells.specs.Vouched.{Ran, Sound, Vouched, counted_keys, counters}
use Rattle.cells.specs.Cells.{Cell}

module _ {K R : Type 0} (X : Type 0) (alike : K → K → Bool) (reads : R → Option K) where
  abbrev free : ℕ → List (Cell R X)
  free m = replicate m None

  ends_free : (k : K) (m : ℕ) → ends (of_key alike reads k) 0 (free m) ≡ (0, 0)
  ends_free k zero = refl
  ends_free k (suc m) = ends_free k m

  sound_free : (m : ℕ) → Sound alike reads 0 0 (free m)
  sound_free zero = tt
  sound_free (suc m) = sound_free m

  counters_free : (m : ℕ) → counters 0 (free m) ≡ 0
  counters_free zero = refl
  counters_free (suc m) = counters_free m

  keys_free : (m : ℕ) → Permᴰ (counted_keys alike reads 0 (free m)) []
  keys_free zero = Permᴰ.nil
  keys_free (suc m) = keys_free m

  pub cleared_vouches : (m : ℕ) (ds : List (Cell R X)) → ds ≡ free m → Vouched alike reads ds 0 0 []
  cleared_vouches m ds e = rw e (record {
    long = refl;
    few = omega arith;
    ranged = λ k. rw (ends_free k m) (omega arith, omega arith);
    sound = sound_free m;
    covered = rw (counters_free m, mul-zero (length (free m) + 1)) (omega arith);
  })

  pub cleared_ran : (m : ℕ) (ds : List (Cell R X)) → ds ≡ free m → Ran alike reads ds 0 0 []
  cleared_ran m ds e = rw e (record {
    vouched = cleared_vouches m (free m) refl;
    total = rw (counters_free m, mul-zero (length (free m) + 1)) (omega arith);
    share = zero-le;
    same_counters = keys_free m;
    same_decrements = refl;
  })
