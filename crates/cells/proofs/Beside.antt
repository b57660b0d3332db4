-- what cells vouch for does not hang on what is kept beside
use Rattle.std.proofs.Common.{◌≡◌, ℕ, zero, suc, ◌+◌, ◌-◌, Bool, List, [], ◌∷◌, get_or, set, Option, unwrap_or, sym, refl, ap, ◌∙◌, None, Some}
use Rattle.std.proofs.lemmas.List.{length-set}
use Rattle.cells.proofs.Counters.{counters_cons}
use Rattle.cells.specs.Cells.{cell_ends, ends, with_beside}
use Rattle.cells.specs.Vouched.{Absent, Ran, Sound, Vouched, counted_keys, counter, counters, with_key}
use Rattle.cells.specs.Cells.{Cell}
use Rattle.keys.specs.OfKey.{of_key}

module _ {R X : Type 0} (x : X) where
  -- a cell among others with something else beside
  abbrev pub set_aside : List (Cell R X) → ℕ → List (Cell R X)
  set_aside cs i = set cs i (with_beside x (get_or cs i None))

  ends_aside : (is : R → Bool) (level : ℕ) (cs : List (Cell R X)) (i : ℕ) → ends is level (set_aside cs i) ≡ ends is level cs
  ends_aside is level [] i = refl
  ends_aside is level (None ∷ cs) zero = refl
  ends_aside is level (Some s ∷ cs) zero = refl
  ends_aside is level (c ∷ cs) (suc i) = ap (unwrap_or (cell_ends is c)) (ends_aside is level cs i)

  absent_aside : (is : R → Bool) (cs : List (Cell R X)) (i : ℕ) → Absent is cs → Absent is (set_aside cs i)
  absent_aside is [] i h = h
  absent_aside is (None ∷ cs) zero h = h
  absent_aside is (Some s ∷ cs) zero h = h
  absent_aside is (c ∷ cs) (suc i) h = (h.0, absent_aside is cs i h.1)

  counters_aside : (level : ℕ) (cs : List (Cell R X)) (i : ℕ) → counters level (set_aside cs i) ≡ counters level cs
  counters_aside level [] i = refl
  counters_aside level (None ∷ cs) zero = refl
  counters_aside level (Some s ∷ cs) zero = counters_cons level (with_beside x (Some s)) cs ∙ sym (counters_cons level (Some s) cs)
  counters_aside level (c ∷ cs) (suc i) = counters_cons level c (set_aside cs i) ∙ ap (λ (m : ℕ). counter level c + m) (counters_aside level cs i) ∙ sym (counters_cons level c cs)

module _ {K R X : Type 0} (alike : K → K → Bool) (reads : R → Option K) (x : X) where
  sound_aside : (level n : ℕ) (cs : List (Cell R X)) (i : ℕ) → Sound alike reads level n cs → Sound alike reads level n (set_aside x cs i)
  sound_aside level n [] i h = h
  sound_aside level n (None ∷ cs) zero h = h
  sound_aside level n (None ∷ cs) (suc i) h = sound_aside level n cs i h
  sound_aside level n (Some s ∷ cs) zero h =
      let l = h.1 in
      (h.0, record { ahead = l.ahead; marked = l.marked; some = l.some; within = l.within }, h.2)
  sound_aside level n (Some s ∷ cs) (suc i) h =
      ((h.0.0, h.0.1, absent_aside x (of_key alike reads h.0.0) cs i h.0.2), h.1, sound_aside level n cs i h.2)

  keys_aside : (level : ℕ) (cs : List (Cell R X)) (i : ℕ) → counted_keys alike reads level (set_aside x cs i) ≡ counted_keys alike reads level cs
  keys_aside level [] i = refl
  keys_aside level (None ∷ cs) zero = refl
  keys_aside level (None ∷ cs) (suc i) = keys_aside level cs i
  keys_aside level (Some s ∷ cs) zero = refl
  keys_aside level (Some s ∷ cs) (suc i) = ap (with_key (s.count + s.mark - level) (reads s.key)) (keys_aside level cs i)

  vouched_aside : (cs : List (Cell R X)) (level n : ℕ) (xs : List K) (i : ℕ) → Vouched alike reads cs level n xs → Vouched alike reads (set_aside x cs i) level n xs
  vouched_aside cs level n xs i v = record {
    long = v.long;
    few = v.few;
    ranged = λ k. rw (ends_aside x (of_key alike reads k) level cs i) (v.ranged k);
    sound = sound_aside level n cs i v.sound;
    covered = rw (counters_aside x level cs i, length-set cs i (with_beside x (get_or cs i None))) v.covered;
  }

  pub ran_aside : (cs : List (Cell R X)) (level n : ℕ) (xs : List K) (i : ℕ) → Ran alike reads cs level n xs → Ran alike reads (set_aside x cs i) level n xs
  ran_aside cs level n xs i v = record {
    vouched = vouched_aside cs level n xs i v.vouched;
    total = rw (counters_aside x level cs i, length-set cs i (with_beside x (get_or cs i None))) v.total;
    share = rw (length-set cs i (with_beside x (get_or cs i None))) v.share;
    same_counters = rw (keys_aside level cs i, length-set cs i (with_beside x (get_or cs i None))) v.same_counters;
    same_decrements = rw (length-set cs i (with_beside x (get_or cs i None))) v.same_decrements;
  }
