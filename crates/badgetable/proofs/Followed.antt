-- how a row's badge table follows the badges at its reader, with an arrival more
use Rattle.std.proofs.Common.{◌≡◌, ℕ, ◌+◌, ◌<◌, ◌≤◌, true, false, List, [], ◌∷◌, ◌++◌, length, Some, refl, ⊎_elim, arith}
use Rattle.badgetable.proofs.Pairs.{badge_part, elsewhere, other_badge, this_badge}
use Rattle.badgetable.specs.Shown.{Follows, reader_count}
use Rattle.cells.proofs.Cleared.{cleared_vouches}
use Rattle.cells.proofs.Kept.{note_kept}
use Rattle.cells.specs.Cells.{cells_after, emptied, level_after, rule_for}
use Rattle.cells.specs.Cells.{Cell}
use Rattle.cells.specs.declared.cell.Slot.{Slot}
use Rattle.keys.specs.Kinds.{KeyKind}
use Rattle.keys.specs.OfKey.{of_key}
use Rattle.std.proofs.lemmas.Bool.{cases_Bool}
use Rattle.tally.proofs.Counts.{occurs_other, occurs_same}
use Rattle.std.specs.Cmp.{IsEquivalence}
use Rattle.tally.specs.Owed.{most_arrivals}

module _ {A B R S : Type 0} (ka : KeyKind A R) (kb : KeyKind B S) where
  -- an arrival at another reader changes nothing
  pub follows_other : (a : A) (b : B) (q : Slot R ℕ) (p : List (Cell S (Unit {0}))) (c : A) (ps : List (A × B)) → ka.eq c a ≡ false → Follows ka kb q p c ps → Follows ka kb q p c (ps ++ (a, b) ∷ [])
  follows_other a b q p c ps far v = record {
    badges = v.badges;
    vouched = v.vouched;
    from = λ d. rw (elsewhere ka.eq kb.eq a b ps c d far) (v.from d);
    upto = λ d. rw (elsewhere ka.eq kb.eq a b ps c d far) (v.upto d);
  }

  -- a row that is just taken: what came before is at most its mark
  pub follows_new : (r : R) (mark : ℕ) (p : List (Cell S (Unit {0}))) (a : A) (ps : List (A × B)) → reader_count ka.eq a ps ≤ mark → Follows ka kb (record { key = r; count = 0; mark = mark; beside = 0 }) (emptied p) a ps
  follows_new r mark p a ps h = record {
    badges = [];
    vouched = cleared_vouches (Unit {0}) kb.eq kb.reads (length p) (emptied p) refl;
    from = λ d. omega arith;
    upto = λ d. let l = badge_part ka.eq kb.eq a d ps in omega (arith, l, h);
  }

  -- an arrival at the row's reader enters its badge table
  pub follows_same : (law : IsEquivalence kb.eq) (a : A) (b : B) (back : kb.reads (kb.lies b) ≡ Some b) (q : Slot R ℕ) (p : List (Cell S (Unit {0}))) (c : A) (ps : List (A × B)) → ka.eq c a ≡ true → q.count < most_arrivals → Follows ka kb q p c ps
      → Follows ka kb
      (record { key = q.key; count = q.count + 1; mark = q.mark; beside = level_after q.beside (rule_for (of_key kb.eq kb.reads b) p) })
      (cells_after q.beside (kb.lies b) tt p (rule_for (of_key kb.eq kb.reads b) p)) c (ps ++ (a, b) ∷ [])
  follows_same law a b back q p c ps near few v = record {
    badges = v.badges ++ b ∷ [];
    vouched = note_kept kb.eq kb.reads law b (kb.lies b) back tt p q.beside q.count v.badges few v.vouched;
    from = λ d. ⊎_elim
        (λ (t : kb.eq d b ≡ true).
        let h = v.from d in rw (occurs_same kb.eq d b v.badges t, this_badge ka.eq kb.eq a b ps c d near t) (omega arith))
        (λ (t : kb.eq d b ≡ false). rw (occurs_other kb.eq d b v.badges t, other_badge ka.eq kb.eq a b ps c d near t) (v.from d))
        (cases_Bool (kb.eq d b));
    upto = λ d. ⊎_elim
        (λ (t : kb.eq d b ≡ true).
        let h = v.upto d in rw (occurs_same kb.eq d b v.badges t, this_badge ka.eq kb.eq a b ps c d near t) (omega arith))
        (λ (t : kb.eq d b ≡ false). rw (occurs_other kb.eq d b v.badges t, other_badge ka.eq kb.eq a b ps c d near t) (v.upto d))
        (cases_Bool (kb.eq d b));
  }
