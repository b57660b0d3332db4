-- what the ranges of a table owe of the lists that it accounts for
use Rattle.std.proofs.Common.{◌≡◌, ℕ, ◌+◌, ◌/◌, ◌≤◌, Bool, true, false, List, length, get_or, Some, None, sym, refl, ap, ◌∙◌, ⊎_elim, div-mul-le_self, arith}
use Rattle.badgetable.proofs.Pairs.{badge_part}
use Rattle.badgetable.proofs.Rooms.{held_inside, row_room}
use Rattle.badgetable.specs.Shown.{Covers, badge_count, both_alike, reader_count, readers_of}
use Rattle.cells.proofs.Bounds.{high_covered, level_share, narrow}
use Rattle.cells.proofs.Changed.{first_none}
use Rattle.cells.proofs.Kept.{level_below}
use Rattle.cells.proofs.Places.{ends_at_place, first_at, sound_at, taken_holds}
use Rattle.cells.proofs.Ranges.{ends_absent}
use Rattle.cells.proofs.Sounds.{sound_once}
use Rattle.cells.specs.Cells.{capped, ends, taken_by}
use Rattle.cells.specs.Cells.{Cell}
use Rattle.cells.specs.declared.cell.Slot.{Slot}
use Rattle.badgetable.specs.Tables.{accounts_for, arrivals_in, badge_ends_of, cell_count, reader_ends_of, row_count}
use Rattle.badgetable.specs.declared.table.BadgeTable.{BadgeTable}
use Rattle.keys.specs.Kinds.{KeyKind}
use Rattle.keys.specs.OfKey.{of_key}
use Rattle.parts.proofs.Areas.{length_part}
use Rattle.parts.specs.Parts.{part}
use Rattle.std.proofs.lemmas.Cmp.{and_equiv, on_equiv}
use Rattle.std.proofs.lemmas.Nat.{le-div}
use Rattle.std.proofs.lemmas.List.{length-map}
use Rattle.std.proofs.lemmas.Bool.{and_from}
use Rattle.tally.proofs.Counts.{occurs_alike}
use Rattle.tally.proofs.OfKey.{of_key_at}
use Rattle.tally.proofs.Options.{cases_option}
use Rattle.std.specs.Cmp.{IsEquivalence}
use Rattle.std.specs.List.{position_from}

-- a quotient grows with what is divided
quotients : (m n k : ℕ) → m ≤ n → m / (k + 1) ≤ n / (k + 1)
quotients m n k l = le-div (m / (k + 1)) n (k + 1) (omega arith) (let h = div-mul-le_self m (k + 1) in omega (arith, h, l))

-- arrivals that are the same in reader and badge are an equivalence too
pub both_same : {A B : Type 0} (x : A → A → Bool) (y : B → B → Bool) → IsEquivalence x → IsEquivalence y → IsEquivalence (both_alike x y)
both_same x y lx ly = and_equiv (on_equiv (λ p. p.0) lx) (on_equiv (λ p. p.1) ly)

module _ {A B R S : Type 0} (ka : KeyKind A R) (law : IsEquivalence ka.eq) (kb : KeyKind B S) (lawᵇ : IsEquivalence kb.eq) (t : BadgeTable A B R S) (ps : List (A × B)) (v : accounts_for ka kb t ps) where
  abbrev rows : List (Cell R ℕ)
  rows = t.rows.now

  abbrev cs : List (Cell S (Unit {0}))
  cs = t.cells.now

  abbrev level : ℕ
  level = t.level

  abbrev n : ℕ
  n = arrivals_in t

  abbrev k : ℕ
  k = row_count t

  abbrev j : ℕ
  j = cell_count t

  -- the list has n arrivals
  pub shown_long : length ps ≡ n
  shown_long = sym (length-map ps (λ p. p.0)) ∙ v.readers.vouched.long

  pub reader_covers : (a : A) → Covers (reader_count ka.eq a ps) (n / (k + 1)) (reader_ends_of ka t a).0 (reader_ends_of ka t a).1
  reader_covers a =
      let w = v.readers.vouched in
      let h = w.ranged a in
      let d = narrow ka.eq ka.reads (of_key ka.eq ka.reads a) level n rows w.sound in
      let s = v.readers.share in
      record { from = h.0; upto = h.1; narrow = omega (arith, d, s) }

  -- a badge at a reader without a row
  absent_covers : (a : A) (b : B) → position_from (taken_by (of_key ka.eq ka.reads a)) 0 rows ≡ None → Covers (badge_count ka.eq kb.eq a b ps) (n / (k + 1) + reader_count ka.eq a ps / (j + 1)) 0 level
  absent_covers a b e =
      let h = rw (ends_absent (of_key ka.eq ka.reads a) level rows (first_none (of_key ka.eq ka.reads a) rows 0 e)) at (v.readers.vouched.ranged a) in
      let p = badge_part ka.eq kb.eq a b ps in
      let s = v.readers.share in
      record { from = omega arith; upto = omega (arith, p, h.1); narrow = omega (arith, s) }

  -- a row that is taken: its reader's range, and what it says of the reader's true count
  pub row_plain : (i : ℕ) (q : Slot R ℕ) → get_or rows i None ≡ Some q → capped (q.count + q.mark) ≡ q.count + q.mark
  row_plain i q held =
      let w = v.readers.vouched in
      let live = sound_at ka.eq ka.reads level n rows i q w.sound held in
      let small = level_below ka.eq ka.reads rows level n _ w in
      omega (arith, live.within, live.marked, w.few, small)

  pub row_ends_are : (i : ℕ) (q : Slot R ℕ) (c : A) → get_or rows i None ≡ Some q → ka.reads q.key ≡ Some c → ends (of_key ka.eq ka.reads c) level rows ≡ (q.count, q.count + q.mark)
  row_ends_are i q c held g =
      ends_at_place (of_key ka.eq ka.reads c) level rows i q (sound_once ka.eq ka.reads law c level n rows v.readers.vouched.sound) held (of_key_at ka.eq ka.reads law c c q.key g ∙ law.refl c)
      ∙ ap (λ (m : ℕ). (q.count, m)) (row_plain i q held)

  pub row_seen : (i : ℕ) (q : Slot R ℕ) (c : A) → get_or rows i None ≡ Some q → ka.reads q.key ≡ Some c → (q.count ≤ reader_count ka.eq c ps) × (reader_count ka.eq c ps ≤ q.count + q.mark)
  row_seen i q c held g = rw (row_ends_are i q c held g) at (v.readers.vouched.ranged c)

  -- and the range of a badge there
  pub row_high : (i : ℕ) (q : Slot R ℕ) (c : A) (b : B) → get_or rows i None ≡ Some q → ka.reads q.key ≡ Some c → capped ((ends (of_key kb.eq kb.reads b) q.beside (part j i cs)).1 + q.mark) ≡ (ends (of_key kb.eq kb.reads b) q.beside (part j i cs)).1 + q.mark
  row_high i q c b held g =
      let w = v.readers.vouched in
      let live = sound_at ka.eq ka.reads level n rows i q w.sound held in
      let small = level_below ka.eq ka.reads rows level n _ w in
      let f = v.each i q c held g in
      let high = high_covered kb.eq kb.reads (of_key kb.eq kb.reads b) (part j i cs) q.beside q.count f.badges f.vouched in
      omega (arith, high, live.within, live.marked, w.few, small)

  pub held_covers : (i : ℕ) (q : Slot R ℕ) (c : A) (b : B) → get_or rows i None ≡ Some q → ka.reads q.key ≡ Some c
      → Covers (badge_count ka.eq kb.eq c b ps) (n / (k + 1) + reader_count ka.eq c ps / (j + 1)) (ends (of_key kb.eq kb.reads b) q.beside (part j i cs)).0 (capped ((ends (of_key kb.eq kb.reads b) q.beside (part j i cs)).1 + q.mark))
  held_covers i q c b held g =
      let w = v.readers.vouched in
      let live = sound_at ka.eq ka.reads level n rows i q w.sound held in
      let f = v.each i q c held g in
      let p = part j i cs in
      let is = of_key kb.eq kb.reads b in
      let inner = f.vouched.ranged b in
      let thin = narrow kb.eq kb.reads is q.beside q.count p f.vouched.sound in
      let size : length p ≡ j = length_part j i cs (row_room k (length cs) i (held_inside rows i q held)) in
      let share : q.beside ≤ q.count / (j + 1) = rw size at (level_share kb.eq kb.reads p q.beside q.count f.badges f.vouched) in
      let more = quotients q.count (reader_count ka.eq c ps) j (row_seen i q c held g).0 in
      let outer = v.readers.share in
      let from = f.from b in
      let upto = f.upto b in
      rw (row_high i q c b held g) (record {
        from = omega (arith, inner.0, from);
        upto = omega (arith, inner.1, upto);
        narrow = omega (arith, thin, share, more, outer, live.marked);
      })

  -- a badge at a reader with row i
  row_covers : (a : A) (b : B) (i : ℕ) (q : Slot R ℕ) (c : A) → get_or rows i None ≡ Some q → ka.reads q.key ≡ Some c → ka.eq a c ≡ true
      → Covers (badge_count ka.eq kb.eq a b ps) (n / (k + 1) + reader_count ka.eq a ps / (j + 1)) (ends (of_key kb.eq kb.reads b) q.beside (part j i cs)).0 (capped ((ends (of_key kb.eq kb.reads b) q.beside (part j i cs)).1 + q.mark))
  row_covers a b i q c held g near =
      let same : badge_count ka.eq kb.eq a b ps ≡ badge_count ka.eq kb.eq c b ps = occurs_alike (both_alike ka.eq kb.eq) (both_same ka.eq kb.eq law lawᵇ) (a, b) (c, b) (and_from (ka.eq a c) (kb.eq b b) near (lawᵇ.refl b)) ps in
      let often : reader_count ka.eq a ps ≡ reader_count ka.eq c ps = occurs_alike ka.eq law a c near (readers_of ps) in
      rw (same, often) (held_covers i q c b held g)

  row_read : (a : A) (b : B) (i : ℕ) (q : Slot R ℕ) → position_from (taken_by (of_key ka.eq ka.reads a)) 0 rows ≡ Some i → get_or rows i None ≡ Some q → {count width : ℕ}
      → Covers count width (ends (of_key kb.eq kb.reads b) q.beside (part j i cs)).0 (capped ((ends (of_key kb.eq kb.reads b) q.beside (part j i cs)).1 + q.mark))
      → Covers count width (badge_ends_of ka kb t a b).0 (badge_ends_of ka kb t a b).1
  row_read a b i q e held h = rw (e, held) h

  pub badge_covers : (a : A) (b : B) → Covers (badge_count ka.eq kb.eq a b ps) (n / (k + 1) + reader_count ka.eq a ps / (j + 1)) (badge_ends_of ka kb t a b).0 (badge_ends_of ka kb t a b).1
  badge_covers a b =
      let of = of_key ka.eq ka.reads a in
      ⊎_elim
      (λ (e : position_from (taken_by of) 0 rows ≡ None). rw e (absent_covers a b e))
      (λ (e : (i : ℕ) × (position_from (taken_by of) 0 rows ≡ Some i)).
      let at = first_at (taken_by of) None rows e.0 e.1 in
      let held = taken_holds of (get_or rows e.0 None) at.1 in
      ⊎_elim
      (λ (none : ka.reads held.0.key ≡ None).
      let f : of held.0.key ≡ false = rw (none, of_key) refl in
      let z : true ≡ false = sym held.1.1 ∙ f in
      let zz : ◌≡◌ {A = ℕ} 0 1 = cc in
      absurd (omega arith))
      (λ (some : (c : A) × (ka.reads held.0.key ≡ Some c)).
      let near : ka.eq a some.0 ≡ true = sym (of_key_at ka.eq ka.reads law a some.0 held.0.key some.1) ∙ held.1.1 in
      row_read a b e.0 held.0 e.1 held.1.0 (row_covers a b e.0 held.0 some.0 held.1.0 some.1 near))
      (cases_option (ka.reads held.0.key)))
      (cases_option (position_from (taken_by of) 0 rows))

-- the same of an answered pair
pub covers_pair : (count width : ℕ) (both was : ℕ × ℕ) → both ≡ was → Covers count width was.0 was.1 → Covers count width both.0 both.1
covers_pair count width both was e h = rw e h
