-- a badge listing that is given is right of every list that the table accounts for
use Rattle.std.proofs.Common.{◌≡◌, ℕ, ◌+◌, ◌-◌, ◌*◌, ◌/◌, ◌%◌, ◌<◌, ◌≤◌, Bool, true, false, ◌&&◌, ◌||◌, nat_eq, nat_le, List, length, get_or, Some, None, Option, sym, refl, ap, ◌∙◌, ⊎_elim, mul-le-mul_right, mul_comm, add-mul, div-add-mod', mul-add, arith}
use Rattle.badgetable.proofs.Covered.{both_same, held_covers, row_ends_are, row_plain, row_seen, shown_long}
use Rattle.badgetable.proofs.Rooms.{row_room}
use Rattle.badgetable.specs.Shown.{Covers, badge_count, both_alike, correlated_heavy_hitter, reader_count, readers_of}
use Rattle.badgetable.specs.Tables.{accounts_for, arrivals_in, cell_count, cells_of, row_count}
use Rattle.badgetable.specs.declared.table.BadgeTable.{BadgeTable}
use Rattle.cells.proofs.Changed.{first_none}
use Rattle.cells.proofs.Places.{ends_at_place, first_at, key_of_place, once_at, taken_holds}
use Rattle.cells.proofs.Ranges.{ends_absent}
use Rattle.cells.proofs.Sounds.{sound_once}
use Rattle.cells.specs.Cells.{capped, ends, taken_by}
use Rattle.cells.specs.Cells.{Cell}
use Rattle.cells.specs.declared.cell.Slot.{Slot}
use Rattle.keys.specs.OfKey.{of_key}
use Rattle.keys.specs.Shares.{is_share, passes}
use Rattle.keys.specs.Kinds.{KeyKind}
use Rattle.listings.proofs.Elements.{none_at}
use Rattle.listings.proofs.Gates.{gate_open, given_behind}
use Rattle.listings.proofs.ReaderLaws.{passes_more}
use Rattle.listings.proofs.Rows.{all_listed, any_listed, pairs_listed}
use Rattle.listings.specs.Listings.{badge_gate, badge_high, badge_listing, badge_place, badge_row, badge_rows, is_fine, is_listed}
use Rattle.listings.specs.Right.{Given, Measure, RightBadgeRow, RightBadges, is_of, measure_of, names_badge}
use Rattle.listings.specs.declared.row.BadgeRow.{BadgeRow}
use Rattle.parts.proofs.Areas.{length_part}
use Rattle.std.proofs.lemmas.Option.{cond_some, none-some}
use Rattle.std.proofs.lemmas.Nat.{div-mul-add, mod-mul-add}
use Rattle.std.proofs.lemmas.Bool.{and_from, and_parts, both_ways, cases_Bool, cases_eq, eqb-true, leb-true, lt-ltb, ltb-true, or_parts}
use Rattle.tally.proofs.Counts.{occurs_alike}
use Rattle.tally.proofs.OfKey.{of_key_at}
use Rattle.tally.proofs.Options.{cases_option}
use Rattle.std.specs.Cmp.{IsEquivalence}
use Rattle.std.specs.List.{list_any, position_from}

-- a badge that passes u/v of what a row has seen passes u/v of the reader's true count with both widths allowed to it
near_true : (u v low high mark seen f count : ℕ) → u ≤ v → low ≤ count → f ≤ seen + mark → passes u v high seen ≡ true → passes u v (count + (high - low) + mark) f ≡ true
near_true u v low high mark seen f count le from upto e =
    let a = ltb-true (u * seen) (high * v) e in
    let b : (high + mark) * v ≤ (count + (high - low) + mark) * v = mul-le-mul_right v (omega (arith, from)) in
    let c = add-mul high mark v in
    let d : u * mark ≤ v * mark = mul-le-mul_right mark le in
    let g = mul_comm v mark in
    let h : f * u ≤ (seen + mark) * u = mul-le-mul_right u upto in
    let i = mul_comm f u in
    let k = mul_comm (seen + mark) u in
    let l = mul-add u seen mark in
    lt-ltb (u * f) ((count + (high - low) + mark) * v) (omega (arith, a, b, c, d, g, h, i, k, l))

-- what passes a share of a whole passes it of less
passes_less : (u v part f seen : ℕ) → seen ≤ f → passes u v part f ≡ true → passes u v part seen ≡ true
passes_less u v part f seen l e =
    let a = ltb-true (u * f) (part * v) e in
    let b : seen * u ≤ f * u = mul-le-mul_right u l in
    let c = mul_comm seen u in
    let d = mul_comm f u in
    lt-ltb (u * seen) (part * v) (omega (arith, a, b, c, d))

module _ {A B R Q : Type 0} (ka : KeyKind A R) (kb : KeyKind B Q) (la : IsEquivalence ka.eq) (lb : IsEquivalence kb.eq) (t : BadgeTable A B R Q) (p q u v : ℕ) (le : u ≤ v) (ps : List (A × B)) (shown : accounts_for ka kb t ps) where
  abbrev x : A → A → Bool
  x = ka.eq

  abbrev y : B → B → Bool
  y = kb.eq

  abbrev rows : List (Cell R ℕ)
  rows = t.rows.now

  abbrev cs : List (Cell Q (Unit {0}))
  cs = t.cells.now

  abbrev n : ℕ
  n = arrivals_in t

  abbrev m : Measure A
  m = measure_of ka kb t p q u v

  long : length ps ≡ n
  long = shown_long ka la kb lb t ps shown

  module _ (i : ℕ) (r : Slot R ℕ) (a : A) (held : get_or rows i None ≡ Some r) (reads : ka.reads r.key ≡ Some a) where
    ends_are : ends (of_key x ka.reads a) t.level rows ≡ (r.count, r.count + r.mark)
    ends_are = row_ends_are ka la kb lb t ps shown i r a held reads

    seen : (r.count ≤ reader_count x a ps) × (reader_count x a ps ≤ r.count + r.mark)
    seen = row_seen ka la kb lb t ps shown i r a held reads

    spread_is : m.spread a ≡ r.mark
    spread_is = ap (λ (e : ℕ × ℕ). e.1 - e.0) ends_are ∙ omega arith

    -- a badge that the row holds at a place
    module _ (c : ℕ) (s : Slot Q (Unit {0})) (b : B) (at : get_or (cells_of t i) c None ≡ Some s) (reads2 : kb.reads s.key ≡ Some b) where
      inner_ends : ends (of_key y kb.reads b) r.beside (cells_of t i) ≡ (s.count, capped (s.count + s.mark))
      inner_ends =
          let f = shown.each i r a held reads in
          ends_at_place (of_key y kb.reads b) r.beside (cells_of t i) c s (sound_once y kb.reads lb b r.beside r.count (cells_of t i) f.vouched.sound) at (of_key_at y kb.reads lb b b s.key reads2 ∙ lb.refl b)

      covers : Covers (badge_count x y a b ps) (length ps / (row_count t + 1) + reader_count x a ps / (cell_count t + 1)) s.count (badge_high s.count s.mark r.mark)
      covers = rw (inner_ends, ← long) at (held_covers ka la kb lb t ps shown i r a b held reads)

  abbrev place : ℕ → Option (BadgeRow R Q)
  place = badge_place t p q u v n

  -- the row of a badge in a row
  abbrev named : Slot R ℕ → Slot Q (Unit {0}) → BadgeRow R Q
  named r s = record { reader = r.key; badge = s.key; low = s.count; high = badge_high s.count s.mark r.mark }

  -- what the row of a place comes from: a row, and a badge that it holds, which are to be named
  record Stands (i c : ℕ) (w : BadgeRow R Q) : Type 0 where
    row : Slot R ℕ
    cell : Slot Q (Unit {0})
    row_at : get_or rows i None ≡ Some row
    cell_at : get_or (cells_of t i) c None ≡ Some cell
    above : passes u v (badge_high cell.count cell.mark row.mark) row.count ≡ true
    reader_above : is_listed p q n (Some row) ≡ true
    is : named row cell ≡ w

  row_stands : (i c : ℕ) (row : Cell R ℕ) (cell : Cell Q (Unit {0})) (w : BadgeRow R Q) → get_or rows i None ≡ row → get_or (cells_of t i) c None ≡ cell → badge_row p q u v n row cell ≡ Some w → Stands i c w
  row_stands i c None cell w e f h = absurd (none-some w h)
  row_stands i c (Some r) None w e f h = absurd (none-some w h)
  row_stands i c (Some r) (Some s) w e f h =
      let above = passes u v (badge_high s.count s.mark r.mark) r.count in
      let there = cond_some (is_listed p q n (Some r) && above) (named r s) w h in
      let both = and_parts (is_listed p q n (Some r)) above there.0 in
      record { row = r; cell = s; row_at = e; cell_at = f; above = both.1; reader_above = both.0; is = there.1 }

  place_stands : (d : ℕ) (w : BadgeRow R Q) → place d ≡ Some w → Stands (d / cell_count t) (d % cell_count t) w
  place_stands d w h =
      ⊎_elim
      (λ (z : nat_eq (cell_count t) 0 ≡ true). absurd (none-some w (rw z at h)))
      (λ (z : nat_eq (cell_count t) 0 ≡ false). row_stands (d / cell_count t) (d % cell_count t) _ _ w refl refl (rw z at h))
      (cases_Bool (nat_eq (cell_count t) 0))

  -- each row is right
  row_right : (i c : ℕ) (w : BadgeRow R Q) → Stands i c w → RightBadgeRow ka kb m ps w
  row_right i c w h =
      let r = h.row in
      let s = h.cell in
      let high = badge_high s.count s.mark r.mark in
      let a = key_of_place x ka.reads t.level n rows i r shown.readers.vouched.sound h.row_at in
      let inner = shown.each i r a.0 h.row_at a.1 in
      let b = key_of_place y kb.reads r.beside r.count (cells_of t i) c s inner.vouched.sound h.cell_at in
      let cov = covers i r a.0 h.row_at a.1 c s b.0 h.cell_at b.1 in
      let often = seen i r a.0 h.row_at a.1 in
      let wide = spread_is i r a.0 h.row_at a.1 in
      rw (← h.is)
      (record {
        reader = a.0;
        badge = b.0;
        of_reader = a.1;
        of_badge = b.1;
        range = cov;
        reader_near = rw (long, wide) (passes_more p q (capped (r.count + r.mark)) (reader_count x a.0 ps + r.mark) n (omega (arith, often.0)) h.reader_above);
        badge_near = rw wide (near_true u v s.count high r.mark r.count (reader_count x a.0 ps) (badge_count x y a.0 b.0 ps) le cov.from often.1 h.above);
      })

  -- a badge that a row holds, at its place
  place_is : (i c : ℕ) (r : Slot R ℕ) (s : Slot Q (Unit {0})) → i < row_count t → c < cell_count t → get_or rows i None ≡ Some r → get_or (cells_of t i) c None ≡ Some s → (i * cell_count t + c < row_count t * cell_count t) × (place (i * cell_count t + c) ≡ badge_row p q u v n (Some r) (Some s))
  place_is i c r s k j e f =
      let a : (i + 1) * cell_count t ≤ row_count t * cell_count t = mul-le-mul_right (cell_count t) (omega arith) in
      let b = add-mul i 1 (cell_count t) in
      let none : nat_eq (cell_count t) 0 ≡ false = ⊎_elim (λ (z : nat_eq (cell_count t) 0 ≡ true). absurd (let w = eqb-true (cell_count t) 0 z in omega arith)) (λ (z : nat_eq (cell_count t) 0 ≡ false). z) (cases_Bool (nat_eq (cell_count t) 0)) in
      (omega (arith, a, b, j), rw (none, div-mul-add i (cell_count t) c j, mod-mul-add i (cell_count t) c j, e, f) refl)

  module _ (coarse : (passes p q t.level n || list_any (is_fine p q u v n) rows) ≡ false) (a : A) (b : B) (heavy : correlated_heavy_hitter x y p q u v a b ps ≡ true) where
    reader_heavy : passes p q (reader_count x a ps) n ≡ true
    reader_heavy = rw long at (and_parts (passes p q (reader_count x a ps) (length ps)) (passes u v (badge_count x y a b ps) (reader_count x a ps)) heavy).0

    badge_heavy : passes u v (badge_count x y a b ps) (reader_count x a ps) ≡ true
    badge_heavy = (and_parts (passes p q (reader_count x a ps) (length ps)) (passes u v (badge_count x y a b ps) (reader_count x a ps)) heavy).1

    -- at a row of the reader, whose key there is c
    module _ (i : ℕ) (r : Slot R ℕ) (c : A) (inside : i < row_count t) (held : get_or rows i None ≡ Some r) (reads : ka.reads r.key ≡ Some c) (near : x a c ≡ true) where
      often : reader_count x a ps ≡ reader_count x c ps
      often = occurs_alike x la a c near (readers_of ps)

      together : badge_count x y a b ps ≡ badge_count x y c b ps
      together = occurs_alike (both_alike x y) (both_same x y la lb) (a, b) (c, b) (and_from (x a c) (y b b) near (lb.refl b)) ps

      row_listed : is_listed p q n (Some r) ≡ true
      row_listed =
          let s = seen i r c held reads in
          let plain = row_plain ka la kb lb t ps shown i r held in
          passes_more p q (reader_count x a ps) (capped (r.count + r.mark)) n (omega (arith, s.1, often, plain)) reader_heavy

      of_seen : (high : ℕ) → badge_count x y c b ps ≤ high → passes u v high r.count ≡ true
      of_seen high l =
          let s = seen i r c held reads in
          passes_more u v (badge_count x y a b ps) high r.count (omega (arith, together, l))
          (passes_less u v (badge_count x y a b ps) (reader_count x a ps) r.count (omega (arith, s.0, often)) badge_heavy)

      range : (e : ℕ × ℕ) → ends (of_key y kb.reads b) r.beside (cells_of t i) ≡ e → badge_count x y c b ps ≤ capped (e.1 + r.mark)
      range e z = rw z at (held_covers ka la kb lb t ps shown i r c b held reads).upto

      -- a badge that the row does not hold would have closed the gate
      not_held : position_from (taken_by (of_key y kb.reads b)) 0 (cells_of t i) ≡ None → ⊥
      not_held z =
          let h = range (0, r.beside) (ends_absent (of_key y kb.reads b) r.beside (cells_of t i) (first_none (of_key y kb.reads b) (cells_of t i) 0 z)) in
          let fine : is_fine p q u v n (Some r) ≡ true = and_from (is_listed p q n (Some r)) (passes u v (capped (r.beside + r.mark)) r.count) row_listed (of_seen (capped (r.beside + r.mark)) h) in
          let none = none_at (is_fine p q u v n) None rows i (or_parts (passes p q t.level n) (list_any (is_fine p q u v n) rows) coarse).1 inside in
          both_ways (is_fine p q u v n (Some r)) (sym (ap (is_fine p q u v n) held) ∙ none) fine

      -- and one that it holds is named
      holds : (d : ℕ) → position_from (taken_by (of_key y kb.reads b)) 0 (cells_of t i) ≡ Some d → of_key x ka.reads a r.key ≡ true → names_badge ka kb a b (badge_rows t p q u v) ≡ true
      holds d z mine =
          let is = of_key y kb.reads b in
          let at = first_at (taken_by is) None (cells_of t i) d z in
          let found = taken_holds is (get_or (cells_of t i) d None) at.1 in
          let s = found.0 in
          let f = shown.each i r c held reads in
          let size : length (cells_of t i) ≡ cell_count t = length_part (cell_count t) i cs (row_room (row_count t) (length cs) i inside) in
          let high = badge_high s.count s.mark r.mark in
          let h = range (s.count, capped (s.count + s.mark)) (ends_at_place is r.beside (cells_of t i) d s (sound_once y kb.reads lb b r.beside r.count (cells_of t i) f.vouched.sound) found.1.0 found.1.1) in
          let test = and_from (is_listed p q n (Some r)) (passes u v high r.count) row_listed (of_seen high h) in
          let there = place_is i d r s inside (omega (arith, at.0, size)) held found.1.0 in
          any_listed place (is_of ka kb a b) (row_count t * cell_count t) (i * cell_count t + d) (named r s) there.0 (there.1 ∙ rw test refl) (and_from (of_key x ka.reads a r.key) (is s.key) mine found.1.1)

    complete_at : names_badge ka kb a b (badge_rows t p q u v) ≡ true
    complete_at =
        let of = of_key x ka.reads a in
        ⊎_elim
        (λ (e : position_from (taken_by of) 0 rows ≡ None).
        let h = rw (ends_absent of t.level rows (first_none of rows 0 e)) at (shown.readers.vouched.ranged a) in
        absurd (both_ways (passes p q t.level n) (or_parts (passes p q t.level n) (list_any (is_fine p q u v n) rows) coarse).0 (passes_more p q (reader_count x a ps) t.level n h.1 reader_heavy)))
        (λ (e : (i : ℕ) × (position_from (taken_by of) 0 rows ≡ Some i)).
        let at = first_at (taken_by of) None rows e.0 e.1 in
        let held = taken_holds of (get_or rows e.0 None) at.1 in
        let key = key_of_place x ka.reads t.level n rows e.0 held.0 shown.readers.vouched.sound held.1.0 in
        let near : x a key.0 ≡ true = sym (of_key_at x ka.reads la a key.0 held.0.key key.1) ∙ held.1.1 in
        ⊎_elim
        (λ (z : position_from (taken_by (of_key y kb.reads b)) 0 (cells_of t e.0) ≡ None). absurd (not_held e.0 held.0 key.0 at.0 held.1.0 key.1 near z))
        (λ (z : (d : ℕ) × (position_from (taken_by (of_key y kb.reads b)) 0 (cells_of t e.0) ≡ Some d)). holds e.0 held.0 key.0 at.0 held.1.0 key.1 near z.0 z.1 held.1.1)
        (cases_option (position_from (taken_by (of_key y kb.reads b)) 0 (cells_of t e.0))))
        (cases_option (position_from (taken_by of) 0 rows))

  -- whose they are
  stands_of : (a : A) (b : B) (i c : ℕ) (w : BadgeRow R Q) (h : Stands i c w) → is_of ka kb a b w ≡ true → (of_key x ka.reads a h.row.key ≡ true) × (of_key y kb.reads b h.cell.key ≡ true)
  stands_of a b i c w h e = and_parts (of_key x ka.reads a h.row.key) (of_key y kb.reads b h.cell.key) (ap (is_of ka kb a b) h.is ∙ e)

  -- a badge at a reader stands at one place alone
  stands_once : (a : A) (b : B) (i c k d : ℕ) (r w : BadgeRow R Q) → Stands i c r → Stands k d w → is_of ka kb a b r ≡ true → is_of ka kb a b w ≡ true → (i ≡ k) × (c ≡ d)
  stands_once a b i c k d r w h g e f =
      let sound = shown.readers.vouched.sound in
      let of = stands_of a b i c r h e in
      let too = stands_of a b k d w g f in
      let one : i ≡ k = ⊎_elim
      (λ (z : i ≡ k). z)
      (λ (ne : i ≡ k → ⊥). absurd (both_ways (of_key x ka.reads a g.row.key) (once_at (of_key x ka.reads a) rows i k h.row g.row (sound_once x ka.reads la a t.level n rows sound) h.row_at of.0 ne g.row_at) too.0))
      (cases_eq i k) in
      let key = key_of_place x ka.reads t.level n rows i h.row sound h.row_at in
      let inner = shown.each i h.row key.0 h.row_at key.1 in
      let there : get_or (cells_of t i) d None ≡ Some g.cell = ap (λ (z : ℕ). get_or (cells_of t z) d None) one ∙ g.cell_at in
      let two : c ≡ d = ⊎_elim
      (λ (z : c ≡ d). z)
      (λ (ne : c ≡ d → ⊥). absurd (both_ways (of_key y kb.reads b g.cell.key) (once_at (of_key y kb.reads b) (cells_of t i) c d h.cell g.cell (sound_once y kb.reads lb b h.row.beside h.row.count (cells_of t i) inner.vouched.sound) h.cell_at of.1 ne there) too.1))
      (cases_eq c d) in
      (one, two)

  -- of two places with a row the later one is of another badge or reader
  place_once : (d e : ℕ) (r w : BadgeRow R Q) → d < e → place d ≡ Some r → place e ≡ Some w → (a : A) (b : B) → is_of ka kb a b r ≡ true → is_of ka kb a b w ≡ false
  place_once d e r w l f g a b of =
      ⊎_elim
      (λ (too : is_of ka kb a b w ≡ true).
      let z = stands_once a b (d / cell_count t) (d % cell_count t) (e / cell_count t) (e % cell_count t) r w (place_stands d r f) (place_stands e w g) of too in
      let h = div-add-mod' d (cell_count t) in
      let k = div-add-mod' e (cell_count t) in
      let same : d ≡ e = sym h ∙ rw (z.0, z.1) k in
      absurd (omega (arith, l, same)))
      (λ (no : is_of ka kb a b w ≡ false). no)
      (cases_Bool (is_of ka kb a b w))

  -- a listing that the gate lets through
  pub badges_right : (passes p q t.level n || list_any (is_fine p q u v n) rows) ≡ false → RightBadges ka kb m ps (badge_rows t p q u v)
  badges_right coarse = record {
    complete = complete_at coarse;
    sound = all_listed place (RightBadgeRow ka kb m ps) (row_count t * cell_count t) (λ d w l e. row_right (d / cell_count t) (d % cell_count t) w (place_stands d w e));
    once = pairs_listed place (λ r w. (a : A) (b : B) → is_of ka kb a b r ≡ true → is_of ka kb a b w ≡ false) (row_count t * cell_count t) place_once;
  }

-- and so is every listing that is given
pub badges_given : {A B R Q : Type 0} (ka : KeyKind A R) (kb : KeyKind B Q) (la : IsEquivalence ka.eq) (lb : IsEquivalence kb.eq) (t : BadgeTable A B R Q) (ps : List (A × B)) → accounts_for ka kb t ps → (p q u v room : ℕ) → Given (badge_listing t p q u v room) (λ rows. RightBadges ka kb (measure_of ka kb t p q u v) ps rows)
badges_given ka kb la lb t ps shown p q u v room =
    given_behind (badge_gate t p q u v) (badge_rows t p q u v) room (RightBadges ka kb (measure_of ka kb t p q u v) ps)
    (λ e.
    let through = gate_open (is_share p q && is_share u v) (passes p q t.level (arrivals_in t) || list_any (is_fine p q u v (arrivals_in t)) t.rows.now) e in
    let share = and_parts (nat_le 1 u) (nat_le u v && nat_le v 1000) (and_parts (is_share p q) (is_share u v) through.0).1 in
    let le = leb-true u v (and_parts (nat_le u v) (nat_le v 1000) share.1).0 in
    badges_right ka kb la lb t p q u v le ps shown through.1)
