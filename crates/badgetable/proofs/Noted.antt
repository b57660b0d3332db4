-- a table that accounts for a list accounts for it with one arrival more
use Rattle.std.proofs.Common.{◌≡◌, ℕ, ◌+◌, ◌*◌, ◌<◌, ◌≤◌, Bool, true, false, List, [], ◌∷◌, ◌++◌, map, length, get_or, set, Some, None, sym, refl, ap, ◌∙◌, subst, ⊎_elim, arith, is_none}
use Rattle.badgetable.proofs.Followed.{follows_new, follows_other, follows_same}
use Rattle.badgetable.proofs.Pairs.{readers_push}
use Rattle.badgetable.proofs.Rooms.{held_inside, row_room, swept_length, swept_other, with_part_keeps}
use Rattle.badgetable.specs.Plans.{cells_a_row}
use Rattle.badgetable.specs.Rows.{badge_level, badges_after, cells_by, cells_shown, rows_after, rows_by, rows_counted, rows_shown, swept}
use Rattle.badgetable.specs.Shown.{Follows, Shown, readers_of}
use Rattle.cells.proofs.Beside.{ran_aside}
use Rattle.cells.proofs.Changed.{first_none}
use Rattle.cells.proofs.Lengths.{length_after, length_emptied}
use Rattle.cells.proofs.Places.{absent_at, first_at, once_at, sound_at, taken_holds, worn_at}
use Rattle.cells.proofs.Ranges.{ends_absent}
use Rattle.cells.proofs.Runs.{note_ran}
use Rattle.cells.proofs.Sounds.{sound_once}
use Rattle.cells.specs.Cells.{capped, cells_after, counted, emptied, entered, level_after, rule_for, taken_by, worn}
use Rattle.cells.specs.Vouched.{Absent, Ran}
use Rattle.cells.specs.Cells.{Cell}
use Rattle.cells.specs.declared.cell.Slot.{Slot}
use Rattle.cells.specs.declared.rule.Rule.{Rule}
use Rattle.cells.specs.declared.rule.Rule.TheVariants.{Count, Enter, Raise}
use Rattle.badgetable.specs.Tables.{Noted, accounts_for, arrivals_in}
use Rattle.badgetable.specs.declared.table.BadgeTable.{BadgeTable}
use Rattle.keys.specs.Kinds.{KeyKind}
use Rattle.keys.specs.OfKey.{of_key}
use Rattle.parts.proofs.Areas.{part_changed, part_other}
use Rattle.parts.specs.Parts.{part, with_part}
use Rattle.std.proofs.lemmas.List.{get_or-set_other, get_or-set_same, length-set}
use Rattle.std.proofs.lemmas.Bool.{cases_eq}
use Rattle.tally.proofs.OfKey.{of_key_at}
use Rattle.tally.proofs.Options.{cases_option}
use Rattle.std.specs.Cmp.{IsEquivalence}
use Rattle.std.specs.List.{position_from}
use Rattle.tally.specs.Owed.{most_arrivals}

module _ {A B R S : Type 0} (ka : KeyKind A R) (law : IsEquivalence ka.eq) (kb : KeyKind B S) (lawᵇ : IsEquivalence kb.eq) (a : A) (back : ka.reads (ka.lies a) ≡ Some a) (b : B) (backᵇ : kb.reads (kb.lies b) ≡ Some b) where
  abbrev r : R
  r = ka.lies a

  abbrev s : S
  s = kb.lies b

  abbrev of : R → Bool
  of = of_key ka.eq ka.reads a

  abbrev is : S → Bool
  is = of_key kb.eq kb.reads b

  module _ (j : ℕ) (rows : List (Cell R ℕ)) (cs : List (Cell S (Unit {0}))) where
    rows_by_length : (rule : Rule) → length (rows_by is s j rows cs rule) ≡ length rows
    rows_by_length (Count i) = length-set rows i _
    rows_by_length (Enter i) = length-set rows i _
    rows_by_length Raise = refl

    cells_shown_length : (ds : List (Cell S (Unit {0}))) (i : ℕ) → length (cells_shown is s j rows ds i) ≡ length ds
    cells_shown_length ds i =
        let e = badge_level (get_or rows i None) in
        with_part_keeps (λ p. cells_after e s tt p (rule_for is p)) (λ p. length_after e s tt p (rule_for is p)) j i ds

    cells_by_length : (rule : Rule) → length (cells_by is s j rows cs rule) ≡ length cs
    cells_by_length (Count i) = cells_shown_length cs i
    cells_by_length (Enter i) = cells_shown_length (with_part j i emptied cs) i ∙ with_part_keeps emptied length_emptied j i cs
    cells_by_length Raise = swept_length j 0 rows cs

    rows_by_ran : (level n : ℕ) (xs : List A) (rule : Rule) → Ran ka.eq ka.reads rows level n xs → Ran ka.eq ka.reads (rows_by is s j rows cs rule) level n xs
    rows_by_ran level n xs (Count i) v = ran_aside ka.eq ka.reads _ rows level n xs i v
    rows_by_ran level n xs (Enter i) v = ran_aside ka.eq ka.reads _ rows level n xs i v
    rows_by_ran level n xs Raise v = v

  module _ (rows : List (Cell R ℕ)) (cs : List (Cell S (Unit {0}))) (level n : ℕ) (ps : List (A × B)) (few : n < most_arrivals) (v : Shown ka kb rows cs level n ps) where
    abbrev j : ℕ
    j = cells_a_row (length rows) (length cs)

    room : (t : ℕ) → t < length rows → t * j + j ≤ length cs
    room t l = row_room (length rows) (length cs) t l

    -- whether the reader of a row is the one that arrives
    at_reader : (q : Slot R ℕ) (c : A) → ka.reads q.key ≡ Some c → ka.eq c a ≡ of q.key
    at_reader q c e = law.symm c a ∙ sym (of_key_at ka.eq ka.reads law a c q.key e)

    -- a row that another reader has
    other : (t : ℕ) (q : Slot R ℕ) (c : A) → get_or rows t None ≡ Some q → ka.reads q.key ≡ Some c → of q.key ≡ false → (ds : List (Cell S (Unit {0}))) → part j t ds ≡ part j t cs → Follows ka kb q (part j t ds) c (ps ++ (a, b) ∷ [])
    other t q c e g far ds same =
        rw same (follows_other ka kb a b q (part j t cs) c ps (at_reader q c g ∙ far) (v.each t q c e g))

    -- what row i has after an arrival that it counts, from a row q before
    abbrev told : Slot R ℕ → ℕ → Slot R ℕ
    told q e = record { key = q.key; count = q.count + 1; mark = q.mark; beside = e }

    moved : (q w : Slot R ℕ) (p p' : List (Cell S (Unit {0}))) (c : A) → w ≡ q → p' ≡ p → Follows ka kb q p c (ps ++ (a, b) ∷ []) → Follows ka kb w p' c (ps ++ (a, b) ∷ [])
    moved q w p p' c e f h = rw (e, f) h

    -- the rows after a badge entered the badge table of row i, which was q before and counts the arrival
    shown_each : (i : ℕ) → i < length rows → (rows1 : List (Cell R ℕ)) → length rows1 ≡ length rows → (ds : List (Cell S (Unit {0}))) → length ds ≡ length cs → (q : Slot R ℕ) → get_or rows1 i None ≡ Some (told q q.beside) → ((t : ℕ) → (t ≡ i → ⊥) → get_or rows1 t None ≡ get_or rows t None) → ((t : ℕ) → t < length rows → (i ≡ t → ⊥) → part j t ds ≡ part j t cs) → (c : A) → ka.reads q.key ≡ Some c → ka.eq c a ≡ true → q.count < most_arrivals → Follows ka kb q (part j i ds) c ps → ((t : ℕ) (w : Slot R ℕ) → (i ≡ t → ⊥) → get_or rows t None ≡ Some w → of w.key ≡ false)
        → (t : ℕ) (w : Slot R ℕ) (d : A) → get_or (rows_shown is s j rows1 ds i) t None ≡ Some w → ka.reads w.key ≡ Some d → Follows ka kb w (part j t (cells_shown is s j rows1 ds i)) d (ps ++ (a, b) ∷ [])
    shown_each i l rows1 long ds wide q here else parts c g near less f far t w d e h =
        let lv = badge_level (get_or rows1 i None) in
        let step = λ (p : List (Cell S (Unit {0}))). cells_after lv s tt p (rule_for is p) in
        let keeps : (p : List (Cell S (Unit {0}))) → length (step p) ≡ length p = λ p. length_after lv s tt p (rule_for is p) in
        let inside : i * j + j ≤ length ds = omega (arith, room i l, wide) in
        let now = level_after q.beside (rule_for is (part j i ds)) in
        let was : lv ≡ q.beside = ap badge_level here in
        ⊎_elim
        (λ (z : t ≡ i).
        let row : get_or (rows_shown is s j rows1 ds i) i None ≡ Some (told q now) = get_or-set_same rows1 i _ None (omega (arith, l, long)) ∙ rw here refl in
        let both : Some w ≡ Some (told q now) = sym (rw z at e) ∙ row in
        let same : w ≡ told q now = cc in
        let keyed : ka.reads w.key ≡ ka.reads q.key = ap (λ (k : Slot R ℕ). ka.reads k.key) same in
        let some : Some d ≡ Some c = sym h ∙ keyed ∙ g in
        let one : d ≡ c = cc in
        let cell : part j i (cells_shown is s j rows1 ds i) ≡ cells_after q.beside s tt (part j i ds) (rule_for is (part j i ds)) = part_changed step keeps j ds i inside ∙ rw was refl in
        rw (z, one) (moved (told q now) w _ _ c same cell (follows_same ka kb lawᵇ a b backᵇ q (part j i ds) c ps near less f)))
        (λ (z : t ≡ i → ⊥).
        let old : get_or rows t None ≡ Some w = sym (else t z) ∙ sym (get_or-set_other rows1 i t _ None z) ∙ e in
        let tl = held_inside rows t w old in
        let ne : i ≡ t → ⊥ = λ k. z (sym k) in
        other t w d old h (far t w ne old) (cells_shown is s j rows1 ds i)
        (part_other step keeps j ds i t inside (omega (arith, room t tl, wide)) ne ∙ parts t tl ne))
        (cases_eq t i)

    abbrev Each : List (Cell R ℕ) → List (Cell S (Unit {0})) → Type 0
    Each rows2 ds =
        (t : ℕ) (w : Slot R ℕ) (d : A) → get_or rows2 t None ≡ Some w → ka.reads w.key ≡ Some d → Follows ka kb w (part j t ds) d (ps ++ (a, b) ∷ [])

    counts : (row : Cell R ℕ) (q : Slot R ℕ) → row ≡ Some q → q.count < most_arrivals → counted row ≡ Some (told q q.beside)
    counts row q e less = let up : capped (q.count + 1) ≡ q.count + 1 = omega (arith, less) in rw (e, up) refl

    -- the reader has row i
    count_each : (i : ℕ) → position_from (taken_by of) 0 rows ≡ Some i → Each (rows_shown is s j (set rows i (counted (get_or rows i None))) cs i) (cells_shown is s j (set rows i (counted (get_or rows i None))) cs i)
    count_each i e =
        let at = first_at (taken_by of) None rows i e in
        let held = taken_holds of (get_or rows i None) at.1 in
        let q = held.0 in
        let sound = v.readers.vouched.sound in
        let live = sound_at ka.eq ka.reads level n rows i q sound held.1.0 in
        let less : q.count < most_arrivals = omega (arith, live.within, few) in
        let here : get_or (set rows i (counted (get_or rows i None))) i None ≡ Some (told q q.beside) = get_or-set_same rows i _ None at.0 ∙ counts (get_or rows i None) q held.1.0 less in
        ⊎_elim
        (λ (none : ka.reads q.key ≡ None).
        let f : of q.key ≡ false = rw (none, of_key) refl in
        let z : true ≡ false = sym held.1.1 ∙ f in
        let zz : ◌≡◌ {A = ℕ} 0 1 = cc in
        absurd (omega arith))
        (λ (some : (c : A) × (ka.reads q.key ≡ Some c)).
        shown_each i at.0 (set rows i (counted (get_or rows i None))) (length-set rows i _) cs refl q here
        (λ t ne. get_or-set_other rows i t _ None ne)
        (λ t l ne. refl)
        some.0 some.1 (at_reader q some.0 some.1 ∙ held.1.1) less
        (v.each i q some.0 held.1.0 some.1)
        (λ t w ne old. once_at of rows i t q w (sound_once ka.eq ka.reads law a level n rows sound) held.1.0 held.1.1 ne old))
        (cases_option (ka.reads q.key))

    -- the reader takes row i, which was free
    enter_each : (i : ℕ) → Absent of rows → position_from is_none 0 rows ≡ Some i → Each (rows_shown is s j (set rows i (entered level r 0)) (with_part j i emptied cs) i) (cells_shown is s j (set rows i (entered level r 0)) (with_part j i emptied cs) i)
    enter_each i out e =
        let at = first_at is_none None rows i e in
        let q : Slot R ℕ = record { key = r; count = 0; mark = level; beside = 0 } in
        let ranged = rw (ends_absent of level rows out) at (v.readers.vouched.ranged a) in
        let cells : part j i (with_part j i emptied cs) ≡ emptied (part j i cs) = part_changed emptied length_emptied j cs i (room i at.0) in
        shown_each i at.0 (set rows i (entered level r 0)) (length-set rows i _) (with_part j i emptied cs) (with_part_keeps emptied length_emptied j i cs) q
        (get_or-set_same rows i _ None at.0)
        (λ t ne. get_or-set_other rows i t _ None ne)
        (λ t l ne. part_other emptied length_emptied j cs i t (room i at.0) (room t l) ne)
        a back (law.refl a) (omega arith)
        (rw cells (follows_new ka kb r level (part j i cs) a ps ranged.1))
        (λ t w ne old. absent_at of rows t w out old)

    -- no row counts the arrival
    raise_each : Absent of rows → Each (map (worn (capped (level + 1))) rows) (swept j 0 (map (worn (capped (level + 1))) rows) cs)
    raise_each out t w d e h =
        let up = capped (level + 1) in
        let old = worn_at up rows t w e in
        let long : length (map (worn up) rows) ≡ length rows = length_after level r 0 rows Raise in
        other t w d old h (absent_at of rows t w out old) (swept j 0 (map (worn up) rows) cs)
        (swept_other j t 0 (map (worn up) rows) cs (room t (held_inside rows t w old))
        (λ u l. let k : 0 + u ≡ u = omega arith in rw k (room u (omega (arith, l, long))))
        (λ u z l. let k : u ≡ t = omega (arith, z) in rw (k, e) refl))

    -- whichever rule the arrival meets
    each_by : Each (rows_after of is r s level rows cs) (badges_after of is r s level rows cs)
    each_by =
        ⊎_elim
        (λ (f : position_from (taken_by of) 0 rows ≡ None). ⊎_elim
        (λ (e : position_from is_none 0 rows ≡ None). rw (f, e) (raise_each (first_none of rows 0 f)))
        (λ (e : (i : ℕ) × (position_from is_none 0 rows ≡ Some i)). rw (f, e.1) (enter_each e.0 (first_none of rows 0 f) e.1))
        (cases_option (position_from is_none 0 rows)))
        (λ (f : (i : ℕ) × (position_from (taken_by of) 0 rows ≡ Some i)). rw f.1 (count_each f.0 f.1))
        (cases_option (position_from (taken_by of) 0 rows))

    pub note_shown : Shown ka kb (rows_after of is r s level rows cs) (badges_after of is r s level rows cs) (level_after level (rule_for of rows)) (n + 1) (ps ++ (a, b) ∷ [])
    note_shown =
        let rule = rule_for of rows in
        let rows1 = rows_counted of is r s level rows cs in
        let long : length (rows_after of is r s level rows cs) ≡ length rows = rows_by_length j rows1 cs rule ∙ length_after level r 0 rows rule in
        let wide : length (badges_after of is r s level rows cs) ≡ length cs = cells_by_length j rows1 cs rule in
        let per : cells_a_row (length (rows_after of is r s level rows cs)) (length (badges_after of is r s level rows cs)) ≡ j = ap (λ (m : ℕ). cells_a_row m (length (badges_after of is r s level rows cs))) long ∙ ap (cells_a_row (length rows)) wide in
        let ran = note_ran ka.eq ka.reads law a r back 0 rows level n (readers_of ps) few v.readers in
        record {
          readers = rw (readers_push ka.eq kb.eq ps a b) (rows_by_ran j rows1 cs (level_after level rule) (n + 1) (readers_of ps ++ a ∷ []) rule ran);
          each = λ t w d e h. subst (λ (m : ℕ). Follows ka kb w (part m t (badges_after of is r s level rows cs)) d (ps ++ (a, b) ∷ [])) (sym per) (each_by t w d e h);
        }

  -- a table that noted an arrival accounts for it
  pub note_accounts : (was t : BadgeTable A B R S) (ps : List (A × B)) → arrivals_in was < most_arrivals → Noted ka kb a b was t → accounts_for ka kb was ps → accounts_for ka kb t (ps ++ (a, b) ∷ [])
  note_accounts was t ps few h v =
      rw (h.rows, h.cells, h.level, h.noted) (note_shown was.rows.now was.cells.now was.level (arrivals_in was) ps few v)
