-- where the panes stand
use Rattle.std.proofs.Common.{◌≡◌, ℕ, suc, ◌<◌, ◌≤◌, arith}
use Rattle.panering.specs.Panes.{next_slot, slot_back}
use Rattle.panering.specs.declared.shape.Shape.{Shape}

pub slot_current : (s : Shape) → slot_back s 0 ≡ s.slot
slot_current s = grind arith

pub slot_below : (s : Shape) (j : ℕ) → s.slot ≤ s.panes → j ≤ s.panes → slot_back s j ≤ s.panes
slot_below s j t l = grind arith

-- two panes stand in two slots
pub slots_differ : (s : Shape) (i j : ℕ) → s.slot ≤ s.panes → i < j → j ≤ s.panes → slot_back s i ≡ slot_back s j → ⊥
slots_differ s i j t l h e = grind arith

pub next_below : (s : Shape) → next_slot s ≤ s.panes
next_below s = grind arith

-- after a turn every pane is one further back
pub slot_turned : (s t : Shape) (j : ℕ) → t.panes ≡ s.panes → t.slot ≡ next_slot s → s.slot ≤ s.panes → j < s.panes → slot_back t (suc j) ≡ slot_back s j
slot_turned s t j p e l h = grind arith

-- the slot that the next pane takes is the one of P panes back
pub next_oldest : (s : Shape) → 1 ≤ s.panes → s.slot ≤ s.panes → next_slot s ≡ slot_back s s.panes
next_oldest s some l = grind arith
