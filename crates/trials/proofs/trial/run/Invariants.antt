use Rattle.std.proofs.Common.{◌≡◌, ◌+◌, ◌≤◌, [], vec_items, vec_len}
use Rattle.trials.proofs.trial.run.Given as goal

-- as many arrivals are noted as turns are over, at most; and while the trial vouches for the list, no answer was wrong
abbrev pub invariant-loop-number : goal.invariant-loop-number
invariant-loop-number g l =
    (vec_len l.history + l.number-iterator.n ≤ l.turns)
    × (g.T.Trial.vouches l.initial.trial [] → g.T.Trial.vouches l.trial (vec_items l.history) × (l.wrong ≡ 0))
