use Rattle.std.proofs.Common.{◌≡◌, take}
use Rattle.mono_portfolio.specs.Extended.{extended as extended_by}
use Rattle.mono_portfolio.proofs.extending.extended.Given as goal

abbrev pub invariant-loop-number : goal.invariant-loop-number
invariant-loop-number l = l.draft ≡ extended_by l.problem l.board (take l.number-index l.taken)
