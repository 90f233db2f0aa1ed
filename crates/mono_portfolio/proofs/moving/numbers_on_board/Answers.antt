use Rattle.std.proofs.Common.{◌≡◌, ◌+◌, ℕ, List, subst, sym, arith}
use Rattle.mono_portfolio.proofs.Tables.{IsFilled, filled_first, filled_more, filled_table}
use Rattle.mono_portfolio.proofs.moving.numbers_on_board.Goals as goal

pub loop-step-init : goal.loop-step-init
loop-step-init c = filled_first c.args.count c.args.taken.now c.args.board c.in_ok-numbers.numbers.items c.in_ok-numbers.ensures.items

pub loop-step-preserved : goal.loop-step-preserved
loop-step-preserved c =
    let count = c.args.count in
    let taken = c.args.taken.now in
    let board = c.args.board in
    let step = c.loop-step.step in
    subst (λ (ns : List ℕ). IsFilled count taken board (step + 1) ns) (sym c.in_ok-push.ensures.items) (filled_more count taken board step (count + board + 1 + step) c.loop-step.numbers.items c.loop-step.invariant (omega arith))

pub returns-clause-len : goal.returns-clause-len
returns-clause-len c =
    let e : c.loop-step.step ≡ c.args.steps = omega arith in
    let h : IsFilled c.args.count c.args.taken.now c.args.board c.args.steps c.loop-step.numbers.items = subst (λ (k : ℕ). IsFilled c.args.count c.args.taken.now c.args.board k c.loop-step.numbers.items) e c.loop-step.invariant in
    h.len

pub returns-clause-table : goal.returns-clause-table
returns-clause-table c = filled_table c.args.count c.args.taken.now c.args.board c.loop-step.step c.loop-step.numbers.items c.loop-step.invariant
