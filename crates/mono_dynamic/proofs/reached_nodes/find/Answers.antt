use Rattle.std.proofs.Common.{get_or, arith, refl}
use Rattle.mono_dynamic.proofs.Listed.{not_reached}
use Rattle.mono_dynamic.proofs.reached_nodes.find.Goals as goal
use Rattle.mono_dynamic.proofs.reached_nodes.find.Goals.{else-position-arrivals-via-then-position-arrivals+else-arrivals-position, else-position-arrivals-via-else-position-arrivals}

pub returns-else-position-arrivals : goal.returns-else-position-arrivals
returns-else-position-arrivals c =
    not_reached c.args.positions.now c.args.arrivals.now c.args.node (get_or c.args.positions.now c.args.node 0) c.requires.placed refl
    (λ lt is. elim c.else-position-arrivals.branch [
      | else-position-arrivals-via-then-position-arrivals+else-arrivals-position w ↦ w.if-arrivals-position.false is
      | else-position-arrivals-via-else-position-arrivals w ↦ let past = w.if-position-arrivals.false in omega arith
    ])
