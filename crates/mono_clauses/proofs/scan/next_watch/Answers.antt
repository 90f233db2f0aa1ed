use Rattle.std.proofs.Common.{◌≡◌, ◌≢◌, length, arith}
use Rattle.std.proofs.lemmas.Grind.{common_steps}
use Rattle.mono_base.specs.Partial.{value_by}
use Rattle.mono_base.specs.declared.value.Value.TheVariants.{No}
use Rattle.mono_clauses.proofs.ShortClauses.{cover_three}
use Rattle.mono_clauses.specs.Lists.{Stands}
use Rattle.mono_clauses.specs.Store.{clause_at}
use Rattle.mono_clauses.proofs.scan.next_watch.Goals as goal

pub returns-then-number-2-clause-none : goal.returns-then-number-2-clause-none
returns-then-number-2-clause-none c =
    let n : length (clause_at c.args.clauses.now.list c.args.place).lits ≡ 3 = omega (arith, c.if-head-eq3.true, c.head-head.ensures.len) in
    let x : Stands (clause_at c.args.clauses.now.list c.args.place).lits c.head-head.result.cached = c.head-head.ensures.cached (omega (arith, n)) in
    let other : c.head-head.result.cached ≢ c.args.lit = λ e. grind (arith, common_steps, e) in
    let apart : c.head-head.result.cached ≢ c.args.mate = λ e. grind (arith, common_steps, e) in
    let gone : value_by c.args.trail.now.lits c.head-head.result.cached ≡ No = grind (arith, common_steps) in
    cover_three c.args.trail.now.lits (clause_at c.args.clauses.now.list c.args.place).lits c.args.lit c.args.mate c.head-head.result.cached n c.requires.has_lit c.requires.has_mate x c.requires.differ other apart c.requires.falsified gone
