use Rattle.std.proofs.Common.{◌≡◌, ◌+◌, ◌∙◌, ap, arith, ℕ, ℤ, length, List}
use Rattle.mono_portfolio.specs.Extended.{extended as extended_by, board_clause}
use Rattle.mono_portfolio.specs.Workers.{WorkerState}
use Rattle.mono_portfolio.proofs.ExtendedLaws.{within_limits}
use Rattle.mono_portfolio.proofs.Kept.{full_by_counts}
use Rattle.mono_portfolio.proofs.worker.Worker.is_full.Goals as goal

pub overflow_add-literals : goal.overflow_add-literals
overflow_add-literals c =
    let l : c.self.inside.literals ≡ c.args.self.now.literals = ap (λ (x : WorkerState). x.literals) c.self.view_is in
    let few = within_limits (extended_by c.args.problem.now c.args.board.now c.args.self.now.taken) c.requires.kept.worker.fits in
    omega (arith, l, c.requires.kept.literals, few.1)

pub returns : goal.returns
returns c =
    let p = c.args.problem.now in
    let b = c.args.board.now in
    let clauses : ℕ = c.from.result + c.len.result + 1 in
    let literals : ℕ = c.self.inside.literals + length c.clause_of.result.now in
    let taken : length c.self.inside.taken.keys ≡ length c.args.self.now.taken = ap (λ (x : WorkerState). length x.taken) c.self.view_is in
    let l : c.self.inside.literals ≡ c.args.self.now.literals = ap (λ (x : WorkerState). x.literals) c.self.view_is in
    let clause : length c.clause_of.result.now ≡ length (board_clause p b c.args.step) = ap (λ (ls : List ℤ). length ls) c.clause_of.ensures in
    let first : clauses ≡ length p.clauses + length c.args.self.now.taken + 1 = omega (arith, c.from.ensures, c.clause_count.ensures, c.len.ensures.len, taken) in
    let second : literals ≡ c.args.self.now.literals + length (board_clause p b c.args.step) = omega (arith, l, clause) in
    c.passes.ensures ∙ full_by_counts p b c.args.self.now c.args.step clauses literals c.requires.kept first second
