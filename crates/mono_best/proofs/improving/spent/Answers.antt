use Rattle.std.proofs.Common.{◌≡◌, ◌∙◌, ap}
use Rattle.mono_problem.specs.declared.atom.Atom.{Atom}
use Rattle.mono_best.specs.Asking.{predicate_of}
use Rattle.mono_best.specs.Bounds.{bound_at}
use Rattle.mono_best.proofs.Numbers.{bound_range, held_bound}
use Rattle.mono_best.proofs.Asked.{spent_on}
use Rattle.mono_best.proofs.improving.spent.Goals as goal

pub returns : goal.returns
returns c = λ budget met before progress.
    let p = c.args.problem.now in
    let n = c.args.atom in
    let k = c.args.number in
    let q = predicate_of p n in
    let range = bound_range q k c.requires.number in
    let same : c.bound_at.result ≡ bound_at q k = c.bound_at.ensures ∙ ap (λ (x : Atom). bound_at x.predicate k) c.atom.ensures in
    spent_on p n k budget _ met c.args.steps c.requires.atom.bounded c.requires.number (held_bound c.bound_at.result (bound_at q k) same range.0 range.1) before progress
