use Rattle.std.proofs.Common.{◌≡◌, sym, subst, arith, ℕ, List}
use Rattle.std.proofs.lemmas.Grind.{common_steps}
use Rattle.mono_gnf.specs.Stands.{Stands}
use Rattle.mono_gnf.specs.Printed.{printed}
use Rattle.mono_gnf.proofs.RoundTrip.{printed_stands}
use Rattle.mono_gnf.proofs.print.print_gnf.Goals as goal

pub returns-clause-stands : goal.returns-clause-stands
returns-clause-stands c =
    let text : c.push_clauses.new.out.items ≡ printed c.args.problem.now = grind (arith, common_steps) in
    subst (λ (t : List ℕ). Stands t c.args.problem.now) (sym text) (printed_stands c.args.problem.now c.in_ok-push_header.ensures.instance)
