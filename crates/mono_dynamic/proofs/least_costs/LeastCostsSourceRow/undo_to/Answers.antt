use Rattle.mono_dynamic.specs.LeastRows.{IsBackCosts}
use Rattle.mono_dynamic.proofs.CostsRestored.{costs_restored}
use Rattle.mono_dynamic.proofs.least_costs.LeastCostsSourceRow.undo_to.Goals as goal

pub returns : goal.returns
returns c =
    let back : IsBackCosts c.args.kept c.args.self.now c.undo_to.new.self = record { is = c.undo_to.ensures.restored; along = c.undo_to.ensures.along } in
    record { is = back; restored = λ g Q ks row fits grown. costs_restored g Q ks c.args.kept row c.args.self.now c.undo_to.new.self fits grown back }
