use Rattle.std.proofs.Common.{ℕ, ◌<◌, length, get_or, subst}
use Rattle.mono_dynamic.specs.Costs.{Costs, label_of, AreInOrder, IsLast}
use Rattle.mono_dynamic.proofs.cost_table.CostTable.changes.Goals as goal

pub returns-clause-last : goal.returns-clause-last
returns-clause-last c =
    subst (λ (t : Costs). (v : ℕ) → v < length t.labels → (last : ℕ) × IsLast t.changes (length t.changes) v (label_of t.labels v) last) c.self.view_is
    (λ v lt. (get_or c.self.inside.latest.items v 0, c.self.invariant.linked.last v lt))

pub returns-clause-ordered : goal.returns-clause-ordered
returns-clause-ordered c = subst (λ (t : Costs). AreInOrder t.changes) c.self.view_is (record { before = c.self.invariant.linked.before; rising = c.self.invariant.rising })
