use Rattle.std.proofs.Common.{ap}
use Rattle.mono_clauses.proofs.FlatLists.{IsEntry, entry_is}
use Rattle.mono_clauses.specs.Store.{Held}
use Rattle.mono_clauses.proofs.clauses.Clauses.head.Goals as goal
use Rattle.mono_clauses.proofs.clauses.Clauses.head.Goals.{After-index-held}

entry : (c : After-index-held) → IsEntry c.self.inside.vars c.self.inside.lits.items c.args.self.now c.args.place c.index-held.result.now
entry c = entry_is _ _ c.self.inside.held.items _ _ _ c.self.invariant c.self.view_is c.requires c.index-held.ensures

pub overflow_sub-result : goal.overflow_sub-result
overflow_sub-result c = (entry c).starts

pub returns-clause-number : goal.returns-clause-number
returns-clause-number c = ap (λ (q : Held). q.number) (entry (goal.at.returns-clause-number c).After-index-held).clause

pub returns-clause-len : goal.returns-clause-len
returns-clause-len c = (entry (goal.at.returns-clause-len c).After-index-held).len

pub returns-clause-cached : goal.returns-clause-cached
returns-clause-cached c = (entry (goal.at.returns-clause-cached c).After-index-held).cached
