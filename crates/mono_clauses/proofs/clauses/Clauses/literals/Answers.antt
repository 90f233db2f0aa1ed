use Rattle.std.proofs.Common.{◌∙◌, List, ap, sym, subst}
use Rattle.std.specs.Prelude.{ℤ}
use Rattle.mono_clauses.proofs.FlatLists.{IsEntry, entry_is}
use Rattle.mono_clauses.specs.ClauseValues.{AllVars}
use Rattle.mono_clauses.specs.FlatList.{clause_of}
use Rattle.mono_clauses.specs.Store.{Held}
use Rattle.mono_clauses.proofs.clauses.Clauses.literals.Goals as goal
use Rattle.mono_clauses.proofs.clauses.Clauses.literals.Goals.{After-index-held}

entry : (c : After-index-held) → IsEntry c.self.inside.vars c.self.inside.lits.items c.args.self.now c.args.place c.index-held.result.now
entry c = entry_is _ _ c.self.inside.held.items _ _ _ c.self.invariant c.self.view_is c.requires c.index-held.ensures

pub slice_bounds-result-count : goal.slice_bounds-result-count
slice_bounds-result-count c = (entry (goal.at.slice_bounds-result-count c).After-index-held).starts

pub returns-clause-value : goal.returns-clause-value
returns-clause-value c =
    let held = c.index-held.result.now in
    ap (λ (flat : List ℤ). (clause_of flat held).lits) c.deref.ensures.value ∙ ap (λ (q : Held). q.lits) (entry (goal.at.returns-clause-value c).After-index-held).clause

pub returns-clause-ranged : goal.returns-clause-ranged
returns-clause-ranged c =
    let held = c.index-held.result.now in
    subst (λ (flat : List ℤ). AllVars c.args.self.now.vars (clause_of flat held).lits) (sym c.deref.ensures.value) (entry (goal.at.returns-clause-ranged c).After-index-held).ranged
