use Rattle.std.proofs.Common.{◌≡◌, length, arith, ap, sym, ◌∙◌}
use Rattle.std.proofs.lemmas.List.{length-map}
use Rattle.mono_clauses.proofs.FlatLists.{flat_less, undone_of}
use Rattle.mono_clauses.specs.ClauseList.{ClausesView}
use Rattle.mono_clauses.specs.FlatList.{clause_of}
use Rattle.mono_clauses.proofs.clauses.Clauses.undo.Goals as goal

pub invariant_of-self : goal.invariant_of-self
invariant_of-self c = flat_less c.self.inside.vars c.self.inside.lits.items c.self.inside.held.items c.pop.new.self.items c.pop.result c.pop.ensures.items c.self.invariant

pub returns : goal.returns
returns c =
    let n : length c.args.self.now.list ≡ length c.self.inside.held.items = ap (λ (v : ClausesView). length v.list) (sym c.self.view_is) ∙ length-map c.self.inside.held.items (clause_of c.self.inside.lits.items) in
    undone_of c.self.inside.vars c.self.inside.lits.items c.self.inside.held.items c.pop.new.self.items c.pop.result c.args.self.now c.self.view_is c.pop.ensures.items (c.pop.ensures.variant.1 (omega (arith, n, c.requires)))
