use Rattle.std.proofs.Common.{◌≡◌, ◌<◌, ◌∙◌, ap, sym, subst, List, length, arith, get_or, set, map}
use Rattle.std.proofs.lemmas.List.{length-map, get_or_read}
use Rattle.mono_clauses.proofs.FlatLists.{renewed, flat_cached, view_cached, clause_is}
use Rattle.mono_clauses.specs.ClauseList.{ClausesView}
use Rattle.mono_clauses.specs.FlatList.{clause_of, no_entry, IsFlat}
use Rattle.mono_clauses.specs.Lists.{Stands}
use Rattle.mono_clauses.specs.Store.{Held}
use Rattle.mono_clauses.specs.declared.clauses.Entry.{Entry}
use Rattle.mono_clauses.proofs.clauses.Clauses.set_cached.Goals as goal
use Rattle.mono_clauses.proofs.clauses.Clauses.set_cached.Goals.{After-index-held}

within : (c : After-index-held) → c.args.place < length c.self.inside.held.items
within c = let lt = rw (← c.self.view_is) at c.requires.in_range in omega (arith, lt, length-map c.self.inside.held.items (clause_of c.self.inside.lits.items))

here : (c : After-index-held) → c.index-held.result.now ≡ get_or c.self.inside.held.items c.args.place no_entry
here c = get_or_read c.self.inside.held.items c.args.place c.index-held.result.now (within c) c.index-held.ensures no_entry

has : (c : After-index-held) → Stands (clause_of c.self.inside.lits.items (get_or c.self.inside.held.items c.args.place no_entry)).lits c.args.lit
has c =
    let s = rw (← c.self.view_is) at c.requires.has in
    subst (λ (q : Held). Stands q.lits c.args.lit) (clause_is c.self.inside.lits.items c.self.inside.held.items c.args.place (within c)) s

pub invariant_of-self : goal.invariant_of-self
invariant_of-self c =
    let at = (goal.at.invariant_of-self c).After-index-held in
    subst (λ (h : Entry). IsFlat c.self.inside.vars c.self.inside.lits.items (set c.self.inside.held.items c.args.place (renewed h c.args.lit))) (sym (here at))
    (flat_cached c.self.inside.vars c.args.place c.args.lit c.self.inside.lits.items c.self.inside.held.items c.self.invariant (within at) (has at))

pub returns : goal.returns
returns c =
    let at = (goal.at.returns c).After-index-held in
    let e : map (clause_of c.self.inside.lits.items) (set c.self.inside.held.items c.args.place (renewed c.index-held.result.now c.args.lit)) ≡ map (clause_of c.self.inside.lits.items) c.self.inside.held.items = subst (λ (h : Entry). map (clause_of c.self.inside.lits.items) (set c.self.inside.held.items c.args.place (renewed h c.args.lit)) ≡ map (clause_of c.self.inside.lits.items) c.self.inside.held.items) (sym (here at)) (view_cached c.self.inside.lits.items c.self.inside.held.items c.args.place c.args.lit) in
    ap (λ (cs : List Held). let v : ClausesView = record { vars = c.self.inside.vars; list = cs } in v) e ∙ c.self.view_is
