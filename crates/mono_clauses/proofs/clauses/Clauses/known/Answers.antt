use Rattle.std.proofs.Common.{◌≡◌, ◌<◌, sym, subst, ℕ, length, arith, get_or, map}
use Rattle.std.proofs.lemmas.List.{length-map, get_or-map}
use Rattle.mono_clauses.proofs.FlatLists.{range_within}
use Rattle.mono_clauses.specs.ClauseList.{ClausesView}
use Rattle.mono_clauses.specs.ClauseValues.{AllVars}
use Rattle.mono_clauses.specs.FlatList.{clause_of, no_entry}
use Rattle.mono_clauses.specs.Store.{Held, clause_at, no_clause}
use Rattle.mono_clauses.proofs.clauses.Clauses.known.Goals as goal

pub returns : goal.returns
returns c = record { ranged = subst (λ (v : ClausesView). (k : ℕ) → k < length v.list → AllVars v.vars (clause_at v.list k).lits) c.self.view_is at }
  where
    at : (k : ℕ) → k < length (map (clause_of c.self.inside.lits.items) c.self.inside.held.items) → AllVars c.self.inside.vars (clause_at (map (clause_of c.self.inside.lits.items) c.self.inside.held.items) k).lits
    at k lt =
        let within : k < length c.self.inside.held.items = omega (arith, lt, length-map c.self.inside.held.items (clause_of c.self.inside.lits.items)) in
        let e : clause_at (map (clause_of c.self.inside.lits.items) c.self.inside.held.items) k ≡ clause_of c.self.inside.lits.items (get_or c.self.inside.held.items k no_entry) = get_or-map (clause_of c.self.inside.lits.items) c.self.inside.held.items k no_entry no_clause within in
        subst (λ (q : Held). AllVars c.self.inside.vars q.lits) (sym e)
        (range_within c.self.inside.vars c.self.inside.lits.items (get_or c.self.inside.held.items k no_entry).start (get_or c.self.inside.held.items k no_entry).end c.self.invariant.ranged (c.self.invariant.starts k within) (c.self.invariant.ends k within))
