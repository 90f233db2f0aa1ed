use Rattle.std.proofs.Common.{◌≡◌, ◌∙◌, sym, arith}
use Rattle.std.proofs.Common.{subst, List, ◌++◌, ◌∷◌, [], length, ◌+◌, ap, length-append}
use Rattle.std.specs.Prelude.{ℤ}
use Rattle.mono_clauses.proofs.FlatLists.{view_added, flat_added, newest}
use Rattle.mono_clauses.specs.ClauseValues.{AllVars}
use Rattle.mono_clauses.specs.FlatList.{IsFlat}
use Rattle.mono_clauses.specs.declared.clauses.Entry.{Entry}
use Rattle.mono_clauses.proofs.clauses.Clauses.add.Goals as goal

pub returns-clause-ok : goal.returns-clause-ok
returns-clause-ok c = view_added c.self.inside.vars c.args.number c.len-start.result c.len-end.result c.last_or_first-cached.result c.self.inside.lits.items c.args.lits.now _ c.self.inside.held.items _ c.args.self.now c.self.invariant c.self.view_is c.in_ok-extend_from_slice.ensures.items (rw (← c.reserve.ensures.items) c.push_reserved.ensures.items) (omega (arith, c.len-start.ensures)) (omega (arith, c.len-end.ensures))

pub invariant_of-self-2 : goal.invariant_of-self-2
invariant_of-self-2 c =
    let ranged : AllVars c.self.inside.vars c.args.lits.now = rw (← c.self.view_is) at c.requires in
    let base = flat_added c.self.inside.vars c.args.number c.last_or_first-cached.result c.self.inside.lits.items c.args.lits.now c.self.inside.held.items c.self.invariant ranged c.last_or_first-cached.ensures in
    let flat : c.extend_from_slice.new.self.items ≡ c.self.inside.lits.items ++ c.args.lits.now = c.in_ok-extend_from_slice.ensures.items in
    let start : c.len-start.result ≡ length c.self.inside.lits.items = omega (arith, c.len-start.ensures) in
    let end : c.len-end.result ≡ length c.self.inside.lits.items + length c.args.lits.now = omega (arith, c.len-end.ensures, ap (λ (xs : List ℤ). length xs) flat, length-append c.self.inside.lits.items c.args.lits.now) in
    let one : (let h : Entry = record { number = c.args.number; start = c.len-start.result; end = c.len-end.result; cached = c.last_or_first-cached.result } in h) ≡ newest c.args.number c.last_or_first-cached.result c.self.inside.lits.items c.args.lits.now = cc in
    let held : c.push_reserved.new.self.items ≡ c.self.inside.held.items ++ newest c.args.number c.last_or_first-cached.result c.self.inside.lits.items c.args.lits.now ∷ [] = rw (← c.reserve.ensures.items) c.push_reserved.ensures.items ∙ ap (λ (h : Entry). c.self.inside.held.items ++ h ∷ []) one in
    subst (λ (hs : List Entry). IsFlat c.self.inside.vars c.extend_from_slice.new.self.items hs) (sym held)
    (subst (λ (xs : List ℤ). IsFlat c.self.inside.vars xs (c.self.inside.held.items ++ newest c.args.number c.last_or_first-cached.result c.self.inside.lits.items c.args.lits.now ∷ [])) (sym flat) base)
