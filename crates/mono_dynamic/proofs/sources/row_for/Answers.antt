use Rattle.std.proofs.Common.{◌≡◌, ℕ, ◌<◌, ◌∙◌, ◌++◌, ◌∷◌, [], List, length, set, sym, subst, ap, get_or, arith}
use Rattle.std.specs.Prelude.{All, None, Some}
use Rattle.std.proofs.lemmas.List.{length-set, get_or_default}
use Rattle.std.proofs.lemmas.List.Elements.{All-set, All-push}
use Rattle.mono_dynamic.specs.declared.cost_source.CostSource.{CostSource}
use Rattle.mono_dynamic.specs.LeastRows.{cost_slot, IsCostSource}
use Rattle.mono_dynamic.specs.Sources.{AreMore, IsRowTable, IsServed}
use Rattle.mono_dynamic.proofs.RowTables.{row_known, more_joined, table_joined, served_joined, more_added, table_added, served_added}
use Rattle.mono_dynamic.proofs.sources.row_for.Goals as goal
use Rattle.mono_dynamic.proofs.sources.row_for.Goals.{After-joined}

row : (c : After-joined) → (c.in-Some.row < length c.args.rows.now.items) × ((d : CostSource) → cost_slot (get_or c.args.rows.now.items c.in-Some.row d) ≡ c.slot-slot.result)
row c = row_known _ _ c.index.result.now (omega (arith, c.slot-slot.ensures.within, c.requires.size)) c.index.ensures c.in-Some.is c.requires.table

more : (c : After-joined) → AreMore cost_slot (λ s. s.cap) c.args.rows.now.items (set c.args.rows.now.items c.in-Some.row c.joined.result)
more c = more_joined {amount = λ (s : CostSource). s.cap} _ _ c.index-in-Some.result.now _ (row c).0 c.index-in-Some.ensures c.joined.ensures.slot c.joined.ensures.own

pub returns-in-Some-clause-table : goal.returns-in-Some-clause-table
returns-in-Some-clause-table c = table_joined (length-set c.args.rows.now.items c.in-Some.row c.joined.result) (more (goal.at.returns-in-Some-clause-table c).After-joined) c.requires.table

pub returns-in-Some-clause-known : goal.returns-in-Some-clause-known
returns-in-Some-clause-known c =
    let known = row (goal.at.returns-in-Some-clause-known c).After-joined in
    let was = subst (λ (s : CostSource). IsCostSource c.args.nodes s) (sym c.index-in-Some.ensures) (c.requires.known c.in-Some.row c.index-in-Some.result.now known.0) in
    All-set (IsCostSource c.args.nodes) _ _ _ (c.joined.ensures.known c.args.nodes was c.requires.wanted) c.requires.known

pub returns-in-Some-clause-more : goal.returns-in-Some-clause-more
returns-in-Some-clause-more c = more (goal.at.returns-in-Some-clause-more c).After-joined

pub returns-in-Some-clause-served : goal.returns-in-Some-clause-served
returns-in-Some-clause-served c =
    let known = row (goal.at.returns-in-Some-clause-served c).After-joined in
    let same = c.joined.ensures.slot ∙ ap cost_slot c.index-in-Some.ensures ∙ known.1 c.index-in-Some.result.now ∙ c.slot-slot.ensures.slot in
    served_joined {amount = λ (s : CostSource). s.cap} c.args.rows.now.items c.in-Some.row c.args.wanted c.joined.result known.0 same c.joined.ensures.others

pub returns-clause-table : goal.returns-clause-table
returns-clause-table c =
    let here = c.slot-slot.ensures.slot in
    let last : length c.args.rows.now.items ≡ c.len-row.result = omega (arith, c.len-row.ensures) in
    let lt : cost_slot c.args.wanted < length c.args.table.now.items = omega (arith, here, c.slot-slot.ensures.within, c.requires.size) in
    let none : get_or c.args.table.now.items c.slot-slot.result None ≡ None = sym (c.index.ensures ∙ get_or_default c.args.table.now.items _ _ None (omega (arith, here, lt))) ∙ c.in_default.is in
    subst (λ (rows : List CostSource). IsRowTable cost_slot (set c.args.table.now.items c.slot-slot.result (Some c.len-row.result)) rows) (sym c.in_ok-push.ensures.items)
    (subst (λ (n : ℕ). IsRowTable cost_slot (set c.args.table.now.items c.slot-slot.result (Some n)) (c.args.rows.now.items ++ c.args.wanted ∷ [])) last
    (subst (λ (t : ℕ). IsRowTable cost_slot (set c.args.table.now.items t (Some (length c.args.rows.now.items))) (c.args.rows.now.items ++ c.args.wanted ∷ [])) (sym here)
    (table_added c.args.wanted lt (subst (λ (t : ℕ). get_or c.args.table.now.items t None ≡ None) here none) c.requires.table)))

pub returns-clause-known : goal.returns-clause-known
returns-clause-known c =
    subst (λ (rows : List CostSource). All (IsCostSource c.args.nodes) rows) (sym c.in_ok-push.ensures.items) (All-push (IsCostSource c.args.nodes) _ _ c.requires.known c.requires.wanted)

pub returns-clause-more : goal.returns-clause-more
returns-clause-more c =
    subst (λ (rows : List CostSource). AreMore cost_slot (λ s. s.cap) c.args.rows.now.items rows) (sym c.in_ok-push.ensures.items) (more_added {slot = cost_slot} {amount = λ (s : CostSource). s.cap} _ _)

pub returns-clause-served : goal.returns-clause-served
returns-clause-served c =
    let last : length c.args.rows.now.items ≡ c.len-row.result = omega (arith, c.len-row.ensures) in
    subst (λ (rows : List CostSource). IsServed cost_slot (λ s. s.cap) c.args.wanted rows c.len-row.result) (sym c.in_ok-push.ensures.items)
    (subst (λ (n : ℕ). IsServed cost_slot (λ s. s.cap) c.args.wanted (c.args.rows.now.items ++ c.args.wanted ∷ []) n) last (served_added {slot = cost_slot} {amount = λ (s : CostSource). s.cap} _ _))
