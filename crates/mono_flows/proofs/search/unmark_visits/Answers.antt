use Rattle.std.proofs.Common.{◌≡◌, ◌+◌, ◌++◌, ◌∷◌, [], ℕ, List, false, get_or, map, set, take, sym, ap, ◌∙◌, arith, subst}
use Rattle.std.proofs.lemmas.Bool.{both_ways, false_from_ne_true}
use Rattle.std.proofs.lemmas.List.{take_all, take_more, map-append}
use Rattle.mono_graph.specs.Digraph.{has}
use Rattle.mono_graph.proofs.Prefixes.{Cleared, cleared_all, cleared_more}
use Rattle.mono_flows.specs.declared.visit.Visit.{Visit}
use Rattle.mono_flows.specs.Visits.{first_visit}
use Rattle.mono_flows.proofs.search.unmark_visits.Goals as goal

pub loop-visit-preserved : goal.loop-visit-preserved
loop-visit-preserved c =
    let vs : List Visit = c.args.visits.now in
    let i : ℕ = c.loop-visit.visit-index in
    let next : map (λ (v : Visit). v.node) (take (i + 1) vs) ≡ map (λ (v : Visit). v.node) (take i vs) ++ (get_or vs i (first_visit 0 0)).node ∷ [] =
    ap (λ (us : List Visit). map (λ (v : Visit). v.node) us) (take_more vs i (first_visit 0 0) c.loop-visit-test.true) ∙ map-append (λ (v : Visit). v.node) (take i vs) (get_or vs i (first_visit 0 0) ∷ []) in
    subst (λ (ks : List ℕ). Cleared false c.args.marks.now.items (set c.loop-visit.marks.items (get_or vs i (first_visit 0 0)).node false) ks) (sym next)
    (cleared_more false c.args.marks.now.items c.loop-visit.marks.items (map (λ (v : Visit). v.node) (take i vs)) (get_or vs i (first_visit 0 0)).node c.loop-visit.invariant)

pub returns-clause-clear : goal.returns-clause-clear
returns-clause-clear c =
    let vs : List Visit = c.args.visits.now in
    let whole : take c.loop-visit.visit-index vs ≡ vs = take_all c.loop-visit.visit-index vs (omega arith) in
    let done = subst (λ (us : List Visit). Cleared false c.args.marks.now.items c.loop-visit.marks.items (map (λ (v : Visit). v.node) us)) whole c.loop-visit.invariant in
    λ u. cleared_all false c.args.marks.now.items c.loop-visit.marks.items (map (λ (v : Visit). v.node) vs) done u
    (λ off. false_from_ne_true (get_or c.args.marks.now.items u false) (λ t. both_ways (has (map (λ (v : Visit). v.node) vs) u) off (c.requires.visited u t)))
