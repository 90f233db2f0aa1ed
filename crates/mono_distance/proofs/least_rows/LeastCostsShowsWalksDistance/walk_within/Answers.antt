use Rattle.std.proofs.Common.{◌≡◌, ℕ, sym, ap, subst, ◌∙◌, pos, int_lt, true}
use Rattle.std.specs.Prelude.{IsTrue}
use Rattle.std.proofs.lemmas.Bool.{and_from}
use Rattle.mono_graph.specs.Walks.{admits, bound_of, is_light, is_walk}
use Rattle.mono_graph.proofs.Limits.{under_cap}
use Rattle.mono_dynamic.specs.Costs.{label_of, labels_after}
use Rattle.mono_dynamic.specs.LeastRows.{measure_of}
use Rattle.mono_dynamic.proofs.RowsAlong.{light_by}
use Rattle.mono_distance.proofs.least_rows.LeastCostsShowsWalksDistance.walk_within.Goals as goal

pub returns : goal.returns
returns c = λ g parts n s low measured any right.
    let t = c.args.self.now in
    let l = c.args.target.limit in
    let v = c.args.target.node in
    let ks = c.in_ok-walk.walk.items in
    let label = label_of (labels_after c.args.stamp t) v in
    let within : IsTrue (admits l label) = subst (λ (m : ℕ). IsTrue (admits l m)) c.label_after-label.ensures (sym c.admits.ensures ∙ c.if-not-admits.false) in
    let beyond : int_lt (bound_of l) (pos t.cap) ≡ true = ap (λ (m : ℕ). int_lt (bound_of l) (pos m)) right.cap ∙ measured.beyond in
    let w = c.in_ok-walk.ensures (under_cap label t.cap (bound_of l) within beyond) g parts n s.node low right.along in
    let alike = ap measure_of right.limit ∙ measured.alike in
    and_from (is_walk g (parts c.args.stamp) s.node v ks) (is_light l g ks) w.0 (light_by t.limit l g ks alike (subst (λ (m : ℕ). IsTrue (admits l m)) (sym w.1) within))
