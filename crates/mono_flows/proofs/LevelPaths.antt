-- How a path that rises level by level begins, grows, shrinks, and leads from the source to the sink.
use Rattle.std.proofs.Common.{◌≡◌, ℕ, zero, suc, ◌+◌, ◌-◌, ◌<◌, ◌≤◌, Bool, true, false, not, List, [], ◌∷◌, ◌++◌, length, get_or, take, min, refl, sym, ap, subst, ◌∙◌, inl, inr, arith}
use Rattle.std.specs.Prelude.{IsTrue}
use Rattle.std.proofs.lemmas.List.{get_or-take, length-take-le}
use Rattle.mono_graph.specs.Digraph.{Digraph, edge_at}
use Rattle.mono_flows.specs.declared.visit.Visit.{Visit}
use Rattle.mono_flows.specs.Levels.{IsRising}
use Rattle.mono_flows.specs.Residual.{residual_at, start_of, end_of}
use Rattle.mono_flows.specs.Visits.{visit_at, first_visit, IsStep, IsAugmentingPath}
use Rattle.mono_flows.proofs.Expand.{kept_at, new_at, old_or_new, step_like, tree_push}
use Rattle.mono_flows.proofs.Searches.{first_tree}

pub not-not : (b : Bool) → not b ≡ false → IsTrue b
not-not true e = refl
not-not false e = absurd cc

-- the same levels and the same path
pub rising_is : {g : Digraph} {P : List Bool} {f : ℕ → ℕ} {s most : ℕ} (levels now : List ℕ) (vs ws : List Visit) → now ≡ levels → ws ≡ vs → IsRising g P f levels s most vs → IsRising g P f now s most ws
rising_is {g = g} {P = P} {f = f} {s = s} {most = most} levels now vs ws e e' x =
    subst (λ (ls : List ℕ). IsRising g P f ls s most ws) (sym e) (subst (λ (us : List Visit). IsRising g P f levels s most us) (sym e') x)

pub rising_first : (g : Digraph) (P : List Bool) (f : ℕ → ℕ) (levels : List ℕ) (s most : ℕ) → s < g.nodes → 0 < most → get_or levels s 0 ≡ 0 → IsRising g P f levels s most (first_visit s most ∷ [])
rising_first g P f levels s most inside some level = record { tree = first_tree g P f s most inside some; first = refl; residual = refl; rises = λ i lt. at i lt }
  where
    at : (i : ℕ) → i < 1 → get_or levels (visit_at (first_visit s most ∷ []) i).node 0 ≡ i
    at zero lt = level
    at (suc i) lt = absurd (omega arith)

pub rising_push : (g : Digraph) (P : List Bool) (f : ℕ → ℕ) (levels : List ℕ) (s most at : ℕ) (last : Visit) (vs : List Visit) (v : Visit) → IsRising g P f levels s most vs → at + 1 ≡ length vs → last ≡ visit_at vs at
    → v.before ≡ at → v.edge.place < length g.edges → start_of (edge_at g v.edge.place) v.edge.back ≡ last.node → end_of (edge_at g v.edge.place) v.edge.back ≡ v.node → v.node < g.nodes
    → 0 < residual_at g P f v.edge.place v.edge.back → v.residual ≡ min (residual_at g P f v.edge.place v.edge.back) last.residual → get_or levels v.node 0 ≡ get_or levels last.node 0 + 1
    → IsRising g P f levels s most (vs ++ v ∷ [])
rising_push g P f levels s most at last vs v x at-end last-is before known start end inside some room level =
    let before-is : visit_at vs v.before ≡ last = ap (λ (i : ℕ). visit_at vs i) before ∙ sym last-is in
    let has-room : 0 < last.residual = subst (λ (w : Visit). 0 < w.residual) (sym last-is) (x.tree.residuals at (omega arith)) in
    let step : IsStep g P f vs v (length vs) = record {
      before = omega arith;
      known = known;
      start = start ∙ ap (λ (w : Visit). w.node) (sym before-is);
      end = end;
      residual = omega arith;
      less = subst (λ (w : Visit). v.residual ≤ w.residual) (sym before-is) (omega arith);
    } in
    record {
      tree = tree_push g P f vs v x.tree step inside (omega arith);
      first = ap (λ (w : Visit). w.node) (kept_at vs v 0 x.tree.some) ∙ x.first;
      residual = ap (λ (w : Visit). w.residual) (kept_at vs v 0 x.tree.some) ∙ x.residual;
      rises = λ i lt. elim (old_or_new vs v i lt) [
        | inl old ↦ ap (λ (w : Visit). get_or levels w.node 0) (kept_at vs v i old) ∙ x.rises i old
        | inr new ↦
            let here : get_or levels last.node 0 ≡ at = ap (λ (w : Visit). get_or levels w.node 0) last-is ∙ x.rises at (omega arith) in
            ap (λ (w : Visit). get_or levels w.node 0) (new_at vs v i new) ∙ omega (arith, here, level)
      ];
    }

pub rising_pop : (g : Digraph) (P : List Bool) (f : ℕ → ℕ) (levels : List ℕ) (s most n : ℕ) (vs : List Visit) → IsRising g P f levels s most vs → 0 < n → n ≤ length vs → IsRising g P f levels s most (take n vs)
rising_pop g P f levels s most n vs x some le = record {
  tree = record {
    some = omega (arith, long);
    nodes = λ i lt. subst (λ (w : Visit). w.node < g.nodes) (sym (same i (low i lt))) (x.tree.nodes i (omega (arith, low i lt)));
    residuals = λ i lt. subst (λ (w : Visit). 0 < w.residual) (sym (same i (low i lt))) (x.tree.residuals i (omega (arith, low i lt)));
    most = λ i lt. subst (λ (w : Visit). w.residual ≤ (visit_at (take n vs) 0).residual) (sym (same i (low i lt)))
        (subst (λ (w : Visit). (visit_at vs i).residual ≤ w.residual) (sym (same 0 some)) (x.tree.most i (omega (arith, low i lt))));
    steps = λ i pos lt. subst (λ (w : Visit). IsStep g P f (take n vs) w i) (sym (same i (low i lt))) (shorter i (low i lt) (visit_at vs i) (x.tree.steps i pos (omega (arith, low i lt))));
  };
  first = ap (λ (w : Visit). w.node) (same 0 some) ∙ x.first;
  residual = ap (λ (w : Visit). w.residual) (same 0 some) ∙ x.residual;
  rises = λ i lt. ap (λ (w : Visit). get_or levels w.node 0) (same i (low i lt)) ∙ x.rises i (omega (arith, low i lt));
}
  where
    long : length (take n vs) ≡ n
    long = length-take-le n vs le

    low : (i : ℕ) → i < length (take n vs) → i < n
    low i lt = omega (arith, long)

    same : (i : ℕ) → i < n → visit_at (take n vs) i ≡ visit_at vs i
    same i lt = get_or-take n vs i (first_visit 0 0) lt

    shorter : (i : ℕ) → i < n → (w : Visit) → IsStep g P f vs w i → IsStep g P f (take n vs) w i
    shorter i lt w s = step_like g P f vs (take n vs) w i (let b = s.before in same w.before (omega arith)) s

pub rising_way : (g : Digraph) (P : List Bool) (f : ℕ → ℕ) (levels : List ℕ) (s t most : ℕ) (vs : List Visit) → IsRising g P f levels s most vs → (visit_at vs (length vs - 1)).node ≡ t → IsAugmentingPath g P f s t most vs
rising_way g P f levels s t most vs x there = record {
  tree = x.tree;
  first = x.first;
  last = there;
  residual = x.residual;
  once = λ i j lti ltj e. sym (x.rises i lti) ∙ (ap (λ (u : ℕ). get_or levels u 0) e ∙ x.rises j ltj);
}
