-- What one more step at its front makes of a walk, and one more visit of a trail.
use Rattle.std.proofs.Common.{◌≡◌, ℕ, ◌+◌, ◌<◌, ◌≤◌, Bool, List, [], ◌∷◌, ◌++◌, length, reverse, sym, ap, subst, ◌∙◌, inl, inr, arith, length-append}
use Rattle.std.specs.Prelude.{IsTrue, ◌==◌}
use Rattle.std.proofs.lemmas.Bool.{and_from, eq-eqb, cases_lt}
use Rattle.std.proofs.lemmas.List.{reverse-append, get_or_append_left, get_or_push}
use Rattle.mono_graph.specs.Digraph.{Digraph, edge_at}
use Rattle.mono_graph.specs.Walks.{leads, cost_of}
use Rattle.mono_paths.specs.declared.visit.Visit.{Visit}
use Rattle.mono_paths.specs.Trails.{visit_at, no_visit, IsStep, IsTrail}
use Rattle.mono_graph.specs.declared.limit.Limit.{Limit}

pub leads_more : (g : Digraph) (k u v w : ℕ) (ks : List ℕ) → (edge_at g k).from ≡ u → (edge_at g k).to ≡ v → IsTrue (leads g v ks w) → IsTrue (leads g u (k ∷ ks) w)
leads_more g k u v w ks from to way =
    and_from ((edge_at g k).from == u) (leads g (edge_at g k).to ks w) (eq-eqb (edge_at g k).from u from) (subst (λ (x : ℕ). IsTrue (leads g x ks w)) (sym to) way)

pub reverse_push : (ks : List ℕ) (k : ℕ) → reverse (ks ++ k ∷ []) ≡ k ∷ reverse ks
reverse_push ks k = reverse-append ks (k ∷ [])

visit_kept : (vs : List Visit) (v : Visit) (i : ℕ) → i < length vs → visit_at (vs ++ v ∷ []) i ≡ visit_at vs i
visit_kept vs v i lt = get_or_append_left vs (v ∷ []) no_visit i lt

step_kept : (g : Digraph) (P : List Bool) (limit : Limit) (vs : List Visit) (v w : Visit) (i : ℕ) → i ≤ length vs → IsStep g P limit vs w i → IsStep g P limit (vs ++ v ∷ []) w i
step_kept g P limit vs v w i le s =
    let old : visit_at (vs ++ v ∷ []) w.before ≡ visit_at vs w.before = visit_kept vs v w.before (omega (arith, s.before)) in
    record {
      before = s.before;
      known = s.known;
      present = s.present;
      from = s.from ∙ ap (λ (x : Visit). x.node) (sym old);
      to = s.to;
      cost = s.cost ∙ ap (λ (x : Visit). x.cost + cost_of limit (edge_at g w.place)) (sym old);
    }

pub trail_push : (g : Digraph) (P : List Bool) (limit : Limit) (vs : List Visit) (v : Visit) → IsTrail g P limit vs → IsStep g P limit vs v (length vs) → v.node < g.nodes
    → IsTrail g P limit (vs ++ v ∷ [])
trail_push g P limit vs v t s inside = record {
  some = let some = t.some in omega (arith, length-append vs (v ∷ []));
  start = ap (λ (x : Visit). x.cost) (visit_kept vs v 0 t.some) ∙ t.start;
  nodes = λ i lt. elim (cases_lt i (length vs)) [
    | inl old ↦ subst (λ (x : Visit). x.node < g.nodes) (sym (visit_kept vs v i old)) (t.nodes i old)
    | inr new ↦ subst (λ (x : Visit). x.node < g.nodes) (sym (get_or_push vs v no_visit i (let e : length vs ≡ i = omega (arith, length-append vs (v ∷ [])) in e))) inside
  ];
  steps = λ i pos lt. elim (cases_lt i (length vs)) [
    | inl old ↦ subst (λ (x : Visit). IsStep g P limit (vs ++ v ∷ []) x i) (sym (visit_kept vs v i old)) (step_kept g P limit vs v (visit_at vs i) i (omega arith) (t.steps i pos old))
    | inr new ↦
        let e : length vs ≡ i = omega (arith, length-append vs (v ∷ [])) in
        subst (λ (x : Visit). IsStep g P limit (vs ++ v ∷ []) x i) (sym (get_or_push vs v no_visit i e))
        (subst (λ (j : ℕ). IsStep g P limit (vs ++ v ∷ []) v j) e (step_kept g P limit vs v v (length vs) (omega arith) s))
  ];
}
