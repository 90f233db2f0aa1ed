-- No present edge leaves a set where none leaves its nodes.
use Rattle.std.proofs.Common.{◌≡◌, ℕ, ◌<◌, Bool, true, false, not, ◌&&◌, List, length, refl, sym, ap, subst, ◌∙◌, inl, inr, arith}
use Rattle.std.specs.Prelude.{IsTrue}
use Rattle.std.specs.List.{list_all}
use Rattle.std.proofs.lemmas.Bool.{and_from, and_left, and_right, not_from_true, not_from_false, cases_Bool}
use Rattle.mono_graph.specs.Digraph.{Digraph, present, places, edge_at, has, leads_out, leaving, HasEnds, no_edge}
use Rattle.mono_graph.specs.Walks.{is_cut}
use Rattle.mono_graph.proofs.Places.{all_of, all_below}
use Rattle.mono_graph.proofs.Membership.{all_at, all_from, places_at, at_places, same_truth}
use Rattle.mono_paths.specs.Stays.{stays_by}

pub record Marks (g : Digraph) (s : List ℕ) (marked : ℕ → Bool) : Type 0 where
  pub each : (u : ℕ) → u < g.nodes → marked u ≡ has s u

out_of : (p a b m : Bool) → IsTrue a → m ≡ b → IsTrue (not (p && not m)) → IsTrue (not (p && (a && not b)))
out_of p true b m ia e h = subst (λ (x : Bool). IsTrue (not (p && not x))) e h
out_of p false b m ia e h = absurd cc

into : (p a b m : Bool) → IsTrue a → m ≡ b → IsTrue (not (p && (a && not b))) → IsTrue (not (p && not m))
into p true b m ia e h = subst (λ (x : Bool). IsTrue (not (p && not x))) (sym e) h
into p false b m ia e h = absurd cc

outside : (p b : Bool) → IsTrue (not (p && (false && b)))
outside true b = refl
outside false b = refl

pub leaves_none : (g : Digraph) (P : List Bool) (s : List ℕ) (marked : ℕ → Bool) → HasEnds g → Marks g s marked
    → list_all (λ u. list_all (stays_by marked g P) (leaving g u)) s ≡ list_all (λ k. not (present P k && leads_out s (edge_at g k))) (places g)
leaves_none g P s marked graph m =
    same_truth (list_all (λ u. list_all (stays_by marked g P) (leaving g u)) s) (list_all (λ k. not (present P k && leads_out s (edge_at g k))) (places g))
    (λ h. all_of (λ k. not (present P k && leads_out s (edge_at g k))) 0 (length g.edges) (λ k low high. elim (cases_Bool (has s (edge_at g k).from)) [
      | inl from ↦
          let at-node = all_at (λ u. list_all (stays_by marked g P) (leaving g u)) s (edge_at g k).from h from in
          let stays = all_at (stays_by marked g P) (leaving g (edge_at g k).from) k at-node (at_places (λ e. e.from) g (edge_at g k).from k (omega arith) refl) in
          out_of (present P k) (has s (edge_at g k).from) (has s (edge_at g k).to) (marked (edge_at g k).to) from (m.each (edge_at g k).to (graph k no_edge (omega arith)).1) stays
      | inr off ↦ subst (λ (a : Bool). IsTrue (not (present P k && (a && not (has s (edge_at g k).to))))) (sym off) (outside (present P k) (not (has s (edge_at g k).to)))
    ]))
    (λ h. all_from (λ u. list_all (stays_by marked g P) (leaving g u)) s (λ u u-in. all_from (stays_by marked g P) (leaving g u) (λ k k-in.
    let r = places_at (λ e. e.from) g u k k-in in
    into (present P k) (has s (edge_at g k).from) (has s (edge_at g k).to) (marked (edge_at g k).to) (subst (λ (w : ℕ). IsTrue (has s w)) (sym r.1) u-in) (m.each (edge_at g k).to (graph k no_edge r.0).1)
    (all_below (λ j. not (present P j && leads_out s (edge_at g j))) 0 (length g.edges) h k (omega arith) (let lt = r.0 in omega arith)))))

-- with the start and without the end it is as the edges of its nodes say
pub cut_decides : (g : Digraph) (P : List Bool) (u v : ℕ) (s : List ℕ) (marked : ℕ → Bool) (r : Bool) → HasEnds g → Marks g s marked → u < g.nodes → v < g.nodes → marked u ≡ true → marked v ≡ false
    → r ≡ list_all (λ w. list_all (stays_by marked g P) (leaving g w)) s → r ≡ is_cut g P u v s
cut_decides g P u v s marked r graph m u-in v-in from to h =
    let both : (has s u && not (has s v)) ≡ true = and_from (has s u) (not (has s v)) (sym (m.each u u-in) ∙ from) (not_from_false (has s v) (sym (m.each v v-in) ∙ to)) in
    h ∙ (leaves_none g P s marked graph m ∙ sym (ap (λ (t : Bool). t && list_all (λ k. not (present P k && leads_out s (edge_at g k))) (places g)) both))

pub cut_fails_from : (g : Digraph) (P : List Bool) (u v : ℕ) (s : List ℕ) (marked : ℕ → Bool) → Marks g s marked → u < g.nodes → marked u ≡ false → false ≡ is_cut g P u v s
cut_fails_from g P u v s marked m u-in off =
    sym (and_left (has s u && not (has s v)) (list_all (λ k. not (present P k && leads_out s (edge_at g k))) (places g)) (and_left (has s u) (not (has s v)) (sym (m.each u u-in) ∙ off)))

pub cut_fails_to : (g : Digraph) (P : List Bool) (u v : ℕ) (s : List ℕ) (marked : ℕ → Bool) → Marks g s marked → v < g.nodes → marked v ≡ true → false ≡ is_cut g P u v s
cut_fails_to g P u v s marked m v-in on =
    sym (and_left (has s u && not (has s v)) (list_all (λ k. not (present P k && leads_out s (edge_at g k))) (places g)) (and_right (has s u) (not (has s v)) (not_from_true (has s v) (sym (m.each v v-in) ∙ on))))
