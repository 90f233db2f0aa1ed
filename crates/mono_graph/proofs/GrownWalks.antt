-- The parts of a walk, and walks that grow at an end.
use Rattle.std.proofs.Common.{◌≡◌, ℕ, ◌<◌, Bool, ◌&&◌, List, [], ◌∷◌, ◌++◌, length, refl, sym, subst, ◌∙◌}
use Rattle.std.specs.Prelude.{IsTrue, ◌==◌}
use Rattle.std.specs.List.{list_all}
use Rattle.std.proofs.lemmas.Bool.{and_from, and_parts, eq-eqb, eqb-true, lt-ltb}
use Rattle.mono_graph.specs.Digraph.{Digraph, edge_at, present, is_place}
use Rattle.mono_graph.specs.Walks.{leads, is_walk}
use Rattle.mono_graph.proofs.Membership.{list_all_push}

pub leads_push : (g : Digraph) (u k v : ℕ) (ks : List ℕ) → IsTrue (leads g u ks v) → (edge_at g k).from ≡ v → IsTrue (leads g u (ks ++ k ∷ []) (edge_at g k).to)
leads_push g u k v [] way from = and_from ((edge_at g k).from == u) ((edge_at g k).to == (edge_at g k).to) (eq-eqb (edge_at g k).from u (from ∙ sym (eqb-true u v way))) (eq-eqb (edge_at g k).to (edge_at g k).to refl)
leads_push g u k v (j ∷ ks) way from =
    let w = and_parts ((edge_at g j).from == u) (leads g (edge_at g j).to ks v) way in
    and_from ((edge_at g j).from == u) (leads g (edge_at g j).to (ks ++ k ∷ []) (edge_at g k).to) w.0 (leads_push g (edge_at g j).to k v ks w.1 from)

-- the parts of a walk
pub record Walks (g : Digraph) (P : List Bool) (u v : ℕ) (ks : List ℕ) : Type 0 where
  pub known : IsTrue (list_all (is_place g) ks)
  pub here : IsTrue (list_all (present P) ks)
  pub way : IsTrue (leads g u ks v)

pub walks : (g : Digraph) (P : List Bool) (u v : ℕ) (ks : List ℕ) → IsTrue (is_walk g P u v ks) → Walks g P u v ks
walks g P u v ks h =
    let a = and_parts (list_all (is_place g) ks && list_all (present P) ks) (leads g u ks v) h in
    let b = and_parts (list_all (is_place g) ks) (list_all (present P) ks) a.0 in
    record { known = b.0; here = b.1; way = a.1 }

pub is_walk_of : (g : Digraph) (P : List Bool) (u v : ℕ) (ks : List ℕ) → Walks g P u v ks → IsTrue (is_walk g P u v ks)
is_walk_of g P u v ks w =
    and_from (list_all (is_place g) ks && list_all (present P) ks) (leads g u ks v) (and_from (list_all (is_place g) ks) (list_all (present P) ks) w.known w.here) w.way

pub walk_push : (g : Digraph) (P : List Bool) (u v k : ℕ) (ks : List ℕ) → IsTrue (is_walk g P u v ks) → k < length g.edges → IsTrue (present P k) → (edge_at g k).from ≡ v
    → IsTrue (is_walk g P u (edge_at g k).to (ks ++ k ∷ []))
walk_push g P u v k ks h lt here from =
    let w = walks g P u v ks h in
    is_walk_of g P u (edge_at g k).to (ks ++ k ∷ [])
    (record { known = list_all_push (is_place g) ks k w.known (lt-ltb k (length g.edges) lt); here = list_all_push (present P) ks k w.here here; way = leads_push g u k v ks w.way from })

pub walk_front : (g : Digraph) (P : List Bool) (u v w k : ℕ) (ks : List ℕ) → IsTrue (is_walk g P v w ks) → k < length g.edges → IsTrue (present P k) → (edge_at g k).from ≡ u → (edge_at g k).to ≡ v
    → IsTrue (is_walk g P u w (k ∷ ks))
walk_front g P u v w k ks h lt here from to =
    let x = walks g P v w ks h in
    is_walk_of g P u w (k ∷ ks) (record {
      known = and_from (is_place g k) (list_all (is_place g) ks) (lt-ltb k (length g.edges) lt) x.known;
      here = and_from (present P k) (list_all (present P) ks) here x.here;
      way = and_from ((edge_at g k).from == u) (leads g (edge_at g k).to ks w) (eq-eqb (edge_at g k).from u from) (subst (λ (y : ℕ). IsTrue (leads g y ks w)) (sym to) x.way);
    })

pub walk_none : (g : Digraph) (P : List Bool) (v : ℕ) → IsTrue (is_walk g P v v [])
walk_none g P v = is_walk_of g P v v [] (record { known = refl; here = refl; way = eq-eqb v v refl })
