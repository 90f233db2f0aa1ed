-- Nodes that join a set that is marked, and where the set is closed.
use Rattle.std.proofs.Common.{◌≡◌, ℕ, ◌+◌, ◌<◌, ◌≤◌, Bool, true, false, List, [], ◌∷◌, ◌++◌, length, get_or, set, refl, sym, ap, subst, ◌∙◌, inl, inr, arith, length-append, get_or-set_same, get_or-set_other}
use Rattle.std.specs.Prelude.{IsTrue}
use Rattle.std.proofs.lemmas.Bool.{cases_eq, cases_lt}
use Rattle.std.proofs.lemmas.List.{get_or_append_left, length-set}
use Rattle.std.proofs.lemmas.List.Elements.{All-push}
use Rattle.mono_graph.specs.Digraph.{Digraph, edge_at, has, present}
use Rattle.mono_graph.proofs.Membership.{has_append_left}
use Rattle.mono_graph.proofs.Prefixes.{has_new, has_other}
use Rattle.mono_flows.proofs.ListedSums.{fewer}
use Rattle.mono_flow.specs.Growing.{IsMarked, IsJoined, IsClosedFrom}

pub joined_same : {g : Digraph} {marks : List Bool} {us : List ℕ} → IsMarked g marks us → IsJoined g marks us marks us
joined_same m = record { now = m; grows = omega arith; before = λ i lt. refl; kept = λ u h. h; work = refl }

pub joined_then : {g : Digraph} {m n o : List Bool} {us vs ws : List ℕ} → IsJoined g m us n vs → IsJoined g n vs o ws → IsJoined g m us o ws
joined_then a b = record {
  now = b.now;
  grows = (let first = a.grows in let then = b.grows in omega (arith, first, then));
  before = λ i lt. b.before i (let first = a.grows in omega (arith, lt, first)) ∙ a.before i lt;
  kept = λ u h. b.kept u (a.kept u h);
  work = b.work ∙ a.work;
}

pub joined_one : (g : Digraph) (marks : List Bool) (us : List ℕ) (u : ℕ) → u < g.nodes → get_or marks u false ≡ false → IsMarked g marks us → IsJoined g marks us (set marks u true) (us ++ u ∷ [])
joined_one g marks us u lt off m = record {
  now = record {
    len = length-set marks u true ∙ m.len;
    known = All-push (λ (v : ℕ). v < g.nodes) us u m.known lt;
    marked = λ v. elim (cases_eq u v) [
      | inl e ↦ subst (λ (w : ℕ). get_or (set marks u true) w false ≡ has (us ++ u ∷ []) w) e (get_or-set_same marks u true false room ∙ sym (has_new us u))
      | inr ne ↦ get_or-set_other marks u v true false (λ q. ne (sym q)) ∙ m.marked v ∙ sym (has_other us u v ne)
    ];
  };
  grows = omega (arith, length-append us (u ∷ []));
  before = λ i l. get_or_append_left us (u ∷ []) 0 i l;
  kept = λ v h. has_append_left us (u ∷ []) v h;
  work = (let less = fewer marks u room off in omega (arith, length-append us (u ∷ []), less));
}
  where
    room : u < length marks
    room = omega (arith, lt, m.len)

-- the nodes up to one more are closed, where the next one's edges lead to listed nodes
pub closed_more : (g : Digraph) (P : List Bool) (from i : ℕ) (us vs : List ℕ) → i < length us → ((j : ℕ) → j < length us → get_or vs j 0 ≡ get_or us j 0) → ((u : ℕ) → IsTrue (has us u) → IsTrue (has vs u))
    → ((k : ℕ) → k < length g.edges → (edge_at g k).from ≡ get_or us i 0 → IsTrue (present P k) → IsTrue (has vs (edge_at g k).to)) → IsClosedFrom g P from i us → IsClosedFrom g P from (i + 1) vs
closed_more g P from i us vs lt same kept next old = record {
  at = λ j k low high within start here. elim (cases_lt j i) [
    | inl early ↦ kept (edge_at g k).to (old.at j k low early within (start ∙ same j (omega (arith, early, lt))) here)
    | inr ge ↦ (let is : j ≡ i = omega (arith, ge, high) in next k within (start ∙ same j (omega (arith, is, lt)) ∙ ap (λ (n : ℕ). get_or us n 0) is) here)
  ];
}

pub closed_none : (g : Digraph) (P : List Bool) (from : ℕ) (us : List ℕ) → IsClosedFrom g P from from us
closed_none g P from us = record { at = λ i k low high within start here. absurd (omega (arith, low, high)) }

-- all were looked at
pub closed_all : (g : Digraph) (P : List Bool) (from i : ℕ) (us : List ℕ) → length us ≤ i → IsClosedFrom g P from i us → IsClosedFrom g P from (length us) us
closed_all g P from i us le c = record { at = λ j k low high within start here. c.at j k low (omega (arith, high, le)) within start here }
