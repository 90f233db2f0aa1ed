-- Amounts whose edges are named by their numbers, and by their places.
use Rattle.std.proofs.Common.{◌≡◌, ℕ, ◌<◌, ◌≤◌, Bool, ◌==◌, Option, None, Some, List, [], ◌∷◌, length, leb, refl, sym, ap, ◌∙◌, arith, All, le-leb}
use Rattle.std.specs.Prelude.{IsTrue, is_some, unwrap_or, if◌then◌else◌}
use Rattle.std.specs.List.{list_all}
use Rattle.std.proofs.lemmas.Bool.{and_from, eq-eqb, eqb-true}
use Rattle.std.proofs.lemmas.List.Elements.{All-tail}
use Rattle.std.proofs.lemmas.List.Quantifiers.{position-Some}
use Rattle.mono_graph.specs.declared.amount.Amount.{Amount}
use Rattle.mono_graph.specs.declared.edge.Edge.{Edge}
use Rattle.mono_graph.specs.Digraph.{Digraph, IsGraph, edge_at, no_edge, place_of}
use Rattle.mono_graph.specs.Flows.{amount_at}
use Rattle.mono_graph.proofs.Membership.{same_truth}
use Rattle.mono_steps.specs.Witnesses.{placed_amounts, place_or_end}
use Rattle.mono_theory.proofs.WalksAsEvidence.{own_place}
use Rattle.mono_flow.specs.Flowing.{numbered}

pub placed-numbered : (g : Digraph) (amounts : List Amount) → IsGraph g → All (λ a. a.edge < length g.edges) amounts → placed_amounts g (numbered g amounts) ≡ amounts
placed-numbered g [] ok h = refl
placed-numbered g (a ∷ rest) ok h =
    let back : place_or_end g (edge_at g a.edge).number ≡ a.edge = ap (λ o. unwrap_or o (length g.edges)) (own_place g a.edge ok (h 0 a (omega arith))) in
    ap (λ (k : ℕ). record { edge = k; amount = a.amount } ∷ placed_amounts g (numbered g rest)) back
    ∙ ap (λ (bs : List Amount). a ∷ bs) (placed-numbered g rest ok (All-tail (λ (b : Amount). b.edge < length g.edges) a rest h))

pub numbered-known : (g : Digraph) (amounts : List Amount) → IsGraph g → All (λ a. a.edge < length g.edges) amounts → IsTrue (list_all (λ (m : Amount). is_some (place_of g m.edge)) (numbered g amounts))
numbered-known g [] ok h = refl
numbered-known g (a ∷ rest) ok h = and_from _ _ (ap is_some (own_place g a.edge ok (h 0 a (omega arith)))) (numbered-known g rest ok (All-tail (λ (b : Amount). b.edge < length g.edges) a rest h))

pub numbered-small : (g : Digraph) (amounts : List Amount) (most : ℕ) → All (λ a. a.amount ≤ most) amounts → IsTrue (list_all (λ (m : Amount). leb m.amount most) (numbered g amounts))
numbered-small g [] most h = refl
numbered-small g (a ∷ rest) most h = and_from _ _ (le-leb a.amount most (h 0 a (omega arith))) (numbered-small g rest most (All-tail (λ (b : Amount). b.amount ≤ most) a rest h))

-- ---- amounts of edges by their numbers, and by their places

placed_here : (g : Digraph) (n k : ℕ) (o : Option ℕ) → IsGraph g → k < length g.edges → place_of g n ≡ o → unwrap_or o (length g.edges) ≡ k → n ≡ (edge_at g k).number
placed_here g n k None ok lt is at = absurd (omega (arith, lt, at))
placed_here g n k (Some j) ok lt is at = number_there g n k (is ∙ ap Some at)
  where
    number_there : (h : Digraph) (m i : ℕ) → place_of h m ≡ Some i → m ≡ (edge_at h i).number
    number_there h m i e = sym (eqb-true (edge_at h i).number m (position-Some (λ (d : Edge). d.number == m) h.edges i no_edge e).1)

same_edge : (g : Digraph) (n k : ℕ) → IsGraph g → k < length g.edges → (place_or_end g n == k) ≡ (n == (edge_at g k).number)
same_edge g n k ok lt = same_truth (place_or_end g n == k) (n == (edge_at g k).number)
    (λ h. eq-eqb n (edge_at g k).number (placed_here g n k (place_of g n) ok lt refl (eqb-true (place_or_end g n) k h)))
    (λ h. eq-eqb (place_or_end g n) k (ap (place_or_end g) (eqb-true n (edge_at g k).number h) ∙ ap (λ (o : Option ℕ). unwrap_or o (length g.edges)) (own_place g k ok lt)))

pub placed_amount : (g : Digraph) (ms : List Amount) (k : ℕ) → IsGraph g → k < length g.edges → amount_at ms (edge_at g k).number ≡ amount_at (placed_amounts g ms) k
placed_amount g [] k ok lt = refl
placed_amount g (m ∷ ms) k ok lt =
    ap (λ (b : Bool). if b then m.amount else amount_at ms (edge_at g k).number) (sym (same_edge g m.edge k ok lt))
    ∙ ap (λ (n : ℕ). if (place_or_end g m.edge == k) then m.amount else n) (placed_amount g ms k ok lt)

-- a list with edges by their numbers gives an edge what the list with their places does
pub numbered_amount : (g : Digraph) (amounts : List Amount) (k : ℕ) → IsGraph g → All (λ a. a.edge < length g.edges) amounts → k < length g.edges → amount_at (numbered g amounts) (edge_at g k).number ≡ amount_at amounts k
numbered_amount g amounts k ok known lt = placed_amount g (numbered g amounts) k ok lt ∙ ap (λ (xs : List Amount). amount_at xs k) (placed-numbered g amounts ok known)
