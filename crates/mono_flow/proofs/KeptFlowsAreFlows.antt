-- What a theory of flows keeps is a flow, as far as it is read.
use Rattle.std.proofs.Common.{Bor, ◌≡◌, ◌≢◌, ℕ, ◌<◌, Bool, true, false, ◌||◌, ◌==◌, Option, None, Some, List, [], length, refl, sym, ap, subst, ◌∙◌, arith, MatchOption, le-leb}
use Rattle.std.specs.Prelude.{IfNone, IfSome, IsSome, IsTrue, nat_le, if◌then◌else◌}
use Rattle.std.proofs.lemmas.Bool.{and_from, and_parts, eq-eqb, or_right}
use Rattle.mono_graph.specs.declared.amount.Amount.{Amount}
use Rattle.mono_graph.specs.Digraph.{Digraph, IsGraph, edge_at, places, present}
use Rattle.mono_graph.specs.Flows.{amount_at, inflow, is_conserved, is_flow, is_within, outflow}
use Rattle.mono_graph.proofs.CutsBoundFlows.{total_is}
use Rattle.mono_graph.proofs.Places.{all_of, list_all_agree}
use Rattle.mono_flows.proofs.OneEdge.{none, same_inflow, same_outflow}
use Rattle.mono_problem.specs.declared.atom.Atom.{Atom}
use Rattle.mono_problem.specs.declared.atom.Predicate.{Predicate}
use Rattle.mono_problem.specs.declared.atom.Predicate.TheVariants as kind
use Rattle.mono_steps.specs.declared.lemma.Witness.{Witness}
use Rattle.mono_steps.specs.declared.lemma.Witness.TheVariants as by
use Rattle.mono_steps.specs.Witnesses.{placed_amounts}
use Rattle.mono_theory.specs.declared.evidence.Evidence.{Evidence}
use Rattle.mono_theory.specs.declared.stage.Stage.{Stage}
use Rattle.mono_theory.specs.declared.stage.Stage.TheVariants as stage
use Rattle.mono_theory.specs.AtomPlaces.{place_of_atom}
use Rattle.mono_theory.specs.Sound.{IsWitnessIn, atom_at}
use Rattle.mono_theory.specs.Stages.{shows}
use Rattle.mono_theory.specs.Supports.{GraphTheoryView, SideView}
use Rattle.mono_theory.specs.Theories.{atom_of}
use Rattle.mono_flow.specs.KeptFlows.{IsFlowFor, amounts_in, carried_at, flows_at, flows_in, over_flow, showing, supporting, under_flow}
use Rattle.mono_flow.proofs.FlowEvidence.{IsFlowOf, flow_parts}
use Rattle.mono_flow.proofs.Numbered.{placed_amount}

-- ---- flows

-- the same amounts are the same flow
same_flow : (g : Digraph) (P : List Bool) (s t : ℕ) (f h : ℕ → ℕ) → ((k : ℕ) → k < length g.edges → h k ≡ f k) → IsTrue (is_flow g P s t f) → IsTrue (is_flow g P s t h)
same_flow g P s t f h same flow =
    let parts = and_parts (is_within g P f) (is_conserved g s t f) flow in
    and_from (is_within g P h) (is_conserved g s t h)
    (list_all_agree (λ k. nat_le (h k) (if present P k then (edge_at g k).weight else 0)) (λ k. nat_le (f k) (if present P k then (edge_at g k).weight else 0)) 0 (length g.edges)
    (λ k low high. ap (λ (n : ℕ). nat_le n (if present P k then (edge_at g k).weight else 0)) (same k (omega (arith, high)))) ∙ parts.0)
    (list_all_agree (λ u. u == s || u == t || inflow g h u == outflow g h u) (λ u. u == s || u == t || inflow g f u == outflow g f u) 0 g.nodes
    (λ u low high. ap (λ (n : ℕ). u == s || u == t || n == outflow g h u) (same_inflow g f h u same) ∙ ap (λ (n : ℕ). u == s || u == t || inflow g f u == n) (same_outflow g f h u same)) ∙ parts.1)

-- nothing is a flow
pub no_flow : (g : Digraph) (P : List Bool) (s t : ℕ) → IsTrue (is_flow g P s t (λ k. 0))
no_flow g P s t =
    let f : ℕ → ℕ = λ k. 0 in
    and_from (is_within g P f) (is_conserved g s t f)
    (all_of (λ k. nat_le (f k) (if present P k then (edge_at g k).weight else 0)) 0 (length g.edges) (λ k low high. le-leb 0 (if present P k then (edge_at g k).weight else 0) (omega arith)))
    (all_of (λ u. u == s || u == t || inflow g f u == outflow g f u) 0 g.nodes (λ u low high.
    or_right (u == s || u == t) (inflow g f u == outflow g f u) (eq-eqb (inflow g f u) (outflow g f u)
    ((total_is f (λ k. (edge_at g k).to == u) (places g) ∙ none f (λ k. (edge_at g k).to == u) 0 (length g.edges) (λ k lo hi h. refl))
    ∙ sym (total_is f (λ k. (edge_at g k).from == u) (places g) ∙ none f (λ k. (edge_at g k).from == u) 0 (length g.edges) (λ k lo hi h. refl))))))

pub nothing_flows : (g : Digraph) (P : List Bool) (q : Predicate) → IsFlowFor g P q (carried_at g [])
nothing_flows g P (kind.Reach u v) = tt
nothing_flows g P (kind.Steps u v most) = tt
nothing_flows g P (kind.Distance u v most) = tt
nothing_flows g P (kind.Flow s t least) = no_flow g P s t
nothing_flows g P (kind.Tree most) = tt
nothing_flows g P kind.Acyclic = tt

-- a flow that passes is one
pub witness_flows : (g : Digraph) (P : List Bool) (q : Predicate) (w : Witness) → IsGraph g → IsWitnessIn g P q true w → IsFlowFor g P q (carried_at g (amounts_in w))
witness_flows g P (kind.Reach u v) w ok h = tt
witness_flows g P (kind.Steps u v most) w ok h = tt
witness_flows g P (kind.Distance u v most) w ok h = tt
witness_flows g P (kind.Tree most) w ok h = tt
witness_flows g P kind.Acyclic w ok h = tt
witness_flows g P (kind.Flow s t least) (by.Flow ms) ok h =
    let parts : IsFlowOf g P s t least (placed_amounts g ms) = flow_parts (placed_amounts g ms) h.passes in
    same_flow g P s t (amount_at (placed_amounts g ms)) (carried_at g ms) (λ k lt. placed_amount g ms k ok lt)
    (and_from (is_within g P (amount_at (placed_amounts g ms))) (is_conserved g s t (amount_at (placed_amounts g ms))) parts.within parts.conserved)
witness_flows g P (kind.Flow s t least) (by.Path es) ok h = no_flow g P s t
witness_flows g P (kind.Flow s t least) (by.Cut us) ok h = no_flow g P s t
witness_flows g P (kind.Flow s t least) (by.Label ls) ok h = no_flow g P s t
witness_flows g P (kind.Flow s t least) (by.FlowCut us) ok h = no_flow g P s t
witness_flows g P (kind.Flow s t least) (by.Tree es) ok h = no_flow g P s t
witness_flows g P (kind.Flow s t least) (by.Split us) ok h = no_flow g P s t
witness_flows g P (kind.Flow s t least) (by.Least es) ok h = no_flow g P s t
witness_flows g P (kind.Flow s t least) (by.Cycle es) ok h = no_flow g P s t
witness_flows g P (kind.Flow s t least) (by.Order us) ok h = no_flow g P s t

-- ---- what is read

showing_none : (at : Stage) (o : Option Evidence) → shows at ≡ false → showing at o ≡ []
showing_none stage.Waits o h = refl
showing_none stage.Stands o h = refl
showing_none (stage.Shows m) o h = absurd cc

showing_some : (at : Stage) (o : Option Evidence) (w : Witness) → shows at ≡ true → MatchOption o ⊥ (λ e. w ≡ e.witness) → showing at o ≡ amounts_in w
showing_some stage.Waits o w h is = absurd cc
showing_some stage.Stands o w h is = absurd cc
showing_some (stage.Shows m) None w h is = absurd is
showing_some (stage.Shows m) (Some e) w h is = ap amounts_in (sym is)

supporting_none : (at : Stage) (o : Option Evidence) → (at ≢ stage.Stands) → supporting at o ≡ []
supporting_none stage.Waits o h = refl
supporting_none stage.Stands o h = absurd (h refl)
supporting_none (stage.Shows m) o h = refl

supporting_some : (at : Stage) (o : Option Evidence) (w : Witness) → at ≡ stage.Stands → MatchOption o ⊥ (λ e. w ≡ e.witness) → supporting at o ≡ amounts_in w
supporting_some at None w h is = absurd is
supporting_some at (Some e) w h is = ap (λ (a : Stage). supporting a (Some e)) h ∙ ap amounts_in (sym is)

-- the witness that was read, if there was one
pub record IsRead (r : Option (Bor Witness)) (ms : List Amount) : Type 0 where
  pub none : IfNone r (ms ≡ [])
  pub some : IfSome r (λ w. ms ≡ amounts_in w.now)

pub shown_read : (r : Option (Bor Witness)) (at : Stage) (o : Option Evidence) → IfNone r (shows at ≡ false) → (IsSome r → shows at ≡ true) → IfSome r (λ w. MatchOption o ⊥ (λ e. w.now ≡ e.witness)) → IsRead r (showing at o)
shown_read None at o lacks stands its = record { none = showing_none at o lacks; some = tt }
shown_read (Some w) at o lacks stands its = record { none = tt; some = showing_some at o w.now (stands refl) its }

pub support_read : (r : Option (Bor Witness)) (at : Stage) (o : Option Evidence) → IfNone r (at ≢ stage.Stands) → (IsSome r → at ≡ stage.Stands) → IfSome r (λ w. MatchOption o ⊥ (λ e. w.now ≡ e.witness)) → IsRead r (supporting at o)
support_read None at o lacks stands its = record { none = supporting_none at o lacks; some = tt }
support_read (Some w) at o lacks stands its = record { none = tt; some = supporting_some at o w.now (stands refl) its }

pub amount_read : (r : Option (Bor Witness)) (ms : List Amount) (n amount : ℕ) → IsRead r ms → MatchOption r (amount ≡ 0) (λ w. amount ≡ amount_at (amounts_in w.now) n) → amount ≡ amount_at ms n
amount_read None ms n amount h is = is ∙ sym (ap (λ (xs : List Amount). amount_at xs n) h.none)
amount_read (Some w) ms n amount h is = is ∙ sym (ap (λ (xs : List Amount). amount_at xs n) h.some)

pub flow_read : (g : Digraph) (P : List Bool) (q : Predicate) (r : Option (Bor Witness)) (ms : List Amount) → IsGraph g → IsRead r ms → IfSome r (λ w. IsWitnessIn g P q true w.now) → IsFlowFor g P q (carried_at g ms)
flow_read g P q None ms ok h right = subst (λ (xs : List Amount). IsFlowFor g P q (carried_at g xs)) (sym h.none) (nothing_flows g P q)
flow_read g P q (Some w) ms ok h right = subst (λ (xs : List Amount). IsFlowFor g P q (carried_at g xs)) (sym h.some) (witness_flows g P q w.now ok right)

-- ---- the atom of a number

pub flows_are : (s : GraphTheoryView SideView SideView) (n a k under over : ℕ) → place_of_atom s.atoms n ≡ a → under ≡ carried_at s.graph (under_flow s.surely a) k → over ≡ carried_at s.graph (over_flow s.possibly a) k → record { under = under; over = over } ≡ flows_in s n k
flows_are s n a k under over place u o =
    (λ i. record { under = u i; over = o i })
    ∙ ap (λ (p : ℕ). flows_at s p k) (sym place)

-- what holds of the flow of the atom at the place holds of what is read by its number
pub under_read : (T : Predicate → (ℕ → ℕ) → Type 0) (s : GraphTheoryView SideView SideView) (n a : ℕ) → place_of_atom s.atoms n ≡ a → atom_of s.atoms n ≡ Some (atom_at s.atoms a) → T (atom_at s.atoms a).predicate (carried_at s.graph (under_flow s.surely a))
    → MatchOption (atom_of s.atoms n) ⊥ (λ x. T x.predicate (λ k. (flows_in s n k).under))
under_read T s n a place found h =
    subst (λ (o : Option Atom). MatchOption o ⊥ (λ x. T x.predicate (λ k. (flows_in s n k).under))) (sym found)
    (subst (λ (p : ℕ). T (atom_at s.atoms a).predicate (λ k. (flows_at s p k).under)) (sym place) h)

pub over_read : (T : Predicate → (ℕ → ℕ) → Type 0) (s : GraphTheoryView SideView SideView) (n a : ℕ) → place_of_atom s.atoms n ≡ a → atom_of s.atoms n ≡ Some (atom_at s.atoms a) → T (atom_at s.atoms a).predicate (carried_at s.graph (over_flow s.possibly a))
    → MatchOption (atom_of s.atoms n) ⊥ (λ x. T x.predicate (λ k. (flows_in s n k).over))
over_read T s n a place found h =
    subst (λ (o : Option Atom). MatchOption o ⊥ (λ x. T x.predicate (λ k. (flows_in s n k).over))) (sym found)
    (subst (λ (p : ℕ). T (atom_at s.atoms a).predicate (λ k. (flows_at s p k).over)) (sym place) h)
