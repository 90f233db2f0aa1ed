-- Worked rows of flows.
use Rattle.std.proofs.Common.{◌≡◌, ℕ, zero, suc, ◌<◌, false, [], ◌∷◌, refl, arith, pos}
use Rattle.mono_graph.specs.Digraph.{HasEnds, edge_at}
use Rattle.mono_graph.specs.Worked.{amount, edge, single}
use Rattle.mono_graph.proofs.CutsBoundFlows.{flow_cut_excludes}
use Rattle.mono_problem.specs.declared.atom.Predicate.TheVariants as kind
use Rattle.mono_problem.specs.Holds.{Holds}
use Rattle.mono_steps.specs.WorkedLemmas.{minus}
use Rattle.mono_theory.specs.declared.stage.Stage.{Stage}
use Rattle.mono_theory.specs.declared.stage.Stage.TheVariants as stage
use Rattle.mono_theory.specs.Stages.{NoneWaits}
use Rattle.mono_flow.specs.KeptFlows.{IsDecidedBy, LosesFlow}
use Rattle.mono_flow.specs.Worked.{standing}

ends : HasEnds (single (edge 1 0 1 5))
ends zero d lt = (omega arith, omega arith)
ends (suc k) d lt = absurd (omega (arith, lt))

-- nothing flows along an absent edge
none_flows : Holds (single (edge 1 0 1 5)) (false ∷ []) (kind.Flow 0 1 (pos 5)) → ⊥
none_flows h = flow_cut_excludes (single (edge 1 0 1 5)) (false ∷ []) 0 1 (pos 5) h.0 (0 ∷ []) ends (omega arith) refl h.1

pub none_decides : IsDecidedBy (single (edge 1 0 1 5)) (false ∷ []) (kind.Flow 0 1 (pos 5)) (λ k. 0)
none_decides = (λ holds. absurd (none_flows holds), λ e. absurd cc)

pub too_much_for_an_absent_edge : IsDecidedBy (single (edge 1 0 1 5)) (false ∷ []) (kind.Flow 0 1 (pos 5)) (λ k. 5) → ⊥
too_much_for_an_absent_edge h = none_flows (h.1 refl)

pub nothing_lost : LosesFlow (single (edge 1 0 1 5)) (minus 1) (standing []) 0 → ⊥
nothing_lost h = let carried = h.carried in omega (arith, carried)

pub another_stays : LosesFlow (single (edge 1 0 1 5)) (minus 2) (standing (amount 1 3 ∷ [])) 0 → ⊥
another_stays h = by h.edge h.held h.var
  where
    by : (k : ℕ) → k < 1 → (edge_at (single (edge 1 0 1 5)) k).var ≡ 2 → ⊥
    by zero lt e = absurd cc
    by (suc k) lt e = absurd (omega (arith, lt))

pub one_stage : (s : Stage) → (s ≡ stage.Waits → ⊥) → NoneWaits (s ∷ [])
one_stage s other zero d lt = other
one_stage s other (suc k) d lt = absurd (omega (arith, lt))
