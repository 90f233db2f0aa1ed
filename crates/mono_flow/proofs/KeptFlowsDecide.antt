-- Kept flows decide predicates, where no atom waits.
use Rattle.std.proofs.Common.{◌≡◌, ℕ, ◌<◌, Bool, true, false, ◌-ℤ◌, Option, None, Some, List, [], length, refl, sym, ap, subst, ◌∙◌, arith, ℤ, pos}
use Rattle.std.specs.Prelude.{IfSome, IsTrue, int_le}
use Rattle.std.proofs.lemmas.Bool.{and_from}
use Rattle.mono_graph.specs.declared.amount.Amount.{Amount}
use Rattle.mono_graph.specs.Digraph.{Digraph, IsGraph}
use Rattle.mono_graph.specs.Flows.{amount_at, inflow, is_flow, outflow, value_of}
use Rattle.mono_flows.proofs.OneEdge.{same_inflow, same_outflow}
use Rattle.mono_problem.specs.declared.atom.Predicate.{Predicate}
use Rattle.mono_problem.specs.declared.atom.Predicate.TheVariants as kind
use Rattle.mono_problem.specs.WellFormed.{IsOver}
use Rattle.mono_steps.specs.declared.lemma.Witness.{Witness}
use Rattle.mono_steps.specs.declared.lemma.Witness.TheVariants as by
use Rattle.mono_steps.specs.Witnesses.{placed_amounts}
use Rattle.mono_theory.specs.declared.evidence.Evidence.{Evidence}
use Rattle.mono_theory.specs.declared.stage.Stage.{Stage}
use Rattle.mono_theory.specs.declared.stage.Stage.TheVariants as stage
use Rattle.mono_theory.specs.Frames.{AreAtomsOf}
use Rattle.mono_theory.specs.Evidences.{Decides, shown_by}
use Rattle.mono_theory.specs.Sound.{IsRightIn, IsSound, IsWitnessIn, atom_at, evidence_at}
use Rattle.mono_theory.specs.Stages.{NoneWaits, stage_at}
use Rattle.mono_theory.specs.Supports.{IsSideFor, SideView, StageIs, part_of}
use Rattle.mono_theory.specs.Theories.{Facts}
use Rattle.mono_theory.proofs.PartsOfSides.{part_len}
use Rattle.mono_theory.proofs.SidesStay.{shown_now}
use Rattle.mono_theory.proofs.KeptEvidenceDecides.{sound_decides, sound_witness_of}
use Rattle.mono_flow.specs.KeptFlows.{IsDecidedBy, amounts_in, carried_at, over_flow, showing, supporting, under_flow}
use Rattle.mono_flow.proofs.FlowEvidence.{IsFlowOf, flow_parts}
use Rattle.mono_flow.proofs.KeptFlowsAreFlows.{no_flow, witness_flows}
use Rattle.mono_flow.proofs.Numbered.{placed_amount}

-- ---- by one witness

-- nothing carries less than a bound that no flow reaches
nothing_decides : (g : Digraph) (P : List Bool) (q : Predicate) → Decides g P q (shown_by q false) → IsDecidedBy g P q (carried_at g [])
nothing_decides g P (kind.Reach u v) fails = tt
nothing_decides g P (kind.Steps u v most) fails = tt
nothing_decides g P (kind.Distance u v most) fails = tt
nothing_decides g P (kind.Tree most) fails = tt
nothing_decides g P kind.Acyclic fails = tt
nothing_decides g P (kind.Flow s t least) fails =
    (λ holds. absurd (fails holds), λ enough. absurd (fails (carried_at g [], and_from (is_flow g P s t (carried_at g [])) (int_le least (value_of g s (carried_at g []))) (no_flow g P s t) enough)))

same_value : (g : Digraph) (s : ℕ) (f h : ℕ → ℕ) → ((k : ℕ) → k < length g.edges → h k ≡ f k) → value_of g s h ≡ value_of g s f
same_value g s f h same = ap (λ (n : ℕ). pos n -ℤ pos (inflow g h s)) (same_outflow g f h s same) ∙ ap (λ (n : ℕ). pos (outflow g f s) -ℤ pos n) (same_inflow g f h s same)

-- a witness that passes carries enough
witness_decides : (g : Digraph) (P : List Bool) (q : Predicate) (w : Witness) → IsGraph g → IsWitnessIn g P q true w → IsDecidedBy g P q (carried_at g (amounts_in w))
witness_decides g P (kind.Reach u v) w ok h = tt
witness_decides g P (kind.Steps u v most) w ok h = tt
witness_decides g P (kind.Distance u v most) w ok h = tt
witness_decides g P (kind.Tree most) w ok h = tt
witness_decides g P kind.Acyclic w ok h = tt
witness_decides g P (kind.Flow s t least) (by.Flow ms) ok h =
    let parts : IsFlowOf g P s t least (placed_amounts g ms) = flow_parts (placed_amounts g ms) h.passes in
    let enough : IsTrue (int_le least (value_of g s (carried_at g ms))) =
    subst (λ (v : ℤ). IsTrue (int_le least v)) (sym (same_value g s (amount_at (placed_amounts g ms)) (carried_at g ms) (λ k lt. placed_amount g ms k ok lt))) parts.enough in
    (λ holds. enough, λ yes. (carried_at g ms, and_from (is_flow g P s t (carried_at g ms)) (int_le least (value_of g s (carried_at g ms))) (witness_flows g P (kind.Flow s t least) (by.Flow ms) ok h) enough))
witness_decides g P (kind.Flow s t least) (by.Path es) ok h = let p = h.passes in absurd cc
witness_decides g P (kind.Flow s t least) (by.Tree es) ok h = let p = h.passes in absurd cc
witness_decides g P (kind.Flow s t least) (by.Cut us) ok h = let p = h.rests in absurd cc
witness_decides g P (kind.Flow s t least) (by.Label ls) ok h = let p = h.rests in absurd cc
witness_decides g P (kind.Flow s t least) (by.FlowCut us) ok h = let p = h.rests in absurd cc
witness_decides g P (kind.Flow s t least) (by.Split us) ok h = let p = h.rests in absurd cc
witness_decides g P (kind.Flow s t least) (by.Least es) ok h = let p = h.rests in absurd cc
witness_decides g P (kind.Flow s t least) (by.Cycle es) ok h = let p = h.passes in absurd cc
witness_decides g P (kind.Flow s t least) (by.Order us) ok h = let p = h.rests in absurd cc

-- ---- by kept evidence

kept_decides : (g : Digraph) (P : List Bool) (q : Predicate) (o : Option Evidence) (amounts : Option Evidence → List Amount) → IsGraph g → length P ≡ length g.edges → IfSome o (IsSound g q true) → IsRightIn P true o
    → ((e : Evidence) → amounts (Some e) ≡ amounts_in e.witness) → IsDecidedBy g P q (carried_at g (amounts o))
kept_decides g P q None amounts ok len sound right is = absurd right
kept_decides g P q (Some e) amounts ok len sound right is =
    subst (λ (ms : List Amount). IsDecidedBy g P q (carried_at g ms)) (sym (is e)) (witness_decides g P q e.witness ok (sound_witness_of g P q true (Some e) e.witness len sound right refl))

over_of : (f : Facts) → AreAtomsOf f.graph f.atoms → (a : ℕ) → a < length f.atoms → IsOver f.graph (atom_at f.atoms a).predicate
over_of f ok a lt = (ok.over a _ lt).1

not_waiting : (stages : List Stage) (a : ℕ) → NoneWaits stages → stage_at stages a ≡ stage.Waits → a < length stages → ⊥
not_waiting stages a h e lt = h a stage.Waits lt e

pub under_decided : (f : Facts) (s : SideView) → IsGraph f.graph → AreAtomsOf f.graph f.atoms → IsSideFor f false true s → NoneWaits s.stages → (a : ℕ) → a < length f.atoms
    → IsDecidedBy f.graph (part_of f.graph f.seen false) (atom_at f.atoms a).predicate (carried_at f.graph (under_flow s a))
under_decided f s ok atoms h none a lt = by (stage_at s.stages a) refl (h.side.right a lt)
  where
    by : (at : Stage) → stage_at s.stages a ≡ at → StageIs f false s a at → IsDecidedBy f.graph (part_of f.graph f.seen false) (atom_at f.atoms a).predicate (carried_at f.graph (showing at (evidence_at s.shown a)))
    by stage.Waits e is = absurd (not_waiting s.stages a none e (let len = h.side.stages_len in omega arith))
    by stage.Stands e is =
        nothing_decides f.graph (part_of f.graph f.seen false) (atom_at f.atoms a).predicate
        (sound_decides f.graph (part_of f.graph f.seen false) (atom_at f.atoms a).predicate false (evidence_at s.supports a) ok (over_of f atoms a lt) (part_len f.graph f.seen false) (h.side.supports.each a lt) is)
    by (stage.Shows m) e is =
        let sound = h.side.shown.each a lt in
        kept_decides f.graph (part_of f.graph f.seen false) (atom_at f.atoms a).predicate (evidence_at s.shown a) (showing (stage.Shows m)) ok (part_len f.graph f.seen false) sound
        (shown_now {x = atom_at f.atoms a} is h.thorough sound) (λ e. refl)

pub over_decided : (f : Facts) (s : SideView) → IsGraph f.graph → AreAtomsOf f.graph f.atoms → IsSideFor f true true s → NoneWaits s.stages → (a : ℕ) → a < length f.atoms
    → IsDecidedBy f.graph (part_of f.graph f.seen true) (atom_at f.atoms a).predicate (carried_at f.graph (over_flow s a))
over_decided f s ok atoms h none a lt = by (stage_at s.stages a) refl (h.side.right a lt)
  where
    by : (at : Stage) → stage_at s.stages a ≡ at → StageIs f true s a at → IsDecidedBy f.graph (part_of f.graph f.seen true) (atom_at f.atoms a).predicate (carried_at f.graph (supporting at (evidence_at s.supports a)))
    by stage.Waits e is = absurd (not_waiting s.stages a none e (let len = h.side.stages_len in omega arith))
    by stage.Stands e is =
        kept_decides f.graph (part_of f.graph f.seen true) (atom_at f.atoms a).predicate (evidence_at s.supports a) (supporting stage.Stands) ok (part_len f.graph f.seen true) (h.side.supports.each a lt) is (λ e. refl)
    by (stage.Shows m) e is =
        let sound = h.side.shown.each a lt in
        nothing_decides f.graph (part_of f.graph f.seen true) (atom_at f.atoms a).predicate
        (sound_decides f.graph (part_of f.graph f.seen true) (atom_at f.atoms a).predicate false (evidence_at s.shown a) ok (over_of f atoms a lt) (part_len f.graph f.seen true) sound (shown_now {x = atom_at f.atoms a} is h.thorough sound))
