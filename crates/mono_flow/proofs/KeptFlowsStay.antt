-- Which flows stay when a literal is seen, and when literals go.
use Rattle.std.proofs.Common.{◌≡◌, ℕ, zero, suc, ◌<◌, ◌⊎◌, true, false, length, List, [], ◌∷◌, map, refl, sym, ap, subst, ◌∙◌, inl, inr, ℤ}
use Rattle.std.specs.Prelude.{IfSome, IsTrue, Option, Some, None, nat_lt, if◌then◌else◌, Bool}
use Rattle.std.proofs.lemmas.Bool.{ltb-true}
use Rattle.mono_graph.specs.Digraph.{Digraph}
use Rattle.mono_problem.specs.declared.atom.Predicate.{Predicate}
use Rattle.mono_problem.specs.declared.atom.Predicate.TheVariants as kind
use Rattle.mono_problem.specs.Read.{no_atom}
use Rattle.mono_steps.specs.declared.lemma.Witness.{Witness}
use Rattle.mono_steps.specs.declared.lemma.Witness.TheVariants as by
use Rattle.mono_steps.specs.Witnesses.{rests_on_present, passes}
use Rattle.mono_theory.specs.declared.evidence.Evidence.{Evidence}
use Rattle.mono_theory.specs.declared.stage.Stage.{Stage}
use Rattle.mono_theory.specs.declared.stage.Stage.TheVariants as stage
use Rattle.mono_theory.specs.Evidences.{only, uses}
use Rattle.mono_theory.specs.Sound.{IsSound, RestsOn, atom_at, evidence_at}
use Rattle.mono_theory.specs.Stages.{stage_at, undone}
use Rattle.mono_theory.specs.Supports.{AreCovered, IsKeptBy, IsSide, SideView, gone_back}
use Rattle.mono_theory.specs.Theories.{Facts}
use Rattle.mono_graph.proofs.Pigeons.{all_has}
use Rattle.mono_flow.specs.Flowing.{is_flow_predicate}
use Rattle.mono_flow.specs.KeptFlows.{LosesFlow, amounts_in, carried_at, over_flow, showing, supporting, under_flow}

shown_same : {g : Digraph} {b : Bool} {l : ℤ} {s r : SideView} → IsKeptBy g b l s r → r.shown ≡ s.shown
shown_same h = ap (λ (v : SideView). v.shown) h.same

supports_same : {g : Digraph} {b : Bool} {l : ℤ} {s r : SideView} → IsKeptBy g b l s r → r.supports ≡ s.supports
supports_same h = ap (λ (v : SideView). v.supports) h.same

-- an atom that lost its support showed nothing, and shows nothing
pub under_stays : (g : Digraph) (l : ℤ) (s r : SideView) → IsKeptBy g false l s r → (a : ℕ) → under_flow r a ≡ under_flow s a
under_stays g l s r h a =
    ap (λ (xs : List (Option Evidence)). showing (stage_at r.stages a) (evidence_at xs a)) (shown_same h)
    ∙ elim (h.each a) [
      | inl same ↦ ap (λ (at : Stage). showing at (evidence_at s.shown a)) same
      | inr lost ↦ ap (λ (at : Stage). showing at (evidence_at s.shown a)) lost.waits ∙ sym (ap (λ (at : Stage). showing at (evidence_at s.shown a)) lost.stood)
    ]

-- a flow that holds gives something to each edge on which it rests
flow_carries : (g : Digraph) (P : List Bool) (q : Predicate) (w : Witness) (k : ℕ) → IsTrue (is_flow_predicate q) → rests_on_present w ≡ true → IsTrue (passes g P q w) → IsTrue (uses g w k) → 0 < carried_at g (amounts_in w) k
flow_carries g P (kind.Reach u v) w k is sign h used = absurd cc
flow_carries g P (kind.Steps u v most) w k is sign h used = absurd cc
flow_carries g P (kind.Distance u v most) w k is sign h used = absurd cc
flow_carries g P (kind.Tree most) w k is sign h used = absurd cc
flow_carries g P kind.Acyclic w k is sign h used = absurd cc
flow_carries g P (kind.Flow s t least) (by.Flow ms) k is sign h used = ltb-true 0 (carried_at g ms k) used
flow_carries g P (kind.Flow s t least) (by.Path es) k is sign h used = absurd cc
flow_carries g P (kind.Flow s t least) (by.Tree es) k is sign h used = absurd cc
flow_carries g P (kind.Flow s t least) (by.Cut us) k is sign h used = absurd cc
flow_carries g P (kind.Flow s t least) (by.Label ls) k is sign h used = absurd cc
flow_carries g P (kind.Flow s t least) (by.FlowCut us) k is sign h used = absurd cc
flow_carries g P (kind.Flow s t least) (by.Split us) k is sign h used = absurd cc
flow_carries g P (kind.Flow s t least) (by.Least es) k is sign h used = absurd cc
flow_carries g P (kind.Flow s t least) (by.Cycle es) k is sign h used = absurd cc
flow_carries g P (kind.Flow s t least) (by.Order us) k is sign h used = absurd cc

support_carries : (g : Digraph) (q : Predicate) (o : Option Evidence) (k : ℕ) → IsTrue (is_flow_predicate q) → IfSome o (IsSound g q true) → RestsOn o k → 0 < carried_at g (supporting stage.Stands o) k
support_carries g q None k is sound rests = absurd rests
support_carries g q (Some e) k is sound rests = flow_carries g (only g e.edges) q e.witness k is sound.rests sound.passes (all_has (λ j. IsTrue (uses g e.witness j)) e.edges k sound.used rests)

pub over_stays : (f : Facts) (l : ℤ) (s r : SideView) → AreCovered is_flow_predicate f.atoms → IsSide f true s → IsKeptBy f.graph true l s r → (a : ℕ) → a < length f.atoms → (over_flow r a ≡ over_flow s a) ⊎ LosesFlow f.graph l s a
over_stays f l s r covered side h a lt = elim (h.each a) [
  | inl same ↦ inl (ap (λ (xs : List (Option Evidence)). supporting (stage_at r.stages a) (evidence_at xs a)) (supports_same h) ∙ ap (λ (at : Stage). supporting at (evidence_at s.supports a)) same)
  | inr lost ↦ inr (record {
    edge = lost.rests.edge;
    held = lost.rests.held;
    var = lost.rests.var;
    absent = lost.changes;
    carried = subst (λ (at : Stage). 0 < carried_at f.graph (supporting at (evidence_at s.supports a)) lost.rests.edge) (sym lost.stood)
        (support_carries f.graph (atom_at f.atoms a).predicate (evidence_at s.supports a) lost.rests.edge (covered.each a no_atom lt) (side.supports.each a lt) lost.rests.rests);
  })
]

undone_at : (kept : ℕ) (stages : List Stage) (a : ℕ) → stage_at (map (undone kept) stages) a ≡ undone kept (stage_at stages a)
undone_at kept [] a = refl
undone_at kept (x ∷ xs) zero = refl
undone_at kept (x ∷ xs) (suc a) = undone_at kept xs a

supporting_undone : (kept : ℕ) (at : Stage) (o : Option Evidence) → supporting (undone kept at) o ≡ supporting at o
supporting_undone kept stage.Waits o = refl
supporting_undone kept stage.Stands o = refl
supporting_undone kept (stage.Shows m) o = by (nat_lt kept m)
  where
    by : (b : Bool) → supporting (if b then stage.Waits else stage.Shows m) o ≡ supporting (stage.Shows m) o
    by true = refl
    by false = refl

pub over_stays_back : (kept : ℕ) (s : SideView) (a : ℕ) → over_flow (gone_back kept s) a ≡ over_flow s a
over_stays_back kept s a = ap (λ (at : Stage). supporting at (evidence_at s.supports a)) (undone_at kept s.stages a) ∙ supporting_undone kept (stage_at s.stages a) (evidence_at s.supports a)
