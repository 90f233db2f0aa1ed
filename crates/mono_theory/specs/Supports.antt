-- What is kept of the atoms on one side. On the side of the possibly present edges, the support of a predicate is evidence
-- that rests on present edges, and on the side of the surely present ones evidence that rests on absent edges. While it is
-- right, the atom owes nothing there. What is shown of an atom rests on edges of the other value: while that is right, the
-- atom forces its literal.
use Rattle.std.specs.Prelude.{◌≡◌, ℕ, ◌+◌, ◌<◌, ◌≤◌, ◌⊎◌, Bool, true, false, not, ℤ, pos, int_lt, List, Option, map, take, length, IsTrue, All, if◌then◌else◌}
use Rattle.mono_base.specs.Literal.{var_of}
use Rattle.mono_base.specs.Partial.{is_true_in}
use Rattle.mono_graph.specs.Digraph.{Digraph, edge_at}
use Rattle.mono_problem.specs.declared.atom.Atom.{Atom}
use Rattle.mono_problem.specs.declared.atom.Predicate.{Predicate}
use Rattle.mono_problem.specs.Quiet.{under, over}
use Rattle.mono_steps.specs.Switching.{literal_of}
use Rattle.mono_theory.specs.declared.evidence.Evidence.{Evidence}
use Rattle.mono_theory.specs.declared.stage.Stage.{Stage}
use Rattle.mono_theory.specs.declared.stage.Stage.TheVariants as stage
use Rattle.mono_theory.specs.declared.theory.Force.{Force}
use Rattle.mono_theory.specs.declared.theory.Force.TheVariants as force
use Rattle.mono_theory.specs.declared.watch.Watch.{Watch}
use Rattle.mono_theory.specs.Evidences.{Decides, shown_by}
pub use Rattle.mono_theory.specs.Sound.{AllHave, atom_at}
use Rattle.mono_theory.specs.Sound.{AreSound, IsRightIn, RestsOn, evidence_at}
use Rattle.mono_theory.specs.Stages.{stage_at, undone, waiting_count}
use Rattle.mono_theory.specs.Theories.{Facts, IsForced}
use Rattle.mono_theory.specs.Watching.{AreBelow, AllWatch}

-- the part of a side: the possibly present edges, or the surely present ones
abbrev pub part_of : Digraph → List ℤ → Bool → List Bool
part_of g t possible = if possible then over g t else under g t

-- the atom's variable has the value that the side would force
abbrev pub IsSettled : List ℤ → Bool → Atom → Type 0
IsSettled t possible x = IsTrue (is_true_in t (literal_of (shown_by x.predicate (not possible)) x.var))

-- What is kept on a side, by atom: its support, what is shown of it, what watches each edge, and the stages. Also
-- whether the side is that of the possibly present edges, and whether the predicates of settled atoms are decided too.
pub record SideView : Type 0 where
  pub possible : Bool
  pub supports : List (Option Evidence)
  pub shown : List (Option Evidence)
  pub watchers : List (List Watch)
  pub stages : List Stage
  pub thorough : Bool

-- two lists with a place for each atom that has a stage
pub record AreByAtom (xs ys : List (Option Evidence)) (stages : List Stage) : Type 0 where
  pub supports : length xs ≡ length stages
  pub shown : length ys ≡ length stages

-- the first m literals settle the atom, and what is shown of it is right by them, if predicates of settled atoms are decided
pub record IsShown (f : Facts) (possible thorough : Bool) (shown : Option Evidence) (x : Atom) (m : ℕ) : Type 0 where
  pub within : m ≤ length f.seen
  pub settled : IsSettled (take m f.seen) possible x
  pub right : thorough ≡ true → IsRightIn (part_of f.graph (take m f.seen) possible) (not possible) shown

-- what the stage of an atom says
abbrev pub StageIs : Facts → Bool → SideView → ℕ → Stage → Type 0
StageIs f possible s a stage.Waits = Unit {0}
StageIs f possible s a stage.Stands = IsRightIn (part_of f.graph f.seen possible) possible (evidence_at s.supports a)
StageIs f possible s a (stage.Shows m) = IsShown f possible s.thorough (evidence_at s.shown a) (atom_at f.atoms a) m

-- The side is this one. Supports and what is shown are sound evidence, the edges of supports are watched, and it is as the
-- stages say.
pub record IsSide (f : Facts) (possible : Bool) (s : SideView) : Type 0 where
  pub sign : s.possible ≡ possible
  pub supports : AreSound f.graph f.atoms possible s.supports
  pub shown : AreSound f.graph f.atoms (not possible) s.shown
  pub watchers_len : length s.watchers ≡ length f.graph.edges
  pub stages_len : length s.stages ≡ length f.atoms
  pub known : AreBelow (length f.atoms) s.watchers
  pub watched : AllWatch s.watchers s.supports (length f.atoms)
  pub right : (a : ℕ) → a < length f.atoms → StageIs f possible s a (stage_at s.stages a)

-- there is evidence, and it rests on an edge of the variable
pub record RestsOnVar (g : Digraph) (o : Option Evidence) (v : ℕ) : Type 0 where
  pub edge : ℕ
  pub held : edge < length g.edges
  pub var : (edge_at g edge).var ≡ v
  pub rests : RestsOn o edge

-- the atom stood on an edge that the literal changes on this side, and waits now
pub record HasLostSupport (g : Digraph) (possible : Bool) (l : ℤ) (s r : SideView) (a : ℕ) : Type 0 where
  pub stood : stage_at s.stages a ≡ stage.Stands
  pub waits : stage_at r.stages a ≡ stage.Waits
  pub changes : int_lt (pos 0) l ≡ not possible
  pub rests : RestsOnVar g (evidence_at s.supports a) (var_of l)

-- One more literal was seen. An atom waits where its support needed an edge that the literal changes. All else is kept.
pub record IsKeptBy (g : Digraph) (possible : Bool) (l : ℤ) (s r : SideView) : Type 0 where
  pub same : r ≡ record { possible = s.possible; supports = s.supports; shown = s.shown; watchers = s.watchers; stages = r.stages; thorough = s.thorough }
  pub len : length r.stages ≡ length s.stages
  pub each : (a : ℕ) → (stage_at r.stages a ≡ stage_at s.stages a) ⊎ HasLostSupport g possible l s r a

-- The literals after the first `kept` went. An atom waits where it was shown by one of them. All else is kept.
abbrev pub gone_back : ℕ → SideView → SideView
gone_back kept s = record {
  possible = s.possible;
  supports = s.supports;
  shown = s.shown;
  watchers = s.watchers;
  stages = map (undone kept) s.stages;
  thorough = s.thorough;
}

-- each atom is settled, or its predicate is decided as supports show it: it owes nothing on this side
pub record AllQuiet (f : Facts) (possible : Bool) : Type 0 where
  pub each : (a : ℕ) → a < length f.atoms → IsSettled f.seen possible (atom_at f.atoms a)
      ⊎ Decides f.graph (part_of f.graph f.seen possible) (atom_at f.atoms a).predicate (shown_by (atom_at f.atoms a).predicate possible)

-- the answer of a side: no atom owes anything, or one forces a literal that isn't true
abbrev pub SideIs : Facts → Bool → Force → Type 0
SideIs f possible force.Quiet = AllQuiet f possible
SideIs f possible (force.Literal n l) = IsForced f.graph f.atoms f.seen n l

-- the atom waits
pub record IsNext (s : SideView) (a : ℕ) : Type 0 where
  pub known : a < length s.stages
  pub waits : stage_at s.stages a ≡ stage.Waits

-- the side is the same one, and decides as much
pub record IsAlike (s r : SideView) : Type 0 where
  pub sign : r.possible ≡ s.possible
  pub thorough : r.thorough ≡ s.thorough

-- one atom fewer waits
pub record IsFewer (s r : SideView) : Type 0 where
  pub count : waiting_count r.stages + 1 ≡ waiting_count s.stages
  pub alike : IsAlike s r

-- nothing has changed but what atoms watch
abbrev pub with_watchers : SideView → List (List Watch) → SideView
with_watchers s watchers = record {
  possible = s.possible;
  supports = s.supports;
  shown = s.shown;
  watchers = watchers;
  stages = s.stages;
  thorough = s.thorough;
}

-- what looking at an atom answers: one fewer waits, or it forces a literal that isn't true
abbrev pub ExamineIs : Facts → SideView → SideView → Force → Type 0
ExamineIs f s r force.Quiet = IsFewer s r
ExamineIs f s r (force.Literal n l) = IsForced f.graph f.atoms f.seen n l × IsAlike s r

-- the atoms' predicates are of the kind
pub record AreCovered (covers : Predicate → Bool) (atoms : List Atom) : Type 0 where
  pub each : All (λ x. IsTrue (covers x.predicate)) atoms

-- what is kept on a side is right, and predicates of settled atoms are decided or not as the kind would have it
pub record IsSideFor (f : Facts) (possible asked : Bool) (s : SideView) : Type 0 where
  pub side : IsSide f possible s
  pub thorough : s.thorough ≡ asked

-- what is kept on a side is right, and the side is this one
pub record IsSideOf (f : Facts) (possible : Bool) (is_right : Facts → Type 0) (own : Bool) : Type 0 where
  pub right : is_right f
  pub sign : own ≡ possible

-- The atoms are of the kind, which serves graphs with so many nodes. What is kept of them with the surely present edges is
-- right, and so is what is kept with the possibly present ones.
pub record IsRightTheory (covers : Predicate → Bool) (nodes : ℕ) (f : Facts) (low : Facts → Type 0) (low_sign : Bool)
    (high : Facts → Type 0) (high_sign : Bool) : Type 0 where
  pub covered : AreCovered covers f.atoms
  pub size : nodes ≡ f.graph.nodes
  pub surely : IsSideOf f false low low_sign
  pub possibly : IsSideOf f true high high_sign

-- what a theory is over, what it has seen, and what it keeps of its atoms with the surely present edges and with the possibly
-- present ones
pub record GraphTheoryView (S P : Type 0) : Type 0 where
  pub graph : Digraph
  pub atoms : List Atom
  pub seen : List ℤ
  pub surely : S
  pub possibly : P

abbrev pub facts_in : {S P : Type 0} → GraphTheoryView S P → Facts
facts_in s = record { graph = s.graph; atoms = s.atoms; seen = s.seen }
