-- Predicates on walks that are asked of a search, and what becomes known of them.
use Rattle.std.proofs.Common.{◌≡◌, ◌↔◌, ℕ, ◌+◌, ◌-◌, ◌<◌, ◌⊎◌, ℤ, pos, Bool, false, List, length, map, get_or, replicate, All, refl, sym, ap, subst, ◌∙◌, inl, inr, arith}
use Rattle.std.specs.Prelude.{IsTrue, Option, Some, None, IfSome}
use Rattle.std.proofs.lemmas.Int.{ints}
use Rattle.std.proofs.lemmas.List.{length-map, get_or-map, length-replicate, get_or-replicate}
use Rattle.mono_graph.specs.Digraph.{Digraph, enabled}
use Rattle.mono_paths.specs.declared.measure.Measure.{Measure}
use Rattle.mono_paths.specs.declared.measure.Measure.TheVariants as measure
use Rattle.mono_problem.specs.declared.atom.Atom.{Atom}
use Rattle.mono_problem.specs.declared.atom.Predicate.{Predicate}
use Rattle.mono_problem.specs.Instance.{Instance, graph_at}
use Rattle.mono_problem.specs.Read.{atom_numbered, no_atom}
use Rattle.mono_problem.specs.Holds.{Holds, HoldsAtom}
use Rattle.mono_problem.specs.WellFormed.{IsInstance, IsAtomAt, IsOver, IsMost}
use Rattle.mono_check.specs.declared.question.WalkQuestion.{WalkQuestion}
use Rattle.mono_paths.specs.declared.target.Target.{Target}
use Rattle.mono_paths.specs.Asked.{limit_by, target_at, IsTarget, HasPath, AreAnswers}
use Rattle.mono_check.specs.Questions.{asks, atom_at, no_question, question_at, target_of, truth_at, IsQuestionOf, IsQuestion, AreAlike, AreTruths, IsAnswered}
use Rattle.mono_check.proofs.WrongAtoms.{atom_known}

-- what a predicate on walks is over
pub most_over : (g : Digraph) (m : Measure) (u v : ℕ) (most : ℤ) → IsOver g (asks m u v most) → (m ≡ measure.Free → most ≡ pos 0) → IsMost most
most_over g measure.Free u v most over free = let zero_is = free refl in (omega (arith, ints, zero_is), omega (arith, ints, zero_is))
most_over g measure.Steps u v most over free = over.2
most_over g measure.Weight u v most over free = over.2

pub question_known : (p : Instance) (x : Atom) (k : ℕ) (q : WalkQuestion) → IsInstance p → k < length p.atoms → x ≡ atom_numbered p (k + 1) → IsQuestionOf x k q → IsQuestion p q
question_known p x k q ok low is of =
    let at : x ≡ atom_at p q.place = is ∙ ap (λ (j : ℕ). atom_at p j) (let e : k + 1 - 1 ≡ q.place = (let h = of.place in omega arith) in e) in
    let asked : (atom_at p q.place).predicate ≡ asks q.measure q.from q.to q.most = ap (λ (y : Atom). y.predicate) (sym at) ∙ of.predicate in
    let known : IsAtomAt p (k + 1 - 1) (atom_numbered p (k + 1)) = atom_known p ok (k + 1) (omega arith) (omega arith) in
    let over : IsOver (graph_at p x.graph) x.predicate = subst (λ (y : Atom). IsOver (graph_at p y.graph) y.predicate) (sym is) known.over in
    record {
      place = let h = of.place in omega arith;
      graph = of.graph ∙ ap (λ (y : Atom). y.graph) at;
      predicate = asked;
      most = most_over (graph_at p x.graph) q.measure q.from q.to q.most (subst (λ (r : Predicate). IsOver (graph_at p x.graph) r) of.predicate over) of.free;
    }

-- ---- what is asked is one of the problem's predicates

question_over : (p : Instance) (q : WalkQuestion) → IsInstance p → IsQuestion p q → (q.graph < length p.graphs) × IsOver (graph_at p q.graph) (asks q.measure q.from q.to q.most)
question_over p q ok of =
    let known : IsAtomAt p q.place (atom_at p q.place) = ok.atoms q.place no_atom of.place in
    let over : IsOver (graph_at p q.graph) (atom_at p q.place).predicate = subst (λ (k : ℕ). IsOver (graph_at p k) (atom_at p q.place).predicate) (sym of.graph) known.over in
    (let lt = known.graph in let same = of.graph in omega arith, subst (λ (r : Predicate). IsOver (graph_at p q.graph) r) of.predicate over)

nodes_over : (g : Digraph) (m : Measure) (u v : ℕ) (most : ℤ) → IsOver g (asks m u v most) → (u < g.nodes) × (v < g.nodes)
nodes_over g measure.Free u v most over = over
nodes_over g measure.Steps u v most over = (over.0, over.1)
nodes_over g measure.Weight u v most over = (over.0, over.1)

pub graph_known : (p : Instance) (q : WalkQuestion) → IsInstance p → IsQuestion p q → q.graph < length p.graphs
graph_known p q ok of = (question_over p q ok of).0

pub from_known : (p : Instance) (q : WalkQuestion) (g : Digraph) → IsInstance p → IsQuestion p q → g ≡ graph_at p q.graph → q.from < g.nodes
from_known p q g ok of is = subst (λ (d : Digraph). q.from < d.nodes) (sym is) (nodes_over (graph_at p q.graph) q.measure q.from q.to q.most (question_over p q ok of).1).0

pub targets_known : (p : Instance) (qs : List WalkQuestion) (g : Digraph) (ts : List Target) → IsInstance p → All (IsQuestion p) qs → All (AreAlike (question_at qs 0)) qs
    → g ≡ graph_at p (question_at qs 0).graph → ts ≡ map target_of qs → All (IsTarget g) ts
targets_known p qs g ts ok known alike is targets = subst (λ (us : List Target). All (IsTarget g) us) (sym targets) (λ i d lt.
    let low : i < length qs = omega (arith, length-map qs target_of) in
    let q : WalkQuestion = question_at qs i in
    let of : IsQuestion p q = known i no_question low in
    let same : g ≡ graph_at p q.graph = is ∙ ap (λ (k : ℕ). graph_at p k) (sym (alike i no_question low).graph) in
    let nodes = nodes_over (graph_at p q.graph) q.measure q.from q.to q.most (question_over p q ok of).1 in
    subst (λ (t : Target). IsTarget g t) (sym (get_or-map target_of qs i no_question d low))
    (subst (λ (e : Digraph). q.to < e.nodes) (sym same) nodes.1, of.most.0, of.most.1))

-- ---- answers become truths

asked_holds : (g : Digraph) (P : List Bool) (m : Measure) (u v : ℕ) (most : ℤ) (b : Bool) → IsTrue b ↔ HasPath g P u v (limit_by m most) → IsTrue b ↔ Holds g P (asks m u v most)
asked_holds g P measure.Free u v most b h = h
asked_holds g P measure.Steps u v most b h = h
asked_holds g P measure.Weight u v most b h = h

-- an answer is the truth of the predicate at the question's place
answer_is_truth : (p : Instance) (a : ℕ → Bool) (q r : WalkQuestion) (b : Bool) → IsQuestion p q → AreAlike r q
    → IsTrue b ↔ HasPath (graph_at p r.graph) (enabled a (graph_at p r.graph)) r.from q.to (limit_by r.measure q.most) → IsTrue b ↔ HoldsAtom p a (atom_at p q.place)
answer_is_truth p a q r b of alike h =
    let from = subst (λ (u : ℕ). IsTrue b ↔ HasPath (graph_at p r.graph) (enabled a (graph_at p r.graph)) u q.to (limit_by r.measure q.most)) (sym alike.from) h in
    let by = subst (λ (m : Measure). IsTrue b ↔ HasPath (graph_at p r.graph) (enabled a (graph_at p r.graph)) q.from q.to (limit_by m q.most)) (sym alike.measure) from in
    let on = subst (λ (k : ℕ). IsTrue b ↔ HasPath (graph_at p k) (enabled a (graph_at p k)) q.from q.to (limit_by q.measure q.most)) (sym alike.graph) by in
    let asked = asked_holds (graph_at p q.graph) (enabled a (graph_at p q.graph)) q.measure q.from q.to q.most b on in
    let here = subst (λ (k : ℕ). IsTrue b ↔ Holds (graph_at p k) (enabled a (graph_at p k)) (asks q.measure q.from q.to q.most)) of.graph asked in
    subst (λ (x : Predicate). IsTrue b ↔ Holds (graph_at p (atom_at p q.place).graph) (enabled a (graph_at p (atom_at p q.place).graph)) x) (sym of.predicate) here

pub truths_more : (p : Instance) (a : ℕ → Bool) (qs : List WalkQuestion) (g : Digraph) (P : List Bool) (ts : List Target) (answers : List Bool) (old new : List (Option Bool))
    → All (IsQuestion p) qs → All (AreAlike (question_at qs 0)) qs → g ≡ graph_at p (question_at qs 0).graph → P ≡ enabled a (graph_at p (question_at qs 0).graph) → ts ≡ map target_of qs
    → AreAnswers g P (question_at qs 0).measure (question_at qs 0).from ts answers → length new ≡ length old
    → ((k : ℕ) (b : Bool) → truth_at new k ≡ Some b → (truth_at old k ≡ Some b) ⊎ IsAnswered qs answers k b) → AreTruths p a old → AreTruths p a new
truths_more p a qs g P ts answers old new known alike is part targets right len kept t = record {
  len = len ∙ t.len;
  each = λ k b low here. elim (kept k b here) [
    | inl before ↦ t.each k b low before
    | inr w ↦
        let i : ℕ = w.0 in
        let q : WalkQuestion = question_at qs i in
        let r : WalkQuestion = question_at qs 0 in
        let target : target_at ts i ≡ target_of q = ap (λ (us : List Target). target_at us i) targets ∙ get_or-map target_of qs i no_question (record { node = 0; most = pos 0 }) w.1 in
        let one : IsTrue (get_or answers i false) ↔ HasPath g P r.from (target_at ts i).node (limit_by r.measure (target_at ts i).most) = right.each i (omega (arith, ap length targets, length-map qs target_of, w.1)) in
        let two = subst (λ (u : Target). IsTrue (get_or answers i false) ↔ HasPath g P r.from u.node (limit_by r.measure u.most)) target one in
        let three = subst (λ (c : Bool). IsTrue c ↔ HasPath g P r.from q.to (limit_by r.measure q.most)) w.3 two in
        let four = subst (λ (e : Digraph). IsTrue b ↔ HasPath e P r.from q.to (limit_by r.measure q.most)) is three in
        let five = subst (λ (R : List Bool). IsTrue b ↔ HasPath (graph_at p r.graph) R r.from q.to (limit_by r.measure q.most)) part four in
        subst (λ (j : ℕ). IsTrue b ↔ HoldsAtom p a (atom_at p j)) w.2 (answer_is_truth p a q r b (known i no_question w.1) (alike i no_question w.1) five)
  ];
}

pub none_known : (p : Instance) (a : ℕ → Bool) (truths : List (Option Bool)) (n : ℕ) → n ≡ length p.atoms → truths ≡ replicate n None → AreTruths p a truths
none_known p a truths n count is = record {
  len = ap length is ∙ (length-replicate n None ∙ count);
  each = λ k b low here. absurd (none_is_not b (sym (ap (λ (ts : List (Option Bool)). truth_at ts k) is ∙ get_or-replicate n k None None (omega arith)) ∙ here));
}
  where
    none_is_not : (b : Bool) → None ≡ Some b → ⊥
    none_is_not b e = cc

-- ---- what is known of the predicate of a number

pub known_at : (p : Instance) (a : ℕ → Bool) (truths : List (Option Bool)) (k : ℕ) (known : Option Bool) → AreTruths p a truths → k < length p.atoms → known ≡ truth_at truths k
    → IfSome known (λ b. IsTrue b ↔ HoldsAtom p a (atom_numbered p (k + 1)))
known_at p a truths k None t lt is = tt
known_at p a truths k (Some b) t lt is =
    let at : k ≡ k + 1 - 1 = omega arith in
    subst (λ (j : ℕ). IsTrue b ↔ HoldsAtom p a (atom_at p j)) at (t.each k b lt (sym is))
