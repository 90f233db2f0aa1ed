-- Predicates judged one after the other.
use Rattle.std.proofs.Common.{◌≡◌, ℕ, ◌+◌, ◌-◌, ◌<◌, ◌≤◌, Bool, true, false, not, List, take, length, get_or, All, refl, ap, subst, ◌∙◌, ◌↔◌, inl, inr, arith}
use Rattle.std.specs.Prelude.{IsTrue}
use Rattle.std.proofs.lemmas.Bool.{cases_lt, both_ways}
use Rattle.std.proofs.lemmas.List.{get_or-take, length-take, take_all}
use Rattle.std.proofs.lemmas.List.Elements.{All-more}
use Rattle.mono_graph.specs.Digraph.{Digraph, edge_at, enabled, no_edge}
use Rattle.mono_problem.specs.declared.atom.Atom.{Atom}
use Rattle.mono_problem.specs.Instance.{Instance, graph_at, no_graph}
use Rattle.mono_problem.specs.Read.{atom_numbered, no_atom}
use Rattle.mono_problem.specs.WellFormed.{IsInstance, IsAtomAt}
use Rattle.mono_problem.specs.Holds.{Holds, HoldsAtom, Agrees}
use Rattle.mono_check.specs.declared.enabled.EnabledPart.{EnabledPart}
use Rattle.mono_check.specs.Enabled.{IsEnabled}
use Rattle.mono_check.specs.Atoms.{IsRight, IsWrong, IsFirstWrong, IsJudged}

-- ---- edges

-- an edge's variable is one of the problem's
pub var_known : (p : Instance) (ok : IsInstance p) (place k : ℕ) → place < length p.graphs → k < length (graph_at p place).edges → (edge_at (graph_at p place) k).var ≤ p.vars
var_known p ok place k held low = let d = ok.graphs place no_graph held in (d.within k no_edge low).0

-- ---- one predicate

pub is_true_judged : (p : Instance) (a : ℕ → Bool) (x : Atom) (h : Bool) → a x.var ≡ true → (IsTrue h ↔ HoldsAtom p a x) → IsJudged p a x h
is_true_judged p a x true e h = (λ t. h.0 refl, λ holds. e)
is_true_judged p a x false e h = inl (e, λ holds. (let t = h.1 holds in cc))

pub is_false_judged : (p : Instance) (a : ℕ → Bool) (x : Atom) (h : Bool) → a x.var ≡ false → (IsTrue h ↔ HoldsAtom p a x) → IsJudged p a x (not h)
is_false_judged p a x true e h = inr (e, h.0 refl)
is_false_judged p a x false e h = (λ t. absurd (both_ways (a x.var) e t), λ holds. absurd (let t = h.1 holds in cc))

pub atom_known : (p : Instance) (ok : IsInstance p) (n : ℕ) → 0 < n → n ≤ length p.atoms → IsAtomAt p (n - 1) (atom_numbered p n)
atom_known p ok n low high = ok.atoms (n - 1) no_atom (omega arith)

-- ---- all of them

at_number : (p : Instance) (k : ℕ) → atom_numbered p (k + 1) ≡ get_or p.atoms k no_atom
at_number p k = let e : k + 1 - 1 ≡ k = omega arith in ap (λ (j : ℕ). get_or p.atoms j no_atom) e

pub one_right : (p : Instance) (a : ℕ → Bool) (k : ℕ) (b : Bool) → k < length p.atoms → All (IsRight p a) (take k p.atoms) → IsJudged p a (atom_numbered p (k + 1)) b → b ≡ true → All (IsRight p a) (take (k + 1) p.atoms)
one_right p a k b low before judged e =
    let right : IsRight p a (atom_numbered p (k + 1)) = subst (λ (c : Bool). IsJudged p a (atom_numbered p (k + 1)) c) e judged in
    All-more (IsRight p a) p.atoms k no_atom low before (subst (λ (x : Atom). IsRight p a x) (at_number p k) right)

pub one_wrong : (p : Instance) (a : ℕ → Bool) (k : ℕ) (b : Bool) → k < length p.atoms → All (IsRight p a) (take k p.atoms) → IsJudged p a (atom_numbered p (k + 1)) b → b ≡ false → IsFirstWrong p a (k + 1)
one_wrong p a k b low before judged e =
    let same : k ≡ k + 1 - 1 = omega arith in
    record {
      low = omega arith;
      high = omega arith;
      before = subst (λ (j : ℕ). All (IsRight p a) (take j p.atoms)) same before;
      wrong = subst (λ (c : Bool). IsJudged p a (atom_numbered p (k + 1)) c) e judged;
    }

pub all_right : (p : Instance) (a : ℕ → Bool) (k : ℕ) → length p.atoms ≤ k → All (IsRight p a) (take k p.atoms) → Agrees p a
all_right p a k all h = subst (λ (xs : List Atom). All (IsRight p a) xs) (take_all k p.atoms all) h

pub none_there : (p : Instance) (a : ℕ → Bool) → length p.atoms ≡ 0 → Agrees p a
none_there p a none = λ k d low. absurd (omega (arith, none, low))

-- ---- no two are first

right_and_wrong : (p : Instance) (a : ℕ → Bool) (x : Atom) → IsRight p a x → IsWrong p a x → ⊥
right_and_wrong p a x right (inl (t, fails)) = fails (right.0 t)
right_and_wrong p a x right (inr (f, holds)) = both_ways (a x.var) f (right.1 holds)

pub wrong_disagrees : (p : Instance) (a : ℕ → Bool) (n : ℕ) → IsFirstWrong p a n → Agrees p a → ⊥
wrong_disagrees p a n w agrees = right_and_wrong p a (atom_numbered p n) (agrees (n - 1) no_atom (omega (arith, w.low, w.high))) w.wrong

not_earlier : (p : Instance) (a : ℕ → Bool) (n m : ℕ) → IsFirstWrong p a n → IsFirstWrong p a m → n < m → ⊥
not_earlier p a n m v w lt =
    let inside : n - 1 < length (take (m - 1) p.atoms) = omega (arith, length-take (m - 1) p.atoms, v.low, w.high, lt) in
    let right = w.before (n - 1) no_atom inside in
    right_and_wrong p a (atom_numbered p n) (subst (λ (x : Atom). IsRight p a x) (get_or-take (m - 1) p.atoms (n - 1) no_atom (omega (arith, v.low, lt))) right) v.wrong

pub same_wrong : (p : Instance) (a : ℕ → Bool) (n m : ℕ) → IsFirstWrong p a n → IsFirstWrong p a m → n ≡ m
same_wrong p a n m v w = elim (cases_lt n m) [
  | inl lt ↦ absurd (not_earlier p a n m v w lt)
  | inr ge ↦ elim (cases_lt m n) [ inl gt ↦ absurd (not_earlier p a m n w v gt) | inr le ↦ omega arith ]
]

-- ---- the graph of a predicate

pub holds_atom : (p : Instance) (a : ℕ → Bool) (e : EnabledPart) (g : Digraph) (x y : Atom) (h : Bool) → IsEnabled p a e → e.graph ≡ x.graph → g ≡ graph_at p x.graph → x ≡ y → (IsTrue h ↔ Holds g e.part x.predicate) → (IsTrue h ↔ HoldsAtom p a y)
holds_atom p a e g x y h enabled_in turned is same holds =
    let part : e.part ≡ enabled a (graph_at p x.graph) = enabled_in.part ∙ ap (λ (k : ℕ). enabled a (graph_at p k)) turned in
    let on_graph = subst (λ (d : Digraph). IsTrue h ↔ Holds d e.part x.predicate) is holds in
    let in_part = subst (λ (P : List Bool). IsTrue h ↔ Holds (graph_at p x.graph) P x.predicate) part on_graph in
    subst (λ (z : Atom). IsTrue h ↔ HoldsAtom p a z) same in_part
