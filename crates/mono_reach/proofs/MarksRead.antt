-- What is read of marks before a call and after it.
use Rattle.std.proofs.Common.{◌≡◌, ◌<◌, ◌∙◌, ℕ, Bool, List, length, ap, subst, sym}
use Rattle.std.specs.Prelude.{IsSome, MatchOption}
use Rattle.mono_problem.specs.declared.atom.Atom.{Atom}
use Rattle.mono_problem.specs.Quiet.{over}
use Rattle.mono_theory.specs.AtomPlaces.{place_of_atom}
use Rattle.mono_theory.specs.EitherSides.{IsEitherDecided}
use Rattle.mono_theory.specs.Evidences.{Decides}
use Rattle.mono_theory.specs.PossibleRows.{PossibleView, RowsStand}
use Rattle.mono_theory.specs.RowSides.{AlwaysStand}
use Rattle.mono_theory.specs.Supports.{atom_at, facts_in}
use Rattle.mono_theory.specs.Theories.{atom_of}
use Rattle.mono_theory.specs.declared.either_side.EitherSide.{EitherSide}
use Rattle.mono_theory.proofs.PlacesOfAtoms.{place_held}
use Rattle.mono_reach.specs.Marks.{SureMarks, last_node}
use Rattle.mono_reach.specs.Readings.{AreBothDecided, ReachView, marks_at, possible_mark, sure_mark}
use Rattle.mono_reach.specs.declared.marks.Marks.{Marks}

-- marks that are the same at each place are read the same
pub read_same : (s r : ReachView) (n v : ℕ) (before after : Marks) → r.atoms ≡ s.atoms → IsSome (atom_of s.atoms n)
    → ((p : ℕ) → p < length s.atoms → (atom_at s.atoms p).number ≡ n → before ≡ marks_at s p v)
    → ((p : ℕ) → p < length r.atoms → (atom_at r.atoms p).number ≡ n → after ≡ marks_at r p v)
    → ((p : ℕ) → marks_at r p v ≡ marks_at s p v) → after ≡ before
read_same s r n v before after atoms owned old new same =
    let p = place_of_atom s.atoms n in
    let held = place_held s.atoms n owned in
    let there : p < length r.atoms = subst (λ (xs : List Atom). p < length xs) (sym atoms) held.0 in
    let own : (atom_at r.atoms p).number ≡ n = subst (λ (xs : List Atom). (atom_at xs p).number ≡ n) (sym atoms) held.1 in
    new p there own ∙ (same p ∙ sym (old p held.0 held.1))

abbrev marks_by : List Atom → EitherSide SureMarks → EitherSide PossibleView → ℕ → ℕ → Marks
marks_by atoms surely possibly a v = record { under = sure_mark surely (atom_at atoms a).predicate a v; over = possible_mark possibly (atom_at atoms a).predicate a v }

pub marks_same : (s r : ReachView) (a v : ℕ) → r.atoms ≡ s.atoms → r.surely ≡ s.surely → r.possibly ≡ s.possibly → marks_at r a v ≡ marks_at s a v
marks_same s r a v atoms surely possibly =
    ap (λ (xs : List Atom). marks_by xs r.surely r.possibly a v) atoms
    ∙ (ap (λ (x : EitherSide SureMarks). marks_by s.atoms x r.possibly a v) surely ∙ ap (λ (x : EitherSide PossibleView). marks_by s.atoms s.surely x a v) possibly)

-- what is kept decides by the facts as they were
pub both_decided : (s r : ReachView) → r.graph ≡ s.graph → r.atoms ≡ s.atoms → r.seen ≡ s.seen → IsEitherDecided AlwaysStand (facts_in s) r.surely → IsEitherDecided RowsStand (facts_in s) r.possibly → AreBothDecided r
both_decided s r graph atoms seen surely possibly = record { surely = rw (graph, atoms, seen) surely; possibly = rw (graph, atoms, seen) possibly }

pub over_decides : (s r : ReachView) (n v : ℕ) (b : Bool) → r.graph ≡ s.graph → r.atoms ≡ s.atoms → r.seen ≡ s.seen
    → MatchOption (atom_of r.atoms n) ⊥ (λ x. v ≡ last_node x.predicate → Decides r.graph (over r.graph r.seen) x.predicate b)
    → MatchOption (atom_of s.atoms n) ⊥ (λ x. v ≡ last_node x.predicate → Decides s.graph (over s.graph s.seen) x.predicate b)
over_decides s r n v b graph atoms seen h = rw (graph, atoms, seen) at h
