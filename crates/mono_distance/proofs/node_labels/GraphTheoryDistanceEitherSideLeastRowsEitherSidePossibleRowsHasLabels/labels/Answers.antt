use Rattle.std.proofs.Common.{◌≡◌, ℕ, ◌<◌, Bool, length, ap, sym, subst, ◌∙◌, true}
use Rattle.std.specs.Option.{is_some}
use Rattle.std.specs.Prelude.{IfSome, IsTrue, MatchOption, Option, Some}
use Rattle.mono_graph.specs.Walks.{admits}
use Rattle.mono_problem.specs.declared.atom.Atom.{Atom}
use Rattle.mono_problem.specs.declared.atom.Predicate.{Predicate}
use Rattle.mono_problem.specs.Quiet.{under, over}
use Rattle.mono_problem.specs.Read.{no_atom}
use Rattle.mono_problem.specs.WellFormed.{IsOver}
use Rattle.mono_theory.specs.EitherSides.{IsEitherRight}
use Rattle.mono_theory.specs.Evidences.{Decides}
use Rattle.mono_theory.specs.PossibleRows.{AreTargetsOf, is_cut_off}
use Rattle.mono_theory.specs.Supports.{atom_at, facts_in}
use Rattle.mono_theory.specs.Theories.{atom_of}
use Rattle.mono_theory.proofs.PlacesOfAtoms.{place_is}
use Rattle.mono_distance.specs.Distances.{is_distance}
use Rattle.mono_distance.specs.Readings.{IsBelowEachWalk, IsReached, over_known, under_in}
use Rattle.mono_distance.specs.SureLabels.{AreSureLabels, shows_last, last_node, limit_of}
use Rattle.mono_distance.proofs.DistanceEvidence.{has_bound}
use Rattle.mono_distance.proofs.ReadLabels.{reading_is, under_decides}
use Rattle.mono_distance.proofs.node_labels.GraphTheoryDistanceEitherSideLeastRowsEitherSidePossibleRowsHasLabels.labels.Goals as goal

pub returns-clause-value : goal.returns-clause-value
returns-clause-value c =
    let s = c.args.self.now in
    let a : ℕ = c.place_of-place.result in
    let q : Predicate = (atom_at s.atoms a).predicate in
    let alone : (k : ℕ) → k < length s.atoms → (atom_at s.atoms k).number ≡ c.args.atom → k ≡ a = rw c.frame-frame.ensures at c.place_of-place.ensures.alone in
    let read : c.under_by.result ≡ under_in s.surely a q c.args.node = rw (c.frame-frame.ensures, c.surely-surely.ensures.value) at c.under_by.ensures.value in
    let high : c.over_known.result ≡ over_known s.possibly a q c.args.node = rw (c.frame-frame.ensures, c.possibly-possibly.ensures.value) at c.over_known.ensures.value in
    reading_is s c.args.atom c.args.node a c.over_known.result c.under_by.result (place_is s.atoms c.args.atom a c.requires.owned alone) read high

pub returns-clause-under : goal.returns-clause-under
returns-clause-under c =
    let s = c.args.self.now in
    let a : ℕ = c.place_of-place.result in
    let found : atom_of s.atoms c.args.atom ≡ Some (atom_at s.atoms a) = rw c.frame-frame.ensures at c.place_of-place.ensures.is in
    let reached : IfSome c.under_by.result (IsReached s.graph (under s.graph s.seen) (atom_at s.atoms a).predicate c.args.node) = rw c.frame-frame.ensures at c.under_by.ensures.reached in
    subst (λ (o : Option Atom). IfSome c.under_by.result (λ d. MatchOption o ⊥ (λ y. IsReached s.graph (under s.graph s.seen) y.predicate c.args.node d))) (sym found) reached

pub returns-clause-over : goal.returns-clause-over
returns-clause-over c =
    let s = c.args.self.now in
    let a : ℕ = c.place_of-place.result in
    let found : atom_of s.atoms c.args.atom ≡ Some (atom_at s.atoms a) = rw c.frame-frame.ensures at c.place_of-place.ensures.is in
    let below : IsBelowEachWalk s.graph (over s.graph s.seen) (atom_at s.atoms a).predicate c.args.node c.over_known.result = rw c.frame-frame.ensures at c.over_known.ensures.below in
    subst (λ (o : Option Atom). MatchOption o ⊥ (λ y. IsBelowEachWalk s.graph (over s.graph s.seen) y.predicate c.args.node c.over_known.result)) (sym found) below

pub returns-clause-decided_under : goal.returns-clause-decided_under
returns-clause-decided_under c decided =
    let s = c.args.self.now in
    let a : ℕ = c.place_of-place.result in
    let found : atom_of s.atoms c.args.atom ≡ Some (atom_at s.atoms a) = rw c.frame-frame.ensures at c.place_of-place.ensures.is in
    let held : a < length s.atoms = rw c.frame-frame.ensures at c.place_of-place.ensures.held in
    let graph = rw c.frame-frame.ensures at c.known.ensures.graph in
    let atoms = rw c.frame-frame.ensures at c.known.ensures.atoms in
    let low = subst (λ (b : Bool). IsEitherRight is_distance b true AreSureLabels shows_last (facts_in s) s.surely) c.surely-surely.ensures.sign c.surely-surely.ensures.right in
    let read : c.under_by.result ≡ under_in s.surely a (atom_at s.atoms a).predicate c.args.node = rw (c.frame-frame.ensures, c.surely-surely.ensures.value) at c.under_by.ensures.value in
    subst (λ (o : Option Atom). MatchOption o ⊥ (λ y. c.args.node ≡ last_node y.predicate → Decides s.graph (under s.graph s.seen) y.predicate (is_some c.under_by.result))) (sym found)
    (under_decides (facts_in s) s.surely a c.args.node c.under_by.result graph (atoms.over a no_atom held).1 (c.surely-surely.ensures.covered.each a no_atom held) held decided.surely low read)

pub returns-clause-decided_over : goal.returns-clause-decided_over
returns-clause-decided_over c decided =
    let s = c.args.self.now in
    let a : ℕ = c.place_of-place.result in
    let found : atom_of s.atoms c.args.atom ≡ Some (atom_at s.atoms a) = rw c.frame-frame.ensures at c.place_of-place.ensures.is in
    let decides = rw (c.frame-frame.ensures, c.possibly-possibly.ensures.value) at c.over_known.ensures.decides in
    subst (λ (o : Option Atom). MatchOption o ⊥ (λ y. c.args.node ≡ last_node y.predicate → Decides s.graph (over s.graph s.seen) y.predicate (admits (limit_of y.predicate) c.over_known.result))) (sym found) (decides decided.possibly)

pub what_is_asked-asked-requires : goal.what_is_asked-asked-requires
what_is_asked-asked-requires c =
    let s = c.args.self.now in
    let a : ℕ = c.place_of-place.result in
    let held : a < length s.atoms = rw c.frame-frame.ensures at c.place_of-place.ensures.held in
    let own : c.atom_at-held.result ≡ atom_at s.atoms a = rw c.frame-frame.ensures at c.atom_at-held.ensures.atom in
    subst (λ (y : Atom). IsTrue (is_distance y.predicate)) (sym own) (c.surely-surely.ensures.covered.each a no_atom held)

pub under_by-requires-clause-right : goal.under_by-requires-clause-right
under_by-requires-clause-right c =
    let s = c.args.self.now in
    rw (c.frame-frame.ensures, c.surely-surely.ensures.value) (subst (λ (b : Bool). IsEitherRight is_distance b true AreSureLabels shows_last (facts_in s) s.surely) c.surely-surely.ensures.sign c.surely-surely.ensures.right)

pub under_by-requires-clause-kind : goal.under_by-requires-clause-kind
under_by-requires-clause-kind c =
    let s = c.args.self.now in
    let held : c.place_of-place.result < length s.atoms = rw c.frame-frame.ensures at c.place_of-place.ensures.held in
    rw c.frame-frame.ensures (c.surely-surely.ensures.covered.each c.place_of-place.result no_atom held)

pub under_by-requires-clause-asked : goal.under_by-requires-clause-asked
under_by-requires-clause-asked c = sym (ap (λ (y : Atom). y.predicate) c.atom_at-held.ensures.atom) ∙ c.what_is_asked-asked.ensures

pub under_by-requires-clause-limit : goal.under_by-requires-clause-limit
under_by-requires-clause-limit c =
    let s = c.args.self.now in
    let x = c.what_is_asked-asked.result in
    let a : ℕ = c.place_of-place.result in
    let held : a < length s.atoms = rw c.frame-frame.ensures at c.place_of-place.ensures.held in
    let own : c.atom_at-held.result ≡ atom_at s.atoms a = rw c.frame-frame.ensures at c.atom_at-held.ensures.atom in
    let inside : IsOver s.graph c.atom_at-held.result.predicate = rw c.frame-frame.ensures at c.atom_at-held.ensures.over in
    let kind : IsTrue (is_distance c.atom_at-held.result.predicate) = subst (λ (y : Atom). IsTrue (is_distance y.predicate)) (sym own) (c.surely-surely.ensures.covered.each a no_atom held) in
    has_bound s.graph x.from x.to x.limit (subst (λ (r : Predicate). IsTrue (is_distance r)) c.what_is_asked-asked.ensures kind) (subst (λ (r : Predicate). IsOver s.graph r) c.what_is_asked-asked.ensures inside)

pub over_known-requires-clause-right : goal.over_known-requires-clause-right
over_known-requires-clause-right c =
    let s = c.args.self.now in
    rw (c.frame-frame.ensures, c.possibly-possibly.ensures.value) (subst (λ (b : Bool). IsEitherRight is_distance b true AreTargetsOf is_cut_off (facts_in s) s.possibly) c.possibly-possibly.ensures.sign c.possibly-possibly.ensures.right)
