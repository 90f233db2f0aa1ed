use Rattle.std.proofs.Common.{ℕ, Bool, List, true, false, ◌≡◌, sym, subst, MatchOption}
use Rattle.std.specs.Prelude.{IsTrue, Option}
use Rattle.mono_graph.specs.Walks.{is_walk}
use Rattle.mono_problem.specs.declared.atom.Atom.{Atom}
use Rattle.mono_problem.specs.Quiet.{over, under}
use Rattle.mono_theory.specs.EitherSides.{IsEitherRight}
use Rattle.mono_theory.specs.Evidences.{Decides}
use Rattle.mono_theory.specs.Supports.{facts_in}
use Rattle.mono_reach.specs.Marks.{AreMarksOf, first_node, last_node, shows_last}
use Rattle.mono_theory.specs.PossibleRows.{AreTargetsOf, is_cut_off}
use Rattle.mono_reach.specs.Reaches.{is_reach}
use Rattle.mono_reach.specs.Readings.{marks_at}
use Rattle.mono_reach.proofs.ToldNodes.{marks_known}
use Rattle.mono_reach.proofs.marks.GraphTheoryReachEitherSideReachedRowsEitherSidePossibleRowsHasMarks.marks.Goals as goal

pub is_reached-reached-requires-clause-right : goal.is_reached-reached-requires-clause-right
is_reached-reached-requires-clause-right c =
    let s = c.args.self.now in
    rw (c.frame-frame.ensures, c.surely.ensures.value) (subst (λ (b : Bool). IsEitherRight is_reach b true AreMarksOf shows_last (facts_in s) s.surely) c.surely.ensures.sign c.surely.ensures.right)

pub is_possible-possible-requires-clause-right : goal.is_possible-possible-requires-clause-right
is_possible-possible-requires-clause-right c =
    let s = c.args.self.now in
    rw (c.frame-frame.ensures, c.possibly.ensures.value) (subst (λ (b : Bool). IsEitherRight is_reach b true AreTargetsOf is_cut_off (facts_in s) s.possibly) c.possibly.ensures.sign c.possibly.ensures.right)

pub returns-clause-value : goal.returns-clause-value
returns-clause-value c place lt own =
    let s = c.args.self.now in
    let alone = rw c.frame-frame.ensures at c.place_of-place.ensures.alone in
    let is = rw (c.frame-frame.ensures, c.surely.ensures.value) at c.is_reached-reached.ensures.value in
    let over = rw (c.frame-frame.ensures, c.possibly.ensures.value) at c.is_possible-possible.ensures.value in
    subst (λ (a : ℕ). record { under = c.is_reached-reached.result; over = c.is_possible-possible.result } ≡ marks_at s a c.args.node) (sym (alone place lt own))
    (marks_known s c.place_of-place.result c.args.node c.is_reached-reached.result c.is_possible-possible.result is over)

pub returns-clause-under : goal.returns-clause-under
returns-clause-under c on =
    let s = c.args.self.now in
    let found = rw c.frame-frame.ensures at c.place_of-place.ensures.is in
    let reached = rw c.frame-frame.ensures at c.is_reached-reached.ensures.reached in
    subst (λ (o : Option Atom). MatchOption o ⊥ (λ x. (walk : List ℕ) × IsTrue (is_walk s.graph (under s.graph s.seen) (first_node x.predicate) c.args.node walk))) (sym found) (reached on)

pub returns-clause-decided_under : goal.returns-clause-decided_under
returns-clause-decided_under c decided =
    let s = c.args.self.now in
    let found = rw c.frame-frame.ensures at c.place_of-place.ensures.is in
    let decides = rw (c.frame-frame.ensures, c.surely.ensures.value) at c.is_reached-reached.ensures.decides in
    subst (λ (o : Option Atom). MatchOption o ⊥ (λ x. c.args.node ≡ last_node x.predicate → Decides s.graph (under s.graph s.seen) x.predicate c.is_reached-reached.result)) (sym found) (decides decided.surely)

pub returns-clause-over : goal.returns-clause-over
returns-clause-over c off =
    let s = c.args.self.now in
    let found = rw c.frame-frame.ensures at c.place_of-place.ensures.is in
    let fails = rw c.frame-frame.ensures at c.is_possible-possible.ensures.fails in
    subst (λ (o : Option Atom). MatchOption o ⊥ (λ x. (walk : List ℕ) → is_walk s.graph (over s.graph s.seen) (first_node x.predicate) c.args.node walk ≡ false)) (sym found) (fails off)

pub returns-clause-decided_over : goal.returns-clause-decided_over
returns-clause-decided_over c decided =
    let s = c.args.self.now in
    let found = rw c.frame-frame.ensures at c.place_of-place.ensures.is in
    let decides = rw (c.frame-frame.ensures, c.possibly.ensures.value) at c.is_possible-possible.ensures.decides in
    subst (λ (o : Option Atom). MatchOption o ⊥ (λ x. c.args.node ≡ last_node x.predicate → Decides s.graph (over s.graph s.seen) x.predicate c.is_possible-possible.result)) (sym found) (decides decided.possibly)
