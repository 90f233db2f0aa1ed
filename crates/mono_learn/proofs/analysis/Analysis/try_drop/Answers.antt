use Rattle.std.proofs.Common.{◌≡◌, arith, sym, ◌∙◌, subst, List, Bool, true, false, get_or-set_other}
use Rattle.std.specs.Prelude.{ℤ}
use Rattle.std.proofs.lemmas.List.{get_or_read}
use Rattle.mono_base.specs.Literal.{without, lit_at}
use Rattle.mono_steps.specs.Steps.{clauses_after}
use Rattle.mono_trail.specs.Seen.{is_marked}
use Rattle.mono_learn.specs.Reasons.{WasUnit}
use Rattle.mono_learn.specs.Minimizing.{IsCovered, IsUncovered}
use Rattle.mono_learn.proofs.PlacesOfLits.{unit_number}
use Rattle.mono_learn.proofs.ResolvingSteps.{reason_false}
use Rattle.mono_learn.proofs.MinimizingSteps.{minimizes, kept_for_other, kept_for_uncovered}
use Rattle.mono_learn.proofs.Dropping.{stays_for_other, stays_unmarked, stays_uncovered, goes_covered}
use Rattle.mono_learn.proofs.analysis.Analysis.try_drop.Goals as goal
use Rattle.mono_learn.proofs.analysis.Analysis.try_drop.Goals.{In-Clause}

why : (c : In-Clause) → WasUnit (clauses_after c.args.problem.now c.args.journal.now) c.args.trail.now.lits c.args.place c.in-Clause.number
why c = c.requires.reasons.at c.args.place c.in-Clause.number c.requires.place (sym c.reason.ensures ∙ c.in-Clause.is)

pub clause-requires-clause-low : goal.clause-requires-clause-low
clause-requires-clause-low c = (unit_number (clauses_after c.args.problem.now c.args.journal.now) c.args.trail.now.lits c.args.place c.in-Clause.number (why (goal.at.clause-requires-clause-low c).In-Clause)).low

pub clause-requires-clause-high : goal.clause-requires-clause-high
clause-requires-clause-high c = (unit_number (clauses_after c.args.problem.now c.args.journal.now) c.args.trail.now.lits c.args.place c.in-Clause.number (why (goal.at.clause-requires-clause-high c).In-Clause)).high

pub is_covered-requires-clause-are_false : goal.is_covered-requires-clause-are_false
is_covered-requires-clause-are_false c = reason_false (clauses_after c.args.problem.now c.args.journal.now) c.args.trail.now.lits c.args.place c.in-Clause.number c.clause.result.now c.literal-lit.result (why (goal.at.is_covered-requires-clause-are_false c).In-Clause) c.clause.ensures c.literal-lit.ensures

pub returns-clause-minimized_to : goal.returns-clause-minimized_to
returns-clause-minimized_to c = λ start last low h.
    let on : is_marked c.args.self.now.resolvent.seen.items c.args.place ≡ true = sym (get_or_read c.args.self.now.resolvent.seen.items c.args.place c.index.result.now (omega (arith, c.requires.place, c.requires.slots)) c.index.ensures false) ∙ c.if-not-index.false in
    let covered : IsCovered c.args.trail.now.lits c.args.self.now.resolvent.seen.items (without c.clause.result.now (lit_at c.args.trail.now.lits c.args.place)) = subst (λ (x : ℤ). IsCovered c.args.trail.now.lits c.args.self.now.resolvent.seen.items (without c.clause.result.now x)) c.literal-lit.ensures (subst (λ (bs : List Bool). IsCovered c.args.trail.now.lits bs (without c.clause.result.now c.literal-lit.result)) c.as_slice.ensures.value (c.is_covered.ensures.covered c.if-not-is_covered.false)) in
    minimizes (clauses_after c.args.problem.now c.args.journal.now) c.args.trail.now start last c.args.place c.in-Clause.number c.args.self.now.resolvent.seen.items c.args.self.now.resolvent.kept.items c.args.self.now.used.items c.push.new.self.items c.clause.result.now c.requires.sound h low on
    (why (goal.at.returns-clause-minimized_to c).In-Clause) c.clause.ensures covered c.in_ok-push.ensures.items

pub returns-in_default-clause-needed : goal.returns-in_default-clause-needed
returns-in_default-clause-needed c = kept_for_other (clauses_after c.args.problem.now c.args.journal.now) c.args.trail.now c.args.self.now.resolvent.seen.items c.args.place (λ n e. c.in_default.not-Clause n (c.reason.ensures ∙ e))

pub returns-then-not-is_covered-clause-needed : goal.returns-then-not-is_covered-clause-needed
returns-then-not-is_covered-clause-needed c =
    let u : IsUncovered c.args.trail.now.lits c.args.self.now.resolvent.seen.items (without c.clause.result.now (lit_at c.args.trail.now.lits c.args.place)) = subst (λ (x : ℤ). IsUncovered c.args.trail.now.lits c.args.self.now.resolvent.seen.items (without c.clause.result.now x)) c.literal-lit.ensures (subst (λ (bs : List Bool). IsUncovered c.args.trail.now.lits bs (without c.clause.result.now c.literal-lit.result)) c.as_slice.ensures.value (c.is_covered.ensures.uncovered c.if-not-is_covered.true)) in
    kept_for_uncovered (clauses_after c.args.problem.now c.args.journal.now) c.args.trail.now c.args.self.now.resolvent.seen.items c.args.place c.in-Clause.number c.clause.result.now (sym c.reason.ensures ∙ c.in-Clause.is) c.clause.ensures u

pub returns-clause-others : goal.returns-clause-others
returns-clause-others c = λ k n. get_or-set_other c.args.self.now.resolvent.seen.items c.args.place k false false n

pub returns-in_default-clause-exact : goal.returns-in_default-clause-exact
returns-in_default-clause-exact c = stays_for_other (clauses_after c.args.problem.now c.args.journal.now) c.args.trail.now c.args.self.now.resolvent.seen.items c.args.place (λ n e. c.in_default.not-Clause n (c.reason.ensures ∙ e))

pub returns-then-not-index-clause-exact : goal.returns-then-not-index-clause-exact
returns-then-not-index-clause-exact c = stays_unmarked (clauses_after c.args.problem.now c.args.journal.now) c.args.trail.now c.args.self.now.resolvent.seen.items c.args.place (sym (get_or_read c.args.self.now.resolvent.seen.items c.args.place c.index.result.now (omega (arith, c.requires.place, c.requires.slots)) c.index.ensures false) ∙ c.if-not-index.true)

pub returns-then-not-is_covered-clause-exact : goal.returns-then-not-is_covered-clause-exact
returns-then-not-is_covered-clause-exact c =
    let u : IsUncovered c.args.trail.now.lits c.args.self.now.resolvent.seen.items (without c.clause.result.now (lit_at c.args.trail.now.lits c.args.place)) = subst (λ (x : ℤ). IsUncovered c.args.trail.now.lits c.args.self.now.resolvent.seen.items (without c.clause.result.now x)) c.literal-lit.ensures (subst (λ (bs : List Bool). IsUncovered c.args.trail.now.lits bs (without c.clause.result.now c.literal-lit.result)) c.as_slice.ensures.value (c.is_covered.ensures.uncovered c.if-not-is_covered.true)) in
    stays_uncovered (clauses_after c.args.problem.now c.args.journal.now) c.args.trail.now c.args.self.now.resolvent.seen.items c.args.place c.in-Clause.number c.clause.result.now c.requires.sound (sym c.reason.ensures ∙ c.in-Clause.is) c.clause.ensures u

pub returns-clause-exact : goal.returns-clause-exact
returns-clause-exact c =
    let covered : IsCovered c.args.trail.now.lits c.args.self.now.resolvent.seen.items (without c.clause.result.now (lit_at c.args.trail.now.lits c.args.place)) = subst (λ (x : ℤ). IsCovered c.args.trail.now.lits c.args.self.now.resolvent.seen.items (without c.clause.result.now x)) c.literal-lit.ensures (subst (λ (bs : List Bool). IsCovered c.args.trail.now.lits bs (without c.clause.result.now c.literal-lit.result)) c.as_slice.ensures.value (c.is_covered.ensures.covered c.if-not-is_covered.false)) in
    goes_covered (clauses_after c.args.problem.now c.args.journal.now) c.args.trail.now c.args.self.now.resolvent.seen.items c.args.place c.in-Clause.number c.clause.result.now (sym c.reason.ensures ∙ c.in-Clause.is) c.clause.ensures covered
