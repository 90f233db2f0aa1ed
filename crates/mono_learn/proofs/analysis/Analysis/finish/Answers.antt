use Rattle.std.proofs.Common.{◌-◌, ◌∙◌, sym, ap, subst, arith, ℕ, List, length}
use Rattle.std.specs.Prelude.{neg_ℤ, Contains}
use Rattle.mono_steps.specs.Steps.{clauses_after}
use Rattle.mono_trail.specs.TrailView.{count_to}
use Rattle.mono_learn.specs.Levels.{highest_of}
use Rattle.mono_learn.specs.Resolvents.{AllFalse}
use Rattle.mono_learn.specs.Resolving.{HasMinimized}
use Rattle.mono_learn.specs.Minimizing.{AreKept, AreLeft}
use Rattle.mono_learn.proofs.MinimizingSteps.{below_trail, others_are_false, all_gone, finished}
use Rattle.mono_learn.proofs.Points.{taught}
use Rattle.mono_learn.proofs.analysis.Analysis.finish.Goals as goal
use Rattle.mono_learn.proofs.analysis.Analysis.finish.Goals.{In_ok-minimize, In_ok-lits}

minimized_to : (c : In_ok-minimize) → HasMinimized (clauses_after c.args.problem.now c.args.journal.now) c.args.trail.now.lits (count_to (c.args.trail.now.level - 1) c.args.trail.now.marks) c.args.last c.minimize.new.self.resolvent.seen.items c.minimize.new.self.resolvent.kept.items c.minimize.new.self.used.items
minimized_to c = c.in_ok-minimize.ensures.minimized_to (count_to (c.args.trail.now.level - 1) c.args.trail.now.marks) c.args.last c.requires.last

pub minimize-requires-clause-low : goal.minimize-requires-clause-low
minimize-requires-clause-low c = below_trail (clauses_after c.args.problem.now c.args.journal.now) c.args.trail.now.lits (count_to (c.args.trail.now.level - 1) c.args.trail.now.marks) c.args.last c.args.self.resolvent c.args.self.used.items c.requires.last

pub kept_lits-requires-clause-low : goal.kept_lits-requires-clause-low
kept_lits-requires-clause-low c = λ k held.
    let h = minimized_to (goal.at.kept_lits-requires-clause-low c).In_ok-minimize in
    omega (arith, h.kept_only k (subst (λ (ks : List ℕ). Contains ks k) c.as_slice-2.ensures.value held), h.high, h.within)

kept : (c : In_ok-lits) → HasMinimized (clauses_after c.args.problem.now c.args.journal.now) c.args.trail.now.lits (count_to (c.args.trail.now.level - 1) c.args.trail.now.marks) c.args.last c.minimize.new.self.resolvent.seen.items c.minimize.new.self.resolvent.kept.items c.minimize.new.self.used.items
    → AreKept c.args.trail.now.lits (count_to (c.args.trail.now.level - 1) c.args.trail.now.marks) c.minimize.new.self.resolvent.seen.items c.minimize.new.self.resolvent.kept.items (length c.minimize.new.self.resolvent.kept.items) c.in_ok-lits.lits.items
kept c h = rw (c.as_slice.ensures.value, c.as_slice-2.ensures.value) at (c.in_ok-lits.ensures (count_to (c.args.trail.now.level - 1) c.args.trail.now.marks) (λ k held. h.kept_only k (subst (λ (ks : List ℕ). Contains ks k) c.as_slice-2.ensures.value held)))

pub highest-back_to-requires-clause-are_false : goal.highest-back_to-requires-clause-are_false
highest-back_to-requires-clause-are_false c =
    let at = goal.at.highest-back_to-requires-clause-are_false c in
    subst (AllFalse c.args.trail.now.lits (length c.args.trail.now.lits)) (sym c.as_slice-3.ensures.value) (others_are_false (clauses_after c.args.problem.now c.args.journal.now) c.args.trail.now.lits (count_to (c.args.trail.now.level - 1) c.args.trail.now.marks) c.args.last c.minimize.new.self.resolvent.seen.items c.minimize.new.self.resolvent.kept.items c.minimize.new.self.used.items (length c.minimize.new.self.resolvent.kept.items) c.in_ok-lits.lits.items (minimized_to at.In_ok-minimize) (kept at.In_ok-lits (minimized_to at.In_ok-minimize)))

pub unmark-requires-clause-low : goal.unmark-requires-clause-low
unmark-requires-clause-low c = λ k held.
    let h = minimized_to (goal.at.unmark-requires-clause-low c).In_ok-minimize in
    omega (arith, h.kept_only k (subst (λ (ks : List ℕ). Contains ks k) c.as_slice-4.ensures.value held), h.high, h.within, h.marks.slots)

pub give_back-requires : goal.give_back-requires
give_back-requires c =
    let h = minimized_to (goal.at.give_back-requires c).In_ok-minimize in
    let left : AreLeft c.minimize.new.self.resolvent.seen.items c.unmark.new.seen.items c.minimize.new.self.resolvent.kept.items c.args.last (length c.minimize.new.self.resolvent.kept.items) = subst (λ (ks : List ℕ). AreLeft c.minimize.new.self.resolvent.seen.items c.unmark.new.seen.items ks c.args.last (length ks)) c.as_slice-4.ensures.value c.unmark.ensures in
    all_gone (clauses_after c.args.problem.now c.args.journal.now) c.args.trail.now.lits (count_to (c.args.trail.now.level - 1) c.args.trail.now.marks) c.args.last c.minimize.new.self.resolvent.seen.items c.unmark.new.seen.items c.minimize.new.self.resolvent.kept.items c.minimize.new.self.used.items (length c.minimize.new.self.resolvent.kept.items) h left (omega arith)

pub returns-clause-derived : goal.returns-clause-derived
returns-clause-derived c =
    let at = goal.at.returns-clause-derived c in
    finished (clauses_after c.args.problem.now c.args.journal.now) c.args.trail.now c.args.last c.highest-back_to.result c.minimize.new.self.resolvent.seen.items c.minimize.new.self.resolvent.kept.items c.minimize.new.self.used.items c.in_ok-lits.lits.items c.push.new.self.items c.negated.result
    c.requires.sound c.requires.level (minimized_to at.In_ok-minimize) (kept at.In_ok-lits (minimized_to at.In_ok-minimize)) c.in_ok-minimize.ensures.needed (c.highest-back_to.ensures ∙ ap (highest_of c.args.trail.now) c.as_slice-3.ensures.value) (c.negated.ensures ∙ ap neg_ℤ c.literal.ensures) c.in_ok-push.ensures.items

pub returns-clause-taught : goal.returns-clause-taught
returns-clause-taught c = λ conflict w.
    let at = goal.at.returns-clause-taught c in
    let d = finished (clauses_after c.args.problem.now c.args.journal.now) c.args.trail.now c.args.last c.highest-back_to.result c.minimize.new.self.resolvent.seen.items c.minimize.new.self.resolvent.kept.items c.minimize.new.self.used.items c.in_ok-lits.lits.items c.push.new.self.items c.negated.result
    c.requires.sound c.requires.level (minimized_to at.In_ok-minimize) (kept at.In_ok-lits (minimized_to at.In_ok-minimize)) c.in_ok-minimize.ensures.needed (c.highest-back_to.ensures ∙ ap (highest_of c.args.trail.now) c.as_slice-3.ensures.value) (c.negated.ensures ∙ ap neg_ℤ c.literal.ensures) c.in_ok-push.ensures.items in
    taught (clauses_after c.args.problem.now c.args.journal.now) c.args.trail.now c.args.last conflict c.args.self.resolvent c.minimize.new.self.resolvent.seen.items c.minimize.new.self.resolvent.kept.items c.args.self.used.items c.minimize.new.self.used.items c.push.new.self.items
    c.requires.sound c.requires.level c.requires.last (minimized_to at.In_ok-minimize) d.exact c.in_ok-minimize.ensures.exact w
