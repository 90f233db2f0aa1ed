use Rattle.std.proofs.Common.{List, sym, ap, subst, ◌∙◌}
use Rattle.std.specs.Prelude.{ℤ}
use Rattle.mono_base.specs.Partial.{value_by}
use Rattle.mono_clauses.proofs.DueClauses.{second_idle, attach_tried, tried_watched, tried_implied, tried_false, implied_yes, Tried-then}
use Rattle.mono_clauses.specs.ClauseValues.{IsAnotherUnfalse, IsUnfalse, FalseBut, AllFalse}
use Rattle.mono_clauses.proofs.Literals.{IsUnit}
use Rattle.mono_clauses.specs.Store.{clause_at}
use Rattle.mono_trail.specs.TrailView.{TrailView}
use Rattle.mono_clauses.proofs.due.try_due.Goals as goal

pub returns-in-Some-clause-none : goal.returns-in-Some-clause-none
returns-in-Some-clause-none c = tried_watched c.args.clauses.now.list c.args.watches.now c.args.trail.now c.args.place c.in-Some.field-0 c.requires.following (sym c.in-Some.ensures)

pub returns-in_default-first_unfalse-clause-some : goal.returns-in_default-first_unfalse-clause-some
returns-in_default-first_unfalse-clause-some c =
    let f : AllFalse c.args.trail.now.lits c.literals-clause.result.now = c.in_default-first_unfalse.ensures.none in
    tried_false c.args.clauses.now.list c.args.watches.now c.args.trail.now c.args.place c.number.result c.requires.following c.requires.in_range c.number.ensures (subst (λ (d : List ℤ). AllFalse c.args.trail.now.lits d) c.literals-clause.ensures.value f)

pub attach_both-requires-clause-both : goal.attach_both-requires-clause-both
attach_both-requires-clause-both c = second_idle c.args.clauses.now.list c.args.watches.now.watched c.args.place c.requires.following.paired (sym c.in_default.ensures)

pub returns-in-Some-another_unfalse-clause-none : goal.returns-in-Some-another_unfalse-clause-none
returns-in-Some-another_unfalse-clause-none c =
    let one : IsUnfalse c.args.trail.now.lits c.literals-clause.result.now c.in-Some-first_unfalse.first = c.in-Some-first_unfalse.ensures.some in
    let two : IsAnotherUnfalse c.args.trail.now.lits c.literals-clause.result.now c.in-Some-first_unfalse.first c.in-Some-another_unfalse.second = c.in-Some-another_unfalse.ensures.some in
    let one_here : IsUnfalse c.args.trail.now.lits (clause_at c.args.clauses.now.list c.args.place).lits c.in-Some-first_unfalse.first = subst (λ (d : List ℤ). IsUnfalse c.args.trail.now.lits d c.in-Some-first_unfalse.first) c.literals-clause.ensures.value one in
    let two_here : IsAnotherUnfalse c.args.trail.now.lits (clause_at c.args.clauses.now.list c.args.place).lits c.in-Some-first_unfalse.first c.in-Some-another_unfalse.second = subst (λ (d : List ℤ). IsAnotherUnfalse c.args.trail.now.lits d c.in-Some-first_unfalse.first c.in-Some-another_unfalse.second) c.literals-clause.ensures.value two in
    attach_tried c.args.clauses.now.list c.args.watches.now c.attach_both.new.self c.args.trail.now c.args.place c.in-Some-first_unfalse.first c.in-Some-another_unfalse.second c.known.ensures.sound c.requires.following c.requires.in_range one_here two_here c.attach_both.ensures

pub watch_late-requires : goal.watch_late-requires
watch_late-requires c =
    let one : IsUnfalse c.args.trail.now.lits c.literals-clause.result.now c.in-Some-first_unfalse.first = c.in-Some-first_unfalse.ensures.some in
    let one_here : IsUnfalse c.args.trail.now.lits (clause_at c.args.clauses.now.list c.args.place).lits c.in-Some-first_unfalse.first = subst (λ (d : List ℤ). IsUnfalse c.args.trail.now.lits d c.in-Some-first_unfalse.first) c.literals-clause.ensures.value one in
    record { following = c.requires.following; vars = c.requires.vars; in_range = c.requires.in_range; idle = sym c.in_default.ensures; has = one_here.has; holds = sym c.in-Yes.ensures }

pub watch_late-requires-in-Unset : goal.watch_late-requires-in-Unset
watch_late-requires-in-Unset c =
    let one : IsUnfalse c.args.trail.now.lits c.literals-clause.result.now c.in-Some-first_unfalse.first = c.in-Some-first_unfalse.ensures.some in
    let one_here : IsUnfalse c.args.trail.now.lits (clause_at c.args.clauses.now.list c.args.place).lits c.in-Some-first_unfalse.first = subst (λ (d : List ℤ). IsUnfalse c.args.trail.now.lits d c.in-Some-first_unfalse.first) c.literals-clause.ensures.value one in
    let f : FalseBut c.args.trail.now.lits c.literals-clause.result.now c.in-Some-first_unfalse.first = c.in_default-another_unfalse.ensures.none in
    let u : IsUnit c.args.trail.now.lits c.literals-clause.result.now c.in-Some-first_unfalse.first = record { has = one.has; is_open = sym c.in-Unset.ensures; others = f } in
    let k = tried_implied c.args.clauses.now.list c.args.watches.now c.args.trail.now c.imply.new.self c.args.place c.number-in-Unset.result c.in-Some-first_unfalse.first c.known.ensures.sound c.requires.following c.requires.in_range c.number-in-Unset.ensures
    (subst (λ (d : List ℤ). IsUnit c.args.trail.now.lits d c.in-Some-first_unfalse.first) c.literals-clause.ensures.value u) c.imply.ensures in
    record {
      following = k.following;
      vars = c.requires.vars;
      in_range = c.requires.in_range;
      idle = sym c.in_default.ensures;
      has = one_here.has;
      holds = ap (λ (q : TrailView). value_by q.lits c.in-Some-first_unfalse.first) c.imply.ensures ∙ implied_yes c.args.trail.now.lits c.in-Some-first_unfalse.first;
    }

pub returns-in-Unset-clause-none : goal.returns-in-Unset-clause-none
returns-in-Unset-clause-none c =
    let one : IsUnfalse c.args.trail.now.lits c.literals-clause.result.now c.in-Some-first_unfalse.first = c.in-Some-first_unfalse.ensures.some in
    let f : FalseBut c.args.trail.now.lits c.literals-clause.result.now c.in-Some-first_unfalse.first = c.in_default-another_unfalse.ensures.none in
    let u : IsUnit c.args.trail.now.lits c.literals-clause.result.now c.in-Some-first_unfalse.first = record { has = one.has; is_open = sym c.in-Unset.ensures; others = f } in
    let k = tried_implied c.args.clauses.now.list c.args.watches.now c.args.trail.now c.imply.new.self c.args.place c.number-in-Unset.result c.in-Some-first_unfalse.first c.known.ensures.sound c.requires.following c.requires.in_range c.number-in-Unset.ensures
    (subst (λ (d : List ℤ). IsUnit c.args.trail.now.lits d c.in-Some-first_unfalse.first) c.literals-clause.ensures.value u) c.imply.ensures in
    Tried-then c.args.clauses.now.list c.args.watches.now c.args.watches.now c.watch_late-in-Unset.new.watches c.args.trail.now c.imply.new.self c.imply.new.self c.args.place k c.watch_late-in-Unset.ensures
