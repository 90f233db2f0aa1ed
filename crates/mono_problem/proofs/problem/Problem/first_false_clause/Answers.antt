use Rattle.std.proofs.Common.{◌≡◌, ◌∙◌, ap, sym, arith, length, false, ℕ, subst, get_or, [], List, ◌-◌, ◌+◌}
use Rattle.std.specs.Prelude.{ℤ}
use Rattle.mono_base.specs.Literal.{clause_true, value_in}
use Rattle.mono_problem.proofs.FirstFalse.{AreTrueBelow, first_false-found, first_false-none}
use Rattle.mono_problem.proofs.problem.Problem.first_false_clause.Goals as goal

pub returns-then-not-clause_is_true : goal.returns-then-not-clause_is_true
returns-then-not-clause_is_true c =
    let a = value_in c.args.model.now in
    let cs = c.args.self.now.clauses in
    let at : c.loop-place.place + 1 - 1 ≡ c.loop-place.place = omega arith in
    let read : c.clause.result.now ≡ get_or c.args.self.now.clauses c.loop-place.place [] = c.clause.ensures.clause ∙ ap (λ (k : ℕ). get_or c.args.self.now.clauses k []) at in
    let here : clause_true (value_in c.args.model.now) (get_or c.args.self.now.clauses c.loop-place.place []) ≡ false =
    subst (λ (d : List ℤ). clause_true (value_in c.args.model.now) d ≡ false) read (sym c.clause_is_true.ensures ∙ c.if-not-clause_is_true.true) in
    sym (first_false-found a cs c.loop-place.place (omega (arith, c.loop-place-test.true, c.clause_count-place-end.ensures)) c.loop-place.invariant here)

pub returns : goal.returns
returns c =
    let all : AreTrueBelow (value_in c.args.model.now) c.args.self.now.clauses (length c.args.self.now.clauses) = λ k low. c.loop-place.invariant k (omega (arith, c.loop-place-test.false, c.clause_count-place-end.ensures)) in
    sym (first_false-none (value_in c.args.model.now) c.args.self.now.clauses all)
