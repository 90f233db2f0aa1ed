use Rattle.std.proofs.Common.{◌≡◌, ◌++◌, ◌∙◌, refl, sym, subst, Bool, get_or, take, ◌+◌}
use Rattle.mono_base.specs.LitSet.{LiteralSet}
use Rattle.mono_steps.specs.Chains.{resolvent}
use Rattle.mono_steps.specs.ChainSteps.{clauses_named}
use Rattle.mono_steps.specs.Current.{HasCome}
use Rattle.mono_steps.proofs.Ends.{IsEndOf, end_begun, end_goes_on, end_stuck}
use Rattle.mono_steps.proofs.checker.come_to_end.Goals as goal
use Rattle.mono_steps.proofs.checker.come_to_end.Goals.{then-not-has_come, else-not-has_come+else-not-resolve}

pub returns-then-not-resolve-clause-come : goal.returns-then-not-resolve-clause-come
returns-then-not-resolve-clause-come c =
    let all = c.args.problem.now.clauses ++ c.args.earlier.now in
    let i = c.loop-number.number-index in
    let so = subst (λ (b : Bool). IsEndOf (clauses_named all (take i c.args.used.now)) b c.loop-number.set.members) c.if-not-has_come.false c.loop-number.invariant.1 in
    let come = subst (λ (b : Bool). HasCome (resolvent c.loop-number.set.members c.clause_at-next.result.now) b c.resolve.new.set.members) c.if-not-resolve.true c.resolve.ensures.come in
    end_stuck all c.args.used.now i (get_or c.args.used.now i 0) c.clause_at-next.result.now c.loop-number.set.members c.resolve.new.set.members c.loop-number-test.true refl c.clause_at-next.ensures.clause so come

pub loop-number-preserved : goal.loop-number-preserved
loop-number-preserved c =
    let all = c.args.problem.now.clauses ++ c.args.earlier.now in
    let i = c.loop-number.number-index in
    let named = clauses_named all (take i c.args.used.now) in
    let more = clauses_named all (take (i + 1) c.args.used.now) in
    elim c.if-not-has_come.branch [
      | then-not-has_come w ↦
          let so = subst (λ (b : Bool). IsEndOf named b c.loop-number.set.members) w.if-not-has_come.true c.loop-number.invariant.1 in
          let next = end_begun all c.args.used.now i (get_or c.args.used.now i 0) c.clause_at-next.result.now c.loop-number.set.members w.fill.new.set.members c.loop-number-test.true refl c.clause_at-next.ensures.clause so w.fill.ensures.has in
          subst (λ (s : LiteralSet). s.vars ≡ c.args.set.now.vars × IsEndOf more c.if-not-has_come.has_come s.members) (sym w.set-is)
          (w.fill.ensures.vars ∙ c.loop-number.invariant.0, subst (λ (b : Bool). IsEndOf more b w.fill.new.set.members) (sym w.has_come-is) next)
      | else-not-has_come+else-not-resolve w ↦
          let so = subst (λ (b : Bool). IsEndOf named b c.loop-number.set.members) w.if-not-has_come.false c.loop-number.invariant.1 in
          let come = subst (λ (b : Bool). HasCome (resolvent c.loop-number.set.members c.clause_at-next.result.now) b w.resolve.new.set.members) w.if-not-resolve.false w.resolve.ensures.come in
          let next = end_goes_on all c.args.used.now i (get_or c.args.used.now i 0) c.clause_at-next.result.now c.loop-number.set.members w.resolve.new.set.members c.loop-number-test.true refl c.clause_at-next.ensures.clause so come in
          subst (λ (s : LiteralSet). s.vars ≡ c.args.set.now.vars × IsEndOf more c.if-not-has_come.has_come s.members) (sym w.set-is)
          (w.resolve.ensures.vars ∙ c.loop-number.invariant.0, subst (λ (b : Bool). IsEndOf more b w.resolve.new.set.members) (sym (w.has_come-is ∙ w.if-not-has_come.false)) next)
    ]
