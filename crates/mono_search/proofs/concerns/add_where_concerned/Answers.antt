use Rattle.std.proofs.Common.{◌∙◌, ◌+◌, ℕ, List, sym, subst, arith}
use Rattle.mono_theory.specs.Owners.{fact_of}
use Rattle.mono_theory.specs.Theories.{Facts}
use Rattle.mono_search.proofs.AskedConcerns.{IsAskedTo, asked_none, asked_yes, asked_no, asked_all}
use Rattle.mono_search.proofs.concerns.add_where_concerned.Goals as goal
use Rattle.mono_search.proofs.concerns.add_where_concerned.Goals.{then-concerns+in_ok-push, else-concerns}

pub loop-before-init : goal.loop-before-init
loop-before-init g c = record { added = asked_none (fact_of g.T.Theory.graph g.T.Theory.atoms g.T.Theory.seen c.args.theory.now) c.args.place c.args.table.now }

pub loop-before-preserved : goal.loop-before-preserved
loop-before-preserved g c =
    let f : Facts = fact_of g.T.Theory.graph g.T.Theory.atoms g.T.Theory.seen c.args.theory.now in
    let k : ℕ = c.loop-before.before in
    let so_far : IsAskedTo k f c.args.place c.args.table.now c.loop-before.table = c.loop-before.invariant.added in
    elim c.if-concerns.branch [
      | then-concerns+in_ok-push w ↦ record {
        added = subst (λ (t : List (List ℕ)). IsAskedTo (k + 1) f c.args.place c.args.table.now t) (sym (w.table-is ∙ w.in_ok-push.ensures.ok))
            (asked_yes k f c.args.place c.args.table.now c.loop-before.table (let keys = so_far.keys in let all = c.requires.keys in omega (arith, keys, all, c.loop-before-test.true)) (sym c.concerns.ensures ∙ w.if-concerns.true) so_far);
      }
      | else-concerns w ↦ record {
        added = subst (λ (t : List (List ℕ)). IsAskedTo (k + 1) f c.args.place c.args.table.now t) (sym w.table-is)
            (asked_no k f c.args.place c.args.table.now c.loop-before.table (sym c.concerns.ensures ∙ w.if-concerns.false) so_far);
      }
    ]

pub returns : goal.returns
returns g c = asked_all c.args.vars c.loop-before.before (fact_of g.T.Theory.graph g.T.Theory.atoms g.T.Theory.seen c.args.theory.now) c.args.place _ _ (omega arith) c.loop-before.invariant.added
