use Rattle.std.proofs.Common.{◌≡◌, ◌∙◌, ◌+◌, ℕ, List, take, get_or, sym, subst, arith}
use Rattle.std.proofs.lemmas.List.{get_or_default}
use Rattle.mono_search.specs.TheoryLists.{AddsPlace}
use Rattle.mono_search.proofs.ConcernTables.{none_added, one_added, one_beyond, all_added}
use Rattle.mono_search.proofs.concerns.add_place.Goals as goal
use Rattle.mono_search.proofs.concerns.add_place.Goals.{then-var-vars+in_ok-push, else-var-vars}

pub loop-var-init : goal.loop-var-init
loop-var-init c = record { added = none_added c.args.vars c.args.place c.args.listed.now c.args.table.now }

pub loop-var-preserved : goal.loop-var-preserved
loop-var-preserved c =
    let i : ℕ = c.loop-var.var-index in
    let vs : List ℕ = c.args.listed.now in
    let x : ℕ = get_or vs i 0 in
    let at : x ≡ get_or vs i x = get_or_default vs i 0 x c.loop-var-test.true in
    let so_far : AddsPlace c.args.vars (take i vs) c.args.place c.args.table.now c.loop-var.table = c.loop-var.invariant.added in
    elim c.if-var-vars.branch [
      | then-var-vars+in_ok-push w ↦ record {
        added = subst (λ (t : List (List ℕ)). AddsPlace c.args.vars (take (i + 1) vs) c.args.place c.args.table.now t) (sym (w.table-is ∙ w.in_ok-push.ensures.ok))
            (one_added c.args.vars i c.args.place x vs c.args.table.now c.loop-var.table c.requires.rising c.loop-var-test.true at (let low = w.if-var-vars.true in let keys = so_far.keys in let all = c.requires.keys in omega (arith, low, keys, all)) so_far);
      }
      | else-var-vars w ↦ record {
        added = subst (λ (t : List (List ℕ)). AddsPlace c.args.vars (take (i + 1) vs) c.args.place c.args.table.now t) (sym w.table-is)
            (one_beyond c.args.vars i c.args.place x vs c.args.table.now c.loop-var.table c.loop-var-test.true at (let high = w.if-var-vars.false in omega (arith, high)) so_far);
      }
    ]

pub returns : goal.returns
returns c = all_added c.args.vars c.loop-var.var-index c.args.place c.args.listed.now _ _ (omega arith) c.loop-var.invariant.added
