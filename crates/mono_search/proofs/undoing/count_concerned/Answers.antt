use Rattle.std.proofs.Common.{◌≡◌, ◌∙◌, ◌+◌, ◌<◌, ◌≤◌, ◌^◌, ◌++◌, ◌∷◌, [], ℕ, ℤ, List, take, map, length, replicate, get_or, sym, ap, subst, arith}
use Rattle.std.proofs.lemmas.List.{length-map, length-take, take_more}
use Rattle.mono_base.specs.Literal.{var_of}
use Rattle.mono_theory.specs.Owners.{fact_of, facts_of}
use Rattle.mono_search.specs.TheoryLists.{concerning, concerned_from}
use Rattle.mono_search.specs.Updates.{update_all, CanUpdate}
use Rattle.mono_search.proofs.ListedCounts.{none_counted, zero_at}
use Rattle.mono_search.proofs.ConcernTables.{zero_counts, may_count, counted_by_table, listed}
use Rattle.mono_search.proofs.undoing.count_concerned.Goals as goal

pub loop-lit-init : goal.loop-lit-init
loop-lit-init g c =
    let facts = facts_of g.T.Theory.graph g.T.Theory.atoms g.T.Theory.seen c.args.theories.now in
    record {
      listed = none_counted c.args.counts.now.items c.args.worklist.now.listed (λ p. ap (λ (ns : List ℕ). get_or ns p 0) c.requires.zero ∙ zero_at (length c.args.theories.now) p);
      counts = c.requires.zero ∙ ap (λ (n : ℕ). replicate n 0) (sym (length-map c.args.theories.now (fact_of g.T.Theory.graph g.T.Theory.atoms g.T.Theory.seen))) ∙ sym (zero_counts facts);
    }

pub count_at-requires-clause-can : goal.count_at-requires-clause-can
count_at-requires-clause-can g c =
    let facts = facts_of g.T.Theory.graph g.T.Theory.atoms g.T.Theory.seen c.args.theories.now in
    let i = c.loop-lit.lit-index in
    let front = take i c.args.lits.now in
    let l = c.lit-item.result in
    let places = listed c.requires.table.0 facts c.args.table.now c.args.lits.now i c.var.result l c.list.result.now c.requires.table.1 c.requires.table.2 c.loop-lit-test.true c.lit-item.is c.var.ensures.value c.list.ensures in
    let few : length front ≤ i = omega (arith, length-take i c.args.lits.now) in
    let can = may_count (λ n. n + 1 < 2 ^ 64) front l facts (λ n le. omega (arith, le, few, c.loop-lit-test.true)) in
    subst (λ (ps : List ℕ). CanUpdate (λ n. n + 1 < 2 ^ 64) (λ n. n + 1) ps c.loop-lit.counts.items) (sym places) (subst (λ (ns : List ℕ). CanUpdate (λ n. n + 1 < 2 ^ 64) (λ n. n + 1) (concerned_from 0 facts (var_of l)) ns) (sym c.loop-lit.invariant.counts) can)

pub count_at-requires-clause-as_many : goal.count_at-requires-clause-as_many
count_at-requires-clause-as_many g c =
    let t = g.T.Theory in
    let facts = facts_of t.graph t.atoms t.seen c.args.theories.now in
    let all = c.requires.as_many in
    let listed = c.loop-lit.invariant.listed.as_many in
    omega (arith, all, listed, ap length c.loop-lit.invariant.counts, length-map facts (λ f. length (concerning f (take c.loop-lit.lit-index c.args.lits.now))), length-map c.args.theories.now (fact_of t.graph t.atoms t.seen))

pub loop-lit-preserved : goal.loop-lit-preserved
loop-lit-preserved g c =
    let facts = facts_of g.T.Theory.graph g.T.Theory.atoms g.T.Theory.seen c.args.theories.now in
    let i = c.loop-lit.lit-index in
    let front = take i c.args.lits.now in
    let l = c.lit-item.result in
    let places = listed c.requires.table.0 facts c.args.table.now c.args.lits.now i c.var.result l c.list.result.now c.requires.table.1 c.requires.table.2 c.loop-lit-test.true c.lit-item.is c.var.ensures.value c.list.ensures in
    let next : take (i + 1) c.args.lits.now ≡ front ++ l ∷ [] = take_more c.args.lits.now i l c.loop-lit-test.true ∙ ap (λ (m : ℤ). front ++ m ∷ []) (sym c.lit-item.is) in
    record {
      listed = c.count_at.ensures.listed c.args.worklist.now.listed c.loop-lit.invariant.listed;
      counts = c.count_at.ensures.counts ∙ ap (λ (ps : List ℕ). update_all (λ n. n + 1) ps c.loop-lit.counts.items) places ∙ ap (update_all (λ n. n + 1) (concerned_from 0 facts (var_of l))) c.loop-lit.invariant.counts
          ∙ counted_by_table front l facts ∙ ap (λ (t : List ℤ). map (λ f. length (concerning f t)) facts) (sym next);
    }
