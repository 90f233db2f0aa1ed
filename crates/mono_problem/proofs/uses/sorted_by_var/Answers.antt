use Rattle.std.proofs.Common.{◌∙◌, List, sym, rules, ◌==◌, not}
use Rattle.std.specs.Prelude.{◌&&◌}
use Rattle.std.specs.Ordering.{nat_cmp, is_lt}
use Rattle.std.proofs.lemmas.Fn.{always_returns_same}
use Rattle.std.proofs.lemmas.List.Sorted.{IsNonDecreasingBy-from_sort_by_key}
use Rattle.mono_problem.specs.declared.uses.Use.TheVariants as use_of
use Rattle.mono_problem.specs.declared.uses.VarUse.{VarUse}
use Rattle.mono_problem.proofs.SortedUses.{filter-same, ties-var}
use Rattle.mono_problem.proofs.uses.sorted_by_var.Goals as goal

pub returns-clause-sorted : goal.returns-clause-sorted
returns-clause-sorted c = IsNonDecreasingBy-from_sort_by_key (λ (u : VarUse). u.var) c.sort_by_key.new.self.items c.in_ok-sort_by_key.ensures.sorted (λ a r q k. search rules)

pub returns-clause-stable : goal.returns-clause-stable
returns-clause-stable c x =
    let stable = c.in_ok-sort_by_key.ensures.stable (λ (u : VarUse). u.var) (always_returns_same _ _ _ (λ a r q k. search rules)) (record { var = x; at = use_of.Atom 0 }) in
    let same = λ (us : List VarUse). filter-same (λ (u : VarUse). not (is_lt (nat_cmp x u.var)) && not (is_lt (nat_cmp u.var x))) (λ (u : VarUse). u.var == x) (ties-var x) us in
    sym (same c.sort_by_key.new.self.items) ∙ (stable ∙ same c.args.all.items)
