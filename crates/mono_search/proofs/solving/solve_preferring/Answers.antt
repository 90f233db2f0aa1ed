use Rattle.std.proofs.Common.{◌≡◌, All, ap, subst, sym, ℕ}
use Rattle.mono_base.specs.Literal.{IsLitWithin}
use Rattle.mono_search.specs.Search.{SearchView}
use Rattle.mono_search.proofs.solving.solve_preferring.Goals as goal

pub prefer-requires-clause-within : goal.prefer-requires-clause-within
prefer-requires-clause-within g c =
    let vars : c.in_ok-search.search.problem.vars ≡ c.args.problem.now.vars = ap (λ (s : SearchView). s.problem.vars) c.in_ok-search.ensures in
    subst (λ (n : ℕ). All (IsLitWithin n) c.args.signs.now) (sym vars) c.requires.signs
