use Rattle.std.proofs.Common.{◌≡◌, ◌∙◌, ap, subst, sym, take, List, Bool, ℕ}
use Rattle.mono_problem.specs.Growth.{greatest_var}
use Rattle.mono_search.specs.Outcomes.{HasModel}
use Rattle.mono_problem.specs.Assuming.{assuming}
use Rattle.mono_core.proofs.WideModels.{wide_cut}
use Rattle.mono_core.proofs.needing.fitted.Goals as goal

pub returns : goal.returns
returns c = λ wide.
    let p = c.args.problem.now in
    let xs = c.args.assumed.now in
    let vars : c.greatest_var-vars.result ≡ greatest_var p.vars xs = c.greatest_var-vars.ensures ∙ ap (λ (v : ℕ). greatest_var v xs) c.vars.ensures.vars in
    let cut : c.from_vec.result ≡ take (greatest_var p.vars xs) c.args.values = c.from_vec.ensures ∙ c.truncate.ensures.items ∙ ap (λ (n : ℕ). take n c.into_vec-values.result.items) vars ∙ ap (take (greatest_var p.vars xs)) c.into_vec-values.ensures in
    subst (λ (values : List Bool). HasModel (assuming p xs) values) (sym cut) (wide_cut p xs c.args.values c.vars.ensures.problem wide)
