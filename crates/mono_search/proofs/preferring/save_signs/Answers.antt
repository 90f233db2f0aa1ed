use Rattle.std.proofs.Common.{◌≡◌, ◌++◌, ◌∷◌, [], ◌-◌, ◌+◌, List, Bool, ℤ, pos, set, take, sym, ap, ◌∙◌}
use Rattle.std.specs.Prelude.{int_lt}
use Rattle.std.proofs.lemmas.List.{take_more}
use Rattle.mono_base.specs.Literal.{var_of}
use Rattle.mono_trail.specs.Order.{OrderView}
use Rattle.mono_search.specs.Runs.{saved}
use Rattle.mono_search.proofs.Decisions.{saved_more}
use Rattle.mono_search.proofs.preferring.save_signs.Goals as goal

pub loop-lit-preserved : goal.loop-lit-preserved
loop-lit-preserved c =
    let o : OrderView = c.args.order.now in
    let ls = c.args.lits.now in
    let i = c.loop-lit.lit-index in
    let l : ℤ = c.lit-item.result in
    let next : take (i + 1) ls ≡ take i ls ++ l ∷ [] = take_more ls i l c.loop-lit-test.true ∙ ap (λ (x : ℤ). take i ls ++ x ∷ []) (sym c.lit-item.is) in
    c.save.ensures ∙ ap (λ (x : OrderView). record x { phases = set x.phases (var_of l - 1) (int_lt (pos 0) l) }) c.loop-lit.invariant
    ∙ ap (λ (ps : List Bool). record o { phases = ps }) (sym (saved_more o.phases (take i ls) l) ∙ ap (saved o.phases) (sym next))
