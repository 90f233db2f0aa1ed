use Rattle.std.proofs.Common.{◌∙◌, ◌++◌, ◌∷◌, []}
use Rattle.std.specs.Prelude.{◌==◌}
use Rattle.std.specs.List.{list_any}
use Rattle.std.proofs.lemmas.Bool.{cond-false}
use Rattle.mono_portfolio.proofs.worker.add_number.Goals as goal

pub returns-clause-ok : goal.returns-clause-ok
returns-clause-ok c =
    let ns = c.args.taken.now.keys in
    c.in_ok-insert.ensures.keys ∙ cond-false (list_any (λ n. c.args.step == n) ns) ns (ns ++ c.args.step ∷ []) c.requires
