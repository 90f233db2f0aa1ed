use Rattle.std.proofs.Common.{List, map, subst, ◌∙◌, arith}
use Rattle.std.proofs.lemmas.Grind.{common_steps}
use Rattle.std.proofs.lemmas.List.{take_all}
use Rattle.mono_graph.specs.declared.label.Label.{Label}
use Rattle.mono_graph.proofs.Prefixes.{Cleared, cleared_all}
use Rattle.mono_distance.proofs.TableLabels.{unlisted}
use Rattle.mono_distance.proofs.label_table.clear.Goals as goal

pub returns-clause-clear : goal.returns-clause-clear
returns-clause-clear c =
    let ls = c.args.labels.now in
    let all = take_all c.loop-label.label-index ls c.loop-label-test.false in
    let done : Cleared 0 c.args.entries.now.items c.loop-label.entries.items (map (λ (x : Label). x.node) ls) = subst (λ (ms : List Label). Cleared 0 c.args.entries.now.items c.loop-label.entries.items (map (λ (x : Label). x.node) ms)) all c.loop-label.invariant in
    λ u. cleared_all 0 c.args.entries.now.items c.loop-label.entries.items (map (λ (x : Label). x.node) ls) done u (λ none. c.requires.entered u ∙ unlisted ls u none)

pub loop-label-preserved : goal.loop-label-preserved
loop-label-preserved c = grind (arith, common_steps)
