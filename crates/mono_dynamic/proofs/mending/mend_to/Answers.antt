use Rattle.std.proofs.Common.{ℕ, sym, subst, ◌∙◌}
use Rattle.std.specs.Prelude.{IsTrue}
use Rattle.std.proofs.lemmas.Bool.{both_ways}
use Rattle.mono_dynamic.specs.Arrivals.{is_reached}
use Rattle.mono_dynamic.specs.Mending.{AreOut}
use Rattle.mono_dynamic.specs.Reached.{Reached}
use Rattle.mono_dynamic.proofs.ComingBack.{out_back}
use Rattle.mono_dynamic.proofs.mending.mend_to.Goals as goal

pub find_entry-requires-clause-other : goal.find_entry-requires-clause-other
find_entry-requires-clause-other c = λ e.
    both_ways (is_reached c.args.tree.now.arrivals c.args.target) (sym c.has.ensures.reached ∙ c.if-has.false) (subst (λ (v : ℕ). IsTrue (is_reached c.args.tree.now.arrivals v)) (sym e) c.has.ensures.source)

pub returns-in-Some-clause-out : goal.returns-in-Some-clause-out
returns-in-Some-clause-out c =
    subst (λ (r : Reached). AreOut c.args.graph.now c.args.part.now c.args.tree.now.source r.arrivals) (sym c.undo_to.ensures.arrivals)
    (out_back c.args.graph.now c.args.part.now c.args.tree.now.source c.count-first.result c.in-Some.entry.at c.find_entry.new.behind.arrivals c.in-Some.ensures.coming)
