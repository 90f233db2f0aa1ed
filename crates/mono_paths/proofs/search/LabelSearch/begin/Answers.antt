use Rattle.std.proofs.Common.{ℕ, List, length, replicate, set, ap, subst, ◌∙◌}
use Rattle.mono_paths.specs.declared.visit.Visit.{Visit}
use Rattle.mono_paths.specs.Queues.{Adds}
use Rattle.mono_paths.proofs.Searches.{search_begun}
use Rattle.mono_paths.proofs.search.LabelSearch.begin.Goals as goal

pub returns-clause-begun : goal.returns-clause-begun
returns-clause-begun c = λ P.
    search_begun c.args.graph.now P c.args.limit c.args.from c.args.cap _ c.clear.new.self c.known.ensures.graph.ends c.requires.from
    c.in_ok-begin.ensures.cap
    (c.in_ok-begin.ensures.labels ∙ ap (λ (n : ℕ). set (replicate n c.args.cap) c.args.from 0) c.requires.labels)
    c.in_ok-begin.ensures.visits
    (subst (λ (vs : List Visit). Adds c.clear.new.self c.add.new.self 0 (length vs)) c.deref.ensures.value c.in_ok-add.ensures)
