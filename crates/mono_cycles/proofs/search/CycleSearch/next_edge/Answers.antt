use Rattle.mono_cycles.proofs.Searching.{advanced_read, due_read}
use Rattle.mono_cycles.proofs.search.CycleSearch.next_edge.Goals as goal

pub returns-then-at-edges-clause-search : goal.returns-then-at-edges-clause-search
returns-then-at-edges-clause-search c =
    let s = c.args.self.now in
    advanced_read c.args.graph.now c.args.part.now s.next.items s.on_path.items s.done.items c.deref.result.now s.path.items s.taken.items s.order.items c.entering-edges.result.now c.args.node c.next_due-at.result c.index-first.result.now
    c.requires.search c.requires.node c.entering-edges.ensures.places c.index-first.ensures c.deref.ensures.value c.next_due-at.ensures.within c.next_due-at.ensures.passed

pub returns-then-at-edges-clause-due : goal.returns-then-at-edges-clause-due
returns-then-at-edges-clause-due c =
    let s = c.args.self.now in
    due_read c.args.graph.now c.args.part.now s.next.items s.on_path.items s.done.items c.deref.result.now s.path.items s.taken.items s.order.items c.entering-edges.result.now c.args.node c.next_due-at.result
    c.requires.search c.entering-edges.ensures.places c.deref.ensures.value c.if-at-edges.true (c.next_due-at.ensures.here c.if-at-edges.true) (c.next_due-at.ensures.due c.if-at-edges.true)

pub returns-else-at-edges-clause-search : goal.returns-else-at-edges-clause-search
returns-else-at-edges-clause-search c =
    let s = c.args.self.now in
    advanced_read c.args.graph.now c.args.part.now s.next.items s.on_path.items s.done.items c.deref.result.now s.path.items s.taken.items s.order.items c.entering-edges.result.now c.args.node c.next_due-at.result c.index-first.result.now
    c.requires.search c.requires.node c.entering-edges.ensures.places c.index-first.ensures c.deref.ensures.value c.next_due-at.ensures.within c.next_due-at.ensures.passed
