use Rattle.std.proofs.lemmas.List.{length-map}
use Rattle.std.proofs.Common.{◌≤◌, ◌∙◌, ℕ, replicate, take, ap, sym, refl}
use Rattle.mono_theory.specs.Owners.{facts_of, fact_of}
use Rattle.mono_search.specs.TheoryLists.{with_seen}
use Rattle.mono_search.specs.Theories.{TheoriesView}
use Rattle.mono_search.proofs.HandedOn.{taken_back, all_kept}
use Rattle.mono_search.proofs.theories.Theories.undo_to.Goals as goal

pub returns : goal.returns
returns g c =
    let t = g.T.Theory in
    let before : TheoriesView = record { problem = c.self.inside.problem.now; facts = facts_of t.graph t.atoms t.seen c.self.inside.theories.items; handed = c.self.inside.handed; given = c.self.inside.given } in
    let fewer : c.args.kept ≤ before.handed = rw (← c.self.view_is) at c.requires.fewer in
    rw (← c.self.view_is) (taken_back before (facts_of t.graph t.atoms t.seen c.undo_each_to.new.theories.items) c.args.lits.now c.args.kept fewer c.undo_each_to.ensures.facts)

pub undo_each_to-requires-clause-zero : goal.undo_each_to-requires-clause-zero
undo_each_to-requires-clause-zero g c = c.self.invariant.zero ∙ ap (λ (n : ℕ). replicate n 0) (length-map c.self.inside.theories.items (fact_of g.T.Theory.graph g.T.Theory.atoms g.T.Theory.seen))

pub invariant_of-self : goal.invariant_of-self
invariant_of-self g c =
    let t = g.T.Theory in
    let items = c.self.inside.theories.items in
    let facts = facts_of t.graph t.atoms t.seen items in
    let new = facts_of t.graph t.atoms t.seen c.undo_each_to.new.theories.items in
    let zero = c.undo_each_to.ensures.zero ∙ ap (λ (n : ℕ). replicate n 0) (sym (length-map items (fact_of t.graph t.atoms t.seen))) in
    all_kept (with_seen (take c.args.kept (take c.self.inside.handed c.args.lits.now))) c.self.inside.problem.now facts new c.self.inside.concerned c.self.inside.owners.items c.self.inside.counts.items c.undo_each_to.new.counts.items c.self.inside.worklist.listed c.undo_each_to.new.worklist.listed
    (λ f. refl) (λ f. refl) c.undo_each_to.ensures.facts zero c.undo_each_to.ensures.others c.self.invariant
