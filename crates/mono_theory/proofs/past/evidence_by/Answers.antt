use Rattle.std.proofs.Common.{◌≡◌, take, ap, sym, subst, ◌∙◌, List, Bool, length, cond, pos, int_lt}
use Rattle.std.proofs.lemmas.List.{length-map}
use Rattle.mono_graph.specs.declared.edge.Edge.{Edge}
use Rattle.mono_bounds.specs.declared.span.Span.{Span}
use Rattle.mono_theory.specs.Evidences.{shown_by}
use Rattle.mono_bounds.specs.SeenBounds.{SeenBound, AreSpansOf}
use Rattle.mono_bounds.proofs.BoundsStay.{by_own_vars, by_same_vars}
use Rattle.mono_theory.proofs.FramesStay.{side_is}
use Rattle.mono_bounds.proofs.SpansStay.{seen_is_one, spans_over}
use Rattle.mono_theory.proofs.past.evidence_by.Goals as goal

pub go_back-requires-clause-bound : goal.go_back-requires-clause-bound
go_back-requires-clause-bound g c = by_own_vars c.requires.bounds.bound

pub go_back-requires-clause-spans : goal.go_back-requires-clause-spans
go_back-requires-clause-spans g c = c.requires.bounds.spans

pub known_or_found-found-requires-clause-part : goal.known_or_found-found-requires-clause-part
known_or_found-found-requires-clause-part g c =
    c.part-part.ensures.size ∙ ap length (c.go_back.ensures.bound.vars ∙ c.requires.bounds.bound.vars) ∙ length-map c.args.graph.now.edges (λ (e : Edge). e.var)

pub come_again-requires-clause-bound : goal.come_again-requires-clause-bound
come_again-requires-clause-bound g c = by_own_vars c.go_back.ensures.bound

pub come_again-requires-clause-spans : goal.come_again-requires-clause-spans
come_again-requires-clause-spans g c =
    let back = c.go_back.new.self in
    let spans : back.spans ≡ c.args.bounds.now.spans = ap (λ (s : SeenBound). s.spans) c.go_back.ensures.same in
    subst (λ (xs : List Span). AreSpansOf back.bound c.args.lits.now xs) (sym spans) (spans_over {c = back.bound} c.go_back.ensures.bound.vars c.go_back.ensures.places c.requires.bounds.spans)

pub returns-clause-same : goal.returns-clause-same
returns-clause-same g c =
    seen_is_one c.args.bounds.now c.come_again.new.self c.args.bounds.now.bound.vars c.args.lits.now (c.come_again.ensures.places ∙ c.go_back.ensures.places)
    (ap (λ (s : SeenBound). s.spans) c.come_again.ensures.same ∙ ap (λ (s : SeenBound). s.spans) c.go_back.ensures.same)
    (ap (λ (s : SeenBound). s.cells) c.come_again.ensures.same ∙ ap (λ (s : SeenBound). s.cells) c.go_back.ensures.same)
    (by_own_vars c.requires.bounds.bound) (by_same_vars c.go_back.ensures.bound c.come_again.ensures.bound)

pub returns-clause-evidence : goal.returns-clause-evidence
returns-clause-evidence g c =
    let q = c.args.predicate in
    let l = c.args.question.lit in
    let back = c.go_back.new.self.bound in
    let sign : c.shown_by-value.result ≡ shown_by q (int_lt (pos 0) l) = c.shown_by-value.ensures ∙ ap (shown_by q) c.is_positive.ensures in
    let part = c.part-part.ensures.part ∙ ap (λ (b : Bool). cond b back.under back.over) sign
    ∙ side_is back c.args.graph.now q (take c.args.question.kept c.args.lits.now) l (by_same_vars c.requires.bounds.bound c.go_back.ensures.bound) in
    rw part at c.known_or_found-found.ensures.evidence
