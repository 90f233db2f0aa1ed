use Rattle.std.proofs.Common.{◌≡◌, ℕ, List, length, refl, ap, ◌∙◌, subst, arith, rules}
use Rattle.std.specs.Prelude.{None}
use Rattle.mono_paths.specs.declared.visit.Visit.{Visit}
use Rattle.mono_paths.specs.Queues.{IsTaken, Takes, Adds}
use Rattle.mono_paths.proofs.Searches.{search_over, search_more}
use Rattle.mono_paths.proofs.search.LabelSearch.goes_to.Goals as goal

pub returns-in_default-clause-search : goal.returns-in_default-clause-search
returns-in_default-clause-search c =
    let len : c.len-first.result ≡ length c.loop-limit.self.visits.items = omega (arith, c.len-first.ensures) in
    search_over c.args.graph.now c.args.part.now c.args.limit c.loop-limit.self _ refl refl
    (subst (λ (n : ℕ). IsTaken c.loop-limit.self.waiting c.take.new.self n None) len c.in_default.ensures) c.loop-limit.invariant.search

pub loop-limit-preserved : goal.loop-limit-preserved
loop-limit-preserved c =
    let e = c.in_ok-expand.ensures in
    let len : c.len-first.result ≡ length c.loop-limit.self.visits.items = omega (arith, c.len-first.ensures) in
    record {
      len = e.len ∙ c.loop-limit.invariant.len;
      cap = e.cap ∙ c.loop-limit.invariant.cap;
      source = ap (λ (v : Visit). v.node) e.first ∙ c.loop-limit.invariant.source;
      search =
          search_more c.args.graph.now c.args.part.now c.args.limit c.loop-limit.self _ c.take.new.self c.in-Some.at
          (subst (λ (n : ℕ). Takes c.loop-limit.self.waiting c.take.new.self n c.in-Some.at) len c.in-Some.ensures)
          e.cap e.trail e.labels e.spread
          (subst (λ (n : ℕ). Adds c.take.new.self c.add.new.self n (length c.expand.new.visits.items)) len
          (subst (λ (vs : List Visit). Adds c.take.new.self c.add.new.self c.len-first.result (length vs)) c.deref.ensures.value c.in_ok-add.ensures))
          c.loop-limit.invariant.search;
    }

pub returns-in_default-clause-above : goal.returns-in_default-clause-above
returns-in_default-clause-above c = search rules
