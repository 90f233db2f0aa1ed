use Rattle.std.proofs.Common.{◌≡◌, ℕ, Bool, false, not, List, None, Some, refl, sym, subst}
use Rattle.std.specs.Prelude.{IsTrue, All, ◌↔◌}
use Rattle.mono_dynamic.specs.declared.walk_target.WalkTarget.{WalkTarget}
use Rattle.mono_dynamic.specs.Targets.{AreTold, Targets}
use Rattle.mono_dynamic.specs.Ways.{has_target, AreReachedWays}
use Rattle.mono_dynamic.proofs.Lacking.{none_lacks_where_all, told_searched}
use Rattle.mono_dynamic.proofs.reached_targets.ReachedTargets.search.Goals as goal

pub returns-clause-told : goal.returns-clause-told
returns-clause-told c = λ parts part-is shrink.
    let targets : List WalkTarget = c.self.inside.targets.items in
    let ways = subst (λ (ts : List WalkTarget). AreReachedWays c.args.graph.now c.args.part.now ts c.renew.new.self) c.as_slice-targets.ensures.value c.in_ok-renew.ensures.ways in
    let all = subst (λ (ts : List WalkTarget). IsTrue c.has_all-whole.result ↔ All (λ t. IsTrue (has_target c.renew.new.self t)) ts) c.as_slice.ensures.value c.has_all-whole.ensures in
    subst (λ (s : ℕ). AreTold c.args.graph.now parts c.args.number (record { ways = c.renew.new.self; targets = targets; since = Some s; lost = None })) (sym c.known_since.ensures)
    (told_searched c.args.graph.now parts c.args.number c.has_all-whole.result c.renew.new.self targets (subst (λ (P : List Bool). AreReachedWays c.args.graph.now P targets c.renew.new.self) (sym part-is) ways) shrink all.0)

pub returns-clause-settled : goal.returns-clause-settled
returns-clause-settled c =
    let all = subst (λ (ts : List WalkTarget). IsTrue c.has_all-whole.result ↔ All (λ t. IsTrue (has_target c.renew.new.self t)) ts) c.as_slice.ensures.value c.has_all-whole.ensures in
    record {
      settled = refl;
      all = subst (λ (r : Targets). IsTrue c.has_all-whole.result ↔ All (λ t. not (has_target c.renew.new.self t) ≡ false) r.targets) c.self.view_is
          (none_lacks_where_all c.has_all-whole.result c.renew.new.self c.self.inside.targets.items all);
    }
