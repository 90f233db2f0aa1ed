-- Signs that are saved where a search begins anew change nothing else of its state.
use Rattle.std.proofs.Common.{◌≡◌, Bool, false, List, sym, ap, subst}
use Rattle.mono_trail.specs.Order.{OrderView}
use Rattle.mono_trail.specs.TrailView.{TrailView}
use Rattle.mono_clauses.specs.Store.{StoreView}
use Rattle.mono_steps.specs.declared.step.Step.{Step}
use Rattle.mono_search.specs.Theories.{TheoriesView}
use Rattle.mono_search.specs.State.{StateView, IsReady}
use Rattle.mono_search.specs.Runs.{TurnsSigns}
use Rattle.mono_search.proofs.Propagating.{state}

pub turned_signs : (b : TheoriesView) (t : TrailView) (s : StoreView) (steps : List Step) (o r : OrderView) (restarts : Bool) → r.waits ≡ o.waits → (restarts ≡ false → r ≡ o) → TurnsSigns restarts (state b t s steps o) (state b t s steps r)
turned_signs b t s steps o r restarts waits same = record {
  signs = r.phases;
  turned = ap (λ (ws : List Bool). state b t s steps (record { waits = ws; phases = r.phases })) waits;
  as_before = λ off. ap (λ (q : OrderView). q.phases) (same off);
}

pub turned_ready : (restarts : Bool) (v w : StateView) → IsReady v → TurnsSigns restarts v w → IsReady w
turned_ready restarts v w ready h = subst IsReady (sym h.turned) (record {
  whole = record {
    journal = ready.whole.journal;
    held = ready.whole.held;
    trail = ready.whole.trail;
    order = record { vars = ready.whole.order.vars; wait = record { at = ready.whole.order.wait.at } };
  };
  follows = ready.follows;
})
