-- What one propagation, one lemma and one decision after the other leave to do.
use Rattle.std.proofs.Common.{◌≡◌, ℕ, ◌+◌, ◌-◌, ◌*◌, ◌<◌, List, max, length, sym, ap, subst, ◌∙◌, arith}
use Rattle.std.specs.Prelude.{Option, Some, None}
use Rattle.mono_problem.specs.Instance.{Instance}
use Rattle.mono_steps.specs.declared.step.Step.{Step}
use Rattle.mono_steps.specs.Journals.{chain_count, known_clauses}
use Rattle.mono_search.specs.declared.search.Outcome.{Outcome}
use Rattle.mono_search.specs.declared.search.Outcome.TheVariants as outcome
use Rattle.mono_search.specs.Outcomes.{EndsAs}
use Rattle.mono_search.specs.Runs.{Continues, HasAdvanced, HasLearned, IsEnd, IsQuietAfter, IsQuietState, ResolvedAs, SteppedAs}
use Rattle.mono_search.specs.State.{StateView, IsReady, QuietAt}
use Rattle.mono_search.specs.Theories.{having_seen}

-- ---- the theories are handed the literals

pub quiet_handed : {v w : StateView} → IsQuietState v → IsReady w → w ≡ record v { theories = having_seen v.theories v.trail.lits (length v.trail.lits) } → IsQuietAfter v w
quiet_handed {v = v} {w = w} h ready is =
    let as_many : length w.trail.lits ≡ length v.trail.lits = ap (λ (u : StateView). length u.trail.lits) is in
    record {
      quiet = record {
        ready = ready;
        quiet = subst (λ (u : StateView). QuietAt u.theories.problem (known_clauses u.theories.problem u.steps) u.trail.lits) (sym is) h.quiet;
        all_given = subst (λ (u : StateView). u.trail.given ≡ length u.trail.lits) (sym is) h.all_given;
      };
      vars = ap (λ (u : StateView). u.trail.vars) is;
      more = omega (arith, as_many);
    }

pub advanced_handed : {v u w : StateView} → u ≡ record v { theories = having_seen v.theories v.trail.lits (length v.trail.lits) } → HasAdvanced u w → HasAdvanced v w
advanced_handed {v = v} {u = u} {w = w} is moved =
    let as_many : length u.trail.lits ≡ length v.trail.lits = ap (λ (s : StateView). length s.trail.lits) is in
    record { ready = moved.ready; vars = moved.vars ∙ ap (λ (s : StateView). s.trail.vars) is; more = omega (arith, as_many, moved.more) }

-- ---- one after the other

pub quiet_on : {u v w : StateView} → IsQuietAfter u v → IsQuietAfter v w → IsQuietAfter u w
quiet_on a b = record { quiet = b.quiet; vars = b.vars ∙ a.vars; more = omega (arith, a.more, b.more) }

pub quiet_then : {u v w : StateView} → IsQuietAfter u v → HasAdvanced v w → HasAdvanced u w
quiet_then a b = record { ready = b.ready; vars = b.vars ∙ a.vars; more = omega (arith, a.more, b.more) }

-- ---- what is left to do

-- as many clauses to learn, of as many variables
same_most : (budget m n k l : ℕ) → m ≡ n → k ≡ l → (budget - m) * (k + 1) ≡ (budget - n) * (l + 1)
same_most budget m n k l first second = ap (λ (x : ℕ). (budget - x) * (k + 1)) first ∙ ap (λ (y : ℕ). (budget - n) * (y + 1)) second

pub goes_on : {v w : StateView} (budget : ℕ) → HasAdvanced v w → chain_count w.steps ≡ chain_count v.steps → Continues budget v w
goes_on {v = v} {w = w} budget moved chains =
    let most : (budget - chain_count w.steps) * (w.trail.vars + 1) ≡ (budget - chain_count v.steps) * (v.trail.vars + 1) = same_most budget (chain_count w.steps) (chain_count v.steps) w.trail.vars v.trail.vars chains moved.vars in
    record {
      ready = moved.ready;
      chains = omega (arith, chains);
      no_fewer = omega (arith, chains);
      less = omega (arith, most, moved.ready.whole.trail.sound.few_lits, moved.more, moved.vars);
    }

-- one clause fewer to learn
one_fewer : (budget n k : ℕ) → n < budget → (budget - n) * (k + 1) ≡ (budget - (n + 1)) * (k + 1) + (k + 1)
one_fewer budget n k below =
    let next : budget - n ≡ (budget - (n + 1)) + 1 = omega arith in
    ap (λ (m : ℕ). m * (k + 1)) next ∙ omega arith

pub learns_on : {v w : StateView} (budget : ℕ) → HasLearned budget v w → Continues budget v w
learns_on {v = v} {w = w} budget h =
    let n = chain_count v.steps in
    let most : (budget - chain_count w.steps) * (w.trail.vars + 1) ≡ (budget - (n + 1)) * (v.trail.vars + 1) = same_most budget (chain_count w.steps) (n + 1) w.trail.vars v.trail.vars h.chains h.vars in
    let fewer = one_fewer budget n v.trail.vars h.under in
    record {
      ready = h.ready;
      chains = omega (arith, h.chains, h.under);
      no_fewer = omega (arith, h.chains);
      less = omega (arith, most, fewer, h.vars);
    }

-- ---- the end, as it is for who began before

ends_before : (budget m n : ℕ) (p : Instance) (steps : List Step) (o : Outcome) → max budget m ≡ max budget n → EndsAs budget m p steps o → EndsAs budget n p steps o
ends_before budget m n p steps (outcome.Sat model) same h = h
ends_before budget m n p steps outcome.Unsat same h = h
ends_before budget m n p steps outcome.Unknown same h = record { chains = h.chains ∙ same; new = h.new; few = h.few }

pub ended : {u v w : StateView} (budget : ℕ) (o : Outcome) → max budget (chain_count v.steps) ≡ max budget (chain_count u.steps) → IsEnd budget v w o → IsEnd budget u w o
ended {u = u} {v = v} {w = w} budget o same h =
    record { ends = ends_before budget (chain_count v.steps) (chain_count u.steps) w.theories.problem w.steps o same h.ends; within = omega (arith, h.within, same); ready = h.ready }

-- what a conflict led to, after steps that learned nothing
pub resolved : (budget : ℕ) (u v w : StateView) (end : Option Outcome) → v.trail.vars ≡ u.trail.vars → chain_count v.steps ≡ chain_count u.steps → ResolvedAs budget v w end → SteppedAs budget u w end
resolved budget u v w None vars same h =
    learns_on budget (record { ready = h.ready; vars = h.vars ∙ vars; under = omega (arith, h.under, same); chains = omega (arith, h.chains, same) })
resolved budget u v w (Some o) vars same h = ended budget o (ap (max budget) same) h
