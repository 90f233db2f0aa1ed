-- The state of a new search.
use Rattle.std.proofs.Common.{zero, suc, ◌≡◌, ℕ, ◌≤◌, Bool, true, false, List, [], ◌++◌, length, take, replicate, arith, refl, sym, ◌∙◌, ap, get_or, subst, All}
use Rattle.std.specs.Prelude.{IsTrue, ℤ}
use Rattle.mono_base.specs.Literal.{value_in}
use Rattle.mono_problem.specs.Instance.{Instance}
use Rattle.mono_trail.specs.TrailView.{TrailView, IsSoundTrail, no_literals}
use Rattle.mono_clauses.specs.Store.{Held, StoreView, lists_of}
use Rattle.mono_steps.specs.Steps.{clauses_after}
use Rattle.mono_search.specs.State.{HoldsKnown, IsNamed}
use Rattle.mono_search.specs.Stored.{inputs_from}
use Rattle.mono_trail.specs.Order.{OrderView}
use Rattle.mono_search.specs.TheoryLists.{concerning}
use Rattle.mono_search.specs.Theories.{TheoriesView}
use Rattle.mono_search.specs.Runs.{BeginsWith, HoldsInputs}
use Rattle.std.proofs.lemmas.List.{append-nil, get_or-map}
use Rattle.mono_base.specs.Partial.{is_quiet, unit_quiet}
use Rattle.mono_search.proofs.Growing.{all_at, quiet_not_false}
use Rattle.mono_search.proofs.Journals.{inputs_named, length-inputs, lists-inputs}
use Rattle.mono_search.proofs.Propagating.{state}

length-replicate : (n : ℕ) → length (replicate n true) ≡ n
length-replicate zero = refl
length-replicate (suc n) = ap suc (length-replicate n)

all_stand : (n v : ℕ) → 1 ≤ v → v ≤ n → IsTrue (value_in (replicate n true) v)
all_stand n zero low high = absurd (omega arith)
all_stand zero (suc v) low high = absurd (omega arith)
all_stand (suc n) (suc v) low high = at n v (omega arith)
  where
    at : (n v : ℕ) → v ≤ n → get_or (replicate (suc n) true) v false ≡ true
    at n zero le = refl
    at zero (suc v) le = absurd (omega arith)
    at (suc n) (suc v) le = at n v (omega arith)

nothing : (n : ℕ) → take {A = ℤ} n [] ≡ []
nothing zero = refl
nothing (suc n) = refl

front : (n : ℕ) (t : List ℤ) → t ≡ [] → take n t ≡ []
front n t e = ap (λ (u : List ℤ). take n u) e ∙ nothing n

-- the store holds the problem's clauses
held_first : (p : Instance) (given : ℕ) (s : StoreView) → given ≡ 0 → s.vars ≡ p.vars → s.clauses ≡ inputs_from 0 p.clauses → HoldsKnown p [] given s
held_first p given s none vars is =
    let lists : lists_of s.clauses ≡ p.clauses = ap lists_of is ∙ lists-inputs 0 p.clauses in
    let all : p.clauses ++ [] ≡ p.clauses = append-nil p.clauses in
    record {
      vars = vars;
      named = subst (λ (hs : List Held). All (IsNamed (clauses_after p [])) hs) (sym is) (inputs_named [] p.clauses []);
      count = omega (arith, none, ap length is, length-inputs 0 p.clauses);
      units = λ t quiet. subst (λ (cs : List (List ℤ)). IsTrue (unit_quiet cs t)) (lists ∙ sym all) quiet;
      none_false = λ t d quiet k h lt.
          let here : IsTrue (is_quiet t (get_or p.clauses k [])) = all_at (is_quiet t) p.clauses k [] (subst (λ (cs : List (List ℤ)). IsTrue (unit_quiet cs t)) all quiet.units) (omega (arith, lt, ap length is, length-inputs 0 p.clauses)) in
          let same : get_or p.clauses k [] ≡ (get_or s.clauses k h).lits = ap (λ (cs : List (List ℤ)). get_or cs k []) (sym lists) ∙ get_or-map (λ (c : Held). c.lits) s.clauses k h [] lt in
          quiet_not_false t (get_or s.clauses k h).lits d (subst (λ (c : List ℤ). IsTrue (is_quiet t c)) same here);
    }

pub begins : (p : Instance) (b : TheoriesView) (t : TrailView) (s : StoreView) (o : OrderView) → b.problem ≡ p → b.handed ≡ 0 → b.given ≡ 0 → All (λ f. f.seen ≡ []) b.facts → t ≡ no_literals p.vars → IsSoundTrail t → HoldsInputs p t s → o ≡ record { waits = replicate p.vars true; phases = replicate p.vars false }
    → BeginsWith p (state b t s [] o)
begins p b t s o problem handed none_given unseen empty sound inputs order =
    let none : t.lits ≡ [] = ap (λ (u : TrailView). u.lits) empty in
    let waits : o.waits ≡ replicate p.vars true = ap (λ (q : OrderView). q.waits) order in
    let vars : p.vars ≡ b.problem.vars = ap (λ (q : Instance). q.vars) (sym problem) in
    record {
      problem = problem;
      steps = refl;
      signs = ap (λ (q : OrderView). q.phases) order;
      ready = record {
        whole = record {
          journal = record { journal = record { justified = refl; fresh = tt }; none_empty = refl };
          held = subst (λ (q : Instance). HoldsKnown q [] b.given s) (sym problem) (held_first p b.given s none_given inputs.vars inputs.clauses);
          trail = record {
            vars = ap (λ (u : TrailView). u.vars) empty ∙ vars;
            sound = sound;
            shown = record {
              within = omega (arith, handed);
              current = λ k d lt. unseen k d lt ∙ ap (concerning (get_or b.facts k d)) (sym (front b.handed t.lits none));
            };
            reasons = record { at = λ k lt. absurd (omega (arith, lt, ap length none)) };
            below = record { at = λ k lt d. absurd (omega (arith, lt, ap length none)) };
          };
          order = record { vars = ap length waits ∙ length-replicate p.vars ∙ vars; wait = record { at = λ v is open_in. subst (λ (w : List Bool). IsTrue (value_in w v)) (sym waits) (all_stand p.vars v is.0 (omega (arith, is.1, ap length waits, length-replicate p.vars))) } };
        };
        follows = inputs.follows;
      };
    }
