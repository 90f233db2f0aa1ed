-- What workers take after a round.
use Rattle.std.proofs.Common.{◌≡◌, ℕ, ◌+◌, ◌-◌, ◌<◌, ◌≤◌, Bool, true, false, not, cond, List, [], ◌∷◌, ◌++◌, length, get_or, drop, Option, Some, None, refl, sym, ap, subst, ◌∙◌, arith, All}
use Rattle.std.specs.Prelude.{IsTrue, MatchOption, ◌==◌}
use Rattle.std.specs.List.{list_any}
use Rattle.std.proofs.lemmas.Bool.{ne_eqb, or_from, cond-true, cond-false, lt-leb, not_from_true}
use Rattle.std.proofs.lemmas.List.{set-get_or, get_or-set_same, set-set, drop_more, length-set}
use Rattle.std.proofs.lemmas.List.Elements.{All-head, All-tail, All-push, All-weaker}
use Rattle.mono_problem.specs.Instance.{Instance, numbered}
use Rattle.mono_steps.specs.declared.step.Step.{Step}
use Rattle.mono_steps.specs.declared.step.Step.TheVariants as step
use Rattle.mono_steps.proofs.StepLists.{numbered_is}
use Rattle.mono_portfolio.specs.declared.event.Event.TheVariants as event
use Rattle.mono_portfolio.specs.declared.event.Reply.{Reply}
use Rattle.mono_portfolio.specs.declared.event.Reply.TheVariants as reply
use Rattle.mono_portfolio.specs.Extended.{extended, is_some_chain, has_chain, passes_limits}
use Rattle.mono_portfolio.specs.TeamView.{WorkerView, TeamView, idle, worker_at, with_worker}
use Rattle.mono_portfolio.specs.Refusals.{first_reply, lacks_worker, has_taken, is_full, refusal}
use Rattle.mono_portfolio.specs.Plays.{Served, Answers}
use Rattle.mono_portfolio.specs.Rounds.{is_short, short_chains, taking}
use Rattle.mono_portfolio.specs.Turns.{having}

-- ---- one Take

same_worker : (s : TeamView) (w : ℕ) → (worker_at s w).made ≡ [] → having s w (worker_at s w).taken ≡ s
same_worker s w e =
    let x : WorkerView = worker_at s w in
    ap (λ (ss : List Step). with_worker s w (record { taken = x.taken; made = ss })) (sym e) ∙ ap (λ (ws : List WorkerView). record s { workers = ws }) (set-get_or s.workers w idle)

served_take : (s : TeamView) (w n : ℕ) (r : Reply) (t : TeamView) → Served s (event.Take w n) r t → t ≡ having s w ((worker_at s w).taken ++ n ∷ [])
served_take s w n reply.Taken t v = v
served_take s w n r t v = absurd v

pub took : (s : TeamView) (w n : ℕ) (r : Reply) (t : TeamView) → w < length s.workers → IsTrue (has_chain s.problem s.board n) → has_taken s w n ≡ false → (worker_at s w).made ≡ [] → Answers s (event.Take w n) r t
    → t ≡ having s w (cond (is_full s w n) (worker_at s w).taken ((worker_at s w).taken ++ n ∷ []))
took s w n r t lt held fresh none a = by_full (is_full s w n) refl
  where
    last : List (Bool × Reply)
    last = (is_full s w n, reply.Full) ∷ []

    second : List (Bool × Reply)
    second = (has_taken s w n, reply.AlreadyTaken) ∷ last

    first : List (Bool × Reply)
    first = (not (has_chain s.problem s.board n), reply.NoStep) ∷ second

    open_to : refusal s (event.Take w n) ≡ first_reply last
    open_to =
        cond-false (lacks_worker s w) (Some reply.NoWorker) (first_reply first) (lt-leb (length s.workers) w lt)
        ∙ cond-false (not (has_chain s.problem s.board n)) (Some reply.NoStep) (first_reply second) (not_from_true (has_chain s.problem s.board n) held)
        ∙ cond-false (has_taken s w n) (Some reply.AlreadyTaken) (first_reply last) fresh

    by_full : (b : Bool) → is_full s w n ≡ b → t ≡ having s w (cond b (worker_at s w).taken ((worker_at s w).taken ++ n ∷ []))
    by_full true f =
        let e : refusal s (event.Take w n) ≡ Some reply.Full = open_to ∙ cond-true (is_full s w n) (Some reply.Full) None f in
        let v = subst (λ (o : Option Reply). MatchOption o (Served s (event.Take w n) r t) (λ refused. (r ≡ refused) × (t ≡ s))) e a in
        v.1 ∙ sym (same_worker s w none)
    by_full false f =
        let e : refusal s (event.Take w n) ≡ None = open_to ∙ cond-false (is_full s w n) (Some reply.Full) None f in
        served_take s w n r t (subst (λ (o : Option Reply). MatchOption o (Served s (event.Take w n) r t) (λ refused. (r ≡ refused) × (t ≡ s))) e a)

-- ---- numbers that are too low to be taken again

pub not_taken : (taken : List ℕ) (most n : ℕ) → All (λ m. m ≤ most) taken → most < n → list_any (λ m. n == m) taken ≡ false
not_taken [] most n h lt = refl
not_taken (m ∷ ms) most n h lt =
    or_from (n == m) (list_any (λ k. n == k) ms) (ne_eqb n m (λ e. omega (arith, All-head (λ k. k ≤ most) m ms h, lt))) (not_taken ms most n (All-tail (λ k. k ≤ most) m ms h) lt)

-- the step at a place is a chain where it is short
pub short_is_chain : (p : Instance) (board : List Step) (k : ℕ) (d : Step) → k < length board → IsTrue (is_short (get_or board k d)) → IsTrue (has_chain p board (length p.clauses + k + 1))
short_is_chain p board k d lt h =
    let e : length p.clauses + k + 1 - length p.clauses ≡ k + 1 = omega arith in
    ap (λ (j : ℕ). is_some_chain (numbered board j)) e ∙ ap is_some_chain (numbered_is board (k + 1) k d refl lt) ∙ by_step (get_or board k d) h
  where
    by_step : (s : Step) → IsTrue (is_short s) → is_some_chain (Some s) ≡ true
    by_step (step.Lemma l) h = absurd cc
    by_step (step.Chain c) h = refl

-- ---- some places of the board

-- the worker took what is short below a place
pub record TookBelow (s : TeamView) (w from place : ℕ) (t : TeamView) : Type 0 where
  pub taken : List ℕ
  pub after : t ≡ having s w taken
  pub same : taking s.problem s.board taken (short_chains (length s.problem.clauses + place + 1) (drop place s.board)) ≡ taking s.problem s.board (worker_at s w).taken (short_chains (length s.problem.clauses + from + 1) (drop from s.board))
  pub low : All (λ n. n ≤ length s.problem.clauses + place) taken

pub took_none : (s : TeamView) (w from : ℕ) → (worker_at s w).made ≡ [] → All (λ n. n ≤ length s.problem.clauses + from) (worker_at s w).taken → TookBelow s w from from s
took_none s w from none low = record { taken = (worker_at s w).taken; after = sym (same_worker s w none); same = refl; low = low }

lower : (c k : ℕ) (ns : List ℕ) → All (λ n. n ≤ c + k) ns → All (λ n. n ≤ c + (k + 1)) ns
lower c k ns h = All-weaker (λ n. n ≤ c + k) (λ n. n ≤ c + (k + 1)) (λ n le. omega (arith, le)) ns h

-- the rest of the board at a place: its step, and what is behind it
rest_at : (s : TeamView) (place : ℕ) (d : Step) → place < length s.board → (ns : List ℕ) (b : Bool) → is_short (get_or s.board place d) ≡ b
    → taking s.problem s.board ns (short_chains (length s.problem.clauses + place + 1) (drop place s.board))
    ≡ taking s.problem s.board ns (cond b ((length s.problem.clauses + place + 1) ∷ short_chains (length s.problem.clauses + (place + 1) + 1) (drop (place + 1) s.board)) (short_chains (length s.problem.clauses + (place + 1) + 1) (drop (place + 1) s.board)))
rest_at s place d lt ns b e =
    let n : ℕ = length s.problem.clauses + place + 1 in
    let next : n + 1 ≡ length s.problem.clauses + (place + 1) + 1 = omega arith in
    ap (λ (ss : List Step). taking s.problem s.board ns (short_chains n ss)) (drop_more s.board place d lt)
    ∙ ap (λ (m : ℕ). taking s.problem s.board ns (cond (is_short (get_or s.board place d)) (n ∷ short_chains m (drop (place + 1) s.board)) (short_chains m (drop (place + 1) s.board)))) next
    ∙ ap (λ (x : Bool). taking s.problem s.board ns (cond x (n ∷ short_chains (length s.problem.clauses + (place + 1) + 1) (drop (place + 1) s.board)) (short_chains (length s.problem.clauses + (place + 1) + 1) (drop (place + 1) s.board)))) e

pub took_long : (s : TeamView) (w from place : ℕ) (d : Step) (t : TeamView) → TookBelow s w from place t → place < length s.board → is_short (get_or s.board place d) ≡ false → TookBelow s w from (place + 1) t
took_long s w from place d t h lt long = record {
  taken = h.taken;
  after = h.after;
  same = sym (rest_at s place d lt h.taken false long) ∙ h.same;
  low = lower (length s.problem.clauses) place h.taken h.low;
}

pub took_short : (s m t : TeamView) (w from place : ℕ) (d : Step) (r : Reply) → w < length s.workers → TookBelow s w from place m → place < length s.board → is_short (get_or s.board place d) ≡ true
    → Answers m (event.Take w (length s.problem.clauses + place + 1)) r t → TookBelow s w from (place + 1) t
took_short s m t w from place d r lt h within short a = record {
  taken = cond over_limit h.taken (h.taken ++ n ∷ []);
  after = step ∙ again;
  same = sym (rest_at s place d within h.taken true short) ∙ h.same;
  low = by_case over_limit;
}
  where
    n : ℕ
    n = length s.problem.clauses + place + 1

    over_limit : Bool
    over_limit = passes_limits (extended s.problem s.board (h.taken ++ n ∷ []))

    at : worker_at m w ≡ record { taken = h.taken; made = [] }
    at = ap (λ (x : TeamView). worker_at x w) h.after ∙ get_or-set_same s.workers w (record { taken = h.taken; made = [] }) idle lt

    full : is_full m w n ≡ over_limit
    full = ap (λ (x : TeamView). passes_limits (extended x.problem x.board ((worker_at m w).taken ++ n ∷ []))) h.after ∙ ap (λ (x : WorkerView). passes_limits (extended s.problem s.board (x.taken ++ n ∷ []))) at

    there : w < length m.workers
    there = let e : length m.workers ≡ length s.workers = ap (λ (x : TeamView). length x.workers) h.after ∙ length-set s.workers w (record { taken = h.taken; made = [] }) in omega arith

    chain : IsTrue (has_chain m.problem m.board n)
    chain = ap (λ (x : TeamView). has_chain x.problem x.board n) h.after ∙ short_is_chain s.problem s.board place d within short

    fresh : has_taken m w n ≡ false
    fresh = ap (λ (x : WorkerView). list_any (λ k. n == k) x.taken) at ∙ not_taken h.taken (length s.problem.clauses + place) n h.low (omega arith)

    step : t ≡ having m w (cond over_limit h.taken (h.taken ++ n ∷ []))
    step =
        took m w n r t there chain fresh (ap (λ (x : WorkerView). x.made) at) a
        ∙ ap (λ (b : Bool). having m w (cond b (worker_at m w).taken ((worker_at m w).taken ++ n ∷ []))) full
        ∙ ap (λ (x : WorkerView). having m w (cond over_limit x.taken (x.taken ++ n ∷ []))) at

    again : having m w (cond over_limit h.taken (h.taken ++ n ∷ [])) ≡ having s w (cond over_limit h.taken (h.taken ++ n ∷ []))
    again =
        ap (λ (x : TeamView). having x w (cond over_limit h.taken (h.taken ++ n ∷ []))) h.after
        ∙ ap (λ (ws : List WorkerView). record s { workers = ws }) (set-set s.workers w (record { taken = h.taken; made = [] }) (record { taken = cond over_limit h.taken (h.taken ++ n ∷ []); made = [] }))

    by_case : (b : Bool) → All (λ k. k ≤ length s.problem.clauses + (place + 1)) (cond b h.taken (h.taken ++ n ∷ []))
    by_case true = lower (length s.problem.clauses) place h.taken h.low
    by_case false = All-push (λ k. k ≤ length s.problem.clauses + (place + 1)) h.taken n (lower (length s.problem.clauses) place h.taken h.low) (omega arith)
