-- What one event does to the state.
use Rattle.std.proofs.Common.{◌≡◌, ℕ, ◌-◌, ◌<◌, ◌≤◌, Bool, true, false, not, List, [], ◌∷◌, ◌++◌, length, map, set, Option, Some, None, refl, sym, ap, subst, ◌∙◌, arith, ℤ, All}
use Rattle.std.specs.Prelude.{IsTrue, MatchOption, ◌==◌, nat_lt}
use Rattle.std.specs.List.{list_all}
use Rattle.std.proofs.lemmas.Bool.{and_parts, not-false, leb-false, cases_lt, cond-true, cond-false, or_from, le-ltb}
use Rattle.std.proofs.lemmas.List.{append-nil, length-map, get_or_past}
use Rattle.std.proofs.lemmas.List.Elements.{All-nil, All-head, All-tail, All-push, All-set, All-replicate, All-weaker}
use Rattle.std.proofs.Common.{inl, inr, ◌⊎◌}
use Rattle.std.proofs.lemmas.Option.{same_Some, none-some}
use Rattle.mono_base.specs.declared.limits.TheConstants.{MAX_CLAUSES, MAX_LITERALS}
use Rattle.mono_problem.specs.WellFormed.{IsInstance}
use Rattle.mono_problem.specs.Instance.{Instance, literals_total}
use Rattle.mono_steps.specs.declared.step.Step.{Step}
use Rattle.mono_steps.specs.Steps.{are_justified, is_refutation, ends_empty}
use Rattle.mono_steps.proofs.StepLists.{numbered_more}
use Rattle.mono_portfolio.specs.declared.event.Event.{Event}
use Rattle.mono_portfolio.specs.declared.event.Event.TheVariants as event
use Rattle.mono_portfolio.specs.declared.event.Reply.{Reply}
use Rattle.mono_portfolio.specs.declared.event.Reply.TheVariants as reply
use Rattle.mono_portfolio.specs.Extended.{board_clause, extended, is_some_chain, has_chain, passes_limits}
use Rattle.mono_portfolio.specs.Moved.{moved_step}
use Rattle.mono_portfolio.specs.TeamView.{WorkerView, TeamView, idle, start, worker_at, over, with_worker, moved_from, IsWorker, IsTeam}
use Rattle.mono_portfolio.specs.Refusals.{first_reply, lacks_worker, has_taken, is_full, refusal}
use Rattle.mono_portfolio.specs.Plays.{Served, Answers}
use Rattle.mono_portfolio.specs.Soundness.{worker_of, is_unsat, IsTrueModel, given_by}
use Rattle.mono_portfolio.proofs.Held.{held_number, clause_kept}
use Rattle.mono_portfolio.proofs.Carried.{moved_justified}

-- ---- a board that grows

pub chain_kept : (p : Instance) (board more : List Step) (n : ℕ) → IsTrue (has_chain p board n) → IsTrue (has_chain p (board ++ more) n)
chain_kept p board more n h =
    let at = held_number p board n h in
    ap is_some_chain (numbered_more board more (n - length p.clauses) (omega (arith, at.high))) ∙ h

clauses_kept : (p : Instance) (board more : List Step) (taken : List ℕ) → All (λ n. IsTrue (has_chain p board n)) taken → map (board_clause p (board ++ more)) taken ≡ map (board_clause p board) taken
clauses_kept p board more [] held = refl
clauses_kept p board more (n ∷ ns) held =
    let at = held_number p board n (All-head (λ n. IsTrue (has_chain p board n)) n ns held) in
    let rest = clauses_kept p board more ns (All-tail (λ n. IsTrue (has_chain p board n)) n ns held) in
    ap (λ (c : List ℤ). c ∷ map (board_clause p (board ++ more)) ns) (clause_kept p board more n at) ∙ ap (λ (cs : List (List ℤ)). board_clause p board n ∷ cs) rest

pub extended_kept : (p : Instance) (board more : List Step) (taken : List ℕ) → All (λ n. IsTrue (has_chain p board n)) taken → extended p (board ++ more) taken ≡ extended p board taken
extended_kept p board more taken held = ap (λ (cs : List (List ℤ)). record p { clauses = p.clauses ++ cs }) (clauses_kept p board more taken held)

pub worker_kept : (p : Instance) (board more : List Step) (x : WorkerView) → IsWorker p board x → IsWorker p (board ++ more) x
worker_kept p board more x h = record {
  held = All-weaker (λ n. IsTrue (has_chain p board n)) (λ n. IsTrue (has_chain p (board ++ more) n)) (chain_kept p board more) x.taken h.held;
  fits = ap passes_limits (extended_kept p board more x.taken h.held) ∙ h.fits;
  justified = subst (λ (q : Instance). IsTrue (are_justified q x.made)) (sym (extended_kept p board more x.taken h.held)) h.justified;
}

-- ---- workers

pub fits_itself : (p : Instance) → IsInstance p → passes_limits p ≡ false
fits_itself p ok = or_from (nat_lt MAX_CLAUSES (length p.clauses)) (nat_lt MAX_LITERALS (literals_total p)) (le-ltb MAX_CLAUSES (length p.clauses) ok.few_clauses) (le-ltb MAX_LITERALS (literals_total p) ok.few_literals)

pub idle_ok : (p : Instance) (board : List Step) → IsInstance p → IsWorker p board idle
idle_ok p board ok = record {
  held = All-nil (λ n. IsTrue (has_chain p board n));
  fits = ap (λ (cs : List (List ℤ)). passes_limits (record p { clauses = cs })) (append-nil p.clauses) ∙ fits_itself p ok;
  justified = refl;
}

pub start_ok : (p : Instance) (workers : ℕ) → IsInstance p → IsTeam (start p workers)
start_ok p workers ok = record { problem = ok; justified = refl; workers = All-replicate (IsWorker p []) workers idle (idle_ok p [] ok) }

pub worker_ok : (s : TeamView) (w : ℕ) → IsTeam s → IsWorker s.problem s.board (worker_at s w)
worker_ok s w h = by_place (cases_lt w (length s.workers))
  where
    by_place : (w < length s.workers) ⊎ (length s.workers ≤ w) → IsWorker s.problem s.board (worker_at s w)
    by_place (inl lt) = h.workers w idle lt
    by_place (inr ge) = subst (λ (x : WorkerView). IsWorker s.problem s.board x) (sym (get_or_past s.workers w idle ge)) (idle_ok s.problem s.board h.problem)

-- ---- refusals

-- the replies that change nothing
abbrev pub is_refused : Reply → Bool
is_refused (reply.Model m) = false
is_refused reply.Unsat = false
is_refused reply.Slice = false
is_refused (reply.Given n) = false
is_refused reply.Taken = false
is_refused r = true

one_of : (xs : List (Bool × Reply)) (q : Reply) → IsTrue (list_all (λ (x : Bool × Reply). is_refused x.1) xs) → first_reply xs ≡ Some q → IsTrue (is_refused q)
one_of [] q h e = absurd cc
one_of (x ∷ xs) q h e = by_head x.0 refl (one_of xs q a.1)
  where
    a : (is_refused x.1 ≡ true) × (list_all (λ (y : Bool × Reply). is_refused y.1) xs ≡ true)
    a = and_parts (is_refused x.1) (list_all (λ (y : Bool × Reply). is_refused y.1) xs) h

    by_head : (b : Bool) → x.0 ≡ b → (first_reply xs ≡ Some q → IsTrue (is_refused q)) → IsTrue (is_refused q)
    by_head true f rest = let g : Some x.1 ≡ Some q = sym (cond-true x.0 (Some x.1) (first_reply xs) f) ∙ e in subst (λ (r : Reply). IsTrue (is_refused r)) (same_Some x.1 q g) a.0
    by_head false f rest = rest (sym (cond-false x.0 (Some x.1) (first_reply xs) f) ∙ e)

pub refusal_is_one : (s : TeamView) (e : Event) (q : Reply) → refusal s e ≡ Some q → IsTrue (is_refused q)
refusal_is_one s (event.Run w slice) q h = one_of ((lacks_worker s w, reply.NoWorker) ∷ (slice == 0, reply.ZeroSlice) ∷ []) q refl h
refusal_is_one s (event.Give w) q h = one_of ((lacks_worker s w, reply.NoWorker) ∷ (length (worker_at s w).made == 0, reply.NothingMade) ∷ []) q refl h
refusal_is_one s (event.Take w n) q h =
    one_of ((lacks_worker s w, reply.NoWorker) ∷ (not (has_chain s.problem s.board n), reply.NoStep) ∷ (has_taken s w n, reply.AlreadyTaken) ∷ (is_full s w n, reply.Full) ∷ []) q refl h

-- no reply comes before one that isn't there
none_of : (x : Bool × Reply) (xs : List (Bool × Reply)) → first_reply (x ∷ xs) ≡ None → (x.0 ≡ false) × (first_reply xs ≡ None)
none_of x xs e = by_head x.0 refl
  where
    by_head : (b : Bool) → x.0 ≡ b → (x.0 ≡ false) × (first_reply xs ≡ None)
    by_head true f = absurd (none-some x.1 (sym e ∙ cond-true x.0 (Some x.1) (first_reply xs) f))
    by_head false f = (f, sym (cond-false x.0 (Some x.1) (first_reply xs) f) ∙ e)

pub has_worker : (s : TeamView) (e : Event) → refusal s e ≡ None → worker_of e < length s.workers
has_worker s (event.Run w slice) h = leb-false (length s.workers) w (none_of (lacks_worker s w, reply.NoWorker) ((slice == 0, reply.ZeroSlice) ∷ []) h).0
has_worker s (event.Give w) h = leb-false (length s.workers) w (none_of (lacks_worker s w, reply.NoWorker) ((length (worker_at s w).made == 0, reply.NothingMade) ∷ []) h).0
has_worker s (event.Take w n) h =
    leb-false (length s.workers) w (none_of (lacks_worker s w, reply.NoWorker) ((not (has_chain s.problem s.board n), reply.NoStep) ∷ (has_taken s w n, reply.AlreadyTaken) ∷ (is_full s w n, reply.Full) ∷ []) h).0

has_step : (s : TeamView) (w n : ℕ) → refusal s (event.Take w n) ≡ None → IsTrue (has_chain s.problem s.board n)
has_step s w n h =
    let rest : List (Bool × Reply) = (has_taken s w n, reply.AlreadyTaken) ∷ (is_full s w n, reply.Full) ∷ [] in
    let a = none_of (lacks_worker s w, reply.NoWorker) ((not (has_chain s.problem s.board n), reply.NoStep) ∷ rest) h in
    not-false (has_chain s.problem s.board n) (none_of (not (has_chain s.problem s.board n), reply.NoStep) rest a.1).0

has_room : (s : TeamView) (w n : ℕ) → refusal s (event.Take w n) ≡ None → is_full s w n ≡ false
has_room s w n h =
    let last : List (Bool × Reply) = (is_full s w n, reply.Full) ∷ [] in
    let rest : List (Bool × Reply) = (has_taken s w n, reply.AlreadyTaken) ∷ last in
    let a = none_of (lacks_worker s w, reply.NoWorker) ((not (has_chain s.problem s.board n), reply.NoStep) ∷ rest) h in
    let b = none_of (not (has_chain s.problem s.board n), reply.NoStep) rest a.1 in
    let c = none_of (has_taken s w n, reply.AlreadyTaken) last b.1 in
    (none_of (is_full s w n, reply.Full) [] c.1).0

-- ---- what an event does

-- the event's worker becomes x, and these steps join the board
pub record Changes (s : TeamView) (e : Event) (r : Reply) (t : TeamView) : Type 0 where
  pub worker : WorkerView
  pub more : List Step
  pub after : t ≡ record { problem = s.problem; board = s.board ++ more; workers = set s.workers (worker_of e) worker }
  pub count : length more ≡ given_by r
  pub ok : IsWorker s.problem s.board worker
  pub justified : IsTrue (are_justified s.problem (s.board ++ more))
  pub model : IsTrueModel s.problem r
  pub unsat : IsTrue (is_unsat r) → IsTrue (is_refutation (extended s.problem s.board worker.taken) worker.made)

board_same : (s : TeamView) (w : ℕ) (x : WorkerView) → with_worker s w x ≡ record { problem = s.problem; board = s.board ++ []; workers = set s.workers w x }
board_same s w x = ap (λ (b : List Step). record { problem = s.problem; board = b; workers = set s.workers w x }) (sym (append-nil s.board))

-- with the board as it was
changes_worker : (s : TeamView) (e : Event) (r : Reply) (t : TeamView) (x : WorkerView) → IsTeam s → t ≡ with_worker s (worker_of e) x → 0 ≡ given_by r → IsWorker s.problem s.board x → IsTrueModel s.problem r
    → (IsTrue (is_unsat r) → IsTrue (is_refutation (extended s.problem s.board x.taken) x.made)) → Changes s e r t
changes_worker s e r t x h after count ok model unsat = record {
  worker = x;
  more = [];
  after = after ∙ board_same s (worker_of e) x;
  count = count;
  ok = ok;
  justified = subst (λ (b : List Step). IsTrue (are_justified s.problem b)) (sym (append-nil s.board)) h.justified;
  model = model;
  unsat = unsat;
}

pub served_changes : (s : TeamView) (e : Event) (r : Reply) (t : TeamView) → IsTeam s → refusal s e ≡ None → Served s e r t → Changes s e r t
served_changes s (event.Run w slice) (reply.Model m) t h n v =
    changes_worker s (event.Run w slice) (reply.Model m) t (record (worker_at s w) { made = [] }) h v.1 refl (record { held = (worker_ok s w h).held; fits = (worker_ok s w h).fits; justified = refl }) v.0 (λ u. absurd cc)
served_changes s (event.Run w slice) reply.Unsat t h n v =
    changes_worker s (event.Run w slice) reply.Unsat t (record (worker_at s w) { made = v.made }) h v.after refl
    (record { held = (worker_ok s w h).held; fits = (worker_ok s w h).fits; justified = (and_parts (are_justified (over s w) v.made) (ends_empty v.made) v.are.refutes).0 }) tt (λ u. v.are.refutes)
served_changes s (event.Run w slice) reply.Slice t h n v =
    changes_worker s (event.Run w slice) reply.Slice t (record (worker_at s w) { made = v.made }) h v.after refl (record { held = (worker_ok s w h).held; fits = (worker_ok s w h).fits; justified = v.are.justified }) tt (λ u. absurd cc)
served_changes s (event.Take w m) reply.Taken t h n v =
    changes_worker s (event.Take w m) reply.Taken t (record { taken = (worker_at s w).taken ++ m ∷ []; made = [] }) h v refl
    (record { held = All-push (λ k. IsTrue (has_chain s.problem s.board k)) (worker_at s w).taken m (worker_ok s w h).held (has_step s w m n); fits = has_room s w m n; justified = refl }) tt (λ u. absurd cc)
served_changes s (event.Give w) (reply.Given k) t h n v =
    let x = worker_ok s w h in
    record {
      worker = record (worker_at s w) { made = [] };
      more = moved_from s w;
      after = v.1;
      count = length-map (worker_at s w).made (moved_step (length s.problem.clauses) (worker_at s w).taken (length s.board)) ∙ sym v.0;
      ok = record { held = x.held; fits = x.fits; justified = refl };
      justified = moved_justified s.problem s.board (worker_at s w).taken (worker_at s w).made h.justified x.held x.justified;
      model = tt;
      unsat = λ u. absurd cc;
    }
served_changes s e r t h n v = absurd v

pub change_keeps : (s : TeamView) (e : Event) (r : Reply) (t : TeamView) → IsTeam s → Changes s e r t → IsTeam t
change_keeps s e r t h c = subst IsTeam (sym c.after) (record {
  problem = h.problem;
  justified = c.justified;
  workers = All-set (IsWorker s.problem (s.board ++ c.more)) s.workers (worker_of e) c.worker (worker_kept s.problem s.board c.more c.worker c.ok)
      (All-weaker (IsWorker s.problem s.board) (IsWorker s.problem (s.board ++ c.more)) (worker_kept s.problem s.board c.more) s.workers h.workers);
})

-- either the reply is a refusal and nothing changes, or the event changes its worker and the board
pub data Happens (s : TeamView) (e : Event) (r : Reply) (t : TeamView) : Type 0 where
  refuses : refusal s e ≡ Some r → IsTrue (is_refused r) → t ≡ s → Happens s e r t
  changes : refusal s e ≡ None → Served s e r t → Changes s e r t → Happens s e r t

pub what_happens : (s : TeamView) (e : Event) (r : Reply) (t : TeamView) → IsTeam s → Answers s e r t → Happens s e r t
what_happens s e r t h a = by_refusal (refusal s e) refl a
  where
    by_refusal : (o : Option Reply) → refusal s e ≡ o → MatchOption o (Served s e r t) (λ refused. (r ≡ refused) × (t ≡ s)) → Happens s e r t
    by_refusal None n v = changes n v (served_changes s e r t h n v)
    by_refusal (Some q) n v = refuses (n ∙ ap Some (sym v.0)) (subst (λ (x : Reply). IsTrue (is_refused x)) (sym v.0) (refusal_is_one s e q n)) v.1
