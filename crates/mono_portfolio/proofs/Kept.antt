-- Workers as their team keeps them.
use Rattle.std.proofs.Common.{◌≡◌, ℕ, zero, suc, ◌+◌, ◌<◌, Bool, true, false, not, List, [], ◌∷◌, ◌++◌, length, map, get_or, set, replicate, Option, Some, None, refl, sym, ap, subst, ◌∙◌, arith, ℤ, All, length-append}
use Rattle.std.specs.Prelude.{IsTrue, nat_lt, ◌||◌, ◌==◌, Result, Ok, Err, OnErr}
use Rattle.std.specs.List.{list_any}
use Rattle.std.proofs.lemmas.Bool.{and_parts, cond-true, cond-false, lt-leb}
use Rattle.std.proofs.lemmas.Option.{IfSome_then}
use Rattle.std.proofs.lemmas.List.{append-nil, get_or-map, length-map, map-set, set-get_or}
use Rattle.std.proofs.lemmas.List.Elements.{All-map, All-push, All-replicate, All-set, All-weaker}
use Rattle.mono_base.specs.declared.limits.TheConstants.{MAX_CLAUSES, MAX_LITERALS}
use Rattle.mono_base.specs.Literal.{value_in}
use Rattle.mono_problem.specs.Instance.{Instance, literals_total}
use Rattle.mono_problem.specs.WellFormed.{IsInstance}
use Rattle.mono_steps.specs.declared.step.Step.{Step}
use Rattle.mono_steps.specs.Needed.{NamesHeld}
use Rattle.mono_steps.specs.Steps.{are_justified, ends_empty}
use Rattle.mono_steps.proofs.NeededSteps.{names_held}
use Rattle.mono_portfolio.specs.Extended.{board_clause, extended, has_chain, passes_limits}
use Rattle.mono_portfolio.specs.declared.event.Event.TheVariants as event
use Rattle.mono_portfolio.specs.declared.event.Reply.{Reply}
use Rattle.mono_portfolio.specs.declared.event.Reply.TheVariants as reply
use Rattle.mono_portfolio.specs.Moved.{moved}
use Rattle.mono_portfolio.specs.TeamView.{WorkerView, TeamView, idle, worker_at, over, with_worker, with_made, moved_from, after_give, IsWorker, IsTeam}
use Rattle.mono_portfolio.specs.Refusals.{first_reply, lacks_worker, has_taken, is_full, refusal}
use Rattle.mono_portfolio.specs.Plays.{Served, Answers}
use Rattle.mono_portfolio.specs.Searched.{Tells, HasModelsOf}
use Rattle.mono_portfolio.specs.declared.building.Built.{Built}
use Rattle.mono_portfolio.specs.Workers.{WorkerState, shown, idle_over, IsKeptWorker, SearchesOver, taken_at, unless_of, shown_team, IsKeptTeam}
use Rattle.mono_portfolio.proofs.BuiltProblems.{taken_is_at, built_stays, built_takes, built_grows}
use Rattle.mono_portfolio.proofs.Changes.{extended_kept, worker_kept, idle_ok}
use Rattle.mono_portfolio.proofs.ExtendedLaws.{literals_of, lits_more, size_of}
use Rattle.mono_portfolio.proofs.Follows.{follows}
use Rattle.mono_portfolio.proofs.Replies.{answers_served, answers_refused, may_run, may_give, run_served}

-- ---- what contracts see

pub team_of : (p : Instance) (board : List Step) (xs : List WorkerState) (o : Option Built) → IsKeptTeam p board xs o → IsTeam (shown_team p board xs)
team_of p board xs o h = record {
  problem = h.problem;
  justified = h.justified;
  workers = All-map (IsWorker p board) shown xs (All-weaker (IsKeptWorker p board) (λ x. IsWorker p board (shown x)) (λ x k. k.worker) xs h.workers);
}

pub shown_at : (p : Instance) (board : List Step) (xs : List WorkerState) (w : ℕ) (d : WorkerState) → w < length xs → worker_at (shown_team p board xs) w ≡ shown (get_or xs w d)
shown_at p board xs w d lt = get_or-map shown xs w d idle lt

pub shown_replicate : (n : ℕ) (x : WorkerState) → map shown (replicate n x) ≡ replicate n (shown x)
shown_replicate zero x = refl
shown_replicate (suc n) x = ap (λ (ys : List WorkerView). shown x ∷ ys) (shown_replicate n x)

-- ---- one worker

pub kept_new : (p : Instance) (board : List Step) → IsInstance p → IsKeptWorker p board (idle_over p)
kept_new p board ok = record {
  worker = idle_ok p board ok;
  literals = ap (λ (cs : List (List ℤ)). literals_total (record p { clauses = cs })) (sym (append-nil p.clauses));
}

pub kept_grows : (p : Instance) (board more : List Step) (x : WorkerState) → IsKeptWorker p board x → IsKeptWorker p (board ++ more) x
kept_grows p board more x k =
    let same : extended p (board ++ more) x.taken ≡ extended p board x.taken = extended_kept p board more x.taken k.worker.held in
    record {
      worker = worker_kept p board more (shown x) k.worker;
      literals = k.literals ∙ ap literals_total (sym same);
    }

pub kept_makes : (p : Instance) (board : List Step) (x : WorkerState) (steps : List Step) → IsKeptWorker p board x → IsTrue (are_justified (extended p board x.taken) steps) → IsKeptWorker p board (record x { made = steps })
kept_makes p board x steps k j = record { worker = record { held = k.worker.held; fits = k.worker.fits; justified = j }; literals = k.literals }

-- one more number is taken
abbrev pub with_taken : Instance → List Step → WorkerState → ℕ → WorkerState
with_taken p board x n = record { taken = x.taken ++ n ∷ []; made = []; literals = x.literals + length (board_clause p board n) }

pub more_literals : (p : Instance) (board : List Step) (taken : List ℕ) (n : ℕ) → literals_total (extended p board (taken ++ n ∷ [])) ≡ literals_total (extended p board taken) + length (board_clause p board n)
more_literals p board taken n = omega (arith, literals_of p board (taken ++ n ∷ []), lits_more p board taken n, literals_of p board taken)

pub kept_takes : (p : Instance) (board : List Step) (x : WorkerState) (n : ℕ) → IsKeptWorker p board x → IsTrue (has_chain p board n) → passes_limits (extended p board (x.taken ++ n ∷ [])) ≡ false → IsKeptWorker p board (with_taken p board x n)
kept_takes p board x n k h fits = record {
  worker = record { held = All-push (λ m. IsTrue (has_chain p board m)) x.taken n k.worker.held h; fits = fits; justified = refl };
  literals = ap (λ (m : ℕ). m + length (board_clause p board n)) k.literals ∙ sym (more_literals p board x.taken n);
}

-- the state after it, from its parts
pub taken_is : (p : Instance) (board : List Step) (x : WorkerState) (n literals : ℕ) (taken : List ℕ) (made : List Step) → taken ≡ x.taken ++ n ∷ [] → made ≡ [] → literals ≡ x.literals + length (board_clause p board n)
    → ◌≡◌ {A = WorkerState} (record { taken = taken; made = made; literals = literals }) (with_taken p board x n)
taken_is p board x n literals taken made t m l =
    ap (λ (ns : List ℕ). record { taken = ns; made = made; literals = literals }) t
    ∙ ap (λ (ss : List Step). record { taken = x.taken ++ n ∷ []; made = ss; literals = literals }) m
    ∙ ap (λ (k : ℕ). record { taken = x.taken ++ n ∷ []; made = []; literals = k }) l

-- whether there is room, by the counts
pub full_by_counts : (p : Instance) (board : List Step) (x : WorkerState) (n clauses literals : ℕ) → IsKeptWorker p board x → clauses ≡ length p.clauses + length x.taken + 1 → literals ≡ x.literals + length (board_clause p board n)
    → (nat_lt MAX_CLAUSES clauses || nat_lt MAX_LITERALS literals) ≡ passes_limits (extended p board (x.taken ++ n ∷ []))
full_by_counts p board x n clauses literals k c l =
    let size : length (extended p board (x.taken ++ n ∷ [])).clauses ≡ clauses = size_of p board (x.taken ++ n ∷ []) ∙ omega (arith, c, length-append x.taken (n ∷ [])) in
    let total : literals_total (extended p board (x.taken ++ n ∷ [])) ≡ literals = more_literals p board x.taken n ∙ omega (arith, l, k.literals) in
    ap (λ (m : ℕ). nat_lt MAX_CLAUSES m || nat_lt MAX_LITERALS literals) (sym size) ∙ ap (λ (m : ℕ). nat_lt MAX_CLAUSES (length (extended p board (x.taken ++ n ∷ [])).clauses) || nat_lt MAX_LITERALS m) (sym total)

-- what holds in any case holds on an error
pub on_error : {T E P : Type 0} (r : Result T E) → P → OnErr r P
on_error (Ok x) h = tt
on_error (Err e) h = h

-- ---- a team

pub team_new : (p : Instance) (n : ℕ) → IsInstance p → IsKeptTeam p [] (replicate n (idle_over p)) None
team_new p n ok = record { problem = ok; justified = refl; workers = All-replicate (IsKeptWorker p []) n (idle_over p) (kept_new p [] ok); built = tt }

-- one worker becomes y, which took the same
pub team_sets : (p : Instance) (board : List Step) (xs : List WorkerState) (o : Option Built) (w : ℕ) (x y : WorkerState) → IsKeptTeam p board xs o → x ≡ get_or xs w x → IsKeptWorker p board y → y.taken ≡ x.taken → IsKeptTeam p board (set xs w y) o
team_sets p board xs o w x y h is k same = record {
  problem = h.problem;
  justified = h.justified;
  workers = All-set (IsKeptWorker p board) xs w y k h.workers;
  built = IfSome_then o h.built (λ b. built_stays p board xs w x y b is same);
}

-- one worker becomes y, and its built problem is dropped
pub team_takes : (p : Instance) (board : List Step) (xs : List WorkerState) (o : Option Built) (w : ℕ) (y : WorkerState) → IsKeptTeam p board xs o → IsKeptWorker p board y → IsKeptTeam p board (set xs w y) (unless_of w o)
team_takes p board xs o w y h k = record {
  problem = h.problem;
  justified = h.justified;
  workers = All-set (IsKeptWorker p board) xs w y k h.workers;
  built = built_takes p board xs w y o h.built;
}

pub team_gives : (p : Instance) (board more : List Step) (xs : List WorkerState) (o : Option Built) (w : ℕ) (x y : WorkerState) → IsKeptTeam p board xs o → x ≡ get_or xs w x → IsKeptWorker p board y → y.taken ≡ x.taken → IsTrue (are_justified p (board ++ more)) → IsKeptTeam p (board ++ more) (set xs w y) o
team_gives p board more xs o w x y h is k same j = record {
  problem = h.problem;
  justified = j;
  workers = All-set (IsKeptWorker p (board ++ more)) xs w y (kept_grows p board more y k) (All-weaker (IsKeptWorker p board) (IsKeptWorker p (board ++ more)) (kept_grows p board more) xs h.workers);
  built = IfSome_then o (IfSome_then o h.built (λ b. built_stays p board xs w x y b is same)) (λ b. built_grows p board more (set xs w y) b (All-set (IsKeptWorker p board) xs w y k h.workers));
}

-- the search of a worker of a team
pub searches : (p : Instance) (board : List Step) (xs : List WorkerState) (o : Option Built) (w : ℕ) (x : WorkerState) (q : Instance) → IsKeptTeam p board xs o → w < length xs → x ≡ get_or xs w x → q ≡ extended p board (taken_at xs w) → SearchesOver p board x q
searches p board xs o w x q h lt is over = record {
  problem = h.problem;
  justified = h.justified;
  kept = subst (λ (y : WorkerState). IsKeptWorker p board y) (sym is) (h.workers w x lt);
  over = over ∙ ap (extended p board) (sym (taken_is_at xs w x lt is));
}

-- ---- what the calls of a team come to, where one worker becomes y

shown_set : (p : Instance) (board : List Step) (xs : List WorkerState) (w : ℕ) (y : WorkerState) → shown_team p board (set xs w y) ≡ with_worker (shown_team p board xs) w (shown y)
shown_set p board xs w y = ap (λ (ws : List WorkerView). record { problem = p; board = board; workers = ws }) (map-set shown xs w y)

there : (p : Instance) (board : List Step) (xs : List WorkerState) (w : ℕ) → w < length xs → w < length (shown_team p board xs).workers
there p board xs w lt = omega (arith, lt, length-map xs shown)

-- a worker that shows the same leaves its team as it was
pub unchanged : (p : Instance) (board : List Step) (xs : List WorkerState) (w : ℕ) (x y : WorkerState) → w < length xs → x ≡ get_or xs w x → shown y ≡ shown x → shown_team p board (set xs w y) ≡ shown_team p board xs
unchanged p board xs w x y lt is same =
    let s : TeamView = shown_team p board xs in
    let at : worker_at s w ≡ shown x = shown_at p board xs w x lt ∙ ap shown (sym is) in
    shown_set p board xs w y ∙ ap (λ (z : WorkerView). with_worker s w z) (same ∙ sym at) ∙ ap (λ (ws : List WorkerView). record s { workers = ws }) (set-get_or s.workers w idle)

-- a Run
pub run_answers : (p : Instance) (board : List Step) (xs : List WorkerState) (w slice : ℕ) (r : Reply) (x y : WorkerState) → w < length xs → x ≡ get_or xs w x → (slice == 0) ≡ false → Tells p (extended p board x.taken) slice r y.made → y.taken ≡ x.taken
    → Answers (shown_team p board xs) (event.Run w slice) r (shown_team p board (set xs w y))
run_answers p board xs w slice r x y lt is some tells taken =
    let s : TeamView = shown_team p board xs in
    let at : worker_at s w ≡ shown x = shown_at p board xs w x lt ∙ ap shown (sym is) in
    let over_is : over s w ≡ extended p board x.taken = ap (λ (z : WorkerView). extended p board z.taken) at in
    let served : Served s (event.Run w slice) r (with_made s w y.made) = run_served s w slice r y.made (subst (λ (q : Instance). Tells p q slice r y.made) (sym over_is) tells) in
    let worker : shown y ≡ record (worker_at s w) { made = y.made } = ap (λ (ns : List ℕ). record { taken = ns; made = y.made }) (taken ∙ ap (λ (z : WorkerView). z.taken) (sym at)) in
    let after : shown_team p board (set xs w y) ≡ with_made s w y.made = shown_set p board xs w y ∙ ap (λ (z : WorkerView). with_worker s w z) worker in
    answers_served s (event.Run w slice) r (shown_team p board (set xs w y)) (may_run s w slice (there p board xs w lt) some)
    (subst (λ (t : TeamView). Served s (event.Run w slice) r t) (sym after) served)

-- a Take
may_take : (s : TeamView) (w n : ℕ) → w < length s.workers → has_chain s.problem s.board n ≡ true → has_taken s w n ≡ false → is_full s w n ≡ false → refusal s (event.Take w n) ≡ None
may_take s w n lt step new fits =
    let third : List (Bool × Reply) = (is_full s w n, reply.Full) ∷ [] in
    let second : List (Bool × Reply) = (has_taken s w n, reply.AlreadyTaken) ∷ third in
    cond-false (lacks_worker s w) (Some reply.NoWorker) (first_reply ((not (has_chain s.problem s.board n), reply.NoStep) ∷ second)) (lt-leb (length s.workers) w lt)
    ∙ cond-false (not (has_chain s.problem s.board n)) (Some reply.NoStep) (first_reply second) (ap not step)
    ∙ cond-false (has_taken s w n) (Some reply.AlreadyTaken) (first_reply third) new
    ∙ cond-false (is_full s w n) (Some reply.Full) None fits

pub take_answers : (p : Instance) (board : List Step) (xs : List WorkerState) (w n : ℕ) (x y : WorkerState) → w < length xs → x ≡ get_or xs w x → has_chain p board n ≡ true → list_any (λ m. n == m) x.taken ≡ false → passes_limits (extended p board (x.taken ++ n ∷ [])) ≡ false
    → shown y ≡ record { taken = x.taken ++ n ∷ []; made = [] } → Answers (shown_team p board xs) (event.Take w n) reply.Taken (shown_team p board (set xs w y))
take_answers p board xs w n x y lt is step new fits after =
    let s : TeamView = shown_team p board xs in
    let at : worker_at s w ≡ shown x = shown_at p board xs w x lt ∙ ap shown (sym is) in
    let same : (worker_at s w).taken ≡ x.taken = ap (λ (z : WorkerView). z.taken) at in
    let none = may_take s w n (there p board xs w lt) step (ap (list_any (λ m. n == m)) same ∙ new) (ap (λ (ns : List ℕ). passes_limits (extended p board (ns ++ n ∷ []))) same ∙ fits) in
    let worker : shown y ≡ record { taken = (worker_at s w).taken ++ n ∷ []; made = [] } = after ∙ ap (λ (ns : List ℕ). record { taken = ns ++ n ∷ []; made = [] }) (sym same) in
    answers_served s (event.Take w n) reply.Taken (shown_team p board (set xs w y)) none (shown_set p board xs w y ∙ ap (λ (z : WorkerView). with_worker s w z) worker)

pub already_taken : (p : Instance) (board : List Step) (xs : List WorkerState) (w n : ℕ) (x : WorkerState) → w < length xs → x ≡ get_or xs w x → has_chain p board n ≡ true → list_any (λ m. n == m) x.taken ≡ true
    → Answers (shown_team p board xs) (event.Take w n) reply.AlreadyTaken (shown_team p board xs)
already_taken p board xs w n x lt is step old =
    let s : TeamView = shown_team p board xs in
    let same : (worker_at s w).taken ≡ x.taken = ap (λ (z : WorkerView). z.taken) (shown_at p board xs w x lt ∙ ap shown (sym is)) in
    let third : List (Bool × Reply) = (is_full s w n, reply.Full) ∷ [] in
    let second : List (Bool × Reply) = (has_taken s w n, reply.AlreadyTaken) ∷ third in
    answers_refused s (event.Take w n) reply.AlreadyTaken (
    cond-false (lacks_worker s w) (Some reply.NoWorker) (first_reply ((not (has_chain p board n), reply.NoStep) ∷ second)) (lt-leb (length s.workers) w (there p board xs w lt))
    ∙ cond-false (not (has_chain p board n)) (Some reply.NoStep) (first_reply second) (ap not step)
    ∙ cond-true (has_taken s w n) (Some reply.AlreadyTaken) (first_reply third) (ap (list_any (λ m. n == m)) same ∙ old)
    )

pub full : (p : Instance) (board : List Step) (xs : List WorkerState) (w n : ℕ) (x : WorkerState) → w < length xs → x ≡ get_or xs w x → has_chain p board n ≡ true → list_any (λ m. n == m) x.taken ≡ false → passes_limits (extended p board (x.taken ++ n ∷ [])) ≡ true
    → Answers (shown_team p board xs) (event.Take w n) reply.Full (shown_team p board xs)
full p board xs w n x lt is step new over =
    let s : TeamView = shown_team p board xs in
    let same : (worker_at s w).taken ≡ x.taken = ap (λ (z : WorkerView). z.taken) (shown_at p board xs w x lt ∙ ap shown (sym is)) in
    let third : List (Bool × Reply) = (is_full s w n, reply.Full) ∷ [] in
    let second : List (Bool × Reply) = (has_taken s w n, reply.AlreadyTaken) ∷ third in
    answers_refused s (event.Take w n) reply.Full (
    cond-false (lacks_worker s w) (Some reply.NoWorker) (first_reply ((not (has_chain p board n), reply.NoStep) ∷ second)) (lt-leb (length s.workers) w (there p board xs w lt))
    ∙ cond-false (not (has_chain p board n)) (Some reply.NoStep) (first_reply second) (ap not step)
    ∙ cond-false (has_taken s w n) (Some reply.AlreadyTaken) (first_reply third) (ap (list_any (λ m. n == m)) same ∙ new)
    ∙ cond-true (is_full s w n) (Some reply.Full) None (ap (λ (ns : List ℕ). passes_limits (extended p board (ns ++ n ∷ []))) same ∙ over)
    )

-- a Give
pub give_answers : (p : Instance) (board more : List Step) (xs : List WorkerState) (w n : ℕ) (x y : WorkerState) → w < length xs → x ≡ get_or xs w x → (length x.made == 0) ≡ false → more ≡ moved p x.made x.taken board → y ≡ record x { made = [] } → n ≡ length x.made
    → Answers (shown_team p board xs) (event.Give w) (reply.Given n) (shown_team p (board ++ more) (set xs w y))
give_answers p board more xs w n x y lt is some more_is after count =
    let s : TeamView = shown_team p board xs in
    let at : worker_at s w ≡ shown x = shown_at p board xs w x lt ∙ ap shown (sym is) in
    let none = may_give s w (there p board xs w lt) (ap (λ (z : WorkerView). length z.made == 0) at ∙ some) in
    let worker : shown y ≡ record (worker_at s w) { made = [] } = ap shown after ∙ ap (λ (z : WorkerView). record z { made = [] }) (sym at) in
    let steps : more ≡ moved_from s w = more_is ∙ ap (λ (z : WorkerView). moved p z.made z.taken board) (sym at) in
    let state : shown_team p (board ++ more) (set xs w y) ≡ after_give s w =
    ap (λ (ws : List WorkerView). record { problem = p; board = board ++ more; workers = ws }) (map-set shown xs w y)
    ∙ ap (λ (z : WorkerView). record { problem = p; board = board ++ more; workers = set s.workers w z }) worker
    ∙ ap (λ (ss : List Step). record { problem = p; board = board ++ ss; workers = set s.workers w (record (worker_at s w) { made = [] }) }) steps in
    answers_served s (event.Give w) (reply.Given n) (shown_team p (board ++ more) (set xs w y)) none (count ∙ ap (λ (z : WorkerView). length z.made) (sym at), state)

-- the steps that a worker made name clauses of its problem and steps before them
pub kept_names : (p : Instance) (board : List Step) (x : WorkerState) (count : ℕ) (taken : List ℕ) (made : List Step) → IsKeptWorker p board x → count ≡ length p.clauses → taken ≡ x.taken → made ≡ x.made → NamesHeld (count + length taken) made
kept_names p board x count taken made k count_is taken_is made_is =
    let all : NamesHeld (length (extended p board x.taken).clauses) x.made = names_held (extended p board x.taken) x.made k.worker.justified in
    let size : length (extended p board x.taken).clauses ≡ count + length taken = size_of p board x.taken ∙ ap (λ (n : ℕ). n + length x.taken) (sym count_is) ∙ ap (λ (ns : List ℕ). count + length ns) (sym taken_is) in
    subst (λ (ss : List Step). NamesHeld (count + length taken) ss) (sym made_is) (subst (λ (n : ℕ). NamesHeld n x.made) size all)

-- ---- a search of a worker

-- the clauses that it took follow from the problem, so its models are the problem's
models_of : (p : Instance) (board : List Step) (taken : List ℕ) → IsInstance p → IsTrue (are_justified p board) → All (λ n. IsTrue (has_chain p board n)) taken → HasModelsOf p (extended p board taken)
models_of p board taken ok j held = λ model h. record { len = h.len; satisfies = (follows p board taken (value_in model) ok j held).1 h.satisfies }

tells_justified : (p q : Instance) (slice : ℕ) (r : Reply) (made : List Step) → Tells p q slice r made → IsTrue (are_justified q made)
tells_justified p q slice (reply.Model m) made h = subst (λ (ss : List Step). IsTrue (are_justified q ss)) (sym h.1) refl
tells_justified p q slice reply.Unsat made h = (and_parts (are_justified q made) (ends_empty made) h.refutes).0
tells_justified p q slice reply.Slice made h = h.justified
tells_justified p q slice (reply.Given n) made h = absurd h
tells_justified p q slice reply.Taken made h = absurd h
tells_justified p q slice reply.NoWorker made h = absurd h
tells_justified p q slice reply.ZeroSlice made h = absurd h
tells_justified p q slice reply.NothingMade made h = absurd h
tells_justified p q slice reply.NoStep made h = absurd h
tells_justified p q slice reply.AlreadyTaken made h = absurd h
tells_justified p q slice reply.Full made h = absurd h

pub told_by : (p : Instance) (board : List Step) (x : WorkerState) (q : Instance) → SearchesOver p board x q → HasModelsOf p q
told_by p board x q h = subst (λ (r : Instance). HasModelsOf p r) (sym h.over) (models_of p board x.taken h.problem h.justified h.kept.worker.held)

pub kept_runs : (p : Instance) (board : List Step) (x : WorkerState) (q : Instance) (slice : ℕ) (r : Reply) (made : List Step) → SearchesOver p board x q → Tells p q slice r made → IsKeptWorker p board (record x { made = made })
kept_runs p board x q slice r made h tells = kept_makes p board x made h.kept (subst (λ (i : Instance). IsTrue (are_justified i made)) h.over (tells_justified p q slice r made tells))
