-- Rounds, one after another.
use Rattle.std.proofs.Common.{◌≡◌, ℕ, zero, suc, ◌+◌, ◌-◌, ◌<◌, ◌≤◌, Bool, true, false, cond, List, [], ◌∷◌, ◌++◌, length, replicate, drop, refl, sym, ap, subst, ◌∙◌, arith, All, length-append}
use Rattle.std.specs.Prelude.{◌^◌}
use Rattle.std.proofs.lemmas.List.{get_or_at, set_at, length-replicate, length-drop, replicate_more, append_assoc, append-nil}
use Rattle.std.proofs.lemmas.List.Elements.{All-nil, All-cons, All-head, All-tail, All-push, All-weaker}
use Rattle.mono_problem.specs.Instance.{Instance}
use Rattle.mono_steps.specs.declared.step.Step.{Step}
use Rattle.mono_portfolio.specs.Extended.{extended, passes_limits}
use Rattle.mono_portfolio.specs.declared.rounds.Turn.{Turn}
use Rattle.mono_portfolio.specs.declared.rounds.Turn.TheVariants as turn
use Rattle.mono_portfolio.specs.TeamView.{WorkerView, TeamView, idle, start, worker_at}
use Rattle.mono_portfolio.specs.Rounds.{is_short, short_chains, taking, IsRound, AreRounds, Rounds}
use Rattle.mono_portfolio.specs.Ends.{IsAtTurn}
use Rattle.mono_portfolio.specs.Turns.{even, having, IsRounded, IsStopped, Stops, RoundsTo, EndsBy, taken_after}

-- ---- the first workers took more

abbrev pub partly : Instance → List Step → ℕ → ℕ → List ℕ → List ℕ → TeamView
partly p board w m new old = record { problem = p; board = board; workers = replicate w (record { taken = new; made = [] }) ++ replicate m (record { taken = old; made = [] }) }

pub part_at : (p : Instance) (board : List Step) (w m : ℕ) (new old : List ℕ) → worker_at (partly p board w (suc m) new old) w ≡ record { taken = old; made = [] }
part_at p board w m new old =
    get_or_at (replicate w (record { taken = new; made = [] })) (record { taken = old; made = [] }) (replicate m (record { taken = old; made = [] })) idle w (length-replicate w (record { taken = new; made = [] }))

pub part_more : (p : Instance) (board : List Step) (w m : ℕ) (new old : List ℕ) → having (partly p board w (suc m) new old) w new ≡ partly p board (w + 1) m new old
part_more p board w m new old =
    let x : WorkerView = record { taken = new; made = [] } in
    let ys : List WorkerView = replicate m (record { taken = old; made = [] }) in
    ap (λ (ws : List WorkerView). record { problem = p; board = board; workers = ws })
    (set_at (replicate w x) (record { taken = old; made = [] }) ys x w (length-replicate w x) ∙ sym (append_assoc (replicate w x) (x ∷ []) ys) ∙ ap (λ (ws : List WorkerView). ws ++ ys) (replicate_more w x))

-- the first w of k workers took what is short
pub record TookSome (s : TeamView) (from w : ℕ) (t : TeamView) : Type 0 where
  pub same : (taken : List ℕ) → s ≡ even s.problem (length s.workers) taken s.board
      → t ≡ partly s.problem s.board w (length s.workers - w) (taken_after s.problem s.board from taken) taken

pub took_by_none : (s : TeamView) (from : ℕ) → TookSome s from 0 s
took_by_none s from = record { same = λ taken is. is ∙ (let e : length s.workers ≡ length s.workers - 0 = omega arith in ap (λ (n : ℕ). even s.problem n taken s.board) e) }

-- the next one is as it was
pub next_worker : (s m : TeamView) (from w : ℕ) (taken : List ℕ) → s ≡ even s.problem (length s.workers) taken s.board → w < length s.workers → TookSome s from w m
    → m ≡ partly s.problem s.board w (suc (length s.workers - (w + 1))) (taken_after s.problem s.board from taken) taken
next_worker s m from w taken is lt h =
    let e : length s.workers - w ≡ suc (length s.workers - (w + 1)) = omega arith in
    h.same taken is ∙ ap (λ (n : ℕ). partly s.problem s.board w n (taken_after s.problem s.board from taken) taken) e

pub next_at : (s m : TeamView) (from w : ℕ) (taken : List ℕ) → s ≡ even s.problem (length s.workers) taken s.board → w < length s.workers → TookSome s from w m → worker_at m w ≡ record { taken = taken; made = [] }
next_at s m from w taken is lt h =
    ap (λ (x : TeamView). worker_at x w) (next_worker s m from w taken is lt h) ∙ part_at s.problem s.board w (length s.workers - (w + 1)) (taken_after s.problem s.board from taken) taken

pub took_by_next : (s m t : TeamView) (from w : ℕ) → w < length s.workers → TookSome s from w m → t ≡ having m w (taken_after m.problem m.board from (worker_at m w).taken) → TookSome s from (w + 1) t
took_by_next s m t from w lt h after = record {
  same = λ taken is.
      let n : List ℕ = taken_after s.problem s.board from taken in
      let e = next_worker s m from w taken is lt h in
      after
      ∙ ap (λ (x : WorkerView). having m w (taken_after m.problem m.board from x.taken)) (next_at s m from w taken is lt h)
      ∙ ap (λ (x : TeamView). having x w (taken_after x.problem x.board from taken)) e
      ∙ part_more s.problem s.board w (length s.workers - (w + 1)) n taken;
}

pub took_by_all : (s t : TeamView) (from : ℕ) → TookSome s from (length s.workers) t → (taken : List ℕ) → s ≡ even s.problem (length s.workers) taken s.board
    → t ≡ even s.problem (length s.workers) (taken_after s.problem s.board from taken) s.board
took_by_all s t from h taken is =
    let e : length s.workers - length s.workers ≡ 0 = omega arith in
    let x : WorkerView = record { taken = taken_after s.problem s.board from taken; made = [] } in
    h.same taken is ∙ ap (λ (n : ℕ). partly s.problem s.board (length s.workers) n (taken_after s.problem s.board from taken) taken) e
    ∙ ap (λ (ws : List WorkerView). record { problem = s.problem; board = s.board; workers = ws }) (append-nil (replicate (length s.workers) x))

-- ---- how great the taken numbers are

short_low : (n : ℕ) (ss : List Step) (most : ℕ) → n + length ss ≤ most + 1 → All (λ k. k ≤ most) (short_chains n ss)
short_low n [] most le = All-nil (λ k. k ≤ most)
short_low n (s ∷ ss) most le = by_short (is_short s) (short_low (n + 1) ss most (omega arith))
  where
    by_short : (b : Bool) → All (λ k. k ≤ most) (short_chains (n + 1) ss) → All (λ k. k ≤ most) (cond b (n ∷ short_chains (n + 1) ss) (short_chains (n + 1) ss))
    by_short true h = All-cons (λ k. k ≤ most) n (short_chains (n + 1) ss) (omega arith) h
    by_short false h = h

taking_low : (p : Instance) (board : List Step) (taken ns : List ℕ) (most : ℕ) → All (λ k. k ≤ most) taken → All (λ k. k ≤ most) ns → All (λ k. k ≤ most) (taking p board taken ns)
taking_low p board taken [] most h l = h
taking_low p board taken (n ∷ ns) most h l =
    taking_low p board (cond (passes_limits (extended p board (taken ++ n ∷ []))) taken (taken ++ n ∷ [])) ns most (by_full (passes_limits (extended p board (taken ++ n ∷ [])))) (All-tail (λ k. k ≤ most) n ns l)
  where
    by_full : (b : Bool) → All (λ k. k ≤ most) (cond b taken (taken ++ n ∷ []))
    by_full true = h
    by_full false = All-push (λ k. k ≤ most) taken n h (All-head (λ k. k ≤ most) n ns l)

-- ---- rounds

pub record RoundsSoFar (p : Instance) (workers rounds : ℕ) (t : TeamView) : Type 0 where
  pub taken : List ℕ
  pub is : t ≡ even p workers taken t.board
  pub low : All (λ n. n ≤ length p.clauses + length t.board) taken
  pub few : 0 < rounds → 0 < workers → 1000 < 3 ^ p.vars
  pub leads : (more : ℕ) (last : List ℕ) (board : List Step) → AreRounds 1000 p workers more taken t.board last board → AreRounds 1000 p workers (rounds + more) [] [] last board

pub no_rounds : (p : Instance) (workers : ℕ) (t : TeamView) → t ≡ start p workers → RoundsSoFar p workers 0 t
no_rounds p workers t new = record {
  taken = [];
  is = new ∙ ap (λ (b : List Step). even p workers [] b) (sym board);
  low = All-nil (λ n. n ≤ length p.clauses + length t.board);
  few = λ lt. absurd (omega arith);
  leads = λ more last b r.
      let e : more ≡ 0 + more = omega arith in
      subst (λ (n : ℕ). AreRounds 1000 p workers n [] [] last b) e (subst (λ (c : List Step). AreRounds 1000 p workers more [] c last b) board r);
}
  where
    board : t.board ≡ []
    board = ap (λ (x : TeamView). x.board) new

-- a round on it
pub rounded : (p : Instance) (workers rounds : ℕ) (s u : TeamView) → (h : RoundsSoFar p workers rounds s) → IsRounded s workers u → (u ≡ even p workers h.taken u.board) × IsRound 1000 p workers h.taken s.board u.board
rounded p workers rounds s u h g =
    let problem : s.problem ≡ p = ap (λ (x : TeamView). x.problem) h.is in
    let l = g.leads workers h.taken (omega arith) (h.is ∙ ap (λ (q : Instance). even q workers h.taken s.board) (sym problem)) in
    (l.0 ∙ ap (λ (q : Instance). even q workers h.taken u.board) problem, subst (λ (q : Instance). IsRound 1000 q workers h.taken s.board u.board) problem l.1)

pub grown : (p : Instance) (workers : ℕ) (taken : List ℕ) (before after : List Step) → IsRound 1000 p workers taken before after → length before ≤ length after
grown p zero taken before after r = let e : length after ≡ length before = ap (λ (b : List Step). length b) r in omega arith
grown p (suc k) taken before after r = let a = grown p k taken (before ++ r.0) after r.2 in omega (arith, a, length-append before r.0)

pub rounds_more : (p : Instance) (workers rounds : ℕ) (s u t : TeamView) → RoundsSoFar p workers rounds s → IsRounded s workers u
    → ((taken : List ℕ) → u ≡ even p workers taken u.board → t ≡ even p workers (taken_after p u.board (length s.board) taken) u.board) → RoundsSoFar p workers (rounds + 1) t
rounds_more p workers rounds s u t h g takes = record {
  taken = taken_after p u.board (length s.board) h.taken;
  is = after ∙ ap (λ (b : List Step). even p workers (taken_after p u.board (length s.board) h.taken) b) (sym board);
  low = subst (λ (b : List Step). All (λ n. n ≤ length p.clauses + length b) (taken_after p u.board (length s.board) h.taken)) (sym board)
      (taking_low p u.board h.taken (short_chains (length p.clauses + length s.board + 1) (drop (length s.board) u.board)) (length p.clauses + length u.board)
      (All-weaker (λ n. n ≤ length p.clauses + length s.board) (λ n. n ≤ length p.clauses + length u.board) (λ n le. omega (arith, le, more_steps)) h.taken h.low)
      (short_low (length p.clauses + length s.board + 1) (drop (length s.board) u.board) (length p.clauses + length u.board) (omega (arith, length-drop (length s.board) u.board, more_steps))));
  few = λ _ lt. subst (λ (q : Instance). 1000 < 3 ^ q.vars) problem (g.few lt);
  leads = λ more last b r.
      let one : rounds + suc more ≡ rounds + 1 + more = omega arith in
      subst (λ (n : ℕ). AreRounds 1000 p workers n [] [] last b) one (h.leads (suc more) last b (u.board, round.1, subst (λ (c : List Step). AreRounds 1000 p workers more (taken_after p u.board (length s.board) h.taken) c last b) board r));
}
  where
    problem : s.problem ≡ p
    problem = ap (λ (x : TeamView). x.problem) h.is

    round : (u ≡ even p workers h.taken u.board) × IsRound 1000 p workers h.taken s.board u.board
    round = rounded p workers rounds s u h g

    after : t ≡ even p workers (taken_after p u.board (length s.board) h.taken) u.board
    after = takes h.taken round.0

    board : t.board ≡ u.board
    board = ap (λ (x : TeamView). x.board) after

    more_steps : length s.board ≤ length u.board
    more_steps = grown p workers h.taken s.board u.board round.1

so_many : (p : Instance) (workers rounds : ℕ) (t : TeamView) → (h : RoundsSoFar p workers rounds t) → AreRounds 1000 p workers rounds [] [] h.taken t.board
so_many p workers rounds t h = let e : rounds + 0 ≡ rounds = omega arith in subst (λ (n : ℕ). AreRounds 1000 p workers n [] [] h.taken t.board) e (h.leads 0 h.taken t.board (refl, refl))

pub rounds_done : (p : Instance) (workers rounds : ℕ) (t : TeamView) → RoundsSoFar p workers rounds t → Rounds p t.board workers rounds
rounds_done p workers rounds t h = (h.taken, so_many p workers rounds t h)

-- ---- a round that stops

stopped : (p : Instance) (workers done : ℕ) (s u : TeamView) (x : Turn) → (h : RoundsSoFar p workers done s) → Stops s workers u x → IsStopped p workers h.taken s.board u.board x
stopped p workers done s u x h g =
    let problem : s.problem ≡ p = ap (λ (y : TeamView). y.problem) h.is in
    subst (λ (q : Instance). IsStopped q workers h.taken s.board u.board x) problem (g workers h.taken (omega arith) (h.is ∙ ap (λ (q : Instance). even q workers h.taken s.board) (sym problem)))

turn_reached : (p : Instance) (workers rounds done : ℕ) (s u : TeamView) (x : Turn) → done < rounds → (h : RoundsSoFar p workers done s) → (e : IsStopped p workers h.taken s.board u.board x) → IsAtTurn 1000 p workers rounds h.taken e.before
turn_reached p workers rounds done s u x lt h e = record {
  done = done;
  worker = e.worker;
  in_rounds = lt;
  of_workers = e.of_workers;
  before = s.board;
  rounds_before = so_many p workers done s h;
  turns_before = e.turns_before;
}

pub rounds_stop : (p : Instance) (workers rounds done : ℕ) (s u : TeamView) (x : Turn) → done < rounds → RoundsSoFar p workers done s → RoundsTo s workers u x → (x ≡ turn.Gave → ⊥) → EndsBy p workers rounds u.board x
rounds_stop p workers rounds done s u (turn.Model values) lt h g stops =
    let e : IsStopped p workers h.taken s.board u.board (turn.Model values) = stopped p workers done s u (turn.Model values) h g in
    record {
      taken = h.taken;
      reached = subst (λ (b : List Step). IsAtTurn 1000 p workers rounds h.taken b) (sym e.ends.1) (turn_reached p workers rounds done s u (turn.Model values) lt h e);
      model = e.ends.0;
    }
rounds_stop p workers rounds done s u turn.Refuted lt h g stops =
    let e : IsStopped p workers h.taken s.board u.board turn.Refuted = stopped p workers done s u turn.Refuted h g in
    record { taken = h.taken; before = e.before; reached = turn_reached p workers rounds done s u turn.Refuted lt h e; refuted = e.ends }
rounds_stop p workers rounds done s u turn.Gave lt h g stops = absurd (stops refl)

pub part_len : (p : Instance) (board : List Step) (w m : ℕ) (new old : List ℕ) → length (partly p board w m new old).workers ≡ w + m
part_len p board w m new old =
    let x : WorkerView = record { taken = new; made = [] } in
    let y : WorkerView = record { taken = old; made = [] } in
    length-append (replicate w x) (replicate m y) ∙ ap (λ (n : ℕ). n + length (replicate m y)) (length-replicate w x) ∙ ap (λ (n : ℕ). w + n) (length-replicate m y)
