-- Turns and rounds of a team whose workers all took the same.
use Rattle.std.proofs.Common.{◌≡◌, ℕ, zero, suc, ◌+◌, ◌<◌, ◌≤◌, Bool, false, List, [], ◌∷◌, ◌++◌, length, set, replicate, Option, None, refl, sym, ap, subst, ◌∙◌, arith}
use Rattle.std.specs.Prelude.{IsTrue, MatchOption, ◌==◌, ◌^◌}
use Rattle.std.proofs.lemmas.Bool.{ne_eqb}
use Rattle.std.proofs.lemmas.List.{set-set, get_or-set_same, length-set, get_or-replicate}
use Rattle.mono_problem.specs.Instance.{Instance}
use Rattle.mono_steps.specs.declared.step.Step.{Step}
use Rattle.mono_steps.specs.Steps.{is_refutation}
use Rattle.mono_steps.specs.Trimmed.{IsTrimRefutation}
use Rattle.mono_steps.specs.Journals.{chain_count}
use Rattle.mono_portfolio.specs.declared.event.Event.{Event}
use Rattle.mono_portfolio.specs.declared.event.Event.TheVariants as event
use Rattle.mono_portfolio.specs.declared.event.Reply.{Reply}
use Rattle.mono_portfolio.specs.declared.event.Reply.TheVariants as reply
use Rattle.mono_portfolio.specs.Extended.{extended}
use Rattle.mono_portfolio.specs.Moved.{moved}
use Rattle.mono_portfolio.specs.TeamView.{WorkerView, TeamView, idle, worker_at, over, with_made, moved_from, after_give, IsTeam}
use Rattle.mono_search.specs.Outcomes.{HasModel}
use Rattle.mono_steps.specs.New.{IsProgress}
use Rattle.mono_portfolio.specs.Refusals.{refusal}
use Rattle.mono_portfolio.specs.Plays.{Makes, Served, Answers}
use Rattle.mono_portfolio.specs.Rounds.{IsPiece, IsRound}
use Rattle.mono_portfolio.specs.declared.rounds.Turn.{Turn}
use Rattle.mono_portfolio.specs.declared.rounds.Turn.TheVariants as turn
use Rattle.mono_portfolio.specs.Ends.{IsRefutedTurn}
use Rattle.mono_portfolio.specs.Turns.{even, IsGiven, IsRounded, EndsTurn, TurnsTo, Stops, RoundsTo}
use Rattle.mono_portfolio.proofs.Replies.{may_run, may_give}
use Rattle.mono_portfolio.proofs.Playing.{refuted_gives, not_nothing}

-- ---- what a Run and a Give come to

served_of : (s : TeamView) (e : Event) (r : Reply) (t : TeamView) → refusal s e ≡ None → Answers s e r t → Served s e r t
served_of s e r t n a = subst (λ (o : Option Reply). MatchOption o (Served s e r t) (λ refused. (r ≡ refused) × (t ≡ s))) n a

pub data RunsTo (s : TeamView) (w slice : ℕ) (r : Reply) (t : TeamView) : Type 0 where
  found : (m : List Bool) → r ≡ reply.Model m → HasModel s.problem m → t ≡ with_made s w [] → RunsTo s w slice r t
  refuted : r ≡ reply.Unsat → Makes s w (λ p steps. IsTrimRefutation p steps) t → RunsTo s w slice r t
  sliced : r ≡ reply.Slice → Makes s w (λ p steps. IsProgress p slice steps) t → RunsTo s w slice r t

by_reply : (s : TeamView) (w slice : ℕ) (r : Reply) (t : TeamView) → Served s (event.Run w slice) r t → RunsTo s w slice r t
by_reply s w slice (reply.Model m) t v = found m refl v.0 v.1
by_reply s w slice reply.Unsat t v = refuted refl v
by_reply s w slice reply.Slice t v = sliced refl v
by_reply s w slice (reply.Given n) t v = absurd v
by_reply s w slice reply.Taken t v = absurd v
by_reply s w slice reply.NoWorker t v = absurd v
by_reply s w slice reply.ZeroSlice t v = absurd v
by_reply s w slice reply.NothingMade t v = absurd v
by_reply s w slice reply.NoStep t v = absurd v
by_reply s w slice reply.AlreadyTaken t v = absurd v
by_reply s w slice reply.Full t v = absurd v

pub runs_to : (s : TeamView) (w slice : ℕ) (r : Reply) (t : TeamView) → w < length s.workers → 0 < slice → Answers s (event.Run w slice) r t → RunsTo s w slice r t
runs_to s w slice r t lt some a = by_reply s w slice r t (served_of s (event.Run w slice) r t (may_run s w slice lt (ne_eqb slice 0 (λ e. omega arith))) a)

give_after : (s : TeamView) (w : ℕ) (r : Reply) (t : TeamView) → Served s (event.Give w) r t → t ≡ after_give s w
give_after s w (reply.Given n) t v = v.1
give_after s w r t v = absurd v

pub gives_to : (s : TeamView) (w : ℕ) (r : Reply) (t : TeamView) → w < length s.workers → (length (worker_at s w).made == 0) ≡ false → Answers s (event.Give w) r t → t ≡ after_give s w
gives_to s w r t lt some a = give_after s w r t (served_of s (event.Give w) r t (may_give s w lt some) a)

-- ---- a worker that made something

made_at : (s : TeamView) (w : ℕ) (made : List Step) → w < length s.workers → worker_at (with_made s w made) w ≡ record (worker_at s w) { made = made }
made_at s w made lt = get_or-set_same s.workers w (record (worker_at s w) { made = made }) idle lt

some_chains : (n : ℕ) (steps : List Step) → chain_count steps ≡ n → 0 < n → (length steps == 0) ≡ false
some_chains n [] e lt = absurd (omega arith)
some_chains n (s ∷ ss) e lt = ne_eqb (length (s ∷ ss)) 0 (λ z. omega arith)

-- what the worker made refutes, and it gives
pub refuted_then_gives : (s m t : TeamView) (w : ℕ) (r : Reply) → w < length s.workers → Makes s w (λ p steps. IsTrimRefutation p steps) m → IsTeam m → Answers m (event.Give w) r t → IsRefutedTurn s.problem (worker_at s w).taken s.board t.board
refuted_then_gives s m t w r lt made h a =
    let x : worker_at m w ≡ record (worker_at s w) { made = made.made } = ap (λ (y : TeamView). worker_at y w) made.after ∙ made_at s w made.made lt in
    let len : length m.workers ≡ length s.workers = ap (λ (y : TeamView). length y.workers) made.after ∙ length-set s.workers w (record (worker_at s w) { made = made.made }) in
    let same : over m w ≡ over s w = ap (λ (y : TeamView). extended y.problem y.board (worker_at y w).taken) made.after ∙ ap (λ (y : WorkerView). extended s.problem s.board y.taken) (made_at s w made.made lt) in
    let refutes : IsTrue (is_refutation (over m w) (worker_at m w).made) =
    subst (λ (q : Instance). IsTrue (is_refutation q (worker_at m w).made)) (sym same) (subst (λ (y : WorkerView). IsTrue (is_refutation (over s w) y.made)) (sym x) made.are.refutes) in
    let board : t.board ≡ m.board ++ moved_from m w = ap (λ (y : TeamView). y.board) (gives_to m w r t (omega arith) (not_nothing (over m w) (worker_at m w).made refutes) a) in
    let problem : m.problem ≡ s.problem = ap (λ (y : TeamView). y.problem) made.after in
    record {
      steps = made.made;
      trim = made.are;
      is = board ∙ ap (λ (y : TeamView). y.board ++ moved_from y w) made.after ∙ ap (λ (y : WorkerView). s.board ++ moved s.problem y.made y.taken s.board) (made_at s w made.made lt);
      refutes = subst (λ (p : Instance). IsTrue (is_refutation p t.board)) problem (subst (λ (b : List Step). IsTrue (is_refutation m.problem b)) (sym board) (refuted_gives m w h refutes));
    }

-- the worker made a slice, and it gives: a piece joins the board
pub sliced_then_gives : (s m t : TeamView) (w : ℕ) (r : Reply) → w < length s.workers → Makes s w (λ p steps. IsProgress p 1000 steps) m → Answers m (event.Give w) r t → IsGiven s w t
sliced_then_gives s m t w r lt made a =
    let x : worker_at m w ≡ record (worker_at s w) { made = made.made } = ap (λ (y : TeamView). worker_at y w) made.after ∙ made_at s w made.made lt in
    let len : length m.workers ≡ length s.workers = ap (λ (y : TeamView). length y.workers) made.after ∙ length-set s.workers w (record (worker_at s w) { made = made.made }) in
    let some : (length (worker_at m w).made == 0) ≡ false = ap (λ (y : WorkerView). length y.made == 0) x ∙ some_chains 1000 made.made made.are.chains (omega arith) in
    let after : t ≡ after_give m w = gives_to m w r t (omega arith) some a in
    let direct : after_give m w ≡ after_give (with_made s w made.made) w = ap (λ (y : TeamView). after_give y w) made.after in
    record {
      piece = moved s.problem made.made (worker_at s w).taken s.board;
      is_piece = record { steps = made.made; learned = made.are; is = refl };
      after = after ∙ direct ∙ given_is s w made.made lt;
    }
  where
    given_is : (s : TeamView) (w : ℕ) (ss : List Step) → w < length s.workers → after_give (with_made s w ss) w ≡ record { problem = s.problem; board = s.board ++ moved s.problem ss (worker_at s w).taken s.board; workers = set s.workers w (record (worker_at s w) { made = [] }) }
    given_is s w ss lt =
        let y : WorkerView = record (worker_at s w) { made = ss } in
        ap (λ (z : WorkerView). record { problem = s.problem; board = s.board ++ moved s.problem z.made z.taken s.board; workers = set (set s.workers w y) w (record z { made = [] }) }) (made_at s w ss lt)
        ∙ ap (λ (ws : List WorkerView). record { problem = s.problem; board = s.board ++ moved s.problem ss (worker_at s w).taken s.board; workers = ws }) (set-set s.workers w y (record (worker_at s w) { made = [] }))

-- ---- a team whose workers all took the same

set_replicate : (n w : ℕ) (x : WorkerView) → set (replicate n x) w x ≡ replicate n x
set_replicate zero w x = refl
set_replicate (suc n) zero x = refl
set_replicate (suc n) (suc w) x = ap (λ (ws : List WorkerView). x ∷ ws) (set_replicate n w x)

-- a turn on an even team adds a piece to the board, and leaves an even team
pub record EvenTurn (p : Instance) (k : ℕ) (taken : List ℕ) (board : List Step) (t : TeamView) : Type 0 where
  pub piece : List Step
  pub is_piece : IsPiece 1000 p board taken piece
  pub after : t ≡ even p k taken (board ++ piece)

pub even_turn : (p : Instance) (k : ℕ) (taken : List ℕ) (board : List Step) (w : ℕ) (t : TeamView) → w < k → IsGiven (even p k taken board) w t → EvenTurn p k taken board t
even_turn p k taken board w t lt g =
    let x : WorkerView = record { taken = taken; made = [] } in
    let is : worker_at (even p k taken board) w ≡ x = get_or-replicate k w x idle lt in
    record {
      piece = g.piece;
      is_piece = subst (λ (y : WorkerView). IsPiece 1000 p board y.taken g.piece) is g.is_piece;
      after = g.after ∙ ap (λ (y : WorkerView). record { problem = p; board = board ++ g.piece; workers = set (replicate k x) w (record y { made = [] }) }) is
          ∙ ap (λ (ws : List WorkerView). record { problem = p; board = board ++ g.piece; workers = ws }) (set_replicate k w x);
    }

-- ---- some turns

-- so many workers had their turn
pub record SoFar (s : TeamView) (turns : ℕ) (t : TeamView) : Type 0 where
  pub problem : t.problem ≡ s.problem
  pub workers : length t.workers ≡ length s.workers
  pub few : 0 < turns → 1000 < 3 ^ s.problem.vars
  pub leads : (k : ℕ) (taken : List ℕ) → turns ≤ k → s ≡ even s.problem k taken s.board
      → (t ≡ even s.problem k taken t.board) × ((more : ℕ) (after : List Step) → IsRound 1000 s.problem more taken t.board after → IsRound 1000 s.problem (turns + more) taken s.board after)

pub no_turns : (s : TeamView) → SoFar s 0 s
no_turns s = record {
  problem = refl;
  workers = refl;
  few = λ lt. absurd (omega arith);
  leads = λ k taken le is. (is, λ more after r. let e : more ≡ 0 + more = omega arith in subst (λ (n : ℕ). IsRound 1000 s.problem n taken s.board after) e r);
}

pub model_turn : (s t : TeamView) (w : ℕ) (r : Reply) (values : List Bool) → w < length s.workers → Answers s (event.Run w 1000) r t → r ≡ reply.Model values → HasModel s.problem values × (t.board ≡ s.board)
model_turn s t w r values lt a e = by_case (runs_to s w 1000 r t lt (omega arith) a)
  where
    one_model : (x : List Bool) → reply.Model x ≡ reply.Model values → x ≡ values
    one_model x same = cc

    by_case : RunsTo s w 1000 r t → HasModel s.problem values × (t.board ≡ s.board)
    by_case (found x f g after) = (subst (HasModel s.problem) (one_model x (sym f ∙ e)) g, ap (λ (y : TeamView). y.board) after)
    by_case (refuted f made) = absurd cc
    by_case (sliced f made) = absurd cc

pub unsat_turn : (s m t : TeamView) (w : ℕ) (r q : Reply) → w < length s.workers → Answers s (event.Run w 1000) r m → r ≡ reply.Unsat → IsTeam m → Answers m (event.Give w) q t → IsRefutedTurn s.problem (worker_at s w).taken s.board t.board
unsat_turn s m t w r q lt a e h b = by_case (runs_to s w 1000 r m lt (omega arith) a)
  where
    by_case : RunsTo s w 1000 r m → IsRefutedTurn s.problem (worker_at s w).taken s.board t.board
    by_case (found x f g after) = absurd cc
    by_case (refuted f made) = refuted_then_gives s m t w q lt made h b
    by_case (sliced f made) = absurd cc

pub slice_turn : (s m t : TeamView) (w : ℕ) (r q : Reply) → w < length s.workers → Answers s (event.Run w 1000) r m → ((x : List Bool) → r ≡ reply.Model x → ⊥) → (r ≡ reply.Unsat → ⊥) → Answers m (event.Give w) q t → IsGiven s w t
slice_turn s m t w r q lt a no_model no_unsat b = by_case (runs_to s w 1000 r m lt (omega arith) a)
  where
    by_case : RunsTo s w 1000 r m → IsGiven s w t
    by_case (found x f g after) = absurd (no_model x f)
    by_case (refuted f made) = absurd (no_unsat f)
    by_case (sliced f made) = sliced_then_gives s m t w q lt made b

pub turn_more : (s m t : TeamView) (w : ℕ) → SoFar s w m → IsGiven m w t → SoFar s (w + 1) t
turn_more s m t w h g = record {
  problem = ap (λ (x : TeamView). x.problem) g.after ∙ h.problem;
  workers = ap (λ (x : TeamView). length x.workers) g.after ∙ length-set m.workers w (record (worker_at m w) { made = [] }) ∙ h.workers;
  few = λ lt. subst (λ (p : Instance). 1000 < 3 ^ p.vars) h.problem g.is_piece.learned.few;
  leads = λ k taken le is.
      let l = h.leads k taken (omega arith) is in
      let e : EvenTurn s.problem k taken m.board t = even_turn s.problem k taken m.board w t (omega arith) (subst (λ (x : TeamView). IsGiven x w t) l.0 g) in
      let board : t.board ≡ m.board ++ e.piece = ap (λ (x : TeamView). x.board) e.after in (
        e.after ∙ ap (λ (b : List Step). even s.problem k taken b) (sym board),
        λ more after r.
            let one : w + suc more ≡ w + 1 + more = omega arith in
            subst (λ (n : ℕ). IsRound 1000 s.problem n taken s.board after) one (l.1 (suc more) after (e.piece, e.is_piece, subst (λ (b : List Step). IsRound 1000 s.problem more taken b after) board r)),
      );
}

-- the next turn ends the round
turn_stops : (s m t : TeamView) (w workers : ℕ) (x : Turn) → w < workers → SoFar s w m → EndsTurn m.problem (worker_at m w).taken m.board t.board x → Stops s workers t x
turn_stops s m t w workers x lt h e = λ k taken le is.
    let l = h.leads k taken (omega arith) is in
    let none : w + 0 ≡ w = omega arith in
    let y : WorkerView = record { taken = taken; made = [] } in
    let took : (worker_at m w).taken ≡ taken = ap (λ (z : TeamView). (worker_at z w).taken) l.0 ∙ ap (λ (z : WorkerView). z.taken) (get_or-replicate k w y idle (omega arith)) in
    record {
      worker = w;
      of_workers = lt;
      before = m.board;
      turns_before = subst (λ (n : ℕ). IsRound 1000 s.problem n taken s.board m.board) none (l.1 0 m.board refl);
      ends = subst (λ (ns : List ℕ). EndsTurn s.problem ns m.board t.board x) took (subst (λ (q : Instance). EndsTurn q (worker_at m w).taken m.board t.board x) h.problem e);
    }

pub turn_ends : (s m t : TeamView) (w workers : ℕ) (x : Turn) → w < workers → SoFar s w m → TurnsTo m w t x → (x ≡ turn.Gave → ⊥) → RoundsTo s workers t x
turn_ends s m t w workers (turn.Model values) lt h e stops = turn_stops s m t w workers (turn.Model values) lt h e
turn_ends s m t w workers turn.Refuted lt h e stops = turn_stops s m t w workers turn.Refuted lt h e
turn_ends s m t w workers turn.Gave lt h e stops = absurd (stops refl)

pub round_done : (s t : TeamView) (workers : ℕ) → SoFar s workers t → IsRounded s workers t
round_done s t workers h = record {
  few = h.few;
  leads = λ k taken le is.
      let l = h.leads k taken le is in
      let e : workers + 0 ≡ workers = omega arith in
      (l.0, subst (λ (n : ℕ). IsRound 1000 s.problem n taken s.board t.board) e (l.1 0 t.board refl));
}
