-- What holds of every play.
use Rattle.std.proofs.Common.{◌≡◌, ℕ, zero, suc, ◌+◌, ◌<◌, ◌≤◌, Bool, true, false, ◌==◌, cond, List, [], ◌∷◌, ◌++◌, length, take, Some, None, refl, sym, ap, subst, ◌∙◌, arith, All, length-append, ◌⊎◌, inl, inr}
use Rattle.std.specs.Prelude.{IsTrue, slice_get}
use Rattle.std.specs.List.{list_any}
use Rattle.std.proofs.lemmas.Bool.{cases_lt, eqb-true, eqb-false, or_cases, false_from_ne_true, cond-false, lt-leb, ne_eqb}
use Rattle.std.proofs.lemmas.Option.{same_Some, none-some}
use Rattle.std.proofs.lemmas.List.{append-nil, append_assoc, get_or_past, get_or-set_same, get_or-set_other, take_at}
use Rattle.std.proofs.lemmas.List.Elements.{All-nil, All-cons, All-head, All-tail}
use Rattle.std.proofs.lemmas.List.Sums.{sum_by-cons}
use Rattle.mono_base.specs.Literal.{value_in}
use Rattle.mono_problem.specs.Instance.{Instance}
use Rattle.mono_problem.specs.WellFormed.{IsInstance}
use Rattle.mono_problem.specs.Holds.{HasNoModel}
use Rattle.mono_steps.specs.declared.step.Step.{Step}
use Rattle.mono_steps.specs.Steps.{are_justified, is_refutation}
use Rattle.mono_steps.proofs.StepTruth.{refutation_excludes}
use Rattle.mono_portfolio.specs.declared.event.Event.{Event}
use Rattle.mono_portfolio.specs.declared.event.Event.TheVariants as event
use Rattle.mono_portfolio.specs.declared.event.Reply.{Reply}
use Rattle.mono_portfolio.specs.declared.event.Reply.TheVariants as reply
use Rattle.mono_portfolio.specs.Extended.{extended}
use Rattle.mono_portfolio.specs.Moved.{moved}
use Rattle.mono_portfolio.specs.TeamView.{WorkerView, TeamView, idle, start, worker_at, over, moved_from, IsWorker, IsTeam}
use Rattle.mono_search.specs.Outcomes.{HasModel}
use Rattle.mono_portfolio.specs.Refusals.{refusal, first_reply, lacks_worker}
use Rattle.mono_portfolio.specs.Plays.{Served, Answers, Plays}
use Rattle.mono_portfolio.specs.Soundness.{worker_of, is_model, is_unsat, IsTrueModel, given_by, given, refuted_last, IsSoundPlay}
use Rattle.mono_portfolio.proofs.Carried.{moved_refutes}
use Rattle.mono_portfolio.proofs.Changes.{is_refused, Changes, change_keeps, Happens, refuses, changes, what_happens, extended_kept, worker_ok, start_ok, has_worker}

-- ---- one event

happens_keeps : (s : TeamView) (e : Event) (r : Reply) (t : TeamView) → IsTeam s → Happens s e r t → IsTeam t
happens_keeps s e r t h (refuses is q same) = subst IsTeam (sym same) h
happens_keeps s e r t h (changes n v c) = change_keeps s e r t h c

refused_gives : (r : Reply) → IsTrue (is_refused r) → given_by r ≡ 0
refused_gives (reply.Given n) h = absurd cc
refused_gives r h = refl

refused_model : (p : Instance) (r : Reply) → IsTrue (is_refused r) → IsTrueModel p r
refused_model p (reply.Model m) h = absurd cc
refused_model p r h = tt

refused_unsat : (r : Reply) → IsTrue (is_refused r) → is_unsat r ≡ false
refused_unsat reply.Unsat h = absurd cc
refused_unsat r h = refl

-- the board grows by as many steps as the reply says
pub record Grows (s t : TeamView) (n : ℕ) : Type 0 where
  pub problem : t.problem ≡ s.problem
  pub more : List Step
  pub board : t.board ≡ s.board ++ more
  pub count : length more ≡ n

happens_grows : (s : TeamView) (e : Event) (r : Reply) (t : TeamView) → Happens s e r t → Grows s t (given_by r)
happens_grows s e r t (refuses is q same) = record { problem = ap (λ (x : TeamView). x.problem) same; more = []; board = ap (λ (x : TeamView). x.board) same ∙ sym (append-nil s.board); count = sym (refused_gives r q) }
happens_grows s e r t (changes n v c) = record { problem = ap (λ (x : TeamView). x.problem) c.after; more = c.more; board = ap (λ (x : TeamView). x.board) c.after; count = c.count }

happens_model : (s : TeamView) (e : Event) (r : Reply) (t : TeamView) → Happens s e r t → IsTrueModel s.problem r
happens_model s e r t (refuses is q same) = refused_model s.problem r q
happens_model s e r t (changes n v c) = c.model

-- ---- a worker that replied Unsat

-- where the flag is set, what the worker made refutes its problem
abbrev HasRefuted : ℕ → Bool → TeamView → Type 0
HasRefuted w b s = IsTrue b → IsTrue (is_refutation (over s w) (worker_at s w).made)

at_changed : (s : TeamView) (e : Event) (r : Reply) (t : TeamView) → (c : Changes s e r t) → worker_of e < length s.workers → worker_at t (worker_of e) ≡ c.worker
at_changed s e r t c lt = ap (λ (x : TeamView). worker_at x (worker_of e)) c.after ∙ get_or-set_same s.workers (worker_of e) c.worker idle lt

at_other : (s : TeamView) (e : Event) (r : Reply) (t : TeamView) (w : ℕ) → (c : Changes s e r t) → (w ≡ worker_of e → ⊥) → worker_at t w ≡ worker_at s w
at_other s e r t w c ne = ap (λ (x : TeamView). worker_at x w) c.after ∙ get_or-set_other s.workers (worker_of e) w c.worker idle ne

-- the worker's problem, where it took the same from a board that grew
over_changed : (s : TeamView) (e : Event) (r : Reply) (t : TeamView) (w : ℕ) (x : WorkerView) → (c : Changes s e r t) → IsWorker s.problem s.board x → worker_at t w ≡ x → over t w ≡ extended s.problem s.board x.taken
over_changed s e r t w x c ok is =
    ap (λ (y : WorkerView). extended t.problem t.board y.taken) is
    ∙ ap (λ (y : TeamView). extended y.problem y.board x.taken) c.after
    ∙ extended_kept s.problem s.board c.more x.taken ok.held

refuted_more : (s : TeamView) (e : Event) (r : Reply) (t : TeamView) (w : ℕ) (b : Bool) → IsTeam s → HasRefuted w b s → Happens s e r t → HasRefuted w (cond (worker_of e == w) (is_unsat r) b) t
refuted_more s e r t w b h j (refuses is q same) = by_worker (worker_of e == w)
  where
    by_worker : (d : Bool) → HasRefuted w (cond d (is_unsat r) b) t
    by_worker true u = absurd (let f = refused_unsat r q in cc)
    by_worker false u = subst (λ (x : TeamView). IsTrue (is_refutation (over x w) (worker_at x w).made)) (sym same) (j u)
refuted_more s e r t w b h j (changes n v c) = by_worker (worker_of e == w) refl
  where
    by_worker : (d : Bool) → (worker_of e == w) ≡ d → HasRefuted w (cond d (is_unsat r) b) t
    by_worker true f u =
        let same : worker_of e ≡ w = eqb-true (worker_of e) w f in
        let is : worker_at t w ≡ c.worker = subst (λ (k : ℕ). worker_at t k ≡ c.worker) same (at_changed s e r t c (has_worker s e n)) in
        subst (λ (q : Instance). IsTrue (is_refutation q (worker_at t w).made)) (sym (over_changed s e r t w c.worker c c.ok is))
        (subst (λ (y : WorkerView). IsTrue (is_refutation (extended s.problem s.board c.worker.taken) y.made)) (sym is) (c.unsat u))
    by_worker false f u =
        let is : worker_at t w ≡ worker_at s w = at_other s e r t w c (λ k. eqb-false (worker_of e) w f (sym k)) in
        subst (λ (q : Instance). IsTrue (is_refutation q (worker_at t w).made)) (sym (over_changed s e r t w (worker_at s w) c (worker_ok s w h) is))
        (subst (λ (y : WorkerView). IsTrue (is_refutation (over s w) y.made)) (sym is) (j u))

-- what a worker made that refutes its problem makes the board a refutation
pub refuted_gives : (s : TeamView) (w : ℕ) → IsTeam s → IsTrue (is_refutation (over s w) (worker_at s w).made) → IsTrue (is_refutation s.problem (s.board ++ moved_from s w))
refuted_gives s w h r = moved_refutes s.problem s.board (worker_at s w).taken (worker_at s w).made h.justified (worker_ok s w h).held r

-- ---- plays

pub play_keeps : (s : TeamView) (es : List Event) (rs : List Reply) (t : TeamView) → IsTeam s → Plays s es rs t → IsTeam t
play_keeps s [] [] t h a = subst IsTeam (sym a) h
play_keeps s (e ∷ es) (r ∷ rs) t h a = play_keeps a.0 es rs t (happens_keeps s e r a.0 h (what_happens s e r a.0 h a.1)) a.2
play_keeps s [] (r ∷ rs) t h a = absurd a
play_keeps s (e ∷ es) [] t h a = absurd a

grows_on : (s m t : TeamView) (k n : ℕ) → Grows s m k → Grows m t n → Grows s t (k + n)
grows_on s m t k n g h = record {
  problem = h.problem ∙ g.problem;
  more = g.more ++ h.more;
  board = h.board ∙ ap (λ (b : List Step). b ++ h.more) g.board ∙ append_assoc s.board g.more h.more;
  count = length-append g.more h.more ∙ ap (λ (j : ℕ). j + length h.more) g.count ∙ ap (λ (j : ℕ). k + j) h.count;
}

pub play_grows : (s : TeamView) (es : List Event) (rs : List Reply) (t : TeamView) → IsTeam s → Plays s es rs t → Grows s t (given rs)
play_grows s [] [] t h a = record { problem = ap (λ (x : TeamView). x.problem) a; more = []; board = ap (λ (x : TeamView). x.board) a ∙ sym (append-nil s.board); count = refl }
play_grows s (e ∷ es) (r ∷ rs) t h a =
    let x = what_happens s e r a.0 h a.1 in
    subst (Grows s t) (sym (sum_by-cons given_by r rs)) (grows_on s a.0 t (given_by r) (given rs) (happens_grows s e r a.0 x) (play_grows a.0 es rs t (happens_keeps s e r a.0 h x) a.2))
play_grows s [] (r ∷ rs) t h a = absurd a
play_grows s (e ∷ es) [] t h a = absurd a

models_true : (s : TeamView) (es : List Event) (rs : List Reply) (t : TeamView) → IsTeam s → Plays s es rs t → All (IsTrueModel s.problem) rs
models_true s [] [] t h a = All-nil (IsTrueModel s.problem)
models_true s (e ∷ es) (r ∷ rs) t h a =
    let x = what_happens s e r a.0 h a.1 in
    All-cons (IsTrueModel s.problem) r rs (happens_model s e r a.0 x)
    (subst (λ (p : Instance). All (IsTrueModel p) rs) (happens_grows s e r a.0 x).problem (models_true a.0 es rs t (happens_keeps s e r a.0 h x) a.2))
models_true s [] (r ∷ rs) t h a = absurd a
models_true s (e ∷ es) [] t h a = absurd a

-- ---- not both a model and Unsat

some_model : (p : Instance) (rs : List Reply) → All (IsTrueModel p) rs → IsTrue (list_any is_model rs) → (m : List Bool) × HasModel p m
some_model p [] h k = absurd cc
some_model p (reply.Model m ∷ rs) h k = (m, All-head (IsTrueModel p) (reply.Model m) rs h)
some_model p (r ∷ rs) h k = some_model p rs (All-tail (IsTrueModel p) r rs h) k

-- Unsat leaves no model
unsat_excludes : (s : TeamView) (e : Event) (r : Reply) (t : TeamView) → IsTeam s → Happens s e r t → IsTrue (is_unsat r) → HasNoModel s.problem
unsat_excludes s e r t h (refuses is q same) u = absurd (let f = refused_unsat r q in cc)
unsat_excludes s e r t h (changes n v c) u =
    refutation_excludes s.problem (s.board ++ moved s.problem c.worker.made c.worker.taken s.board) h.problem
    (moved_refutes s.problem s.board c.worker.taken c.worker.made h.justified c.ok.held (c.unsat u))

some_unsat : (s : TeamView) (es : List Event) (rs : List Reply) (t : TeamView) → IsTeam s → Plays s es rs t → IsTrue (list_any is_unsat rs) → HasNoModel s.problem
some_unsat s [] [] t h a k = absurd cc
some_unsat s (e ∷ es) (r ∷ rs) t h a k = by_head (or_cases (is_unsat r) (list_any is_unsat rs) k) (some_unsat a.0 es rs t (happens_keeps s e r a.0 h x) a.2)
  where
    x : Happens s e r a.0
    x = what_happens s e r a.0 h a.1

    same : a.0.problem ≡ s.problem
    same = (happens_grows s e r a.0 x).problem

    by_head : (is_unsat r ≡ true) ⊎ (list_any is_unsat rs ≡ true) → (IsTrue (list_any is_unsat rs) → HasNoModel a.0.problem) → HasNoModel s.problem
    by_head (inl u) rest = unsat_excludes s e r a.0 h x u
    by_head (inr u) rest = subst HasNoModel same (rest u)
some_unsat s [] (r ∷ rs) t h a k = absurd a
some_unsat s (e ∷ es) [] t h a k = absurd a

-- ---- Give behind Unsat

-- steps that refute are not none, so their worker is there and can give
pub not_nothing : (p : Instance) (steps : List Step) → IsTrue (is_refutation p steps) → (length steps == 0) ≡ false
not_nothing p [] r = absurd cc
not_nothing p (s ∷ ss) r = ne_eqb (suc (length ss)) 0 (λ e. omega arith)

has_refuter : (s : TeamView) (w : ℕ) → IsTrue (is_refutation (over s w) (worker_at s w).made) → w < length s.workers
has_refuter s w r = by_place (cases_lt w (length s.workers))
  where
    by_place : (w < length s.workers) ⊎ (length s.workers ≤ w) → w < length s.workers
    by_place (inl lt) = lt
    by_place (inr ge) =
        let none : worker_at s w ≡ idle = get_or_past s.workers w idle ge in
        let e : length (worker_at s w).made ≡ 0 = ap (λ (x : WorkerView). length x.made) none in
        absurd (eqb-false (length (worker_at s w).made) 0 (not_nothing (over s w) (worker_at s w).made r) e)

can_give : (s : TeamView) (w : ℕ) → IsTrue (is_refutation (over s w) (worker_at s w).made) → refusal s (event.Give w) ≡ None
can_give s w r =
    cond-false (lacks_worker s w) (Some reply.NoWorker) (first_reply ((length (worker_at s w).made == 0, reply.NothingMade) ∷ [])) (lt-leb (length s.workers) w (has_refuter s w r))
    ∙ cond-false (length (worker_at s w).made == 0) (Some reply.NothingMade) None (not_nothing (over s w) (worker_at s w).made r)

served_give : (s : TeamView) (w : ℕ) (r : Reply) (t : TeamView) → Served s (event.Give w) r t → t.board ≡ s.board ++ moved_from s w
served_give s w (reply.Given k) t v = ap (λ (x : TeamView). x.board) v.1
served_give s w r t v = absurd v

give_refutes : (s : TeamView) (w : ℕ) (r : Reply) (t : TeamView) → IsTeam s → IsTrue (is_refutation (over s w) (worker_at s w).made) → Happens s (event.Give w) r t → IsTrue (is_refutation s.problem t.board)
give_refutes s w r t h j (refuses is q same) = absurd (none-some r (sym (can_give s w j) ∙ is))
give_refutes s w r t h j (changes n v c) = subst (λ (b : List Step). IsTrue (is_refutation s.problem b)) (sym (served_give s w r t v)) (refuted_gives s w h j)

-- the board's first steps, after a part of a play
front_of : (s m t : TeamView) (n k : ℕ) → Grows s m n → Grows m t k → take (length s.board + n) t.board ≡ m.board
front_of s m t n k g h =
    let len : length m.board ≡ length s.board + n = ap (λ (b : List Step). length b) g.board ∙ length-append s.board g.more ∙ ap (λ (j : ℕ). length s.board + j) g.count in
    ap (take (length s.board + n)) h.board ∙ take_at m.board h.more (length s.board + n) len

refutes_at : (s : TeamView) (es : List Event) (rs : List Reply) (t : TeamView) (w : ℕ) (b : Bool) → IsTeam s → HasRefuted w b s → Plays s es rs t → (k : ℕ) → slice_get es k ≡ Some (event.Give w) → IsTrue (refuted_last w b (take k es) (take k rs))
    → IsTrue (is_refutation s.problem (take (length s.board + given (take (suc k) rs)) t.board))
refutes_at s [] [] t w b h j a k e l = absurd cc
refutes_at s (f ∷ es) (r ∷ rs) t w b h j a zero e l =
    let same : f ≡ event.Give w = same_Some f (event.Give w) e in
    let x = what_happens s f r a.0 h a.1 in
    let y : Happens s (event.Give w) r a.0 = subst (λ (d : Event). Happens s d r a.0) same x in
    let rest = play_grows a.0 es rs t (happens_keeps s f r a.0 h x) a.2 in
    let sum : given (r ∷ []) ≡ given_by r = sum_by-cons given_by r [] ∙ omega arith in
    let board : take (length s.board + given (r ∷ [])) t.board ≡ a.0.board = ap (λ (n : ℕ). take (length s.board + n) t.board) sum ∙ front_of s a.0 t (given_by r) (given rs) (happens_grows s f r a.0 x) rest in
    subst (λ (c : List Step). IsTrue (is_refutation s.problem c)) (sym board) (give_refutes s w r a.0 h (j l) y)
refutes_at s (f ∷ es) (r ∷ rs) t w b h j a (suc k) e l =
    let x = what_happens s f r a.0 h a.1 in
    let g = happens_grows s f r a.0 x in
    let later = refutes_at a.0 es rs t w (cond (worker_of f == w) (is_unsat r) b) (happens_keeps s f r a.0 h x) (refuted_more s f r a.0 w b h j x) a.2 k e l in
    let len : length a.0.board ≡ length s.board + given_by r = ap (λ (c : List Step). length c) g.board ∙ length-append s.board g.more ∙ ap (λ (i : ℕ). length s.board + i) g.count in
    let sum : length a.0.board + given (take (suc k) rs) ≡ length s.board + given (r ∷ take (suc k) rs) = omega (arith, len, sum_by-cons given_by r (take (suc k) rs)) in
    subst (λ (p : Instance). IsTrue (is_refutation p (take (length s.board + given (r ∷ take (suc k) rs)) t.board))) g.problem
    (subst (λ (n : ℕ). IsTrue (is_refutation a.0.problem (take n t.board))) sum later)
refutes_at s [] (r ∷ rs) t w b h j a k e l = absurd a
refutes_at s (f ∷ es) [] t w b h j a k e l = absurd a

-- ---- the theorem

pub play_sound : (p : Instance) (workers : ℕ) (es : List Event) (rs : List Reply) (t : TeamView) → IsInstance p → Plays (start p workers) es rs t → IsSoundPlay p es rs t.board
play_sound p workers es rs t ok a =
    let s : TeamView = start p workers in
    let h = start_ok p workers ok in
    let same : t.problem ≡ p = (play_grows s es rs t h a).problem in
    let models = models_true s es rs t h a in
    record {
      justified = subst (λ (q : Instance). IsTrue (are_justified q t.board)) same (play_keeps s es rs t h a).justified;
      models = models;
      refutes = λ k w e l.
          let one : suc k ≡ k + 1 = omega arith in
          let none : length {A = Step} [] + given (take (suc k) rs) ≡ given (take (suc k) rs) = omega arith in
          subst (λ (n : ℕ). IsTrue (is_refutation p (take (given (take n rs)) t.board))) one
          (subst (λ (n : ℕ). IsTrue (is_refutation p (take n t.board))) none (refutes_at s es rs t w false h (λ u. absurd cc) a k e l));
      one_answer = λ k. false_from_ne_true (list_any is_unsat rs) (λ u. let m = some_model p rs models k in some_unsat s es rs t h a u (value_in m.0) m.1.satisfies);
    }

-- ---- one event more

pub plays_more : (s : TeamView) (es : List Event) (rs : List Reply) (m : TeamView) (e : Event) (r : Reply) (t : TeamView) → Plays s es rs m → Answers m e r t → Plays s (es ++ e ∷ []) (rs ++ r ∷ []) t
plays_more s [] [] m e r t h a = (t, subst (λ (x : TeamView). Answers x e r t) h a, refl)
plays_more s (f ∷ es) (q ∷ rs) m e r t h a = (h.0, h.1, plays_more h.0 es rs m e r t h.2 a)
plays_more s [] (q ∷ rs) m e r t h a = absurd h
plays_more s (f ∷ es) [] m e r t h a = absurd h

-- a play that an event follows is sound
pub sound_after : (s : TeamView) (e : Event) (r : Reply) (t : TeamView) → IsInstance s.problem → Answers s e r t → (es : List Event) (rs : List Reply) → Plays (start s.problem (length s.workers)) es rs s → IsSoundPlay s.problem (es ++ e ∷ []) (rs ++ r ∷ []) t.board
sound_after s e r t ok a es rs h = play_sound s.problem (length s.workers) (es ++ e ∷ []) (rs ++ r ∷ []) t ok (plays_more (start s.problem (length s.workers)) es rs s e r t h a)
