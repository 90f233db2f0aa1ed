-- Who owns an atom, and what that theory has seen.
use Rattle.std.proofs.Common.{zero, suc, ◌≡◌, ℕ, ◌+◌, ◌<◌, ◌≤◌, eqb, eqb-true, Bool, true, false, List, [], ◌∷◌, ◌++◌, length, take, map, arith, refl, sym, ◌∙◌, ap, cond, get_or, subst, ℤ, All}
use Rattle.std.specs.Prelude.{Option, Some, None, MatchOption, IsTrue, count_by}
use Rattle.std.proofs.lemmas.List.Elements.{All-map, filter-append}
use Rattle.std.proofs.lemmas.List.Recursion.{is_count_by}
use Rattle.std.proofs.lemmas.Option.{slice_get_within}
use Rattle.mono_base.specs.Literal.{var_of, lit_at}
use Rattle.mono_base.specs.Partial.{is_open_in, is_partial}
use Rattle.mono_graph.specs.Digraph.{Digraph}
use Rattle.mono_problem.specs.declared.atom.Atom.{Atom}
use Rattle.mono_problem.specs.Instance.{Instance, graph_at, numbered}
use Rattle.mono_problem.specs.Quiet.{Forces}
use Rattle.mono_theory.specs.Theories.{Facts, concerns_of, owns_of, atom_of}
use Rattle.mono_search.specs.TheoryLists.{concerning, owner_of, seen_of, IsCurrent, with_seen, handed_on, CanExplain}
use Rattle.mono_learn.specs.Explain.{AtomForces}
use Rattle.mono_theory.specs.Owners.{OwnsEach}
use Rattle.mono_search.proofs.Lists.{open_before, open-fewer}
use Rattle.mono_search.proofs.Reasons.{concerned-in}

-- the first theory that owns the atom
pub owner_at : (fs : List Facts) (n i : ℕ) (f : Facts) → i < length fs → f ≡ get_or fs i f → ((k : ℕ) (d : Facts) → k < i → owns_of (get_or fs k d).atoms n ≡ false) → owns_of f.atoms n ≡ true → owner_of fs n ≡ Some f
owner_at [] n i f lt at none own = absurd (omega arith)
owner_at (x ∷ fs) n zero f lt at none own = let own_x : owns_of x.atoms n ≡ true = subst (λ (y : Facts). owns_of y.atoms n ≡ true) at own in rw own_x (ap Some (sym at))
owner_at (x ∷ fs) n (suc i) f lt at none own = let not_x : owns_of x.atoms n ≡ false = none 0 x (omega arith) in rw not_x (owner_at fs n i f (omega arith) at (λ k d l. none (suc k) d (omega arith)) own)

-- no theory owns the atom
pub no_owner : (fs : List Facts) (n : ℕ) → ((k : ℕ) (d : Facts) → k < length fs → owns_of (get_or fs k d).atoms n ≡ false) → owner_of fs n ≡ None
no_owner [] n none = refl
no_owner (x ∷ fs) n none = let not_x : owns_of x.atoms n ≡ false = none 0 x (omega arith) in rw not_x (no_owner fs n (λ k d l. none (suc k) d (omega arith)))

-- ---- how many own it

pub count : ℕ → List Facts → ℕ
count n [] = 0
count n (f ∷ fs) = cond (owns_of f.atoms n) (1 + count n fs) (count n fs)

pub is_count : (n : ℕ) (fs : List Facts) → count n fs ≡ count_by (λ f. owns_of f.atoms n) fs
unfolding count
is_count n fs = is_count_by (count n) (λ (f : Facts). owns_of f.atoms n) refl (λ x xs. refl) fs

-- a theory at a place that owns the atom is counted
counted : (n : ℕ) (fs : List Facts) (k : ℕ) (d : Facts) → k < length fs → owns_of (get_or fs k d).atoms n ≡ true → 1 ≤ count n fs
unfolding count
counted n [] k d lt own = absurd (omega arith)
counted n (f ∷ fs) zero d lt own = rw own (omega arith)
counted n (f ∷ fs) (suc k) d lt own = by (owns_of f.atoms n) (counted n fs k d (omega arith) own)
  where
    by : (b : Bool) → 1 ≤ count n fs → 1 ≤ cond b (1 + count n fs) (count n fs)
    by true h = omega arith
    by false h = h

-- where one theory owns the atom, it is the one whose list is shown
pub one_owner : (n : ℕ) (fs : List Facts) (k : ℕ) (d : Facts) → k < length fs → owns_of (get_or fs k d).atoms n ≡ true → count n fs ≡ 1 → (seen_of fs n ≡ (get_or fs k d).seen) × (owner_of fs n ≡ Some (get_or fs k d))
unfolding count
one_owner n [] k d lt own one = absurd (omega arith)
one_owner n (f ∷ fs) zero d lt own one = (rw own refl, rw own refl)
one_owner n (f ∷ fs) (suc k) d lt own one = by (owns_of f.atoms n) refl one (counted n fs k d (omega arith) own) (one_owner n fs k d (omega arith) own)
  where
    by : (b : Bool) → owns_of f.atoms n ≡ b → cond b (1 + count n fs) (count n fs) ≡ 1 → 1 ≤ count n fs → (count n fs ≡ 1 → (seen_of fs n ≡ (get_or fs k d).seen) × (owner_of fs n ≡ Some (get_or fs k d)))
        → (seen_of (f ∷ fs) n ≡ (get_or fs k d).seen) × (owner_of (f ∷ fs) n ≡ Some (get_or fs k d))
    by true e one more ih = absurd (omega (arith, one, more))
    by false e one more ih = let i = ih one in (rw e i.0, rw e i.1)

-- a theory that owns the atom
pub record IsOwner (fs : List Facts) (n : ℕ) : Type 0 where
  pub fact : Facts
  pub at : ℕ
  pub lt : at < length fs
  pub is : get_or fs at fact ≡ fact
  pub first : owner_of fs n ≡ Some fact
  pub shows : seen_of fs n ≡ fact.seen
  pub owns : owns_of fact.atoms n ≡ true

pub some_owner : (n : ℕ) (fs : List Facts) → 1 ≤ count n fs → IsOwner fs n
unfolding count
some_owner n [] one = absurd (omega (arith, one))
some_owner n (f ∷ fs) one = by (owns_of f.atoms n) refl one (some_owner n fs)
  where
    by : (b : Bool) → owns_of f.atoms n ≡ b → 1 ≤ cond b (1 + count n fs) (count n fs) → (1 ≤ count n fs → IsOwner fs n) → IsOwner (f ∷ fs) n
    by true e one ih = record { fact = f; at = 0; lt = omega arith; is = refl; first = rw e refl; shows = rw e refl; owns = e }
    by false e one ih = let i = ih one in record { fact = i.fact; at = suc i.at; lt = omega (arith, i.lt); is = i.is; first = rw e i.first; shows = rw e i.shows; owns = i.owns }

-- the first atom of the number
pub record IsAtomOf (own : List Atom) (n : ℕ) : Type 0 where
  pub atom : Atom
  pub at : ℕ
  pub lt : at < length own
  pub is : get_or own at atom ≡ atom
  pub first : atom_of own n ≡ Some atom
  pub number : atom.number ≡ n

pub some_atom : (own : List Atom) (n : ℕ) → owns_of own n ≡ true → IsAtomOf own n
some_atom [] n any = absurd cc
some_atom (x ∷ own) n any = by (eqb x.number n) refl (some_atom own n)
  where
    by : (b : Bool) → eqb x.number n ≡ b → (owns_of own n ≡ true → IsAtomOf own n) → IsAtomOf (x ∷ own) n
    by true e ih = record { atom = x; at = 0; lt = omega arith; is = refl; first = rw e refl; number = eqb-true x.number n e }
    by false e ih = let rest : owns_of own n ≡ true = rw e at any in let i = ih rest in record { atom = i.atom; at = suc i.at; lt = omega (arith, i.lt); is = i.is; first = rw e i.first; number = i.number }

-- an atom that is found is owned
pub atom_owned : (own : List Atom) (n : ℕ) (x : Atom) → atom_of own n ≡ Some x → owns_of own n ≡ true
atom_owned [] n x e = absurd cc
atom_owned (y ∷ own) n x e = by (eqb y.number n) refl (atom_owned own n x)
  where
    by : (b : Bool) → eqb y.number n ≡ b → (atom_of own n ≡ Some x → owns_of own n ≡ true) → owns_of (y ∷ own) n ≡ true
    by true h ih = rw h refl
    by false h ih = rw h (ih (rw h at e))

-- ---- the problem's atoms

pub numbered_in : (xs : List Atom) (n : ℕ) (x : Atom) → numbered xs n ≡ Some x → (0 < n) × (n ≤ length xs)
numbered_in xs zero x e = absurd cc
numbered_in xs (suc n) x e = (omega arith, omega (arith, slice_get_within xs n x e))

-- the owner of an atom of the problem has it, over the atom's graph
pub record Owns (p : Instance) (fs : List Facts) (n : ℕ) : Type 0 where
  pub owner : IsOwner fs n
  pub its : IsAtomOf owner.fact.atoms n
  pub held : numbered p.atoms n ≡ Some its.atom
  pub graph : owner.fact.graph ≡ graph_at p its.atom.graph

pub owns_atom : (p : Instance) (fs : List Facts) (n : ℕ) → OwnsEach p fs → 0 < n → n ≤ length p.atoms → Owns p fs n
owns_atom p fs n own low high =
    let o = some_owner n fs (omega (arith, is_count n fs, own.once n low high)) in
    let x = some_atom o.fact.atoms n o.owns in
    let exact : All (λ (y : Atom). numbered p.atoms y.number ≡ Some y) o.fact.atoms = subst (λ (f : Facts). All (λ (y : Atom). numbered p.atoms y.number ≡ Some y) f.atoms) o.is (own.exact o.at o.fact o.lt) in
    let graphs : All (λ (y : Atom). o.fact.graph ≡ graph_at p y.graph) o.fact.atoms = subst (λ (f : Facts). All (λ (y : Atom). f.graph ≡ graph_at p y.graph) f.atoms) o.is (own.graphs o.at o.fact o.lt) in
    let held : numbered p.atoms x.atom.number ≡ Some x.atom = subst (λ (y : Atom). numbered p.atoms y.number ≡ Some y) x.is (exact x.at x.atom x.lt) in
    record {
      owner = o;
      its = x;
      held = subst (λ (m : ℕ). numbered p.atoms m ≡ Some x.atom) x.number held;
      graph = subst (λ (y : Atom). o.fact.graph ≡ graph_at p y.graph) x.is (graphs x.at x.atom x.lt);
    }

-- what an atom of the problem forces by its owner's list, the owner can explain
pub can_explain : (p : Instance) (fs : List Facts) (n kept : ℕ) (l : ℤ) → OwnsEach p fs → kept ≤ length (seen_of fs n) → AtomForces p (take kept (seen_of fs n)) n l → CanExplain fs n l kept
can_explain p fs n kept l own few forces = by (numbered p.atoms n) refl forces
  where
    by : (o : Option Atom) → numbered p.atoms n ≡ o → MatchOption o ⊥ (λ x. Forces (graph_at p x.graph) x (take kept (seen_of fs n)) l) → CanExplain fs n l kept
    by None e f = absurd f
    by (Some x) e f =
        let within = numbered_in p.atoms n x e in
        let w = owns_atom p fs n own within.0 within.1 in
        let o = w.owner in
        let same : Some x ≡ Some w.its.atom = sym e ∙ w.held in
        let is : x ≡ w.its.atom = cc in
        let f1 : Forces (graph_at p w.its.atom.graph) w.its.atom (take kept (seen_of fs n)) l = subst (λ (y : Atom). Forces (graph_at p y.graph) y (take kept (seen_of fs n)) l) is f in
        let f2 : Forces o.fact.graph w.its.atom (take kept o.fact.seen) l = subst (λ (t : List ℤ). Forces o.fact.graph w.its.atom (take kept t) l) o.shows (subst (λ (g : Digraph). Forces g w.its.atom (take kept (seen_of fs n)) l) (sym w.graph) f1) in
        rw o.first (record { within = subst (λ (t : List ℤ). kept ≤ length t) o.shows few; forces = rw w.its.first f2 })

-- ---- what keeps graphs and atoms keeps who owns what

count_kept : (h : Facts → Facts) (n : ℕ) (fs : List Facts) → ((f : Facts) → (h f).atoms ≡ f.atoms) → count n (map h fs) ≡ count n fs
unfolding count
count_kept h n [] ha = refl
count_kept h n (f ∷ fs) ha =
    let same : owns_of (h f).atoms n ≡ owns_of f.atoms n = ap (λ (own : List Atom). owns_of own n) (ha f) in
    let rest : count n (map h fs) ≡ count n fs = count_kept h n fs ha in
    ap (λ b. cond b (1 + count n (map h fs)) (count n (map h fs))) same ∙ ap (λ m. cond (owns_of f.atoms n) (1 + m) m) rest

pub owns_kept : (h : Facts → Facts) (p : Instance) (fs : List Facts) → ((f : Facts) → (h f).graph ≡ f.graph) → ((f : Facts) → (h f).atoms ≡ f.atoms) → OwnsEach p fs → OwnsEach p (map h fs)
owns_kept h p fs hg ha o = record {
  once = λ n low high. sym (is_count n (map h fs)) ∙ count_kept h n fs ha ∙ is_count n fs ∙ o.once n low high;
  exact = All-map (λ f. All (λ x. numbered p.atoms x.number ≡ Some x) f.atoms) h fs (λ j f lt. rw (ha (get_or fs j f)) (o.exact j f lt));
  graphs = All-map (λ f. All (λ x. f.graph ≡ graph_at p x.graph) f.atoms) h fs (λ j f lt. rw (ha (get_or fs j f), hg (get_or fs j f)) (o.graphs j f lt));
}

pub owns-at_list : (p : Instance) (fs : List Facts) (t : List ℤ) → OwnsEach p fs → OwnsEach p (map (with_seen t) fs)
owns-at_list p fs t o = owns_kept (with_seen t) p fs (λ f. refl) (λ f. refl) o

-- theories that have seen exactly what concerns them are where they are
pub at_current : (fs : List Facts) (t : List ℤ) → All (IsCurrent t) fs → map (with_seen t) fs ≡ fs
at_current [] t c = refl
at_current (f ∷ fs) t c =
    let here : with_seen t f ≡ f = ap (λ (s : List ℤ). record { graph = f.graph; atoms = f.atoms; seen = s }) (sym (c 0 f (omega arith))) in
    let rest : map (with_seen t) fs ≡ fs = at_current fs t (λ k d lt. c (suc k) d (omega arith)) in
    ap (λ (x : Facts). x ∷ map (with_seen t) fs) here ∙ ap (λ (xs : List Facts). f ∷ xs) rest

pub current-at : (fs : List Facts) (t : List ℤ) → All (IsCurrent t) (map (with_seen t) fs)
current-at fs t = All-map (IsCurrent t) (with_seen t) fs (λ k d lt. refl)

pub at-at : (fs : List Facts) (t u : List ℤ) → map (with_seen t) (map (with_seen u) fs) ≡ map (with_seen t) fs
at-at [] t u = refl
at-at (f ∷ fs) t u = ap (λ (xs : List Facts). with_seen t f ∷ xs) (at-at fs t u)

-- a literal more is handed on
pub handed-at : (fs : List Facts) (t : List ℤ) (l : ℤ) → map (handed_on l) (map (with_seen t) fs) ≡ map (with_seen (t ++ l ∷ [])) fs
handed-at [] t l = refl
handed-at (f ∷ fs) t l =
    ap (λ (s : List ℤ). record { graph = f.graph; atoms = f.atoms; seen = s } ∷ map (handed_on l) (map (with_seen t) fs)) (sym (filter-append (λ m. concerns_of f.graph f.atoms (var_of m)) t (l ∷ [])))
    ∙ ap (λ (xs : List Facts). with_seen (t ++ l ∷ []) f ∷ xs) (handed-at fs t l)

-- the next literal is open in what was seen
pub all_fresh : (fs : List Facts) (t : List ℤ) (k : ℕ) → IsTrue (is_partial t) → k < length t → All (IsCurrent (take k t)) fs → All (λ f. IsTrue (is_open_in f.seen (lit_at t k))) fs
all_fresh fs t k d lt c = λ j f in_list.
    subst (λ (s : List ℤ). IsTrue (is_open_in s (lit_at t k))) (sym (c j f in_list)) (open-fewer (take k t) (concerning (get_or fs j f) (take k t)) (lit_at t k) (concerned-in (get_or fs j f) (take k t)) (open_before t k k d (omega arith) lt))
