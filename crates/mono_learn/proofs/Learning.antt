-- How a chain begins, and how it ends.
use Rattle.std.proofs.Common.{◌≡◌, ℕ, zero, suc, ◌+◌, ◌-◌, ◌<◌, ◌≤◌, ◌==◌, Bool, true, false, List, [], ◌∷◌, ◌++◌, length, map, refl, sym, ap, subst, ◌∙◌, ◌⊎◌, inl, inr, ℤ, neg_ℤ, arith, eqb-true, Result, Ok, Err}
use Rattle.std.specs.Prelude.{IsTrue, Some, nat_le, ◌&&◌, Contains, slice_get}
use Rattle.std.specs.Result.{OnErr, IfOk}
use Rattle.std.specs.Ordering.{int_eq}
use Rattle.std.proofs.lemmas.Bool.{and_from, le-leb, or_left, cases_lt}
use Rattle.std.proofs.lemmas.List.{append-nil}
use Rattle.std.proofs.lemmas.Option.{same_Some}
use Rattle.mono_base.specs.Literal.{var_of, has_lit, without, lit_at}
use Rattle.mono_problem.specs.Instance.{Instance, numbered}
use Rattle.mono_steps.specs.declared.step.Chain.{Chain}
use Rattle.mono_steps.specs.Chains.{chain_end}
use Rattle.mono_steps.specs.ChainSteps.{clauses_named, names_clauses, names_vars, covers, is_justified_chain}
use Rattle.mono_trail.specs.TrailView.{StandsAt, TrailView, IsSoundTrail, count_to}
use Rattle.mono_trail.specs.Seen.{is_marked, IsUnseen}
use Rattle.mono_learn.specs.declared.resolvent.Resolvent.{Resolvent}
use Rattle.mono_learn.specs.Reasons.{IsFalseClause, IsConflict, HasReasons}
use Rattle.mono_steps.specs.declared.step.Step.{Step}
use Rattle.mono_steps.specs.declared.step.Step.TheVariants as step
use Rattle.mono_steps.specs.Steps.{clause_of, clauses_after}
use Rattle.mono_steps.specs.declared.lemma.Lemma.{Lemma}
use Rattle.mono_steps.proofs.JournalSteps.{after-append}
use Rattle.mono_steps.proofs.StepLists.{numbered_more}
use Rattle.mono_learn.specs.declared.learn.Learnt.{Learnt}
use Rattle.mono_learn.specs.Asked.{AsksFor, AddsChains, PushesChain}
use Rattle.mono_steps.specs.Journals.{lemma_steps, AddsLemmas}
use Rattle.mono_steps.specs.New.{IsExactEnd}
use Rattle.mono_learn.specs.Learned.{IsLearnt, IsMinimal, Learns, Refutes}
use Rattle.mono_learn.specs.Settled.{Settles, IsAskedFor, AreAskedFor}
use Rattle.mono_learn.proofs.Asking.{was_unit, asked_by, get_left, get_right}
use Rattle.mono_learn.proofs.Settling.{settles_more, reasons_more}
use Rattle.mono_learn.proofs.MinimizingSteps.{false_vars, learnt_false}
use Rattle.mono_learn.specs.Resolvents.{marked_from, AllFalse}
use Rattle.mono_learn.specs.Joins.{Joins, StandsFor}
use Rattle.mono_learn.specs.Resolving.{IsFresh, HasCome}
use Rattle.mono_learn.proofs.LitSets.{without_has, has-without}
use Rattle.mono_base.proofs.Truth.{lit_itself, from_each}
use Rattle.mono_learn.proofs.Marking.{mark_less}
use Rattle.mono_learn.proofs.PlacesOfLits.{one_place, no_opposites, clause_false, is_number}
use Rattle.mono_learn.proofs.LevelsByPlace.{present_high}

no_marks : (s : ℕ) (seen : List Bool) → ((k : ℕ) → is_marked seen k ≡ false) → marked_from s seen ≡ 0
no_marks s [] u = refl
no_marks zero (b ∷ bs) u = let e : b ≡ false = u 0 in rw e (omega (arith, no_marks zero bs (λ k. u (suc k))))
no_marks (suc s) (b ∷ bs) u = no_marks s bs (λ k. u (suc k))

not_marked : {A : Type 0} (seen : List Bool) (k : ℕ) → IsUnseen seen → is_marked seen k ≡ true → A
not_marked seen k u e = absurd (let z : true ≡ false = sym e ∙ u.unmarked k in cc)

pub fresh_counted : (n start : ℕ) (m : Resolvent) → IsFresh n m → m.count ≡ marked_from start m.seen.items
fresh_counted n start m f = f.count ∙ sym (no_marks start m.seen.items f.unseen.unmarked)

none_in : {A : Type 0} (k : ℕ) → Contains [] k → A
none_in k (i, lt, e) = absurd (omega (arith, lt))

fresh_stands : (t : List ℤ) (start : ℕ) (m : Resolvent) → IsFresh (length t) m → StandsFor t start (length t) m []
fresh_stands t start m f = record {
  marks = record {
    slots = f.slots;
    within = omega arith;
    below = λ k on. not_marked m.seen.items k f.unseen on;
    only = λ l h. absurd cc;
    all = λ l k. not_marked m.seen.items k.place f.unseen k.marked;
  };
  counted = fresh_counted (length t) start m f;
  kept_only = λ k h. none_in k (subst (λ (ks : List ℕ). Contains ks k) f.kept h);
  kept_all = λ k lt on. not_marked m.seen.items k f.unseen on;
}

-- a true literal is not in a false clause
not_in_false : (t : TrailView) (c : List ℤ) (k : ℕ) (l : ℤ) → IsSoundTrail t → k < length t.lits → AllFalse t.lits (length t.lits) c → IsTrue (has_lit c l) → l ≡ lit_at t.lits k → ⊥
not_in_false t c k l s lt f h e = let b = f.are l h in no_opposites t k b.place l s lt b.within (sym e) b.there

are_false : (cs : List (List ℤ)) (t : List ℤ) (n : ℕ) (c : List ℤ) → (w : IsFalseClause cs t n) → numbered cs n ≡ Some c → AllFalse t (length t) c
are_false cs t n c w is = subst (AllFalse t (length t)) (same_Some w.clause c (sym w.is ∙ is)) (clause_false cs t n w)

pub false_but : (cs : List (List ℤ)) (t : List ℤ) (n : ℕ) (c : List ℤ) (x : ℤ) → IsFalseClause cs t n → numbered cs n ≡ Some c → AllFalse t (length t) (without c x)
false_but cs t n c x w is = record { are = λ l h. (are_false cs t n c w is).are l (without_has c x l h).0 }

-- a clause that has a number can be named
named_by : (cs : List (List ℤ)) (n : ℕ) (c : List ℤ) → numbered cs n ≡ Some c → IsTrue (nat_le 1 n && nat_le n (length cs))
named_by cs n c is = let i = is_number cs n c is in and_from (nat_le 1 n) (nat_le n (length cs)) (le-leb 1 n i.low) (le-leb n (length cs) i.high)

-- the chain begins with the false clause
pub begins : (cs : List (List ℤ)) (t : TrailView) (start n : ℕ) (old new : Resolvent) (c : List ℤ) (x : ℤ) (used : List ℕ) → IsSoundTrail t → start < length t.lits → x ≡ lit_at t.lits start → IsFalseClause cs t.lits n → numbered cs n ≡ Some c → IsFresh (length t.lits) old → Joins t.lits start old new (without c x) → used ≡ n ∷ [] → HasCome cs t.lits start (length t.lits) new used
begins cs t start n old new c x used s lt ex w is f j eu =
    let are = are_false cs t.lits n c w is in
    let stands : StandsFor t.lits start (length t.lits) new (without c x) = j.resolvent (length t.lits) [] (λ l h. are.are l (without_has c x l h).0) (fresh_stands t.lits start old f) in
    record {
      end = c;
      is_end = rw (eu, is) refl;
      named = rw eu (and_from (nat_le 1 n && nat_le n (length cs)) true (named_by cs n c is) refl);
      resolvent = record {
        marks = record {
          slots = stands.marks.slots;
          within = stands.marks.within;
          below = stands.marks.below;
          only = λ l h. stands.marks.only l (has-without c x l (λ e. not_in_false t c start l s lt are h (e ∙ ex)) h);
          all = λ l k. (without_has c x l (stands.marks.all l k)).0;
        };
        counted = stands.counted;
        kept_only = stands.kept_only;
        kept_all = stands.kept_all;
      };
    }

-- the conflict without its literal of the present level
pub false_of : (cs : List (List ℤ)) (t : TrailView) (n : ℕ) → IsConflict cs t n → IsFalseClause cs t.lits n
false_of cs t n w = record { clause = w.clause; is = w.is; is_false = w.is_false }

-- a literal of the present level is counted
some_count : (cs : List (List ℤ)) (t : TrailView) (start n : ℕ) (m : Resolvent) (used : List ℕ) → IsSoundTrail t → 1 ≤ t.level → start ≡ count_to (t.level - 1) t.marks → (w : IsConflict cs t n) → (h : HasCome cs t.lits start (length t.lits) m used) → h.end ≡ w.clause → 1 ≤ m.count
some_count cs t start n m used s one e w h is =
    let high : start ≤ w.present.place = present_high t start (neg_ℤ w.lit) one e w.present in
    let k = h.resolvent.marks.only w.lit (subst (λ (d : List ℤ). IsTrue (has_lit d w.lit)) (sym is) w.has) in
    let same : k.place ≡ w.present.place = one_place t.lits k.place w.present.place s.partial k.below w.present.within (ap var_of (k.there ∙ sym w.present.there)) in
    omega (arith, h.resolvent.counted, mark_less start k.place m.seen.items (omega (arith, same, high)) k.marked)

pub begins_some : (cs : List (List ℤ)) (t : TrailView) (start n : ℕ) (old new : Resolvent) (c : List ℤ) (x : ℤ) (used : List ℕ) → IsSoundTrail t → 1 ≤ t.level → start ≡ count_to (t.level - 1) t.marks → start < length t.lits → x ≡ lit_at t.lits start → IsConflict cs t n → numbered cs n ≡ Some c → IsFresh (length t.lits) old → Joins t.lits start old new (without c x) → used ≡ n ∷ [] → 1 ≤ new.count
unfolding begins
begins_some cs t start n old new c x used s one e lt ex w is f j eu =
    some_count cs t start n new used s one e w (begins cs t start n old new c x used s lt ex (false_of cs t n w) is f j eu) (same_Some c w.clause (sym is ∙ w.is))

-- the present level's decision stands on the trail
pub start_within : (cs : List (List ℤ)) (t : TrailView) (start n : ℕ) → 1 ≤ t.level → start ≡ count_to (t.level - 1) t.marks → IsConflict cs t n → start < length t.lits
start_within cs t start n one e w = omega (arith, present_high t start (neg_ℤ w.lit) one e w.present, w.present.within)

-- ---- the empty clause

pub none_left : (cs : List (List ℤ)) (t : List ℤ) (start : ℕ) (m : Resolvent) (used : List ℕ) → HasCome cs t start 0 m used → IsExactEnd cs (record { clause = []; used = used })
none_left cs t start m used h = record { end = h.end; is_end = h.is_end; named = h.named; same = λ l. sym (empty l (has_lit h.end l) refl) }
  where
    empty : (l : ℤ) (b : Bool) → has_lit h.end l ≡ b → b ≡ false
    empty l false e = refl
    empty l true e = absurd (let m = h.resolvent.marks.only l e in omega (arith, m.below))

pub none_marked : (cs : List (List ℤ)) (t : List ℤ) (start : ℕ) (m : Resolvent) (used : List ℕ) → HasCome cs t start 0 m used → IsUnseen m.seen.items
none_marked cs t start m used h = record { unmarked = λ k. off k (is_marked m.seen.items k) refl }
  where
    off : (k : ℕ) (b : Bool) → is_marked m.seen.items k ≡ b → b ≡ false
    off k false e = refl
    off k true e = absurd (omega (arith, h.resolvent.marks.below k e))

pub empty_false : (cs : List (List ℤ)) (t : List ℤ) (n : ℕ) (c : List ℤ) (used : List ℕ) → IsFalseClause cs t n → numbered cs n ≡ Some c → (length c == 0) ≡ true → used ≡ n ∷ [] → IsExactEnd cs (record { clause = []; used = used })
empty_false cs t n (x ∷ c) used w is z eu = absurd (let e : suc (length c) ≡ 0 = eqb-true (suc (length c)) 0 z in omega arith)
empty_false cs t n [] used w is z eu = record {
  end = [];
  is_end = rw (eu, is) refl;
  named = rw eu (and_from (nat_le 1 n && nat_le n (length cs)) true (named_by cs n [] is) refl);
  same = λ l. refl;
}

-- a false clause that isn't empty has a literal, so the trail has one
pub some_lits : (cs : List (List ℤ)) (t : List ℤ) (n : ℕ) (c : List ℤ) → IsFalseClause cs t n → numbered cs n ≡ Some c → (length c == 0) ≡ false → 0 < length t
some_lits cs t n [] w is z = absurd (let e : true ≡ false = z in cc)
some_lits cs t n (x ∷ c) w is z = let f = (are_false cs t n (x ∷ c) w is).are x (or_left (int_eq x x) (has_lit c x) (lit_itself x)) in omega (arith, f.within)

-- ---- what is pushed

-- a chain whose clause is exactly its end is justified
pub exact_justified : (p : Instance) (cs : List (List ℤ)) (c : Chain) → IsTrue (names_vars p c.clause) → IsExactEnd cs c → IsTrue (is_justified_chain p cs c)
exact_justified p cs c vars a = and_from (names_vars p c.clause && names_clauses cs c.used) (covers c.clause (chain_end (clauses_named cs c.used)))
    (and_from (names_vars p c.clause) (names_clauses cs c.used) vars a.named)
    (rw a.is_end (from_each (has_lit c.clause) a.end (λ l h. a.same l ∙ h)))

pub learnt_vars : (p : Instance) (t : TrailView) (back : ℕ) (lits : List ℤ) → IsSoundTrail t → t.vars ≡ p.vars → IsLearnt t lits back → IsTrue (names_vars p lits)
learnt_vars p t back lits s ev a = false_vars p t lits s ev (learnt_false t lits back a)

pub pushes_by : (p : Instance) (j j' : List Step) (c : List ℤ) (used used' : List ℕ) (n : ℕ) → IsExactEnd (clauses_after p j) (record { clause = c; used = used }) → used' ≡ used → j' ≡ j ++ step.Chain (record { clause = c; used = used' }) ∷ [] → n ≡ length (clauses_after p j')
    → PushesChain p j j' c n
pushes_by p j j' c used used' n e eu ej en = record { used = used'; pushed = ej; number = en; exact = rw eu e }

pub chains_none : (j j' : List Step) → j' ≡ j → AddsChains j j'
chains_none j j' e = record { chains = []; pushed = e ∙ sym (append-nil j) }

pub chains_one : (j j' : List Step) (c : Chain) → j' ≡ j ++ step.Chain c ∷ [] → AddsChains j j'
chains_one j j' c e = record { chains = c ∷ []; pushed = e }

-- ---- lemmas that were asked for, and then a chain

pub clauses_grown : (p : Instance) (j j' : List Step) → (g : AddsChains j j') → clauses_after p j' ≡ clauses_after p j ++ map clause_of (map (λ (c : Chain). step.Chain c) g.chains)
clauses_grown p j j' g = ap (clauses_after p) g.pushed ∙ after-append p j (map (λ (c : Chain). step.Chain c) g.chains)

pub reasons_grown : (p : Instance) (j j' : List Step) (shown : ℕ → List ℤ) (t : TrailView) → AddsChains j j' → HasReasons p (clauses_after p j) shown t → HasReasons p (clauses_after p j') shown t
reasons_grown p j j' shown t g h = subst (λ (cs : List (List ℤ)). HasReasons p cs shown t) (sym (clauses_grown p j j' g)) (reasons_more p (clauses_after p j) (map clause_of (map (λ (c : Chain). step.Chain c) g.chains)) shown t h)

pub settles_grown : (p : Instance) (t0 t : TrailView) (j0 j j' : List Step) → AsksFor p t0 j0 t j → AddsChains j j' → Settles (clauses_after p j') t0 t
settles_grown p t0 t j0 j j' a g = subst (λ (cs : List (List ℤ)). Settles cs t0 t) (sym (clauses_grown p j j' g)) (settles_more (clauses_after p j) (map clause_of (map (λ (c : Chain). step.Chain c) g.chains)) t0 t a.settles)

no_lemma : (cs : List Chain) (k : ℕ) (m : Lemma) → slice_get (map (λ (c : Chain). step.Chain c) cs) k ≡ Some (step.Lemma m) → ⊥
no_lemma [] k m e = cc
no_lemma (c ∷ cs) zero m e = cc
no_lemma (c ∷ cs) (suc k) m e = no_lemma cs k m e

pub asked_grown : (p : Instance) (t0 t : TrailView) (j0 j j' : List Step) → AsksFor p t0 j0 t j → AddsChains j j' → AreAskedFor p t0 t j0 j'
asked_grown p t0 t j0 j j' a g = record { at = λ k m le e. by_place k m le (sym (ap (λ (ss : List Step). slice_get ss k) g.pushed) ∙ e) (cases_lt k (length j)) }
  where
    by_place : (k : ℕ) (m : Lemma) → length j0 ≤ k → slice_get (j ++ map (λ (c : Chain). step.Chain c) g.chains) k ≡ Some (step.Lemma m) → (k < length j) ⊎ (length j ≤ k) → IsAskedFor t0 t m (length p.clauses + 1 + k)
    by_place k m le e (inl low) = asked_by p t0 t j0 j k m a le (sym (get_left j (map (λ (c : Chain). step.Chain c) g.chains) k low) ∙ e)
    by_place k m le e (inr high) = absurd (no_lemma g.chains (k - length j) m (sym (get_right j (map (λ (c : Chain). step.Chain c) g.chains) k high) ∙ e))

pub minimal_grown : (p : Instance) (j j' : List Step) (shown : ℕ → List ℤ) (t : TrailView) (c : List ℤ) → HasReasons p (clauses_after p j) shown t → AddsChains j j' → IsMinimal (clauses_after p j) t c → IsMinimal (clauses_after p j') t c
minimal_grown p j j' shown t c r g m = subst (λ (cs : List (List ℤ)). IsMinimal cs t c) (sym (clauses_grown p j j' g)) (record {
  at = λ k n d lt low has why is.
      let w = was_unit p (clauses_after p j) shown t k n r lt why in
      m.at k n d lt low has why (sym (numbered_more (clauses_after p j) (map clause_of (map (λ (e : Chain). step.Chain e) g.chains)) n (is_number (clauses_after p j) n w.clause w.is).high) ∙ is);
})

-- the learned clause, as the trail was before reasons were settled
learnt_before : (cs : List (List ℤ)) (t u : TrailView) (c : List ℤ) (back : ℕ) → Settles cs t u → IsLearnt u c back → IsLearnt t c back
learnt_before cs t u c back s a = record {
  lower = omega (arith, a.lower, s.level);
  lit = a.lit;
  has = a.has;
  present = subst (StandsAt t (neg_ℤ a.lit)) s.level (stood (neg_ℤ a.lit) u.level a.present);
  others = λ l h n. let o = a.others l h n in (o.0, o.1, stood (neg_ℤ l) o.0 o.2);
  reached = elim a.reached [ inl none ↦ inl none | inr r ↦ inr (r.0, r.1, r.2, stood (neg_ℤ r.0) back r.3) ];
}
  where
    stood : (l : ℤ) (level : ℕ) → StandsAt u l level → StandsAt t l level
    stood l level w = record {
      place = w.place;
      within = subst (λ (ls : List ℤ). w.place < length ls) s.lits w.within;
      there = subst (λ (ls : List ℤ). lit_at ls w.place ≡ l) s.lits w.there;
      at = sym (s.levels w.place) ∙ w.at;
    }

exact_after : (p : Instance) (j0 j : List Step) (lemmas : List Lemma) (c : Chain) → j ≡ j0 ++ lemma_steps lemmas → IsExactEnd (clauses_after p j) c → IsExactEnd (clauses_after p (j0 ++ lemma_steps lemmas)) c
exact_after p j0 j lemmas c e x = subst (λ (ss : List Step). IsExactEnd (clauses_after p ss) c) e x

pub learns_after : (p : Instance) (t0 t : TrailView) (j0 j j' : List Step) (r : Learnt) → AsksFor p t0 j0 t j → PushesChain p j j' r.clause r.number → IsLearnt t r.clause r.back_to → Learns p t0 j0 j' r
learns_after p t0 t j0 j j' r a c l = record {
  lemmas = a.lemmas;
  used = c.used;
  pushed = c.pushed ∙ ap (λ (ss : List Step). ss ++ step.Chain (record { clause = r.clause; used = c.used }) ∷ []) a.pushed;
  number = c.number;
  exact = exact_after p j0 j a.lemmas (record { clause = r.clause; used = c.used }) a.pushed c.exact;
  learnt = learnt_before (clauses_after p j) t0 t r.clause r.back_to a.settles l;
}

pub refutes_after : (p : Instance) (t0 t : TrailView) (j0 j j' : List Step) (n : ℕ) → AsksFor p t0 j0 t j → PushesChain p j j' [] n → Refutes p j0 j' n
refutes_after p t0 t j0 j j' n a c = record {
  lemmas = a.lemmas;
  used = c.used;
  pushed = c.pushed ∙ ap (λ (ss : List Step). ss ++ step.Chain (record { clause = []; used = c.used }) ∷ []) a.pushed;
  number = c.number;
  exact = exact_after p j0 j a.lemmas (record { clause = []; used = c.used }) a.pushed c.exact;
}

-- ---- results

-- what holds anyway, holds after an error
pub on_err : {T E P : Type 0} (r : Result T E) → P → OnErr r P
on_err (Ok x) h = tt
on_err (Err e) h = h

pub all_of : {T E : Type 0} (r : Result T E) (P Q R : T → Type 0) → ((x : T) → P x → Q x → R x) → IfOk r P → IfOk r Q → IfOk r R
all_of (Ok x) P Q R f p q = f x p q
all_of (Err e) P Q R f p q = tt

pub adds_same : (p : Instance) (t0 t : TrailView) (j0 j j' : List Step) → AsksFor p t0 j0 t j → j' ≡ j → AddsLemmas j0 j'
adds_same p t0 t j0 j j' a e = record { lemmas = a.lemmas; pushed = e ∙ a.pushed }
