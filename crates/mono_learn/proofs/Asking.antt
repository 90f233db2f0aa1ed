-- Lemmas that join a journal, and reasons that are settled by them.
use Rattle.std.proofs.Common.{◌≡◌, ℕ, zero, suc, ◌+◌, ◌-◌, ◌<◌, ◌≤◌, ◌&&◌, List, [], ◌∷◌, ◌++◌, length, map, take, Option, Some, refl, sym, ap, subst, ◌∙◌, ◌⊎◌, inl, inr, ℤ, arith, length-append, append_assoc}
use Rattle.std.specs.Prelude.{IsTrue, nat_le, slice_get}
use Rattle.std.specs.List.{cons_option}
use Rattle.std.proofs.lemmas.Bool.{and_parts, and_from, le-leb, leb-true, cases_lt}
use Rattle.std.proofs.lemmas.List.{append-nil, length-map, map-append}
use Rattle.mono_base.specs.Literal.{var_of, lit_at}
use Rattle.mono_problem.specs.Instance.{Instance, numbered}
use Rattle.mono_steps.specs.declared.lemma.Lemma.{Lemma}
use Rattle.mono_steps.specs.declared.step.Step.{Step}
use Rattle.mono_steps.specs.declared.step.Step.TheVariants as step
use Rattle.mono_steps.specs.Chains.{chain_end}
use Rattle.mono_steps.specs.ChainSteps.{clauses_named, names_clauses}
use Rattle.mono_steps.specs.Steps.{clause_of, clauses_after, are_justified}
use Rattle.mono_steps.proofs.StepLists.{numbered_more, length_clauses}
use Rattle.mono_trail.specs.declared.reason.Reason.TheVariants.{Clause, Late}
use Rattle.mono_trail.specs.Places.{reason_at, place_in}
use Rattle.mono_trail.specs.Moves.{settled, settled_where, settled_at, HasLate}
use Rattle.mono_trail.specs.TrailView.{TrailView, IsSoundTrail}
use Rattle.mono_steps.specs.Journals.{lemma_steps, AddsLemmas}
use Rattle.mono_steps.proofs.JournalSteps.{after-append}
use Rattle.mono_learn.specs.Explain.{IsExplanation}
use Rattle.mono_learn.specs.Reasons.{WasUnit, WasForced, ReasonHolds, HasReasons}
use Rattle.mono_learn.specs.Settled.{Settles, IsAskedFor, AreAskedFor}
use Rattle.mono_learn.specs.Asked.{AsksFor}
use Rattle.mono_learn.specs.declared.resolvent.Resolvent.{Resolvent}
use Rattle.mono_learn.specs.Resolving.{HasCome}
use Rattle.mono_learn.proofs.PlacesOfLits.{place_in_at}
use Rattle.mono_learn.proofs.Settling.{settles_none, settles_then, settles_more, settles_one, clause_after, late_before, reasons_more, reasons_settled, lemma_was_unit, reason_settled}

pub clauses_asked : (p : Instance) (t0 t : TrailView) (j0 j : List Step) → (a : AsksFor p t0 j0 t j) → clauses_after p j ≡ clauses_after p j0 ++ map clause_of (lemma_steps a.lemmas)
clauses_asked p t0 t j0 j a = ap (clauses_after p) a.pushed ∙ after-append p j0 (lemma_steps a.lemmas)

-- ---- what stands in two lists

pub get_left : {A : Type 0} (xs ys : List A) (k : ℕ) → k < length xs → slice_get (xs ++ ys) k ≡ slice_get xs k
get_left [] ys k lt = absurd (omega (arith, lt))
get_left (x ∷ xs) ys zero lt = refl
get_left (x ∷ xs) ys (suc k) lt = get_left xs ys k (omega (arith, lt))

pub get_right : {A : Type 0} (xs ys : List A) (k : ℕ) → length xs ≤ k → slice_get (xs ++ ys) k ≡ slice_get ys (k - length xs)
get_right [] ys k le = let e : k ≡ k - 0 = omega arith in ap (slice_get ys) e
get_right (x ∷ xs) ys zero le = absurd (omega (arith, le))
get_right (x ∷ xs) ys (suc k) le = let e : k - length xs ≡ suc k - suc (length xs) = omega arith in get_right xs ys k (omega (arith, le)) ∙ ap (slice_get ys) e

get_lemma : (ls : List Lemma) (k : ℕ) (m : Lemma) → slice_get (lemma_steps ls) k ≡ Some (step.Lemma m) → slice_get ls k ≡ Some m
get_lemma [] k m e = absurd cc
get_lemma (l ∷ ls) zero m e = cc
get_lemma (l ∷ ls) (suc k) m e = get_lemma ls k m e

-- ---- lemmas asked for

pub asks_none : (p : Instance) (t : TrailView) (j : List Step) → AsksFor p t j t j
asks_none p t j = record { lemmas = []; pushed = sym (append-nil j); settles = settles_none (clauses_after p j) t; asked = λ i m e. absurd cc; keeps = λ h. h }

pub asks_more : (p : Instance) (t0 t1 t2 : TrailView) (j0 j1 j2 : List Step) → AsksFor p t0 j0 t1 j1 → AsksFor p t1 j1 t2 j2 → AsksFor p t0 j0 t2 j2
asks_more p t0 t1 t2 j0 j1 j2 a b = record {
  lemmas = a.lemmas ++ b.lemmas;
  pushed = b.pushed ∙ ap (λ (ss : List Step). ss ++ lemma_steps b.lemmas) a.pushed ∙ append_assoc j0 (lemma_steps a.lemmas) (lemma_steps b.lemmas) ∙ ap (λ (ss : List Step). j0 ++ ss) (sym (map-append (λ (l : Lemma). step.Lemma l) a.lemmas b.lemmas));
  settles = settles_then (clauses_after p j2) t0 t1 t2 first b.settles;
  asked = λ i m e. by_place i m e (cases_lt i (length a.lemmas));
  keeps = λ h. b.keeps (a.keeps h);
}
  where
    first : Settles (clauses_after p j2) t0 t1
    first = subst (λ (cs : List (List ℤ)). Settles cs t0 t1) (sym (clauses_asked p t1 t2 j1 j2 b)) (settles_more (clauses_after p j1) (map clause_of (lemma_steps b.lemmas)) t0 t1 a.settles)

    longer : length (clauses_after p j1) ≡ length (clauses_after p j0) + length a.lemmas
    longer = ap (λ (cs : List (List ℤ)). length cs) (clauses_asked p t0 t1 j0 j1 a) ∙ length-append (clauses_after p j0) (map clause_of (lemma_steps a.lemmas)) ∙ ap (λ (n : ℕ). length (clauses_after p j0) + n) (length-map (lemma_steps a.lemmas) clause_of ∙ length-map a.lemmas (λ (l : Lemma). step.Lemma l))

    still : (m : Lemma) (n : ℕ) → IsAskedFor t0 t1 m n → IsAskedFor t0 t2 m n
    still m n w = record {
      place = w.place;
      within = w.within;
      kept = w.kept;
      was = w.was;
      is = clause_after (clauses_after p j2) t1 t2 w.place b.settles (omega (arith, w.within, ap (λ (ls : List ℤ). length ls) a.settles.lits)) n w.is;
    }

    from_first : (m : Lemma) (n : ℕ) → IsAskedFor t1 t2 m n → IsAskedFor t0 t2 m n
    from_first m n w =
        let lt : w.place < length t0.lits = omega (arith, w.within, ap (λ (ls : List ℤ). length ls) a.settles.lits) in
        record { place = w.place; within = lt; kept = w.kept; was = late_before (clauses_after p j2) t0 t1 w.place first lt m.atom w.kept w.was; is = w.is }

    by_place : (i : ℕ) (m : Lemma) → slice_get (a.lemmas ++ b.lemmas) i ≡ Some m → (i < length a.lemmas) ⊎ (length a.lemmas ≤ i) → IsAskedFor t0 t2 m (length (clauses_after p j0) + 1 + i)
    by_place i m e (inl low) = still m (length (clauses_after p j0) + 1 + i) (a.asked i m (sym (get_left a.lemmas b.lemmas i low) ∙ e))
    by_place i m e (inr high) =
        let same : length (clauses_after p j1) + 1 + (i - length a.lemmas) ≡ length (clauses_after p j0) + 1 + i = omega (arith, longer, high) in
        subst (IsAskedFor t0 t2 m) same (from_first m (length (clauses_after p j1) + 1 + (i - length a.lemmas)) (b.asked (i - length a.lemmas) m (sym (get_right a.lemmas b.lemmas i high) ∙ e)))

-- what is left of one lemma that was asked for
pub record IsAsked (p : Instance) (shown : ℕ → List ℤ) (t0 : TrailView) (j0 : List Step) (t : TrailView) (j : List Step) (place n : ℕ) : Type 0 where
  pub asks : AsksFor p t0 j0 t j
  pub reasons : HasReasons p (clauses_after p j) shown t
  pub is : WasUnit (clauses_after p j) t.lits place n
  pub why : reason_at t.marks place ≡ Clause n

-- a literal's reason is late
pub late_there : (t : TrailView) (place atom kept v : ℕ) (x : ℤ) → IsSoundTrail t → place < length t.lits → x ≡ lit_at t.lits place → v ≡ var_of x → reason_at t.marks place ≡ Late atom kept → HasLate t v
late_there t place atom kept v x s lt ex ev late = record { place = place; is = ap (place_in t.lits) (ev ∙ ap var_of ex) ∙ place_in_at t.lits place s.partial lt; atom = atom; kept = kept; late = late }

-- the literal at a place was forced
pub was_forced : (p : Instance) (cs : List (List ℤ)) (shown : ℕ → List ℤ) (t : TrailView) (k a q : ℕ) → HasReasons p cs shown t → k < length t.lits → reason_at t.marks k ≡ Late a q → WasForced p shown t.lits k a q
was_forced p cs shown t k a q r lt e = subst (ReasonHolds p cs shown t.lits k) e (r.at k lt)

-- or implied by a clause that was unit
pub was_unit : (p : Instance) (cs : List (List ℤ)) (shown : ℕ → List ℤ) (t : TrailView) (k n : ℕ) → HasReasons p cs shown t → k < length t.lits → reason_at t.marks k ≡ Clause n → WasUnit cs t.lits k n
was_unit p cs shown t k n r lt e = subst (ReasonHolds p cs shown t.lits k) e (r.at k lt)

pub late_asked : (p : Instance) (shown : ℕ → List ℤ) (t t' : TrailView) (j j' : List Step) (place atom kept n v : ℕ) (x : ℤ) (m : Lemma) → IsSoundTrail t → place < length t.lits → x ≡ lit_at t.lits place → v ≡ var_of x → HasReasons p (clauses_after p j) shown t → reason_at t.marks place ≡ Late atom kept
    → IsExplanation p (take kept (shown atom)) atom x m → j' ≡ j ++ step.Lemma m ∷ [] → n ≡ length (clauses_after p j') → (IsTrue (are_justified p j) → IsTrue (are_justified p j')) → t' ≡ settled t v n → IsAsked p shown t j t' j' place n
late_asked p shown t t' j j' place atom kept n v x m s lt ex ev r late e ej en keeps et = record {
  asks = record {
    lemmas = m ∷ [];
    pushed = ej;
    settles = settles;
    asked = asked;
    keeps = keeps;
  };
  reasons = reasons_settled p (clauses_after p j') shown t t' settles (subst (λ (ds : List (List ℤ)). HasReasons p ds shown t) (sym more) (reasons_more p (clauses_after p j) (m.clause ∷ []) shown t r));
  is = subst (λ (u : TrailView). WasUnit (clauses_after p j') u.lits place n) (sym at_place) unit;
  why = ap (λ (u : TrailView). reason_at u.marks place) at_place ∙ reason_settled t place n s.as_many lt;
}
  where
    more : clauses_after p j' ≡ clauses_after p j ++ m.clause ∷ []
    more = ap (clauses_after p) ej ∙ after-append p j (step.Lemma m ∷ [])

    number : n ≡ length (clauses_after p j) + 1
    number = en ∙ ap (λ (ds : List (List ℤ)). length ds) more ∙ length-append (clauses_after p j) (m.clause ∷ [])

    at_place : t' ≡ settled_at t place n
    at_place = et ∙ ap (λ (o : Option ℕ). settled_where t o n) (ap (place_in t.lits) (ev ∙ ap var_of ex) ∙ place_in_at t.lits place s.partial lt)

    unit : WasUnit (clauses_after p j') t.lits place n
    unit = subst (λ (k : ℕ). WasUnit (clauses_after p j') t.lits place k) (sym number) (subst (λ (ds : List (List ℤ)). WasUnit ds t.lits place (length (clauses_after p j) + 1)) (sym more)
        (lemma_was_unit p (clauses_after p j) shown t.lits place atom kept m (was_forced p (clauses_after p j) shown t place atom kept r lt late) (subst (λ (y : ℤ). IsExplanation p (take kept (shown atom)) atom y m) ex e)))

    settles : Settles (clauses_after p j') t t'
    settles = subst (λ (u : TrailView). Settles (clauses_after p j') t u) (sym at_place) (settles_one (clauses_after p j') t place atom kept n s.as_many lt late unit)

    this_one : (l : Lemma) → m ≡ l → IsAskedFor t t' l n
    this_one l same = subst (λ (y : Lemma). IsAskedFor t t' y n) same (record {
      place = place;
      within = lt;
      kept = kept;
      was = late ∙ ap (λ (a : ℕ). Late a kept) (sym e.number);
      is = ap (λ (u : TrailView). reason_at u.marks place) at_place ∙ reason_settled t place n s.as_many lt;
    })

    asked : (i : ℕ) (l : Lemma) → slice_get (m ∷ []) i ≡ Some l → IsAskedFor t t' l (length (clauses_after p j) + 1 + i)
    asked zero l f = let same : m ≡ l = cc in let at : n ≡ length (clauses_after p j) + 1 + 0 = omega (arith, number) in subst (IsAskedFor t t' l) at (this_one l same)
    asked (suc i) l f = absurd cc

pub asks_same : (p : Instance) (t t' : TrailView) (j : List Step) → t' ≡ t → AsksFor p t j t' j
asks_same p t t' j e = subst (λ (u : TrailView). AsksFor p t j u j) (sym e) (asks_none p t j)

-- ---- a chain after more clauses

pub named_more : (cs more : List (List ℤ)) (ns : List ℕ) → IsTrue (names_clauses cs ns) → clauses_named (cs ++ more) ns ≡ clauses_named cs ns
named_more cs more [] h = refl
named_more cs more (n ∷ ns) h =
    let a = and_parts (nat_le 1 n && nat_le n (length cs)) (names_clauses cs ns) h in
    let b = and_parts (nat_le 1 n) (nat_le n (length cs)) a.0 in
    ap (λ (o : Option (List ℤ)). cons_option o (clauses_named (cs ++ more) ns)) (numbered_more cs more n (leb-true n (length cs) b.1)) ∙ ap (cons_option (numbered cs n)) (named_more cs more ns a.1)

names_more : (cs more : List (List ℤ)) (ns : List ℕ) → IsTrue (names_clauses cs ns) → IsTrue (names_clauses (cs ++ more) ns)
names_more cs more [] h = refl
names_more cs more (n ∷ ns) h =
    let a = and_parts (nat_le 1 n && nat_le n (length cs)) (names_clauses cs ns) h in
    let b = and_parts (nat_le 1 n) (nat_le n (length cs)) a.0 in
    and_from (nat_le 1 n && nat_le n (length (cs ++ more))) (names_clauses (cs ++ more) ns)
    (and_from (nat_le 1 n) (nat_le n (length (cs ++ more))) b.0 (le-leb n (length (cs ++ more)) (omega (arith, leb-true n (length cs) b.1, length-append cs more)))) (names_more cs more ns a.1)

come_more : (cs more : List (List ℤ)) (t : List ℤ) (start top : ℕ) (m : Resolvent) (used : List ℕ) → HasCome cs t start top m used → HasCome (cs ++ more) t start top m used
come_more cs more t start top m used h = record {
  end = h.end;
  is_end = ap chain_end (named_more cs more used h.named) ∙ h.is_end;
  named = names_more cs more used h.named;
  resolvent = h.resolvent;
}

pub come_asked : (p : Instance) (t0 t : TrailView) (j0 j : List Step) (start top : ℕ) (m : Resolvent) (used : List ℕ) → AsksFor p t0 j0 t j → HasCome (clauses_after p j0) t0.lits start top m used → HasCome (clauses_after p j) t.lits start top m used
come_asked p t0 t j0 j start top m used a h =
    subst (λ (cs : List (List ℤ)). HasCome cs t.lits start top m used) (sym (clauses_asked p t0 t j0 j a))
    (subst (λ (ls : List ℤ). HasCome (clauses_after p j0 ++ map clause_of (lemma_steps a.lemmas)) ls start top m used) (sym a.settles.lits) (come_more (clauses_after p j0) (map clause_of (lemma_steps a.lemmas)) t0.lits start top m used h))

-- ---- what is left in the end

pub adds_lemmas : (p : Instance) (t0 t : TrailView) (j0 j : List Step) → AsksFor p t0 j0 t j → AddsLemmas j0 j
adds_lemmas p t0 t j0 j a = record { lemmas = a.lemmas; pushed = a.pushed }

-- the steps after the lemmas are chains
pub asked_by : (p : Instance) (t0 t : TrailView) (j0 j : List Step) (k : ℕ) (m : Lemma) → AsksFor p t0 j0 t j → length j0 ≤ k → slice_get j k ≡ Some (step.Lemma m) → IsAskedFor t0 t m (length p.clauses + 1 + k)
asked_by p t0 t j0 j k m a le e =
    let at : slice_get a.lemmas (k - length j0) ≡ Some m = get_lemma a.lemmas (k - length j0) m (sym (ap (λ (ss : List Step). slice_get ss k) a.pushed ∙ get_right j0 (lemma_steps a.lemmas) k le) ∙ e) in
    let same : length (clauses_after p j0) + 1 + (k - length j0) ≡ length p.clauses + 1 + k = omega (arith, length_clauses p j0, le) in
    subst (IsAskedFor t0 t m) same (a.asked (k - length j0) m at)

pub are_asked : (p : Instance) (t0 t : TrailView) (j0 j : List Step) → AsksFor p t0 j0 t j → AreAskedFor p t0 t j0 j
are_asked p t0 t j0 j a = record { at = λ k m le e. asked_by p t0 t j0 j k m a le e }
