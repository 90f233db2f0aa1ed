-- How the marks of the needed steps come about.
use Rattle.std.proofs.Common.{◌≡◌, ◌≢◌, ℕ, zero, suc, ◌+◌, ◌-◌, ◌<◌, ◌≤◌, Bool, true, false, ◌||◌, ◌&&◌, ◌==◌, List, [], ◌∷◌, ◌++◌, length, take, get_or, set, Some, sym, ap, subst, ◌∙◌, ◌⊎◌, inl, inr, ℤ, arith, get_or-set_same, get_or-set_other, length-append}
use Rattle.std.specs.Prelude.{IsTrue, slice_get, nat_le, All}
use Rattle.std.specs.List.{list_all, list_any}
use Rattle.std.proofs.Math.Bool.{or-false, or-true, or_assoc}
use Rattle.std.proofs.lemmas.Bool.{and_parts, or_left, or_right, or_cases, cases_eq, eqb-true, eq-eqb, ne_eqb, leb-true}
use Rattle.std.proofs.lemmas.Option.{same_Some, slice_get-get_or}
use Rattle.std.proofs.lemmas.List.{length-set, take_more}
use Rattle.std.proofs.lemmas.List.Folds.{list_any-append}
use Rattle.std.proofs.lemmas.List.Elements.{All-nil, All-cons, All-head, All-tail}
use Rattle.mono_problem.specs.Instance.{Instance}
use Rattle.mono_steps.specs.ChainSteps.{names_vars, names_clauses, clauses_named, covers}
use Rattle.mono_steps.specs.Chains.{chain_end}
use Rattle.mono_steps.specs.declared.step.Step.{Step}
use Rattle.mono_steps.specs.declared.step.Step.TheVariants as step
use Rattle.mono_steps.specs.Steps.{clause_of, is_justified_step, are_justified_after, are_justified}
use Rattle.mono_steps.specs.Renumbering.{has_number, names_step}
use Rattle.mono_steps.specs.Needed.{is_set, StepNamesHeld, NamesHeld, IsWanted, IsNeeded}
use Rattle.mono_steps.proofs.Ranks.{set_within, has_more}

pub has_all : (P : ℕ → Type 0) (ns : List ℕ) (n : ℕ) → All P ns → IsTrue (has_number ns n) → P n
has_all P [] n a h = absurd cc
has_all P (m ∷ ns) n a h = elim (or_cases (m == n) (has_number ns n) h) [
  | inl e ↦ subst P (eqb-true m n e) (All-head P m ns a)
  | inr k ↦ has_all P ns n (All-tail P m ns a) k
]

-- what justified steps name

all_held : (b : ℕ) (ns : List ℕ) → IsTrue (list_all (λ n. nat_le 1 n && nat_le n b) ns) → All (λ n. n ≤ b) ns
all_held b [] h = All-nil (λ n. n ≤ b)
all_held b (m ∷ ns) h =
    let a = and_parts (nat_le 1 m && nat_le m b) (list_all (λ n. nat_le 1 n && nat_le n b) ns) h in
    let d = and_parts (nat_le 1 m) (nat_le m b) a.0 in
    All-cons (λ n. n ≤ b) m ns (leb-true m b d.1) (all_held b ns a.1)

step_held : (p : Instance) (earlier : List (List ℤ)) (c k : ℕ) (s : Step) → length earlier ≡ c + k → IsTrue (is_justified_step p earlier s) → StepNamesHeld c k s
step_held p earlier c k (step.Lemma l) e h = tt
step_held p earlier c k (step.Chain d) e h =
    let a = and_parts (names_vars p d.clause && names_clauses earlier d.used) (covers d.clause (chain_end (clauses_named earlier d.used))) h in
    let b = and_parts (names_vars p d.clause) (names_clauses earlier d.used) a.0 in
    subst (λ (n : ℕ). All (λ m. m ≤ n) d.used) e (all_held (length earlier) d.used b.1)

held_after : (p : Instance) (earlier : List (List ℤ)) (c i : ℕ) (ss : List Step) → length earlier ≡ c + i → IsTrue (are_justified_after p earlier ss) → (k : ℕ) (s : Step) → slice_get ss k ≡ Some s → StepNamesHeld c (i + k) s
held_after p earlier c i [] e h k s at = absurd cc
held_after p earlier c i (r ∷ ss) e h zero s at =
    let a = and_parts (is_justified_step p earlier r) (are_justified_after p (earlier ++ clause_of r ∷ []) ss) h in
    let here : i ≡ i + 0 = omega arith in
    subst (λ (n : ℕ). StepNamesHeld c n s) here (subst (λ (q : Step). StepNamesHeld c i q) (same_Some r s at) (step_held p earlier c i r e a.0))
held_after p earlier c i (r ∷ ss) e h (suc k) s at =
    let a = and_parts (is_justified_step p earlier r) (are_justified_after p (earlier ++ clause_of r ∷ []) ss) h in
    let later : i + 1 + k ≡ i + suc k = omega arith in
    subst (λ (n : ℕ). StepNamesHeld c n s) later (held_after p (earlier ++ clause_of r ∷ []) c (i + 1) ss (omega (arith, e, length-append earlier (clause_of r ∷ []))) a.1 k s at)

pub names_held : (p : Instance) (ss : List Step) → IsTrue (are_justified p ss) → NamesHeld (length p.clauses) ss
names_held p ss h = record { at = λ k s at. let e : 0 + k ≡ k = omega arith in subst (λ (n : ℕ). StepNamesHeld (length p.clauses) n s) e (held_after p p.clauses (length p.clauses) 0 ss (omega arith) h k s at) }

pub held_wider : (c j k : ℕ) (s : Step) → j ≤ k → StepNamesHeld c j s → StepNamesHeld c k s
held_wider c j k (step.Lemma l) le h = tt
held_wider c j k (step.Chain d) le h = λ i n lt. omega (arith, h i n lt, le)

-- what one step more names
pub named_more : (c : ℕ) (ss : List Step) (i k : ℕ) (s : Step) → i < length ss → s ≡ get_or ss i s → list_any (λ t. names_step c t k) (take (i + 1) ss) ≡ (list_any (λ t. names_step c t k) (take i ss) || names_step c s k)
named_more c ss i k s lt at =
    ap (λ (ts : List Step). list_any (λ t. names_step c t k) ts) (take_more ss i s lt) ∙ list_any-append (λ t. names_step c t k) (take i ss) (get_or ss i s ∷ [])
    ∙ ap (λ (b : Bool). list_any (λ t. names_step c t k) (take i ss) || b) (or-false (names_step c (get_or ss i s) k)) ∙ ap (λ (t : Step). list_any (λ t. names_step c t k) (take i ss) || names_step c t k) (sym at)

-- so they name clauses that are there when all steps are
pub all_named : (c n : ℕ) (ss : List Step) → length ss ≤ n → NamesHeld c ss → All (StepNamesHeld c n) ss
all_named c n ss le h = λ k d lt. held_wider c k n (get_or ss k d) (omega (arith, le, lt)) (h.at k (get_or ss k d) (slice_get-get_or ss k d lt))

pub names_below : (c p k : ℕ) (s : Step) → StepNamesHeld c p s → IsTrue (names_step c s k) → k < p
names_below c p k (step.Lemma l) h n = absurd cc
names_below c p k (step.Chain d) h n = omega (arith, has_all (λ m. m ≤ c + p) d.used (c + 1 + k) h n)

-- ---- the marks of one step

mark_at : (seen : List Bool) (q k : ℕ) (b : Bool) → q < length seen → is_set seen k ≡ b → is_set (set seen q true) k ≡ (b || (q == k))
mark_at seen q k b lt e = by_place (cases_eq k q)
  where
    by_place : (k ≡ q) ⊎ (k ≢ q) → is_set (set seen q true) k ≡ (b || (q == k))
    by_place (inl s) = subst (λ (j : ℕ). is_set (set seen q true) j ≡ true) (sym s) (get_or-set_same seen q true false lt) ∙ sym (ap (λ (x : Bool). b || x) (eq-eqb q k (sym s)) ∙ or-true b)
    by_place (inr n) = get_or-set_other seen q k true false n ∙ e ∙ sym (ap (λ (x : Bool). b || x) (ne_eqb q k (λ s. n (sym s))) ∙ or-false b)

pub marks_more : (seen : List Bool) (old : Bool) (used : List ℕ) (c i n k : ℕ) → i < length used → n ≡ get_or used i n → c < n → n - c - 1 < length seen → is_set seen k ≡ (old || has_number (take i used) (c + 1 + k)) → is_set (set seen (n - c - 1) true) k ≡ (old || has_number (take (i + 1) used) (c + 1 + k))
marks_more seen old used c i n k lt is low within e =
    let same : ((n - c - 1) == k) ≡ (get_or used i n == c + 1 + k) = shift (cases_eq (n - c - 1) k) in
    mark_at seen (n - c - 1) k (old || has_number (take i used) (c + 1 + k)) within e ∙ or_assoc old (has_number (take i used) (c + 1 + k)) ((n - c - 1) == k)
    ∙ ap (λ (b : Bool). old || (has_number (take i used) (c + 1 + k) || b)) same ∙ ap (λ (b : Bool). old || b) (sym (has_more used i (c + 1 + k) n lt))
  where
    shift : (n - c - 1 ≡ k) ⊎ (n - c - 1 ≢ k) → ((n - c - 1) == k) ≡ (get_or used i n == c + 1 + k)
    shift (inl s) = eq-eqb (n - c - 1) k s ∙ sym (eq-eqb (get_or used i n) (c + 1 + k) (omega (arith, is, s, low)))
    shift (inr d) = ne_eqb (n - c - 1) k d ∙ sym (ne_eqb (get_or used i n) (c + 1 + k) (λ s. d (omega (arith, is, s, low))))

pub marks_same : (seen : List Bool) (old : Bool) (used : List ℕ) (c i n k : ℕ) → i < length used → n ≡ get_or used i n → n ≤ c → is_set seen k ≡ (old || has_number (take i used) (c + 1 + k)) → is_set seen k ≡ (old || has_number (take (i + 1) used) (c + 1 + k))
marks_same seen old used c i n k lt is low e =
    let off : (get_or used i n == c + 1 + k) ≡ false = ne_eqb (get_or used i n) (c + 1 + k) (λ s. omega (arith, is, s, low)) in
    e ∙ ap (λ (b : Bool). old || b) (sym (has_more used i (c + 1 + k) n lt ∙ ap (λ (b : Bool). has_number (take i used) (c + 1 + k) || b) off ∙ or-false (has_number (take i used) (c + 1 + k))))

-- ---- the marks of all steps, from the last on

both_ways : {A : Type 0} {b : Bool} → b ≡ true → b ≡ false → A
both_ways t f = absurd (let e : true ≡ false = sym t ∙ f in cc)

pub needed_start : (c : ℕ) (steps : List Step) (none : List Bool) → 0 < length steps → length none ≡ length steps → ((k : ℕ) → is_set none k ≡ false) → IsNeeded c steps (length steps) (set none (length steps - 1) true)
needed_start c steps none some len off =
    let n = length steps - 1 in
    record {
      as_many = length-set none n true ∙ len;
      last = get_or-set_same none n true false (omega (arith, len, some));
      closed = λ j k s high on at named. absurd (omega (arith, high, set_within (set none n true) j on, length-set none n true, len));
      wanted = λ k on lt. absurd (only k on lt (cases_eq k n));
    }
  where
    only : (k : ℕ) → is_set (set none (length steps - 1) true) k ≡ true → k + 1 < length steps → (k ≡ length steps - 1) ⊎ (k ≢ length steps - 1) → ⊥
    only k on lt (inl e) = omega (arith, e, lt)
    only k on lt (inr d) = both_ways (sym (get_or-set_other none (length steps - 1) k true false d) ∙ on) (off k)

pub needed_skip : (c : ℕ) (steps : List Step) (p : ℕ) (needed : List Bool) → IsNeeded c steps (p + 1) needed → is_set needed p ≡ false → IsNeeded c steps p needed
needed_skip c steps p needed h off = record {
  as_many = h.as_many;
  last = h.last;
  closed = λ j k s high on at named. closed j k s high on at named (cases_eq j p);
  wanted = λ k on lt. let w = h.wanted k on lt in record { later = w.later; high = omega (arith, w.high); after = w.after; set = w.set; step = w.step; is = w.is; names = w.names };
}
  where
    closed : (j k : ℕ) (s : Step) → p ≤ j → is_set needed j ≡ true → slice_get steps j ≡ Some s → IsTrue (names_step c s k) → (j ≡ p) ⊎ (j ≢ p) → is_set needed k ≡ true
    closed j k s high on at named (inl e) = both_ways on (ap (is_set needed) e ∙ off)
    closed j k s high on at named (inr d) = h.closed j k s (omega (arith, high, d)) on at named

pub needed_mark : (c : ℕ) (steps : List Step) (p : ℕ) (old new : List Bool) (s : Step) → IsNeeded c steps (p + 1) old → is_set old p ≡ true → slice_get steps p ≡ Some s → NamesHeld c steps → length new ≡ length old → ((k : ℕ) → k < length old → is_set new k ≡ (is_set old k || names_step c s k)) → IsNeeded c steps p new
needed_mark c steps p old new s h on is held len marks = record {
  as_many = len ∙ h.as_many;
  last = stays (length steps - 1) h.last;
  closed = λ j k t high set_j at named. closed j k t high set_j at named (cases_eq j p);
  wanted = λ k set_k lt. wanted k lt (was k set_k);
}
  where
    stays : (k : ℕ) → is_set old k ≡ true → is_set new k ≡ true
    stays k e = marks k (set_within old k e) ∙ or_left (is_set old k) (names_step c s k) e

    was : (k : ℕ) → is_set new k ≡ true → (is_set old k ≡ true) ⊎ (names_step c s k ≡ true)
    was k e = or_cases (is_set old k) (names_step c s k) (sym (marks k (omega (arith, set_within new k e, len))) ∙ e)

    below : (k : ℕ) → IsTrue (names_step c s k) → k < p
    below k e = names_below c p k s (held.at p s is) e

    marked : (k : ℕ) → IsTrue (names_step c s k) → is_set new k ≡ true
    marked k e = marks k (omega (arith, below k e, set_within old p on)) ∙ or_right (is_set old k) (names_step c s k) e

    by_old : (j k : ℕ) (t : Step) → p + 1 ≤ j → slice_get steps j ≡ Some t → IsTrue (names_step c t k) → (is_set old j ≡ true) ⊎ (names_step c s j ≡ true) → is_set new k ≡ true
    by_old j k t high at named (inl e) = stays k (h.closed j k t high e at named)
    by_old j k t high at named (inr e) = absurd (omega (arith, high, below j e))

    closed : (j k : ℕ) (t : Step) → p ≤ j → is_set new j ≡ true → slice_get steps j ≡ Some t → IsTrue (names_step c t k) → (j ≡ p) ⊎ (j ≢ p) → is_set new k ≡ true
    closed j k t high set_j at named (inl e) = marked k (subst (λ (q : Step). IsTrue (names_step c q k)) (same_Some t s (sym at ∙ ap (slice_get steps) e ∙ is)) named)
    closed j k t high set_j at named (inr d) = by_old j k t (omega (arith, high, d)) at named (was j set_j)

    wanted : (k : ℕ) → k + 1 < length steps → (is_set old k ≡ true) ⊎ (names_step c s k ≡ true) → IsWanted c steps p new k
    wanted k lt (inl e) = let w = h.wanted k e lt in record { later = w.later; high = omega (arith, w.high); after = w.after; set = stays w.later w.set; step = w.step; is = w.is; names = w.names }
    wanted k lt (inr e) = record { later = p; high = omega arith; after = below k e; set = stays p on; step = s; is = is; names = e }
