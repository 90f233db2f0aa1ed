-- The table of the theories that each variable concerns, and what handing on and counting by it come to.
use Rattle.std.proofs.Common.{◌≡◌, ℕ, zero, suc, ◌+◌, ◌-◌, ◌<◌, ◌≤◌, Bool, true, false, cond, ◌||◌, List, [], ◌∷◌, ◌++◌, map, take, drop, get_or, set, eqb, length, replicate, All, refl, sym, ap, subst, ◌∙◌, inl, inr, ℤ, arith, length-append}
use Rattle.std.specs.Prelude.{IsTrue}
use Rattle.std.specs.List.Sorted.{IsStrictlyIncreasing}
use Rattle.std.proofs.lemmas.Bool.{or_right, eq-eqb, ne_eqb, cases_eq}
use Rattle.std.proofs.lemmas.List.{append-nil, take_more, take_all, map-id, length-set, length-take, get_or-take, get_or_default, get_or-set_same, get_or-set_other}
use Rattle.std.proofs.lemmas.List.Folds.{list_any_more, list_any_none}
use Rattle.std.proofs.lemmas.List.Kept.{AllPairs-from_increasing}
use Rattle.mono_graph.specs.Digraph.{has}
use Rattle.std.proofs.lemmas.List.Elements.{filter-append, All-nil, All-cons}
use Rattle.std.proofs.Math.Bool.{or-false}
use Rattle.std.proofs.lemmas.List.Sums.{length-filter, count_by-le-length}
use Rattle.mono_base.specs.Literal.{var_of, IsLitWithin}
use Rattle.mono_base.specs.Partial.{is_open_in}
use Rattle.mono_theory.specs.Theories.{Facts, concerns_of, seeing}
use Rattle.mono_theory.specs.Variables.{AreVarsOf}
use Rattle.mono_search.specs.Updates.{update_all, CanUpdate}
use Rattle.mono_search.specs.TheoryLists.{concerning, concerned_from, IsConcernTable, AddsTheory, AddsPlace, without_last, with_seen, handed_on, MaySee, IsCurrent}
use Rattle.mono_search.proofs.Updates.{can_update, updated}
use Rattle.mono_search.proofs.Sweeps.{part_split, front_of}

-- ---- how the table is made

concerned_from-append : (n : ℕ) (fs : List Facts) (f : Facts) (v : ℕ) → concerned_from n (fs ++ f ∷ []) v ≡ concerned_from n fs v ++ cond (concerns_of f.graph f.atoms v) ((n + length fs) ∷ []) []
concerned_from-append n [] f v = ap (λ (m : ℕ). cond (concerns_of f.graph f.atoms v) (m ∷ []) []) (let e : n ≡ n + length {A = Facts} [] = omega arith in e)
concerned_from-append n (x ∷ fs) f v = by (concerns_of x.graph x.atoms v) (concerned_from-append (n + 1) fs f v)
  where
    last : n + 1 + length fs ≡ n + length (x ∷ fs)
    last = omega arith

    moved : concerned_from (n + 1) fs v ++ cond (concerns_of f.graph f.atoms v) ((n + 1 + length fs) ∷ []) [] ≡ concerned_from (n + 1) fs v ++ cond (concerns_of f.graph f.atoms v) ((n + length (x ∷ fs)) ∷ []) []
    moved = ap (λ (m : ℕ). concerned_from (n + 1) fs v ++ cond (concerns_of f.graph f.atoms v) (m ∷ []) []) last

    by : (b : Bool) → concerned_from (n + 1) (fs ++ f ∷ []) v ≡ concerned_from (n + 1) fs v ++ cond (concerns_of f.graph f.atoms v) ((n + 1 + length fs) ∷ []) []
        → cond b (n ∷ concerned_from (n + 1) (fs ++ f ∷ []) v) (concerned_from (n + 1) (fs ++ f ∷ []) v) ≡ cond b (n ∷ concerned_from (n + 1) fs v) (concerned_from (n + 1) fs v) ++ cond (concerns_of f.graph f.atoms v) ((n + length (x ∷ fs)) ∷ []) []
    by true ih = ap (λ ps. n ∷ ps) (ih ∙ moved)
    by false ih = ih ∙ moved

none_listed : (n v : ℕ) → get_or (replicate {A = List ℕ} n []) v [] ≡ []
none_listed zero v = refl
none_listed (suc n) zero = refl
none_listed (suc n) (suc v) = none_listed n v

length-none : (n : ℕ) → length (replicate {A = List ℕ} n []) ≡ n
length-none zero = refl
length-none (suc n) = ap suc (length-none n)

pub table_none : (vars : ℕ) (table : List (List ℕ)) → table ≡ replicate (vars + 1) [] → IsConcernTable vars [] table
table_none vars table e = record { keys = ap length e ∙ length-none (vars + 1); at = λ v low high. ap (λ (t : List (List ℕ)). get_or t v []) e ∙ none_listed (vars + 1) v }

pub table_more : (vars k : ℕ) (fs : List Facts) (f : Facts) (old new : List (List ℕ)) → IsConcernTable vars (take k fs) old → k < length fs → f ≡ get_or fs k f → length (take k fs) ≡ k → AddsTheory vars f k old new → IsConcernTable vars (take (k + 1) fs) new
table_more vars k fs f old new t lt at len a =
    let next : take (k + 1) fs ≡ take k fs ++ f ∷ [] = take_more fs k f lt ∙ ap (λ (x : Facts). take k fs ++ x ∷ []) (sym at) in
    record {
      keys = a.keys ∙ t.keys;
      at = λ v low high.
          a.at v low high ∙ ap (λ (ps : List ℕ). ps ++ cond (concerns_of f.graph f.atoms v) (k ∷ []) []) (t.at v low high)
          ∙ ap (λ (m : ℕ). concerned_from 0 (take k fs) v ++ cond (concerns_of f.graph f.atoms v) (m ∷ []) []) (let e : k ≡ 0 + length (take k fs) = omega (arith, len) in e)
          ∙ sym (concerned_from-append 0 (take k fs) f v) ∙ ap (λ (gs : List Facts). concerned_from 0 gs v) (sym next);
    }

-- ---- how one theory joins it

has_more : (vs : List ℕ) (i v x : ℕ) → i < length vs → x ≡ get_or vs i x → has (take (i + 1) vs) v ≡ (has (take i vs) v || eqb x v)
has_more vs i v x lt at = list_any_more (λ y. eqb y v) vs i x lt ∙ ap (λ y. has (take i vs) v || eqb y v) (sym at)

has_other : (vs : List ℕ) (i v x : ℕ) → i < length vs → x ≡ get_or vs i x → (x ≡ v → ⊥) → has (take (i + 1) vs) v ≡ has (take i vs) v
has_other vs i v x lt at ne = has_more vs i v x lt at ∙ ap (λ b. has (take i vs) v || b) (ne_eqb x v ne) ∙ or-false (has (take i vs) v)

has_last : (vs : List ℕ) (i x : ℕ) → i < length vs → x ≡ get_or vs i x → has (take (i + 1) vs) x ≡ true
has_last vs i x lt at = has_more vs i x x lt at ∙ or_right (has (take i vs) x) (eqb x x) (eq-eqb x x refl)

-- a list that rises has no number twice
not_before : (vs : List ℕ) (i x : ℕ) → IsStrictlyIncreasing vs → i < length vs → x ≡ get_or vs i x → has (take i vs) x ≡ false
not_before vs i x rising lt at = list_any_none (λ y. eqb y x) (take i vs) (λ k d below.
    let before : k < i = omega (arith, below, length-take i vs) in
    let less : get_or vs k x < get_or vs i x = AllPairs-from_increasing vs rising k i x before lt in
    let same : get_or (take i vs) k d ≡ get_or vs k x = get_or-take i vs k d before ∙ get_or_default vs k d x (omega (arith, before, lt)) in
    ne_eqb (get_or (take i vs) k d) x (λ e. omega (arith, less, same, e, at)))

pub none_added : (vars place : ℕ) (vs : List ℕ) (table : List (List ℕ)) → AddsPlace vars (take 0 vs) place table table
none_added vars place vs table = record { keys = refl; at = λ v high. sym (append-nil (get_or table v [])) }

pub one_added : (vars i place x : ℕ) (vs : List ℕ) (old now : List (List ℕ)) → IsStrictlyIncreasing vs → i < length vs → x ≡ get_or vs i x → x < length now
    → AddsPlace vars (take i vs) place old now → AddsPlace vars (take (i + 1) vs) place old (set now x (get_or now x [] ++ place ∷ []))
one_added vars i place x vs old now rising lt at fits a = record {
  keys = length-set now x (get_or now x [] ++ place ∷ []) ∙ a.keys;
  at = λ v high. elim (cases_eq x v) [
    | inl e ↦ subst (λ (w : ℕ). get_or (set now x (get_or now x [] ++ place ∷ [])) w [] ≡ get_or old w [] ++ cond (has (take (i + 1) vs) w) (place ∷ []) []) e (here (subst (λ (w : ℕ). w ≤ vars) (sym e) high))
    | inr ne ↦ get_or-set_other now x v (get_or now x [] ++ place ∷ []) [] (λ e. ne (sym e)) ∙ a.at v high
        ∙ ap (λ b. get_or old v [] ++ cond b (place ∷ []) []) (sym (has_other vs i v x lt at ne))
  ];
}
  where
    -- before, the place was not in the list
    here : x ≤ vars → get_or (set now x (get_or now x [] ++ place ∷ [])) x [] ≡ get_or old x [] ++ cond (has (take (i + 1) vs) x) (place ∷ []) []
    here high =
        get_or-set_same now x (get_or now x [] ++ place ∷ []) [] fits
        ∙ ap (λ ps. ps ++ place ∷ []) (a.at x high ∙ ap (λ b. get_or old x [] ++ cond b (place ∷ []) []) (not_before vs i x rising lt at) ∙ append-nil (get_or old x []))
        ∙ ap (λ b. get_or old x [] ++ cond b (place ∷ []) []) (sym (has_last vs i x lt at))

pub one_beyond : (vars i place x : ℕ) (vs : List ℕ) (old now : List (List ℕ)) → i < length vs → x ≡ get_or vs i x → vars < x
    → AddsPlace vars (take i vs) place old now → AddsPlace vars (take (i + 1) vs) place old now
one_beyond vars i place x vs old now lt at beyond a = record {
  keys = a.keys;
  at = λ v high. a.at v high ∙ ap (λ b. get_or old v [] ++ cond b (place ∷ []) []) (sym (has_other vs i v x lt at (λ e. omega (arith, e, high, beyond))));
}

pub all_added : (vars i place : ℕ) (vs : List ℕ) (old new : List (List ℕ)) → length vs ≤ i → AddsPlace vars (take i vs) place old new → AddsPlace vars vs place old new
all_added vars i place vs old new whole a = subst (λ (ws : List ℕ). AddsPlace vars ws place old new) (take_all i vs whole) a

pub added_by : (vars place : ℕ) (vs : List ℕ) (f : Facts) (old new : List (List ℕ)) → AreVarsOf f.graph f.atoms vs → AddsPlace vars vs place old new → AddsTheory vars f place old new
added_by vars place vs f old new are a = record { keys = a.keys; at = λ v low high. a.at v high ∙ ap (λ b. get_or old v [] ++ cond b (place ∷ []) []) (are.exact v) }

-- what keeps graphs and atoms keeps whom a variable concerns
concerned_kept : (h : Facts → Facts) (n : ℕ) (fs : List Facts) (v : ℕ) → ((f : Facts) → (h f).graph ≡ f.graph) → ((f : Facts) → (h f).atoms ≡ f.atoms) → concerned_from n (map h fs) v ≡ concerned_from n fs v
concerned_kept h n [] v hg ha = refl
concerned_kept h n (f ∷ fs) v hg ha =
    let same : concerns_of (h f).graph (h f).atoms v ≡ concerns_of f.graph f.atoms v = rw (hg f, ha f) refl in
    let rest : concerned_from (n + 1) (map h fs) v ≡ concerned_from (n + 1) fs v = concerned_kept h (n + 1) fs v hg ha in
    ap (λ (b : Bool). cond b (n ∷ concerned_from (n + 1) (map h fs) v) (concerned_from (n + 1) (map h fs) v)) same
    ∙ ap (λ (ps : List ℕ). cond (concerns_of f.graph f.atoms v) (n ∷ ps) ps) rest

pub table_kept : (h : Facts → Facts) (vars : ℕ) (fs : List Facts) (table : List (List ℕ)) → ((f : Facts) → (h f).graph ≡ f.graph) → ((f : Facts) → (h f).atoms ≡ f.atoms) → IsConcernTable vars fs table → IsConcernTable vars (map h fs) table
table_kept h vars fs table hg ha t = record { keys = t.keys; at = λ v low high. t.at v low high ∙ sym (concerned_kept h 0 fs v hg ha) }

-- the places in a list of the table are those of theories
places_below : (n : ℕ) (fs : List Facts) (v : ℕ) → All (λ i. i < n + length fs) (concerned_from n fs v)
places_below n [] v = All-nil (λ i. i < n + length {A = Facts} [])
places_below n (f ∷ fs) v = by (concerns_of f.graph f.atoms v) (λ k d lt. let h = places_below (n + 1) fs v k d lt in omega (arith, h))
  where
    by : (b : Bool) → All (λ i. i < n + length (f ∷ fs)) (concerned_from (n + 1) fs v) → All (λ i. i < n + length (f ∷ fs)) (cond b (n ∷ concerned_from (n + 1) fs v) (concerned_from (n + 1) fs v))
    by true rest = All-cons (λ i. i < n + length (f ∷ fs)) n (concerned_from (n + 1) fs v) (omega arith) rest
    by false rest = rest

pub listed_below : (vars : ℕ) (fs : List Facts) (table : List (List ℕ)) (v n : ℕ) (ps : List ℕ) → IsConcernTable vars fs table → 1 ≤ v → v ≤ vars → length fs ≡ n → ps ≡ get_or table v [] → All (λ i. i < n) ps
listed_below vars fs table v n ps t low high len is =
    subst (All (λ i. i < n)) (sym (is ∙ t.at v low high)) (λ k d lt. let h = places_below 0 fs v k d lt in omega (arith, h, len))

-- the list of the table for a literal
pub listed : (vars : ℕ) (fs : List Facts) (table : List (List ℕ)) (lits : List ℤ) (i v : ℕ) (l : ℤ) (ps : List ℕ) → All (IsLitWithin vars) lits → IsConcernTable vars fs table → i < length lits → l ≡ get_or lits i l → v ≡ var_of l → ps ≡ get_or table v [] → ps ≡ concerned_from 0 fs (var_of l)
listed vars fs table lits i v l ps within t lt at var is =
    let w : IsLitWithin vars l = subst (IsLitWithin vars) (sym at) (within i l lt) in
    is ∙ ap (λ (n : ℕ). get_or table n []) var ∙ t.at (var_of l) (omega (arith, w.0)) w.1

-- ---- a literal is handed on

seen_too : (l : ℤ) (f : Facts) → cond (concerns_of f.graph f.atoms (var_of l)) (seeing f l) f ≡ handed_on l f
seen_too l f = by (concerns_of f.graph f.atoms (var_of l))
  where
    by : (b : Bool) → cond b (seeing f l) f ≡ record { graph = f.graph; atoms = f.atoms; seen = f.seen ++ cond b (l ∷ []) [] }
    by true = refl
    by false = ap (λ (s : List ℤ). record { graph = f.graph; atoms = f.atoms; seen = s }) (sym (append-nil f.seen))

all_seen_too : (l : ℤ) (fs : List Facts) → map (λ f. cond (concerns_of f.graph f.atoms (var_of l)) (seeing f l) f) fs ≡ map (handed_on l) fs
all_seen_too l [] = refl
all_seen_too l (f ∷ fs) = ap (λ (x : Facts). x ∷ map (λ g. cond (concerns_of g.graph g.atoms (var_of l)) (seeing g l) g) fs) (seen_too l f) ∙ ap (λ (xs : List Facts). handed_on l f ∷ xs) (all_seen_too l fs)

pub handed_by_table : (l : ℤ) (fs : List Facts) → update_all (λ (f : Facts). seeing f l) (concerned_from 0 fs (var_of l)) fs ≡ map (handed_on l) fs
handed_by_table l fs = ap (update_all (λ (f : Facts). seeing f l) (concerned_from 0 fs (var_of l))) (sym (map-id fs)) ∙ updated (MaySee l) (λ (f : Facts). seeing f l) (λ f. f) (var_of l) fs ∙ all_seen_too l fs

pub may_hand : (l : ℤ) (fs : List Facts) → All (λ f. IsTrue (is_open_in f.seen l)) fs → CanUpdate (MaySee l) (λ (f : Facts). seeing f l) (concerned_from 0 fs (var_of l)) fs
may_hand l fs fresh = subst (CanUpdate (MaySee l) (λ (f : Facts). seeing f l) (concerned_from 0 fs (var_of l))) (map-id fs)
    (can_update (MaySee l) (λ (f : Facts). seeing f l) (λ f. f) (var_of l) fs (λ k d lt c. record { concerned = c; fresh = fresh k d lt }))

-- ---- literals are counted

pub count-le : (t : List ℤ) (f : Facts) → length (concerning f t) ≤ length t
count-le t f =
    let concerns = λ (l : ℤ). concerns_of f.graph f.atoms (var_of l) in
    omega (arith, length-filter concerns t, count_by-le-length concerns t)

pub zero_counts : (fs : List Facts) → map (λ f. length (concerning f [])) fs ≡ replicate (length fs) 0
zero_counts [] = refl
zero_counts (f ∷ fs) = ap (λ ns. 0 ∷ ns) (zero_counts fs)

counted_too : (t : List ℤ) (l : ℤ) (f : Facts) → cond (concerns_of f.graph f.atoms (var_of l)) (length (concerning f t) + 1) (length (concerning f t)) ≡ length (concerning f (t ++ l ∷ []))
counted_too t l f = by (concerns_of f.graph f.atoms (var_of l)) ∙ sym (ap length (filter-append (λ m. concerns_of f.graph f.atoms (var_of m)) t (l ∷ [])))
  where
    by : (b : Bool) → cond b (length (concerning f t) + 1) (length (concerning f t)) ≡ length (concerning f t ++ cond b (l ∷ []) [])
    by true = sym (length-append (concerning f t) (l ∷ []))
    by false = ap length (sym (append-nil (concerning f t)))

all_counted : (t : List ℤ) (l : ℤ) (fs : List Facts) → map (λ f. cond (concerns_of f.graph f.atoms (var_of l)) (length (concerning f t) + 1) (length (concerning f t))) fs ≡ map (λ f. length (concerning f (t ++ l ∷ []))) fs
all_counted t l [] = refl
all_counted t l (f ∷ fs) =
    ap (λ (n : ℕ). n ∷ map (λ g. cond (concerns_of g.graph g.atoms (var_of l)) (length (concerning g t) + 1) (length (concerning g t))) fs) (counted_too t l f)
    ∙ ap (λ (ns : List ℕ). length (concerning f (t ++ l ∷ [])) ∷ ns) (all_counted t l fs)

pub counted_by_table : (t : List ℤ) (l : ℤ) (fs : List Facts) → update_all (λ n. n + 1) (concerned_from 0 fs (var_of l)) (map (λ f. length (concerning f t)) fs) ≡ map (λ f. length (concerning f (t ++ l ∷ []))) fs
counted_by_table t l fs = updated (λ (n : ℕ). n ≤ length t) (λ n. n + 1) (λ f. length (concerning f t)) (var_of l) fs ∙ all_counted t l fs

pub may_count : (P : ℕ → Type 0) (t : List ℤ) (l : ℤ) (fs : List Facts) → ((n : ℕ) → n ≤ length t → P n) → CanUpdate P (λ n. n + 1) (concerned_from 0 fs (var_of l)) (map (λ f. length (concerning f t)) fs)
may_count P t l fs h = can_update P (λ n. n + 1) (λ f. length (concerning f t)) (var_of l) fs (λ k d lt c. h (length (concerning (get_or fs k d) t)) (count-le t (get_or fs k d)))

-- ---- literals are taken back

pub record IsTaken (f : Facts) (t : List ℤ) (k count : ℕ) : Type 0 where
  pub few : count ≤ length f.seen
  pub is : without_last count f ≡ with_seen (take k t) f

pub taken : (f : Facts) (t : List ℤ) (k count : ℕ) → IsCurrent t f → count ≡ length (concerning f (drop k t)) → IsTaken f t k count
taken f t k count now e =
    let split : f.seen ≡ concerning f (take k t) ++ concerning f (drop k t) = now ∙ part_split f k t in
    let cut : take (length f.seen - count) f.seen ≡ concerning f (take k t) = ap (λ (n : ℕ). take (length f.seen - n) f.seen) e ∙ front_of (concerning f (take k t)) (concerning f (drop k t)) f.seen split in
    record {
      few = omega (arith, e, ap length split, length-append (concerning f (take k t)) (concerning f (drop k t)));
      is = ap (λ (s : List ℤ). record { graph = f.graph; atoms = f.atoms; seen = s }) cut;
    }
