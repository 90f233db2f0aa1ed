-- Decisions, the variables that wait for one, and the model once there is none left.
use Rattle.std.proofs.Common.{zero, suc, ◌≡◌, ◌≢◌, ℕ, ◌+◌, ◌-◌, ◌<◌, ◌≤◌, Bool, true, false, not, List, [], ◌∷◌, ◌++◌, length, take, drop, set, arith, refl, sym, ◌∙◌, ap, get_or, subst, ◌⊎◌, inl, inr, ℤ, pos, negsuc, neg_ℤ, nat_abs, All, length-append, get_or-set_same, get_or-set_other, length-set}
use Rattle.std.specs.Prelude.{IsTrue, ◌↔◌, Result, Ok, Err, IfOk, int_lt}
use Rattle.mono_base.specs.declared.value.Value.{Value}
use Rattle.mono_base.specs.declared.value.Value.TheVariants as value
use Rattle.std.specs.List.{list_all}
use Rattle.std.proofs.lemmas.Bool.{or_cases, both_ways, false_from_ne_true, and_parts, cases_eq, not_from_false, cases_Bool, and_from}
use Rattle.std.proofs.lemmas.List.{take_more, take-append-drop}
use Rattle.std.proofs.lemmas.List.Folds.{list_all-append}
use Rattle.mono_learn.proofs.LitSets.{has-append_left}
use Rattle.mono_learn.proofs.PlacesOfLits.{has_stands}
use Rattle.mono_base.specs.Literal.{var_of, has_lit, value_in, lit_true, IsLitWithin, lit_at}
use Rattle.mono_base.specs.Partial.{is_true_in, is_open_in, Extends, HasNoOpen, has_no_open, unit_quiet, value_by}
use Rattle.mono_base.proofs.Truth.{from_each}
use Rattle.mono_base.proofs.Quiet.{quiet_are_true}
use Rattle.mono_problem.specs.Instance.{Instance, graph_at, no_graph}
use Rattle.mono_problem.specs.WellFormed.{IsInstance}
use Rattle.mono_problem.specs.Holds.{Satisfies, Agrees}
use Rattle.mono_problem.proofs.QuietAtoms.{quiet_atom_agrees}
use Rattle.mono_steps.specs.declared.step.Step.{Step}
use Rattle.mono_steps.proofs.Sets.{has-append}
use Rattle.mono_trail.specs.declared.reason.Reason.TheVariants.{Decided}
use Rattle.mono_trail.specs.TrailView.{TrailView, IsSoundTrail}
use Rattle.mono_trail.specs.Moves.{IsVar, joined}
use Rattle.mono_clauses.specs.Store.{StoreView}
use Rattle.mono_steps.specs.Journals.{known_clauses, chain_clauses}
use Rattle.mono_steps.specs.Switching.{literal_of}
use Rattle.mono_steps.proofs.LeftOpen.{has_at}
use Rattle.mono_trail.specs.Order.{OrderView, AllOpenWait, Leaves, NoneOpen}
use Rattle.mono_search.specs.Theories.{TheoriesView}
use Rattle.mono_search.specs.State.{QuietAt}
use Rattle.mono_search.specs.Runs.{IsQuietState, HasAdvanced, DecidesBySign, IsComplete, Releases, saved}
use Rattle.mono_search.specs.Outcomes.{HasModel}
use Rattle.mono_search.proofs.Lists.{open_parts, open_from, open-neg, open-neg_back, open-fewer}
use Rattle.mono_base.proofs.Partials.{one_sign, true_from_yes, yes_from_true, var-neg}
use Rattle.mono_search.proofs.Growing.{kept_from, supported_from, kept-joined, in_range}
use Rattle.mono_clauses.proofs.FollowsKept.{follows_decide}
use Rattle.mono_search.proofs.Propagating.{state}

-- a literal is its variable or the negation
pub lit_cases : (l : ℤ) → (l ≡ pos (var_of l)) ⊎ (l ≡ neg_ℤ (pos (var_of l)))
lit_cases (pos n) = inl refl
lit_cases (negsuc n) = inr refl

-- a variable whose literal stands in a list isn't open
pub not_open : (t : List ℤ) (l : ℤ) → IsTrue (has_lit t l) → IsTrue (is_open_in t (pos (var_of l))) → ⊥
not_open t l h o =
    let p = open_parts t (pos (var_of l)) o in
    elim (lit_cases l) [
      | inl e ↦ both_ways (has_lit t (pos (var_of l))) p.0 (subst (λ (m : ℤ). IsTrue (has_lit t m)) e h)
      | inr e ↦ both_ways (has_lit t (neg_ℤ (pos (var_of l)))) p.1 (subst (λ (m : ℤ). IsTrue (has_lit t m)) e h)
    ]

-- a literal of an open variable is open
pub open_lit : (t : List ℤ) (l : ℤ) (v : ℕ) → var_of l ≡ v → IsTrue (is_open_in t (pos v)) → IsTrue (is_open_in t l)
open_lit t l v e o =
    let here : IsTrue (is_open_in t (pos (var_of l))) = subst (λ (w : ℕ). IsTrue (is_open_in t (pos w))) (sym e) o in
    elim (lit_cases l) [
      | inl is ↦ subst (λ (m : ℤ). IsTrue (is_open_in t m)) (sym is) here
      | inr is ↦ subst (λ (m : ℤ). IsTrue (is_open_in t m)) (sym is) (open-neg t (pos (var_of l)) here)
    ]

-- ---- a decision

-- an open variable is decided next: the signs stay, and every other open variable that stood in the order still does
pub record IsNext (o r : OrderView) (t : List ℤ) (v : ℕ) : Type 0 where
  pub as_many : length r.waits ≡ length o.waits
  pub phases : r.phases ≡ o.phases
  pub is_open : IsTrue (is_open_in t (pos v))
  pub stay : (w : ℕ) → w ≢ v → IsTrue (is_open_in t (pos w)) → IsTrue (value_in o.waits w) → IsTrue (value_in r.waits w)

-- one that leaves the order, and any other one
pub next_leaves : (o r : OrderView) (t : List ℤ) (v : ℕ) → Leaves o r t v → IsNext o r t v
next_leaves o r t v leaves = record { as_many = leaves.as_many; phases = leaves.phases; is_open = leaves.is_open; stay = leaves.stay }

pub next_stays : (o : OrderView) (t : List ℤ) (v : ℕ) → IsTrue (is_open_in t (pos v)) → IsNext o o t v
next_stays o t v open_now = record { as_many = refl; phases = refl; is_open = open_now; stay = λ w other is waits. waits }

pub decided_moved : (b : TheoriesView) (t u : TrailView) (s : StoreView) (steps : List Step) (o r : OrderView) (l : ℤ) (v : ℕ) → IsQuietState (state b t s steps o) → IsNext o r t.lits v → var_of l ≡ v → u ≡ joined t l Decided → IsSoundTrail u
    → HasAdvanced (state b t s steps o) (state b u s steps r)
decided_moved b t u s steps o r l v q next var e sound = subst (λ (w : TrailView). HasAdvanced (state b t s steps o) (state b w s steps r)) (sym e) (moved (subst IsSoundTrail e sound))
  where
    wait : (w : ℕ) → IsVar (length r.waits) w → IsTrue (is_open_in (t.lits ++ l ∷ []) (pos w)) → IsTrue (value_in r.waits w)
    wait w is open_now =
        let before = open-fewer (t.lits ++ l ∷ []) t.lits (pos w) (λ m h. has-append_left t.lits (l ∷ []) m h) open_now in
        let there : IsTrue (has_lit (t.lits ++ l ∷ []) l) = subst (λ (m : ℤ). IsTrue (has_lit (t.lits ++ l ∷ []) m)) (get_or_seam t.lits l) (has_at (t.lits ++ l ∷ []) (length t.lits) (omega (arith, length-append t.lits (l ∷ [])))) in
        let other : w ≢ v = λ same. not_open (t.lits ++ l ∷ []) l there (subst (λ (x : ℕ). IsTrue (is_open_in (t.lits ++ l ∷ []) (pos x))) (same ∙ sym var) open_now) in
        next.stay w other before (q.ready.whole.order.wait.at w (is.0, omega (arith, is.1, next.as_many)) before)
      where
        get_or_seam : (t : List ℤ) (l : ℤ) → get_or (t ++ l ∷ []) (length t) (pos 0) ≡ l
        get_or_seam [] l = refl
        get_or_seam (x ∷ t) l = get_or_seam t l

    moved : IsSoundTrail (joined t l Decided) → HasAdvanced (state b t s steps o) (state b (joined t l Decided) s steps r)
    moved sound = record {
      ready = record {
        whole = record {
          journal = q.ready.whole.journal;
          held = q.ready.whole.held;
          trail = supported_from b (joined t l Decided) steps (kept-joined b t steps l Decided (kept_from b t steps q.ready.whole.trail) tt (λ d. q.quiet)) sound;
          order = record { vars = next.as_many ∙ q.ready.whole.order.vars; wait = record { at = wait } };
        };
        follows = follows_decide s t l q.ready.whole.trail.sound q.all_given q.ready.follows;
      };
      vars = refl;
      more = omega (arith, length-append t.lits (l ∷ []));
    }

pub decided_by_sign : (b : TheoriesView) (t u : TrailView) (s : StoreView) (steps : List Step) (o r : OrderView) (l : ℤ) (v : ℕ) (sign : Bool) → IsNext o r t.lits v → (IsTrue (value_in r.phases v) → IsTrue sign)
    → (IsTrue sign → value_in r.phases v ≡ false → 0 < length b.facts) → l ≡ literal_of sign v → u ≡ joined t l Decided
    → DecidesBySign (state b t s steps o) (state b u s steps r)
decided_by_sign b t u s steps o r l v sign next is theory lit e = record {
  var = v;
  sign = sign;
  is_open = next.is_open;
  saved_sign = λ on. is (subst (λ (ps : List Bool). IsTrue (value_in ps v)) (sym next.phases) on);
  by_theory = λ on off. theory on (subst (λ (ps : List Bool). value_in ps v ≡ false) (sym next.phases) off);
  decided = e ∙ ap (λ (m : ℤ). joined t m Decided) lit;
  phases = next.phases;
}

-- ---- dropped literals

value-set : (w : List Bool) (v u : ℕ) → 1 ≤ v → v ≤ length w → (u ≡ v) ⊎ IsTrue (value_in w u) → IsTrue (value_in (set w (v - 1) true) u)
value-set w zero u one few c = absurd (omega arith)
value-set w (suc v) zero one few (inl e) = absurd (omega arith)
value-set w (suc v) zero one few (inr h) = h
value-set w (suc v) (suc u) one few c =
    let n : suc v - 1 ≡ v = omega arith in
    subst (λ (i : ℕ). get_or (set w i true) u false ≡ true) (sym n) (by (cases_eq u v) c)
  where
    by : (u ≡ v) ⊎ (u ≢ v) → (suc u ≡ suc v) ⊎ IsTrue (get_or w u false) → get_or (set w v true) u false ≡ true
    by (inl e) c = subst (λ (i : ℕ). get_or (set w v true) i false ≡ true) (sym e) (get_or-set_same w v true false (omega arith))
    by (inr n) (inl e) = absurd (n (omega (arith, e)))
    by (inr n) (inr h) = get_or-set_other w v u true false n ∙ h

pub none_released : (o : OrderView) (t : List ℤ) → Releases o o (take 0 t)
none_released o t = record { as_many = refl; stay = λ v h. h; back = λ l h. absurd cc; phases = refl }

-- one sign more is saved
pub saved_more : (phases : List Bool) (t : List ℤ) (l : ℤ) → saved phases (t ++ l ∷ []) ≡ set (saved phases t) (var_of l - 1) (int_lt (pos 0) l)
saved_more phases [] l = refl
saved_more phases (x ∷ t) l = saved_more (set phases (var_of x - 1) (int_lt (pos 0) x)) t l

pub released_more : (o r q : OrderView) (t : List ℤ) (i : ℕ) (l : ℤ) → Releases o r (take i t) → i < length t → l ≡ get_or t i l → 1 ≤ var_of l → var_of l ≤ length o.waits → q.waits ≡ set r.waits (var_of l - 1) true
    → q.phases ≡ set r.phases (var_of l - 1) (int_lt (pos 0) l) → Releases o q (take (i + 1) t)
released_more o r q t i l h lt at low high e signs =
    let few : var_of l ≤ length r.waits = omega (arith, high, h.as_many) in
    record {
      as_many = ap length e ∙ length-set r.waits (var_of l - 1) true ∙ h.as_many;
      stay = λ v k. subst (λ (w : List Bool). IsTrue (value_in w v)) (sym e) (value-set r.waits (var_of l) v low few (inr (h.stay v k)));
      back = λ m k.
          let next : take (i + 1) t ≡ take i t ++ l ∷ [] = take_more t i l lt ∙ ap (λ (x : ℤ). take i t ++ x ∷ []) (sym at) in
          let k2 : IsTrue (has_lit (take i t ++ l ∷ []) m) = subst (λ (u : List ℤ). IsTrue (has_lit u m)) next k in
          elim (or_cases (has_lit (take i t) m) (has_lit (l ∷ []) m) (sym (has-append (take i t) (l ∷ []) m) ∙ k2)) [
            | inl before ↦ subst (λ (w : List Bool). IsTrue (value_in w (var_of m))) (sym e) (value-set r.waits (var_of l) (var_of m) low few (inr (h.back m before)))
            | inr here ↦ subst (λ (w : List Bool). IsTrue (value_in w (var_of m))) (sym e) (value-set r.waits (var_of l) (var_of m) low few (inl (ap var_of (one_of here))))
          ];
      phases =
          let next : take (i + 1) t ≡ take i t ++ l ∷ [] = take_more t i l lt ∙ ap (λ (x : ℤ). take i t ++ x ∷ []) (sym at) in
          signs ∙ ap (λ (ps : List Bool). set ps (var_of l - 1) (int_lt (pos 0) l)) h.phases ∙ sym (saved_more o.phases (take i t) l) ∙ sym (ap (saved o.phases) next);
    }
  where
    first : (k : ℕ) → k < length (l ∷ []) → lit_at (l ∷ []) k ≡ l
    first zero lt = refl
    first (suc k) lt = absurd (omega arith)

    one_of : {m : ℤ} → IsTrue (has_lit (l ∷ []) m) → m ≡ l
    one_of {m} h = let f = has_stands (l ∷ []) m h in sym f.there ∙ first f.place f.within

-- who is open once literals were dropped was open before or is one of them
pub wait-lowered : (o r : OrderView) (t : List ℤ) (n : ℕ) → AllOpenWait o t → Releases o r (drop n t) → AllOpenWait r (take n t)
wait-lowered o r t n w h = record {
  at = λ v is open_in. elim (cases_Bool (is_open_in t (pos v))) [
    | inl before ↦ h.stay v (w.at v (is.0, omega (arith, is.1, h.as_many)) before)
    | inr dropped ↦ back v open_in dropped
  ];
}
  where
    here : (l : ℤ) → IsTrue (has_lit t l) → has_lit (take n t) l ≡ false → IsTrue (has_lit (drop n t) l)
    here l k off = elim (or_cases (has_lit (take n t) l) (has_lit (drop n t) l) (sym (has-append (take n t) (drop n t) l) ∙ subst (λ (u : List ℤ). IsTrue (has_lit u l)) (sym (take-append-drop n t)) k)) [
      | inl front ↦ absurd (both_ways (has_lit (take n t) l) off front)
      | inr rest ↦ rest
    ]

    back : (v : ℕ) → IsTrue (is_open_in (take n t) (pos v)) → is_open_in t (pos v) ≡ false → IsTrue (value_in r.waits v)
    back v open_in dropped =
        let p = open_parts (take n t) (pos v) open_in in
        elim (cases_Bool (has_lit t (pos v))) [
          | inl on ↦ h.back (pos v) (here (pos v) on p.0)
          | inr off ↦ elim (cases_Bool (has_lit t (neg_ℤ (pos v)))) [
            | inl on ↦ subst (λ (w : ℕ). IsTrue (value_in r.waits w)) (var-neg (pos v)) (h.back (neg_ℤ (pos v)) (here (neg_ℤ (pos v)) on p.1))
            | inr none ↦ absurd (both_ways (is_open_in t (pos v)) dropped (open_from t (pos v) off none))
          ]
        ]

-- ---- a model

module _ (p : Instance) (t : TrailView) (cs : List (List ℤ)) (model : List Bool) (ok : IsInstance p) (vars : t.vars ≡ p.vars) (sound : IsSoundTrail t) (none : NoneOpen t.vars t.lits)
    (values : (v : ℕ) → IsVar t.vars v → value_in model v ≡ is_true_in t.lits (pos v)) where
  each_true : (l : ℤ) → IsTrue (has_lit t.lits l) → IsTrue (lit_true (value_in model) l)
  each_true l h = by l h (in_range t.vars t.lits l sound.within h) (upper l h)
    where
      upper : (l : ℤ) → IsTrue (has_lit t.lits l) → nat_abs l ≤ t.vars
      upper l h = let i = has_stands t.lits l h in subst (λ (m : ℤ). nat_abs m ≤ t.vars) i.there (sound.within i.place (pos 0) i.within).1

      by : (l : ℤ) → IsTrue (has_lit t.lits l) → 0 < nat_abs l → nat_abs l ≤ t.vars → IsTrue (lit_true (value_in model) l)
      by (pos zero) h low high = absurd (omega arith)
      by (pos (suc n)) h low high = values (suc n) (omega arith, omega (arith, high)) ∙ h
      by (negsuc n) h low high = not_from_false (value_in model (suc n)) (values (suc n) (omega arith, omega (arith, high)) ∙ false_from_ne_true (has_lit t.lits (pos (suc n))) (λ on. one_sign t.lits (pos (suc n)) sound.partial on h))

  model_extends : Extends (value_in model) t.lits
  model_extends = from_each (lit_true (value_in model)) t.lits each_true

  closed : (v : ℕ) → 1 ≤ v → v ≤ p.vars → is_open_in t.lits (pos v) ≡ false
  closed v low high = none.at v (low, omega (arith, high, vars))

  closed_lit : (l : ℤ) → IsLitWithin p.vars l → not (is_open_in t.lits l) ≡ true
  closed_lit l w = not_from_false (is_open_in t.lits l) (false_from_ne_true (is_open_in t.lits l) (λ o. both_ways (is_open_in t.lits (pos (var_of l))) (closed (var_of l) (omega (arith, w.0)) w.1) (back o)))
    where
      back : IsTrue (is_open_in t.lits l) → IsTrue (is_open_in t.lits (pos (var_of l)))
      back o = elim (lit_cases l) [
        | inl e ↦ subst (λ (m : ℤ). IsTrue (is_open_in t.lits m)) e o
        | inr e ↦ open-neg_back t.lits (pos (var_of l)) (subst (λ (m : ℤ). IsTrue (is_open_in t.lits m)) e o)
      ]

  no_open : (ds : List (List ℤ)) → All (All (IsLitWithin p.vars)) ds → HasNoOpen t.lits ds
  no_open [] w = refl
  no_open (c ∷ ds) w = and_from (list_all (λ l. not (is_open_in t.lits l)) c) (has_no_open t.lits ds) (clause c (w 0 c (omega arith))) (no_open ds (λ k d lt. w (suc k) d (omega arith)))
    where
      clause : (c : List ℤ) → All (IsLitWithin p.vars) c → IsTrue (list_all (λ l. not (is_open_in t.lits l)) c)
      clause [] w = refl
      clause (l ∷ c) w = and_from (not (is_open_in t.lits l)) (list_all (λ m. not (is_open_in t.lits m)) c) (closed_lit l (w 0 l (omega arith))) (clause c (λ k d lt. w (suc k) d (omega arith)))

  agrees : QuietAt p cs t.lits → Agrees p (value_in model)
  agrees q = λ k d lt.
      let x = get_or p.atoms k d in
      let a = ok.atoms k d lt in
      let g = ok.graphs x.graph no_graph a.graph in
      quiet_atom_agrees (graph_at p x.graph) t.lits (value_in model) x g.graph model_extends
      (λ j e in_edges. closed (get_or (graph_at p x.graph).edges j e).var (g.graph.vars j e in_edges).0 (g.within j e in_edges).0)
      a.low (closed x.var (omega (arith, a.low)) a.high) (q.atoms.at k d lt)

  pub satisfied : (steps : List Step) → cs ≡ known_clauses p steps → QuietAt p cs t.lits → Satisfies p (value_in model)
  satisfied steps e q = (
    quiet_are_true (value_in model) t.lits p.clauses model_extends (no_open p.clauses ok.clauses) (and_parts (unit_quiet p.clauses t.lits) (unit_quiet (chain_clauses steps) t.lits) (sym (list_all-append _ p.clauses (chain_clauses steps)) ∙ subst (λ (ds : List (List ℤ)). IsTrue (unit_quiet ds t.lits)) e q.units)).0,
    agrees q,
  )

-- ---- values one by one

value-push : (w : List Bool) (b : Bool) (v : ℕ) → v < length w + 1 → (v ≡ length w → ⊥) → get_or (w ++ b ∷ []) v false ≡ get_or w v false
value-push [] b v lt n = absurd (n (omega arith))
value-push (x ∷ w) b zero lt n = refl
value-push (x ∷ w) b (suc v) lt n = value-push w b v (omega arith) (λ e. n (omega (arith, e)))

value-last : (w : List Bool) (b : Bool) → get_or (w ++ b ∷ []) (length w) false ≡ b
value-last [] b = refl
value-last (x ∷ w) b = value-last w b

pub values_more : (t : List ℤ) (w : List Bool) (b : Bool) (n : ℕ) → length w ≡ n → ((v : ℕ) → IsVar n v → value_in w v ≡ is_true_in t (pos v)) → b ≡ is_true_in t (pos (n + 1))
    → (v : ℕ) → IsVar (n + 1) v → value_in (w ++ b ∷ []) v ≡ is_true_in t (pos v)
values_more t w b n len h new zero is = absurd (omega (arith, is.0))
values_more t w b n len h new (suc v) is = by (cases_eq v n)
  where
    by : (v ≡ n) ⊎ (v ≢ n) → get_or (w ++ b ∷ []) v false ≡ is_true_in t (pos (suc v))
    by (inl e) =
        let at : v ≡ length w = omega (arith, e, len) in
        let one : n + 1 ≡ suc v = omega (arith, e) in
        ap (λ (i : ℕ). get_or (w ++ b ∷ []) i false) at ∙ value-last w b ∙ new ∙ ap (λ (i : ℕ). is_true_in t (pos i)) one
    by (inr d) = value-push w b v (omega (arith, is.1, len)) (λ e. d (omega (arith, e, len))) ∙ h (suc v) (omega arith, omega (arith, is.1, d))

-- the answer to 'is it true' is whether it stands in the list
pub is_value : (t : List ℤ) (l : ℤ) (x : Value) (b : Bool) → x ≡ value_by t l → (IsTrue b ↔ (x ≡ value.Yes)) → b ≡ is_true_in t l
is_value t l x b e i = both b (is_true_in t l) (λ on. true_from_yes t l (sym e ∙ i.0 on)) (λ on. i.1 (e ∙ yes_from_true t l on))
  where
    both : (b d : Bool) → (IsTrue b → IsTrue d) → (IsTrue d → IsTrue b) → b ≡ d
    both true d f g = sym (f refl)
    both false true f g = g refl
    both false false f g = refl

pub has_model : {E : Type 0} (x : Result (List Bool) E) (b : TheoriesView) (t : TrailView) (s : StoreView) (steps : List Step) (o : OrderView) → IsInstance b.problem → IsComplete (state b t s steps o) → IfOk x (λ values. length values ≡ t.vars)
    → IfOk x (λ values. (v : ℕ) → IsVar t.vars v → value_in values v ≡ is_true_in t.lits (pos v)) → IfOk x (HasModel b.problem)
has_model (Err e) b t s steps o ok full len values = len
has_model (Ok m) b t s steps o ok full len values = record {
  len = len ∙ full.vars;
  satisfies = satisfied b.problem t (known_clauses b.problem steps) m ok full.vars full.sound full.none values steps refl full.quiet;
}
