-- What a propagation by the clauses keeps of a state, and why a false clause is a conflict.
use Rattle.std.proofs.Common.{◌≡◌, ℕ, zero, suc, ◌-◌, ◌<◌, ◌≤◌, Bool, List, [], ◌∷◌, ◌++◌, take, filter, get_or, length, All, refl, sym, ap, subst, ◌∙◌, inl, inr, ℤ, pos, neg_ℤ, nat_abs, Some, arith, length-append}
use Rattle.std.specs.Prelude.{IsTrue}
use Rattle.std.specs.List.{list_all, list_any}
use Rattle.std.specs.Ordering.{int_eq}
use Rattle.std.proofs.Math.Seq.{get_or-append_seam, take-append_seam}
use Rattle.std.proofs.lemmas.List.{take-append-le, length-take, get_or-take}
use Rattle.std.proofs.lemmas.Bool.{cases_lt, and_parts, or_cases, or_left, or_right, both_ways}
use Rattle.mono_base.proofs.Truth.{lit_itself}
use Rattle.mono_base.specs.Literal.{has_lit, IsLitWithin, lit_at}
use Rattle.mono_base.specs.Partial.{is_true_in, is_false_in, is_open_in, is_quiet, unit_quiet, has_two, is_partial, others_false, is_false_clause}
use Rattle.mono_problem.specs.Instance.{Instance, numbered}
use Rattle.mono_steps.specs.declared.step.Step.{Step}
use Rattle.mono_trail.specs.declared.reason.Mark.{Mark}
use Rattle.mono_trail.specs.declared.reason.Reason.{Reason}
use Rattle.mono_trail.specs.declared.reason.Reason.TheVariants.{Decided, Clause}
use Rattle.mono_trail.specs.TrailView.{TrailView, IsSoundTrail, count_to, next_level, StandsAt}
use Rattle.mono_trail.proofs.Levels.{at_most, up_to_level}
use Rattle.mono_trail.specs.Places.{level_at}
use Rattle.mono_trail.specs.Moves.{joined, gave}
use Rattle.mono_clauses.specs.Store.{Held, no_clause, StoreView, lists_of}
use Rattle.mono_clauses.specs.Propagation.{IsUnitOf, IsFalseOf, Grows, same, implies, gives, QuietFound, FalseFound, FoundIs}
use Rattle.mono_clauses.specs.declared.found.Found.{Found}
use Rattle.mono_clauses.specs.declared.found.Found.TheVariants as found
use Rattle.mono_steps.specs.Steps.{clauses_after}
use Rattle.mono_steps.specs.Journals.{known_clauses}
use Rattle.mono_steps.proofs.LeftOpen.{has_at}
use Rattle.mono_trail.specs.Order.{OrderView, AllOpenWait}
use Rattle.mono_learn.specs.Reasons.{WasUnit, IsFalseClause, IsConflict}
use Rattle.mono_learn.proofs.LitSets.{has-append_left}
use Rattle.mono_learn.proofs.ChainEnds.{filter_has}
use Rattle.mono_learn.proofs.PlacesOfLits.{has_stands}
use Rattle.mono_search.specs.Theories.{TheoriesView, HaveSeen}
use Rattle.mono_search.specs.State.{KeepsReason, KeepsReasons, QuietAt, QuietBelow, HoldsKnown, IsNamed, IsSupported, OrderHasOpen, IsConsistent, IsReady}
use Rattle.mono_search.specs.Runs.{HasGrown, ClausesQuiet, ClauseFalse, ClausesPropagatedAs}
use Rattle.mono_search.proofs.Lists.{has_before, open_parts, open-fewer, all_or_one, false_in_clause}
use Rattle.mono_base.proofs.Partials.{one_sign, is_partial-take}
use Rattle.mono_search.proofs.Trails.{top_begins}
use Rattle.mono_search.proofs.Reasons.{reasons-joined, below-joined}

-- what is kept while literals join
pub record IsJoining (b : TheoriesView) (t : TrailView) (steps : List Step) : Type 0 where
  pub vars : t.vars ≡ b.problem.vars
  pub as_many : length t.marks ≡ length t.lits
  pub shown : HaveSeen b t.lits
  pub reasons : KeepsReasons b (clauses_after b.problem steps) t.lits t.marks
  pub below : QuietBelow b.problem (known_clauses b.problem steps) t.lits t.marks

pub kept_from : (b : TheoriesView) (t : TrailView) (steps : List Step) → IsSupported b t steps → IsJoining b t steps
kept_from b t steps f = record { vars = f.vars; as_many = f.sound.as_many; shown = f.shown; reasons = f.reasons; below = f.below }

pub supported_from : (b : TheoriesView) (t : TrailView) (steps : List Step) → IsJoining b t steps → IsSoundTrail t → IsSupported b t steps
supported_from b t steps k s = record { vars = k.vars; sound = s; shown = k.shown; reasons = k.reasons; below = k.below }

shown-joined : (b : TheoriesView) (lits : List ℤ) (l : ℤ) → HaveSeen b lits → HaveSeen b (lits ++ l ∷ [])
shown-joined b lits l s = record {
  within = omega (arith, s.within, length-append lits (l ∷ []));
  current = rw (take-append-le b.handed lits (l ∷ []) s.within) s.current;
}

pub kept-joined : (b : TheoriesView) (t : TrailView) (steps : List Step) (l : ℤ) (why : Reason) → IsJoining b t steps → KeepsReason b (clauses_after b.problem steps) (t.lits ++ l ∷ []) (length t.lits) why
    → (why ≡ Decided → QuietAt b.problem (known_clauses b.problem steps) t.lits) → IsJoining b (joined t l why) steps
kept-joined b t steps l why k new quiet =
    let m : Mark = record { level = next_level why t.level; reason = why } in
    record {
      vars = k.vars;
      as_many = omega (arith, k.as_many, length-append t.lits (l ∷ []), length-append t.marks (m ∷ []));
      shown = shown-joined b t.lits l k.shown;
      reasons = reasons-joined b (clauses_after b.problem steps) t.lits t.marks l m k.as_many k.reasons new;
      below = below-joined b.problem (known_clauses b.problem steps) t.lits t.marks l m k.as_many k.below quiet;
    }

pub kept-gave : (b : TheoriesView) (t : TrailView) (steps : List Step) → IsJoining b t steps → IsJoining b (gave t) steps
kept-gave b t steps k = record { vars = k.vars; as_many = k.as_many; shown = k.shown; reasons = k.reasons; below = k.below }

-- a unit clause of the store is one of all clauses
pub unit_joined : (cs : List (List ℤ)) (hs : List Held) (lits : List ℤ) (n : ℕ) (x : ℤ) → All (IsNamed cs) hs → IsUnitOf hs lits n x → WasUnit cs (lits ++ x ∷ []) (length lits) n
unit_joined cs hs lits n x all u =
    let c = get_or hs u.place no_clause in
    let named : numbered cs c.number ≡ Some c.lits = all u.place no_clause u.within in
    let at : lit_at (lits ++ x ∷ []) (length lits) ≡ x = get_or-append_seam lits x [] (pos 0) in
    let front : take (length lits) (lits ++ x ∷ []) ≡ lits = take-append_seam lits (x ∷ []) in
    record {
      clause = c.lits;
      is = subst (λ (m : ℕ). numbered cs m ≡ Some c.lits) u.number named;
      has = subst (λ (l : ℤ). IsTrue (has_lit c.lits l)) (sym at) u.has;
      others = subst (λ (l : ℤ). IsTrue (others_false (take (length lits) (lits ++ x ∷ [])) c.lits l)) (sym at) (subst (λ (t : List ℤ). IsTrue (others_false t c.lits x)) (sym front) u.others);
    }

pub not_decided : (n : ℕ) (Q : Type 0) → Clause n ≡ Decided → Q
not_decided n Q e = absurd cc

-- what a propagation leaves of the trail
pub record IsLonger (b : TheoriesView) (t u : TrailView) (steps : List Step) : Type 0 where
  pub kept : IsJoining b u steps
  pub vars : u.vars ≡ t.vars
  pub more : length t.lits ≤ length u.lits
  pub has : (l : ℤ) → IsTrue (has_lit t.lits l) → IsTrue (has_lit u.lits l)

pub kept-grows : (b : TheoriesView) (steps : List Step) (hs : List Held) (t u : TrailView) → All (IsNamed (clauses_after b.problem steps)) hs → Grows hs t u → IsJoining b t steps → IsLonger b t u steps
kept-grows b steps hs t u named (same v e) k = subst (λ (w : TrailView). IsLonger b t w steps) (sym e) (record { kept = k; vars = refl; more = omega arith; has = λ l h. h })
kept-grows b steps hs t u named (implies s v n x g unit e) k =
    let l = kept-grows b steps hs t s named g k in
    subst (λ (w : TrailView). IsLonger b t w steps) (sym e) (record {
      kept = kept-joined b s steps x (Clause n) l.kept (unit_joined (clauses_after b.problem steps) hs s.lits n x named unit) (not_decided n (QuietAt b.problem (known_clauses b.problem steps) s.lits));
      vars = l.vars;
      more = omega (arith, l.more, length-append s.lits (x ∷ []));
      has = λ m h. has-append_left s.lits (x ∷ []) m (l.has m h);
    })
kept-grows b steps hs t u named (gives s v g more e) k =
    let l = kept-grows b steps hs t s named g k in
    subst (λ (w : TrailView). IsLonger b t w steps) (sym e) (record { kept = kept-gave b s steps l.kept; vars = l.vars; more = l.more; has = l.has })

pub wait-grown : (o : OrderView) (t u : List ℤ) → ((l : ℤ) → IsTrue (has_lit t l) → IsTrue (has_lit u l)) → AllOpenWait o t → AllOpenWait o u
wait-grown o t u more w = record { at = λ v is open_in. w.at v is (open-fewer u t (pos v) more open_in) }

-- ---- conflicts

-- a false clause that isn't false by the literals before the present level has a literal of the present level
pub record Present (t : TrailView) (c : List ℤ) : Type 0 where
  pub lit : ℤ
  pub has : IsTrue (has_lit c lit)
  pub stands : StandsAt t (neg_ℤ lit) t.level

pub present_lit : (t : TrailView) (c : List ℤ) → IsSoundTrail t → 1 ≤ t.level → IsTrue (is_false_clause t.lits c) → (IsTrue (is_false_clause (take (count_to (t.level - 1) t.marks) t.lits) c) → ⊥) → Present t c
present_lit t c s one false_now not_before = elim (all_or_one (is_false_in (take (count_to (t.level - 1) t.marks) t.lits)) c) [
  | inl all ↦ absurd (not_before all)
  | inr f ↦
      let i = has_stands t.lits (neg_ℤ f.lit) (false_in_clause t.lits c f.lit false_now f.has) in
      record { lit = f.lit; has = f.has; stands = record { place = i.place; within = i.within; there = i.there; at = level i.place i.within (λ low. both_ways (has_lit (take (count_to (t.level - 1) t.marks) t.lits) (neg_ℤ f.lit)) f.fails (subst (λ (l : ℤ). IsTrue (has_lit (take (count_to (t.level - 1) t.marks) t.lits) l)) i.there (has_before t.lits i.place (count_to (t.level - 1) t.marks) low i.within))) } }
]
  where
    level : (j : ℕ) → j < length t.lits → (j < count_to (t.level - 1) t.marks → ⊥) → level_at t.marks j ≡ t.level
    level j lt high = elim (cases_lt (level_at t.marks j) t.level) [
      | inl low ↦ absurd (high ((up_to_level 0 t.marks t.level (t.level - 1) j s.climbs (omega (arith, lt, s.as_many))).1 (omega (arith, low))))
      | inr ge ↦ omega (arith, ge, at_most 0 t.marks t.level j s.climbs (omega (arith, lt, s.as_many)))
    ]

pub some_one : (p : ℤ → Bool) (c : List ℤ) → IsTrue (list_any p c) → (l : ℤ) × IsTrue (has_lit c l) × IsTrue (p l)
some_one p [] h = absurd cc
some_one p (x ∷ c) h = elim (or_cases (p x) (list_any p c) h) [
  | inl a ↦ (x, or_left (int_eq x x) (has_lit c x) (lit_itself x), a)
  | inr b ↦ let i = some_one p c b in (i.0, or_right (int_eq i.0 x) (has_lit c i.0) i.1, i.2)
]

-- a clause that is quiet isn't false
pub some_open : (t c : List ℤ) → IsTrue (has_two (filter (is_open_in t) c)) → (l : ℤ) × IsTrue (has_lit c l) × IsTrue (is_open_in t l)
some_open t c h = by (filter (is_open_in t) c) h (λ l k. filter_has (is_open_in t) c l k)
  where
    by : (xs : List ℤ) → IsTrue (has_two xs) → ((l : ℤ) → IsTrue (has_lit xs l) → IsTrue (has_lit c l) × IsTrue (is_open_in t l)) → (l : ℤ) × IsTrue (has_lit c l) × IsTrue (is_open_in t l)
    by [] h f = absurd cc
    by (x ∷ xs) h f = let g = f x (has_at (x ∷ xs) 0 (omega arith)) in (x, g.0, g.1)

-- a literal of a list over some variables isn't 0
pub in_range : (vars : ℕ) (t : List ℤ) (l : ℤ) → All (IsLitWithin vars) t → IsTrue (has_lit t l) → 0 < nat_abs l
in_range vars t l w h = let i = has_stands t l h in subst (λ (m : ℤ). 0 < nat_abs m) i.there (w i.place (pos 0) i.within).0

pub quiet_not_false : (t c : List ℤ) → IsTrue (is_partial t) → IsTrue (is_quiet t c) → IsTrue (is_false_clause t c) → ⊥
quiet_not_false t c d quiet all = elim (or_cases (list_any (is_true_in t) c) (has_two (filter (is_open_in t) c)) quiet) [
  | inl some ↦
      let l = some_one (is_true_in t) c some in
      one_sign t l.0 d l.2 (false_in_clause t c l.0 all l.1)
  | inr two ↦ let o = some_open t c two in both_ways (is_false_in t o.0) (open_parts t o.0 o.2).1 (false_in_clause t c o.0 all o.1)
]

pub all_at : {A : Type 0} (p : A → Bool) (xs : List A) (k : ℕ) (d : A) → IsTrue (list_all p xs) → k < length xs → IsTrue (p (get_or xs k d))
all_at p [] k d h lt = absurd (omega arith)
all_at p (x ∷ xs) zero d h lt = (and_parts (p x) (list_all p xs) h).0
all_at p (x ∷ xs) (suc k) d h lt = all_at p xs k d (and_parts (p x) (list_all p xs) h).1 (omega arith)

pub within-take : (vars : ℕ) (t : List ℤ) (k : ℕ) → All (IsLitWithin vars) t → All (IsLitWithin vars) (take k t)
within-take vars t k w = λ j d lt.
    let low : j < k = omega (arith, lt, length-take k t) in
    let len : j < length t = omega (arith, lt, length-take k t) in
    rw (get_or-take k t j d low) (w j d len)

-- the literals before the present level's decision leave nothing to do
pub quiet_at_start : (b : TheoriesView) (t : TrailView) (steps : List Step) → IsSupported b t steps → 1 ≤ t.level → QuietAt b.problem (known_clauses b.problem steps) (take (count_to (t.level - 1) t.marks) t.lits)
quiet_at_start b t steps f one =
    let s = top_begins 0 t.marks t.level f.sound.climbs (omega (arith, one)) in
    f.below.at (count_to (t.level - 1) t.marks) (omega (arith, s.inside, f.sound.as_many)) s.decided

-- a false clause of the store is a conflict
pub false_held : (cs : List (List ℤ)) (hs : List Held) (t : List ℤ) (n : ℕ) → All (IsNamed cs) hs → IsFalseOf hs t n → IsFalseClause cs t n
false_held cs hs t n named f =
    let c = get_or hs f.place no_clause in
    record { clause = c.lits; is = subst (λ (m : ℕ). numbered cs m ≡ Some c.lits) f.number (named f.place no_clause f.within); is_false = f.is_false }

pub conflict_held : (b : TheoriesView) (t : TrailView) (s : StoreView) (steps : List Step) (n : ℕ) → HoldsKnown b.problem steps b.given s → IsSupported b t steps → IsFalseOf s.clauses t.lits n → 1 ≤ t.level → IsConflict (clauses_after b.problem steps) t n
conflict_held b t s steps n held f wrong one =
    let start = count_to (t.level - 1) t.marks in
    let c = get_or s.clauses wrong.place no_clause in
    let calm = held.none_false (take start t.lits) (is_partial-take start t.lits f.sound.partial) (quiet_at_start b t steps f one) in
    let p = present_lit t c.lits f.sound one wrong.is_false (calm wrong.place no_clause wrong.within) in
    record { clause = c.lits; is = subst (λ (m : ℕ). numbered (clauses_after b.problem steps) m ≡ Some c.lits) wrong.number (held.named wrong.place no_clause wrong.within); is_false = wrong.is_false; lit = p.lit; has = p.has; present = p.stands }

-- a store with the same clauses holds the same
pub held_same : (p : Instance) (steps : List Step) (given : ℕ) (s r : StoreView) → r.vars ≡ s.vars → r.clauses ≡ s.clauses → HoldsKnown p steps given s → HoldsKnown p steps given r
held_same p steps given s r vars alike h = record {
  vars = vars ∙ h.vars;
  named = subst (λ (hs : List Held). All (IsNamed (clauses_after p steps)) hs) (sym alike) h.named;
  count = ap length alike ∙ h.count;
  units = λ t quiet. h.units t (subst (λ (hs : List Held). IsTrue (unit_quiet (lists_of hs) t)) alike quiet);
  none_false = λ t d quiet. subst (λ (hs : List Held). All (λ (c : Held). IsTrue (is_false_clause t c.lits) → ⊥) hs) (sym alike) (h.none_false t d quiet);
}

-- ---- a propagation

pub order-grown : (p : Instance) (o : OrderView) (b : TheoriesView) (t u : TrailView) (steps : List Step) → IsLonger b t u steps → OrderHasOpen p o t → OrderHasOpen p o u
order-grown p o b t u steps l w = record { vars = w.vars; wait = wait-grown o t.lits u.lits l.has w.wait }

pub grown : (b : TheoriesView) (t u : TrailView) (s r : StoreView) (steps : List Step) (o : OrderView) → IsLonger b t u steps
    → HasGrown (record { theories = b; trail = t; store = s; steps = steps; order = o }) (record { theories = b; trail = u; store = r; steps = steps; order = o })
grown b t u s r steps o l = record { vars = l.vars; problem = refl; steps = refl; more = l.more }

module _ (b : TheoriesView) (t u : TrailView) (s r : StoreView) (steps : List Step) (o : OrderView) (ready : IsReady (record { theories = b; trail = t; store = s; steps = steps; order = o }))
    (vars : r.vars ≡ s.vars) (same_clauses : r.clauses ≡ s.clauses) (grows : Grows s.clauses t u) (sound : IsSoundTrail u) where
  now_held : HoldsKnown b.problem steps b.given r
  now_held = held_same b.problem steps b.given s r vars same_clauses ready.whole.held

  longer : IsLonger b t u steps
  longer = kept-grows b steps s.clauses t u ready.whole.held.named grows (kept_from b t steps ready.whole.trail)

  whole : IsConsistent (record { theories = b; trail = u; store = r; steps = steps; order = o })
  whole = record {
    journal = ready.whole.journal;
    held = now_held;
    trail = supported_from b u steps longer.kept sound;
    order = order-grown b.problem o b t u steps longer ready.whole.order;
  }

  pub propagated_quiet : QuietFound r u → ClausesQuiet (record { theories = b; trail = t; store = s; steps = steps; order = o }) (record { theories = b; trail = u; store = r; steps = steps; order = o })
  propagated_quiet q = record {
    grown = grown b t u s r steps o longer;
    ready = record { whole = whole; follows = q.follows };
    units = now_held.units u.lits q.quiet;
    all_given = q.all_given;
  }

  pub propagated_false : (n : ℕ) → FalseFound r u n → ClauseFalse (record { theories = b; trail = t; store = s; steps = steps; order = o }) (record { theories = b; trail = u; store = r; steps = steps; order = o }) n
  propagated_false n f = record {
    grown = grown b t u s r steps o longer;
    conflict = record { whole = whole; follows = f.follows; is_false = false_held (clauses_after b.problem steps) r.clauses u.lits n now_held.named f.is_false; present = λ one. conflict_held b u r steps n now_held whole.trail f.is_false one };
  }

  pub propagated : (x : Found) → FoundIs r u x → ClausesPropagatedAs (record { theories = b; trail = t; store = s; steps = steps; order = o }) (record { theories = b; trail = u; store = r; steps = steps; order = o }) x
  propagated found.Quiet q = propagated_quiet q
  propagated (found.False n) f = propagated_false n f
