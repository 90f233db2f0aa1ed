-- A look at the first watcher ahead.
use Rattle.std.proofs.Common.{◌≡◌, ◌≢◌, ℕ, zero, suc, ◌+◌, ◌-◌, ◌/◌, ◌<◌, true, false, List, [], ◌∷◌, ◌++◌, length, get_or, set, arith, refl, sym, ◌∙◌, ap, subst, length-append, ◌⊎◌, inl, inr, eqb}
use Rattle.std.specs.Prelude.{ℤ, pos, neg_ℤ, Option, Some, None}
use Rattle.std.proofs.lemmas.Bool.Decides.{eqb_tells}
use Rattle.std.proofs.Math.Seq.{get_or-append_seam}
use Rattle.std.proofs.Common.{get_or-set_other}
use Rattle.mono_base.specs.Literal.{IsLitWithin, lit_at}
use Rattle.mono_base.specs.Partial.{value_by}
use Rattle.mono_base.specs.declared.value.Value.{Value}
use Rattle.mono_base.specs.declared.value.Value.TheVariants.{Yes, No}
use Rattle.mono_base.proofs.Partials.{neg-neg, open_from_unset}
use Rattle.mono_clauses.proofs.Literals.{IsUnit, stands_yes, stands_no, stands_has, no_stays, int_tells, false_clause, others_are_false}
use Rattle.mono_clauses.proofs.Times.{times_same, times_other}
use Rattle.mono_clauses.proofs.WatchGuards.{other_half, keep_guarded, implied_guarded, move_guarded, move_paired, move_none, guards_gave, guards_passed}
use Rattle.mono_clauses.specs.ClauseValues.{AllFalse, FalseBut, IsAnotherUnfalse, AllVars}
use Rattle.mono_clauses.specs.Lists.{Stands, times, first_of}
use Rattle.mono_clauses.specs.Propagation.{IsUnitOf, same, implies}
use Rattle.mono_clauses.specs.Store.{Held, clause_at, watch_at, other, Guards}
use Rattle.mono_clauses.specs.Visits.{Guarded, Paired, IsFollowing, IsVisiting, IsDue, Looked, FoundFalse}
use Rattle.mono_clauses.specs.Watching.{WatchesView, Placed, Kept, StartsVisits}
use Rattle.mono_trail.specs.Moves.{joined, gave}
use Rattle.mono_trail.specs.TrailView.{TrailView, IsSoundTrail}
use Rattle.mono_trail.specs.declared.reason.Reason.TheVariants.{Decided, Clause}

-- a clause whose literals but one are false, and that one too
pub all_false : (t c : List ℤ) (m : ℤ) → FalseBut t c m → value_by t m ≡ No → AllFalse t c
all_false t c m f n = record { at = λ k lt. by_test k lt (int_tells (lit_at c k) m) }
  where
    by_test : (k : ℕ) → k < length c → (lit_at c k ≡ m) ⊎ (lit_at c k ≢ m) → value_by t (lit_at c k) ≡ No
    by_test k lt (inl e) = ap (value_by t) e ∙ n
    by_test k lt (inr d) = f.at k lt d

pub some_within : (ws : List (Option ℤ)) (w : ℕ) (a : ℤ) → watch_at ws w ≡ Some a → w < length ws
some_within [] w a e = absurd cc
some_within (x ∷ ws) zero a e = omega arith
some_within (x ∷ ws) (suc w) a e = omega (arith, some_within ws w a e)

-- what is known of the first watcher ahead
pub record WatcherFacts (cs : List Held) (v : WatchesView) (w : ℕ) (l : ℤ) : Type 0 where
  pub rest : List ℕ
  pub ahead : v.ahead ≡ w ∷ rest
  pub own : watch_at v.watched w ≡ Some l
  pub mate : ℤ
  pub mate_is : watch_at v.watched (other w) ≡ Some mate
  pub has : Stands (clause_at cs (w / 2)).lits mate
  pub has_own : Stands (clause_at cs (w / 2)).lits l
  pub differ : l ≢ mate
  pub within : w < length v.watched
  pub other_within : other w < length v.watched
  pub clause_within : w / 2 < length cs

yes_no : {v : Value} → v ≡ Yes → v ≡ No → ⊥
yes_no a b = cc

first_split : (h : List ℕ) (w : ℕ) → first_of h ≡ Some w → (r : List ℕ) × (h ≡ w ∷ r)
first_split [] w e = absurd cc
first_split (x ∷ r) w e = (r, (let s : x ≡ w = cc in ap (λ (y : ℕ). y ∷ r) s))

pub watcher_facts : (cs : List Held) (v : WatchesView) (t : TrailView) (l : ℤ) (w : ℕ) → IsVisiting cs v t l → first_of v.ahead ≡ Some w → WatcherFacts cs v w l
watcher_facts cs v t l w i e =
    let s = first_split v.ahead w e in
    let some : 0 < times w v.ahead = rw s.1 (omega (arith, times_same w s.0)) in
    let own : watch_at v.watched w ≡ Some l = i.members w some in
    let p = i.paired.watcher w l own in
    let q = i.paired.watcher (other w) p.mate p.is in
    let lt : w < length v.watched = some_within v.watched w l own in
    record {
      rest = s.0;
      ahead = s.1;
      own = own;
      mate = p.mate;
      mate_is = p.is;
      has = subst (λ (k : ℕ). Stands (clause_at cs k).lits p.mate) (other_half w) q.has;
      has_own = p.has;
      differ = λ z. (let s = i.guarded.alone w l own (p.is ∙ ap Some (sym z)) in yes_no (stands_yes t.lits l (record { place = s.place; within = s.within; there = s.there })) i.is_false);
      within = lt;
      other_within = some_within v.watched (other w) p.mate p.is;
      clause_within = omega (arith, lt, i.paired.count);
    }

-- the other watch stands in the same clause
pub mate_has : (cs : List Held) (v : WatchesView) (t : TrailView) (l m : ℤ) (w : ℕ) → IsVisiting cs v t l → watch_at v.watched (other w) ≡ Some m → Stands (clause_at cs (w / 2)).lits m
mate_has cs v t l m w i e = subst (λ (k : ℕ). Stands (clause_at cs k).lits m) (other_half w) (i.paired.watcher (other w) m e).has

pub var_of_lit : (vars n : ℕ) (c d : List ℤ) (x : ℤ) → AllVars n c → n ≡ vars → c ≡ d → Stands d x → IsLitWithin vars x
var_of_lit vars n c d x a e f s =
    let r : AllVars vars d = subst (λ (k : ℕ). AllVars k d) e (subst (λ (q : List ℤ). AllVars n q) f a) in
    subst (IsLitWithin vars) s.there (r.at s.place s.within)

pub not_decided : (n : ℕ) → Clause n ≡ Decided → ⊥
not_decided n e = cc

-- the watcher that `place` took
same_first : (a b : List ℕ) (x y : ℕ) → x ∷ a ≡ y ∷ b → (x ≡ y) × (a ≡ b)
same_first a b x y e = (cc, cc)

pub members_rest : (ws : List (Option ℤ)) (w : ℕ) (rest : List ℕ) (l : ℤ) → ((y : ℕ) → 0 < times y (w ∷ rest) → watch_at ws y ≡ Some l) → (y : ℕ) → 0 < times y rest → watch_at ws y ≡ Some l
members_rest ws w rest l m y p = m y (by_test (eqb_tells w y))
  where
    by_test : ((eqb w y ≡ true) × (w ≡ y)) ⊎ ((eqb w y ≡ false) × (w ≢ y)) → 0 < times y (w ∷ rest)
    by_test (inl s) = subst (λ (z : ℕ). 0 < times z (w ∷ rest)) s.1 (omega (arith, times_same w rest))
    by_test (inr o) = omega (arith, times_other y w rest (λ z. o.1 (sym z)), p)

-- the first watcher kept its watch
kept_view : (v u : WatchesView) (w : ℕ) → Kept v u → first_of v.ahead ≡ Some w → (r : List ℕ) × ((v.ahead ≡ w ∷ r) × (u ≡ record v { ahead = r }))
kept_view v u w p e =
    let s = first_split v.ahead w e in
    let h = same_first p.rest s.0 p.watcher w (sym p.was ∙ s.1) in
    (p.rest, (p.was ∙ ap (λ (x : ℕ). x ∷ p.rest) h.0, p.now))

pub looked_true : (cs : List Held) (v u : WatchesView) (t : TrailView) (l m : ℤ) (w : ℕ) → IsSoundTrail t → IsVisiting cs v t l → first_of v.ahead ≡ Some w → watch_at v.watched w ≡ Some l → watch_at v.watched (other w) ≡ Some m → Stands t.lits m → Kept v u → Looked cs v u t t l
looked_true cs v u t l m w sound i e own mate st p =
    let k = kept_view v u w p e in
    subst (λ (q : WatchesView). Looked cs v q t t l) (sym k.1.1) (record {
      visiting = record {
        vars = i.vars;
        paired = i.paired;
        members = members_rest v.watched w k.0 l (subst (λ (h : List ℕ). (y : ℕ) → 0 < times y h → watch_at v.watched y ≡ Some l) k.1.0 i.members);
        is_false = i.is_false;
        guarded = keep_guarded v.watched t w k.0 m sound mate st (subst (λ (h : List ℕ). Guarded v.watched t h) k.1.0 i.guarded);
      };
      grows = same t refl;
      given = refl;
      before = record { back = λ y z. z };
      less = omega (arith, ap (λ (h : List ℕ). length h) k.1.0);
    })

pub visiting_implied : (cs : List Held) (v : WatchesView) (t : TrailView) (l m : ℤ) (n : ℕ) → IsSoundTrail t → IsSoundTrail (joined t m (Clause n)) → IsVisiting cs v t l → IsVisiting cs v (joined t m (Clause n)) l
visiting_implied cs v t l m n sound later i = record { vars = i.vars; paired = i.paired; members = i.members; is_false = no_stays t.lits (m ∷ []) l later.partial i.is_false; guarded = implied_guarded v.watched t v.ahead m n sound i.guarded }

-- a unit clause, by the values of its literals
pub unit_of : (cs : List Held) (t : List ℤ) (k n : ℕ) (x : ℤ) → k < length cs → n ≡ (clause_at cs k).number → IsUnit t (clause_at cs k).lits x → IsUnitOf cs t n x
unit_of cs t k n x lt num unit = record { place = k; within = lt; number = sym num; has = stands_has (clause_at cs k).lits x unit.has; is_open = open_from_unset t x unit.is_open; others = others_are_false t (clause_at cs k).lits x unit.others }

pub looked_implied : (cs : List Held) (v u : WatchesView) (t s : TrailView) (l m : ℤ) (w n : ℕ) → IsSoundTrail t → IsSoundTrail s → IsVisiting cs v t l → first_of v.ahead ≡ Some w → watch_at v.watched w ≡ Some l → watch_at v.watched (other w) ≡ Some m
    → w / 2 < length cs → n ≡ (clause_at cs (w / 2)).number → IsUnit t.lits (clause_at cs (w / 2)).lits m → s ≡ joined t m (Clause n) → Kept v u → Looked cs v u t s l
looked_implied cs v u t s l m w n sound sound' i e own mate lt num unit j p =
    let st : Stands s.lits m = record { place = length t.lits; within = rw j (omega (arith, length-append t.lits (m ∷ []))); there = there } in
    let r = looked_true cs v u s l m w sound' (subst (λ (q : TrailView). IsVisiting cs v q l) (sym j) (visiting_implied cs v t l m n sound (subst IsSoundTrail j sound') i)) e own mate st p in
    record { visiting = r.visiting; grows = implies t s n m (same t refl) (unit_of cs t.lits (w / 2) n m lt num unit) j; given = ap (λ (q : TrailView). q.given) j; before = r.before; less = r.less }
  where
    there : get_or s.lits (length t.lits) (pos 0) ≡ m
    there = ap (λ (q : TrailView). get_or q.lits (length t.lits) (pos 0)) j ∙ seam t.lits m
      where
        seam : (xs : List ℤ) (y : ℤ) → get_or (xs ++ y ∷ []) (length xs) (pos 0) ≡ y
        seam xs y = get_or-append_seam xs y [] (pos 0)

pub looked_move : (cs : List Held) (v u : WatchesView) (t : TrailView) (l m x : ℤ) (w : ℕ) → IsSoundTrail t → IsVisiting cs v t l → first_of v.ahead ≡ Some w → watch_at v.watched w ≡ Some l → watch_at v.watched (other w) ≡ Some m → IsAnotherUnfalse t.lits (clause_at cs (w / 2)).lits m x → Placed v u x → Looked cs v u t t l
looked_move cs v u t l m x w sound i e own mate sp p =
    let s = first_split v.ahead w e in
    let h = same_first p.rest s.0 p.watcher w (sym p.was ∙ s.1) in
    let was : v.ahead ≡ w ∷ p.rest = p.was ∙ ap (λ (y : ℕ). y ∷ p.rest) h.0 in
    let now : u ≡ record v { watched = set v.watched w (Some x); ahead = p.rest } = p.now ∙ ap (λ (y : ℕ). let q : WatchesView = record v { watched = set v.watched y (Some x); ahead = p.rest } in q) h.0 in
    let lt : w < length v.watched = some_within v.watched w l own in
    let gone : times w p.rest ≡ 0 = ap (λ (y : ℕ). times y p.rest) (sym h.0) ∙ p.gone in
    let before = members_rest v.watched w p.rest l (subst (λ (q : List ℕ). (y : ℕ) → 0 < times y q → watch_at v.watched y ≡ Some l) was i.members) in
    subst (λ (q : WatchesView). Looked cs v q t t l) (sym now) (record {
      visiting = record {
        vars = i.vars;
        paired = move_paired cs v.watched w l m x lt own mate sp.has i.paired;
        members = λ y c. stays y c (eqb_tells w y) gone before;
        is_false = i.is_false;
        guarded = move_guarded v.watched t w p.rest l m x sound lt own mate sp.other i.is_false sp.unfalse (subst (λ (q : List ℕ). Guarded v.watched t q) was i.guarded);
      };
      grows = same t refl;
      given = refl;
      before = move_none v.watched w x lt;
      less = omega (arith, ap (λ (q : List ℕ). length q) was);
    })
  where
    stays : (y : ℕ) → 0 < times y p.rest → ((eqb w y ≡ true) × (w ≡ y)) ⊎ ((eqb w y ≡ false) × (w ≢ y)) → times w p.rest ≡ 0 → ((z : ℕ) → 0 < times z p.rest → watch_at v.watched z ≡ Some l) → watch_at (set v.watched w (Some x)) y ≡ Some l
    stays y c (inl q) gone before = absurd (omega (arith, ap (λ (z : ℕ). times z p.rest) q.1, c, gone))
    stays y c (inr o) gone before = get_or-set_other v.watched w y (Some x) None (λ z. o.1 (sym z)) ∙ before y c

pub found_false : (cs : List Held) (v : WatchesView) (t : TrailView) (m : ℤ) (w n : ℕ) → w / 2 < length cs → n ≡ (clause_at cs (w / 2)).number → FalseBut t.lits (clause_at cs (w / 2)).lits m → value_by t.lits m ≡ No → FoundFalse cs v v t t n
found_false cs v t m w n lt num f fm = record { watches = refl; trail = refl; is_false = record { place = w / 2; within = lt; number = sym num; is_false = false_clause t.lits (clause_at cs (w / 2)).lits (all_false t.lits (clause_at cs (w / 2)).lits m f fm) } }

-- the list of the literal that was given is walked
pub visiting_begins : (cs : List Held) (v u : WatchesView) (t : TrailView) (l : ℤ) → IsDue cs v t l → StartsVisits v u l → IsVisiting cs u t l
visiting_begins cs v u t l d h = record {
  vars = h.vars ∙ d.vars;
  paired = subst (λ (ws : List (Option ℤ)). Paired cs ws) (sym h.watched) d.paired;
  members = λ w lt. subst (λ (ws : List (Option ℤ)). watch_at ws w ≡ Some l) (sym h.watched) (member w lt (watch_at v.watched w) refl);
  is_false = d.is_false;
  guarded = record { at = λ w a b e f. guard w a b (ap (λ (ws : List (Option ℤ)). watch_at ws w) (sym h.watched) ∙ e) (ap (λ (ws : List (Option ℤ)). watch_at ws (other w)) (sym h.watched) ∙ f) (int_tells a l); alone = λ w a e f. d.alone w a (ap (λ (ws : List (Option ℤ)). watch_at ws w) (sym h.watched) ∙ e) (ap (λ (ws : List (Option ℤ)). watch_at ws (other w)) (sym h.watched) ∙ f) };
}
  where
    member : (w : ℕ) → 0 < times w u.ahead → (o : Option ℤ) → watch_at v.watched w ≡ o → watch_at v.watched w ≡ Some l
    member w lt None e = absurd (omega (arith, lt, h.others w (λ s. (let z : None ≡ Some l = sym e ∙ s in cc))))
    member w lt (Some a) e = by_lit (int_tells a l)
      where
        by_lit : (a ≡ l) ⊎ (a ≢ l) → watch_at v.watched w ≡ Some l
        by_lit (inl s) = e ∙ ap Some s
        by_lit (inr n) = absurd (omega (arith, lt, h.others w (λ s. n (let z : Some a ≡ Some l = sym e ∙ s in cc))))

    guard : (w : ℕ) (a b : ℤ) → watch_at v.watched w ≡ Some a → watch_at v.watched (other w) ≡ Some b → (a ≡ l) ⊎ (a ≢ l) → Guards t (t.given - times w u.ahead) a b
    guard w a b e f (inl s) =
        let one : times w u.ahead ≡ 1 = h.those w (e ∙ ap Some s) in
        subst (λ (k : ℕ). Guards t (t.given - k) a b) (sym one) (subst (λ (q : ℤ). Guards t (t.given - 1) q b) (sym s) (d.own w b (e ∙ ap Some s) f))
    guard w a b e f (inr n) =
        let none : times w u.ahead ≡ 0 = h.others w (λ s. n (let z : Some a ≡ Some l = sym e ∙ s in cc)) in
        let zero_off : t.given - times w u.ahead ≡ t.given = omega (arith, none) in
        subst (λ (k : ℕ). Guards t k a b) (sym zero_off) (d.rest w a b n e f)

-- the trail gives a literal
pub due_now : (cs : List Held) (v : WatchesView) (t u : TrailView) (p : ℤ) → IsSoundTrail u → u ≡ gave t → IsFollowing cs v t → t.given < length t.lits → lit_at t.lits t.given ≡ p → IsDue cs v u (neg_ℤ p)
due_now cs v t u p sound e i lt at = subst (λ (q : TrailView). IsDue cs v q (neg_ℤ p)) (sym e) (record {
  vars = i.vars;
  paired = i.paired;
  empty = i.empty;
  is_false = subst (λ (q : TrailView). value_by q.lits (neg_ℤ p) ≡ No) e (stands_no u.lits (neg_ℤ p) sound.partial (subst (λ (q : TrailView). Stands q.lits (neg_ℤ (neg_ℤ p))) (sym e) (record { place = t.given; within = lt; there = at ∙ sym (neg-neg p) })));
  alone = λ w a f g. (let s = i.guarded.alone w a f g in record { place = s.place; within = s.within; there = s.there; low = s.low });
  own = λ w b f g. (let back : t.given + 1 - 1 ≡ t.given = omega arith in subst (λ (k : ℕ). Guards (gave t) k (neg_ℤ p) b) (sym back) (guards_gave t t.given (neg_ℤ p) b (from_ahead w (neg_ℤ p) b f g)));
  rest = λ w a b n f g. guards_passed t a b (λ z. n (sym (neg-neg a) ∙ ap neg_ℤ (sym z ∙ at))) (from_ahead w a b f g);
})
  where
    from_ahead : (w : ℕ) (a b : ℤ) → watch_at v.watched w ≡ Some a → watch_at v.watched (other w) ≡ Some b → Guards t t.given a b
    from_ahead w a b f g = let z : t.given - 0 ≡ t.given = omega arith in subst (λ (k : ℕ). Guards t k a b) z (i.guarded.at w a b f g)
