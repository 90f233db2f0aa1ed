-- A refutation under the assumptions that it names, without the others.
use Rattle.std.proofs.Common.{◌≡◌, ℕ, zero, suc, ◌+◌, ◌-◌, ◌<◌, ◌≤◌, Bool, true, false, ◌&&◌, cond, List, [], ◌∷◌, ◌++◌, length, map, get_or, All, Some, refl, sym, ap, subst, ◌∙◌, arith, ℤ}
use Rattle.std.specs.Prelude.{IsTrue, slice_get, nat_le, replicate, option_map}
use Rattle.std.specs.List.{list_all, list_any}
use Rattle.std.proofs.lemmas.Bool.{and_parts, or_left, or_right, leb-true, leb-false}
use Rattle.std.proofs.lemmas.Option.{same_Some, slice_get_within, slice_get-map, slice_get-get_or}
use Rattle.std.proofs.lemmas.List.{length-map, length-replicate, get_or_append_left, get_or_push}
use Rattle.mono_problem.specs.Assuming.{assuming}
use Rattle.mono_problem.specs.Growth.{greatest_var}
use Rattle.mono_problem.specs.Instance.{Instance, numbered}
use Rattle.mono_problem.proofs.Assumed.{assuming-clauses}
use Rattle.mono_steps.specs.declared.step.Step.{Step}
use Rattle.mono_steps.specs.declared.step.Step.TheVariants as step
use Rattle.mono_steps.specs.Needed.{is_set, StepNamesHeld}
use Rattle.mono_steps.specs.Renumbering.{pick, rank, has_number, names_number, names_step, with_numbers, steps_with_numbers, MayBeCarried}
use Rattle.mono_steps.specs.Steps.{clause_of, are_justified, ends_empty, is_refutation}
use Rattle.mono_steps.specs.Trimmed.{renumbered, IsNamedLater, IsTrimRefutation}
use Rattle.mono_steps.proofs.CarriedSteps.{carried_refutes}
use Rattle.mono_steps.proofs.NeededSteps.{names_held, names_below}
use Rattle.mono_steps.proofs.Ranks.{rank_zero, set_within, length_pick, pick_get, has_mapped, renumbered_low, renumbered_high}
use Rattle.mono_steps.proofs.StepLists.{numbered_more}
use Rattle.mono_core.specs.Cores.{AreAmong, IsRefuted}
use Rattle.mono_core.specs.Dropped.{is_over, are_over, AreNamed, AreNarrowed, steps_without}

-- ---- flags, and the flags of those that are set

pick_none : {A : Type 0} (bs : List Bool) → [] ≡ pick {A = A} bs []
pick_none [] = refl
pick_none (b ∷ bs) = refl

pick_twice : (kept named new : List Bool) (xs : List ℤ) → length new ≡ length kept → ((k : ℕ) → k < length kept → is_set new k ≡ (is_set kept k && is_set named (rank kept k))) → pick new xs ≡ pick named (pick kept xs)
pick_twice [] named [] xs len each = pick_none named
pick_twice [] named (n ∷ new) xs len each = absurd (omega (arith, len))
pick_twice (b ∷ kept) named [] xs len each = absurd (omega (arith, len))
pick_twice (b ∷ kept) named (n ∷ new) [] len each = pick_none named
pick_twice (true ∷ kept) [] (n ∷ new) (x ∷ xs) len each =
    let off : n ≡ false = each 0 (omega arith) in
    ap (λ (v : Bool). cond v (x ∷ pick new xs) (pick new xs)) off ∙ pick_twice kept [] new xs (omega (arith, len)) (λ k lt. each (suc k) (omega (arith, lt)))
pick_twice (true ∷ kept) (u ∷ named) (n ∷ new) (x ∷ xs) len each =
    let same : n ≡ u = each 0 (omega arith) in
    ap (λ (v : Bool). cond v (x ∷ pick new xs) (pick new xs)) same ∙ ap (λ (ys : List ℤ). cond u (x ∷ ys) ys) (pick_twice kept named new xs (omega (arith, len)) (λ k lt. each (suc k) (omega (arith, lt))))
pick_twice (false ∷ kept) named (n ∷ new) (x ∷ xs) len each =
    let off : n ≡ false = each 0 (omega arith) in
    ap (λ (v : Bool). cond v (x ∷ pick new xs) (pick new xs)) off ∙ pick_twice kept named new xs (omega (arith, len)) (λ k lt. each (suc k) (omega (arith, lt)))

pub narrowed_pick : (kept named new : List Bool) (xs : List ℤ) → AreNarrowed kept named new → pick new xs ≡ pick named (pick kept xs)
narrowed_pick kept named new xs h = pick_twice kept named new xs h.as_many h.each

pub narrowed_among : (kept named new : List Bool) → AreNarrowed kept named new → AreAmong new kept
narrowed_among kept named new h = record {
  as_many = h.as_many;
  each = λ i on.
      let lt : i < length kept = omega (arith, set_within new i on, h.as_many) in
      (and_parts (is_set kept i) (is_set named (rank kept i)) (sym (h.each i lt) ∙ on)).0;
}

-- one flag more
pub flags_more : (xs ys : List Bool) (i : ℕ) (y : Bool) (kept named : List Bool) (unit : ℕ) → ys ≡ xs ++ y ∷ [] → length xs ≡ i → ((k : ℕ) → k < i → is_set xs k ≡ (is_set kept k && is_set named (rank kept k))) → y ≡ (is_set kept i && is_set named unit) → unit ≡ rank kept i
    → (k : ℕ) → k < i + 1 → is_set ys k ≡ (is_set kept k && is_set named (rank kept k))
flags_more xs ys i y kept named unit e len each is next k lt = ap (λ (zs : List Bool). is_set zs k) e ∙ by_place (nat_le i k) refl
  where
    by_place : (b : Bool) → nat_le i k ≡ b → is_set (xs ++ y ∷ []) k ≡ (is_set kept k && is_set named (rank kept k))
    by_place true h =
        let same : i ≡ k = omega (arith, leb-true i k h, lt) in
        get_or_push xs y false k (len ∙ same) ∙ is ∙ ap (λ (n : ℕ). is_set kept i && is_set named n) next ∙ ap (λ (j : ℕ). is_set kept j && is_set named (rank kept j)) same
    by_place false h =
        let low : k < i = leb-false i k h in
        get_or_append_left xs (y ∷ []) false k (omega (arith, low, len)) ∙ each k low

-- ---- ranks among flags and all those behind them

rank_front : (us vs : List Bool) (k : ℕ) → k ≤ length us → rank (us ++ vs) k ≡ rank us k
rank_front [] vs zero h = rank_zero vs
rank_front [] vs (suc k) h = absurd (omega (arith, h))
rank_front (u ∷ us) vs zero h = refl
rank_front (true ∷ us) vs (suc k) h = ap suc (rank_front us vs k (omega (arith, h)))
rank_front (false ∷ us) vs (suc k) h = rank_front us vs k (omega (arith, h))

rank_all : (n m : ℕ) → m ≤ n → rank (replicate n true) m ≡ m
rank_all zero zero h = refl
rank_all zero (suc m) h = absurd (omega (arith, h))
rank_all (suc n) zero h = refl
rank_all (suc n) (suc m) h = ap suc (rank_all n m (omega (arith, h)))

rank_behind : (us : List Bool) (n m k : ℕ) → k ≤ n → m ≡ length us + k → rank (us ++ replicate n true) m ≡ rank us (length us) + k
rank_behind [] n m k h e = let same : m ≡ k = omega (arith, e) in omega (arith, rank_all n m (omega (arith, h, same)), same)
rank_behind (u ∷ us) n zero k h e = absurd (omega (arith, e))
rank_behind (true ∷ us) n (suc m) k h e = omega (arith, rank_behind us n m k h (omega (arith, e)))
rank_behind (false ∷ us) n (suc m) k h e = rank_behind us n m k h (omega (arith, e))

all_set : (n k : ℕ) → k < n → is_set (replicate n true) k ≡ true
all_set zero k h = absurd (omega (arith, h))
all_set (suc n) zero h = refl
all_set (suc n) (suc k) h = all_set n k (omega (arith, h))

-- ---- numbers behind a list

get_behind : {A : Type 0} (xs ys : List A) (n k : ℕ) → n ≡ length xs + k → slice_get (xs ++ ys) n ≡ slice_get ys k
get_behind [] ys n k e = let same : n ≡ k = omega (arith, e) in ap (slice_get ys) same
get_behind (x ∷ xs) ys zero k e = absurd (omega (arith, e))
get_behind (x ∷ xs) ys (suc n) k e = get_behind xs ys n k (omega (arith, e))

numbered_behind : {A : Type 0} (xs ys : List A) (k : ℕ) → numbered (xs ++ ys) (length xs + 1 + k) ≡ slice_get ys k
numbered_behind xs ys k = let e : length xs + 1 + k ≡ suc (length xs + k) = omega arith in ap (numbered (xs ++ ys)) e ∙ get_behind xs ys (length xs + k) k refl

-- ---- what is said of all steps, and of one

all_at : (test : Step → Bool) (ss : List Step) (k : ℕ) (s : Step) → IsTrue (list_all test ss) → slice_get ss k ≡ Some s → IsTrue (test s)
all_at test [] k s h at = absurd cc
all_at test (r ∷ ss) zero s h at = subst (λ (t : Step). IsTrue (test t)) (same_Some r s at) (and_parts (test r) (list_all test ss) h).0
all_at test (r ∷ ss) (suc k) s h at = all_at test ss k s (and_parts (test r) (list_all test ss) h).1 at

any_at : (test : Step → Bool) (ss : List Step) (k : ℕ) (s : Step) → slice_get ss k ≡ Some s → IsTrue (test s) → IsTrue (list_any test ss)
any_at test [] k s at h = absurd cc
any_at test (r ∷ ss) zero s at h = or_left (test r) (list_any test ss) (subst (λ (t : Step). IsTrue (test t)) (sym (same_Some r s at)) h)
any_at test (r ∷ ss) (suc k) s at h = or_right (test r) (list_any test ss) (any_at test ss k s at h)

as_step : (s : Step) (c n k : ℕ) → n ≡ c + 1 + k → IsTrue (names_number s n) → IsTrue (names_step c s k)
as_step (step.Lemma l) c n k e h = h
as_step (step.Chain d) c n k e h = subst (λ (m : ℕ). IsTrue (has_number d.used m)) e h

-- numbers of clauses behind the first c, where there are so many more before the steps
behind_first : (c u k n : ℕ) (s : Step) → k ≤ n → StepNamesHeld (c + u) k s → StepNamesHeld c (u + n) s
behind_first c u k n (step.Lemma l) le h = tt
behind_first c u k n (step.Chain d) le h = λ i m lt. omega (arith, h i m lt, le)

pub names_behind : (p : Instance) (lits : List ℤ) (steps : List Step) → IsTrue (is_refutation (assuming p lits) steps) → All (StepNamesHeld (length p.clauses) (length lits + length steps)) steps
names_behind p lits steps r = λ k d lt.
    let q = assuming p lits in
    let held = (names_held q steps (and_parts (are_justified q steps) (ends_empty steps) r).0).at k (get_or steps k d) (slice_get-get_or steps k d lt) in
    behind_first (length p.clauses) (length lits) k (length steps) (get_or steps k d) (omega (arith, lt)) (subst (λ (n : ℕ). StepNamesHeld n k (get_or steps k d)) (assuming-clauses p lits) held)

some_steps : (p : Instance) (ss : List Step) → IsTrue (is_refutation p ss) → 0 < length ss
some_steps p [] r = let no = (and_parts (are_justified p []) (ends_empty []) r).1 in absurd cc
some_steps p (s ∷ ss) r = omega arith

-- where all steps stay, each has its place
all_stay : (f : ℕ → ℕ) (ss : List Step) → steps_with_numbers f (replicate (length ss) true) ss ≡ map (with_numbers f) ss
all_stay f [] = refl
all_stay f (s ∷ ss) = ap (λ (ts : List Step). with_numbers f s ∷ ts) (all_stay f ss)

-- ---- the refutation without the assumptions that it doesn't name

module _ (p : Instance) (lits : List ℤ) (named : List Bool) (steps : List Step) (flags : AreNamed (length p.clauses) (length lits) steps named)
    (trim : IsTrimRefutation (assuming p lits) steps) (over : IsTrue (are_over (greatest_var p.vars (pick named lits)) steps)) where
  abbrev count : ℕ
  count = length p.clauses

  abbrev unit : ℤ → List ℤ
  unit l = l ∷ []

  abbrev before : Instance
  before = assuming p lits

  abbrev after : Instance
  after = assuming p (pick named lits)

  refutes : IsTrue (is_refutation before steps)
  refutes = trim.refutes

  abbrev all : List Bool
  all = replicate (length steps) true

  abbrev number : ℕ → ℕ
  number = renumbered count (named ++ all)

  after_len : length after.clauses ≡ count + rank named (length lits)
  after_len = assuming-clauses p (pick named lits) ∙ ap (λ (n : ℕ). count + n) (length_pick named lits flags.as_many)

  -- the clause of an assumption that is named
  same_unit : (k : ℕ) → k < length lits → is_set named k ≡ true → numbered after.clauses (number (count + 1 + k)) ≡ numbered before.clauses (count + 1 + k)
  same_unit k lt on =
      let front : rank (named ++ all) k ≡ rank named k = rank_front named all k (omega (arith, lt, flags.as_many)) in
      ap (numbered after.clauses) (renumbered_high count (named ++ all) k ∙ ap (λ (n : ℕ). count + 1 + n) front)
      ∙ numbered_behind p.clauses (map unit (pick named lits)) (rank named k)
      ∙ slice_get-map unit (pick named lits) (rank named k) ∙ ap (option_map unit) (pick_get named lits k on flags.as_many) ∙ sym (slice_get-map unit lits k)
      ∙ sym (numbered_behind p.clauses (map unit lits) k)

  same_clause : (k n : ℕ) (s : Step) → slice_get steps k ≡ Some s → IsTrue (names_number s n) → n ≤ length before.clauses → numbered after.clauses (number n) ≡ numbered before.clauses n
  same_clause k n s at names low = by_case (nat_le n count) refl
    where
      by_case : (b : Bool) → nat_le n count ≡ b → numbered after.clauses (number n) ≡ numbered before.clauses n
      by_case true e =
          let le : n ≤ count = leb-true n count e in
          ap (numbered after.clauses) (renumbered_low count (named ++ all) n le) ∙ numbered_more p.clauses (map unit (pick named lits)) n le ∙ sym (numbered_more p.clauses (map unit lits) n le)
      by_case false e =
          let lt : count < n = leb-false n count e in
          let j = n - count - 1 in
          let is : n ≡ count + 1 + j = omega (arith, lt) in
          let within : j < length lits = omega (arith, lt, low, assuming-clauses p lits) in
          let on : is_set named j ≡ true = flags.each j within ∙ any_at (λ (t : Step). names_step count t j) steps k s at (as_step s count n j is names) in
          ap (λ (m : ℕ). numbered after.clauses (number m)) is ∙ same_unit j within on ∙ sym (ap (numbered before.clauses) is)

  may_be_carried : MayBeCarried before after before.clauses after.clauses all number steps
  may_be_carried = record {
    graphs = refl;
    atoms = refl;
    named = λ k s on at. record {
      vars = all_at (λ (t : Step). is_over (greatest_var p.vars (pick named lits)) (clause_of t)) steps k s over at;
      clauses = λ n names low. same_clause k n s at names low;
      steps = λ j names.
          let held = (names_held before steps (and_parts (are_justified before steps) (ends_empty steps) refutes).0).at k s at in
          all_set (length steps) j (omega (arith, names_below (length before.clauses) k j s held names, slice_get_within steps k s at));
    };
    places = λ k lt.
        let e : length before.clauses + 1 + k ≡ count + 1 + (length lits + k) = omega (arith, assuming-clauses p lits) in
        let behind : rank (named ++ all) (length lits + k) ≡ rank named (length named) + k = rank_behind named (length steps) (length lits + k) k (omega (arith, lt)) (omega (arith, flags.as_many)) in
        let same : rank named (length named) ≡ rank named (length lits) = ap (rank named) flags.as_many in
        let here : rank all k ≡ k = rank_all (length steps) k (omega (arith, lt)) in
        let sums : count + 1 + rank (named ++ all) (length lits + k) ≡ length after.clauses + 1 + rank all k = omega (arith, behind, same, here, after_len) in
        ap number e ∙ renumbered_high count (named ++ all) (length lits + k) ∙ sums;
  }

  dropped_refutes : IsTrue (is_refutation after (steps_with_numbers number all steps))
  dropped_refutes = carried_refutes before after all number steps may_be_carried (length-replicate (length steps) true) (all_set (length steps) (length steps - 1) (omega (arith, some_steps before steps refutes))) refutes

  -- what names a step names it by its new number
  names_new : (s : Step) (k : ℕ) → k < length steps → IsTrue (names_step (length before.clauses) s k) → IsTrue (names_step (length after.clauses) (with_numbers number s) k)
  names_new (step.Lemma l) k lt h = h
  names_new (step.Chain d) k lt h =
      let place : number (length before.clauses + 1 + k) ≡ length after.clauses + 1 + k = may_be_carried.places k lt ∙ ap (λ (n : ℕ). length after.clauses + 1 + n) (rank_all (length steps) k (omega (arith, lt))) in
      subst (λ (n : ℕ). IsTrue (has_number (map number d.used) n)) place (has_mapped number d.used (length before.clauses + 1 + k) h)

  still_named : (k : ℕ) → IsNamedLater (length before.clauses) steps k → IsNamedLater (length after.clauses) (map (with_numbers number) steps) k
  still_named k h = record {
    later = h.later;
    after = h.after;
    step = with_numbers number h.step;
    is = slice_get-map (with_numbers number) steps h.later ∙ ap (option_map (with_numbers number)) h.is;
    names = names_new h.step k (omega (arith, h.after, slice_get_within steps h.later h.step h.is)) h.names;
  }

  pub dropped_trim : IsTrimRefutation after (steps_with_numbers number all steps)
  dropped_trim = record {
    refutes = dropped_refutes;
    named = λ k lt.
        let stay = all_stay number steps in
        let within : k + 1 < length steps = omega (arith, lt, ap (λ (ss : List Step). length ss) stay, length-map steps (with_numbers number)) in
        subst (λ (ss : List Step). IsNamedLater (length after.clauses) ss k) (sym stay) (still_named k (trim.named k within));
    short = omega (arith, trim.short, ap (λ (ss : List Step). length ss) (all_stay number steps), length-map steps (with_numbers number));
  }

-- ---- some of the assumptions, without those that the refutation doesn't name

pub shrunk_refuted : (p : Instance) (assumed : List ℤ) (kept named new : List Bool) (steps fewer : List Step) → IsRefuted p assumed kept steps → AreNamed (length p.clauses) (length (pick kept assumed)) steps named → AreNarrowed kept named new → IsTrue (are_over (greatest_var p.vars (pick new assumed)) steps)
    → fewer ≡ steps_without (length p.clauses) named steps → IsRefuted p assumed new fewer
shrunk_refuted p assumed kept named new steps fewer r flags narrow over is =
    let same : pick new assumed ≡ pick named (pick kept assumed) = narrowed_pick kept named new assumed narrow in
    let here : IsTrue (are_over (greatest_var p.vars (pick named (pick kept assumed))) steps) = subst (λ (ls : List ℤ). IsTrue (are_over (greatest_var p.vars ls) steps)) same over in
    let there = dropped_trim p (pick kept assumed) named steps flags r.refutes here in
    record {
      as_many = narrow.as_many ∙ r.as_many;
      refutes = subst (λ (ls : List ℤ). IsTrimRefutation (assuming p ls) fewer) (sym same) (subst (λ (ss : List Step). IsTrimRefutation (assuming p (pick named (pick kept assumed))) ss) (sym is) there);
    }
