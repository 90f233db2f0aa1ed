-- What the fields of a trail keep, through a literal more, literals dropped and a reason settled.
use Rattle.std.proofs.Common.{◌≡◌, ℕ, ◌<◌, ◌≤◌, List, [], ◌∷◌, ◌++◌, length, take, drop, get_or, set, refl, sym, ◌∙◌, ap, subst, arith, length-append}
use Rattle.std.specs.Prelude.{ℤ, neg_ℤ, IsTrue, All}
use Rattle.std.proofs.lemmas.Bool.{le-leb}
use Rattle.std.proofs.lemmas.List.{length-set, length-take, get_or_read}
use Rattle.std.proofs.lemmas.List.Elements.{All-push, All-take}
use Rattle.mono_base.specs.Literal.{IsLitWithin, slot, var_of}
use Rattle.mono_base.specs.Partial.{is_partial, is_open_in}
use Rattle.mono_base.specs.declared.value.Value.{Value}
use Rattle.mono_base.specs.declared.value.Value.TheVariants.{Yes, No}
use Rattle.mono_base.proofs.Partials.{open_is_new, is_partial-push, is_partial-take, few_literals}
use Rattle.mono_trail.specs.declared.reason.Mark.{Mark}
use Rattle.mono_trail.specs.declared.reason.Reason.{Reason}
use Rattle.mono_trail.specs.declared.reason.Reason.TheVariants.{Clause, Late}
use Rattle.mono_trail.specs.Kept.{HoldTrail, starts_after, unvalued}
use Rattle.mono_trail.specs.Moves.{joined, lowered, settled, settled_at, HasLate}
use Rattle.mono_trail.specs.Places.{no_mark, level_at, reason_at}
use Rattle.mono_trail.specs.TrailView.{TrailView, IsSoundTrail, count_to, next_level}
use Rattle.mono_trail.proofs.Levels.{climbs_push, climbs_back, climbs_settle, climbs_bound, count_within, starts_join, starts_back, starts_settle}
use Rattle.mono_trail.proofs.Places.{places_join, places_back, place_read, mark_within, mark_read}
use Rattle.mono_trail.proofs.Values.{values_join, values_back}

-- ---- a literal joins

sound_join : (t : TrailView) (l : ℤ) (why : Reason) → IsSoundTrail t → IsLitWithin t.vars l → IsTrue (is_open_in t.lits l) → IsSoundTrail (joined t l why)
sound_join t l why s r o =
    let partial : IsTrue (is_partial (t.lits ++ l ∷ [])) = is_partial-push t.lits l s.partial (le-leb 1 (var_of l) r.0) (open_is_new t.lits l o) in
    let within : All (IsLitWithin t.vars) (t.lits ++ l ∷ []) = All-push (IsLitWithin t.vars) t.lits l s.within r in
    record {
      partial = partial;
      within = within;
      as_many = omega (arith, s.as_many, length-append t.lits (l ∷ []), length-append t.marks (record { level = next_level why t.level; reason = why } ∷ []));
      climbs = climbs_push 0 t.marks t.level (record { level = next_level why t.level; reason = why }) s.climbs refl;
      few = s.few;
      few_lits = few_literals t.vars (t.lits ++ l ∷ []) partial within;
      given_in = omega (arith, s.given_in, length-append t.lits (l ∷ []));
    }

-- there is room for it
pub record HasRoom (t : TrailView) : Type 0 where
  pub lits : length t.lits < t.vars
  pub level : t.level ≤ length t.lits

pub has_room : (t : TrailView) (l : ℤ) → IsSoundTrail t → IsLitWithin t.vars l → IsTrue (is_open_in t.lits l) → HasRoom t
has_room t l s r o =
    let longer = sound_join t l (Clause 0) s r o in
    record {
      lits = omega (arith, longer.few_lits, length-append t.lits (l ∷ []));
      level = omega (arith, climbs_bound 0 t.marks t.level s.climbs, s.as_many);
    }

pub kept_join : (t u : TrailView) (values values' : List Value) (places places' starts starts' : List ℕ) (a b c a' b' c' : ℕ) (l : ℤ) (why : Reason) → HoldTrail t values places starts a b c → IsLitWithin t.vars l → IsTrue (is_open_in t.lits l)
    → u ≡ joined t l why → values' ≡ set (set values (slot l) Yes) (slot (neg_ℤ l)) No → places' ≡ set places (var_of l) (length t.lits) → starts' ≡ starts_after why starts (length t.lits)
    → a ≤ a' → b ≤ b' → c ≤ c' → HoldTrail u values' places' starts' a' b' c'
kept_join t u values values' places places' starts starts' a b c a' b' c' l why k r o eu ev ep es la lb lc =
    rw (eu, ev, ep, es) (record {
      sound = sound_join t l why k.sound r o;
      values_are = values_join t.vars t.lits values l k.values_are k.sound.partial r o;
      places_are = places_join t.vars t.lits places l k.places_are r.1 (open_is_new t.lits l o);
      starts_are = starts_join starts t.marks t.level (length t.lits) (record { level = next_level why t.level; reason = why }) k.starts_are k.sound.climbs refl (sym k.sound.as_many);
      lits_fit = omega (arith, k.lits_fit, la);
      marks_fit = omega (arith, k.marks_fit, lb);
      starts_fit = omega (arith, k.starts_fit, lc);
    })

-- ---- literals are dropped

sound_back : (t : TrailView) (level : ℕ) → IsSoundTrail t → level ≤ t.level → IsSoundTrail (lowered level t)
sound_back t level s le =
    let n = count_to level t.marks in
    record {
      partial = is_partial-take n t.lits s.partial;
      within = All-take (IsLitWithin t.vars) n t.lits s.within;
      as_many = omega (arith, s.as_many, length-take n t.lits, length-take n t.marks);
      climbs = climbs_back 0 t.marks t.level level s.climbs (omega arith) le;
      few = s.few;
      few_lits = omega (arith, s.few_lits, length-take n t.lits);
      given_in = omega (arith, s.given_in, length-take n t.lits, s.as_many, count_within level t.marks);
    }

pub kept_back : (t u : TrailView) (values values' : List Value) (places starts starts' : List ℕ) (a b c a' b' c' level : ℕ) → HoldTrail t values places starts a b c → level ≤ t.level
    → u ≡ lowered level t → values' ≡ unvalued (drop (count_to level t.marks) t.lits) values → starts' ≡ take level starts
    → a ≤ a' → b ≤ b' → c ≤ c' → HoldTrail u values' places starts' a' b' c'
kept_back t u values values' places starts starts' a b c a' b' c' level k le eu ev es la lb lc =
    rw (eu, ev, es) (record {
      sound = sound_back t level k.sound le;
      values_are = values_back t.vars t.lits values (count_to level t.marks) k.values_are k.sound.partial;
      places_are = places_back t.vars t.lits places (count_to level t.marks) k.places_are;
      starts_are = starts_back starts t.marks t.level level k.starts_are le;
      lits_fit = omega (arith, k.lits_fit, la);
      marks_fit = omega (arith, k.marks_fit, lb);
      starts_fit = omega (arith, k.starts_fit, lc);
    })

-- ---- a reason is settled

pub sound_settle : (t : TrailView) (k a q n : ℕ) → IsSoundTrail t → reason_at t.marks k ≡ Late a q → IsSoundTrail (settled_at t k n)
sound_settle t k a q n s e = record {
  partial = s.partial;
  within = s.within;
  as_many = length-set t.marks k (record { level = level_at t.marks k; reason = Clause n }) ∙ s.as_many;
  climbs = climbs_settle 0 t.marks t.level k a q n s.climbs e;
  few = s.few;
  few_lits = s.few_lits;
  given_in = s.given_in;
}

-- where the table says that the variable stands, there its late reason is
pub late_at : {t : TrailView} {values : List Value} {places starts : List ℕ} {a b c : ℕ} (v k : ℕ) → HoldTrail t values places starts a b c → v ≤ t.vars → (late : HasLate t v) → k ≡ get_or places v k → k ≡ late.place
late_at {t} {values} {places} v k kept high late e = get_or_read places v k (omega (arith, high, kept.places_are.slots)) e 0 ∙ place_read t.vars t.lits places v late.place kept.places_are late.is

pub late_within : {t : TrailView} {values : List Value} {places starts : List ℕ} {a b c : ℕ} (v k : ℕ) → HoldTrail t values places starts a b c → v ≤ t.vars → HasLate t v → k ≡ get_or places v k → k < length t.marks
late_within v k kept high late e = omega (arith, late_at v k kept high late e, mark_within v late.place kept.sound late.is)

pub settles : {t : TrailView} {values : List Value} {places starts : List ℕ} {a b c : ℕ} (v k n : ℕ) (m : Mark) → HoldTrail t values places starts a b c → v ≤ t.vars → HasLate t v → k ≡ get_or places v k → m ≡ get_or t.marks k m
    → record t { marks = set t.marks k (record { level = m.level; reason = Clause n }) } ≡ settled t v n
settles {t} v k n m kept high late e f =
    let at = late_at v k kept high late e in
    let mark : m ≡ get_or t.marks late.place no_mark = mark_read v late.place m kept.sound late.is (subst (λ (j : ℕ). m ≡ get_or t.marks j m) at f) in
    rw late.is (subst (λ (j : ℕ). record t { marks = set t.marks j (record { level = m.level; reason = Clause n }) } ≡ settled_at t late.place n) (sym at)
    (ap (λ (l : ℕ). record t { marks = set t.marks late.place (record { level = l; reason = Clause n }) }) (ap (λ (q : Mark). q.level) mark)))

pub kept_settle : {t : TrailView} {values : List Value} {places starts : List ℕ} {a b c : ℕ} (v n : ℕ) → HoldTrail t values places starts a b c → HasLate t v → HoldTrail (settled t v n) values places starts a b c
kept_settle {t} v n kept late =
    rw late.is (record {
      sound = sound_settle t late.place late.atom late.kept n kept.sound late.late;
      values_are = kept.values_are;
      places_are = kept.places_are;
      starts_are = starts_settle _ t.marks t.level late.place (Clause n) kept.starts_are;
      lits_fit = kept.lits_fit;
      marks_fit = kept.marks_fit;
      starts_fit = kept.starts_fit;
    })
