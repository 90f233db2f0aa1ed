-- What is kept on a side stays right.
use Rattle.std.proofs.Common.{◌≡◌, ◌≢◌, ℕ, zero, suc, ◌<◌, ◌≤◌, ◌⊎◌, Bool, true, false, not, List, [], ◌∷◌, length, take, set, refl, sym, ap, subst, ◌∙◌, inl, inr, arith, ℤ, All}
use Rattle.std.specs.Prelude.{Option, Some, None, IfNone, IfSome, MatchOption, replicate}
use Rattle.std.proofs.lemmas.Bool.{cases_eq, cases_lt, lt-ltb, le-ltb}
use Rattle.std.proofs.lemmas.List.{get_or-map, get_or-set_same, get_or-set_other, get_or_default, length-map, length-set, length-take-le, length-replicate, get_or-replicate}
use Rattle.mono_problem.specs.declared.atom.Atom.{Atom}
use Rattle.mono_theory.specs.declared.evidence.Evidence.{Evidence}
use Rattle.mono_theory.specs.declared.stage.Stage.{Stage}
use Rattle.mono_theory.specs.declared.stage.Stage.TheVariants as stage
use Rattle.mono_theory.specs.declared.watch.Watch.{Watch}
use Rattle.mono_steps.specs.declared.lemma.Witness.{Witness}
use Rattle.mono_theory.specs.Sound.{AreSound, IsRightIn, IsSound, IsWitnessIn, atom_at, evidence_at}
use Rattle.mono_theory.specs.Stages.{IsUpTo, shows, stage_at, undone}
use Rattle.mono_theory.specs.Supports.{IsNext, IsSettled, IsShown, IsSide, SideView, StageIs, gone_back, part_of}
use Rattle.mono_theory.specs.Theories.{Facts, cut_to}
use Rattle.mono_theory.specs.Watching.{AreBelow, AllWatch, AreWatched, WatchesIts}
use Rattle.mono_theory.proofs.PartsOfSides.{fewer, more, part_len}
use Rattle.mono_theory.proofs.KeptEvidenceDecides.{right_by, sound_put, sound_witness_of}

-- ---- the stage of one atom

-- one atom's stage changes, and what it says is so
pub side_set : {f : Facts} {b : Bool} {s : SideView} (a : ℕ) (x : Stage) → a < length f.atoms → StageIs f b s a x → IsSide f b s → IsSide f b (record { possible = s.possible; supports = s.supports; shown = s.shown; watchers = s.watchers; stages = set s.stages a x; thorough = s.thorough })
side_set {f = f} {b = b} {s = s} a x lt is h = record {
  sign = h.sign;
  supports = h.supports;
  shown = h.shown;
  watchers_len = h.watchers_len;
  stages_len = length-set s.stages a x ∙ h.stages_len;
  known = h.known;
  watched = h.watched;
  right = λ y below. elim (cases_eq y a) [
    | inl e ↦ subst (λ (z : ℕ). StageIs f b s z (stage_at (set s.stages a x) z)) (sym e) (subst (StageIs f b s a) (sym (get_or-set_same s.stages a x stage.Waits (omega (arith, lt, h.stages_len)))) is)
    | inr ne ↦ subst (StageIs f b s y) (sym (get_or-set_other s.stages a y x stage.Waits ne)) (h.right y below)
  ];
}

-- no atom shows by more literals than were seen
stage_up_to : (f : Facts) (b : Bool) (s : SideView) (a : ℕ) (x : Stage) → StageIs f b s a x → IsUpTo (length f.seen) x
stage_up_to f b s a stage.Waits h = tt
stage_up_to f b s a stage.Stands h = tt
stage_up_to f b s a (stage.Shows m) h = h.within

pub side_up_to : {f : Facts} {b : Bool} {s : SideView} → IsSide f b s → All (IsUpTo (length f.seen)) s.stages
side_up_to {f = f} {b = b} {s = s} h = λ i d lt. subst (IsUpTo (length f.seen)) (get_or_default s.stages i stage.Waits d lt) (stage_up_to f b s i (stage_at s.stages i) (h.right i (omega (arith, lt, h.stages_len))))

-- ---- evidence of an atom that waits

pub side_support : {f : Facts} {b : Bool} {s : SideView} (a : ℕ) (e : Evidence) → IsNext s a → IsSound f.graph (atom_at f.atoms a).predicate b e → AreWatched s.watchers a e.edges → IsSide f b s
    → IsSide f b (record { possible = s.possible; supports = set s.supports a (Some e); shown = s.shown; watchers = s.watchers; stages = s.stages; thorough = s.thorough })
side_support {f = f} {b = b} {s = s} a e n sound watched h =
    let after : SideView = record { possible = s.possible; supports = set s.supports a (Some e); shown = s.shown; watchers = s.watchers; stages = s.stages; thorough = s.thorough } in
    record {
      sign = h.sign;
      supports = sound_put a e (omega (arith, n.known, h.stages_len)) sound h.supports;
      shown = h.shown;
      watchers_len = h.watchers_len;
      stages_len = h.stages_len;
      known = h.known;
      watched = record {
        each = λ x below. elim (cases_eq x a) [
          | inl same ↦ subst (λ (y : ℕ). WatchesIts s.watchers y (evidence_at (set s.supports a (Some e)) y)) (sym same)
              (subst (WatchesIts s.watchers a) (sym (get_or-set_same s.supports a (Some e) None (omega (arith, n.known, h.stages_len, h.supports.len)))) watched)
          | inr ne ↦ subst (WatchesIts s.watchers x) (sym (get_or-set_other s.supports a x (Some e) None ne)) (h.watched.each x below)
        ];
      };
      right = λ x below. elim (cases_eq x a) [
        | inl same ↦ subst (λ (y : ℕ). StageIs f b after y (stage_at s.stages y)) (sym same) (subst (StageIs f b after a) (sym n.waits) tt)
        | inr ne ↦ other x ne (stage_at s.stages x) (h.right x below)
      ];
    }
  where
    other : (x : ℕ) → x ≢ a → (y : Stage) → StageIs f b s x y → StageIs f b (record { possible = s.possible; supports = set s.supports a (Some e); shown = s.shown; watchers = s.watchers; stages = s.stages; thorough = s.thorough }) x y
    other x ne stage.Waits is = tt
    other x ne stage.Stands is = subst (IsRightIn (part_of f.graph f.seen b) b) (sym (get_or-set_other s.supports a x (Some e) None ne)) is
    other x ne (stage.Shows m) is = is

pub side_shown : {f : Facts} {b : Bool} {s : SideView} (a : ℕ) (e : Evidence) → IsNext s a → IsSound f.graph (atom_at f.atoms a).predicate (not b) e → IsSide f b s
    → IsSide f b (record { possible = s.possible; supports = s.supports; shown = set s.shown a (Some e); watchers = s.watchers; stages = s.stages; thorough = s.thorough })
side_shown {f = f} {b = b} {s = s} a e n sound h =
    let after : SideView = record { possible = s.possible; supports = s.supports; shown = set s.shown a (Some e); watchers = s.watchers; stages = s.stages; thorough = s.thorough } in
    record {
      sign = h.sign;
      supports = h.supports;
      shown = sound_put a e (omega (arith, n.known, h.stages_len)) sound h.shown;
      watchers_len = h.watchers_len;
      stages_len = h.stages_len;
      known = h.known;
      watched = h.watched;
      right = λ x below. elim (cases_eq x a) [
        | inl same ↦ subst (λ (y : ℕ). StageIs f b after y (stage_at s.stages y)) (sym same) (subst (StageIs f b after a) (sym n.waits) tt)
        | inr ne ↦ other x ne (stage_at s.stages x) (h.right x below)
      ];
    }
  where
    other : (x : ℕ) → x ≢ a → (y : Stage) → StageIs f b s x y → StageIs f b (record { possible = s.possible; supports = s.supports; shown = set s.shown a (Some e); watchers = s.watchers; stages = s.stages; thorough = s.thorough }) x y
    other x ne stage.Waits is = tt
    other x ne stage.Stands is = is
    other x ne (stage.Shows m) is = subst (λ (o : Option Evidence). IsShown f b s.thorough o (atom_at f.atoms x) m) (sym (get_or-set_other s.shown a x (Some e) None ne)) is

-- ---- other watchers

same_stage : (f : Facts) (b : Bool) (s : SideView) (watchers : List (List Watch)) (x : ℕ) (y : Stage) → StageIs f b s x y → StageIs f b (record { possible = s.possible; supports = s.supports; shown = s.shown; watchers = watchers; stages = s.stages; thorough = s.thorough }) x y
same_stage f b s watchers x stage.Waits is = tt
same_stage f b s watchers x stage.Stands is = is
same_stage f b s watchers x (stage.Shows m) is = is

pub side_watched : {f : Facts} {b : Bool} {s : SideView} (watchers : List (List Watch)) → length watchers ≡ length f.graph.edges → AreBelow (length f.atoms) watchers → AllWatch watchers s.supports (length f.atoms) → IsSide f b s
    → IsSide f b (record { possible = s.possible; supports = s.supports; shown = s.shown; watchers = watchers; stages = s.stages; thorough = s.thorough })
side_watched {f = f} {b = b} {s = s} watchers len low all h = record {
  sign = h.sign;
  supports = h.supports;
  shown = h.shown;
  watchers_len = len;
  stages_len = h.stages_len;
  known = low;
  watched = all;
  right = λ x below. same_stage f b s watchers x (stage_at s.stages x) (h.right x below);
}

-- ---- going back

take-take : {X : Type 0} (n m : ℕ) (t : List X) → n ≤ m → take n (take m t) ≡ take n t
take-take zero m t le = refl
take-take (suc n) zero t le = absurd (omega arith)
take-take (suc n) (suc m) [] le = refl
take-take (suc n) (suc m) (x ∷ t) le = ap (λ u. x ∷ u) (take-take n m t (omega arith))

-- an atom that is shown by literals that stay
shown_back : {f : Facts} {b thorough : Bool} {o : Option Evidence} {x : Atom} {m : ℕ} (kept : ℕ) → kept ≤ length f.seen → m ≤ kept → IsShown f b thorough o x m → IsShown (cut_to kept f) b thorough o x m
shown_back {f = f} {b = b} {o = o} {x = x} {m = m} kept fits low h =
    let same : take m f.seen ≡ take m (take kept f.seen) = sym (take-take m kept f.seen low) in
    record {
      within = omega (arith, low, length-take-le kept f.seen fits);
      settled = subst (λ (u : List ℤ). IsSettled u b x) same h.settled;
      right = λ t. subst (λ (u : List ℤ). IsRightIn (part_of f.graph u b) (not b) o) same (h.right t);
    }

pub side_cut : {f : Facts} {b : Bool} {s : SideView} (kept : ℕ) → kept ≤ length f.seen → IsSide f b s → IsSide (cut_to kept f) b (gone_back kept s)
side_cut {f = f} {b = b} {s = s} kept fits h = record {
  sign = h.sign;
  supports = record { len = h.supports.len; each = h.supports.each };
  shown = record { len = h.shown.len; each = h.shown.each };
  watchers_len = h.watchers_len;
  stages_len = length-map s.stages (undone kept) ∙ h.stages_len;
  known = h.known;
  watched = record { each = h.watched.each };
  right = λ a lt. subst (StageIs (cut_to kept f) b (gone_back kept s) a) (sym (get_or-map (undone kept) s.stages a stage.Waits stage.Waits (omega (arith, lt, h.stages_len)))) (back a lt (stage_at s.stages a) (h.right a lt));
}
  where
    later : (a m : ℕ) → StageIs f b s a (stage.Shows m) → (kept < m) ⊎ (m ≤ kept) → StageIs (cut_to kept f) b (gone_back kept s) a (undone kept (stage.Shows m))
    later a m is (inl high) = rw (lt-ltb kept m high) tt
    later a m is (inr low) = rw (le-ltb kept m low) (shown_back kept fits low is)

    back : (a : ℕ) → a < length f.atoms → (x : Stage) → StageIs f b s a x → StageIs (cut_to kept f) b (gone_back kept s) a (undone kept x)
    back a lt stage.Waits is = tt
    back a lt stage.Stands is = right_by f.graph (atom_at f.atoms a).predicate b (part_of f.graph f.seen b) (part_of f.graph (take kept f.seen) b) (evidence_at s.supports a) (h.supports.each a lt) is (λ k below mine on. fewer f.graph f.seen kept k b below on)
    back a lt (stage.Shows m) is = later a m is (cases_lt kept m)

-- ---- nothing is kept

pub side_new : (f : Facts) (b : Bool) (n : ℕ) (s : SideView) → s.possible ≡ b → length f.atoms ≡ n → AreSound f.graph f.atoms b s.supports → AreSound f.graph f.atoms (not b) s.shown → length s.watchers ≡ length f.graph.edges → AreBelow n s.watchers → AllWatch s.watchers s.supports n
    → s.stages ≡ replicate n stage.Waits → IsSide f b s
side_new f b n s sign len supports shown watchers low all stages = record {
  sign = sign;
  supports = supports;
  shown = shown;
  watchers_len = watchers;
  stages_len = ap length stages ∙ length-replicate n stage.Waits ∙ sym len;
  known = subst (λ (k : ℕ). AreBelow k s.watchers) (sym len) low;
  watched = subst (λ (k : ℕ). AllWatch s.watchers s.supports k) (sym len) all;
  right = λ a lt. subst (StageIs f b s a) (sym (ap (λ (xs : List Stage). stage_at xs a) stages ∙ get_or-replicate n a stage.Waits stage.Waits (omega (arith, lt, len)))) tt;
}

-- ---- what is shown is right at present

pub shown_now : {f : Facts} {b thorough : Bool} {o : Option Evidence} {x : Atom} {m : ℕ} → IsShown f b thorough o x m → thorough ≡ true → IfSome o (IsSound f.graph x.predicate (not b)) → IsRightIn (part_of f.graph f.seen b) (not b) o
shown_now {f = f} {b = b} {o = o} {x = x} {m = m} h t sound =
    right_by f.graph x.predicate (not b) (part_of f.graph (take m f.seen) b) (part_of f.graph f.seen b) o sound (h.right t) (λ k below mine on. more f.graph f.seen m k b below on)

-- ---- what is read of it

pub support_is_witness : {W : Type 0} (r : Option W) (value : W → Witness) (s : SideView) (a : ℕ) (o : Option Evidence) → a < length s.stages → stage_at s.stages a ≡ stage.Stands → o ≡ evidence_at s.supports a → IfSome r (λ w. MatchOption o ⊥ (λ e. value w ≡ e.witness))
    → IfSome r (λ w. (f : Facts) (b : Bool) → IsSide f b s → IsWitnessIn f.graph (part_of f.graph f.seen b) (atom_at f.atoms a).predicate b (value w))
support_is_witness None value s a o lt is at read = read
support_is_witness (Some w) value s a o lt is at read = λ f b h. (
    let held : a < length f.atoms = omega (arith, lt, h.stages_len) in
    let right : StageIs f b s a stage.Stands = subst (StageIs f b s a) is (h.right a held) in
    sound_witness_of f.graph (part_of f.graph f.seen b) (atom_at f.atoms a).predicate b (evidence_at s.supports a) (value w) (part_len f.graph f.seen b) (h.supports.each a held) right (subst (λ (x : Option Evidence). MatchOption x ⊥ (λ e. value w ≡ e.witness)) at read))

pub shown_is_witness : {W : Type 0} (r : Option W) (value : W → Witness) (s : SideView) (a m : ℕ) (o : Option Evidence) → a < length s.stages → s.thorough ≡ true → stage_at s.stages a ≡ stage.Shows m → o ≡ evidence_at s.shown a → IfSome r (λ w. MatchOption o ⊥ (λ e. value w ≡ e.witness))
    → IfSome r (λ w. (f : Facts) (b : Bool) → IsSide f b s → IsWitnessIn f.graph (part_of f.graph f.seen b) (atom_at f.atoms a).predicate (not b) (value w))
shown_is_witness None value s a m o lt thorough is at read = read
shown_is_witness (Some w) value s a m o lt thorough is at read = λ f b h. (
    let held : a < length f.atoms = omega (arith, lt, h.stages_len) in
    let sound = h.shown.each a held in
    let shown : StageIs f b s a (stage.Shows m) = subst (StageIs f b s a) is (h.right a held) in
    let right : IsRightIn (part_of f.graph f.seen b) (not b) (evidence_at s.shown a) = shown_now {x = atom_at f.atoms a} shown thorough sound in
    sound_witness_of f.graph (part_of f.graph f.seen b) (atom_at f.atoms a).predicate (not b) (evidence_at s.shown a) (value w) (part_len f.graph f.seen b) sound right (subst (λ (x : Option Evidence). MatchOption x ⊥ (λ e. value w ≡ e.witness)) at read))

-- an atom that stands has a support, and one that shows has what it shows, if predicates of settled atoms are decided
pub support_is_there : {W : Type 0} (r : Option W) (s : SideView) (a : ℕ) (o : Option Evidence) → a < length s.stages → stage_at s.stages a ≡ stage.Stands → o ≡ evidence_at s.supports a → IfNone r (o ≡ None)
    → (f : Facts) (b : Bool) → IsSide f b s → IfNone r (stage_at s.stages a ≢ stage.Stands)
support_is_there None s a o lt is at none f b h =
    let right : StageIs f b s a stage.Stands = subst (StageIs f b s a) is (h.right a (omega (arith, lt, h.stages_len))) in
    absurd (subst (IsRightIn (part_of f.graph f.seen b) b) (sym at ∙ none) right)
support_is_there (Some w) s a o lt is at none f b h = tt

pub shown_is_there : {W : Type 0} (r : Option W) (s : SideView) (a m : ℕ) (o : Option Evidence) → a < length s.stages → stage_at s.stages a ≡ stage.Shows m → o ≡ evidence_at s.shown a → IfNone r (o ≡ None)
    → (f : Facts) (b : Bool) → IsSide f b s → s.thorough ≡ true → IfNone r (shows (stage_at s.stages a) ≡ false)
shown_is_there None s a m o lt is at none f b h thorough =
    let shown : StageIs f b s a (stage.Shows m) = subst (StageIs f b s a) is (h.right a (omega (arith, lt, h.stages_len))) in
    absurd (subst (IsRightIn (part_of f.graph (take m f.seen) b) (not b)) (sym at ∙ none) (shown.right thorough))
shown_is_there (Some w) s a m o lt is at none f b h thorough = tt
