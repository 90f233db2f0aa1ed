-- The needed steps of a refutation, renumbered, are a refutation.
use Rattle.std.proofs.Common.{◌≡◌, ℕ, ◌+◌, ◌-◌, ◌<◌, ◌^◌, Bool, List, length, map, refl, sym, ap, subst, ◌∙◌, arith}
use Rattle.std.specs.Prelude.{IsTrue, option_map}
use Rattle.std.proofs.lemmas.Bool.{and_parts}
use Rattle.std.proofs.lemmas.Option.{slice_get-map}
use Rattle.std.proofs.lemmas.List.{length-map}
use Rattle.mono_problem.specs.Instance.{Instance, numbered}
use Rattle.mono_steps.specs.declared.step.Step.{Step}
use Rattle.mono_steps.specs.declared.step.Step.TheVariants as step
use Rattle.mono_steps.specs.Needed.{IsNeeded, AreNumbers}
use Rattle.mono_steps.specs.Renumbering.{pick, rank, has_number, names_step, IsTable, MayBeCarried}
use Rattle.mono_steps.specs.Steps.{are_justified, ends_empty, is_refutation}
use Rattle.mono_steps.specs.Trimmed.{renumbered, renumber_step, trimmed_steps, IsNamedLater, IsTrimRefutation, IsTrimmed}
use Rattle.mono_steps.proofs.CarriedSteps.{carried_refutes}
use Rattle.mono_steps.proofs.StepVars.{vars_after}
use Rattle.mono_steps.proofs.Ranks.{rank_step, rank_less, length_pick, pick_get, picked, has_mapped, renumbered_low, renumbered_high}

-- ---- the table of new numbers

pub is_table : (c : ℕ) (needed : List Bool) (numbers : List ℕ) → AreNumbers c needed numbers → IsTable c numbers (renumbered c needed)
is_table c needed numbers h = record {
  low = λ n low. renumbered_low c needed n low;
  high = λ n lt within.
      let k = n - c - 1 in
      let at : n ≡ c + 1 + k = omega (arith, lt) in
      h.at k (omega (arith, lt, within)) ∙ sym (ap (renumbered c needed) at ∙ renumbered_high c needed k);
}

-- ---- the needed steps

names_renumbered : (c : ℕ) (needed : List Bool) (s : Step) (k : ℕ) → IsTrue (names_step c s k) → IsTrue (names_step c (renumber_step c needed s) (rank needed k))
names_renumbered c needed (step.Lemma l) k h = absurd cc
names_renumbered c needed (step.Chain d) k h = subst (λ (n : ℕ). IsTrue (has_number (map (renumbered c needed) d.used) n)) (renumbered_high c needed k) (has_mapped (renumbered c needed) d.used (c + 1 + k) h)

named_trimmed : (c : ℕ) (needed : List Bool) (ss : List Step) → IsNeeded c ss 0 needed → (j : ℕ) → j + 1 < length (trimmed_steps c needed ss) → IsNamedLater c (trimmed_steps c needed ss) j
named_trimmed c needed ss h j lt =
    let g = renumber_step c needed in
    let same : length (map g ss) ≡ length ss = length-map ss g in
    let k = picked needed (map g ss) j (omega arith) in
    let whole : length (pick needed (map g ss)) ≡ rank needed (length (map g ss)) = length_pick needed (map g ss) (h.as_many ∙ sym same) in
    let before : k.place + 1 < length ss = not_last k.place (length ss) (omega (arith, k.within, same)) (λ e. omega (arith, lt, whole, ap (rank needed) (same ∙ sym e), rank_step needed k.place k.set, k.rank_is)) in
    let w = h.wanted k.place k.set before in
    record {
      later = rank needed w.later;
      after = omega (arith, rank_less needed k.place w.later w.after k.set, k.rank_is);
      step = g w.step;
      is = pick_get needed (map g ss) w.later w.set (h.as_many ∙ sym same) ∙ slice_get-map g ss w.later ∙ ap (option_map g) w.is;
      names = subst (λ (n : ℕ). IsTrue (names_step c (g w.step) n)) k.rank_is (names_renumbered c needed w.step k.place w.names);
    }
  where
    not_last : (k n : ℕ) → k < n → (k + 1 ≡ n → ⊥) → k + 1 < n
    not_last k n lt d = omega (arith, lt, d)

-- the needed steps may be carried to where the others were dropped
needed_carried : (p : Instance) (needed : List Bool) (old : List Step) → IsTrue (are_justified p old) → IsNeeded (length p.clauses) old 0 needed → MayBeCarried p p p.clauses p.clauses needed (renumbered (length p.clauses) needed) old
needed_carried p needed old justified h = record {
  graphs = refl;
  atoms = refl;
  named = λ k s on at. record {
    vars = vars_after p p.clauses old k s justified at;
    clauses = λ n names low. ap (numbered p.clauses) (renumbered_low (length p.clauses) needed n low);
    steps = λ j names. h.closed k j s (omega arith) on at names;
  };
  places = λ k lt. renumbered_high (length p.clauses) needed k;
}

-- the needed steps are a trimmed refutation
pub trimmed_is : (p : Instance) (needed : List Bool) (old new : List Step) → IsTrue (is_refutation p old) → IsNeeded (length p.clauses) old 0 needed → new ≡ trimmed_steps (length p.clauses) needed old → length new < 2 ^ 63 → IsTrimmed p old new
trimmed_is p needed old new r h e short =
    let c = length p.clauses in
    let a = and_parts (are_justified p old) (ends_empty old) r in
    let refutes : IsTrue (is_refutation p (trimmed_steps c needed old)) = carried_refutes p p needed (renumbered c needed) old (needed_carried p needed old a.0 h) h.as_many h.last r in
    let trim : IsTrimRefutation p (trimmed_steps c needed old) = record { refutes = refutes; named = named_trimmed c needed old h; short = subst (λ (ss : List Step). length ss < 2 ^ 63) e short } in
    record {
      needed = needed;
      as_many = h.as_many;
      last = h.last;
      closed = λ j k s on at named. h.closed j k s (omega arith) on at named;
      is = e;
      trim = subst (λ (ss : List Step). IsTrimRefutation p ss) (sym e) trim;
    }
