-- Rows of walks along the possibly present edges as they are made and brought up to date, and the atoms that are due then.
use Rattle.std.proofs.Common.{◌≡◌, ℕ, ◌+◌, ◌<◌, Bool, true, false, List, [], ◌∷◌, ◌++◌, length, map, get_or, set, refl, sym, ap, subst, ◌∙◌, inl, inr, arith, None}
use Rattle.std.specs.Prelude.{IsTrue, All, ◌^◌}
use Rattle.std.proofs.lemmas.Bool.{cases_lt, cases_eq, both_ways}
use Rattle.std.proofs.lemmas.List.{get_or-map, get_or-set_same, get_or-set_other, get_or_append_left, get_or_default, get_or_past, length-append, length-map, length-set}
use Rattle.std.proofs.Math.Seq.{get_or-append_seam}
use Rattle.mono_base.specs.Worklist.{is_listed}
use Rattle.mono_graph.specs.Digraph.{Digraph, has}
use Rattle.mono_graph.proofs.Membership.{has_here}
use Rattle.mono_dynamic.specs.declared.cost_source.CostSource.{CostSource}
use Rattle.mono_dynamic.specs.declared.walk_target.WalkTarget.{WalkTarget}
use Rattle.mono_dynamic.specs.Ways.{Ways, no_target, IsTarget, IsTargetOf}
use Rattle.mono_dynamic.specs.Targets.{Targets, TargetRows, no_targets, targets_at, unsearched, is_lacking, is_settled, IsOneChanged, IsSearchedRow}
use Rattle.mono_dynamic.proofs.Lacking.{told_first}
use Rattle.mono_dynamic.proofs.Lightest.{first_fits}
use Rattle.mono_problem.specs.declared.atom.Atom.{Atom}
use Rattle.mono_problem.specs.Read.{no_atom}
use Rattle.mono_theory.specs.Asked.{asks_walk, no_source, source_at, target_of, AreOfAtoms, HasTarget, HaveRows}
use Rattle.mono_theory.specs.DueAtoms.{PutsDue}
use Rattle.mono_bounds.specs.DueNodes.{PutsNodes}
use Rattle.mono_theory.specs.PossibleRows.{PossibleView, AreTargetRows, AreAsked, AreBroughtUp, AreEach, IsFilledRow, IsRenewedRow, is_cut_off, lacks_by, possible_parts, target_at}
use Rattle.mono_theory.specs.Supports.{atom_at}
use Rattle.mono_theory.specs.Theories.{Facts}
use Rattle.mono_theory.proofs.DueStay.{due_more}
use Rattle.mono_theory.proofs.PossibleParts.{same_ways}

-- ---- targets are added

pub filled_none : (rows : List Targets) → AreEach IsFilledRow rows rows
filled_none rows = record { len = refl; each = λ i lt. record { ways = refl; lost = refl; since = λ e. e } }

-- a row that has one more target
abbrev pub with_target : Targets → WalkTarget → Targets
with_target r t = record { ways = r.ways; targets = r.targets ++ t ∷ []; since = None; lost = r.lost }

pub filled_more : (olds nows : List Targets) (r : ℕ) (t : WalkTarget) → r < length nows → AreEach IsFilledRow olds nows → AreEach IsFilledRow olds (set nows r (with_target (targets_at nows r) t))
filled_more olds nows r t lt h = record {
  len = length-set nows r (with_target (targets_at nows r) t) ∙ h.len;
  each = λ i low. elim (cases_eq i r) [
    | inl e ↦
        let here = get_or-set_same nows r (with_target (targets_at nows r) t) no_targets lt in
        let was = h.each r (omega (arith, lt, h.len)) in
        subst (λ (j : ℕ). IsFilledRow (targets_at olds j) (targets_at (set nows r (with_target (targets_at nows r) t)) j)) (sym e)
        (subst (λ (x : Targets). IsFilledRow (targets_at olds r) x) (sym here) (record { ways = was.ways; lost = was.lost; since = λ _. refl }))
    | inr ne ↦ subst (λ (x : Targets). IsFilledRow (targets_at olds i) x) (sym (get_or-set_other nows r i (with_target (targets_at nows r) t) no_targets ne)) (h.each i low)
  ];
}

target_old : (ts : List WalkTarget) (t w : WalkTarget) → IsTarget ts w → IsTarget (ts ++ t ∷ []) w
target_old ts t w h = (h.0, (let lt = h.1 in omega (arith, lt, length-append ts (t ∷ []))), get_or_append_left ts (t ∷ []) no_target h.0 h.1 ∙ h.2)

target_new : (ts : List WalkTarget) (t : WalkTarget) → IsTarget (ts ++ t ∷ []) t
target_new ts t = (length ts, omega (arith, length-append ts (t ∷ [])), get_or-append_seam ts t [] no_target)

asked_old : (nows : List Targets) (r k : ℕ) (t w : WalkTarget) → r < length nows → IsTarget (targets_at nows k).targets w → IsTarget (targets_at (set nows r (with_target (targets_at nows r) t)) k).targets w
asked_old nows r k t w lt h = elim (cases_eq k r) [
  | inl e ↦
      subst (λ (j : ℕ). IsTarget (targets_at (set nows r (with_target (targets_at nows r) t)) j).targets w) (sym e)
      (subst (λ (x : Targets). IsTarget x.targets w) (sym (get_or-set_same nows r (with_target (targets_at nows r) t) no_targets lt))
      (target_old (targets_at nows r).targets t w (subst (λ (j : ℕ). IsTarget (targets_at nows j).targets w) e h)))
  | inr ne ↦ subst (λ (x : Targets). IsTarget x.targets w) (sym (get_or-set_other nows r k (with_target (targets_at nows r) t) no_targets ne)) h
]

pub asked_more : (nows : List Targets) (row_of : List ℕ) (targets : List WalkTarget) (i : ℕ) → get_or row_of i 0 < length nows
    → ((j : ℕ) → j < i → IsTarget (targets_at nows (get_or row_of j 0)).targets (target_at targets j))
    → (j : ℕ) → j < i + 1 → IsTarget (targets_at (set nows (get_or row_of i 0) (with_target (targets_at nows (get_or row_of i 0)) (target_at targets i))) (get_or row_of j 0)).targets (target_at targets j)
asked_more nows row_of targets i lt h j low = elim (cases_eq j i) [
  | inl e ↦
      let r : ℕ = get_or row_of i 0 in
      let t : WalkTarget = target_at targets i in
      subst (λ (k : ℕ). IsTarget (targets_at (set nows r (with_target (targets_at nows r) t)) (get_or row_of k 0)).targets (target_at targets k)) (sym e)
      (subst (λ (x : Targets). IsTarget x.targets t) (sym (get_or-set_same nows r (with_target (targets_at nows r) t) no_targets lt)) (target_new (targets_at nows r).targets t))
  | inr ne ↦ asked_old nows (get_or row_of i 0) (get_or row_of j 0) (target_at targets i) (target_at targets j) lt (h j (omega arith))
]

-- a row that was filled is still asked for the same walks
pub target_filled : (olds nows : List Targets) (r : ℕ) (t : WalkTarget) → r < length olds → AreEach IsFilledRow olds nows → IsTargetOf (targets_at olds r).ways t → IsTargetOf (targets_at nows r).ways t
target_filled olds nows r t lt filled h = subst (λ (w : Ways). IsTargetOf w t) (sym (filled.each r lt).ways) h

-- before any search
abbrev first_rows : ℕ → List CostSource → TargetRows
first_rows n sources = record { nodes = n; rows = map (unsearched n) sources }

first_at : (n : ℕ) (sources : List CostSource) (before : TargetRows) (i : ℕ) → before ≡ first_rows n sources → i < length sources → targets_at before.rows i ≡ unsearched n (source_at sources i)
first_at n sources before i is lt = ap (λ (r : TargetRows). targets_at r.rows i) is ∙ get_or-map (unsearched n) sources i no_source no_targets lt

first_count : (n : ℕ) (sources : List CostSource) (before : TargetRows) → before ≡ first_rows n sources → length before.rows ≡ length sources
first_count n sources before is = ap (λ (r : TargetRows). length r.rows) is ∙ length-map sources (unsearched n)

-- each atom's row is from where its walk begins
pub own_first : {atoms : List Atom} {targets : List WalkTarget} {row_of : List ℕ} {sources : List CostSource} (n a : ℕ) (before : TargetRows) → before ≡ first_rows n sources → HaveRows atoms (length atoms) row_of sources → AreOfAtoms HasTarget atoms (length atoms) targets → All (λ t. t.node < n) targets → a < length atoms
    → IsTargetOf (targets_at before.rows (get_or row_of a 0)).ways (target_of (atom_at atoms a).predicate)
own_first {atoms = atoms} {targets = targets} {row_of = row_of} {sources = sources} n a before is have ends known lt =
    let own = have.each a lt in
    let r : ℕ = get_or row_of a 0 in
    let q = (atom_at atoms a).predicate in
    let node = known a no_target (let len = ends.len in omega (arith, lt, len)) in
    let s = source_at sources r in
    subst (λ (x : Targets). IsTargetOf x.ways (target_of q)) (sym (first_at n sources before r is own.0))
    (first_fits n s (target_of q) (subst (λ (t : WalkTarget). t.node < n) (ends.each a no_target lt).is node) (sym own.1.alike) own.1.beyond)

pub target_first : {atoms : List Atom} {targets : List WalkTarget} {row_of : List ℕ} {sources : List CostSource} (n a : ℕ) (before : TargetRows) → before ≡ first_rows n sources → HaveRows atoms (length atoms) row_of sources → AreOfAtoms HasTarget atoms (length atoms) targets → All (λ t. t.node < n) targets → a < length row_of
    → IsTargetOf (targets_at before.rows (get_or row_of a 0)).ways (target_at targets a)
target_first {atoms = atoms} n a before is have ends known lt =
    let low : a < length atoms = (let len = have.len in omega (arith, lt, len)) in
    subst (IsTargetOf (targets_at before.rows (get_or _ a 0)).ways) (sym (ends.each a no_target low).is) (own_first n a before is have ends known low)

pub rows_first : (f : Facts) (m n : ℕ) (sources : List CostSource) (row_of : List ℕ) (targets : List WalkTarget) (before after : TargetRows) → before ≡ first_rows n sources → n ≡ f.graph.nodes → after.nodes ≡ before.nodes → AreEach IsFilledRow before.rows after.rows
    → HaveRows f.atoms (length f.atoms) row_of sources → AreOfAtoms HasTarget f.atoms (length f.atoms) targets → All (λ t. t.node < n) targets → AreAsked after.rows row_of targets → length sources < 2 ^ 32 → AreTargetRows f m (record { rows = after; row_of = row_of; targets = targets })
rows_first f m n sources row_of targets before after is size same filled have ends known asked few = record {
  asks = record { each = λ a d lt. subst (λ (x : Atom). IsTrue (asks_walk x.predicate)) (get_or_default f.atoms a no_atom d lt) (ends.each a no_target lt).asks };
  nodes = same ∙ (ap (λ (r : TargetRows). r.nodes) is ∙ size);
  few = omega (arith, few, filled.len, count);
  told = λ i lt. (
      let low : i < length sources = omega (arith, lt, filled.len, count) in
      let row = filled.each i (omega (arith, low, count)) in
      let first = first_at n sources before i is low in
      told_first f.graph (possible_parts f) m n (source_at sources i).node (targets_at after.rows i)
      (ap (λ (w : Ways). w.tree) (row.ways ∙ ap (λ (r : Targets). r.ways) first)) (row.since (ap (λ (r : Targets). r.since) first)) (row.lost ∙ ap (λ (r : Targets). r.lost) first));
  row_len = have.len;
  targets = ends;
  own = λ a lt. (
      let own = have.each a lt in
      let r : ℕ = get_or row_of a 0 in
      let low : r < length before.rows = omega (arith, own.0, count) in
      let row = filled.each r low in
      record {
        held = omega (arith, low, filled.len);
        source = ap (λ (w : Ways). w.tree.source) (row.ways ∙ ap (λ (x : Targets). x.ways) (first_at n sources before r is own.0)) ∙ own.1.node;
        target = target_filled before.rows after.rows r (target_of (atom_at f.atoms a).predicate) low filled (own_first n a before is have ends known lt);
      });
  asked = asked;
}
  where
    count : length before.rows ≡ length sources
    count = first_count n sources before is

-- ---- rows are brought up to date

pub renewed_same : (g : Digraph) (P : List Bool) (n : ℕ) (r : Targets) → IsRenewedRow g P n r r
renewed_same g P n r = record { from = same_ways r.ways r.ways refl; targets = refl; told = λ parts e shrink t. t }

renewed_more : {g : Digraph} {P : List Bool} {n : ℕ} {a b c : Targets} → IsRenewedRow g P n a b → IsRenewedRow g P n b c → IsRenewedRow g P n a c
renewed_more h k = record {
  from = record { nodes = k.from.nodes ∙ h.from.nodes; source = k.from.source ∙ h.from.source; limit = k.from.limit ∙ h.from.limit; cap = k.from.cap ∙ h.from.cap };
  targets = k.targets ∙ h.targets;
  told = λ parts e shrink t. k.told parts e shrink (h.told parts e shrink t);
}

pub one_same : (g : Digraph) (P : List Bool) (n : ℕ) (rows : List Targets) (i : ℕ) → IsOneChanged (IsRenewedRow g P n) rows rows i
one_same g P n rows i = record { len = refl; here = renewed_same g P n (targets_at rows i); others = λ j ne. refl }

pub one_renewed : (g : Digraph) (P : List Bool) (n : ℕ) (olds news : List Targets) (i : ℕ) → IsOneChanged (IsSearchedRow g P n) olds news i → IsOneChanged (IsRenewedRow g P n) olds news i
one_renewed g P n olds news i h = record {
  len = h.len;
  here = record { from = h.here.from; targets = h.here.targets; told = λ parts e shrink t. h.here.told parts e shrink };
  others = h.others;
}

pub each_same : (g : Digraph) (P : List Bool) (n : ℕ) (rows : List Targets) → AreEach (IsRenewedRow g P n) rows rows
each_same g P n rows = record { len = refl; each = λ i lt. renewed_same g P n (targets_at rows i) }

pub each_renewed : {g : Digraph} {P : List Bool} {n : ℕ} {olds nows news : List Targets} (i : ℕ) → AreEach (IsRenewedRow g P n) olds nows → IsOneChanged (IsRenewedRow g P n) nows news i → AreEach (IsRenewedRow g P n) olds news
each_renewed {g = g} {P = P} {n = n} {olds = olds} {nows = nows} {news = news} i all one = record {
  len = one.len ∙ all.len;
  each = λ j lt. elim (cases_eq j i) [
    | inl e ↦ subst (λ (k : ℕ). IsRenewedRow g P n (targets_at olds k) (targets_at news k)) (sym e) (renewed_more (subst (λ (k : ℕ). IsRenewedRow g P n (targets_at olds k) (targets_at nows k)) e (all.each j lt)) one.here)
    | inr ne ↦ subst (λ (x : Targets). IsRenewedRow g P n (targets_at olds j) x) (sym (one.others j ne)) (all.each j lt)
  ];
}

-- one more row is up to date
pub settled_more : (g : Digraph) (P : List Bool) (n i : ℕ) (nows news : List Targets) → ((j : ℕ) → j < i → is_settled (targets_at nows j) ≡ true) → IsOneChanged (IsRenewedRow g P n) nows news i → is_settled (targets_at news i) ≡ true → (j : ℕ) → j < i + 1 → is_settled (targets_at news j) ≡ true
settled_more g P n i nows news h one here j lt = elim (cases_eq j i) [
  | inl e ↦ subst (λ (k : ℕ). is_settled (targets_at news k) ≡ true) (sym e) here
  | inr ne ↦ ap is_settled (one.others j ne) ∙ h j (omega arith)
]

-- rows that are brought up to date are asked for the same walks
pub still_asked : {g : Digraph} {P : List Bool} {n : ℕ} {olds nows : List Targets} {row_of : List ℕ} {targets : List WalkTarget} → AreEach (IsRenewedRow g P n) olds nows → AreAsked olds row_of targets → AreAsked nows row_of targets
still_asked {olds = olds} {nows = nows} {row_of = row_of} {targets = targets} all asked = record {
  each = λ a lt. (
      let t : WalkTarget = target_at targets a in
      let own = asked.each a lt in
      elim (cases_lt (get_or row_of a 0) (length olds)) [
        | inl held ↦ subst (λ (ts : List WalkTarget). IsTarget ts t) (sym (all.each (get_or row_of a 0) held).targets) own
        | inr past ↦ absurd (not_none t (subst (λ (r : Targets). IsTarget r.targets t) (get_or_past olds (get_or row_of a 0) no_targets past) own))
      ]);
}
  where
    not_none : (t : WalkTarget) → IsTarget [] t → ⊥
    not_none t h = (let lt = h.1 in omega (arith, lt))

-- ---- which atoms are due then

-- no walk is missing
pub whole_due : (g : Digraph) (P : List Bool) (n : ℕ) (olds news : List Targets) (i : ℕ) (row_of : List ℕ) (targets : List WalkTarget) (due : List Bool) → IsOneChanged (IsSearchedRow g P n) olds news i → All (λ t. is_lacking (targets_at news i) t ≡ false) (targets_at olds i).targets → AreAsked olds row_of targets
    → PutsDue (length row_of) (lacks_by olds row_of targets) (lacks_by news row_of targets) due due
whole_due g P n olds news i row_of targets due h all asked = record {
  size = refl;
  stay = λ a off. off;
  newly = λ a lt off on. elim (cases_eq (get_or row_of a 0) i) [
    | inl e ↦
        let t : WalkTarget = target_at targets a in
        let own : IsTarget (targets_at olds i).targets t = subst (λ (j : ℕ). IsTarget (targets_at olds j).targets t) e (asked.each a lt) in
        absurd (both_ways (is_lacking (targets_at news i) t)
        (subst (λ (x : WalkTarget). is_lacking (targets_at news i) x ≡ false) own.2 (all own.0 no_target own.1))
        (subst (λ (j : ℕ). is_lacking (targets_at news j) t ≡ true) e on))
    | inr ne ↦ subst (λ (r : Targets). is_lacking r (target_at targets a) ≡ true) (h.others (get_or row_of a 0) ne) on
  ];
}

-- nothing is known of the row
pub unknown_due : (g : Digraph) (P : List Bool) (n : ℕ) (olds news : List Targets) (i : ℕ) (row_of : List ℕ) (targets : List WalkTarget) (due : List Bool) → IsOneChanged (IsSearchedRow g P n) olds news i → ((t : WalkTarget) → is_lacking (targets_at news i) t ≡ false)
    → PutsDue (length row_of) (lacks_by olds row_of targets) (lacks_by news row_of targets) due due
unknown_due g P n olds news i row_of targets due h none = record {
  size = refl;
  stay = λ a off. off;
  newly = λ a lt off on. elim (cases_eq (get_or row_of a 0) i) [
    | inl e ↦ absurd (both_ways (is_lacking (targets_at news i) (target_at targets a)) (none (target_at targets a)) (subst (λ (j : ℕ). is_lacking (targets_at news j) (target_at targets a) ≡ true) e on))
    | inr ne ↦ subst (λ (r : Targets). is_lacking r (target_at targets a) ≡ true) (h.others (get_or row_of a 0) ne) on
  ];
}

-- all atoms of the row are due
pub part_due : (Is : Targets → Targets → Type 0) (olds news : List Targets) (i : ℕ) (row_of : List ℕ) (targets : List WalkTarget) (before after : List Bool) → IsOneChanged Is olds news i → PutsNodes row_of (i ∷ []) before after
    → PutsDue (length row_of) (lacks_by olds row_of targets) (lacks_by news row_of targets) before after
part_due Is olds news i row_of targets before after h puts = record {
  size = puts.size;
  stay = puts.stay;
  newly = λ a lt off on. elim (cases_eq (get_or row_of a 0) i) [
    | inl e ↦ absurd (both_ways (is_listed after a) off (puts.each a lt (subst (λ (j : ℕ). IsTrue (has (i ∷ []) j)) (sym e) (has_here i []))))
    | inr ne ↦ subst (λ (r : Targets). is_lacking r (target_at targets a) ≡ true) (h.others (get_or row_of a 0) ne) on
  ];
}

-- ---- all that comes of it

-- one row more is brought up to date
pub one_row_more : {g : Digraph} {P : List Bool} {n : ℕ} {row_of : List ℕ} {old between new : TargetRows} {first second third : List Bool} (i : ℕ) → AreBroughtUp (AreEach (IsRenewedRow g P n)) row_of old between first second
    → AreBroughtUp (λ olds news. IsOneChanged (IsRenewedRow g P n) olds news i) row_of between new second third → AreBroughtUp (AreEach (IsRenewedRow g P n)) row_of old new first third
one_row_more i all one = record {
  nodes = one.nodes ∙ all.nodes;
  size = one.size ∙ all.size;
  rows = each_renewed i all.rows one.rows;
  due = λ targets asked. due_more (all.due targets asked) (one.due targets (still_asked all.rows asked));
}

-- the atoms are due of which the rows show something new
pub atoms_due : {f : Facts} {s : PossibleView} {n : ℕ} {new : TargetRows} {Is : List Targets → List Targets → Type 0} {before after : List Bool} → AreTargetRows f n s → AreBroughtUp Is s.row_of s.rows new before after
    → PutsDue (length f.atoms) (is_cut_off s) (lacks_by new.rows s.row_of s.targets) before after
atoms_due {s = s} {new = new} {before = before} {after = after} h all =
    subst (λ (count : ℕ). PutsDue count (is_cut_off s) (lacks_by new.rows s.row_of s.targets) before after) h.row_len (all.due s.targets h.asked)
