-- Rows and what is known of the atoms stay right while literals come, are looked at and go.
use Rattle.std.proofs.Common.{◌≡◌, ◌≢◌, ℕ, ◌+◌, ◌-◌, ◌<◌, ◌≤◌, ◌||◌, Bool, true, false, not, List, [], ◌∷◌, ◌++◌, length, take, get_or, set, sym, ap, subst, ◌∙◌, inl, inr, arith, ℤ, nat_abs, take-take}
use Rattle.std.specs.Prelude.{IsTrue}
use Rattle.std.proofs.lemmas.Bool.{both_ways, cases_eq, or_left, or_right, false_from_ne_true}
use Rattle.std.proofs.lemmas.List.{get_or-map, get_or-set_other, length-map, length-set, length-take-le, take_more}
use Rattle.mono_base.specs.Literal.{has_lit}
use Rattle.mono_base.specs.Worklist.{is_listed}
use Rattle.mono_graph.specs.Digraph.{has}
use Rattle.mono_problem.specs.declared.atom.Atom.{Atom}
use Rattle.mono_problem.specs.declared.atom.Predicate.{Predicate}
use Rattle.mono_problem.specs.Read.{no_atom}
use Rattle.mono_steps.specs.Switching.{literal_of}
use Rattle.mono_theory.specs.DueAtoms.{PutsDue}
use Rattle.mono_theory.specs.Evidences.{shown_by}
use Rattle.mono_theory.specs.Frames.{atom_vars}
use Rattle.mono_bounds.specs.Index.{ArePlacesOf}
use Rattle.mono_theory.specs.RowSides.{AreRowsFor, AreSettledBut, RowsView}
use Rattle.mono_theory.specs.Supports.{IsSettled, atom_at, part_of}
use Rattle.mono_theory.specs.Theories.{Facts, but_last, cut_to}
use Rattle.mono_bounds.proofs.BoundsStay.{has_lit-push_other}
use Rattle.mono_theory.proofs.EvidenceDecides.{literal_var}
use Rattle.mono_theory.proofs.LastSeen.{len_but_last, take_but_last}
use Rattle.mono_theory.proofs.PartsOfSides.{has_lit-take}

-- ---- the atoms that are due

-- the rows may show more, and the literals settle no fewer atoms
pub settled_on : {t u : List ℤ} {possible : Bool} {atoms : List Atom} {before after : ℕ → Bool} {due more : List Bool} → ((x : Atom) → IsSettled t possible x → IsSettled u possible x) → PutsDue (length atoms) before after due more
    → AreSettledBut t possible atoms before due → AreSettledBut u possible atoms after more
settled_on {atoms = atoms} later puts h = record {
  size = puts.size ∙ h.size;
  each = λ a lt off on. later (atom_at atoms a) (h.each a lt (puts.stay a off) (puts.newly a lt off on));
}

-- the rows show no more
pub settled_less : {t : List ℤ} {possible : Bool} {atoms : List Atom} {before after : ℕ → Bool} {due : List Bool} → ((a : ℕ) → a < length atoms → after a ≡ true → before a ≡ true)
    → AreSettledBut t possible atoms before due → AreSettledBut t possible atoms after due
settled_less less h = record {
  size = h.size;
  each = λ a lt off on. h.each a lt off (less a lt on);
}

-- an atom that first literals settle is settled by more
still_settled : (t : List ℤ) (m n : ℕ) (possible : Bool) (x : Atom) → m ≤ n → IsSettled (take m t) possible x → IsSettled (take n t) possible x
still_settled t m n possible x le h =
    let l : ℤ = literal_of (shown_by x.predicate (not possible)) x.var in
    has_lit-take m (take n t) l (subst (λ (u : List ℤ). IsTrue (has_lit u l)) (sym (take-take m n t le)) h)

-- an atom of another variable is settled without the last of some literals
settled_before : (t : List ℤ) (n : ℕ) (l : ℤ) (possible : Bool) (x : Atom) → n < length t → get_or t n l ≡ l → x.var ≢ nat_abs l → IsSettled (take (n + 1) t) possible x → IsSettled (take n t) possible x
settled_before t n l possible x lt at ne h =
    let b = shown_by x.predicate (not possible) in
    let m : ℤ = literal_of b x.var in
    let more : take (n + 1) t ≡ take n t ++ l ∷ [] = take_more t n l lt ∙ ap (λ (k : ℤ). take n t ++ k ∷ []) at in
    sym (has_lit-push_other (take n t) l m (λ e. ne (sym (literal_var b x.var) ∙ ap nat_abs e))) ∙ (ap (λ (u : List ℤ). has_lit u m) (sym more) ∙ h)

-- the last literal goes, and the atoms of its variable are due
pub settled_back : (t : List ℤ) (n : ℕ) (l : ℤ) (ks : List ℕ) (possible : Bool) (atoms : List Atom) (shown : ℕ → Bool) (due more : List Bool) → n < length t → get_or t n l ≡ l → ArePlacesOf (atom_vars atoms) (nat_abs l) ks → length more ≡ length due
    → ((a : ℕ) → is_listed more a ≡ (is_listed due a || has ks a)) → AreSettledBut (take (n + 1) t) possible atoms shown due → AreSettledBut (take n t) possible atoms shown more
settled_back t n l ks possible atoms shown due more lt at places size is h = record {
  size = size ∙ h.size;
  each = λ a low off on.
      let none : (is_listed due a || has ks a) ≡ false = sym (is a) ∙ off in
      let before : is_listed due a ≡ false = false_from_ne_true (is_listed due a) (λ e. both_ways (is_listed due a || has ks a) none (or_left (is_listed due a) (has ks a) e)) in
      let other : has ks a ≡ false = false_from_ne_true (has ks a) (λ e. both_ways (is_listed due a || has ks a) none (or_right (is_listed due a) (has ks a) e)) in
      let its : get_or (atom_vars atoms) a 0 ≡ (atom_at atoms a).var = get_or-map (λ (x : Atom). x.var) atoms a no_atom 0 low in
      settled_before t n l possible (atom_at atoms a) lt at
      (λ e. both_ways (has ks a) other (places.all a (omega (arith, low, length-map atoms (λ (x : Atom). x.var))) (its ∙ e)))
      (h.each a low before on);
}

-- an atom that owes nothing is due no more
pub settled_once : {t : List ℤ} {possible : Bool} {atoms : List Atom} {shown : ℕ → Bool} {due : List Bool} (a : ℕ) → (shown a ≡ true → IsSettled t possible (atom_at atoms a)) → AreSettledBut t possible atoms shown due → AreSettledBut t possible atoms shown (set due a false)
settled_once {t = t} {possible = possible} {atoms = atoms} {shown = shown} {due = due} a its h = record {
  size = length-set due a false ∙ h.size;
  each = λ k lt off on. elim (cases_eq k a) [
    | inl e ↦ subst (λ (j : ℕ). IsSettled t possible (atom_at atoms j)) (sym e) (its (subst (λ (j : ℕ). shown j ≡ true) e on))
    | inr ne ↦ h.each k lt (sym (get_or-set_other due a k false false ne) ∙ off) on
  ];
}

-- ---- other literals after those that were looked at

rows_like : {R : Type 0} {covers : Predicate → Bool} {possible : Bool} {are_right : R → Facts → Type 0} {shown : R → ℕ → Bool} {f : Facts} {s : RowsView R} (t : List ℤ) → take s.looked t ≡ take s.looked f.seen → s.looked ≤ length t → AreRowsFor covers possible are_right shown f s
    → AreRowsFor covers possible are_right shown (record { graph = f.graph; atoms = f.atoms; seen = t }) s
rows_like {possible = possible} {are_right = are_right} {shown = shown} {f = f} {s = s} t same fits h = record {
  covered = h.covered;
  part = h.part ∙ ap (λ (u : List ℤ). part_of f.graph u possible) (sym same);
  looked = fits;
  rows = subst (λ (u : List ℤ). are_right s.rows (record { graph = f.graph; atoms = f.atoms; seen = u })) (sym same) h.rows;
  due = subst (λ (u : List ℤ). AreSettledBut u possible f.atoms (shown s.rows) s.due) (sym same) h.due;
}

-- one more literal was seen
pub rows_seen : {R : Type 0} {covers : Predicate → Bool} {possible : Bool} {are_right : R → Facts → Type 0} {shown : R → ℕ → Bool} {f : Facts} {s : RowsView R} → AreRowsFor covers possible are_right shown (but_last f) s → AreRowsFor covers possible are_right shown f s
rows_seen {f = f} {s = s} h =
    let low : s.looked ≤ length f.seen - 1 = (let looked = h.looked in omega (arith, looked, len_but_last f)) in
    rows_like {f = but_last f} f.seen (sym (take_but_last f s.looked low)) (omega (arith, low)) h

-- literals go that weren't looked at
pub rows_cut_later : {R : Type 0} {covers : Predicate → Bool} {possible : Bool} {are_right : R → Facts → Type 0} {shown : R → ℕ → Bool} {f : Facts} {s : RowsView R} (kept : ℕ) → s.looked ≤ kept → kept ≤ length f.seen → AreRowsFor covers possible are_right shown f s
    → AreRowsFor covers possible are_right shown (cut_to kept f) s
rows_cut_later {f = f} {s = s} kept le fits h = rows_like (take kept f.seen) (take-take s.looked kept f.seen le) (omega (arith, le, length-take-le kept f.seen fits)) h

-- literals go that were looked at
pub rows_back : {R : Type 0} {covers : Predicate → Bool} {possible : Bool} {are_right : R → Facts → Type 0} {shown : R → ℕ → Bool} {f : Facts} {s : RowsView R} (kept : ℕ) (part : List Bool) (rows : R) (due : List Bool) → kept ≤ s.looked → part ≡ part_of f.graph (take kept f.seen) possible
    → are_right rows (cut_to kept f) → ((a : ℕ) → a < length f.atoms → shown rows a ≡ true → shown s.rows a ≡ true) → AreSettledBut (take kept f.seen) possible f.atoms (shown s.rows) due
    → AreRowsFor covers possible are_right shown f s → AreRowsFor covers possible are_right shown (cut_to kept f) (record { part = part; looked = kept; rows = rows; due = due })
rows_back {R = R} {covers = covers} {possible = possible} {are_right = are_right} {shown = shown} {f = f} {s = s} kept part rows due le is back less settled h =
    let fits = h.looked in
    let r : RowsView R = record { part = part; looked = kept; rows = rows; due = due } in
    let first : AreRowsFor covers possible are_right shown f r = record {
      covered = h.covered;
      part = is;
      looked = omega (arith, le, fits);
      rows = back;
      due = settled_less less settled;
    } in
    rows_cut_later kept (omega arith) (omega (arith, le, fits)) first

-- ---- other rows

-- they show the same
pub rows_alike : {R : Type 0} {covers : Predicate → Bool} {possible : Bool} {are_right : R → Facts → Type 0} {shown : R → ℕ → Bool} {f : Facts} {s : RowsView R} (rows : R) → are_right rows (cut_to s.looked f) → ((a : ℕ) → shown rows a ≡ shown s.rows a) → AreRowsFor covers possible are_right shown f s
    → AreRowsFor covers possible are_right shown f (record { part = s.part; looked = s.looked; rows = rows; due = s.due })
rows_alike rows now same h = record {
  covered = h.covered;
  part = h.part;
  looked = h.looked;
  rows = now;
  due = settled_less (λ a lt on. sym (same a) ∙ on) h.due;
}

-- ---- the next literal

-- it was looked at
pub rows_looked : {R : Type 0} {covers : Predicate → Bool} {possible : Bool} {are_right : R → Facts → Type 0} {shown : R → ℕ → Bool} {f : Facts} {s : RowsView R} (part : List Bool) (rows : R) (due : List Bool) → s.looked < length f.seen
    → part ≡ part_of f.graph (take (s.looked + 1) f.seen) possible → are_right rows (cut_to (s.looked + 1) f) → PutsDue (length f.atoms) (shown s.rows) (shown rows) s.due due → AreRowsFor covers possible are_right shown f s
    → AreRowsFor covers possible are_right shown f (record { part = part; looked = s.looked + 1; rows = rows; due = due })
rows_looked {possible = possible} {f = f} {s = s} part rows due lt is now puts h = record {
  covered = h.covered;
  part = is;
  looked = omega (arith, lt);
  rows = now;
  due = settled_on (λ x. still_settled f.seen s.looked (s.looked + 1) possible x (omega arith)) puts h.due;
}

-- it couldn't be looked at
pub rows_unlooked : {R : Type 0} {covers : Predicate → Bool} {possible : Bool} {are_right : R → Facts → Type 0} {shown : R → ℕ → Bool} {f : Facts} {s : RowsView R} (part : List Bool) (rows : R) (due : List Bool)
    → part ≡ part_of f.graph (take s.looked f.seen) possible → are_right rows (cut_to s.looked f) → PutsDue (length f.atoms) (shown s.rows) (shown rows) s.due due → AreRowsFor covers possible are_right shown f s
    → AreRowsFor covers possible are_right shown f (record { part = part; looked = s.looked; rows = rows; due = due })
rows_unlooked part rows due is now puts h = record {
  covered = h.covered;
  part = is;
  looked = h.looked;
  rows = now;
  due = settled_on (λ x its. its) puts h.due;
}
