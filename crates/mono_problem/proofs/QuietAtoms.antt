-- What forced literals and quiet atoms say of an assignment that extends the list.
use Rattle.std.proofs.Common.{◌≡◌, ℕ, ◌<◌, Bool, false, List, refl, sym, subst, ◌∙◌, inl, inr, ℤ, pos, neg_ℤ, All, ◌↔◌, get_or}
use Rattle.std.specs.Prelude.{IsTrue}
use Rattle.std.proofs.lemmas.Bool.{both_ways, not_from_false, false_from_ne_true, true_from_ne_false}
use Rattle.mono_base.specs.Literal.{lit_true}
use Rattle.mono_base.specs.Partial.{Extends, is_true_in, is_false_in, is_open_in}
use Rattle.mono_base.proofs.Truth.{pos_true, neg_true}
use Rattle.mono_graph.specs.Digraph.{Digraph, IsGraph, enabled}
use Rattle.mono_problem.specs.declared.atom.Atom.{Atom}
use Rattle.mono_problem.specs.Holds.{Holds}
use Rattle.mono_problem.specs.Quiet.{part_to_fail, Forces, HasForcedTrue, IsQuietAtom, IsNearlyQuiet, TheoryQuiet}
use Rattle.mono_problem.proofs.Monotone.{holds_between, between_holds, part_met}
use Rattle.mono_problem.proofs.Bounds.{true_by_list, false_by_list, under-enabled, enabled-over, under-decided, over-decided}

pub forced_true : (g : Digraph) (x : Atom) (t : List ℤ) (l : ℤ) (a : ℕ → Bool) → IsGraph g → 0 < x.var → Extends a t → (IsTrue (a x.var) ↔ Holds g (enabled a g) x.predicate)
    → Forces g x t l → IsTrue (lit_true a l)
forced_true g x t l a ok p e agrees (inl (is, holds)) =
    subst (λ (m : ℤ). IsTrue (lit_true a m)) (sym is) (pos_true a x.var p ∙ agrees.1 (holds_between g t (enabled a g) x.predicate (record { above = under-enabled g t a ok e; below = enabled-over g t a ok e }) holds))
forced_true g x t l a ok p e agrees (inr (is, fails)) =
    subst (λ (m : ℤ). IsTrue (lit_true a m)) (sym is) (neg_true a x.var p ∙ not_from_false (a x.var)
    (false_from_ne_true (a x.var) (λ on. fails (between_holds g t (enabled a g) x.predicate (record { above = under-enabled g t a ok e; below = enabled-over g t a ok e }) (agrees.0 on)))))

-- ---- forced literals that are true, and quiet atoms

pub quiet_forces_nothing_more : (g : Digraph) (atoms : List Atom) (t : List ℤ) → TheoryQuiet g atoms t → All (HasForcedTrue g t) atoms
quiet_forces_nothing_more g atoms t h = λ k d lt l forced. by (get_or atoms k d) l (h k d lt) forced
  where
    by : (x : Atom) (l : ℤ) → IsQuietAtom g t x → Forces g x t l → IsTrue (is_true_in t l)
    by x l q (inl (is, holds)) = subst (λ (m : ℤ). IsTrue (is_true_in t m)) (sym is) (q.0 holds)
    by x l q (inr (is, fails)) = subst (λ (m : ℤ). IsTrue (is_true_in t m)) (sym is) (true_from_ne_false (is_false_in t (pos x.var)) (λ off. fails (q.1 off)))

nearly_quiet : (g : Digraph) (t : List ℤ) (x : Atom) → HasForcedTrue g t x → IsNearlyQuiet g t x
nearly_quiet g t x forced = (λ holds. forced (pos x.var) (inl (refl, holds)), λ off fails. both_ways (is_false_in t (pos x.var)) off (forced (neg_ℤ (pos x.var)) (inr (refl, fails))))

forced_where_nearly_quiet : (g : Digraph) (t : List ℤ) (x : Atom) → IsNearlyQuiet g t x → HasForcedTrue g t x
forced_where_nearly_quiet g t x q l (inl (is, holds)) = subst (λ (m : ℤ). IsTrue (is_true_in t m)) (sym is) (q.0 holds)
forced_where_nearly_quiet g t x q l (inr (is, fails)) = subst (λ (m : ℤ). IsTrue (is_true_in t m)) (sym is) (true_from_ne_false (is_false_in t (pos x.var)) (λ off. q.1 off fails))

pub forced_is_nearly_quiet : (g : Digraph) (atoms : List Atom) (t : List ℤ) → All (HasForcedTrue g t) atoms ↔ All (IsNearlyQuiet g t) atoms
forced_is_nearly_quiet g atoms t = (λ h k d lt. nearly_quiet g t (get_or atoms k d) (h k d lt), λ h k d lt. forced_where_nearly_quiet g t (get_or atoms k d) (h k d lt))

pub quiet_by_forced : (g : Digraph) (atoms : List Atom) (t : List ℤ) → All (λ x. ¬ ¬ Holds g (part_to_fail x.predicate g t) x.predicate → Holds g (part_to_fail x.predicate g t) x.predicate) atoms → All (HasForcedTrue g t) atoms → TheoryQuiet g atoms t
quiet_by_forced g atoms t stable forced = λ k d lt. by (get_or atoms k d) (stable k d lt) (nearly_quiet g t (get_or atoms k d) (forced k d lt))
  where
    by : (x : Atom) → (¬ ¬ Holds g (part_to_fail x.predicate g t) x.predicate → Holds g (part_to_fail x.predicate g t) x.predicate) → IsNearlyQuiet g t x → IsQuietAtom g t x
    by x holds q = (q.0, λ off. holds (q.1 off))

pub quiet_atom_agrees : (g : Digraph) (t : List ℤ) (a : ℕ → Bool) (x : Atom) → IsGraph g → Extends a t → All (λ e. is_open_in t (pos e.var) ≡ false) g.edges
    → 0 < x.var → is_open_in t (pos x.var) ≡ false → IsQuietAtom g t x → (IsTrue (a x.var) ↔ Holds g (enabled a g) x.predicate)
quiet_atom_agrees g t a x ok e none p o q = (
  λ on. subst (λ (P : List Bool). Holds g P x.predicate) (part_met g t (enabled a g) x.predicate (under-decided g t a ok e none) (over-decided g t a ok e none)).1
      (q.1 (false_from_ne_true (is_false_in t (pos x.var)) (λ off. both_ways (a x.var) (false_by_list a t x.var e p off) on))),
  λ holds. true_by_list a t x.var e p (q.0 (subst (λ (P : List Bool). Holds g P x.predicate) (sym (part_met g t (enabled a g) x.predicate (under-decided g t a ok e none) (over-decided g t a ok e none)).0) holds)),
)

pub quiet_atoms_all_agree : (g : Digraph) (atoms : List Atom) (t : List ℤ) (a : ℕ → Bool) → IsGraph g → Extends a t → All (λ e. is_open_in t (pos e.var) ≡ false) g.edges
    → All (λ x. (0 < x.var) × (is_open_in t (pos x.var) ≡ false)) atoms → TheoryQuiet g atoms t → All (λ x. IsTrue (a x.var) ↔ Holds g (enabled a g) x.predicate) atoms
quiet_atoms_all_agree g atoms t a ok e none vars quiet = λ k d lt. let v = vars k d lt in quiet_atom_agrees g t a (get_or atoms k d) ok e none v.0 v.1 (quiet k d lt)
