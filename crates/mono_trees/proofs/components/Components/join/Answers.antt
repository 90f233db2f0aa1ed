use Rattle.std.proofs.Common.{◌≡◌, ◌∙◌, ◌++◌, ◌∷◌, [], length, List, ℕ, subst, sym, take, drop, arith}
use Rattle.std.proofs.Math.Seq.{take-append_seam}
use Rattle.std.specs.Prelude.{Vec}
use Rattle.std.specs.declared.alloc.Global.{Global}
use Rattle.mono_trees.specs.Kept.{AreLists}
use Rattle.mono_trees.specs.Lists.{lists_of}
use Rattle.mono_trees.specs.Tells.{Tells}
use Rattle.mono_trees.proofs.components.Components.join.Goals as goal

-- what was lent comes back whole
taken : {X : Type 0} (new rest : List X) (n : ℕ) → length new ≡ n → take n (new ++ rest) ≡ new
taken new rest n e = subst (λ (m : ℕ). take m (new ++ rest) ≡ new) e (take-append_seam new rest)

both_taken : (labels more : List ℕ) (lists rest : List (Vec ℕ Global)) (n m : ℕ) → length labels ≡ n → length lists ≡ m → AreLists labels (lists_of lists) → AreLists (take n (labels ++ more)) (lists_of (take m (lists ++ rest)))
both_taken labels more lists rest n m e f h = rw (taken labels more n e, taken lists rest m f) h

pub join_labels-requires-clause-kept : goal.join_labels-requires-clause-kept
join_labels-requires-clause-kept c = rw (c.deref_mut.ensures.value, c.deref_mut-2.ensures.value) c.self.invariant

pub invariant_of-self : goal.invariant_of-self
invariant_of-self c =
    both_taken c.join_labels.new.labels _ c.join_labels.new.lists _ _ _ (omega (arith, c.join_labels.auto.labels, c.deref_mut.ensures.len)) (omega (arith, c.join_labels.auto.lists, c.deref_mut-2.ensures.len)) c.in_err-join_labels.ensures.kept

pub invariant_of-self-2 : goal.invariant_of-self-2
invariant_of-self-2 c =
    both_taken c.join_labels.new.labels _ c.join_labels.new.lists _ _ _ (omega (arith, c.join_labels.auto.labels, c.deref_mut.ensures.len)) (omega (arith, c.join_labels.auto.lists, c.deref_mut-2.ensures.len)) c.in_ok-join_labels.ensures.kept

pub returns-clause-tells : goal.returns-clause-tells
returns-clause-tells c = λ es e from to tells.
    let new : List ℕ = c.join_labels.new.labels in
    let rest : List ℕ = drop (length new) c.self.inside.labels.items in
    let same : take c.self.inside.labels.len (new ++ rest) ≡ new = taken new rest c.self.inside.labels.len (omega (arith, c.join_labels.auto.labels, c.deref_mut.ensures.len)) in
    subst (λ (ls : List ℕ). Tells (es ++ e ∷ []) ls) (sym same)
    (c.in_ok-join_labels.ensures.tells es e from to (subst (λ (ls : List ℕ). Tells es ls) (sym (c.deref_mut.ensures.value ∙ c.self.view_is)) tells))
