-- The parts of a problem's graphs by their places.
use Rattle.std.proofs.Common.{◌≡◌, ℕ, zero, suc, ◌<◌, Bool, List, length, set, get_or, replicate, Option, Some, None, refl, sym, ap, subst, ◌∙◌, inl, inr}
use Rattle.std.specs.Prelude.{IfSome}
use Rattle.std.proofs.lemmas.Bool.{cases_eq}
use Rattle.std.proofs.lemmas.List.{get_or_default, length-set, get_or-set_same, get_or-set_other, length-replicate}
use Rattle.mono_graph.specs.Digraph.{Digraph, enabled}
use Rattle.mono_problem.specs.Instance.{Instance, graph_at}
use Rattle.mono_check.specs.declared.enabled.EnabledPart.{EnabledPart}
use Rattle.mono_check.specs.Enabled.{FitsGraph, IsEnabled, IsPartAt, AreEnabled}

-- one that is there is the part of its graph
pub held_there : (p : Instance) (a : ℕ → Bool) (parts : List (Option EnabledPart)) (k : ℕ) (x : Option EnabledPart) (part : EnabledPart) → AreEnabled p a parts → k < length parts → x ≡ get_or parts k x → x ≡ Some part → IsPartAt p a k part
held_there p a parts k x part are low is some =
    subst (λ (y : Option EnabledPart). IfSome y (IsPartAt p a k)) (get_or_default parts k None x low ∙ sym is ∙ some) (are.each k)

-- one is exchanged
pub exchanged : (p : Instance) (a : ℕ → Bool) (parts : List (Option EnabledPart)) (k : ℕ) (part : Option EnabledPart) → AreEnabled p a parts → k < length parts → IfSome part (IsPartAt p a k) → AreEnabled p a (set parts k part)
exchanged p a parts k part are low is = record {
  len = length-set parts k part ∙ are.len;
  each = λ j. elim (cases_eq j k) [
    | inl same ↦
        subst (λ (i : ℕ). IfSome (get_or (set parts k part) i None) (IsPartAt p a i)) (sym same)
        (subst (λ (x : Option EnabledPart). IfSome x (IsPartAt p a k)) (sym (get_or-set_same parts k part None low)) is)
    | inr other ↦ subst (λ (x : Option EnabledPart). IfSome x (IsPartAt p a j)) (sym (get_or-set_other parts k j part None other)) (are.each j)
  ];
}

abbrev no_part : Option EnabledPart
no_part = None

nothing : (n k : ℕ) → get_or (replicate n no_part) k no_part ≡ no_part
nothing zero k = refl
nothing (suc n) zero = refl
nothing (suc n) (suc k) = nothing n k

-- none is there yet
pub none_yet : (p : Instance) (a : ℕ → Bool) (parts : List (Option EnabledPart)) → parts ≡ replicate (length p.graphs) None → AreEnabled p a parts
none_yet p a parts is = subst (λ (xs : List (Option EnabledPart)). AreEnabled p a xs) (sym is) (record {
  len = length-replicate (length p.graphs) None;
  each = λ k. subst (λ (x : Option EnabledPart). IfSome x (IsPartAt p a k)) (sym (nothing (length p.graphs) k)) tt;
})

-- the searches have room for its graph
pub fits_there : (p : Instance) (a : ℕ → Bool) (k : ℕ) (g : Digraph) (e : EnabledPart) → IsPartAt p a k e → g ≡ graph_at p k → FitsGraph g e
fits_there p a k g e at is = subst (λ (d : Digraph). FitsGraph d e) (ap (graph_at p) at.graph ∙ sym is) at.enabled.fits

-- a search leaves it the part that it was
pub stays_enabled : (p : Instance) (a : ℕ → Bool) (k : ℕ) (g : Digraph) (old new : EnabledPart) → IsPartAt p a k old → g ≡ graph_at p k → new.graph ≡ old.graph → new.part ≡ old.part → FitsGraph g new → IsEnabled p a new
stays_enabled p a k g old new at is graph part fits = record {
  known = subst (λ (j : ℕ). j < length p.graphs) (sym graph) at.enabled.known;
  part = part ∙ at.enabled.part ∙ ap (λ (j : ℕ). enabled a (graph_at p j)) (sym graph);
  fits = subst (λ (d : Digraph). FitsGraph d new) (is ∙ ap (graph_at p) (sym at.graph ∙ sym graph)) fits;
}
