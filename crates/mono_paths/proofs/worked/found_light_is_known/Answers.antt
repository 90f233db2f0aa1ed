use Rattle.std.proofs.Common.{ℕ, ◌<◌, ◌+◌, ◌≤◌, List, [], sym, subst, arith}
use Rattle.std.specs.Prelude.{All}
use Rattle.std.proofs.lemmas.List.Elements.{All-nil, All-cons, All-head}
use Rattle.mono_base.specs.declared.limits.TheConstants.{MAX_WITNESS_VALUE}
use Rattle.mono_graph.specs.declared.label.Label.{Label}
use Rattle.mono_graph.specs.Worked.{label}
use Rattle.mono_paths.proofs.worked.found_light_is_known.Goals as goal

abbrev IsKnown : Label → Type 0
IsKnown l = (l.node < 3) × (l.value ≤ MAX_WITNESS_VALUE)

pub returns : goal.returns
returns c = record {
  last_edge = λ edges is. subst (λ (ks : List ℕ). All (λ (k : ℕ). k < 2) ks) (sym is) (All-cons (λ (k : ℕ). k < 2) 1 [] (omega arith) (All-nil (λ (k : ℕ). k < 2)));
  no_edge = λ edges is p.
      let low : 2 < 2 = All-head (λ (k : ℕ). k < 2) 2 [] (subst (λ (ks : List ℕ). All (λ (k : ℕ). k < 2) ks) is p) in
      omega (arith, low);
  last_node = λ labels is. subst (λ (ls : List Label). All IsKnown ls) (sym is) (All-cons IsKnown (label 2 (MAX_WITNESS_VALUE)) [] (omega arith, omega arith) (All-nil IsKnown));
  no_node = λ labels is p.
      let low : 3 < 3 = (All-head IsKnown (label 3 0) [] (subst (λ (ls : List Label). All IsKnown ls) is p)).0 in
      omega (arith, low);
  too_great = λ labels is p.
      let low : MAX_WITNESS_VALUE + 1 ≤ MAX_WITNESS_VALUE = (All-head IsKnown (label 2 (MAX_WITNESS_VALUE + 1)) [] (subst (λ (ls : List Label). All IsKnown ls) is p)).1 in
      omega (arith, low);
}
