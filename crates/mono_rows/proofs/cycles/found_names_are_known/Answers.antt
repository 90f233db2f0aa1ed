use Rattle.std.proofs.Common.{ℕ, ◌<◌, List, [], sym, subst, arith}
use Rattle.std.specs.Prelude.{All}
use Rattle.std.proofs.lemmas.List.Elements.{All-nil, All-cons, All-head}
use Rattle.mono_rows.proofs.cycles.found_names_are_known.Goals as goal

abbrev AreBelow : ℕ → List ℕ → Type 0
AreBelow n xs = All (λ (k : ℕ). k < n) xs

pub returns : goal.returns
returns c = record {
  last_edge = λ edges is. subst (AreBelow 2) (sym is) (All-cons (λ (k : ℕ). k < 2) 1 [] (omega arith) (All-nil (λ (k : ℕ). k < 2)));
  no_edge = λ edges is known. let low : 2 < 2 = All-head (λ (k : ℕ). k < 2) 2 [] (subst (AreBelow 2) is known) in omega (arith, low);
  last_node = λ nodes is. subst (AreBelow 3) (sym is) (All-cons (λ (k : ℕ). k < 3) 2 [] (omega arith) (All-nil (λ (k : ℕ). k < 3)));
  no_node = λ nodes is known. let low : 3 < 3 = All-head (λ (k : ℕ). k < 3) 3 [] (subst (AreBelow 3) is known) in omega (arith, low);
}
