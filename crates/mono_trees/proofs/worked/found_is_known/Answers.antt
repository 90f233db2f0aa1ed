use Rattle.std.proofs.Common.{ℕ, ◌<◌, List, [], sym, subst, arith}
use Rattle.std.specs.Prelude.{All}
use Rattle.std.proofs.lemmas.List.Elements.{All-nil, All-cons, All-head}
use Rattle.mono_trees.proofs.worked.found_is_known.Goals as goal

pub returns : goal.returns
returns c = record {
  last_edge = λ edges is. subst (λ (xs : List ℕ). All (λ (k : ℕ). k < 2) xs) (sym is) (All-cons (λ (k : ℕ). k < 2) 1 [] (omega arith) (All-nil (λ (k : ℕ). k < 2)));
  no_edge = λ edges is p.
      let low : 2 < 2 = All-head (λ (k : ℕ). k < 2) 2 [] (subst (λ (xs : List ℕ). All (λ (k : ℕ). k < 2) xs) is p) in
      omega (arith, low);
  last_node = λ nodes is. subst (λ (xs : List ℕ). All (λ (k : ℕ). k < 3) xs) (sym is) (All-cons (λ (k : ℕ). k < 3) 2 [] (omega arith) (All-nil (λ (k : ℕ). k < 3)));
  no_node = λ nodes is p.
      let low : 3 < 3 = All-head (λ (k : ℕ). k < 3) 3 [] (subst (λ (xs : List ℕ). All (λ (k : ℕ). k < 3) xs) is p) in
      omega (arith, low);
  last_of_least = λ edges is. subst (λ (xs : List ℕ). All (λ (k : ℕ). k < 2) xs) (sym is) (All-cons (λ (k : ℕ). k < 2) 1 [] (omega arith) (All-nil (λ (k : ℕ). k < 2)));
  none_of_least = λ edges is p.
      let low : 2 < 2 = All-head (λ (k : ℕ). k < 2) 2 [] (subst (λ (xs : List ℕ). All (λ (k : ℕ). k < 2) xs) is p) in
      omega (arith, low);
}
