-- A list whose numbers are looked at once each: those that were seen are marked.
use Rattle.std.proofs.Common.{◌≡◌, ℕ, ◌+◌, ◌<◌, Bool, true, false, List, [], ◌∷◌, ◌++◌, length, take, set, get_or, sym, ap, subst, ◌∙◌, arith}
use Rattle.std.specs.Prelude.{IsTrue}
use Rattle.std.specs.List.{list_all}
use Rattle.std.proofs.lemmas.List.{length-set, take_more}
use Rattle.mono_graph.specs.Digraph.{has}
use Rattle.mono_graph.proofs.Membership.{all_at, list_all_push}
use Rattle.mono_graph.proofs.Prefixes.{has_again, marked_more, take_has}

-- the first i of the numbers are marked among so many marks, and each passes
pub record AreSeen (p : ℕ → Bool) (count : ℕ) (seen : List Bool) (xs : List ℕ) (i : ℕ) : Type 0 where
  pub len : length seen ≡ count
  pub marked : (u : ℕ) → get_or seen u false ≡ has (take i xs) u
  pub pass : IsTrue (list_all p (take i xs))

one_more : (xs : List ℕ) (i x : ℕ) → i < length xs → x ≡ get_or xs i 0 → take (i + 1) xs ≡ take i xs ++ x ∷ []
one_more xs i x lt is = take_more xs i 0 lt ∙ ap (λ (k : ℕ). take i xs ++ k ∷ []) (sym is)

pub seen_new : (p : ℕ → Bool) (count : ℕ) (seen : List Bool) (xs : List ℕ) (i x : ℕ) → i < length xs → x ≡ get_or xs i 0 → x < count
    → IsTrue (p x) → AreSeen p count seen xs i → AreSeen p count (set seen x true) xs (i + 1)
seen_new p count seen xs i x lt is within pass s =
    let more = one_more xs i x lt is in
    record {
      len = length-set seen x true ∙ s.len;
      marked = λ v. marked_more seen (take i xs) x (let e = s.len in omega arith) s.marked v ∙ ap (λ (ks : List ℕ). has ks v) (sym more);
      pass = subst (λ (ks : List ℕ). IsTrue (list_all p ks)) (sym more) (list_all_push p (take i xs) x s.pass pass);
    }

pub seen_again : (p : ℕ → Bool) (count : ℕ) (seen : List Bool) (xs : List ℕ) (i x : ℕ) → i < length xs → x ≡ get_or xs i 0
    → get_or seen x false ≡ true → AreSeen p count seen xs i → AreSeen p count seen xs (i + 1)
seen_again p count seen xs i x lt is on s =
    let more = one_more xs i x lt is in
    let there : IsTrue (has (take i xs) x) = sym (s.marked x) ∙ on in
    record {
      len = s.len;
      marked = λ v. s.marked v ∙ (sym (has_again (take i xs) x v there) ∙ ap (λ (ks : List ℕ). has ks v) (sym more));
      pass = subst (λ (ks : List ℕ). IsTrue (list_all p ks)) (sym more) (list_all_push p (take i xs) x s.pass (all_at p (take i xs) x s.pass there));
    }

-- with one more mark, only numbers of the list are marked
pub seen_marked : (p : ℕ → Bool) (count : ℕ) (seen : List Bool) (xs : List ℕ) (i x : ℕ) → i < length xs → x ≡ get_or xs i 0 → x < count
    → AreSeen p count seen xs i → (u : ℕ) → IsTrue (get_or (set seen x true) u false) → IsTrue (has xs u)
seen_marked p count seen xs i x lt is within s u h =
    let more = one_more xs i x lt is in
    take_has xs (i + 1) u (ap (λ (ks : List ℕ). has ks u) more ∙ (sym (marked_more seen (take i xs) x (let e = s.len in omega arith) s.marked u) ∙ h))
