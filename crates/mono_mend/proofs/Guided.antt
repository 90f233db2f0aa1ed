-- The nodes from which a search may go on, as one joins them or leaves them.
use Rattle.std.proofs.Common.{◌≡◌, ℕ, ◌<◌, List, [], ◌∷◌, sym, subst}
use Rattle.std.specs.Prelude.{All}
use Rattle.std.specs.List.Sorted.{IsPermutation}
use Rattle.std.proofs.lemmas.List.Elements.{All-nil, All-cons, All-head, All-tail}
use Rattle.std.proofs.lemmas.List.Sorted.{All-permutation}
use Rattle.mono_mend.specs.declared.frontier.Open.{Open}

pub none_within : (n : ℕ) (none : List Open) → none ≡ [] → All (λ (o : Open). o.node < n) none
none_within n none e = subst (λ (os : List Open). All (λ (o : Open). o.node < n) os) (sym e) (All-nil (λ (o : Open). o.node < n))

pub within_pushed : (n : ℕ) (olds news : List Open) (o : Open) → IsPermutation (o ∷ olds) news → o.node < n → All (λ (p : Open). p.node < n) olds → All (λ (p : Open). p.node < n) news
within_pushed n olds news o same lt all = All-permutation (λ (p : Open). p.node < n) (o ∷ olds) news same (All-cons (λ (p : Open). p.node < n) o olds lt all)

pub within_popped : (n : ℕ) (olds news : List Open) (o : Open) → IsPermutation olds (o ∷ news) → All (λ (p : Open). p.node < n) olds → (o.node < n) × All (λ (p : Open). p.node < n) news
within_popped n olds news o same all =
    let both = All-permutation (λ (p : Open). p.node < n) olds (o ∷ news) same all in
    (All-head (λ (p : Open). p.node < n) o news both, All-tail (λ (p : Open). p.node < n) o news both)
