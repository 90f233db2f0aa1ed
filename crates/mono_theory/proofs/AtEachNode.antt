-- A loop over nodes that adds a list for each.
use Rattle.std.proofs.Common.{◌≡◌, ℕ, ◌+◌, ◌<◌, ◌≤◌, List, [], ◌++◌, take, length, get_or, sym, ap, ◌∙◌}
use Rattle.std.specs.Prelude.{flat_map}
use Rattle.std.proofs.lemmas.List.{flat_map_more, take_more, take_all}

pub one_node_more : (f : ℕ → List ℕ) (us : List ℕ) (i : ℕ) (before after : List ℕ) → i < length us → before ≡ flat_map f (take i us) → after ≡ before ++ f (get_or us i 0) → after ≡ flat_map f (take (i + 1) us)
one_node_more f us i before after lt was now =
    now ∙ ap (λ (xs : List ℕ). xs ++ f (get_or us i 0)) was ∙ flat_map_more f [] (take i us) (get_or us i 0) ∙ sym (ap (λ (vs : List ℕ). flat_map f vs) (take_more us i 0 lt))

pub every_node : (f : ℕ → List ℕ) (us : List ℕ) (i : ℕ) (all : List ℕ) → length us ≤ i → all ≡ flat_map f (take i us) → all ≡ flat_map f us
every_node f us i all end was = was ∙ ap (λ (vs : List ℕ). flat_map f vs) (take_all i us end)
