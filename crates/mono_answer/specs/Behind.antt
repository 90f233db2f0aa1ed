-- Tokens of a line behind its first.
use Rattle.std.specs.Prelude.{ℕ, List, ◌∷◌, flat_map}

-- each token behind a space
abbrev pub behind : List (List ℕ) → List ℕ
behind ts = flat_map (λ t. 32 ∷ t) ts
