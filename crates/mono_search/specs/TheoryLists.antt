-- Lists of theories: what each has seen of a trail, who owns an atom, and what one of them forces or explains.
use Rattle.mono_base.specs.Partial.{is_open_in}
use Rattle.std.specs.Prelude.{◌≡◌, ℕ, ◌<◌, ◌≤◌, Bool, false, ℤ, List, [], ◌∷◌, ◌++◌, length, take, filter, find, Option, Some, None, MatchOption, All, Any, if◌then◌else◌, ◌+◌, ◌-◌, IsTrue, slice_index_or}
use Rattle.mono_base.specs.Literal.{var_of}
use Rattle.mono_base.specs.declared.limits.TheConstants.{MAX_VARS}
use Rattle.mono_graph.specs.Digraph.{has}
use Rattle.mono_problem.specs.Quiet.{TheoryQuiet}
use Rattle.mono_steps.specs.declared.lemma.Lemma.{Lemma}
use Rattle.mono_theory.specs.Theories.{Facts, concerns_of, owns_of, ForcesBy, IsLemmaOf, IsUnitLemma, IsForced}
use Rattle.mono_theory.specs.declared.theory.UnitLemma.{UnitLemma}
use Rattle.mono_search.specs.declared.theories.Forced.{Forced}

-- ---- what a theory has seen

-- the literals that concern a theory, in order
abbrev pub concerning : Facts → List ℤ → List ℤ
concerning f t = filter (λ l. concerns_of f.graph f.atoms (var_of l)) t

-- the theory has seen exactly those
abbrev pub IsCurrent : List ℤ → Facts → Type 0
IsCurrent t f = f.seen ≡ concerning f t

-- the theory once it has seen exactly those
abbrev pub with_seen : List ℤ → Facts → Facts
with_seen t f = record { graph = f.graph; atoms = f.atoms; seen = concerning f t }

-- the theory once the literal was handed on
abbrev pub handed_on : ℤ → Facts → Facts
handed_on l f = record { graph = f.graph; atoms = f.atoms; seen = f.seen ++ concerning f (l ∷ []) }

-- the theory without the last `count` literals that it has seen
abbrev pub without_last : ℕ → Facts → Facts
without_last count f = record { graph = f.graph; atoms = f.atoms; seen = take (length f.seen - count) f.seen }

-- the literal concerns the theory, which has seen nothing of its variable
pub record MaySee (l : ℤ) (f : Facts) : Type 0 where
  pub concerned : IsTrue (concerns_of f.graph f.atoms (var_of l))
  pub fresh : IsTrue (is_open_in f.seen l)

abbrev pub IsQuietTheory : Facts → Type 0
IsQuietTheory f = TheoryQuiet f.graph f.atoms f.seen

-- the theory has seen so few literals that their number is a u32
abbrev pub IsShort : Facts → Type 0
IsShort f = length f.seen ≤ MAX_VARS

-- each theory that isn't listed is quiet
pub record OthersAreQuiet (fs : List Facts) (listed : List Bool) : Type 0 where
  pub count : length listed ≡ length fs
  pub quiet : (i : ℕ) (f : Facts) → i < length fs → slice_index_or listed i false ≡ false → IsQuietTheory (slice_index_or fs i f)

-- the theories that were listed still are, and so are those for which something is counted
pub record AreListed (counts : List ℕ) (old new : List Bool) : Type 0 where
  pub as_many : length new ≡ length old
  pub stay : (p : ℕ) → IsTrue (slice_index_or old p false) → IsTrue (slice_index_or new p false)
  pub counted : (p : ℕ) → 0 < slice_index_or counts p 0 → IsTrue (slice_index_or new p false)

-- ---- what concerns whom

-- the theories that the variable concerns, by their places, which count from n
abbrev pub concerned_from : ℕ → List Facts → ℕ → List ℕ
concerned_from n [] v = []
concerned_from n (f ∷ fs) v = if concerns_of f.graph f.atoms v then n ∷ concerned_from (n + 1) fs v else concerned_from (n + 1) fs v

-- the table has these for each variable from 1 to `vars`
pub record IsConcernTable (vars : ℕ) (fs : List Facts) (table : List (List ℕ)) : Type 0 where
  pub keys : length table ≡ vars + 1
  pub at : (v : ℕ) → 1 ≤ v → v ≤ vars → slice_index_or table v [] ≡ concerned_from 0 fs v

-- the theory at a place joins the lists of the variables that concern it
pub record AddsTheory (vars : ℕ) (f : Facts) (place : ℕ) (old new : List (List ℕ)) : Type 0 where
  pub keys : length new ≡ length old
  pub at : (v : ℕ) → 1 ≤ v → v ≤ vars
      → slice_index_or new v [] ≡ slice_index_or old v [] ++ (if concerns_of f.graph f.atoms v then place ∷ [] else [])

-- the place joins the lists of these variables
pub record AddsPlace (vars : ℕ) (vs : List ℕ) (place : ℕ) (old new : List (List ℕ)) : Type 0 where
  pub keys : length new ≡ length old
  pub at : (v : ℕ) → v ≤ vars → slice_index_or new v [] ≡ slice_index_or old v [] ++ (if has vs v then place ∷ [] else [])

-- ---- who owns an atom

-- what the theory that owns the atom has seen; what it sees of a list
abbrev pub seen_of : List Facts → ℕ → List ℤ
seen_of [] n = []
seen_of (f ∷ fs) n = if owns_of f.atoms n then f.seen else seen_of fs n

abbrev pub shown_of : List Facts → List ℤ → ℕ → List ℤ
shown_of [] t n = []
shown_of (f ∷ fs) t n = if owns_of f.atoms n then concerning f t else shown_of fs t n

-- the first theory that owns the atom
abbrev pub owner_of : List Facts → ℕ → Option Facts
owner_of fs n = find (λ f. owns_of f.atoms n) fs

-- the theory at the place owns the atom
pub record IsOwnedAt (fs : List Facts) (n k : ℕ) : Type 0 where
  pub within : k < length fs
  pub owns : (f : Facts) → IsTrue (owns_of (slice_index_or fs k f).atoms n)

-- each entry names a theory that owns the atom, and there is one for each atom that a theory owns
pub record AreOwners (fs : List Facts) (owners : List (Option ℕ)) : Type 0 where
  pub fits : All (λ f. (n : ℕ) → IsTrue (owns_of f.atoms n) → n < length owners) fs
  pub named : (n k : ℕ) → slice_index_or owners n None ≡ Some k → IsOwnedAt fs n k

-- ---- what is forced, and explained

-- what one theory forces, by all that it has seen
pub record ForcesIt (r : Forced) (f : Facts) : Type 0 where
  pub kept : r.kept ≡ length f.seen
  pub forced : IsForced f.graph f.atoms f.seen r.atom r.lit

abbrev pub AnyForces : List Facts → Forced → Type 0
AnyForces fs r = Any (ForcesIt r) fs

-- the lemma is one of a theory, and is unit under all that it has seen
abbrev pub GivesIt : UnitLemma → Facts → Type 0
GivesIt u f = IsUnitLemma f.graph f.atoms f.seen u.lit u.lemma

abbrev pub AnyGives : List Facts → UnitLemma → Type 0
AnyGives fs u = Any (GivesIt u) fs

-- one of the theories forces it, or none forces anything
abbrev pub IsAnswer : List Facts → Option Forced → Type 0
IsAnswer fs r = MatchOption r (All IsQuietTheory fs) (AnyForces fs)

-- the theory's atom forces the literal by the first `kept` literals that it has seen
pub record ExplainsIt (n : ℕ) (l : ℤ) (kept : ℕ) (f : Facts) : Type 0 where
  pub within : kept ≤ length f.seen
  pub forces : ForcesBy f.graph f.atoms (take kept f.seen) n l

abbrev pub CanExplain : List Facts → ℕ → ℤ → ℕ → Type 0
CanExplain fs n l kept = MatchOption (owner_of fs n) ⊥ (ExplainsIt n l kept)

abbrev pub IsLemmaBy : List Facts → ℕ → ℤ → ℕ → Lemma → Type 0
IsLemmaBy fs n l kept m = MatchOption (owner_of fs n) ⊥ (λ f. IsLemmaOf f.graph f.atoms (take kept f.seen) n l m)
