-- Predicates on walks, as they are asked of a search, and what is known of predicates by their places.
use Rattle.std.specs.Prelude.{◌≡◌, ◌↔◌, ℕ, ◌<◌, ℤ, pos, Bool, false, List, Option, Some, None, length, slice_index_or, IsTrue}
use Rattle.mono_paths.specs.declared.measure.Measure.{Measure}
use Rattle.mono_paths.specs.declared.measure.Measure.TheVariants as measure
use Rattle.mono_paths.specs.declared.target.Target.{Target}
use Rattle.mono_problem.specs.declared.atom.Atom.{Atom}
use Rattle.mono_problem.specs.declared.atom.Predicate.{Predicate}
use Rattle.mono_problem.specs.declared.atom.Predicate.TheVariants as kind
use Rattle.mono_problem.specs.Instance.{Instance}
use Rattle.mono_problem.specs.Read.{no_atom}
use Rattle.mono_problem.specs.WellFormed.{IsMost}
use Rattle.mono_problem.specs.Holds.{HoldsAtom}
use Rattle.mono_check.specs.declared.question.WalkQuestion.{WalkQuestion}

-- the predicate that the question is
abbrev pub asks : Measure → ℕ → ℕ → ℤ → Predicate
asks measure.Free u v most = kind.Reach u v
asks measure.Steps u v most = kind.Steps u v most
asks measure.Weight u v most = kind.Distance u v most

-- it is the one at this place
pub record IsQuestionOf (x : Atom) (k : ℕ) (q : WalkQuestion) : Type 0 where
  pub graph : q.graph ≡ x.graph
  pub predicate : x.predicate ≡ asks q.measure q.from q.to q.most
  pub place : q.place ≡ k
  pub free : q.measure ≡ measure.Free → q.most ≡ pos 0

-- the atom at a place, from 0
abbrev pub atom_at : Instance → ℕ → Atom
atom_at p k = slice_index_or p.atoms k no_atom

-- it is a question about the problem, within the limits
pub record IsQuestion (p : Instance) (q : WalkQuestion) : Type 0 where
  pub place : q.place < length p.atoms
  pub graph : q.graph ≡ (atom_at p q.place).graph
  pub predicate : (atom_at p q.place).predicate ≡ asks q.measure q.from q.to q.most
  pub most : IsMost q.most

-- one search answers both
pub record AreAlike (q r : WalkQuestion) : Type 0 where
  pub graph : r.graph ≡ q.graph
  pub from : r.from ≡ q.from
  pub measure : r.measure ≡ q.measure

abbrev pub no_question : WalkQuestion
no_question = record { graph = 0; from = 0; measure = measure.Free; to = 0; most = pos 0; place = 0 }

abbrev pub question_at : List WalkQuestion → ℕ → WalkQuestion
question_at qs i = slice_index_or qs i no_question

abbrev pub target_of : WalkQuestion → Target
target_of q = record { node = q.to; most = q.most }

-- ---- what is known by place

abbrev pub truth_at : List (Option Bool) → ℕ → Option Bool
truth_at truths k = slice_index_or truths k None

-- what is known is so: the predicate holds exactly where its truth is
pub record AreTruths (p : Instance) (a : ℕ → Bool) (truths : List (Option Bool)) : Type 0 where
  pub len : length truths ≡ length p.atoms
  pub each : (k : ℕ) (b : Bool) → k < length p.atoms → truth_at truths k ≡ Some b → IsTrue b ↔ HoldsAtom p a (atom_at p k)

-- one of the answers says so of the place
abbrev pub IsAnswered : List WalkQuestion → List Bool → ℕ → Bool → Type 0
IsAnswered qs answers k b = (i : ℕ) × (i < length qs) × ((question_at qs i).place ≡ k) × (slice_index_or answers i false ≡ b)
