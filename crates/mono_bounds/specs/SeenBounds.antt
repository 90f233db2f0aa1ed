-- The bounds of a list of literals, and where the places of each literal's variable stand.
use Rattle.std.specs.Prelude.{◌≡◌, ℕ, ◌<◌, ℤ, List, length, slice_index_or}
use Rattle.mono_base.specs.Literal.{var_of}
use Rattle.mono_bounds.specs.declared.span.Span.{Span}
use Rattle.mono_bounds.specs.Bound.{Bound, IsBoundUnder}
use Rattle.mono_bounds.specs.Index.{IsSpanOf}

-- the bounds, where the places of each literal stand, and for how many literals there is room
pub record SeenBound : Type 0 where
  pub bound : Bound
  pub spans : List Span
  pub cells : ℕ

abbrev pub no_span : Span
no_span = record { start = 0; end = 0 }

abbrev pub span_at : List Span → ℕ → Span
span_at spans i = slice_index_or spans i no_span

-- for each literal its span, where the places of its variable stand
pub record AreSpansOf (b : Bound) (t : List ℤ) (spans : List Span) : Type 0 where
  pub len : length spans ≡ length t
  pub each : (i : ℕ) (l : ℤ) → i < length t → slice_index_or t i l ≡ l → IsSpanOf b.vars b.places (var_of l) (span_at spans i)

-- the bounds of these variables under the list
pub record IsSeenBound (s : SeenBound) (vs : List ℕ) (t : List ℤ) : Type 0 where
  pub bound : IsBoundUnder s.bound vs t
  pub spans : AreSpansOf s.bound t s.spans
