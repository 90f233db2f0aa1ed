use Rattle.std.proofs.Common.{subst}
use Rattle.std.specs.Prelude.{pos, All}
use Rattle.std.specs.Ordering.{int_eq}
use Rattle.std.specs.List.{IsDistinct}
use Rattle.std.proofs.lemmas.List.{get_or_default}
use Rattle.mono_base.specs.Literal.{IsLitWithin}
use Rattle.mono_base.specs.LitSet.{LiteralSet}
use Rattle.mono_base.proofs.Sparse.{distinct_members}
use Rattle.mono_base.proofs.lit_set.LitSet.members.Goals as goal

pub returns-clause-distinct : goal.returns-clause-distinct
returns-clause-distinct c = subst (λ (s : LiteralSet). IsDistinct int_eq s.members) c.self.view_is (distinct_members c.self.inside.places.items c.self.inside.members.items c.self.invariant.indexed)

pub returns-clause-within : goal.returns-clause-within
returns-clause-within c =
    let each : All (IsLitWithin c.self.inside.vars) c.self.inside.members.items = λ k d below. subst (IsLitWithin c.self.inside.vars) (get_or_default c.self.inside.members.items k (pos 0) d below) (c.self.invariant.within k below) in
    subst (λ (s : LiteralSet). All (IsLitWithin s.vars) s.members) c.self.view_is each
