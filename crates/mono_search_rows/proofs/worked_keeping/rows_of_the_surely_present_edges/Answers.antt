use Rattle.std.proofs.Common.{◌≡◌, ◌<◌, ℕ, zero, suc, true, false, [], ◌∷◌, refl, ap, arith}
use Rattle.std.specs.Prelude.{IsTrue, slice_index_or}
use Rattle.mono_graph.specs.declared.limit.Limit.TheVariants as limit
use Rattle.mono_dynamic.specs.declared.walk_target.WalkTarget.{WalkTarget}
use Rattle.mono_dynamic.specs.Ways.{no_target}
use Rattle.mono_dynamic.specs.Worked.{walks_from}
use Rattle.mono_problem.specs.declared.atom.Atom.{Atom}
use Rattle.mono_problem.specs.Read.{no_atom}
use Rattle.mono_theory.specs.Asked.{asks_walk, source_at, HasTarget, IsSourceFor}
use Rattle.mono_theory.specs.Supports.{atom_at}
use Rattle.mono_theory.specs.Worked.{reaches}
use Rattle.mono_search_rows.proofs.worked_keeping.rows_of_the_surely_present_edges.Goals as goal

asks : (a : ℕ) (d : Atom) → a < 1 → IsTrue (asks_walk (slice_index_or reaches a d).predicate)
asks zero d lt = refl
asks (suc a) d lt = absurd (omega (arith, lt))

row : (i d : ℕ) → i < 1 → slice_index_or (1 ∷ []) i d ≡ 1
row zero d lt = refl
row (suc i) d lt = absurd (omega (arith, lt))

served : (a : ℕ) → a < 1 → (slice_index_or (0 ∷ []) a 0 < 1) × IsSourceFor (atom_at reaches a).predicate (source_at (walks_from 0 limit.Free 1 ∷ []) (slice_index_or (0 ∷ []) a 0))
served zero lt = (omega arith, record { node = refl; alike = refl; beyond = refl })
served (suc a) lt = absurd (omega (arith, lt))

target : (a : ℕ) (d : WalkTarget) → a < 1 → HasTarget (atom_at reaches a).predicate (slice_index_or (record { node = 1; limit = limit.Free } ∷ []) a d)
target zero d lt = record { asks = refl; is = refl }
target (suc a) d lt = absurd (omega (arith, lt))

known : (a : ℕ) (d : WalkTarget) → a < 1 → (slice_index_or (record { node = 1; limit = limit.Free } ∷ []) a d).node < 2
known zero d lt = omega arith
known (suc a) d lt = absurd (omega (arith, lt))

pub returns-clause-theirs : goal.returns-clause-theirs
returns-clause-theirs c = record {
  covered = record { each = asks };
  sources = walks_from 0 limit.Free 1 ∷ [];
  as_many = refl;
  rows = row;
  served = record { len = refl; each = served };
  targets = record { len = refl; each = target };
  known = known;
}

pub returns-clause-of_another_kind : goal.returns-clause-of_another_kind
returns-clause-of_another_kind c = λ h. let e : false ≡ true = h.covered.each 0 no_atom (omega arith) in cc

pub returns-clause-no_rows : goal.returns-clause-no_rows
returns-clause-no_rows c = λ h. let none = h.as_many in let some = (h.served.each 0 (omega arith)).0 in omega (arith, none, some)

pub returns-clause-row_behind : goal.returns-clause-row_behind
returns-clause-row_behind c = λ h. let e : 0 ≡ 1 = h.rows 0 0 (omega arith) in omega (arith, e)

pub returns-clause-no_such_row : goal.returns-clause-no_such_row
returns-clause-no_such_row c = λ h. let one = h.as_many in let more = (h.served.each 0 (omega arith)).0 in omega (arith, one, more)

pub returns-clause-another_target : goal.returns-clause-another_target
returns-clause-another_target c = λ h. let e : 0 ≡ 1 = ap (λ (t : WalkTarget). t.node) (h.targets.each 0 no_target (omega arith)).is in omega (arith, e)

pub returns-clause-no_such_node : goal.returns-clause-no_such_node
returns-clause-no_such_node c = λ h. let e : 2 < 2 = h.known 0 no_target (omega arith) in omega (arith, e)
