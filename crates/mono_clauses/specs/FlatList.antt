-- How one flat list of literals holds clauses.
use Rattle.std.specs.Prelude.{ℕ, ℤ, pos, ◌≤◌, ◌<◌, List, length, slice_index_or, slice_range}
pub use Rattle.mono_clauses.specs.ClauseList.{ClausesView}
use Rattle.mono_clauses.specs.ClauseValues.{AllVars}
use Rattle.mono_clauses.specs.Lists.{Stands}
use Rattle.mono_clauses.specs.Store.{Held}
use Rattle.mono_clauses.specs.declared.clauses.Entry.{Entry}

-- the clause that a part of the flat list makes
abbrev pub clause_of : List ℤ → Entry → Held
clause_of flat h = record { number = h.number; lits = slice_range flat h.start h.end }

abbrev pub no_entry : Entry
no_entry = record { number = 0; start = 0; end = 0; cached = pos 1 }

-- the parts lie within the list, and the cached literal of each clause is one of its own
pub record IsFlat (vars : ℕ) (flat : List ℤ) (held : List Entry) : Type 0 where
  pub starts : (k : ℕ) → k < length held → (slice_index_or held k no_entry).start ≤ (slice_index_or held k no_entry).end
  pub ends : (k : ℕ) → k < length held → (slice_index_or held k no_entry).end ≤ length flat
  pub ranged : AllVars vars flat
  pub are_cached : (k : ℕ) → k < length held → 0 < length (clause_of flat (slice_index_or held k no_entry)).lits
      → Stands (clause_of flat (slice_index_or held k no_entry)).lits (slice_index_or held k no_entry).cached
