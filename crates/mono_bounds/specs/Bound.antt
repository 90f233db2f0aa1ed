-- The bounds of a graph as they are kept: a part of the edges that are surely present, and one of those that are possibly present.
use Rattle.std.specs.Prelude.{◌≡◌, ℕ, Bool, true, false, not, ℤ, pos, nat_abs, int_lt, List, length, map, if◌then◌else◌}
use Rattle.mono_base.specs.Partial.{is_true_in, is_false_in}
use Rattle.mono_graph.specs.Digraph.{Digraph}
use Rattle.mono_bounds.specs.Index.{switched}

-- by place: the variables, which are true, and which aren't false. Also the places in the order of their variables
pub record Bound : Type 0 where
  pub vars : List ℕ
  pub places : List ℕ
  pub under : List Bool
  pub over : List Bool

-- both parts have a place for each variable
pub record HasPlaces (vars : List ℕ) (P Q : List Bool) : Type 0 where
  pub surely : length P ≡ length vars
  pub possibly : length Q ≡ length vars

-- a true variable's edges are surely present, a false one's not even possibly
abbrev pub assigned : Bound → ℤ → Bound
assigned b l = record {
  vars = b.vars;
  places = b.places;
  under = (if int_lt (pos 0) l then switched b.vars (nat_abs l) true b.under else b.under);
  over = (if int_lt (pos 0) l then b.over else switched b.vars (nat_abs l) false b.over);
}

-- where a variable has no value, its edges are possibly present, and not surely
abbrev pub unassigned : Bound → ℤ → Bound
unassigned b l = record {
  vars = b.vars;
  places = b.places;
  under = (if int_lt (pos 0) l then switched b.vars (nat_abs l) false b.under else b.under);
  over = (if int_lt (pos 0) l then b.over else switched b.vars (nat_abs l) true b.over);
}

abbrev pub edge_vars : Digraph → List ℕ
edge_vars g = map (λ e. e.var) g.edges

-- the bounds of these variables under the list
pub record IsBoundUnder (b : Bound) (vs : List ℕ) (t : List ℤ) : Type 0 where
  pub vars : b.vars ≡ vs
  pub surely : b.under ≡ map (λ v. is_true_in t (pos v)) vs
  pub possibly : b.over ≡ map (λ v. not (is_false_in t (pos v))) vs
