-- What a word line says, by its tokens alone: a word and the fields of its form. The flag of a word's bound says that the
-- bound itself is excluded.
use Rattle.std.specs.Prelude.{ℕ, ◌+◌, ◌-◌, ◌^◌, Bool, true, false, not, ◌&&◌, ◌||◌, ◌==◌, if◌then◌else◌, nat_lt, ℤ, pos, ◌-ℤ◌, List, [], ◌∷◌, length, Option, Some, None, Result, Ok, Err, codes, slice_index, bytes_eq, drop}
use Rattle.mono_base.specs.declared.limits.TheConstants.{MAX_VARS, MAX_NODES, MAX_WEIGHT, MAX_BOUND}
use Rattle.mono_text.specs.Fields.{fields_of}
use Rattle.mono_text.specs.declared.number.NumberRefusal.{NumberRefusal}
use Rattle.mono_text.specs.declared.number.NumberRefusal.TheVariants as number
use Rattle.mono_text.specs.declared.field.FieldRefusal.{FieldRefusal}
use Rattle.mono_text.specs.declared.field.FieldRefusal.TheVariants as refusal
use Rattle.mono_problem.specs.declared.atom.Predicate.{Predicate}
use Rattle.mono_problem.specs.declared.atom.Predicate.TheVariants as kind
use Rattle.mono_gnf.specs.declared.fault.GnfFault.{GnfFault}
use Rattle.mono_gnf.specs.declared.fault.GnfFault.TheVariants as fault
use Rattle.mono_gnf.specs.declared.statement.BoundedKind.{BoundedKind}
use Rattle.mono_gnf.specs.declared.statement.BoundedKind.TheVariants as bounded_kind
use Rattle.mono_gnf.specs.declared.statement.Statement.{Statement}
use Rattle.mono_gnf.specs.declared.statement.Statement.TheVariants as says
use Rattle.mono_gnf.specs.declared.statement.Word.{Word}
use Rattle.mono_gnf.specs.declared.statement.Word.TheVariants as word

abbrev pub word_of : List ℕ → Option Word
word_of t =
    if bytes_eq t (codes "p") then Some word.Header
    else if bytes_eq t (codes "digraph") then Some word.Digraph
    else if bytes_eq t (codes "edge") then Some word.Edge
    else if bytes_eq t (codes "reach") then Some word.Reach
    else if bytes_eq t (codes "distance_leq") then Some (word.Bounded bounded_kind.Steps false)
    else if bytes_eq t (codes "distance_lt") then Some (word.Bounded bounded_kind.Steps true)
    else if bytes_eq t (codes "weighted_distance_leq") then Some (word.Bounded bounded_kind.Distance false)
    else if bytes_eq t (codes "weighted_distance_lt") then Some (word.Bounded bounded_kind.Distance true)
    else if bytes_eq t (codes "maximum_flow_geq") then Some (word.Bounded bounded_kind.Flow false)
    else if bytes_eq t (codes "maximum_flow_gt") then Some (word.Bounded bounded_kind.Flow true)
    else if bytes_eq t (codes "mst_weight_leq") then Some (word.Tree false)
    else if bytes_eq t (codes "mst_weight_lt") then Some (word.Tree true)
    else if bytes_eq t (codes "acyclic") then Some word.Acyclic
    else None

-- a refused field as a fault of the line
abbrev pub fault_of : FieldRefusal → GnfFault
fault_of refusal.Count = fault.FieldCount
fault_of (refusal.NotNumber k) = fault.NotNumber
fault_of (refusal.TooLarge k) = fault.TooLarge

-- a refused number as a fault of the line
abbrev pub number_fault_of : NumberRefusal → GnfFault
number_fault_of number.NotNumber = fault.NotNumber
number_fault_of number.TooLarge = fault.TooLarge

-- a number, or the fault that it is none
abbrev pub number_of : {A : Type 0} → Result A NumberRefusal → Result A GnfFault
number_of (Ok n) = Ok n
number_of (Err e) = Err (number_fault_of e)

-- what the fields say, where they are read
abbrev pub with_fields : Result (List ℕ) FieldRefusal → (List ℕ → Statement) → Result Statement GnfFault
with_fields (Ok fs) say = Ok (say fs)
with_fields (Err e) say = Err (fault_of e)

abbrev pub field : List ℕ → ℕ → ℕ
field fs k = slice_index fs k

-- ---- limits of fields

-- an identity, a node, a number that is advice: what 32 bits hold
abbrev pub MAX_WIDE : ℕ
MAX_WIDE = 2 ^ 32 - 1

-- ---- the forms, over the tokens behind the word

-- `p cnf V C`, `p gnf V C`
abbrev pub names_other_form : List (List ℕ) → Bool
names_other_form [] = false
names_other_form (t ∷ ts) = not (bytes_eq t (codes "cnf") || bytes_eq t (codes "gnf"))

abbrev pub header_of : List (List ℕ) → Result Statement GnfFault
header_of ts =
    if names_other_form ts then Err fault.UnknownWord
    else with_fields (fields_of (MAX_VARS ∷ MAX_WIDE ∷ []) (drop 1 ts)) (λ fs. says.Header (field fs 0))

-- `digraph N M G`, `digraph int N M G`
abbrev pub has_int : List (List ℕ) → Bool
has_int [] = false
has_int (t ∷ ts) = bytes_eq t (codes "int")

abbrev pub graph_of : List (List ℕ) → Result Statement GnfFault
graph_of ts =
    if length ts == 4 && not (has_int ts) then Err fault.WeightWord
    else with_fields (fields_of (MAX_NODES ∷ MAX_WIDE ∷ MAX_WIDE ∷ []) (if length ts == 4 then drop 1 ts else ts)) (λ fs. says.Graph (field fs 2) (field fs 0))

-- an edge by its first four fields and its weight
abbrev pub edge_by : List ℕ → ℕ → Statement
edge_by fs weight = says.Edge (field fs 0) (field fs 1) (field fs 2) (field fs 3) weight

-- `edge G u v x`, `edge G u v x w`
abbrev pub edge_of : List (List ℕ) → Result Statement GnfFault
edge_of ts =
    if length ts == 5 then with_fields (fields_of (MAX_WIDE ∷ MAX_WIDE ∷ MAX_WIDE ∷ MAX_VARS ∷ MAX_WEIGHT ∷ []) ts) (λ fs. edge_by fs (field fs 4))
    else with_fields (fields_of (MAX_WIDE ∷ MAX_WIDE ∷ MAX_WIDE ∷ MAX_VARS ∷ []) ts) (λ fs. edge_by fs 1)

-- an edge where its first four fields and its weight are read, or the fault of the first that isn't
abbrev pub edge_from : Result (List ℕ) FieldRefusal → Result ℕ NumberRefusal → Result Statement GnfFault
edge_from (Err e) weight = Err (fault_of e)
edge_from (Ok fs) (Err e) = Err (number_fault_of e)
edge_from (Ok fs) (Ok w) = Ok (edge_by fs w)

-- `lt k` is `leq` k - 1, which is -1 for 0 and never met then; `gt f` is `geq` f + 1
abbrev pub at_most : Bool → ℕ → ℤ
at_most strict k = if strict then pos k -ℤ pos 1 else pos k

abbrev pub at_least : Bool → ℕ → ℤ
at_least strict f = pos (if strict then f + 1 else f)

-- `reach G u v x`: x is true exactly where a walk leads from u to v
abbrev pub reach_of : List (List ℕ) → Result Statement GnfFault
reach_of ts =
    with_fields (fields_of (MAX_WIDE ∷ MAX_WIDE ∷ MAX_WIDE ∷ MAX_VARS ∷ []) ts)
    (λ fs. says.Atom (field fs 0) (field fs 3) (kind.Reach (field fs 1) (field fs 2)))

-- the forms with two nodes and a bound: `distance_leq G u v x k`, `maximum_flow_geq G s t x f` and those like them
abbrev pub bounded_by : BoundedKind → Bool → ℕ → ℕ → ℕ → Predicate
bounded_by bounded_kind.Steps strict u v k = kind.Steps u v (at_most strict k)
bounded_by bounded_kind.Distance strict u v k = kind.Distance u v (at_most strict k)
bounded_by bounded_kind.Flow strict u v f = kind.Flow u v (at_least strict f)

abbrev pub bounded_of : BoundedKind → Bool → List (List ℕ) → Result Statement GnfFault
bounded_of m strict ts =
    with_fields (fields_of (MAX_WIDE ∷ MAX_WIDE ∷ MAX_WIDE ∷ MAX_VARS ∷ MAX_BOUND ∷ []) ts)
    (λ fs. says.Atom (field fs 0) (field fs 3) (bounded_by m strict (field fs 1) (field fs 2) (field fs 4)))

-- `mst_weight_leq G x k`, `mst_weight_lt G x k`
abbrev pub tree_of : Bool → List (List ℕ) → Result Statement GnfFault
tree_of strict ts =
    with_fields (fields_of (MAX_WIDE ∷ MAX_VARS ∷ MAX_BOUND ∷ []) ts)
    (λ fs. says.Atom (field fs 0) (field fs 1) (kind.Tree (at_most strict (field fs 2))))

-- `acyclic G x`: x is true exactly where there is no cycle
abbrev pub acyclic_of : List (List ℕ) → Result Statement GnfFault
acyclic_of ts = with_fields (fields_of (MAX_WIDE ∷ MAX_VARS ∷ []) ts) (λ fs. says.Atom (field fs 0) (field fs 1) kind.Acyclic)

abbrev pub form_of : Word → List (List ℕ) → Result Statement GnfFault
form_of word.Header ts = header_of ts
form_of word.Digraph ts = graph_of ts
form_of word.Edge ts = edge_of ts
form_of word.Reach ts = reach_of ts
form_of (word.Bounded m strict) ts = bounded_of m strict ts
form_of (word.Tree strict) ts = tree_of strict ts
form_of word.Acyclic ts = acyclic_of ts

-- what a word line says, or the first of the checks on its text alone that it fails
unfoldable pub statement_of : List (List ℕ) → Result Statement GnfFault
statement_of [] = Err fault.UnknownWord
statement_of (t ∷ ts) = elim (word_of t) [ None ↦ Err fault.UnknownWord | Some w ↦ form_of w ts ]

-- ---- predicates

-- the nodes that the predicate names are below the number of nodes
abbrev pub has_ends : ℕ → Predicate → Bool
has_ends n (kind.Reach u v) = nat_lt u n && nat_lt v n
has_ends n (kind.Steps u v most) = nat_lt u n && nat_lt v n
has_ends n (kind.Distance u v most) = nat_lt u n && nat_lt v n
has_ends n (kind.Flow s t least) = nat_lt s n && nat_lt t n
has_ends n (kind.Tree most) = true
has_ends n kind.Acyclic = true

abbrev pub has_same_ends : Predicate → Bool
has_same_ends (kind.Flow s t least) = s == t
has_same_ends (kind.Reach u v) = false
has_same_ends (kind.Steps u v most) = false
has_same_ends (kind.Distance u v most) = false
has_same_ends (kind.Tree most) = false
has_same_ends kind.Acyclic = false
