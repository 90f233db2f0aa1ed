-- The theories of the worked rows.
use Rattle.std.proofs.Common.{◌≡◌, ℕ, ◌<◌, false, true, [], ◌∷◌, length, refl, arith, All}
use Rattle.std.proofs.lemmas.List.Elements.{All-cons, All-nil}
use Rattle.mono_graph.specs.Worked.{parallel}
use Rattle.mono_problem.specs.declared.atom.Atom.{Atom}
use Rattle.mono_problem.specs.Read.{atom_numbered, no_atom}
use Rattle.mono_theory.specs.Theories.{Facts, owns_of}
use Rattle.mono_kinds.specs.Sharing.{AreByGraphAndKind, are_alike}
use Rattle.mono_kinds.specs.Worked.{four_atoms, owner, owners}

-- ---- short lists

one : {X : Type 0} (P : X → Type 0) (a : X) → P a → All P (a ∷ [])
one P a h = All-cons P a [] h (All-nil P)

two : {X : Type 0} (P : X → Type 0) (a b : X) → P a → P b → All P (a ∷ b ∷ [])
two P a b h i = All-cons P a (b ∷ []) h (one P b i)

three : {X : Type 0} (P : X → Type 0) (a b c : X) → P a → P b → P c → All P (a ∷ b ∷ c ∷ [])
three P a b c h i j = All-cons P a (b ∷ c ∷ []) h (two P b c i j)

four : {X : Type 0} (P : X → Type 0) (a b c d : X) → P a → P b → P c → P d → All P (a ∷ b ∷ c ∷ d ∷ [])
four P a b c d h i j k = All-cons P a (b ∷ c ∷ d ∷ []) h (three P b c d i j k)

-- ---- theories by graph and kind

-- the atom of a number, from 1
abbrev at : ℕ → Atom
at n = atom_numbered four_atoms n

abbrev Some : Facts → Type 0
Some f = 0 < length f.atoms

-- the theory owns the atoms that are like this one, and no others
abbrev Owns : Facts → Atom → Type 0
Owns f x = All (λ y. owns_of f.atoms y.number ≡ are_alike x y) four_atoms.atoms

owns : (f : Facts) (x : Atom) → owns_of f.atoms 1 ≡ are_alike x (at 1) → owns_of f.atoms 2 ≡ are_alike x (at 2) → owns_of f.atoms 3 ≡ are_alike x (at 3) → owns_of f.atoms 4 ≡ are_alike x (at 4) → Owns f x
owns f x a b c d = four (λ y. owns_of f.atoms y.number ≡ are_alike x y) (at 1) (at 2) (at 3) (at 4) a b c d

abbrev Shares : Facts → Type 0
Shares f = All (Owns f) f.atoms

first_two : Shares (owner (1 ∷ 2 ∷ []))
first_two = two (Owns (owner (1 ∷ 2 ∷ []))) (at 1) (at 2) (owns (owner (1 ∷ 2 ∷ [])) (at 1) refl refl refl refl) (owns (owner (1 ∷ 2 ∷ [])) (at 2) refl refl refl refl)

second_and_first : Shares (owner (2 ∷ 1 ∷ []))
second_and_first = two (Owns (owner (2 ∷ 1 ∷ []))) (at 2) (at 1) (owns (owner (2 ∷ 1 ∷ [])) (at 2) refl refl refl refl) (owns (owner (2 ∷ 1 ∷ [])) (at 1) refl refl refl refl)

third : Shares (owner (3 ∷ []))
third = one (Owns (owner (3 ∷ []))) (at 3) (owns (owner (3 ∷ [])) (at 3) refl refl refl refl)

fourth : Shares (owner (4 ∷ []))
fourth = one (Owns (owner (4 ∷ []))) (at 4) (owns (owner (4 ∷ [])) (at 4) refl refl refl refl)

pub shared : AreByGraphAndKind four_atoms (owners ((1 ∷ 2 ∷ []) ∷ (3 ∷ []) ∷ (4 ∷ []) ∷ []))
shared = record {
  none_empty = three Some (owner (1 ∷ 2 ∷ [])) (owner (3 ∷ [])) (owner (4 ∷ [])) (omega arith) (omega arith) (omega arith);
  shared = three Shares (owner (1 ∷ 2 ∷ [])) (owner (3 ∷ [])) (owner (4 ∷ [])) first_two third fourth;
}

pub in_another_order : AreByGraphAndKind four_atoms (owners ((4 ∷ []) ∷ (2 ∷ 1 ∷ []) ∷ (3 ∷ []) ∷ []))
in_another_order = record {
  none_empty = three Some (owner (4 ∷ [])) (owner (2 ∷ 1 ∷ [])) (owner (3 ∷ [])) (omega arith) (omega arith) (omega arith);
  shared = three Shares (owner (4 ∷ [])) (owner (2 ∷ 1 ∷ [])) (owner (3 ∷ [])) fourth second_and_first third;
}

-- ---- and others

no_theory : Facts
no_theory = record { graph = parallel 1 1; atoms = []; seen = [] }

-- the first atom and the second don't share the first theory
pub apart : AreByGraphAndKind four_atoms (owners ((1 ∷ []) ∷ (2 ∷ []) ∷ (3 ∷ []) ∷ (4 ∷ []) ∷ [])) → ⊥
apart h = let e : false ≡ true = h.shared 0 no_theory (omega arith) 0 no_atom (omega arith) 1 no_atom (omega arith) in cc

-- the first and the third do
pub over_a_graph : AreByGraphAndKind four_atoms (owners ((1 ∷ 2 ∷ 3 ∷ []) ∷ (4 ∷ []) ∷ [])) → ⊥
over_a_graph h = let e : true ≡ false = h.shared 0 no_theory (omega arith) 0 no_atom (omega arith) 2 no_atom (omega arith) in cc

-- the third and the fourth share the second theory
pub of_a_kind : AreByGraphAndKind four_atoms (owners ((1 ∷ 2 ∷ []) ∷ (3 ∷ 4 ∷ []) ∷ [])) → ⊥
of_a_kind h = let e : true ≡ false = h.shared 1 no_theory (omega arith) 0 no_atom (omega arith) 3 no_atom (omega arith) in cc

pub of_all : AreByGraphAndKind four_atoms (owners ((1 ∷ 2 ∷ 3 ∷ 4 ∷ []) ∷ [])) → ⊥
of_all h = let e : true ≡ false = h.shared 0 no_theory (omega arith) 0 no_atom (omega arith) 3 no_atom (omega arith) in cc

-- the second theory has no atom
pub without_atoms : AreByGraphAndKind four_atoms (owners ((1 ∷ 2 ∷ []) ∷ [] ∷ (3 ∷ []) ∷ (4 ∷ []) ∷ [])) → ⊥
without_atoms h = let some : 0 < 0 = h.none_empty 1 no_theory (omega arith) in omega (arith, some)
