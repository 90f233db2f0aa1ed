-- what holds of evidence, and of the other where it is there, holds of the lighter of the two
use Rattle.std.proofs.Common.{nat_lt, Bool, true, false, length, IfSome, Option, None, Some, if◌then◌else◌}
use Rattle.mono_theory.specs.declared.evidence.Evidence.{Evidence}
use Rattle.mono_theory.specs.Evidences.{lighter}

chosen_shows : (P : Evidence → Type 0) (b : Bool) (x y : Evidence) → P x → P y → P (if b then x else y)
chosen_shows P true x y p q = p
chosen_shows P false x y p q = q

pub lighter_shows : (P : Evidence → Type 0) (near : Evidence) (far : Option Evidence) → P near → IfSome far P → P (lighter near far)
lighter_shows P near None n f = n
lighter_shows P near (Some other) n f = chosen_shows P (nat_lt (length other.edges) (length near.edges)) other near f n
