-- The faults of a `v` line, check after check.
use Rattle.std.proofs.Common.{◌≡◌, Bool, true, false, not, ◌&&◌, ◌||◌, List, ◌++◌, length, Option, Some, None, refl, ℤ}
use Rattle.std.specs.Prelude.{nat_lt, if◌then◌else◌}
use Rattle.mono_problem.specs.Instance.{Instance}
use Rattle.mono_answer.specs.declared.item.Item.TheVariants as says
use Rattle.mono_check.specs.declared.reason.Reason.{Reason}
use Rattle.mono_check.specs.declared.reason.Reason.TheVariants as reason
use Rattle.mono_check.specs.Values.{are_values, has_end, literals_among, passes_end, value_fault}

abbrev pub told : Bool → Bool → Bool → Option Reason
told a b c = if a then Some reason.BadLine else if not b || c then Some reason.ModelVariables else None

is_told : (a b c x y z : Bool) → a ≡ x → b ≡ y → c ≡ z → told x y z ≡ told a b c
is_told a b c x y z e f g = rw (e, f, g) refl

pub behind_end : (p : Instance) (lits : List ℤ) (ended : Bool) (zs : List ℤ) → passes_end ended zs ≡ true → Some reason.BadLine ≡ value_fault p lits ended (Some (says.Values zs))
behind_end p lits ended zs e =
    let b = are_values p (lits ++ literals_among zs) in
    let c = has_end zs && nat_lt (length (lits ++ literals_among zs)) p.vars in
    is_told (passes_end ended zs) b c true b c e refl refl

pub no_values : (p : Instance) (lits : List ℤ) (ended : Bool) (zs : List ℤ) → passes_end ended zs ≡ false → are_values p (lits ++ literals_among zs) ≡ false → Some reason.ModelVariables ≡ value_fault p lits ended (Some (says.Values zs))
no_values p lits ended zs e f =
    let b = are_values p (lits ++ literals_among zs) in
    let c = has_end zs && nat_lt (length (lits ++ literals_among zs)) p.vars in
    is_told (passes_end ended zs) b c false false c e f refl

pub some_missing : (p : Instance) (lits : List ℤ) (ended : Bool) (zs : List ℤ) → passes_end ended zs ≡ false → are_values p (lits ++ literals_among zs) ≡ true → (has_end zs && nat_lt (length (lits ++ literals_among zs)) p.vars) ≡ true
    → Some reason.ModelVariables ≡ value_fault p lits ended (Some (says.Values zs))
some_missing p lits ended zs e f g =
    let b = are_values p (lits ++ literals_among zs) in
    let c = has_end zs && nat_lt (length (lits ++ literals_among zs)) p.vars in
    is_told (passes_end ended zs) b c false true true e f g

pub no_fault : (p : Instance) (lits : List ℤ) (ended : Bool) (zs : List ℤ) → passes_end ended zs ≡ false → are_values p (lits ++ literals_among zs) ≡ true → (has_end zs && nat_lt (length (lits ++ literals_among zs)) p.vars) ≡ false
    → None ≡ value_fault p lits ended (Some (says.Values zs))
no_fault p lits ended zs e f g =
    let b = are_values p (lits ++ literals_among zs) in
    let c = has_end zs && nat_lt (length (lits ++ literals_among zs)) p.vars in
    is_told (passes_end ended zs) b c false true false e f g
