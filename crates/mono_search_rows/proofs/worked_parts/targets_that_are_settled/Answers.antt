use Rattle.std.proofs.Common.{◌≡◌, ℕ, zero, suc, ◌<◌, true, false, [], ◌∷◌, get_or, refl, arith, None, Some}
use Rattle.mono_dynamic.specs.declared.walk_target.WalkTarget.{WalkTarget}
use Rattle.mono_dynamic.specs.Targets.{is_lacking}
use Rattle.mono_dynamic.specs.Ways.{no_target}
use Rattle.mono_dynamic.specs.Worked.{known_by, with_way, within_weight}
use Rattle.mono_search_rows.proofs.worked_parts.targets_that_are_settled.Goals as goal

none_lacks : (i : ℕ) (d : WalkTarget) → i < 1 → is_lacking (known_by (with_way 0 1) (Some 0) None) (get_or (within_weight 3 ∷ []) i d) ≡ false
none_lacks zero d lt = refl
none_lacks (suc i) d lt = absurd (omega (arith, lt))

pub returns-clause-all : goal.returns-clause-all
returns-clause-all c = record { settled = refl; all = (λ yes. none_lacks, λ none. refl) }

pub returns-clause-not_all : goal.returns-clause-not_all
returns-clause-not_all c = record { settled = refl; all = (λ no. absurd cc, λ none. let e : true ≡ false = none 0 no_target (omega arith) in absurd cc) }

pub returns-clause-one_lacking : goal.returns-clause-one_lacking
returns-clause-one_lacking c = λ h. let e : true ≡ false = h.all.0 refl 0 no_target (omega arith) in cc

pub returns-clause-none_lacking : goal.returns-clause-none_lacking
returns-clause-none_lacking c = λ h. let e : false ≡ true = h.all.1 none_lacks in cc
