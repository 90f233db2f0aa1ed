use Rattle.std.proofs.Common.{◌≡◌, ◌∙◌, ◌++◌, ◌∷◌, ◌<◌, [], ℕ, Bool, List, ap, inl, inr, true, false, if◌then◌else◌, get_or, length, replicate, set, arith}
use Rattle.std.specs.List.{range_with_len}
use Rattle.std.proofs.lemmas.Bool.{cases_eq}
use Rattle.std.proofs.lemmas.List.{get_or-set_other, get_or-set_same, length-set}
use Rattle.mono_base.proofs.Rankings.{range_more}
use Rattle.mono_base.proofs.Worklists.{all_on, seen_as}
use Rattle.mono_base.proofs.worklist.Worklist.full.Goals as goal

pub loop-place-preserved : goal.loop-place-preserved
loop-place-preserved c =
    let k : ℕ = c.loop-place.place in
    let marks : List Bool = c.loop-place.list.listed in
    let joined : c.insert.new.self.listed ≡ set marks k true = c.insert.ensures.listed in
    let below : k < length marks = omega (arith, c.loop-place-test.true, c.loop-place.invariant.count) in
    record {
      count = ap length joined ∙ length-set marks k true ∙ c.loop-place.invariant.count;
      on = λ p lt. ap (λ (bs : List Bool). get_or bs p false) joined ∙ elim (cases_eq p k) [
        | inl e ↦ ap (λ (q : ℕ). get_or (set marks k true) q false) e ∙ get_or-set_same marks k true false below
        | inr ne ↦ get_or-set_other marks k p true false ne ∙ c.loop-place.invariant.on p (omega (arith, lt, ne))
      ];
      off = λ p le. ap (λ (bs : List Bool). get_or bs p false) joined ∙ (get_or-set_other marks k p true false (λ e. absurd (omega (arith, le, e))) ∙ c.loop-place.invariant.off p (omega (arith, le)));
      places = c.insert.ensures.places
          ∙ (ap (λ (b : Bool). if b then c.loop-place.list.places else (c.loop-place.list.places ++ k ∷ [])) (c.loop-place.invariant.off k (omega arith))
          ∙ (ap (λ (ps : List ℕ). ps ++ k ∷ []) c.loop-place.invariant.places ∙ range_more k));
    }

pub returns : goal.returns
returns c = seen_as c.loop-place.list (replicate c.args.count true) (range_with_len 0 c.args.count)
    (all_on c.loop-place.list.listed c.args.count c.loop-place.invariant.count (λ p lt. c.loop-place.invariant.on p (omega (arith, lt, c.loop-place-test.false))))
    (c.loop-place.invariant.places ∙ ap (range_with_len 0) (omega (arith, c.loop-place-test.false)))
