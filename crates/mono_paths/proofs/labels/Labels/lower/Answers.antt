use Rattle.std.proofs.Common.{◌≡◌, ◌<◌, ◌-◌, ◌∙◌, ℕ, List, length, map, set, sym, ap, subst, arith}
use Rattle.mono_paths.specs.NodeLabels.{NodeLabels, AreBelowCap}
use Rattle.mono_paths.specs.Spread.{label_of}
use Rattle.mono_paths.proofs.NodeLabels.{lowered_known, lowered, kept_more}
use Rattle.mono_paths.proofs.labels.Labels.lower.Goals as goal

known : (old : NodeLabels) (cap : ℕ) (below reached : List ℕ) (u label : ℕ) → record { cap = cap; each = map (λ (x : ℕ). cap - x) below; reached = reached } ≡ old → label < label_of old.each u → (u < length below) × (label < cap)
known old cap below reached u label is low = lowered_known cap below u label (subst (λ (l : NodeLabels). label < label_of l.each u) (sym is) low)

pub overflow_sub-self-inside : goal.overflow_sub-self-inside
overflow_sub-self-inside c = let k = (known c.args.self.now c.self.inside.cap c.self.inside.below.items c.self.inside.reached.items c.args.node c.args.label c.self.view_is c.requires).1 in omega arith

pub invariant_of-self-2 : goal.invariant_of-self-2
invariant_of-self-2 c =
    let k = known c.args.self.now c.self.inside.cap c.self.inside.below.items c.self.inside.reached.items c.args.node c.args.label c.self.view_is c.requires in
    subst (λ (xs : List ℕ). AreBelowCap c.self.inside.cap xs c.give.new.reached.items) (sym c.in_ok-give.ensures.given)
    (subst (λ (us : List ℕ). AreBelowCap c.self.inside.cap (set c.self.inside.below.items c.args.node (c.self.inside.cap - c.args.label)) us) (sym c.in_ok-give.ensures.listed)
    (kept_more c.self.inside.cap c.self.inside.below.items c.self.inside.reached.items c.args.node (c.self.inside.cap - c.args.label) k.0 (let lt = k.1 in omega arith) (omega arith) c.self.invariant))

pub returns-clause-lowered : goal.returns-clause-lowered
returns-clause-lowered c =
    let k = known c.args.self.now c.self.inside.cap c.self.inside.below.items c.self.inside.reached.items c.args.node c.args.label c.self.view_is c.requires in
    ap (λ (xs : List ℕ). map (λ (x : ℕ). c.self.inside.cap - x) xs) c.in_ok-give.ensures.given
    ∙ (lowered c.self.inside.cap c.self.inside.below.items c.args.node c.args.label k.1
    ∙ ap (λ (l : NodeLabels). set l.each c.args.node c.args.label) c.self.view_is)
