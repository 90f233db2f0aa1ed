use Rattle.std.proofs.Common.{ℕ, ◌-◌, get_or, ap, ◌∙◌, arith}
use Rattle.mono_flow.proofs.ReplacedEdges.{set_replaced, swap_replaced}
use Rattle.mono_flow.proofs.growing.replace_at.Goals as goal

pub returns-in-Some : goal.returns-in-Some
returns-in-Some c = set_replaced c.args.rest.now.items c.args.fresh.now.items c.pop.new.self.items c.args.place c.in-Some.edge c.requires c.in-Some.ensures.items

pub returns : goal.returns
returns c =
    let s = c.swap_remove.ensures in
    let len = s.len in
    let none = c.in_default.ensures.cases in
    swap_replaced c.args.rest.now.items c.swap_remove.new.self.items c.args.fresh.now.items c.pop.new.self.items c.args.place c.requires (omega (arith, none.0)) (omega (arith, none.1))
    (record { len = omega (arith, len); moved = λ less. s.by_index.0 0 (omega (arith, less, len)) ∙ ap (λ (n : ℕ). get_or c.args.rest.now.items (n - 1) 0) (omega arith); kept = λ k apart less. s.by_index.1 k 0 apart (omega (arith, less, len)) })
