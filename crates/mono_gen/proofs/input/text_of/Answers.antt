use Rattle.std.proofs.Common.{◌≡◌, ℕ, IfOk, subst, sym}
use Rattle.rand_pcg.specs.Lcg.{Lcg}
use Rattle.mono_gen.specs.Draws.{seeded}
use Rattle.mono_gen.specs.Generated.{grid_text, generated}
use Rattle.mono_gen.specs.declared.kind.GenKind.{GenKind}
use Rattle.mono_gen.proofs.input.text_of.Goals as goal

pub returns-in-Grid : goal.returns-in-Grid
returns-in-Grid c =
    subst (λ (k : GenKind). IfOk c.grid.result (λ text. text.items ≡ generated k c.args.size c.args.seed)) (sym c.in-Grid.is)
    (subst (λ (n : ℕ). IfOk c.grid.result (λ text. text.items ≡ grid_text n (seeded c.args.seed))) c.in_ok-board.ensures
    (subst (λ (g : Lcg). IfOk c.grid.result (λ text. text.items ≡ grid_text c.in_ok-board.board g)) c.new-words.ensures c.grid.ensures))
