use Rattle.std.proofs.Common.{◌≡◌, ◌<◌, ◌+◌, ◌∷◌, length, ap, ◌∙◌, rules}
use Rattle.mono_text.specs.Text.{lines_of, numbered_from}
use Rattle.mono_text.proofs.Splits.{lines_of-some, lines_of-none}
use Rattle.mono_text.proofs.lines.LinesIterator.next.Goals as goal

pub returns-then-is_empty-clause-steps : goal.returns-then-is_empty-clause-steps
returns-then-is_empty-clause-steps c =
    let none : length c.self.inside.rest.now ≡ 0 = search rules in
    let e = lines_of-none (c.self.inside.read + 1) c.self.inside.rest.now none in
    let now : c.args.self.now ≡ numbered_from (c.self.inside.read + 1) (lines_of c.self.inside.rest.now) = cc in
    (now ∙ e, now ∙ e)

first_line : (c : goal.After-self-1) → c.args.self.now ≡ (c.self.inside.read + 1, c.split_at_line_feed.result.0.now) ∷ numbered_from (c.self.inside.read + 1 + 1) (lines_of c.split_at_line_feed.result.1.now)
first_line c =
    let some : 0 < length c.self.inside.rest.now = search rules in
    let e = ap (numbered_from (c.self.inside.read + 1)) (lines_of-some c.self.inside.rest.now some) in
    let now : c.args.self.now ≡ numbered_from (c.self.inside.read + 1) (lines_of c.self.inside.rest.now) = cc in
    rw (c.split_at_line_feed.ensures.before, c.split_at_line_feed.ensures.after) (now ∙ e)

pub returns-clause-steps : goal.returns-clause-steps
returns-clause-steps c = first_line c

pub returns-clause-goes : goal.returns-clause-goes
returns-clause-goes c = let shorter = ap length (first_line c) in search rules
