use Rattle.mono_portfolio.proofs.searching.search_over.Goals as goal

pub returns : goal.returns
returns g c = λ p carries. c.tell.ensures p c.args.over.now c.args.slice carries c.in_ok-solved.ensures
