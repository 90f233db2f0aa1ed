use Rattle.mono_trail.proofs.luby_sequence.+luby.Given as goal

abbrev pub decreases-luby : goal.decreases-luby
decreases-luby l = l.k
