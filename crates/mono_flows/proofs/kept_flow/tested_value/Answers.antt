use Rattle.std.proofs.Common.{◌∙◌, arith}
use Rattle.mono_flows.proofs.kept_flow.tested_value.Goals as goal

pub unmark_edges-requires : goal.unmark_edges-requires
unmark_edges-requires c = record {
  known = λ i d lt.
      let known = c.requires.known i d lt in
      let len = c.value_in-found.ensures.listed_len in
      omega (arith, known, len);
}

pub returns-clause-clear : goal.returns-clause-clear
returns-clause-clear c = record { amounts = c.requires.clear.amounts; listed = c.unmark_edges.ensures.clear c.value_in-found.ensures.listed }

pub returns-clause-fits : goal.returns-clause-fits
returns-clause-fits c = record { amounts = c.requires.fits.amounts; listed = c.unmark_edges.ensures.len ∙ c.value_in-found.ensures.listed_len }
