use Rattle.mono_paths.proofs.Listed.{is_bounded}
use Rattle.mono_distance.proofs.label_table.others_of.Goals as goal

pub cap-requires : goal.cap-requires
cap-requires c = is_bounded c.args.limit c.requires
