use Rattle.mono_rows.proofs.TrailRows.{whole_is_sound, full_is_sound, most_are_sound}
use Rattle.mono_rows.proofs.trail.sound_trails.Goals as goal

pub returns-clause-whole : goal.returns-clause-whole
returns-clause-whole c = whole_is_sound

pub returns-clause-full : goal.returns-clause-full
returns-clause-full c = full_is_sound

pub returns-clause-most_variables : goal.returns-clause-most_variables
returns-clause-most_variables c = most_are_sound
