use Rattle.std.proofs.Common.{rules}
use Rattle.mono_io.proofs.ReadingOn.{reads_on}
use Rattle.mono_io.proofs.file_shelf.FileShelf.read_on.Goals as goal

pub invariant_of-self-2 : goal.invariant_of-self-2
invariant_of-self-2 g c =
    let read = c.in_ok-count.ensures in
    reads_on _ _ c.self.inside.place c.in_ok-place.place c.in_ok-count.count _ _ c.read.new.buf (search rules) (search rules) c.self.invariant read.bound read.rest
