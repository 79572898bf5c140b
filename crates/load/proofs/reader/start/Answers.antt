-- `start` meets its contract. Assumes nothing.
use Rattle.load.specs.Reader.{line_from, line_of, read_from, progress_of, window_for, state_of, reader_of}
use Rattle.load.proofs.reader.start.Goals as goal

pub returns : goal.returns
unfolding line_from line_of read_from progress_of window_for state_of reader_of
returns c = rw c.empty_window.ensures.is
