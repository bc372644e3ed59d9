-- The lists of a frame as the code has them, in the words of `rules`.
use Rattle.rules.specs.TakeAll as rules
use Rattle.frame.specs.declared.Frame.{Frame}

abbrev pub frame_of : Frame → rules.Frame
frame_of f = rules.frame f.numbers.now f.turnovers.now f.randoms.now
