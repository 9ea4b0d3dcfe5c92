-- The input: what is held of it, and where reading stands. Cited by `first_feed`. Which bytes are read no contract can say. Assumes nothing.
use Rattle.std.specs.Prelude.{false}
use Rattle.console.specs.declared.Feed.{Feed}

-- nothing is read yet
abbrev pub first_feed : Feed
first_feed = record { held = 0; intake = record { from = 0; skipping = false; ended = false }; begun = false; failed = false }
