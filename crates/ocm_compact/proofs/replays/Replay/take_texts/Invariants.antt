use Rattle.std.proofs.Common.{◌≡◌, take}
use Rattle.ocm_compact.specs.Replays.{home_of}
use Rattle.ocm_compact.proofs.Going.{Opened}
use Rattle.ocm_compact.proofs.replays.Replay.take_texts.Given as goal

abbrev pub invariant-loop-text : goal.invariant-loop-text
invariant-loop-text l = record {
  home : home_of l.self ≡ home_of l.fn.self;
  opened : Opened (home_of l.fn.self) 2 (take l.text-index l.items) l.self;
}
