use Rattle.std.proofs.Common.{◌≡◌, ◌+◌, length}
use Rattle.ocm_journal_image.specs.Reading.{records_from}
use Rattle.ocm_compact.specs.Replays.{home_of}
use Rattle.ocm_compact.proofs.Going.{ComesFrom}
use Rattle.ocm_compact.proofs.replays.Replay.take_area.Given as goal

abbrev pub invariant-loop-record : goal.invariant-loop-record
invariant-loop-record l = record {
  home : home_of l.self ≡ home_of l.fn.self;
  comes : ComesFrom (home_of l.fn.self) l.form (records_from 0 l.fn.place l.fn.bytes) (records_from 0 l.end l.rest) l.self;
  fits : l.end + length l.rest ≡ l.fn.place + length l.fn.bytes;
}

abbrev pub decreases-loop-record : goal.decreases-loop-record
decreases-loop-record l = length l.rest
