use Rattle.std.proofs.Common.{◌≡◌, ◌+◌, length, [], true}
use Rattle.std.specs.List.{list_all}
use Rattle.ocm_script.specs.Events.{has_short_paths}
use Rattle.ocm_script.specs.Lines.{lines_of}
use Rattle.ocm_script.specs.Script as script
use Rattle.ocm_script.specs.Script.{with_front}
use Rattle.ocm_script.proofs.scripts.events_of.Given as goal

abbrev pub invariant-loop-rest : goal.invariant-loop-rest
invariant-loop-rest l = record {
  so_far : with_front l.events (script.events_of l.number l.named (lines_of l.rest)) ≡ script.events_of 1 [] (lines_of l.bytes);
  line : l.number ≡ length l.events + 1;
  few : length l.events + length (lines_of l.rest) ≡ length (lines_of l.bytes);
  short : list_all has_short_paths l.events ≡ true;
}

abbrev pub decreases-loop-rest : goal.decreases-loop-rest
decreases-loop-rest l = length l.rest
