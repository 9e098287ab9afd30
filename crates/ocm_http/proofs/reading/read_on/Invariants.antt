use Rattle.std.proofs.Common.{◌≤◌, ℕ, List}
use Rattle.ocm_base.specs.Outside.{flow}
use Rattle.ocm_http.specs.Stages.{Stands, budget}
use Rattle.ocm_http.specs.Readers.{Under}
use Rattle.ocm_http.proofs.reading.read_on.Given as goal

-- the message is under way, whatever was read of it before
abbrev pub invariant-message : goal.invariant-message
invariant-message g l =
    let source = g.S.Source in
    record {
      stands : Stands l.rules l.stage;
      under : (held : List ℕ) → Under l.rules (flow (source.left l.fn.source) (source.received l.fn.source)) (flow (source.left l.fn.source) (source.received l.fn.source)) held l.fn.window l.fn.stage l.fn.gone
          → Under l.rules (flow (source.left l.fn.source) (source.received l.fn.source)) (flow (source.left l.source) (source.received l.source)) held l.window l.stage l.gone;
      never_falls : source.faults l.fn.source ≤ source.faults l.source;
    }

-- each step takes a byte
abbrev pub decreases-message : goal.decreases-message
decreases-message g l = budget l.rules l.stage
