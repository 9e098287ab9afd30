use Rattle.std.proofs.Common.{◌∙◌, append-nil, sym}
use Rattle.ocm_drill.specs.Script.{drawn_events}
use Rattle.ocm_drill.proofs.Made.{drawn_more, state_more}
use Rattle.ocm_drill.proofs.federation.Federation.add_drawn.Goals as goal

pub loop-j-init : goal.loop-j-init
unfolding drawn_events
loop-j-init c = record {
  so_far = sym (append-nil c.args.made.now);
  state = c.new-drawing.ensures;
}

pub loop-j-preserved : goal.loop-j-preserved
loop-j-preserved c = record {
  so_far = c.in_ok-push.ensures.ok ∙ drawn_more _ c.loop-j.made c.in_ok-event.event c.args.events c.loop-j.j c.args.number c.loop-j.drawing c.loop-j.invariant.so_far c.loop-j.invariant.state c.in_ok-event.ensures.event;
  state = state_more c.args.events c.loop-j.j c.args.number c.loop-j.drawing _ c.loop-j.invariant.state c.drawn.ensures.state;
}
