use Rattle.std.proofs.Common.{◌≡◌, ◌<◌, ◌≤◌, drop}
use Rattle.ocm_pump.specs.Exchanges.{Counts}
use Rattle.ocm_turn.specs.Passes.{BelongsTo}
use Rattle.ocm_server_rounds.specs.Rounds.{hold}
use Rattle.ocm_server_rounds.proofs.Rounding.{Leads}
use Rattle.ocm_server_rounds.proofs.rounds.deliver_all.Given as goal

-- the messages so far were delivered
abbrev pub invariant-loop-message : goal.invariant-loop-message
invariant-loop-message g l = record {
  own : BelongsTo l.node l.pass;
  below : l.pass.drawn < l.node.limit;
  never_falls : g.N.Post.faults l.initial.post ≤ g.N.Post.faults l.post;
  kind : g.N.Post.delivers l.post ≡ g.N.Post.delivers l.initial.post;
  asked : Counts (g.N.Post.asked l.initial.post) (g.N.Post.asked l.post) l.message-index;
  leads : Leads l.messages (drop l.message-index l.messages) (hold l.initial.pass (g.N.Post.exchanges l.initial.post)) (hold l.pass (g.N.Post.exchanges l.post)) l.answered;
}
