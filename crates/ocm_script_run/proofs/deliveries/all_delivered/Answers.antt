use Rattle.std.proofs.Common.{◌+◌, refl, ap, arith}
use Rattle.ocm_script_run.proofs.Posts.{Runs-all, GoesOn-at, GoesOn-more, GoesOn-start}
use Rattle.std.proofs.lemmas.List.{drop_all}
use Rattle.ocm_script_run.proofs.deliveries.all_delivered.Goals as goal

pub loop-message-init : goal.loop-message-init
loop-message-init g c = record { place = refl; goes_on = rw c.new-text.ensures (GoesOn-start g.S.ScriptServers.stand c.args.messages.now c.args.servers.now c.args.line c.args.sender.now c.args.fresh) }

pub loop-message-preserved : goal.loop-message-preserved
loop-message-preserved g c = record {
  place = ap (λ k. k + 1) c.loop-message.invariant.place;
  goes_on = rw c.in_ok-add.ensures
      (GoesOn-more g.S.ScriptServers.stand _ _ _ _ _ _ _ _ _ _ _ _
      (GoesOn-at g.S.ScriptServers.stand _ _ _ _ _ _ _ _ c.loop-message.message-index c.message-item.result _ (omega arith) c.message-item.is c.loop-message.invariant.goes_on)
      (rw (← c.plus.ensures.value) c.in_ok-more.ensures));
}

pub returns : goal.returns
returns g c = Runs-all g.S.ScriptServers.stand _ _ _ _ _ _ _ _ _ (drop_all c.loop-message.message-index c.args.messages.now (omega arith)) c.loop-message.invariant.goes_on
