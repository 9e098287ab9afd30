use Rattle.ocm_logcheck.proofs.replays.count_true.Goals as goal

pub returns : goal.returns
returns c = c.in_ok-ran.ensures.counted c.args.host c.new-replay.ensures.start
