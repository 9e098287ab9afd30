use Rattle.std.proofs.Common.{rules}
use Rattle.ocm_dav.specs.Routes.{wanted_of}
use Rattle.ocm_dav.proofs.SoundWants.{sound-wanted_of, proper_of, span_of_range, outside_of}
use Rattle.ocm_dav.proofs.routes.ask_of.Goals as goal

pub returns-clause-proper : goal.returns-clause-proper
returns-clause-proper c =
    proper_of c.target_wanted.result (wanted_of c.args.config.now c.args.message.now c.args.fresh) (sound-wanted_of c.args.config.now c.args.message.now c.args.fresh)
    (search rules)

pub returns-clause-range : goal.returns-clause-range
returns-clause-range c =
    span_of_range c.target_wanted.result (wanted_of c.args.config.now c.args.message.now c.args.fresh) (sound-wanted_of c.args.config.now c.args.message.now c.args.fresh)
    (search rules)

pub returns-clause-outside : goal.returns-clause-outside
returns-clause-outside c =
    outside_of c.target_wanted.result (wanted_of c.args.config.now c.args.message.now c.args.fresh) (sound-wanted_of c.args.config.now c.args.message.now c.args.fresh)
    (search rules)
