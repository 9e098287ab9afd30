use Rattle.ocm_world.proofs.Storing.{Called, call-fits, called-of}
use Rattle.ocm_world.proofs.nodes.RunningServerScriptServer.act.Goals as goal

pub returns : goal.returns
returns c =
    let called : Called c.args.self.now.store c.act.new.self c.args.ask c.act.result = record {
      terms = c.act.ensures.terms;
      stands = c.act.ensures.stands;
      legal = c.act.ensures.legal;
      cause = c.act.ensures.cause;
      no_cause = c.act.ensures.no_cause;
      idle = c.act.ensures.idle;
      made = c.act.ensures.made;
      not_made = c.act.ensures.not_made;
      fewer = c.act.ensures.fewer;
      passes = c.act.ensures.passes;
      journal = c.act.ensures.journal;
    } in
    record {
      replied = λ server is. called-of c.args.self.now server c.act.new.self c.args.ask c.act.result is called;
      fits = λ server is. call-fits c.args.self.now server c.act.new.self c.args.ask c.act.result is called;
    }
