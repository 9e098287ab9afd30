use Rattle.std.proofs.Common.{◌≡◌, ◌++◌, false}
use Rattle.ocm_script_run.specs.Servers.{Server}
use Rattle.ocm_script_run.proofs.Talking.{IsOpen, SaidSo}
use Rattle.ocm_script_run.proofs.talks.answers_to.Given as goal

-- what is said from here on is said from the start
abbrev pub invariant-loop-number : goal.invariant-loop-number
invariant-loop-number g l = record {
  some : (server : Server) × g.N.ScriptServer.stands l.node server;
  reads : IsOpen l.reader;
  goes : l.reader.failed ≡ false;
  few : l.number ≡ 1000 → ⊥;
  said : (server : Server) → g.N.ScriptServer.stands l.fn.node server → (mid : Server) × g.N.ScriptServer.stands l.node mid × SaidSo l.config l.line l.fresh l.fn.source.left server l.number l.reader.place (l.reader.held ++ l.source.left) mid l.text;
}
