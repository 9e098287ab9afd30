use Rattle.std.proofs.Common.{◌≡◌, drop}
use Rattle.ocm_script_run.proofs.Posts.{GoesOn}
use Rattle.ocm_script_run.proofs.deliveries.all_delivered.Given as goal

-- what is printed so far leads on
abbrev pub invariant-loop-message : goal.invariant-loop-message
invariant-loop-message g l =
    record {
      place : l.place ≡ l.message-index;
      goes_on : GoesOn g.S.ScriptServers.stand l.messages l.fn.servers l.servers l.line l.sender l.fresh l.place (drop l.message-index l.messages) l.text;
    }
