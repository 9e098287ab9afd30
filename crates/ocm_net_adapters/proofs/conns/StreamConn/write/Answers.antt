use Rattle.std.proofs.Common.{ℕ, List, ◌++◌, take, ap, ◌∙◌, append_assoc}
use Rattle.ocm_net_adapters.proofs.Sending.{two_fronts}
use Rattle.ocm_net_adapters.proofs.conns.StreamConn.write.Goals as goal

pub returns-in-Err-clause-err : goal.returns-in-Err-clause-err
returns-in-Err-clause-err g c =
    let sent = c.args.self.now.sent.bytes in
    let first = c.args.first.now in
    let second = c.args.second.now in
    let n = c.in-Err.n in
    c.and-self-in-Err-2.ensures
    ∙ ap (λ (l : List ℕ). l ++ take c.saturating_sub.result second) c.and-self-in-Err.ensures
    ∙ append_assoc sent (take n first) (take c.saturating_sub.result second)
    ∙ ap (λ (k : ℕ). sent ++ (take n first ++ take k second)) c.saturating_sub.ensures
    ∙ ap (λ (l : List ℕ). sent ++ l) (two_fronts n first second)
