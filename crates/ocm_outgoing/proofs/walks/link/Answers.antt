use Rattle.std.proofs.Common.{◌≡◌, ◌-◌, get_or, ap, arith, rules}
use Rattle.ocm_outgoing.specs.Threads.{linked}
use Rattle.ocm_outgoing.proofs.Changed.{written, number_in}
use Rattle.ocm_outgoing.proofs.walks.link.Goals as goal

pub returns-clause-rows : goal.returns-clause-rows
returns-clause-rows c =
    let there = number_in c.args.rows.now.items c.args.number c.requires in
    let is : c.index_mut-row.result.now ≡ get_or c.args.rows.now.items (c.args.number - 1) c.index_mut-row.result.now = search rules in
    written c.args.number (linked c.args.next) c.args.rows.now.items (c.args.number - 1) c.index_mut-row.result.now _ (omega (arith, there.0)) (omega (arith, there.0, there.1)) (ap (linked c.args.next) is)
