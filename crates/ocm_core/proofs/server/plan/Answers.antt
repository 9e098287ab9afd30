use Rattle.std.proofs.Common.{◌≡◌, ℕ, ◌+◌, ◌-◌, ◌*◌, ◌^◌, ◌≤◌, length, arith}
use Rattle.ocm_tables.specs.Tables.{GrantCost}
use Rattle.ocm_core.proofs.server.plan.Goals as goal

-- an ask without a holder counts nothing
uncounted : (shares index rows : ℕ) → GrantCost shares (record { index = index; rows = rows }) (record { index = index; rows = rows })
uncounted shares index rows =
    let none : index - index ≡ 0 = omega arith in
    record { index = rw none (omega arith); rows = omega arith; onward = (omega arith, omega arith) }

-- a search of the index reads no row
searched : (shares before after rows : ℕ) → 2 ^ (after - before) ≤ 2 * shares + 1 → before ≤ after → GrantCost shares (record { index = before; rows = rows }) (record { index = after; rows = rows })
searched shares before after rows cost onward = record { index = cost; rows = omega arith; onward = (onward, omega arith) }

pub returns-in-AddUser-clause-cost : goal.returns-in-AddUser-clause-cost
returns-in-AddUser-clause-cost g c =
    rw (← c.probes.view_is)
    (searched (length c.args.tables.now.state.shares) c.probes.inside.index c.plan_new_user.new.steps c.probes.inside.rows c.plan_new_user.ensures.cost c.plan_new_user.ensures.onward)

pub returns-in-Local-clause-cost : goal.returns-in-Local-clause-cost
returns-in-Local-clause-cost g c = uncounted (length c.args.tables.now.state.shares) c.args.probes.now.index c.args.probes.now.rows

pub returns-in-Offer-clause-cost : goal.returns-in-Offer-clause-cost
returns-in-Offer-clause-cost g c = uncounted (length c.args.tables.now.state.shares) c.args.probes.now.index c.args.probes.now.rows

pub returns-in-Notice-clause-cost : goal.returns-in-Notice-clause-cost
returns-in-Notice-clause-cost g c = uncounted (length c.args.tables.now.state.shares) c.args.probes.now.index c.args.probes.now.rows

pub returns-in-Due-clause-cost : goal.returns-in-Due-clause-cost
returns-in-Due-clause-cost g c = uncounted (length c.args.tables.now.state.shares) c.args.probes.now.index c.args.probes.now.rows

pub returns-in-Settle-clause-cost : goal.returns-in-Settle-clause-cost
returns-in-Settle-clause-cost g c = uncounted (length c.args.tables.now.state.shares) c.args.probes.now.index c.args.probes.now.rows

pub returns-in-Tick-clause-cost : goal.returns-in-Tick-clause-cost
returns-in-Tick-clause-cost g c = uncounted (length c.args.tables.now.state.shares) c.args.probes.now.index c.args.probes.now.rows
