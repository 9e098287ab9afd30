use Rattle.std.proofs.Common.{◌-◌, arith}
use Rattle.std.proofs.lemmas.List.{length-map}
use Rattle.ocm_chain.specs.declared.reaches.Row.{Row}
use Rattle.ocm_chain.proofs.RightRows.{read-at, own-number, reach-number, childless-number}
use Rattle.ocm_chain.proofs.rows.Rows.at.Goals as goal

pub returns-clause-own : goal.returns-clause-own
returns-clause-own c =
    let rows = c.self.inside.rows.items in
    let high = rw (← c.self.view_is) at c.requires.high in
    let as_many = length-map rows (λ (r : Row). r.own) in
    let at = read-at rows (c.args.id - 1) c.index.result.now (omega (arith, high, as_many, c.requires.low)) c.index.ensures in
    rw (← c.self.view_is) (own-number rows c.args.id c.index.result.now c.requires.low at)

pub returns-clause-reach : goal.returns-clause-reach
returns-clause-reach c =
    let rows = c.self.inside.rows.items in
    let high = rw (← c.self.view_is) at c.requires.high in
    let as_many = length-map rows (λ (r : Row). r.own) in
    let at = read-at rows (c.args.id - 1) c.index.result.now (omega (arith, high, as_many, c.requires.low)) c.index.ensures in
    rw (← c.self.view_is) (reach-number rows c.args.id c.index.result.now c.self.invariant c.requires.low at)

pub returns-clause-childless : goal.returns-clause-childless
returns-clause-childless c none =
    let rows = c.self.inside.rows.items in
    let high = rw (← c.self.view_is) at c.requires.high in
    let as_many = length-map rows (λ (r : Row). r.own) in
    let at = read-at rows (c.args.id - 1) c.index.result.now (omega (arith, high, as_many, c.requires.low)) c.index.ensures in
    rw (← c.self.view_is) (childless-number rows c.args.id c.index.result.now c.self.invariant c.requires.low at none)
