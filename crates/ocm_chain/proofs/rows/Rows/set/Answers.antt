use Rattle.std.proofs.Common.{◌≡◌, ◌-◌, length, refl, ◌∙◌, arith}
use Rattle.std.proofs.lemmas.List.{take_at, length-map}
use Rattle.ocm_rules.specs.declared.rows.ShareRow.{ShareRow}
use Rattle.ocm_chain.specs.declared.reaches.Row.{Row}
use Rattle.ocm_chain.proofs.RightRows.{read-at, ready, changed}
use Rattle.ocm_chain.proofs.rows.Rows.set.Goals as goal

pub touched_to-to-requires-clause-marks : goal.touched_to-to-requires-clause-marks
touched_to-to-requires-clause-marks c = rw c.deref.ensures.value c.self.invariant.marks

pub settle-requires-clause-lower : goal.settle-requires-clause-lower
settle-requires-clause-lower c =
    let rows = c.self.inside.rows.items in
    let row = c.index_mut-row.result.now in
    let high = rw (← c.self.view_is) at c.requires.high in
    let as_many = length-map rows (λ (r : Row). r.own) in
    let at = read-at rows (c.args.id - 1) row (omega (arith, high, as_many, c.requires.low)) c.index_mut-row.ensures.value in
    let next : Row = record { own = record { share = row.own.share; perms = c.args.perms; closed = c.args.closed; end = c.args.end }; reach = row.reach; is_parent = row.is_parent } in
    let apart = rw c.deref.ensures.value at c.touched_to-to.ensures.apart in
    (ready rows c.deref_mut.result.now (c.args.id - 1) c.touched_to-to.result row next c.self.invariant at refl c.touched_to-to.ensures.from apart c.deref_mut.ensures.value).lower

pub settle-requires-clause-before : goal.settle-requires-clause-before
settle-requires-clause-before c =
    let rows = c.self.inside.rows.items in
    let row = c.index_mut-row.result.now in
    let high = rw (← c.self.view_is) at c.requires.high in
    let as_many = length-map rows (λ (r : Row). r.own) in
    let at = read-at rows (c.args.id - 1) row (omega (arith, high, as_many, c.requires.low)) c.index_mut-row.ensures.value in
    let next : Row = record { own = record { share = row.own.share; perms = c.args.perms; closed = c.args.closed; end = c.args.end }; reach = row.reach; is_parent = row.is_parent } in
    let apart = rw c.deref.ensures.value at c.touched_to-to.ensures.apart in
    (ready rows c.deref_mut.result.now (c.args.id - 1) c.touched_to-to.result row next c.self.invariant at refl c.touched_to-to.ensures.from apart c.deref_mut.ensures.value).before

pub settle-requires-clause-behind : goal.settle-requires-clause-behind
settle-requires-clause-behind c =
    let rows = c.self.inside.rows.items in
    let row = c.index_mut-row.result.now in
    let high = rw (← c.self.view_is) at c.requires.high in
    let as_many = length-map rows (λ (r : Row). r.own) in
    let at = read-at rows (c.args.id - 1) row (omega (arith, high, as_many, c.requires.low)) c.index_mut-row.ensures.value in
    let next : Row = record { own = record { share = row.own.share; perms = c.args.perms; closed = c.args.closed; end = c.args.end }; reach = row.reach; is_parent = row.is_parent } in
    let apart = rw c.deref.ensures.value at c.touched_to-to.ensures.apart in
    (ready rows c.deref_mut.result.now (c.args.id - 1) c.touched_to-to.result row next c.self.invariant at refl c.touched_to-to.ensures.from apart c.deref_mut.ensures.value).behind

pub invariant_of-self : goal.invariant_of-self
invariant_of-self c =
    let rows = c.self.inside.rows.items in
    let row = c.index_mut-row.result.now in
    let high = rw (← c.self.view_is) at c.requires.high in
    let as_many = length-map rows (λ (r : Row). r.own) in
    let at = read-at rows (c.args.id - 1) row (omega (arith, high, as_many, c.requires.low)) c.index_mut-row.ensures.value in
    let next : Row = record { own = record { share = row.own.share; perms = c.args.perms; closed = c.args.closed; end = c.args.end }; reach = row.reach; is_parent = row.is_parent } in
    let change : ShareRow → ShareRow = λ r. record { share = r.share; perms = c.args.perms; closed = c.args.closed; end = c.args.end } in
    let done = changed rows c.deref_mut.result.now c.settle.new.rows c.args.id row next change c.self.invariant c.requires.low at refl refl refl c.deref_mut.ensures.value c.settle.ensures.owns c.settle.ensures.marks c.settle.ensures.right c.settle.auto.rows in
    let many : length c.settle.new.rows ≡ c.self.inside.rows.len = c.settle.auto.rows ∙ c.deref_mut.ensures.len in
    rw take_at done.are

pub returns-clause-shares : goal.returns-clause-shares
returns-clause-shares c =
    let rows = c.self.inside.rows.items in
    let row = c.index_mut-row.result.now in
    let high = rw (← c.self.view_is) at c.requires.high in
    let as_many = length-map rows (λ (r : Row). r.own) in
    let at = read-at rows (c.args.id - 1) row (omega (arith, high, as_many, c.requires.low)) c.index_mut-row.ensures.value in
    let next : Row = record { own = record { share = row.own.share; perms = c.args.perms; closed = c.args.closed; end = c.args.end }; reach = row.reach; is_parent = row.is_parent } in
    let change : ShareRow → ShareRow = λ r. record { share = r.share; perms = c.args.perms; closed = c.args.closed; end = c.args.end } in
    let done = changed rows c.deref_mut.result.now c.settle.new.rows c.args.id row next change c.self.invariant c.requires.low at refl refl refl c.deref_mut.ensures.value c.settle.ensures.owns c.settle.ensures.marks c.settle.ensures.right c.settle.auto.rows in
    let many : length c.settle.new.rows ≡ c.self.inside.rows.len = c.settle.auto.rows ∙ c.deref_mut.ensures.len in
    rw (take_at, ← c.self.view_is) done.shares

pub returns-clause-made : goal.returns-clause-made
returns-clause-made c =
    let rows = c.self.inside.rows.items in
    let row = c.index_mut-row.result.now in
    let high = rw (← c.self.view_is) at c.requires.high in
    let as_many = length-map rows (λ (r : Row). r.own) in
    let at = read-at rows (c.args.id - 1) row (omega (arith, high, as_many, c.requires.low)) c.index_mut-row.ensures.value in
    let next : Row = record { own = record { share = row.own.share; perms = c.args.perms; closed = c.args.closed; end = c.args.end }; reach = row.reach; is_parent = row.is_parent } in
    let change : ShareRow → ShareRow = λ r. record { share = r.share; perms = c.args.perms; closed = c.args.closed; end = c.args.end } in
    let done = changed rows c.deref_mut.result.now c.settle.new.rows c.args.id row next change c.self.invariant c.requires.low at refl refl refl c.deref_mut.ensures.value c.settle.ensures.owns c.settle.ensures.marks c.settle.ensures.right c.settle.auto.rows in
    let many : length c.settle.new.rows ≡ c.self.inside.rows.len = c.settle.auto.rows ∙ c.deref_mut.ensures.len in
    rw (take_at, ← c.self.view_is) done.made
