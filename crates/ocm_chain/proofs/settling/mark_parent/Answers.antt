use Rattle.std.proofs.Common.{◌-◌, true, refl, sym, ◌∙◌, get_or, arith}
use Rattle.std.proofs.lemmas.Option.{slice_get-get_or}
use Rattle.ocm_chain.specs.declared.reaches.Row.{Row}
use Rattle.ocm_chain.proofs.Places.{map-same_set}
use Rattle.ocm_chain.proofs.RightRows.{owns-settled, marked-here, marked-other}
use Rattle.ocm_chain.proofs.settling.mark_parent.Goals as goal

pub returns-in-Some-clause-owns : goal.returns-in-Some-clause-owns
returns-in-Some-clause-owns c =
    let rows = c.args.rows.now in
    let p = c.in-Some.parent in
    let bounds = c.requires p c.in-Some.is in
    let row = get_or rows (p - 1) c.index-rows-parent.result in
    let at = slice_get-get_or rows (p - 1) c.index-rows-parent.result (omega (arith, bounds.0, bounds.1)) in
    let next : Row = record { own = row.own; reach = row.reach; is_parent = true } in
    owns-settled rows (p - 1) row next at refl

pub returns-in-Some-clause-reaches : goal.returns-in-Some-clause-reaches
returns-in-Some-clause-reaches c =
    let rows = c.args.rows.now in
    let p = c.in-Some.parent in
    let bounds = c.requires p c.in-Some.is in
    let row = get_or rows (p - 1) c.index-rows-parent.result in
    let at = slice_get-get_or rows (p - 1) c.index-rows-parent.result (omega (arith, bounds.0, bounds.1)) in
    let next : Row = record { own = row.own; reach = row.reach; is_parent = true } in
    map-same_set (λ (r : Row). r.reach) rows (p - 1) row next at refl

pub returns-in-Some-clause-marked : goal.returns-in-Some-clause-marked
returns-in-Some-clause-marked c q e =
    let rows = c.args.rows.now in
    let p = c.in-Some.parent in
    let bounds = c.requires p c.in-Some.is in
    let row = get_or rows (p - 1) c.index-rows-parent.result in
    let at = slice_get-get_or rows (p - 1) c.index-rows-parent.result (omega (arith, bounds.0, bounds.1)) in
    let next : Row = record { own = row.own; reach = row.reach; is_parent = true } in
    marked-here rows p q row next (sym c.in-Some.is ∙ e) bounds.0 at refl

pub returns-in-Some-clause-others : goal.returns-in-Some-clause-others
returns-in-Some-clause-others c i other =
    let rows = c.args.rows.now in
    let p = c.in-Some.parent in
    let bounds = c.requires p c.in-Some.is in
    let row = get_or rows (p - 1) c.index-rows-parent.result in
    let at = slice_get-get_or rows (p - 1) c.index-rows-parent.result (omega (arith, bounds.0, bounds.1)) in
    let next : Row = record { own = row.own; reach = row.reach; is_parent = true } in
    marked-other rows p i next bounds.0 (λ e. other (c.in-Some.is ∙ e))
