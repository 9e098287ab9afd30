use Rattle.std.proofs.Common.{arith, ◌≡◌, ◌+◌, ◌≤◌, length, ap, ◌∙◌, Option}
use Rattle.atomic_table.specs.Table.{Me}
use Rattle.ocm_turn.specs.declared.behind.Behind.{Behind}
use Rattle.ocm_turn.specs.declared.view.View.{View}
use Rattle.ocm_turn.proofs.CallLemmas.{length_merged}
use Rattle.ocm_turn.proofs.PassLemmas.{legal_joined}
use Rattle.ocm_turn.proofs.turnstile.Turnstile.join.Goals as goal

pub overflow_add-pass : goal.overflow_add-pass
overflow_add-pass g c =
    let mine = c.pass.inside.seat.me.0.mine in
    let theirs = c.other.inside.seat.me.0.mine in
    let now = c.join.new.seat.me.0 in
    let is = c.join.ensures.own.1 in
    let few : length now.mine ≤ now.limit = c.join.ensures.sound.1 in
    let both : length now.mine ≡ length mine + length theirs = ap (λ (m : Me (Option (Behind g.row.T.Denot)) (View g.row.T-Terms.Denot g.row.T-Mark.Denot)). length m.0.mine) is ∙ length_merged mine theirs in
    let limit : now.limit ≡ c.pass.inside.seat.me.0.limit = ap (λ (m : Me (Option (Behind g.row.T.Denot)) (View g.row.T-Terms.Denot g.row.T-Mark.Denot)). m.0.limit) is in
    let bound = c.pass.invariant.3 in
    let ours = c.pass.invariant.2 in
    let others = c.other.invariant.2 in
    omega (arith, few, both, limit, bound, ours, others)

pub invariant_of-pass : goal.invariant_of-pass
invariant_of-pass g c =
    let mine = c.pass.inside.seat.me.0.mine in
    let theirs = c.other.inside.seat.me.0.mine in
    let is = c.join.ensures.own.1 in
    let both : length c.join.new.seat.me.0.mine ≡ length mine + length theirs = ap (λ (m : Me (Option (Behind g.row.T.Denot)) (View g.row.T-Terms.Denot g.row.T-Mark.Denot)). length m.0.mine) is ∙ length_merged mine theirs in
    let old = c.pass.invariant in
    let others = c.other.invariant.2 in
    let ours = old.2 in
    let limit : c.join.new.seat.me.0.limit ≡ c.pass.inside.seat.me.0.limit = ap (λ (m : Me (Option (Behind g.row.T.Denot)) (View g.row.T-Terms.Denot g.row.T-Mark.Denot)). m.0.limit) is in
    let bound = old.3 in (
      (ap (λ (m : Me (Option (Behind g.row.T.Denot)) (View g.row.T-Terms.Denot g.row.T-Mark.Denot)). m.0.ticket) is ∙ old.0.0, ap (λ (m : Me (Option (Behind g.row.T.Denot)) (View g.row.T-Terms.Denot g.row.T-Mark.Denot)). m.0.turn) is ∙ old.0.1, ap (λ (m : Me (Option (Behind g.row.T.Denot)) (View g.row.T-Terms.Denot g.row.T-Mark.Denot)). m.0.stage) is ∙ old.0.2, ap (λ (m : Me (Option (Behind g.row.T.Denot)) (View g.row.T-Terms.Denot g.row.T-Mark.Denot)). m.0.held) is ∙ old.0.3),
      ap (λ (m : Me (Option (Behind g.row.T.Denot)) (View g.row.T-Terms.Denot g.row.T-Mark.Denot)). m.1) is,
      omega (arith, both, ours, others),
      omega (arith, limit, bound),
      c.join.ensures.sound.0.mine,
      c.join.ensures.sound.0.order,
      legal_joined c.pass.inside.seat.me.0 c.other.inside.seat.me.0 c.join.new.seat.me.0 (ap (λ (m : Me (Option (Behind g.row.T.Denot)) (View g.row.T-Terms.Denot g.row.T-Mark.Denot)). m.0) is) c.join.ensures.sound.0 g.T.Object.legal _ _ _ c.pass.invariant.6 c.other.invariant.6,
      c.join.ensures.sound.0.paired,
    )
