use Rattle.std.proofs.Common.{◌≡◌, ◌+◌, length, true, false, Some, sym, ap, ◌∙◌, nat_lt}
use Rattle.ocm_entry.specs.declared.asks.Cmd.TheVariants as commands
use Rattle.ocm_entry.specs.declared.refusals.Why.TheVariants.{NotFound, NotPermitted, WrongPhase}
use Rattle.ocm_types.specs.declared.phases.Which.TheVariants as limits
use Rattle.ocm_rules.specs.Answers.{limited, refused}
use Rattle.ocm_rules.specs.State.{view_in}
use Rattle.std.proofs.lemmas.List.{length-map}
use Rattle.ocm_types.specs.declared.phases.Phase.{Phase}
use Rattle.ocm_rules.specs.Answers.{may_share}
use Rattle.ocm_rules.specs.Offers.{is_confirmed}
use Rattle.ocm_rules.specs.State.{asked_in}
use Rattle.ocm_rules.specs.Views.{record_of_user}
use Rattle.ocm_plan_local.proofs.LocalReplies.{answered, reshare-full, reshare-not_permitted, reshare-nothing, reshare-wrong}
use Rattle.ocm_plan_local.proofs.guests.plan_reshare.Goals as goal

pub returns-in_default : goal.returns-in_default
returns-in_default c =
    let st = c.args.tables.now.state in
    let v = view_in st in
    c.refused.ensures.plans _
    (answered st c.args.key.now (commands.Reshare c.args.number c.args.with.now c.args.perms) (Some c.args.user) (refused NotFound) c.requires
    (reshare-nothing (record_of_user v c.args.user c.args.number) (v.phase c.args.number) (v.told c.args.number).perms c.args.perms (length v.requests) c.in_default.ensures))

pub returns-then-not-is_confirmed : goal.returns-then-not-is_confirmed
returns-then-not-is_confirmed c =
    let st = c.args.tables.now.state in
    let v = view_in st in
    let own = c.in-Some.ensures in
    let wrong : is_confirmed (v.phase c.args.number) ≡ false = ap (λ (phase : Phase). is_confirmed phase) own.phase ∙ (sym c.is_confirmed.ensures ∙ c.if-not-is_confirmed.true) in
    c.refused-then-not-is_confirmed.ensures.plans _
    (answered st c.args.key.now (commands.Reshare c.args.number c.args.with.now c.args.perms) (Some c.args.user) (refused WrongPhase) c.requires
    (reshare-wrong (record_of_user v c.args.user c.args.number) (v.phase c.args.number) (v.told c.args.number).perms c.args.perms (length v.requests) c.in-Some.received.now.offer own.owned wrong))

pub returns-then-not-may_share : goal.returns-then-not-may_share
returns-then-not-may_share c =
    let st = c.args.tables.now.state in
    let v = view_in st in
    let own = c.in-Some.ensures in
    let right : is_confirmed (v.phase c.args.number) ≡ true = ap (λ (phase : Phase). is_confirmed phase) own.phase ∙ (sym c.is_confirmed.ensures ∙ c.if-not-is_confirmed.false) in
    let rights : (v.told c.args.number).perms ≡ c.rights.result = cc in
    let not_permitted : may_share (v.told c.args.number).perms c.args.perms ≡ false = ap (λ r. may_share r c.args.perms) rights ∙ (sym c.may_share.ensures ∙ c.if-not-may_share.true) in
    c.refused-then-not-may_share.ensures.plans _
    (answered st c.args.key.now (commands.Reshare c.args.number c.args.with.now c.args.perms) (Some c.args.user) (refused NotPermitted) c.requires
    (reshare-not_permitted (record_of_user v c.args.user c.args.number) (v.phase c.args.number) (v.told c.args.number).perms c.args.perms (length v.requests) c.in-Some.received.now.offer own.owned right not_permitted))

pub returns-then-is_full : goal.returns-then-is_full
returns-then-is_full c =
    let st = c.args.tables.now.state in
    let v = view_in st in
    let own = c.in-Some.ensures in
    let right : is_confirmed (v.phase c.args.number) ≡ true = ap (λ (phase : Phase). is_confirmed phase) own.phase ∙ (sym c.is_confirmed.ensures ∙ c.if-not-is_confirmed.false) in
    let rights : (v.told c.args.number).perms ≡ c.rights.result = cc in
    let permitted : may_share (v.told c.args.number).perms c.args.perms ≡ true = ap (λ r. may_share r c.args.perms) rights ∙ (sym c.may_share.ensures ∙ c.if-not-may_share.false) in
    let count : length v.requests ≡ c.request_count.result = length-map st.requests asked_in ∙ sym c.request_count.ensures in
    let full : nat_lt 65536 (length v.requests + 1) ≡ true = ap (λ n. nat_lt 65536 (n + 1)) count ∙ (sym c.is_full.ensures ∙ c.if-is_full.true) in
    c.refused-then-is_full.ensures.plans _
    (answered st c.args.key.now (commands.Reshare c.args.number c.args.with.now c.args.perms) (Some c.args.user) (limited limits.Requests) c.requires
    (reshare-full (record_of_user v c.args.user c.args.number) (v.phase c.args.number) (v.told c.args.number).perms c.args.perms (length v.requests) c.in-Some.received.now.offer own.owned right permitted full))
