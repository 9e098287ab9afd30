use Rattle.std.proofs.Common.{◌≡◌, ◌+◌, length, true, false, Some, refl, sym, ap, ◌∙◌, nat_lt}
use Rattle.ocm_entry.specs.declared.asks.Cmd.TheVariants as commands
use Rattle.ocm_entry.specs.declared.refusals.Why.TheVariants.{NotPermitted}
use Rattle.ocm_entry.specs.declared.replies.Reply.TheVariants.{Done}
use Rattle.ocm_types.specs.declared.phases.Which.TheVariants as limits
use Rattle.ocm_rules.specs.Answers.{limited, refused}
use Rattle.ocm_rules.specs.State.{view_in}
use Rattle.ocm_types.specs.Rights.{is_within}
use Rattle.ocm_rules.specs.Answers.{is_full_of_changes}
use Rattle.ocm_rules.specs.Messages.{change_count}
use Rattle.ocm_rules.specs.Views.{is_live_in, share_of_owner, told_by_limit}
use Rattle.ocm_plan_local.proofs.LocalReplies.{answered, limit-done, limit-full, limit-not_permitted, limits-left}
use Rattle.ocm_plan_local.proofs.Makes.{limit-makes, limit-sent, told-count}
use Rattle.ocm_plan_local.proofs.shares.plan_new_perms.Goals as goal

pub returns-then-not-within : goal.returns-then-not-within
returns-then-not-within g c =
    let st = c.args.tables.now.state in
    let v = view_in st in
    let own = c.requires.live in
    let beyond : is_within c.args.perms c.args.share.now.granted ≡ false = sym (c.within.ensures.value ∙ ap (λ rights. is_within c.args.perms rights) c.rights.ensures.value) ∙ c.if-not-within.true in
    c.refused.ensures.plans _
    (answered st c.args.key.now (commands.Limit c.args.id c.args.perms) (Some c.args.user) (refused NotPermitted) c.requires.user
    (limit-not_permitted (share_of_owner v c.args.user c.args.id) (is_live_in v c.args.id) c.args.perms (is_full_of_changes v (length (told_by_limit v c.args.id c.args.perms))) c.args.share.now own.owned own.live beyond))

pub returns-then-is_full_of_changes : goal.returns-then-is_full_of_changes
returns-then-is_full_of_changes g c =
    let st = c.args.tables.now.state in
    let v = view_in st in
    let own = c.requires.live in
    let within : is_within c.args.perms c.args.share.now.granted ≡ true = sym (c.within.ensures.value ∙ ap (λ rights. is_within c.args.perms rights) c.rights.ensures.value) ∙ c.if-not-within.false in
    let count = c.len.ensures ∙ told-count st c.args.id c.args.perms c.in_ok-told.told c.in_ok-told.ensures.told in
    let full : is_full_of_changes v (length (told_by_limit v c.args.id c.args.perms)) ≡ true = ap (λ n. is_full_of_changes v n) (sym count) ∙ (sym c.is_full_of_changes.ensures ∙ c.if-is_full_of_changes.true) in
    c.refused-then-is_full_of_changes.ensures.plans _
    (answered st c.args.key.now (commands.Limit c.args.id c.args.perms) (Some c.args.user) (limited limits.Changes) c.requires.user
    (limit-full (share_of_owner v c.args.user c.args.id) (is_live_in v c.args.id) c.args.perms (is_full_of_changes v (length (told_by_limit v c.args.id c.args.perms))) c.args.share.now own.owned own.live within full))

pub returns : goal.returns
returns g c =
    let st = c.args.tables.now.state in
    let v = view_in st in
    let own = c.requires.live in
    let within : is_within c.args.perms c.args.share.now.granted ≡ true = sym (c.within.ensures.value ∙ ap (λ rights. is_within c.args.perms rights) c.rights.ensures.value) ∙ c.if-not-within.false in
    let count = c.len.ensures ∙ told-count st c.args.id c.args.perms c.in_ok-told.told c.in_ok-told.ensures.told in
    let not_full : is_full_of_changes v (length (told_by_limit v c.args.id c.args.perms)) ≡ false = ap (λ n. is_full_of_changes v n) (sym count) ∙ (sym c.is_full_of_changes.ensures ∙ c.if-is_full_of_changes.false) in
    c.new.ensures.plans _
    (answered st c.args.key.now (commands.Limit c.args.id c.args.perms) (Some c.args.user) Done c.requires.user
    (limit-done (share_of_owner v c.args.user c.args.id) (is_live_in v c.args.id) c.args.perms (is_full_of_changes v (length (told_by_limit v c.args.id c.args.perms))) c.args.share.now own.owned own.live within not_full))
    refl refl
    (limit-makes st c.args.key.now c.args.id c.args.perms Done c.in_ok-sent.sent (limit-sent st c.args.id c.args.perms c.in_ok-told.told c.in_ok-sent.sent c.in_ok-told.ensures.told c.in_ok-sent.ensures))
    (own.there, limits-left (nat_lt 655360 (change_count v.messages + length (told_by_limit v c.args.id c.args.perms))) st.limits not_full) refl
