use Rattle.std.proofs.Common.{◌≡◌, ℕ, ◌+◌, length, true, false, Some, refl, sym, ap, ◌∙◌, is_some, nat_lt}
use Rattle.std.proofs.lemmas.List.{length-map}
use Rattle.ocm_texts.specs.Hex.{hex}
use Rattle.ocm_types.specs.declared.phases.Which.TheVariants as limits
use Rattle.ocm_entry.specs.declared.asks.Cmd.TheVariants as commands
use Rattle.ocm_entry.specs.declared.refusals.Why.TheVariants.{Collision, NotFound, OwnHost}
use Rattle.ocm_entry.specs.declared.refusals.AddressField.TheVariants.{ShareWith}
use Rattle.ocm_entry.specs.declared.replies.Reply.TheVariants.{Number}
use Rattle.ocm_letters.specs.Rows.{own_share_from}
use Rattle.ocm_rules.specs.declared.rows.ShareRow.{ShareRow}
use Rattle.ocm_rules.specs.Answers.{limited, refused}
use Rattle.ocm_rules.specs.Numbers.{same_text}
use Rattle.ocm_rules.specs.Shares.{is_used}
use Rattle.ocm_rules.specs.State.{State, view_in}
use Rattle.ocm_tables.proofs.Numbering.{IfSome-account}
use Rattle.ocm_plan_local.proofs.LocalReplies.{answered, one-left, share-full, share-made, share-nothing, share-own_host, share-used}
use Rattle.ocm_plan_local.proofs.Makes.{share-fits, share-makes}
use Rattle.ocm_plan_local.proofs.shares.plan_new_share.Goals as goal

-- as many shares as rows
count-is : (st : State) (count : ℕ) → count ≡ length st.shares → length (view_in st).shares ≡ count
count-is st count e = length-map st.shares (λ (row : ShareRow). row.share) ∙ sym e

pub returns-then-is_own_host : goal.returns-then-is_own_host
returns-then-is_own_host g c =
    let st = c.args.tables.now.state in
    let v = view_in st in
    let own : same_text c.args.with.now.host st.host ≡ true = sym c.is_own_host.ensures ∙ c.if-is_own_host.true in
    c.refused.ensures.plans _
    (answered st c.args.key.now (commands.Share c.args.path.now c.args.with.now c.args.perms c.args.fresh.now) (Some c.args.user) (refused (OwnHost ShareWith)) c.requires.user
    (share-own_host (same_text c.args.with.now.host st.host) (v.stands (record { user = c.args.user; path = c.args.path.now })) (length v.shares) (is_used st.users v.shares (hex c.args.fresh.now)) own))

pub returns-then-not-branch : goal.returns-then-not-branch
returns-then-not-branch g c =
    let st = c.args.tables.now.state in
    let v = view_in st in
    let own : same_text c.args.with.now.host st.host ≡ false = sym c.is_own_host.ensures ∙ c.if-is_own_host.false in
    let nothing : is_some (v.stands (record { user = c.args.user; path = c.args.path.now })) ≡ false = sym c.in_ok-stands.ensures ∙ c.if-not-branch.true in
    c.refused-then-not-branch.ensures.plans _
    (answered st c.args.key.now (commands.Share c.args.path.now c.args.with.now c.args.perms c.args.fresh.now) (Some c.args.user) (refused NotFound) c.requires.user
    (share-nothing (same_text c.args.with.now.host st.host) (v.stands (record { user = c.args.user; path = c.args.path.now })) (length v.shares) (is_used st.users v.shares (hex c.args.fresh.now)) own nothing))

pub returns-then-is_full : goal.returns-then-is_full
returns-then-is_full g c =
    let st = c.args.tables.now.state in
    let v = view_in st in
    let own : same_text c.args.with.now.host st.host ≡ false = sym c.is_own_host.ensures ∙ c.if-is_own_host.false in
    let stands : is_some (v.stands (record { user = c.args.user; path = c.args.path.now })) ≡ true = sym c.in_ok-stands.ensures ∙ c.if-not-branch.false in
    let full : nat_lt 65536 (length v.shares + 1) ≡ true = ap (λ n. nat_lt 65536 (n + 1)) (count-is st c.share_count.result c.share_count.ensures) ∙ (sym c.is_full.ensures ∙ c.if-is_full.true) in
    c.refused-then-is_full.ensures.plans _
    (answered st c.args.key.now (commands.Share c.args.path.now c.args.with.now c.args.perms c.args.fresh.now) (Some c.args.user) (limited limits.Shares) c.requires.user
    (share-full (same_text c.args.with.now.host st.host) (v.stands (record { user = c.args.user; path = c.args.path.now })) (length v.shares) (is_used st.users v.shares (hex c.args.fresh.now)) own stands full))

pub returns-then-is_used : goal.returns-then-is_used
returns-then-is_used g c =
    let st = c.args.tables.now.state in
    let v = view_in st in
    let own : same_text c.args.with.now.host st.host ≡ false = sym c.is_own_host.ensures ∙ c.if-is_own_host.false in
    let stands : is_some (v.stands (record { user = c.args.user; path = c.args.path.now })) ≡ true = sym c.in_ok-stands.ensures ∙ c.if-not-branch.false in
    let few : nat_lt 65536 (length v.shares + 1) ≡ false = ap (λ n. nat_lt 65536 (n + 1)) (count-is st c.share_count.result c.share_count.ensures) ∙ (sym c.is_full.ensures ∙ c.if-is_full.false) in
    let used : is_used st.users v.shares (hex c.args.fresh.now) ≡ true = ap (λ secret. is_used st.users v.shares secret) (sym c.in_ok-secret.ensures.text) ∙ (sym c.is_used.ensures.used ∙ c.if-is_used.true) in
    c.refused-then-is_used.ensures.plans _
    (answered st c.args.key.now (commands.Share c.args.path.now c.args.with.now c.args.perms c.args.fresh.now) (Some c.args.user) (refused Collision) c.requires.user
    (share-used (same_text c.args.with.now.host st.host) (v.stands (record { user = c.args.user; path = c.args.path.now })) (length v.shares) (is_used st.users v.shares (hex c.args.fresh.now)) own stands few used))

pub returns : goal.returns
returns g c =
    let st = c.args.tables.now.state in
    let v = view_in st in
    let secret = c.in_ok-secret.secret in
    let name = c.user_name-owner.result.now in
    let own : same_text c.args.with.now.host st.host ≡ false = sym c.is_own_host.ensures ∙ c.if-is_own_host.false in
    let stands : is_some (v.stands (record { user = c.args.user; path = c.args.path.now })) ≡ true = sym c.in_ok-stands.ensures ∙ c.if-not-branch.false in
    let few : nat_lt 65536 (length v.shares + 1) ≡ false = ap (λ n. nat_lt 65536 (n + 1)) (count-is st c.share_count.result c.share_count.ensures) ∙ (sym c.is_full.ensures ∙ c.if-is_full.false) in
    let unused : is_used st.users v.shares secret ≡ false = sym c.is_used.ensures.used ∙ c.if-is_used.false in
    let not_used : is_used st.users v.shares (hex c.args.fresh.now) ≡ false = ap (λ text. is_used st.users v.shares text) (sym c.in_ok-secret.ensures.text) ∙ unused in
    let made = c.in_ok-share.ensures ∙ ap (λ host. own_share_from host c.args.user name c.args.path.now c.args.with.now c.args.perms secret) c.host.ensures in
    let rows : nat_lt 65536 (length st.shares + 1) ≡ false = ap (λ n. nat_lt 65536 (n + 1)) (sym c.share_count.ensures) ∙ (sym c.is_full.ensures ∙ c.if-is_full.false) in
    c.new.ensures.plans _
    (answered st c.args.key.now (commands.Share c.args.path.now c.args.with.now c.args.perms c.args.fresh.now) (Some c.args.user) (Number (c.share_count-number.result + 1)) c.requires.user
    (share-made (same_text c.args.with.now.host st.host) (v.stands (record { user = c.args.user; path = c.args.path.now })) (length v.shares) (is_used st.users v.shares (hex c.args.fresh.now)) own stands few not_used
    ∙ ap (λ n. Number (n + 1)) (count-is st c.share_count-number.result c.share_count-number.ensures)))
    refl refl
    (share-makes st c.args.key.now c.args.user c.args.path.now c.args.with.now c.args.perms c.args.fresh.now (Number (c.share_count-number.result + 1)) name secret c.in_ok-share.share c.in_ok-share-2.share c.in_ok-share-2.sent
    c.requires.user c.user_name-owner.ensures c.in_ok-secret.ensures.text made c.in_ok-share-2.ensures.share c.in_ok-share-2.ensures.sent)
    (share-fits st st.host c.args.user name c.args.path.now c.args.with.now c.args.perms secret c.in_ok-share.share c.in_ok-share-2.share made c.in_ok-share-2.ensures.share
    (one-left 65536 (length st.shares) rows) unused (IfSome-account st.users c.args.key.now (Some c.args.user) (sym c.requires.user)) c.requires.short) refl
