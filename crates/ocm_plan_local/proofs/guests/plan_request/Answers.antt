use Rattle.std.proofs.Common.{◌≡◌, ℕ, ◌+◌, ◌<◌, length, true, false, Some, refl, sym, ap, ◌∙◌, nat_lt}
use Rattle.ocm_entry.specs.declared.asks.Cmd.TheVariants as commands
use Rattle.ocm_entry.specs.declared.replies.Reply.TheVariants.{Number}
use Rattle.ocm_rules.specs.State.{view_in}
use Rattle.std.proofs.Common.{arith}
use Rattle.std.proofs.lemmas.Bool.Decides.{nat_tests}
use Rattle.std.proofs.lemmas.List.{length-map}
use Rattle.ocm_types.specs.declared.phases.Phase.{Phase}
use Rattle.ocm_rules.specs.Offers.{is_confirmed}
use Rattle.ocm_rules.specs.State.{asked_in}
use Rattle.ocm_rules.specs.Views.{record_of_user}
use Rattle.ocm_plan_local.proofs.LocalReplies.{answered, reshare-asked}
use Rattle.ocm_plan_local.proofs.Makes.{reshare-makes}
use Rattle.ocm_plan_local.proofs.guests.plan_request.Goals as goal

within-limit : (n count : ℕ) → n ≡ count → count < 65536 → nat_lt 65536 (n + 1) ≡ false
within-limit n count e h = grind (arith, nat_tests)

pub returns : goal.returns
returns c =
    let st = c.args.tables.now.state in
    let v = view_in st in
    let own = c.requires.owned in
    let right : is_confirmed (v.phase c.args.number) ≡ true = ap (λ (phase : Phase). is_confirmed phase) own.phase ∙ c.requires.confirmed in
    let length_same : length v.requests ≡ length st.requests = length-map st.requests asked_in in
    let few : nat_lt 65536 (length v.requests + 1) ≡ false = within-limit (length v.requests) (length st.requests) length_same c.requires.few in
    c.new.ensures.plans _
    (answered st c.args.key.now (commands.Reshare c.args.number c.args.with.now c.args.perms) (Some c.args.user) (Number (c.request_count-r.result + 1)) c.requires.user
    (reshare-asked (record_of_user v c.args.user c.args.number) (v.phase c.args.number) (v.told c.args.number).perms c.args.perms (length v.requests) c.args.received.now.offer own.owned right c.requires.permitted few
    ∙ ap (λ n. Number (n + 1)) (length_same ∙ sym c.request_count-r.ensures)))
    refl refl
    (reshare-makes st c.args.key.now c.args.number c.args.with.now c.in_ok-copy.field-0 c.args.perms (Number (c.request_count-r.result + 1)) c.args.received.now.offer c.request_count-r.result c.in_ok-message.message c.in_ok-sent.sent
    own.found c.in_ok-copy.ensures c.request_count-r.ensures c.in_ok-message.ensures c.in_ok-sent.ensures)
    (record { few = c.requires.few; record_ = own.there }) refl
