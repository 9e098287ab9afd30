use Rattle.std.proofs.Common.{◌≡◌, ◌+◌, length, arith, ap, ◌∙◌}
use Rattle.std.specs.Prelude.{unwrap_or}
use Rattle.std.proofs.lemmas.List.{length-map}
use Rattle.ocm_incoming.specs.Lists.{users_of, marks_of, first_for, first_with}
use Rattle.ocm_incoming.proofs.Asking.{group-bounds}
use Rattle.ocm_incoming.proofs.Kept.{pending_tags-length, held_tags-length, received-IsInbox}
use Rattle.ocm_incoming.proofs.inboxes.Inbox.receive.Goals as goal

pub push-requires-3-clause-from_one : goal.push-requires-3-clause-from_one
push-requires-3-clause-from_one c =
    let number = ap (λ n. n + 1) c.count-number.ensures in
    let user = c.unwrap_or-user.ensures ∙ ap (λ o. unwrap_or o (c.count-number.result + 1)) c.first_for.ensures in
    let long : c.count-number.result + 1 ≡ length (users_of c.self.inside.records.rows) + 1 = rw length-map number in
    let bounds = group-bounds _ (users_of c.self.inside.records.rows) _ (c.count-number.result + 1) long user in
    bounds.0

pub push-requires-3-clause-within : goal.push-requires-3-clause-within
push-requires-3-clause-within c =
    let number = ap (λ n. n + 1) c.count-number.ensures in
    let user = c.unwrap_or-user.ensures ∙ ap (λ o. unwrap_or o (c.count-number.result + 1)) c.first_for.ensures in
    let long : c.count-number.result + 1 ≡ length (users_of c.self.inside.records.rows) + 1 = rw length-map number in
    let bounds = group-bounds _ (users_of c.self.inside.records.rows) _ (c.count-number.result + 1) long user in
    let tags = ap length c.self.invariant.undecided ∙ pending_tags-length c.self.inside.records.rows in
    omega (arith, bounds, tags, number)

pub push-requires-4-clause-from_one : goal.push-requires-4-clause-from_one
push-requires-4-clause-from_one c =
    let number = ap (λ n. n + 1) c.count-number.ensures in
    let mark = c.unwrap_or-mark.ensures ∙ ap (λ o. unwrap_or o (c.count-number.result + 1)) c.first_with.ensures in
    let long : c.count-number.result + 1 ≡ length (marks_of c.self.inside.records.rows) + 1 = rw length-map number in
    let bounds = group-bounds _ (marks_of c.self.inside.records.rows) _ (c.count-number.result + 1) long mark in
    bounds.0

pub push-requires-4-clause-within : goal.push-requires-4-clause-within
push-requires-4-clause-within c =
    let number = ap (λ n. n + 1) c.count-number.ensures in
    let mark = c.unwrap_or-mark.ensures ∙ ap (λ o. unwrap_or o (c.count-number.result + 1)) c.first_with.ensures in
    let long : c.count-number.result + 1 ≡ length (marks_of c.self.inside.records.rows) + 1 = rw length-map number in
    let bounds = group-bounds _ (marks_of c.self.inside.records.rows) _ (c.count-number.result + 1) long mark in
    let tags = ap length c.self.invariant.still_held ∙ held_tags-length c.self.inside.records.rows in
    omega (arith, bounds, tags, number)

pub invariant_of-self : goal.invariant_of-self
invariant_of-self c =
    let number = ap (λ n. n + 1) c.count-number.ensures in
    let user = c.unwrap_or-user.ensures ∙ ap (λ o. unwrap_or o (c.count-number.result + 1)) (c.first_for.ensures ∙ ap (λ s. first_for (users_of c.self.inside.records.rows) s) c.user.ensures) in
    let mark = c.unwrap_or-mark.ensures ∙ ap (λ o. unwrap_or o (c.count-number.result + 1)) (c.first_with.ensures ∙ ap (λ m. first_with (marks_of c.self.inside.records.rows) m) c.mark.ensures) in
    let few = rw (← c.self.view_is) at c.requires.few in
    rw (c.add.ensures.rows, c.push.ensures.groups, c.push-2.ensures.groups, c.push-3.ensures.tags, c.push-4.ensures.tags)
    (received-IsInbox c.self.inside.records.rows c.self.inside.requests.items _ _ _ _ _ c.args.planned (c.count-number.result + 1) _ _ c.self.invariant few number user mark)
