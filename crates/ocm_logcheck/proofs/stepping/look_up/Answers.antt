use Rattle.std.proofs.Common.{◌≡◌, ◌≤◌, ◌&&◌, List, ℕ, ap, ◌∙◌, arith}
use Rattle.std.specs.Prelude.{nat_le}
use Rattle.ocm_entry.specs.declared.entries.Entry.{Entry}
use Rattle.ocm_rules.specs.History.{answer}
use Rattle.ocm_rules.specs.Shares.{moment}
use Rattle.ocm_core.specs.Standing.{IsAfter}
use Rattle.ocm_access_log.specs.Truth.{has_status}
use Rattle.ocm_logcheck.specs.Steps.{IsBehind, is_true_until, up_to_ask}
use Rattle.ocm_logcheck.proofs.Behind.{behind-answer, behind_list}
use Rattle.ocm_logcheck.proofs.Looking.{Rises, bounds-inside, told-inside}
use Rattle.ocm_logcheck.proofs.Taking.{if-ok}
use Rattle.ocm_logcheck.proofs.stepping.look_up.Goals as goal

pub returns-clause-found : goal.returns-clause-found
returns-clause-found c =
    let old = c.args.core.now.state in
    let new = c.take_moment.new.core.state in
    let line = c.args.line.now in
    let is = c.lies_within.ensures ∙ ap (λ n. nat_le n line.moment && nat_le line.moment c.args.end) c.moment.ensures.value in
    let bounds = bounds-inside old.moment line.moment c.args.end c.lies_within.result is c.if-not-lies_within.false in
    if-ok c.is_answered.result
    (λ found. (g : List Entry) → IsAfter new g → found ≡ has_status line.status (answer new.host g line.ask))
    (λ found. (host : List ℕ) (k : List Entry) → IsBehind host old k → c.args.end ≡ moment k → Rises old k line → found ≡ is_true_until host (up_to_ask k) c.args.end line)
    (λ found tells host k behind over rises.
    (let low : old.moment ≤ line.moment = bounds.0 in
    let top : line.moment ≤ c.args.end = bounds.1 in
    let high : line.moment ≤ moment k = omega arith in
    let moved = c.in_ok-take_moment.ensures.lists host k behind low high in
    let at = c.in_ok-take_moment.ensures.moment host k behind low in
    tells (behind_list host new k) moved.lists
    ∙ ap (has_status line.status) (behind-answer host new k line.ask line.moment moved at)
    ∙ told-inside host old k c.args.end line c.lies_within.result behind rises is c.if-not-lies_within.false))
    c.is_answered.ensures
