use Rattle.std.proofs.Common.{sym, ap, ◌∙◌, Ok}
use Rattle.ocm_logcheck.specs.Steps.{is_true_until, up_to_ask}
use Rattle.ocm_logcheck.proofs.Looking.{looked-false, looked-true, next-rises}
use Rattle.ocm_logcheck.proofs.replays.Replay.look_up_next.Goals as goal

pub returns-then-branch-clause-found : goal.returns-then-branch-clause-found
returns-then-branch-clause-found c = λ host k stands.
    (let old = c.args.self.now in
    let line = c.in-Some.line.now in
    let rises = next-rises host c.args.lines.now old k line c.in-Some.ensures.next stands in
    looked-true host c.args.lines.now old k line c.look_up.new.core c.in-Some.ensures.next stands
    (c.in_ok-look_up.ensures.lists host k stands.lists stands.clock)
    (c.look_up.ensures.moment host k stands.lists (c.in_ok-look_up.was ∙ ap (λ b. Ok b) c.if-branch.true))
    (sym c.if-branch.true ∙ c.in_ok-look_up.ensures.found host k stands.lists stands.clock rises ∙ ap (λ end. is_true_until host (up_to_ask k) end line) stands.clock))

pub returns-else-branch-clause-found : goal.returns-else-branch-clause-found
returns-else-branch-clause-found c = λ host k stands.
    (let old = c.args.self.now in
    let line = c.in-Some.line.now in
    let rises = next-rises host c.args.lines.now old k line c.in-Some.ensures.next stands in
    looked-false host c.args.lines.now old k line c.look_up.new.core c.in-Some.ensures.next stands
    (c.in_ok-look_up.ensures.lists host k stands.lists stands.clock)
    (sym c.if-branch.false ∙ c.in_ok-look_up.ensures.found host k stands.lists stands.clock rises ∙ ap (λ end. is_true_until host (up_to_ask k) end line) stands.clock))
