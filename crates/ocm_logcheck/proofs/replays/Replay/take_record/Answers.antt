use Rattle.std.proofs.Common.{List, ℕ, sym, ◌∙◌}
use Rattle.ocm_law_sessions.specs.Readings.{goes_on, with_stamped}
use Rattle.ocm_logcheck.specs.Replays.{GoesOn}
use Rattle.ocm_logcheck.proofs.Going.{goes-said, goes-unsaid}
use Rattle.ocm_logcheck.proofs.Taking.{if-ok}
use Rattle.ocm_logcheck.proofs.replays.Replay.take_record.Goals as goal

pub returns-in-Ok-Some-clause-goes_on : goal.returns-in-Ok-Some-clause-goes_on
returns-in-Ok-Some-clause-goes_on c =
    let lines = c.args.lines.now in
    let old = c.args.self.now in
    let new = c.take_all_said.new.self in
    let bytes = c.args.bytes.now in
    if-ok c.take_all_said.result
    (λ taken. (host : List ℕ) → GoesOn host lines old new (with_stamped host c.in-Ok-Some.said) taken)
    (λ taken. (host : List ℕ) → GoesOn host lines old new (λ k. goes_on host c.args.form k bytes) taken)
    (λ taken goes host. goes-said host lines old new c.args.form bytes c.in-Ok-Some.said taken (sym c.in-Ok-Some.ensures.says ∙ c.in-Ok-Some.field-0-is) (goes host))
    c.take_all_said.ensures.goes_on

pub returns-in-Ok-None-clause-goes_on : goal.returns-in-Ok-None-clause-goes_on
returns-in-Ok-None-clause-goes_on c = λ host. goes-unsaid host c.args.lines.now c.args.self.now c.args.form c.args.bytes.now (sym c.in-Ok-None.ensures.says ∙ c.in-Ok-None.field-0-is)
