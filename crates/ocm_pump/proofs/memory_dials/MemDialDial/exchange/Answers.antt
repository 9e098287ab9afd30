use Rattle.std.proofs.Common.{◌≡◌, ℕ, ◌+◌, min, List, [], ◌∷◌, ◌++◌, Option, None, reverse, sym, ap, subst, ◌∙◌}
use Rattle.std.specs.Prelude.{option_copied, option_map}
use Rattle.ocm_pump.specs.declared.exchanges.Came.{Came}
use Rattle.ocm_pump.specs.declared.exchanges.Exchange.{Exchange}
use Rattle.ocm_pump.specs.Memory.{DialState, next_of, faults_after, after_exchange}
use Rattle.ocm_pump.proofs.Moves.{next_at, moved_on}
use Rattle.ocm_pump.proofs.memory_dials.MemDialDial.exchange.Goals as goal

pub returns-in-Some-clause-moved : goal.returns-in-Some-clause-moved
returns-in-Some-clause-moved c = λ _.
    let d = c.self.inside in
    let reply = c.in_ok-reply.reply in
    moved_on d.replies d.place d.exchanges d.faults (option_map (λ (t : List Came). reverse t) d.told) c.args.host.now c.args.request.now reply c.push.new.self c.next_place-self-inside.result d.faults c.self.invariant
    (next_at d.replies d.place (option_copied c.get.result) reply c.get.ensures c.in_ok-reply.ensures.front)
    (c.in_ok-push.ensures.ok ∙ ap (λ (t : Exchange). d.exchanges ++ t ∷ []) c.in_ok-told.ensures)
    (c.next_place-self-inside.ensures ∙ ap (λ (n : ℕ). min (d.place + 1) n) c.len.ensures)
    (sym (ap (λ (r : Option (List ℕ)). faults_after r d.faults) c.in-Some.is))
    ∙ ap (λ (s : DialState). after_exchange s c.args.host.now c.args.request.now) c.self.view_is

pub returns-in-None-clause-fails : goal.returns-in-None-clause-fails
returns-in-None-clause-fails c = λ _.
    let d = c.self.inside in
    subst (λ (s : DialState). next_of s.replies ≡ None) c.self.view_is
    (next_at d.replies d.place (option_copied c.get.result) c.in_ok-reply.reply c.get.ensures c.in_ok-reply.ensures.front ∙ c.in-None.is)

pub returns-in-None-clause-moved : goal.returns-in-None-clause-moved
returns-in-None-clause-moved c = λ _.
    let d = c.self.inside in
    let reply = c.in_ok-reply.reply in
    moved_on d.replies d.place d.exchanges d.faults (option_map (λ (t : List Came). reverse t) d.told) c.args.host.now c.args.request.now reply c.push.new.self c.next_place-self-inside.result c.saturating_add-self-inside.result c.self.invariant
    (next_at d.replies d.place (option_copied c.get.result) reply c.get.ensures c.in_ok-reply.ensures.front)
    (c.in_ok-push.ensures.ok ∙ ap (λ (t : Exchange). d.exchanges ++ t ∷ []) c.in_ok-told.ensures)
    (c.next_place-self-inside.ensures ∙ ap (λ (n : ℕ). min (d.place + 1) n) c.len.ensures)
    (c.saturating_add-self-inside.ensures ∙ sym (ap (λ (r : Option (List ℕ)). faults_after r d.faults) c.in-None.is))
    ∙ ap (λ (s : DialState). after_exchange s c.args.host.now c.args.request.now) c.self.view_is
