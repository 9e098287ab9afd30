use Rattle.std.proofs.Common.{rules, subst}
use Rattle.ocm_base.specs.Outside.{flow}
use Rattle.ocm_http.specs.Stages.{Feeds, Faults}
use Rattle.ocm_http.specs.declared.stages.Fed.TheVariants.{More, Whole}
use Rattle.ocm_http.proofs.UnderWay.{under_filled, under_fed, read_ended, read_failed, read_refused, read_given}
use Rattle.ocm_http.proofs.reading.read_on.Goals as goal

pub returns-in-Err-clause-read : goal.returns-in-Err-clause-read
returns-in-Err-clause-read g c = λ held started.
    let t = c.ready.ensures.taken in
    let u = under_filled c.args.rules (flow (g.S.Source.left c.args.source.now) (g.S.Source.received c.args.source.now)) (flow (g.S.Source.left c.message.source) (g.S.Source.received c.message.source)) (flow (g.S.Source.left c.ready.new.source) (g.S.Source.received c.ready.new.source)) held c.message.window c.ready.new.self c.message.stage c.message.gone t.0 (c.message.invariant.under held started) t.1 t.2 in
    read_failed c.args.rules (flow (g.S.Source.left c.args.source.now) (g.S.Source.received c.args.source.now)) (flow (g.S.Source.left c.ready.new.source) (g.S.Source.received c.ready.new.source)) held c.ready.new.self c.message.stage c.message.gone u c.ready.ensures.within

pub returns-in-Ok-false-clause-read : goal.returns-in-Ok-false-clause-read
returns-in-Ok-false-clause-read g c = λ held started.
    let t = c.ready.ensures.taken in
    let u = under_filled c.args.rules (flow (g.S.Source.left c.args.source.now) (g.S.Source.received c.args.source.now)) (flow (g.S.Source.left c.message.source) (g.S.Source.received c.message.source)) (flow (g.S.Source.left c.ready.new.source) (g.S.Source.received c.ready.new.source)) held c.message.window c.ready.new.self c.message.stage c.message.gone t.0 (c.message.invariant.under held started) t.1 t.2 in
    read_ended c.args.rules (flow (g.S.Source.left c.args.source.now) (g.S.Source.received c.args.source.now)) (flow (g.S.Source.left c.ready.new.source) (g.S.Source.received c.ready.new.source)) held c.ready.new.self c.message.stage c.message.gone c.end.result u c.ready.ensures.within (search rules) (search rules) c.end.ensures.ended c.end.ensures.fault

pub returns-in-Err-feed-clause-read : goal.returns-in-Err-feed-clause-read
returns-in-Err-feed-clause-read g c = λ held started.
    let t = c.ready.ensures.taken in
    let u = under_filled c.args.rules (flow (g.S.Source.left c.args.source.now) (g.S.Source.received c.args.source.now)) (flow (g.S.Source.left c.message.source) (g.S.Source.received c.message.source)) (flow (g.S.Source.left c.ready.new.source) (g.S.Source.received c.ready.new.source)) held c.message.window c.ready.new.self c.message.stage c.message.gone t.0 (c.message.invariant.under held started) t.1 t.2 in
    let fault : Faults c.args.rules c.message.stage c.ready.new.self c.in-Err-feed.fault = subst (λ p. Faults c.args.rules c.message.stage p c.in-Err-feed.fault) c.as_slice.ensures.value c.in-Err-feed.ensures.fault in
    read_refused c.args.rules (flow (g.S.Source.left c.args.source.now) (g.S.Source.received c.args.source.now)) (flow (g.S.Source.left c.ready.new.source) (g.S.Source.received c.ready.new.source)) held c.ready.new.self c.message.stage c.message.gone c.in-Err-feed.fault u c.ready.ensures.within fault

pub returns-in-Ok-Whole-clause-read : goal.returns-in-Ok-Whole-clause-read
returns-in-Ok-Whole-clause-read g c = λ held started.
    let t = c.ready.ensures.taken in
    let u = under_filled c.args.rules (flow (g.S.Source.left c.args.source.now) (g.S.Source.received c.args.source.now)) (flow (g.S.Source.left c.message.source) (g.S.Source.received c.message.source)) (flow (g.S.Source.left c.ready.new.source) (g.S.Source.received c.ready.new.source)) held c.message.window c.ready.new.self c.message.stage c.message.gone t.0 (c.message.invariant.under held started) t.1 t.2 in
    let fed : Feeds c.args.rules c.message.stage c.ready.new.self (Whole c.in-Ok-Whole.message c.in-Ok-Whole.n) = subst (λ p. Feeds c.args.rules c.message.stage p (Whole c.in-Ok-Whole.message c.in-Ok-Whole.n)) c.as_slice.ensures.value
    (subst (Feeds c.args.rules c.message.stage c.as_slice.result.now) c.in-Ok-Whole.field-0-is c.in-Ok-Whole.ensures.fed) in
    rw (c.skip.ensures, c.past.ensures)
    (read_given c.args.rules (flow (g.S.Source.left c.args.source.now) (g.S.Source.received c.args.source.now)) (flow (g.S.Source.left c.ready.new.source) (g.S.Source.received c.ready.new.source)) held c.ready.new.self c.message.stage c.message.gone c.in-Ok-Whole.n c.in-Ok-Whole.message u c.ready.ensures.within fed)

pub message-preserved : goal.message-preserved
message-preserved g c =
    let t = c.ready.ensures.taken in
    let fed : Feeds c.args.rules c.message.stage c.ready.new.self (More c.in-Ok-More.next c.in-Ok-More.n) = subst (λ p. Feeds c.args.rules c.message.stage p (More c.in-Ok-More.next c.in-Ok-More.n)) c.as_slice.ensures.value
    (subst (Feeds c.args.rules c.message.stage c.as_slice.result.now) c.in-Ok-More.field-0-is c.in-Ok-More.ensures.fed) in
    record {
      stands = fed.stands;
      under = λ held started.
          let u = under_filled c.args.rules (flow (g.S.Source.left c.args.source.now) (g.S.Source.received c.args.source.now)) (flow (g.S.Source.left c.message.source) (g.S.Source.received c.message.source)) (flow (g.S.Source.left c.ready.new.source) (g.S.Source.received c.ready.new.source)) held c.message.window c.ready.new.self c.message.stage c.message.gone t.0 (c.message.invariant.under held started) t.1 t.2 in
          rw (c.skip-in-Ok-More.ensures, c.past-in-Ok-More.ensures)
          (under_fed c.args.rules (flow (g.S.Source.left c.args.source.now) (g.S.Source.received c.args.source.now)) (flow (g.S.Source.left c.ready.new.source) (g.S.Source.received c.ready.new.source)) held c.ready.new.self c.message.stage c.in-Ok-More.next c.message.gone c.in-Ok-More.n u fed);
      never_falls = search rules;
    }
