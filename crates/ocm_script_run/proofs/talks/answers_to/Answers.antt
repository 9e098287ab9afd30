use Rattle.std.proofs.Common.{◌≡◌, ◌++◌, ◌+◌, ℕ, List, Bool, true, false, Option, None, Some, refl, sym, ap, ◌∙◌, subst, arith}
use Rattle.std.specs.Prelude.{codes, IfSome}
use Rattle.ocm_base.specs.Outside.{flow}
use Rattle.ocm_types.specs.Draws.{fresh_plus}
use Rattle.ocm_http.specs.Frames.{Given}
use Rattle.ocm_http.specs.Readers.{ReadsMessage, ReaderState}
use Rattle.ocm_http.specs.declared.messages.Message.{Message}
use Rattle.ocm_http.proofs.Requests.{message_request}
use Rattle.ocm_server_connections.specs.Talk.{wanted_at}
use Rattle.ocm_script_run.specs.Running.{Shows, is_last, refused_lines}
use Rattle.ocm_script_run.specs.Talks.{after_calls, end_line}
use Rattle.ocm_script_run.proofs.Lines.{if_ok}
use Rattle.ocm_script_run.proofs.Talking.{SaidSo, comes, comes-over, not_last, said-fresh, said-last, said-more, talk-end, talk-over, talk-stops}
use Rattle.ocm_script_run.proofs.talks.answers_to.Goals as goal

pub loop-number-init : goal.loop-number-init
loop-number-init g c =
    let begun = c.requires.begun in
    record {
      some = c.requires.stands;
      reads = record { kind = ap (λ (r : ReaderState). r.kind) begun; max = ap (λ (r : ReaderState). r.max) begun };
      goes = ap (λ (r : ReaderState). r.failed) begun;
      few = λ e. (let f : 0 ≡ 1000 = e in omega (arith, f));
      said = λ server is. (
        server,
        is,
        said-fresh c.args.config.now c.args.line c.args.fresh c.args.source.now.left server c.args.reader.now.place c.args.reader.now.held c.args.source.now.left c.new-text.result
            (ap (λ (r : ReaderState). r.place) begun) (ap (λ (r : ReaderState). r.held) begun) refl c.new-text.ensures,
      );
    }

pub returns-in-Ok-None : goal.returns-in-Ok-None
returns-in-Ok-None g c = if_ok c.with_end.result
    (λ all e server is.
    let loop = c.loop-number in
    let said = loop.invariant.said server is in
    let over = comes-over loop.reader loop.source.left c.next.new.source.left loop.invariant.reads (c.in-Ok-None.ensures.over c.in-Ok-None.field-0-is) in (
      said.0,
      said-last c.args.config.now c.args.line c.args.fresh c.args.source.now.left server loop.number loop.reader.place (loop.reader.held ++ loop.source.left) said.0 said.0 loop.text (end_line c.args.line (codes "closed")) all said.2
          (talk-over c.args.config.now c.args.line c.args.fresh loop.number loop.reader.place (loop.reader.held ++ loop.source.left) said.0 over) e,
      said.1,
    ))
    c.with_end.ensures

pub returns-in-Err : goal.returns-in-Err
returns-in-Err g c = if_ok c.with_refusal.result
    (λ all e server is.
    let loop = c.loop-number in
    let said = loop.invariant.said server is in (
      said.0,
      said-last c.args.config.now c.args.line c.args.fresh c.args.source.now.left server loop.number loop.reader.place (loop.reader.held ++ loop.source.left) said.0 said.0 loop.text (refused_lines c.args.line c.in-Err.fault) all said.2
          (talk-stops c.args.config.now c.args.line c.args.fresh loop.number loop.reader loop.source.left c.next.new.source.left said.0 c.in-Err.fault loop.invariant.reads c.in-Err.ensures.fault)
          e,
      said.1,
    ))
    c.with_refusal.ensures

pub answer_of-requires-clause-request : goal.answer_of-requires-clause-request
answer_of-requires-clause-request g c =
    let loop = c.loop-number in
    let reads = subst (λ (o : Option Message). IfSome o (λ m. ReadsMessage loop.reader (flow (Some loop.source.left) None) (flow (Some c.next.new.source.left) None) (Given m c.next.new.self.held) c.next.new.self.held c.next.new.self.place)) c.in-Ok-Some.field-0-is c.in-Ok-Some.ensures.message in
    let here = comes loop.reader c.next.new.self loop.source.left c.next.new.source.left c.in-Ok-Some.message loop.invariant.reads reads in
    message_request 1048576 loop.reader.place (loop.reader.held ++ loop.source.left) (c.next.new.self.held ++ c.next.new.source.left) true c.in-Ok-Some.message here.is

pub returns-then-is_end : goal.returns-then-is_end
returns-then-is_end g c = λ server is.
    let loop = c.loop-number in
    let reads = subst (λ (o : Option Message). IfSome o (λ m. ReadsMessage loop.reader (flow (Some loop.source.left) None) (flow (Some c.next.new.source.left) None) (Given m c.next.new.self.held) c.next.new.self.held c.next.new.self.place)) c.in-Ok-Some.field-0-is c.in-Ok-Some.ensures.message in
    let here = comes loop.reader c.next.new.self loop.source.left c.next.new.source.left c.in-Ok-Some.message loop.invariant.reads reads in
    let said = loop.invariant.said server is in
    let answered = c.in_ok-more.ensures said.0 said.1 in
    let shows : Shows (wanted_at c.args.config.now loop.number c.in-Ok-Some.message (fresh_plus c.args.fresh loop.number)) c.args.line (is_last loop.number c.in-Ok-Some.message) said.0.clock answered.0 c.in_ok-more.more true =
    subst (λ (z : List ℕ × Bool). Shows (wanted_at c.args.config.now loop.number c.in-Ok-Some.message z.0) c.args.line (is_last loop.number c.in-Ok-Some.message) said.0.clock answered.0 c.in_ok-more.more z.1) (λ i. (c.plus.ensures.value i, c.if-is_end.true i)) answered.2 in (
      after_calls said.0 answered.0,
      said-last c.args.config.now c.args.line c.args.fresh c.args.source.now.left server loop.number loop.reader.place (loop.reader.held ++ loop.source.left) said.0 (after_calls said.0 answered.0) loop.text c.in_ok-more.more c.add.new.front said.2
          (talk-end c.args.config.now c.args.line c.args.fresh loop.number loop.reader.place (loop.reader.held ++ loop.source.left) (c.next.new.self.held ++ c.next.new.source.left) c.in-Ok-Some.message said.0 answered.0 here.is answered.1.0 c.in_ok-more.more shows)
          c.in_ok-add.ensures,
      answered.1.1,
    )

pub loop-number-preserved : goal.loop-number-preserved
loop-number-preserved g c =
    let loop = c.loop-number in
    let reads = subst (λ (o : Option Message). IfSome o (λ m. ReadsMessage loop.reader (flow (Some loop.source.left) None) (flow (Some c.next.new.source.left) None) (Given m c.next.new.self.held) c.next.new.self.held c.next.new.self.place)) c.in-Ok-Some.field-0-is c.in-Ok-Some.ensures.message in
    let here = comes loop.reader c.next.new.self loop.source.left c.next.new.source.left c.in-Ok-Some.message loop.invariant.reads reads in
    let some = c.in_ok-more.ensures loop.invariant.some.0 loop.invariant.some.1 in
    record {
      some = (after_calls loop.invariant.some.0 some.0, some.1.1);
      reads = record { kind = c.next.ensures.same_kind ∙ loop.invariant.reads.kind; max = c.next.ensures.same_max ∙ loop.invariant.reads.max };
      goes = c.in-Ok-Some.ensures.failed;
      few = λ e. not_last (wanted_at c.args.config.now loop.number c.in-Ok-Some.message c.plus.result) c.args.line c.in-Ok-Some.message loop.invariant.some.0.clock some.0 c.in_ok-more.more loop.number
          (subst (λ (b : Bool). Shows (wanted_at c.args.config.now loop.number c.in-Ok-Some.message c.plus.result) c.args.line (is_last loop.number c.in-Ok-Some.message) loop.invariant.some.0.clock some.0 c.in_ok-more.more b) c.if-is_end.false some.2) (omega (arith, e));
      said = λ server is.
          let said = loop.invariant.said server is in
          let answered = c.in_ok-more.ensures said.0 said.1 in
          let shows : Shows (wanted_at c.args.config.now loop.number c.in-Ok-Some.message (fresh_plus c.args.fresh loop.number)) c.args.line (is_last loop.number c.in-Ok-Some.message) said.0.clock answered.0 c.in_ok-more.more false =
          subst (λ (z : List ℕ × Bool). Shows (wanted_at c.args.config.now loop.number c.in-Ok-Some.message z.0) c.args.line (is_last loop.number c.in-Ok-Some.message) said.0.clock answered.0 c.in_ok-more.more z.1) (λ i. (c.plus.ensures.value i, c.if-is_end.false i)) answered.2 in
          let text : c.add.new.front ≡ loop.text ++ c.in_ok-more.more = c.in_ok-add.ensures in (
            after_calls said.0 answered.0,
            answered.1.1,
            subst (λ (z : ℕ × List ℕ). SaidSo c.args.config.now c.args.line c.args.fresh c.args.source.now.left server (loop.number + 1) z.0 (c.next.new.self.held ++ c.next.new.source.left) (after_calls said.0 answered.0) z.1) (λ i. (sym here.place i, sym text i))
                (said-more c.args.config.now c.args.line c.args.fresh c.args.source.now.left server loop.number loop.reader.place (loop.reader.held ++ loop.source.left) here.front (c.next.new.self.held ++ c.next.new.source.left) c.in-Ok-Some.message said.0 answered.0 loop.text c.in_ok-more.more said.2 here.is here.split answered.1.0 shows),
          );
    }

pub unreachable-requires : goal.unreachable-requires
unreachable-requires g c = c.loop-number.invariant.few (omega (arith, c.loop-number-test.false, c.loop-number.auto.number-end))
