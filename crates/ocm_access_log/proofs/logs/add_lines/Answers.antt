use Rattle.std.proofs.Common.{rules, arith, ◌∷◌, length, ap, sym, ◌∙◌, length-append}
use Rattle.ocm_access_log.specs.Lines.{log_of}
use Rattle.ocm_access_log.specs.Logs.{IsLogFault}
use Rattle.ocm_access_log.proofs.LineSteps.{read_open, read_bad, read_line}
use Rattle.ocm_access_log.proofs.logs.add_lines.Goals as goal

pub returns-in_default-clause-err : goal.returns-in_default-clause-err
returns-in_default-clause-err c =
    read_open _ _ c.loop-rest.place c.loop-rest.moment c.loop-rest.rest.now _ c.loop-rest.invariant.so_far c.in_default.ensures (search rules)

pub returns-in_err-line-clause-err : goal.returns-in_err-line-clause-err
returns-in_err-line-clause-err c =
    let bad : IsLogFault c.in_err-line.field-0.0 (log_of c.args.log.now) =
    read_bad _ _ _ _ _ c.in-Some.bytes.now c.in-Some.behind.now c.next_line.result c.in_err-line.field-0.0 _ c.loop-rest.invariant.so_far c.in-Some.ensures.1 c.in-Some.ensures.0 c.next_line.ensures (sym c.numbered.ensures ∙ c.in_err-line.was) in
    search (rules, bad)

pub loop-rest-preserved : goal.loop-rest-preserved
loop-rest-preserved c =
    record {
      so_far = rw c.in_ok-push.ensures.ok (read_line _ _ _ _ _ c.in-Some.bytes.now c.in-Some.behind.now c.next_line.result c.in_ok-line.line _ c.loop-rest.invariant.so_far c.in-Some.ensures.1 c.in-Some.ensures.0 c.next_line.ensures (sym c.numbered.ensures ∙ c.in_ok-line.was));
      fits = omega (arith, length-append c.in-Some.bytes.now (10 ∷ c.in-Some.behind.now), ap length c.in-Some.ensures.1);
    }
