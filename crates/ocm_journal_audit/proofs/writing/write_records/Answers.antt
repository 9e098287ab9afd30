use Rattle.std.proofs.Common.{rules, arith, ◌≡◌, ◌∙◌, Some, None}
use Rattle.ocm_journal_image.specs.Reading.{FirstIs}
use Rattle.ocm_journal_audit.proofs.Sending.{IsOk-behind_first, OnErr-known, Sent-end_failed, Sent-line_failed, Sent-line_written, framed-no_fault}
use Rattle.ocm_journal_audit.proofs.writing.write_records.Goals as goal
use Rattle.ocm_journal_audit.proofs.writing.write_records.Goals.{in_default, in_default-2}

pub returns-in_err-pass_on-clause-err : goal.returns-in_err-pass_on-clause-err
returns-in_err-pass_on-clause-err g c =
    OnErr-known _ _ (Sent-line_failed _ _ _ c.args.form c.loop-bytes.end c.loop-bytes.rest.now c.in-Ok-Some.bytes.now c.loop-bytes.held c.add_line.new.text _ (rw c.in-Ok-Some.field-0-is at c.in-Ok-Some.ensures) c.loop-bytes.invariant.framed c.in_ok-add_line.ensures c.loop-bytes.invariant.sent c.in_err-pass_on.ensures.err)

pub loop-bytes-preserved : goal.loop-bytes-preserved
loop-bytes-preserved g c =
    let first : FirstIs c.loop-bytes.end c.loop-bytes.rest.now (Some c.in-Ok-Some.bytes.now) = rw c.in-Ok-Some.field-0-is at c.in-Ok-Some.ensures in
    record {
      framed = IsOk-behind_first c.loop-bytes.end c.loop-bytes.rest.now c.in-Ok-Some.bytes.now first c.loop-bytes.invariant.framed;
      fits = search rules;
      sent = Sent-line_written _ _ _ c.args.form c.loop-bytes.end c.loop-bytes.rest.now c.in-Ok-Some.bytes.now c.loop-bytes.held c.add_line.new.text _ _ first c.loop-bytes.invariant.framed c.in_ok-add_line.ensures c.loop-bytes.invariant.sent c.in_ok-pass_on.ensures.ok;
      never_falls = omega (arith, c.loop-bytes.invariant.never_falls, c.in_ok-pass_on.ensures.never_falls);
    }

pub returns-in_err-write_all-clause-err : goal.returns-in_err-write_all-clause-err
returns-in_err-write_all-clause-err g c = elim c.match-next_record.branch [
  | in_default w ↦ (
      let none : w.in_default.field-0 ≡ None = search rules in
      let found = rw (w.in_default.is, none) at c.next_record.ensures in
      OnErr-known _ _ (Sent-end_failed _ _ _ c.args.form c.loop-bytes.end _ c.loop-bytes.held c.as_slice.result.now _ found.1 (c.as_slice.ensures ∙ c.in_ok-add_end_line.ensures) c.loop-bytes.invariant.sent c.in_err-write_all.ensures.err)
      )
  | in_default-2 w ↦ absurd (framed-no_fault _ _ c.loop-bytes.invariant.framed (rw w.in_default.is at c.next_record.ensures))
]
