use Rattle.std.proofs.Common.{rules, refl, ◌∙◌, subst, Some, None}
use Rattle.std.proofs.lemmas.Result.{err_from_is_err_and}
use Rattle.ocm_journal_image.specs.Reading.{FirstIs, records_from}
use Rattle.ocm_law_sessions.specs.Readings.{goes_on}
use Rattle.ocm_compact.specs.Replays.{GoesOn, home_of}
use Rattle.ocm_compact.proofs.Going.{comes-end, comes-fault, comes-halts, comes-more, comes-start, comes-whole}
use Rattle.ocm_compact.proofs.replays.Replay.take_area.Goals as goal

pub loop-record-init : goal.loop-record-init
loop-record-init c = record {
  home = refl;
  comes = comes-start (home_of c.args.self.now) c.args.form (records_from 0 c.args.place c.args.bytes.now) c.args.self.now c.requires.start;
  fits = refl;
}

pub loop-record-preserved : goal.loop-record-preserved
loop-record-preserved c =
    let host = home_of c.args.self.now in
    let old = c.loop-record.self in
    let new = c.take_record.new.self in
    let r = c.in-Some.record.now in
    let first : FirstIs c.loop-record.end c.loop-record.rest.now (Some r) = rw c.in-Some.is at c.in_ok-record.ensures in
    record {
      home = c.in_ok-going.ensures.home ∙ c.loop-record.invariant.home;
      comes = comes-more host (home_of old) c.args.form c.loop-record.end (records_from 0 c.args.place c.args.bytes.now) c.loop-record.rest.now r old new c.loop-record.invariant.home first c.loop-record.invariant.comes
          (subst (λ b. GoesOn old new (λ k. goes_on (home_of old) c.args.form k r) b) c.if-not-going.false c.in_ok-going.ensures.goes_on);
      fits = search rules;
    }

pub returns-then-not-going-clause-refused : goal.returns-then-not-going-clause-refused
returns-then-not-going-clause-refused c =
    let host = home_of c.args.self.now in
    let old = c.loop-record.self in
    let new = c.take_record.new.self in
    let r = c.in-Some.record.now in
    let first : FirstIs c.loop-record.end c.loop-record.rest.now (Some r) = rw c.in-Some.is at c.in_ok-record.ensures in
    comes-halts host (home_of old) c.args.form c.loop-record.end (records_from 0 c.args.place c.args.bytes.now) c.loop-record.rest.now r old new c.requires.framed c.loop-record.invariant.home first c.loop-record.invariant.comes
    (subst (λ b. GoesOn old new (λ k. goes_on (home_of old) c.args.form k r) b) c.if-not-going.true c.in_ok-going.ensures.goes_on)

pub returns-clause-opens : goal.returns-clause-opens
returns-clause-opens c = λ yes.
    (let all = records_from 0 c.args.place c.args.bytes.now in
    let none : FirstIs c.loop-record.end c.loop-record.rest.now None = rw c.in_default.is at c.in_ok-record.ensures in
    comes-end (home_of c.args.self.now) c.args.form c.loop-record.end all (records_from 0 c.loop-record.end c.loop-record.rest.now) c.loop-record.self none.1 c.loop-record.invariant.comes)

pub returns-clause-refused : goal.returns-clause-refused
returns-clause-refused c =
    let all = records_from 0 c.args.place c.args.bytes.now in
    let none : FirstIs c.loop-record.end c.loop-record.rest.now None = rw c.in_default.is at c.in_ok-record.ensures in
    comes-whole (home_of c.args.self.now) c.args.form c.loop-record.end all (records_from 0 c.loop-record.end c.loop-record.rest.now) c.loop-record.self none.1 c.loop-record.invariant.comes

pub returns-in_err-record-clause-refused : goal.returns-in_err-record-clause-refused
returns-in_err-record-clause-refused c =
    let all = records_from 0 c.args.place c.args.bytes.now in
    let p = err_from_is_err_and c.from_residual.result c.from_residual.ensures.1 in
    rw (p.1, p.2) (comes-fault (home_of c.args.self.now) c.args.form _ all (records_from 0 c.loop-record.end c.loop-record.rest.now) c.loop-record.self c.in_err-record.ensures c.loop-record.invariant.comes)
