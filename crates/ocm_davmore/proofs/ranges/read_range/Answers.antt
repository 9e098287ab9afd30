use Rattle.std.proofs.Common.{◌≡◌, rules}
use Rattle.ocm_davmore.specs.Ranges.{span_of}
use Rattle.ocm_davmore.proofs.RangeForms.{written_of, none_of, sound_of}
use Rattle.ocm_davmore.proofs.ranges.read_range.Goals as goal

pub returns-in_err-last-clause-written : goal.returns-in_err-last-clause-written
returns-in_err-last-clause-written c =
    let read : c.from_residual-in_err-last.result ≡ span_of c.args.value.now = search rules in
    written_of c.args.value.now _ read

pub returns-in_err-last-clause-none : goal.returns-in_err-last-clause-none
returns-in_err-last-clause-none c =
    let read : c.from_residual-in_err-last.result ≡ span_of c.args.value.now = search rules in
    none_of c.args.value.now _ read

pub returns-clause-written : goal.returns-clause-written
returns-clause-written c =
    let read : c.span_around.result ≡ span_of c.args.value.now = search rules in
    written_of c.args.value.now _ read

pub returns-clause-none : goal.returns-clause-none
returns-clause-none c =
    let read : c.span_around.result ≡ span_of c.args.value.now = search rules in
    none_of c.args.value.now _ read

pub returns-clause-sound : goal.returns-clause-sound
returns-clause-sound c =
    let read : c.span_around.result ≡ span_of c.args.value.now = search rules in
    sound_of c.args.value.now _ read
