use Rattle.std.proofs.Common.{rules}
use Rattle.ocm_json.proofs.Opening.{object_of-object, object_of-other, object_of-none}
use Rattle.ocm_json.proofs.fields.Fields.of.Goals as goal

pub returns-then-is_object-clause-ok : goal.returns-then-is_object-clause-ok
returns-then-is_object-clause-ok c =
    let read = c.in-Ok.ensures.ok in
    object_of-object c.args.bytes.now _ read.0 read.1 (search (rules, c.is_object.ensures, c.if-is_object.true))

pub returns-else-is_object-clause-err : goal.returns-else-is_object-clause-err
returns-else-is_object-clause-err c =
    let read = c.in-Ok.ensures.ok in
    λ not_memory. object_of-other c.args.bytes.now _ read.0 read.1 (search (rules, c.is_object.ensures, c.if-is_object.false))

pub returns-in_default : goal.returns-in_default
returns-in_default c =
    record { ok = tt; err = λ not_memory. object_of-none c.args.bytes.now (c.in-Err.ensures.err (λ memory. c.in_default.not-Memory (c.classify.ensures.memory.1 memory))) }
