use Rattle.std.proofs.Common.{rules}
use Rattle.ocm_http.proofs.LineSteps.{too_large, goes_to_trailers, goes_to_data}
use Rattle.ocm_http.proofs.chunks.after_line.Goals as goal

pub returns-then-size-rules-clause-fault : goal.returns-then-size-rules-clause-fault
returns-then-size-rules-clause-fault c = too_large c.args.rules c.args.message c.args.place c.args.len c.args.size c.requires.body (search rules)

pub returns-then-size-eq0-clause-stage : goal.returns-then-size-eq0-clause-stage
returns-then-size-eq0-clause-stage c =
    rw (c.past-place.ensures, c.of_trailers.ensures) (goes_to_trailers c.args.rules c.args.message c.args.place c.args.len c.args.size c.requires.body c.requires.len (search rules))

pub returns-clause-stage : goal.returns-clause-stage
returns-clause-stage c =
    rw (c.past-place.ensures) (goes_to_data c.args.rules c.args.message c.args.place c.args.len c.args.size c.requires.body c.requires.len (search rules) (search rules))
