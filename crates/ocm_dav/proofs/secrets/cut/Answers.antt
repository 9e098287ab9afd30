use Rattle.std.proofs.Common.{rules}
use Rattle.std.proofs.lemmas.List.{take_rest}
use Rattle.ocm_davmore.proofs.RangePlaces.{cut_at_place, cut_nowhere}
use Rattle.ocm_dav.proofs.secrets.cut.Goals as goal

pub returns-in-Some : goal.returns-in-Some
returns-in-Some c =
    let found = cut_at_place c.args.separator c.args.bytes.now c.in-Some.place (search rules) (search rules) (search rules) in
    record { front = rw found; behind = rw (found, take_rest) }

pub returns-in-None : goal.returns-in-None
returns-in-None c =
    let none = cut_nowhere c.args.separator c.args.bytes.now (search rules) in
    record { front = rw none; behind = rw none }
