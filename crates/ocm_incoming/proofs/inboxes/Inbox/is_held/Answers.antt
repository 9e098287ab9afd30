use Rattle.std.proofs.Common.{length, arith, ap, sym, ◌∙◌}
use Rattle.std.specs.Prelude.{nat_lt}
use Rattle.std.proofs.lemmas.List.{length-map}
use Rattle.ocm_incoming.specs.Lists.{marks_of}
use Rattle.ocm_incoming.proofs.Asking.{held-is, held-none}
use Rattle.ocm_incoming.proofs.Labelling.{number_of-bounds}
use Rattle.ocm_incoming.proofs.Kept.{held_tags-length}
use Rattle.ocm_incoming.proofs.inboxes.Inbox.is_held.Goals as goal

pub count-requires-clause-from_one : goal.count-requires-clause-from_one
count-requires-clause-from_one c = (number_of-bounds _ (marks_of c.self.inside.records.rows) c.in-Some.group (sym c.in-Some.ensures)).0

pub count-requires-clause-within : goal.count-requires-clause-within
count-requires-clause-within c =
    let within = (number_of-bounds _ (marks_of c.self.inside.records.rows) c.in-Some.group (sym c.in-Some.ensures)).1 in
    let tags = ap length c.self.invariant.still_held ∙ held_tags-length c.self.inside.records.rows in
    let rows = rw length-map at within in
    omega (arith, rows, tags)

pub returns-in-Some : goal.returns-in-Some
returns-in-Some c = rw (← c.self.view_is) (ap (λ n. nat_lt 0 n) c.count.ensures ∙ held-is c.self.inside.records.rows c.args.mark.now _ c.in-Some.group c.self.invariant.still_held (sym c.in-Some.ensures))

pub returns-in-None : goal.returns-in-None
returns-in-None c = rw (← c.self.view_is) (held-none c.self.inside.records.rows c.args.mark.now (sym c.in-None.ensures))
