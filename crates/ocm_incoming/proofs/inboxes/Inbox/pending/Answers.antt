use Rattle.std.proofs.Common.{length, arith, ap, sym, ◌∙◌}
use Rattle.std.proofs.lemmas.List.{length-map}
use Rattle.ocm_incoming.specs.Lists.{users_of}
use Rattle.ocm_incoming.proofs.Asking.{pending-is, pending-none}
use Rattle.ocm_incoming.proofs.Labelling.{number_of-bounds}
use Rattle.ocm_incoming.proofs.Kept.{pending_tags-length}
use Rattle.ocm_incoming.proofs.inboxes.Inbox.pending.Goals as goal

pub count-requires-clause-from_one : goal.count-requires-clause-from_one
count-requires-clause-from_one c = (number_of-bounds _ (users_of c.self.inside.records.rows) c.in-Some.group (sym c.in-Some.ensures)).0

pub count-requires-clause-within : goal.count-requires-clause-within
count-requires-clause-within c =
    let within = (number_of-bounds _ (users_of c.self.inside.records.rows) c.in-Some.group (sym c.in-Some.ensures)).1 in
    let tags = ap length c.self.invariant.undecided ∙ pending_tags-length c.self.inside.records.rows in
    let rows = rw length-map at within in
    omega (arith, rows, tags)

pub returns-in-Some : goal.returns-in-Some
returns-in-Some c = rw (← c.self.view_is) (c.count.ensures ∙ pending-is c.self.inside.records.rows c.args.user.now _ c.in-Some.group c.self.invariant.undecided (sym c.in-Some.ensures))

pub returns-in-None : goal.returns-in-None
returns-in-None c = rw (← c.self.view_is) (pending-none c.self.inside.records.rows c.args.user.now (sym c.in-None.ensures))
