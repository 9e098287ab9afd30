use Rattle.std.proofs.Common.{◌≡◌, ◌∙◌, ◌+◌, drop, reverse, take, sym, ap, subst, arith}
use Rattle.ocm_server.specs.Doors.{DoorState, given}
use Rattle.ocm_server.proofs.Giving.{first_of_rest, next}
use Rattle.ocm_server.proofs.memory_doors.MemDoorDoor.next.Goals as goal

pub invariant_of-self : goal.invariant_of-self
invariant_of-self g c =
    let s = c.self.inside in
    let first = first_of_rest s.rest.items c.pop.new.self.items s.all.value s.given c.in-Some.conn c.in-Some.ensures.items c.self.invariant.0 in
    let n = next s.all.value s.given c.in-Some.conn (reverse c.pop.new.self.items) first in
    (sym n.rest_is, n.within, (let b = c.self.invariant.2 in omega (arith, b)), c.self.invariant.3)

pub returns-in-Some-clause-given : goal.returns-in-Some-clause-given
returns-in-Some-clause-given g c =
    let s = c.self.inside in
    let first = first_of_rest s.rest.items c.pop.new.self.items s.all.value s.given c.in-Some.conn c.in-Some.ensures.items c.self.invariant.0 in
    let n = next s.all.value s.given c.in-Some.conn (reverse c.pop.new.self.items) first in
    subst (λ (w : DoorState g.row.C.Denot). record { given = reverse (take (s.given + 1) s.all.value); back = reverse s.back.items; overs = s.overs } ≡ given c.in-Some.conn w.door) c.self.view_is
    (λ i. record { given = n.given_is i; back = reverse s.back.items; overs = s.overs })

pub returns-in-Some-clause-rest : goal.returns-in-Some-clause-rest
returns-in-Some-clause-rest g c =
    let s = c.self.inside in
    let first = first_of_rest s.rest.items c.pop.new.self.items s.all.value s.given c.in-Some.conn c.in-Some.ensures.items c.self.invariant.0 in
    let n = next s.all.value s.given c.in-Some.conn (reverse c.pop.new.self.items) first in
    subst (λ (w : DoorState g.row.C.Denot). drop (s.given + 1) s.all.value ≡ drop 1 w.rest) c.self.view_is (n.rest_is ∙ ap (drop 1) (sym first))
