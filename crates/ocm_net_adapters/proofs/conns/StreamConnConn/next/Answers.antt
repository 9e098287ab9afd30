use Rattle.std.proofs.Common.{ℕ, List, Some, refl, ap, subst, arith}
use Rattle.ocm_http.specs.Readers.{with_held}
use Rattle.ocm_server_connections.specs.Sides.{Read, IsOpen, Gives}
use Rattle.ocm_server_connections.proofs.Pairing.{gives}
use Rattle.ocm_net_adapters.specs.Conns.{sides_of}
use Rattle.ocm_net_adapters.proofs.Behind.{gives_behind}
use Rattle.ocm_net_adapters.proofs.conns.StreamConnConn.next.Goals as goal

pub returns-in-Some : goal.returns-in-Some
returns-in-Some g c =
    let n = c.next_behind.ensures in
    let next = n.read in
    let self = c.args.self.now in
    let heard = c.take_head.new.self in
    let source = c.next_behind.new.source in
    let reader = c.args.reader.now in
    let after = c.next_behind.new.self in
    let text = c.in-Some.head.text in
    let old = sides_of self.heard.received.bytes self.sent.bytes self.notes.pages self.heard.faults self.faults in
    let mid = sides_of heard.received.bytes self.sent.bytes self.notes.pages heard.faults self.faults in
    let new = sides_of source.received.bytes self.sent.bytes self.notes.pages source.faults self.faults in
    let open_still : IsOpen (with_held reader text) = record { kind = c.requires.kind; max = c.requires.max; failed = c.requires.failed } in
    let ahead : Read old mid text = record { flow = (refl, ap Some c.in-Some.ensures.came); taken = refl; noted = refl; read_faults = omega (arith, c.take_head.ensures.faults); write_faults = omega arith } in
    gives_behind reader after text old mid new ahead c.next_behind.result c.in-Some.ensures.none_held
    (gives (with_held reader text) after mid new open_still refl refl n.never_falls (omega arith) c.next_behind.result next.message next.over next.fault n.read_fault (next.taken.0, next.taken.1) n.failed n.same_kind n.same_max)

pub returns-in-None : goal.returns-in-None
returns-in-None g c =
    let n = c.next.ensures in
    let self = c.args.self.now in
    let heard = c.take_head.new.self in
    let source = c.next.new.source in
    let reader = c.args.reader.now in
    let after = c.next.new.self in
    let mid = sides_of heard.received.bytes self.sent.bytes self.notes.pages heard.faults self.faults in
    let new = sides_of source.received.bytes self.sent.bytes self.notes.pages source.faults self.faults in
    subst (λ (z : List ℕ × ℕ). Gives reader after (sides_of z.0 self.sent.bytes self.notes.pages z.1 self.faults) new c.next.result) (λ i. ((c.in-None.ensures.nothing i).bytes, c.take_head.ensures.faults i))
    (gives reader after mid new c.requires refl refl n.never_falls (omega arith) c.next.result n.message n.over n.fault n.read_fault (n.taken.0, n.taken.1) n.failed n.same_kind n.same_max)
