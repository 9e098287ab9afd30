use Rattle.std.proofs.Common.{◌≤◌, Some, Err, ap, sym, subst, arith}
use Rattle.ocm_http.specs.declared.messages.FrameFault.{FrameFault}
use Rattle.ocm_pump.specs.Replies.{Reads}
use Rattle.ocm_pump.specs.declared.faults.PumpFault.{PumpFault}
use Rattle.ocm_pump.proofs.Framing.{read_message, read_over, read_fault}
use Rattle.ocm_pump.proofs.replies.read_reply.Goals as goal

pub returns-in-Ok-Some : goal.returns-in-Ok-Some
returns-in-Ok-Some c =
    read_message c.in_ok-reader.reader (Some c.new-source.result.left) (Some c.next.new.source.left) c.args.bytes c.next.new.self.held c.next.new.self.place c.in-Ok-Some.message c.in_ok-reader.ensures c.new-source.ensures.left (rw c.in-Ok-Some.field-0-is at c.in-Ok-Some.ensures.message)

pub returns-in-Ok-None : goal.returns-in-Ok-None
returns-in-Ok-None c =
    read_over c.in_ok-reader.reader (Some c.new-source.result.left) (Some c.next.new.source.left) c.args.bytes c.in_ok-reader.ensures c.new-source.ensures.left (c.in-Ok-None.ensures.over c.in-Ok-None.field-0-is)

pub returns : goal.returns
returns c =
    subst (λ (f : PumpFault). Reads c.args.bytes (Err f)) (sym c.fault_of.ensures)
    (read_fault c.in_ok-reader.reader (Some c.new-source.result.left) (Some c.next.new.source.left) c.args.bytes c.in-Err.fault c.in_ok-reader.ensures c.new-source.ensures.left
    (λ e. let rose : 1 ≤ 0 = c.in-Err.ensures.read_fault (ap (λ (f : FrameFault). Err f) e) in omega arith)
    c.in-Err.ensures.fault)
