-- Bytes that only proofs know are owned by nobody, so it may go to another thread.
use denote.Param.Send.{IsSend, owning_send, sendable}
use Rattle.ocm_base.specs.contracts.ghost_bytes.GhostBytes.{the_row, the_type}

pub send : IsSend the_row
send = owning_send the_type (search sendable, tt) (λ d. tt) (λ k x w. tt)
