-- What comes of a reply is no fault of the dial.
use Rattle.std.proofs.Common.{◌≡◌, ℕ, Bool, true, false, cond, List, None, Result, Ok, Err, refl, ap}
use Rattle.std.specs.Prelude.{◌&&◌}
use Rattle.ocm_types.specs.declared.letters.Letter.{Letter}
use Rattle.ocm_http_heads.specs.declared.fields.Head.{Head}
use Rattle.ocm_http_heads.specs.declared.fields.Head.TheVariants.{Request, Reply}
use Rattle.ocm_http.specs.declared.messages.Message.{Message}
use Rattle.ocm_records.specs.Rows.{record_of}
use Rattle.ocm_records.specs.declared.faults.RecordFault.{RecordFault}
use Rattle.ocm_pump.specs.declared.faults.PumpFault.{PumpFault}
use Rattle.ocm_pump.specs.declared.faults.PumpFault.TheVariants.{DialFault, NoDiscovery, BadReply, NoMemory}
use Rattle.ocm_pump.specs.Delivery.{site_in, asks_share, child, with_child, answer_by, answer_in}
use Rattle.ocm_rules.specs.Settlements.{is_success}

pub searched : (sent : Result Message PumpFault) → site_in sent ≡ Err DialFault → sent ≡ Err DialFault
searched (Ok message) e = absurd cc
searched (Err DialFault) e = refl
searched (Err NoDiscovery) e = absurd cc
searched (Err (BadReply place)) e = absurd cc
searched (Err NoMemory) e = absurd cc

chosen : (made : Bool) (status : ℕ) (id : Result (List ℕ) RecordFault) → cond made (with_child status id) (Ok (record { status = status; id = None })) ≡ Err DialFault → ⊥
chosen true status (Ok id) e = cc
chosen true status (Err fault) e = cc
chosen false status id e = cc

by_reply : (letter : Letter) (head : Head) (body : List ℕ) → answer_by letter head body ≡ Err DialFault → ⊥
by_reply letter (Reply status fields) body e = chosen (asks_share letter && is_success status) status (record_of child body) e
by_reply letter (Request method target closing fields) body e = cc

pub posted : (letter : Letter) (sent : Result Message PumpFault) → answer_in letter sent ≡ Err DialFault → sent ≡ Err DialFault
posted letter (Ok message) e = absurd (by_reply letter message.head message.body e)
posted letter (Err fault) e = let same : fault ≡ DialFault = cc in ap (λ (p : PumpFault). Err p) same
