use Rattle.std.proofs.Common.{◌∷◌}
use Rattle.ocm_entry.specs.declared.entries.Entry.{Entry}
use Rattle.ocm_law_sessions.proofs.Replying.{session-legal}
use Rattle.ocm_law_served.specs.Requests.{ask_with}
use Rattle.ocm_law_served.proofs.Answering.{answered-so, session-before}
use Rattle.ocm_law_served.proofs.requests.each_call_of_a_session_is_answered_so.Goals as goal

pub returns : goal.returns
returns c = λ host area k later before secret request reply session.
    let e : Entry = record { ask = ask_with secret request; reply = reply } in
    let here = session-before host area k later (e ∷ before) session in
    answered-so host area k before secret request reply (session-legal host area k before here.1) here.0
