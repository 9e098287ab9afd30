use Rattle.std.proofs.Common.{List, ◌∷◌, subst}
use Rattle.ocm_entry.specs.declared.entries.Entry.{Entry}
use Rattle.ocm_law_sessions.specs.Sessions.{IsSession}
use Rattle.ocm_law_sessions.proofs.Replying.{session-legal}
use Rattle.ocm_law_served.specs.Requests.{ask_with}
use Rattle.ocm_law_served.proofs.Answering.{answered-so, session-before}
use Rattle.ocm_script_run.specs.Servers.{area}
use Rattle.ocm_law_runs.proofs.Cutting.{told-line}
use Rattle.ocm_law_runs.proofs.Transcripts.{session-of-transcript}
use Rattle.ocm_law_runs.proofs.scripts.files_of_a_script_are_served_exactly_where_every_link_grants_it.Goals as goal

pub returns-clause-line : goal.returns-clause-line
returns-clause-line c = λ events text servers number host server e secret request line transcript there at is ran.
    let told = told-line servers number host server e (ask_with secret request) line there at is ran in
    let session = session-of-transcript events text servers host server transcript there in
    (told.reply, answered-so host area server.base server.calls secret request told.reply (session-legal host area server.base server.calls session) told.allowed, told.prints)

pub returns-clause-call : goal.returns-clause-call
returns-clause-call c = λ events text servers host server later before secret request reply transcript there split.
    let e : Entry = record { ask = ask_with secret request; reply = reply } in
    let P : List Entry → Type 0 = λ h. IsSession host area server.base h in
    let here = session-before host area server.base later (e ∷ before) (subst P split (session-of-transcript events text servers host server transcript there)) in
    answered-so host area server.base before secret request reply (session-legal host area server.base before here.1) here.0
