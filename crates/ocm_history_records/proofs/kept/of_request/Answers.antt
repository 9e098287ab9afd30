use Rattle.std.proofs.Common.{◌≡◌, ◌++◌, ap, ◌∙◌, sym, subst}
use Rattle.std.specs.Prelude.{IfOk}
use Rattle.ocm_entry.specs.declared.asks.Ask.TheVariants.{Dav}
use Rattle.ocm_entry.specs.declared.asks.Method.{Method}
use Rattle.ocm_entry_bytes.specs.Spells.{eight_bytes}
use Rattle.ocm_law_sessions.specs.Written.{stamp}
use Rattle.ocm_history_records.specs.declared.kept.KeptRecord.{KeptRecord}
use Rattle.ocm_history_records.specs.Kept.{kept_at, put_front}
use Rattle.ocm_history_records.proofs.Leaning.{put-text}
use Rattle.ocm_history_records.proofs.kept.of_request.Goals as goal

pub returns-in-Put : goal.returns-in-Put
returns-in-Put c = λ clock secret path bytes is len.
    let put = c.front_of.ensures (eight_bytes clock ++ put_front secret path) bytes (is ∙ ap (λ (m : Method). stamp clock (Dav secret m path bytes)) c.in-Put.is ∙ sym (put-text clock secret path bytes)) len in
    subst (λ (m : Method). IfOk c.front_of.result (λ (k : KeptRecord). k ≡ kept_at clock (Dav secret m path bytes))) (sym c.in-Put.is) put
