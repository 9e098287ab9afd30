use Rattle.std.proofs.Common.{◌≡◌, ◌++◌, ℕ, List, ap, ◌∙◌, subst, IfOk}
use Rattle.std.specs.Prelude.{codes}
use Rattle.ocm_transcript.specs.Texts.{line_text}
use Rattle.ocm_script_run.proofs.deliveries.unreachable_line.Goals as goal

pub returns : goal.returns
returns c = subst (λ (t : List ℕ). IfOk c.line_text.result (λ text. text ≡ line_text c.args.line t))
    (c.as_slice.ensures ∙ c.in_ok-text.ensures ∙ ap (λ b. codes "unreachable " ++ b) (c.as_bytes.ensures.value ∙ c.as_str.ensures)) c.line_text.ensures
