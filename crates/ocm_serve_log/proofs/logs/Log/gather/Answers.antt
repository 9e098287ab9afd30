use Rattle.std.proofs.Common.{List, ℕ, ◌++◌, ap, ◌∙◌}
use Rattle.ocm_serve_log.proofs.Holding.{gathered_more}
use Rattle.ocm_serve_log.proofs.Texts.{line_behind}
use Rattle.ocm_serve_log.proofs.logs.Log.gather.Goals as goal

pub returns-in-Ok : goal.returns-in-Ok
returns-in-Ok g c = λ line status read text lines h.
    let more = c.in-Ok.ensures.items ∙ ap (λ (x : List ℕ). c.args.self.now.gathered.items ++ x) (c.as_slice.ensures ∙ text) in
    gathered_more _ _ _ _ _ _ _ _ lines line c.requires.none (line_behind _ _ _ c.args.status line more read status c.set_status.ensures) c.saturating_add-self.ensures h
