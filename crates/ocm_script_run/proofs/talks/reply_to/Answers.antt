use Rattle.std.proofs.Common.{ℕ, refl, sym, ◌∙◌, subst}
use Rattle.ocm_entry.specs.declared.asks.Ask.TheVariants as asks
use Rattle.ocm_dav.specs.Sound.{is_requested}
use Rattle.ocm_script_run.specs.Running.{Replying}
use Rattle.ocm_script_run.specs.Servers.{server_after}
use Rattle.ocm_script_run.proofs.Paging.{or_left, page_fits}
use Rattle.ocm_script_run.proofs.Talking.{replying-done, replying-else}
use Rattle.ocm_script_run.proofs.talks.reply_to.Goals as goal

pub returns-then-is_done-clause-replied : goal.returns-then-is_done-clause-replied
returns-then-is_done-clause-replied g c = λ server is.
    subst (λ (clock : ℕ). Replying g.N.ScriptServer.stands c.args.ask clock server c.act.new.self c.act.result) (c.clock-time.ensures server is)
    (replying-done g.N.ScriptServer.stands c.args.ask c.clock-time.result server c.args.node.now c.act-ticked.new.self c.act.new.self c.act-ticked.result c.act.result
    c.act-ticked.ensures.replied c.act.ensures.replied (sym c.is_done.ensures ∙ c.if-is_done.true) is)

pub returns-then-is_done-clause-page : goal.returns-then-is_done-clause-page
returns-then-is_done-clause-page g c =
    let s = c.requires.stands in
    let one = c.act-ticked.ensures.replied s.0 s.1 in
    page_fits c.args.ask c.act.result (or_left (is_requested c.args.ask) _ c.requires.requested) (c.act.ensures.fits (server_after one.0 s.0 (asks.Tick c.clock-time.result)) one.2)

pub returns-else-is_done-clause-replied : goal.returns-else-is_done-clause-replied
returns-else-is_done-clause-replied g c = λ server is.
    subst (λ (clock : ℕ). Replying g.N.ScriptServer.stands c.args.ask clock server c.act-ticked.new.self c.act-ticked.result) (c.clock-time.ensures server is)
    (replying-else g.N.ScriptServer.stands c.args.ask c.clock-time.result server c.args.node.now c.act-ticked.new.self c.act-ticked.result
    c.act-ticked.ensures.replied (sym c.is_done.ensures ∙ c.if-is_done.false) is)

pub returns-else-is_done-clause-page : goal.returns-else-is_done-clause-page
returns-else-is_done-clause-page g c =
    let s = c.requires.stands in
    page_fits (asks.Tick c.clock-time.result) c.act-ticked.result refl (c.act-ticked.ensures.fits s.0 s.1)
