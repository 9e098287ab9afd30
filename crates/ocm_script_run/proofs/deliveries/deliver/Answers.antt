use Rattle.std.proofs.Common.{[], Some, Option, refl, sym, ap, ◌∙◌}
use Rattle.ocm_script_run.proofs.Lines.{Runs-same, if_ok}
use Rattle.ocm_types.specs.declared.letters.Numbered.{Numbered}
use Rattle.std.specs.Option.{option_map_or}
use Rattle.ocm_script_run.specs.Deliveries.{delivered, nothing}
use Rattle.ocm_script_run.proofs.deliveries.deliver.Goals as goal

pub returns-in_default : goal.returns-in_default
returns-in_default g c = if_ok c.line_text.result
    (λ text e world are. rw e (Runs-same g.S.ScriptServers.stand _ (λ w. nothing world c.args.line) c.args.servers.now _
    (λ w. ap (λ (found : Option Numbered). option_map_or (delivered w world c.args.line c.args.sender.now c.args.fresh c.args.lost) found (nothing world c.args.line)) (sym (c.in_default.ensures world are)))
    ([], refl, are)))
    c.line_text.ensures

pub returns : goal.returns
returns g c = if_ok c.delivered-text.result
    (λ text h world are. Runs-same g.S.ScriptServers.stand _ (λ w. delivered w world c.args.line c.args.sender.now c.args.fresh c.args.lost c.in_ok-message.message) c.delivered-text.new.servers text
    (λ w. ap (λ (found : Option Numbered). option_map_or (delivered w world c.args.line c.args.sender.now c.args.fresh c.args.lost) found (nothing world c.args.line)) (sym (c.in-Some.ensures world are) ∙ ap Some (sym c.in_ok-message.ensures)))
    (h world are))
    c.delivered-text.ensures
