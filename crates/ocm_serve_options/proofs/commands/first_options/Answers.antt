use Rattle.std.proofs.Common.{ap, ap₂, ◌∙◌, ◌≡◌, codes, true}
use Rattle.std.proofs.lemmas.Result.{IfOk-weaker}
use Rattle.clap.specs.Words.{App, app_of, new_app, with_rule}
use Rattle.clap.specs.Simple.{on_top, app_of_fields}
use Rattle.ocm_serve_options.specs.Plans.{needed, option, optional}
use Rattle.ocm_serve_options.proofs.commands.first_options.Goals as goal

abbrev a0 : App
a0 = on_top (λ s. record s { disable_help_flag = true }) (new_app (codes "serve"))

abbrev a1 : App
a1 = with_rule a0 (needed (codes "host"))

abbrev a2 : App
a2 = with_rule a1 (needed (codes "disk"))

abbrev a3 : App
a3 = with_rule a2 (option (codes "admin"))

abbrev a4 : App
a4 = with_rule a3 (option (codes "admin-file"))

abbrev a5 : App
a5 = with_rule a4 (optional (codes "listen") (codes "127.0.0.1:8080"))

abbrev a6 : App
a6 = with_rule a5 (optional (codes "workers") (codes "4"))

pub returns : goal.returns
returns c =
    let e0 : app_of c.disable_help_flag-bare.result ≡ a0 = ap app_of_fields c.disable_help_flag-bare.ensures ∙ ap (on_top (λ s. record s { disable_help_flag = true })) c.new.ensures.app in
    let e1 : app_of c.in_ok-c1.c1 ≡ a1 = c.in_ok-c1.ensures.shape c.needed_option-host.ensures.local ∙ ap₂ with_rule e0 c.needed_option-host.ensures.rule in
    let e2 : app_of c.in_ok-c2.c2 ≡ a2 = c.in_ok-c2.ensures.shape c.needed_option-disk.ensures.local ∙ ap₂ with_rule e1 c.needed_option-disk.ensures.rule in
    let e3 : app_of c.in_ok-c3.c3 ≡ a3 = c.in_ok-c3.ensures.shape c.free_option-admin.ensures.local ∙ ap₂ with_rule e2 c.free_option-admin.ensures.rule in
    let e4 : app_of c.in_ok-c4.c4 ≡ a4 = c.in_ok-c4.ensures.shape c.free_option-admin_file.ensures.local ∙ ap₂ with_rule e3 c.free_option-admin_file.ensures.rule in
    let e5 : app_of c.in_ok-c5.c5 ≡ a5 = c.in_ok-c5.ensures.shape c.option_with-listen.ensures.local ∙ ap₂ with_rule e4 c.option_with-listen.ensures.rule in
    IfOk-weaker c.arg-6.result _ _ (λ r h. h.shape c.option_with-workers.ensures.local ∙ ap₂ with_rule e5 c.option_with-workers.ensures.rule) c.arg-6.ensures
