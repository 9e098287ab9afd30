use Rattle.std.proofs.Common.{ap₂, ◌∙◌, ◌≡◌, codes}
use Rattle.std.proofs.lemmas.Result.{IfOk-weaker}
use Rattle.clap.specs.Words.{App, app_of, with_rule}
use Rattle.ocm_serve_options.specs.Plans.{first_six, option, optional, flag}
use Rattle.ocm_serve_options.proofs.commands.serve_command.Goals as goal

abbrev a7 : App
a7 = with_rule first_six (optional (codes "key-file") (codes "/dev/urandom"))

abbrev a8 : App
a8 = with_rule a7 (optional (codes "connections") (codes "0"))

abbrev a9 : App
a9 = with_rule a8 (option (codes "log"))

abbrev a10 : App
a10 = with_rule a9 (flag (codes "existing"))

abbrev a11 : App
a11 = with_rule a10 (optional (codes "peers") (codes "public"))

pub returns : goal.returns
returns c =
    let e7 : app_of c.in_ok-c7.c7 ≡ a7 = c.in_ok-c7.ensures.shape c.option_with-key_file.ensures.local ∙ ap₂ with_rule c.in_ok-c6.ensures c.option_with-key_file.ensures.rule in
    let e8 : app_of c.in_ok-c8.c8 ≡ a8 = c.in_ok-c8.ensures.shape c.option_with-connections.ensures.local ∙ ap₂ with_rule e7 c.option_with-connections.ensures.rule in
    let e9 : app_of c.in_ok-c9.c9 ≡ a9 = c.in_ok-c9.ensures.shape c.free_option-log.ensures.local ∙ ap₂ with_rule e8 c.free_option-log.ensures.rule in
    let e10 : app_of c.in_ok-c10.c10 ≡ a10 = c.in_ok-c10.ensures.shape c.flag_named-existing.ensures.local ∙ ap₂ with_rule e9 c.flag_named-existing.ensures.rule in
    IfOk-weaker c.arg-5.result _ _ (λ r h. h.shape c.option_with-peers.ensures.local ∙ ap₂ with_rule e10 c.option_with-peers.ensures.rule) c.arg-5.ensures
