use Rattle.std.proofs.Common.{◌≡◌, ◌∙◌, OnOk, codes, ap, subst}
use Rattle.serde_json.specs.View.{members_view}
use Rattle.ocm_records.specs.Written.{address_data, data_if, perms_data, put_if}
use Rattle.ocm_records.proofs.notice_json.put_accepted.Goals as goal

pub returns-clause-members : goal.returns-clause-members
returns-clause-members c = subst
    (λ ms. OnOk c.put_address_if-2.result (members_view c.put_address_if-2.new.members.entries ≡ put_if (codes "owner") (data_if address_data c.args.owner.now) ms))
    (c.in_ok-put_perms_if.ensures.members
    ∙ ap (put_if (codes "permissions") (data_if perms_data c.args.perms)) (c.in_ok-put_address_if.ensures.members ∙ ap (put_if (codes "shareWith") (data_if address_data c.args.with.now)) c.in_ok-put_secret.ensures.members))
    c.put_address_if-2.ensures.members
