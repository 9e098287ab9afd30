use Rattle.std.proofs.Common.{◌≡◌, ◌∙◌, OnOk, codes, ap, subst}
use Rattle.serde_json.specs.Data.{string, put}
use Rattle.serde_json.specs.View.{members_view}
use Rattle.ocm_records.specs.Written.{address_data, data_if, perms_data, put_if}
use Rattle.ocm_records.proofs.notice_json.put_request.Goals as goal

pub returns-clause-members : goal.returns-clause-members
returns-clause-members c = subst
    (λ ms. OnOk c.put_perms_if.result (members_view c.put_perms_if.new.members.entries ≡ put_if (codes "permissions") (data_if perms_data c.args.perms) ms))
    (c.in_ok-put_text.ensures
    ∙ ap (λ s. put (codes "senderId") (string s) (members_view c.put_address.new.members.entries)) c.as_str.ensures.text
    ∙ ap (put (codes "senderId") (string c.args.sender_id.now)) (c.in_ok-put_address.ensures.members ∙ ap (put (codes "shareWith") (address_data c.args.with.now)) c.in_ok-put_secret.ensures.members))
    c.put_perms_if.ensures.members
