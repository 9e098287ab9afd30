use Rattle.std.proofs.Common.{◌≡◌, ◌∙◌, OnOk, codes, ap, subst}
use Rattle.serde_json.specs.Data.{string, put}
use Rattle.serde_json.specs.View.{members_view}
use Rattle.ocm_records.proofs.offer_json.put_later.Goals as goal

pub returns-clause-members : goal.returns-clause-members
returns-clause-members c = subst
    (λ ms. OnOk c.put_text.result (members_view c.put_text.new.members.entries ≡ put (codes "resourceType") (string (codes "file")) ms))
    (c.in_ok-put_address.ensures.members ∙ ap (put (codes "sender") (string _)) c.in_ok-put_guest.ensures.members)
    c.put_text.ensures
