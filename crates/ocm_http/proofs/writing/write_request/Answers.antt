use Rattle.std.proofs.Common.{◌≡◌, List, ℕ, sym, subst, rules, option_copied}
use Rattle.ocm_http.specs.Written.{written_request}
use Rattle.ocm_http.specs.ReadBack.{RequestIsReadBack}
use Rattle.ocm_http.proofs.ReadRequests.{request_is_read_back}
use Rattle.ocm_http.proofs.writing.write_request.Goals as goal

pub returns-clause-read_back : goal.returns-clause-read_back
returns-clause-read_back c =
    let host = c.args.host.now in
    let method = c.args.method.now in
    let target = c.args.target.now in
    let secret = option_copied c.args.auth in
    let body = c.args.body.now in
    let whole : c.add-2.new.self ≡ written_request host method target secret body = search rules in
    subst (λ (bytes : List ℕ). RequestIsReadBack host method target secret body bytes) (sym whole)
    (request_is_read_back host method target secret body (search rules) c.utf8.target (search rules))
