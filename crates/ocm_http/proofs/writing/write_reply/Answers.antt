use Rattle.std.proofs.Common.{◌≡◌, List, ℕ, sym, subst, rules}
use Rattle.std.proofs.lemmas.Bool.{both_ways}
use Rattle.ocm_http.specs.Written.{written_reply}
use Rattle.ocm_http.specs.ReadBack.{ReplyIsReadBack}
use Rattle.ocm_http.proofs.ReadReplies.{reply_is_read_back}
use Rattle.ocm_http.proofs.writing.write_reply.Goals as goal

pub returns-then-bodyless-clause-read_back : goal.returns-then-bodyless-clause-read_back
returns-then-bodyless-clause-read_back c = λ max final given with_body. absurd (both_ways c.args.bodyless with_body c.if-bodyless.true)

pub returns-clause-read_back : goal.returns-clause-read_back
returns-clause-read_back c =
    let status = c.args.status in
    let fields = c.args.fields.now in
    let body = c.args.body.now in
    let bodyless = c.args.bodyless in
    let closing = c.args.closing in
    let whole : c.of-2.result ≡ written_reply status fields body bodyless closing = search rules in
    subst (λ (bytes : List ℕ). ReplyIsReadBack status fields body bodyless closing bytes) (sym whole)
    (reply_is_read_back status fields body bodyless closing c.requires.code.1)
