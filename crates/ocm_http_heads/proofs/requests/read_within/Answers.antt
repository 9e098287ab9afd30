use Rattle.std.proofs.Common.{rules, ◌≡◌, ℕ, length, ◌∙◌, subst, refl, arith, Ok}
use Rattle.std.proofs.lemmas.Grind.{common_steps}
use Rattle.httparse.specs.Grammar.{RequestHead}
use Rattle.httparse.specs.Borrowed.{HoldsRequest, HoldsSomeRequest}
use Rattle.httparse.specs.Outcome.{IfComplete}
use Rattle.httparse.specs.declared.Error.{Error}
use Rattle.httparse.specs.declared.Status.{Status}
use Rattle.ocm_http_heads.specs.Heads.{is_closing}
use Rattle.ocm_http_heads.proofs.Heads.{request_not_whole, request_whole, kept_all}
use Rattle.ocm_http_heads.proofs.requests.read_within.Goals as goal

pub returns-in_default : goal.returns-in_default
returns-in_default c = grind (arith, common_steps)

pub returns-then-len-text : goal.returns-then-len-text
returns-then-len-text c = λ k reads.
    let found : (h : RequestHead) × HoldsRequest c.args.text.now c.in-Ok-Complete.len c.parse.new.self h =
    subst (λ (s : Status ℕ). IfComplete {A = ℕ} {E = Error} (Ok s) (HoldsSomeRequest c.args.text.now c.parse.new.self)) c.in-Ok-Complete.field-0-is c.in-Ok-Complete.ensures.complete in
    absurd (request_not_whole c.args.text.now c.in-Ok-Complete.len c.parse.new.self found.0 k found.1 c.if-len-text.true reads)

pub returns : goal.returns
returns c =
    let found : (h : RequestHead) × HoldsRequest c.args.text.now c.in-Ok-Complete.len c.parse.new.self h =
    subst (λ (s : Status ℕ). IfComplete {A = ℕ} {E = Error} (Ok s) (HoldsSomeRequest c.args.text.now c.parse.new.self)) c.in-Ok-Complete.field-0-is c.in-Ok-Complete.ensures.complete in
    let same : c.in-Ok-Complete.len ≡ length c.args.text.now = search rules in
    let fields = c.in_ok-fields.ensures ∙ kept_all c.parse.new.self.headers.now found.0.fields found.1.fields in
    let method : c.in_ok-method.method ≡ found.0.method = search (rules, found.1.method) in
    let target : c.in_ok-target.target ≡ found.0.target = search (rules, found.1.path) in
    let minor : c.in-Some-Some-Some.minor ≡ found.0.minor = search (rules, found.1.version) in
    let closing : c.is_closing-closing.result ≡ is_closing c.in-Some-Some-Some.minor c.in_ok-fields.fields = search rules in
    (found.0, request_whole c.args.text.now c.in-Ok-Complete.len c.parse.new.self found.0 found.1 same, rw (closing, method, target, minor, fields) refl)
