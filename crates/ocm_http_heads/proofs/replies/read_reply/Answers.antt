use Rattle.std.proofs.Common.{rules, tests, ◌≡◌, ℕ, ◌<◌, [], length, sym, ap, ◌∙◌, subst, refl, arith, Ok, true, false}
use Rattle.std.proofs.lemmas.Grind.{common_steps}
use Rattle.httparse.specs.Grammar.{ReadsResponse, ResponseHead, status_code}
use Rattle.httparse.specs.Borrowed.{HoldsResponse, HoldsSomeResponse}
use Rattle.httparse.specs.Outcome.{IfComplete}
use Rattle.httparse.specs.declared.Error.{Error}
use Rattle.httparse.specs.declared.Status.{Status}
use Rattle.httparse.proofs.GrammarLemmas.{response_unique}
use Rattle.ocm_http_heads.specs.Heads.{is_final}
use Rattle.ocm_http_heads.proofs.Heads.{few_in_response, response_not_whole, response_whole, kept_all}
use Rattle.ocm_http_heads.proofs.replies.read_reply.Goals as goal

pub returns-in_default : goal.returns-in_default
returns-in_default c =
    let many : (h : ResponseHead) → ReadsResponse c.args.text.now h [] → 66 < length h.fields = grind (arith, common_steps) in
    λ h reads _. few_in_response c.args.text.now h c.requires reads (many h reads)

pub returns-then-len-text : goal.returns-then-len-text
returns-then-len-text c = λ k reads _.
    let found : (h : ResponseHead) × HoldsResponse c.args.text.now c.in-Ok-Complete.len c.parse.new.self h =
    subst (λ (s : Status ℕ). IfComplete {A = ℕ} {E = Error} (Ok s) (HoldsSomeResponse c.args.text.now c.parse.new.self)) c.in-Ok-Complete.field-0-is c.in-Ok-Complete.ensures.complete in
    response_not_whole c.args.text.now c.in-Ok-Complete.len c.parse.new.self found.0 k found.1 c.if-len-text.true reads

pub returns-then-not-is_final_status : goal.returns-then-not-is_final_status
returns-then-not-is_final_status c = λ k reads final.
    let found : (h : ResponseHead) × HoldsResponse c.args.text.now c.in-Ok-Complete.len c.parse.new.self h =
    subst (λ (s : Status ℕ). IfComplete {A = ℕ} {E = Error} (Ok s) (HoldsSomeResponse c.args.text.now c.parse.new.self)) c.in-Ok-Complete.field-0-is c.in-Ok-Complete.ensures.complete in
    let same : c.in-Ok-Complete.len ≡ length c.args.text.now = search rules in
    let one : found.0 ≡ k = (response_unique c.args.text.now found.0 k [] [] (response_whole c.args.text.now c.in-Ok-Complete.len c.parse.new.self found.0 found.1 same) reads).0 in
    let status : c.in-Some.status ≡ status_code found.0 = search (rules, found.1.code) in
    let code : c.in-Some.status ≡ status_code k = status ∙ ap status_code one in
    let not_final : is_final c.in-Some.status ≡ false = search (rules, tests) in
    let yes : is_final c.in-Some.status ≡ true = ap is_final code ∙ final in
    cc

pub returns : goal.returns
returns c =
    let found : (h : ResponseHead) × HoldsResponse c.args.text.now c.in-Ok-Complete.len c.parse.new.self h =
    subst (λ (s : Status ℕ). IfComplete {A = ℕ} {E = Error} (Ok s) (HoldsSomeResponse c.args.text.now c.parse.new.self)) c.in-Ok-Complete.field-0-is c.in-Ok-Complete.ensures.complete in
    let same : c.in-Ok-Complete.len ≡ length c.args.text.now = search rules in
    let fields = c.in_ok-fields.ensures ∙ kept_all c.parse.new.self.headers.now found.0.fields found.1.fields in
    let status : c.in-Some.status ≡ status_code found.0 = search (rules, found.1.code) in
    let final : is_final c.in-Some.status ≡ true = search (rules, tests) in
    (found.0, response_whole c.args.text.now c.in-Ok-Complete.len c.parse.new.self found.0 found.1 same, ap is_final (sym status) ∙ final, rw (status, fields) refl)
