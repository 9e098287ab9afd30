use Rattle.std.proofs.Common.{◌≡◌, true, None, sym, ap, ◌∙◌, arith}
use Rattle.std.specs.Prelude.{nat_eq, ◌&&◌, is_some}
use Rattle.std.proofs.lemmas.Grind.{common_steps}
use Rattle.ocm_rules.specs.Numbers.{same_text}
use Rattle.ocm_chain.specs.declared.requests.RequestEntry.{RequestEntry}
use Rattle.ocm_chain.specs.Indexes.{is_of_request, number_for}
use Rattle.ocm_chain.proofs.Search.{ascends-insert, found_by-insert, found_equal, found_parted, by_request, by_request-total, request_tests, request-same, number_or-new, number_or-kept}
use Rattle.ocm_chain.proofs.requests.RequestIndex.add.Goals as goal

pub invariant_of-self : goal.invariant_of-self
invariant_of-self g c =
    let items = rw c.unwrap.ensures at c.insert.ensures.items in
    let parted = rw (← c.self.view_is) at c.in-Err.ensures.absent in
    let entry : RequestEntry = record { parent = c.args.parent; sender_id = c.args.sender_id; number = c.args.number } in
    let up = ascends-insert by_request by_request-total (λ (e : RequestEntry). (e.parent, e.sender_id)) c.self.inside.entries.items c.in-Err.place entry c.self.invariant.1 parted in
    (grind (arith, common_steps), rw items up)

pub returns-in-Err-clause-found : goal.returns-in-Err-clause-found
returns-in-Err-clause-found g c = λ p s.
    let es = c.self.inside.entries.items in
    let items = rw c.unwrap.ensures at c.insert.ensures.items in
    let entry : RequestEntry = record { parent = c.args.parent; sender_id = c.args.sender_id; number = c.args.number } in
    let parted = rw (← c.self.view_is) at c.in-Err.ensures.absent in
    let here : number_for es c.args.parent c.args.sender_id ≡ None =
    found_parted by_request (λ (e : RequestEntry). (e.parent, e.sender_id)) (is_of_request c.args.parent c.args.sender_id) (λ (e : RequestEntry). e.number) es (c.args.parent, c.args.sender_id) (λ e. request_tests e.parent c.args.parent e.sender_id c.args.sender_id) _ parted in
    let absent : (nat_eq c.args.parent p && same_text c.args.sender_id s) ≡ true → number_for es p s ≡ None =
    λ t. let same = request-same c.args.parent p c.args.sender_id s t in rw (sym same.0, sym same.1) here in
    rw (items, ← c.self.view_is)
    (found_by-insert (is_of_request p s) (λ (e : RequestEntry). e.number) es c.in-Err.place entry absent ∙ number_or-new (nat_eq c.args.parent p && same_text c.args.sender_id s) c.args.number (number_for es p s) absent)

pub returns-in_default-clause-found : goal.returns-in_default-clause-found
returns-in_default-clause-found g c = λ p s.
    let es = c.self.inside.entries.items in
    let equal = rw (← c.self.view_is) at c.in_default.ensures.found in
    let found = found_equal by_request by_request-total (λ (e : RequestEntry). (e.parent, e.sender_id)) (is_of_request c.args.parent c.args.sender_id) (λ (e : RequestEntry). e.number) es (c.args.parent, c.args.sender_id) c.self.invariant.1 (λ e. request_tests e.parent c.args.parent e.sender_id c.args.sender_id) _ equal.0 equal.1 equal.2 in
    let there : is_some (number_for es c.args.parent c.args.sender_id) ≡ true = ap is_some found in
    let kept : (nat_eq c.args.parent p && same_text c.args.sender_id s) ≡ true → is_some (number_for es p s) ≡ true =
    λ t. let same = request-same c.args.parent p c.args.sender_id s t in rw (sym same.0, sym same.1) there in
    rw (← c.self.view_is) (number_or-kept (nat_eq c.args.parent p && same_text c.args.sender_id s) c.args.number (number_for es p s) kept)
