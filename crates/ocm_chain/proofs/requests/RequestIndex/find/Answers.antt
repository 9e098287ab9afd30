use Rattle.std.proofs.Common.{sym}
use Rattle.ocm_chain.specs.declared.requests.RequestEntry.{RequestEntry}
use Rattle.ocm_chain.specs.Indexes.{is_of_request}
use Rattle.ocm_chain.proofs.Search.{read-is, found_equal, found_parted, by_request, by_request-total, request_tests}
use Rattle.ocm_chain.proofs.requests.RequestIndex.find.Goals as goal

pub returns-in-Ok-clause-found : goal.returns-in-Ok-clause-found
returns-in-Ok-clause-found g c =
    let es = c.self.inside.entries.items in
    let parent = c.args.parent in
    let id = c.args.sender_id.now in
    let found = rw (← c.self.view_is) at c.in-Ok.ensures.found in
    let same = read-is es c.in-Ok.place found.0 c.index.result.now found.1 c.index.ensures in
    rw (← c.self.view_is, same)
    (sym (found_equal by_request by_request-total (λ (e : RequestEntry). (e.parent, e.sender_id)) (is_of_request parent id) (λ (e : RequestEntry). e.number) es (parent, id) c.self.invariant.1 (λ e. request_tests e.parent parent e.sender_id id) c.in-Ok.place found.0 found.1 found.2))

pub returns-in-Err-clause-found : goal.returns-in-Err-clause-found
returns-in-Err-clause-found g c =
    let parent = c.args.parent in
    let id = c.args.sender_id.now in
    sym (found_parted by_request (λ (e : RequestEntry). (e.parent, e.sender_id)) (is_of_request parent id) (λ (e : RequestEntry). e.number) c.args.self.now.entries (parent, id) (λ e. request_tests e.parent parent e.sender_id id) c.in-Err.field-0 c.in-Err.ensures.absent)
