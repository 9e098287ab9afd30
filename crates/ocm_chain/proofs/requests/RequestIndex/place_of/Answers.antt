use Rattle.std.proofs.Common.{◌≡◌, suc, ◌+◌, ◌-◌, ◌/◌, sym, arith, length}
use Rattle.ocm_chain.specs.declared.requests.RequestEntry.{RequestEntry}
use Rattle.ocm_chain.proofs.Search.{get-there, before_more, behind_more, by_request, by_request-total}
use Rattle.ocm_chain.proofs.Cost.{paid_more}
use Rattle.ocm_chain.proofs.requests.RequestIndex.place_of.Goals as goal

pub loop-low-preserved-in-Less : goal.loop-low-preserved-in-Less
loop-low-preserved-in-Less g c =
    let es = c.args.self.now.entries in
    let low = c.loop-low.low in
    let high = c.loop-low.high in
    let there = get-there es (low + (high - low) / 2) (omega arith) in
    let below = sym (c.in-Less.ensures.order there.0 there.1) in
    let spent : c.compare.new.steps - c.args.steps.now ≡ suc (c.loop-low.steps - c.args.steps.now) = omega arith in
    record {
      within = omega arith;
      bound = omega arith;
      before = before_more by_request by_request-total (λ (e : RequestEntry). (e.parent, e.sender_id)) es (c.args.parent, c.args.sender_id.now) _ there.0 c.len-high.ensures.order there.1 below;
      behind = c.loop-low.invariant.behind;
      paid = rw spent (paid_more (length es) (high - low) (high - (low + (high - low) / 2 + 1)) (c.loop-low.steps - c.args.steps.now) c.loop-low.invariant.paid (omega arith) (omega arith));
      onward = omega arith;
    }

pub loop-low-preserved : goal.loop-low-preserved
loop-low-preserved g c =
    let es = c.args.self.now.entries in
    let low = c.loop-low.low in
    let high = c.loop-low.high in
    let there = get-there es (low + (high - low) / 2) (omega arith) in
    let above = sym (c.in-Greater.ensures.order there.0 there.1) in
    let spent : c.compare.new.steps - c.args.steps.now ≡ suc (c.loop-low.steps - c.args.steps.now) = omega arith in
    record {
      within = omega arith;
      bound = omega arith;
      before = c.loop-low.invariant.before;
      behind = behind_more by_request by_request-total (λ (e : RequestEntry). (e.parent, e.sender_id)) es (c.args.parent, c.args.sender_id.now) _ there.0 c.len-high.ensures.order there.1 above;
      paid = rw spent (paid_more (length es) (high - low) (low + (high - low) / 2 - low) (c.loop-low.steps - c.args.steps.now) c.loop-low.invariant.paid (omega arith) (omega arith));
      onward = omega arith;
    }

pub returns-in-Equal-clause-found : goal.returns-in-Equal-clause-found
returns-in-Equal-clause-found g c =
    let there = get-there c.args.self.now.entries (c.loop-low.low + (c.loop-low.high - c.loop-low.low) / 2) (omega arith) in
    (there.0, there.1, sym (c.in-Equal.ensures.order there.0 there.1))

pub returns-in-Equal-clause-cost : goal.returns-in-Equal-clause-cost
returns-in-Equal-clause-cost g c =
    let spent : c.compare.new.steps - c.args.steps.now ≡ suc (c.loop-low.steps - c.args.steps.now) = omega arith in
    let paid = paid_more (length c.args.self.now.entries) (c.loop-low.high - c.loop-low.low) 0 (c.loop-low.steps - c.args.steps.now) c.loop-low.invariant.paid (omega arith) (omega arith) in
    rw spent paid.cost
