use Rattle.std.proofs.Common.{◌≡◌, suc, ◌+◌, ◌-◌, ◌/◌, sym, arith, length}
use Rattle.std.specs.Cmp.Lexicographic.{slice_cmp, nat_list_cmp_total}
use Rattle.std.specs.Ordering.{nat_cmp}
use Rattle.ocm_chain.specs.declared.secrets.SecretEntry.{SecretEntry}
use Rattle.ocm_chain.proofs.Search.{get-there, before_more, behind_more}
use Rattle.ocm_chain.proofs.Cost.{paid_more}
use Rattle.ocm_chain.proofs.secrets.SecretIndex.place_of.Goals as goal

pub loop-low-preserved-in-Less : goal.loop-low-preserved-in-Less
loop-low-preserved-in-Less g c =
    let es = c.args.self.now.entries in
    let low = c.loop-low.low in
    let high = c.loop-low.high in
    let there = get-there es (low + (high - low) / 2) (omega arith) in
    let below = sym (c.in-Less.ensures.order there.0 there.1) in
    let spent : c.compare.new.steps - c.args.steps.now ≡ suc (c.loop-low.steps - c.args.steps.now) = omega arith in
    record {
      within = omega arith;
      bound = omega arith;
      before = before_more (slice_cmp nat_cmp) nat_list_cmp_total (λ (e : SecretEntry). e.secret) es c.args.secret.now _ there.0 c.len-high.ensures.order there.1 below;
      behind = c.loop-low.invariant.behind;
      paid = rw spent (paid_more (length es) (high - low) (high - (low + (high - low) / 2 + 1)) (c.loop-low.steps - c.args.steps.now) c.loop-low.invariant.paid (omega arith) (omega arith));
      onward = omega arith;
    }

pub loop-low-preserved : goal.loop-low-preserved
loop-low-preserved g c =
    let es = c.args.self.now.entries in
    let low = c.loop-low.low in
    let high = c.loop-low.high in
    let there = get-there es (low + (high - low) / 2) (omega arith) in
    let above = sym (c.in-Greater.ensures.order there.0 there.1) in
    let spent : c.compare.new.steps - c.args.steps.now ≡ suc (c.loop-low.steps - c.args.steps.now) = omega arith in
    record {
      within = omega arith;
      bound = omega arith;
      before = c.loop-low.invariant.before;
      behind = behind_more (slice_cmp nat_cmp) nat_list_cmp_total (λ (e : SecretEntry). e.secret) es c.args.secret.now _ there.0 c.len-high.ensures.order there.1 above;
      paid = rw spent (paid_more (length es) (high - low) (low + (high - low) / 2 - low) (c.loop-low.steps - c.args.steps.now) c.loop-low.invariant.paid (omega arith) (omega arith));
      onward = omega arith;
    }

pub returns-in-Equal-clause-found : goal.returns-in-Equal-clause-found
returns-in-Equal-clause-found g c =
    let there = get-there c.args.self.now.entries (c.loop-low.low + (c.loop-low.high - c.loop-low.low) / 2) (omega arith) in
    (there.0, there.1, sym (c.in-Equal.ensures.order there.0 there.1))

pub returns-in-Equal-clause-cost : goal.returns-in-Equal-clause-cost
returns-in-Equal-clause-cost g c =
    let spent : c.compare.new.steps - c.args.steps.now ≡ suc (c.loop-low.steps - c.args.steps.now) = omega arith in
    let paid = paid_more (length c.args.self.now.entries) (c.loop-low.high - c.loop-low.low) 0 (c.loop-low.steps - c.args.steps.now) c.loop-low.invariant.paid (omega arith) (omega arith) in
    rw spent paid.cost
