use Rattle.std.proofs.Common.{◌≡◌, ◌≤◌, ◌+◌, ◌-◌, ℕ, List, take, drop, length, length-drop, sym, ap, ◌∙◌, subst, arith}
use Rattle.std.proofs.lemmas.List.{take_rest}
use Rattle.ocm_limits.specs.Limits.{most_head_bytes}
use Rattle.ocm_net_flights.specs.Interims.{none, more, interim_at}
use Rattle.ocm_net_flights.proofs.interims.interim_front.Goals as goal

pub loop-len-init : goal.loop-len-init
loop-len-init c = (omega arith, omega arith, none)

pub loop-len-preserved : goal.loop-len-preserved
loop-len-preserved c =
    let all = c.loop-len.invariant in
    let bytes = c.args.bytes.now in
    let front = c.loop-len.front in
    let len = c.in-Some.len in
    let rest : take (length bytes - front) (drop front bytes) ≡ drop front bytes = take_rest bytes front in
    let fits : len ≤ length (drop front bytes) = subst (λ (xs : List ℕ). len ≤ length xs) rest c.in-Some.ensures.within.1 in
    let short : front + len ≤ most_head_bytes = omega (arith, all.1, c.if-len-front.false) in
    let inside : front + len ≤ length bytes = omega (arith, all.0, fits, length-drop front bytes) in
    (inside, short, more front len all.2 (ap interim_at (sym rest) ∙ sym c.in-Some.ensures.exact) short)
