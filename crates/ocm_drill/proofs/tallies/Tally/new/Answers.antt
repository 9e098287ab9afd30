use Rattle.std.proofs.Common.{◌≡◌, replicate, rules}
use Rattle.ocm_drill.proofs.Counting.{none_counted}
use Rattle.ocm_drill.proofs.tallies.Tally.new.Goals as goal

pub returns : goal.returns
returns c =
    let zeros : c.in_ok-counts.counts.items ≡ replicate 1000 0 = search rules in
    none_counted c.in_ok-counts.counts.items zeros
