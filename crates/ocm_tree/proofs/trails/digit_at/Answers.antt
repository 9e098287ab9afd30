use Rattle.std.proofs.Common.{refl}
use Rattle.ocm_tree.proofs.Got.{got, missed}
use Rattle.ocm_tree.proofs.trails.digit_at.Goals as goal

pub returns-in-Some : goal.returns-in-Some
returns-in-Some c =
    let found = c.in-Some.ensures.lookup in
    record {
      digit = rw (got c.args.path.now c.args.index c.in-Some.segment.now found.3.0 found.1) c.digit_of.ensures.digit;
      within = c.digit_of.ensures.within;
    }

pub returns-in-None : goal.returns-in-None
returns-in-None c = record {
  digit = rw (missed c.args.path.now c.args.index c.in-None.ensures.lookup.3) refl;
  within = c.requires;
}
