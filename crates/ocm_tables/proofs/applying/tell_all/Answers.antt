use Rattle.std.proofs.Common.{◌∙◌}
use Rattle.ocm_tables.proofs.Tellings.{told_all-none, told_all-there, told_all-more}
use Rattle.ocm_tables.proofs.applying.tell_all.Goals as goal

pub loop-number-init : goal.loop-number-init
loop-number-init c = told_all-none (record { serial = c.args.serial; perms = c.args.perms }) c.args.board.now.told

pub take-requires : goal.take-requires
take-requires c = rw c.loop-number.invariant (told_all-there _ _ c.args.board.now.told _ (c.requires c.loop-number.number-index 0 c.loop-number-test.true))

pub loop-number-preserved : goal.loop-number-preserved
loop-number-preserved c =
    let told = c.take.ensures.told in
    rw (c.loop-number.invariant) at told ∙ told_all-more c.args.numbers.now c.loop-number.number-index _ c.args.board.now.told c.loop-number-test.true
