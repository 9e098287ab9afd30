use Rattle.ocm_journal_image.proofs.Sizes.{item_size}
use Rattle.ocm_journal_image.proofs.fresh.area_bytes.Goals as goal

pub add_block-requires : goal.add_block-requires
add_block-requires c = item_size c.args.records.now c.as_slice-record-items.result.now c.loop-record.record-index c.record-item.result c.record-item.result c.as_slice.result.now c.as_slice-record-items.ensures c.record-item.is c.as_slice.ensures c.loop-record-test.true c.requires
