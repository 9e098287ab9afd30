use Rattle.ocm_records.specs.Notices.{notice}
use Rattle.ocm_records.specs.Rows.{record_of}
use Rattle.ocm_dav.specs.Posts.{notice_wanted}
use Rattle.ocm_dav.proofs.Faults.{of_fault}
use Rattle.ocm_dav.proofs.posts.notice_wanted.Goals as goal

pub returns-in-Err : goal.returns-in-Err
returns-in-Err c =
    of_fault c.bad_record.result c.in-Err.fault (record_of notice c.args.body.now) (notice_wanted c.args.fresh c.args.shape)
    c.bad_record.ensures.memory c.in-Err.ensures c.bad_record.ensures.wanted
