use Rattle.ocm_records.specs.Offers.{offer}
use Rattle.ocm_records.specs.Rows.{record_of}
use Rattle.ocm_dav.specs.Posts.{offer_wanted}
use Rattle.ocm_dav.proofs.Faults.{of_fault}
use Rattle.ocm_dav.proofs.posts.offer_wanted.Goals as goal

pub returns-in-Err : goal.returns-in-Err
returns-in-Err c =
    of_fault c.bad_record.result c.in-Err.fault (record_of offer c.args.body.now) (offer_wanted c.args.shape)
    c.bad_record.ensures.memory c.in-Err.ensures c.bad_record.ensures.wanted
