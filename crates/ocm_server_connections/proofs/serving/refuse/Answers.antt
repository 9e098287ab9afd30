use Rattle.std.proofs.Common.{refl}
use Rattle.ocm_http.specs.declared.messages.FrameFault.TheVariants as faults
use Rattle.ocm_server_connections.specs.declared.endings.Ended.TheVariants as endings
use Rattle.ocm_server_connections.specs.Parts.{Refuses}
use Rattle.ocm_server_connections.proofs.Writings.{nothing_written, refuse_is}
use Rattle.ocm_server_connections.proofs.serving.refuse.Goals as goal

pub returns-in-BadHead : goal.returns-in-BadHead
unfolding Refuses
returns-in-BadHead g c = refuse_is c.args.fault (faults.BadHead c.in-BadHead.place) c.refuse_at.result c.in-BadHead.is c.refuse_at.ensures

pub returns-in-HeadTooLong : goal.returns-in-HeadTooLong
unfolding Refuses
returns-in-HeadTooLong g c = refuse_is c.args.fault (faults.HeadTooLong c.in-HeadTooLong.place) c.refuse_at-in-HeadTooLong.result c.in-HeadTooLong.is c.refuse_at-in-HeadTooLong.ensures

pub returns-in-BadLength : goal.returns-in-BadLength
unfolding Refuses
returns-in-BadLength g c = refuse_is c.args.fault (faults.BadLength c.in-BadLength.place) c.refuse_at-in-BadLength.result c.in-BadLength.is c.refuse_at-in-BadLength.ensures

pub returns-in-BothLengths : goal.returns-in-BothLengths
unfolding Refuses
returns-in-BothLengths g c = refuse_is c.args.fault (faults.BothLengths c.in-BothLengths.place) c.refuse_at-in-BothLengths.result c.in-BothLengths.is c.refuse_at-in-BothLengths.ensures

pub returns-in-BadChunk : goal.returns-in-BadChunk
unfolding Refuses
returns-in-BadChunk g c = refuse_is c.args.fault (faults.BadChunk c.in-BadChunk.place) c.refuse_at-in-BadChunk.result c.in-BadChunk.is c.refuse_at-in-BadChunk.ensures

pub returns-in-BodyTooLong : goal.returns-in-BodyTooLong
unfolding Refuses
returns-in-BodyTooLong g c = refuse_is c.args.fault (faults.BodyTooLong c.in-BodyTooLong.place) c.refuse_at-in-BodyTooLong.result c.in-BodyTooLong.is c.refuse_at-in-BodyTooLong.ensures

pub returns-in-Cut : goal.returns-in-Cut
unfolding Refuses
returns-in-Cut g c =
    refuse_is c.args.fault faults.Cut endings.Cut c.in-Cut.is (nothing_written (g.C.Conn.sides c.args.conn.now) (λ failed written. Refuses faults.Cut endings.Cut failed written) (refl, refl))

pub returns-in-ReadFault : goal.returns-in-ReadFault
unfolding Refuses
returns-in-ReadFault g c =
    refuse_is c.args.fault faults.ReadFault endings.ReadFault c.in-ReadFault.is (nothing_written (g.C.Conn.sides c.args.conn.now) (λ failed written. Refuses faults.ReadFault endings.ReadFault failed written) (refl, refl))

pub returns-in-NoMemory : goal.returns-in-NoMemory
unfolding Refuses
returns-in-NoMemory g c =
    let w = c.try_no_memory.ensures in
    refuse_is c.args.fault faults.NoMemory endings.NoMemory c.in-NoMemory.is (record { written = w.written; failed = w.failed; wrote = w.wrote; rose = w.rose; is = (refl, w.is) })
