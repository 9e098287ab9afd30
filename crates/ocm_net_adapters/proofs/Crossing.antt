-- Doors and posts go to another thread, where what they are lent may be shared.
use denote.Param.Send.{IsSend, IsSync, sendable, view_send}
use denote.Param.SendFields.{declared_send, declared_sync, variants_send}
use denote.RattleType.{RattleType}
use Rattle.std.proofs.Crossing.{Arc-send, crosses}
use Rattle.std.proofs.option.Option.TheSendSync as options
use Rattle.std_collections.proofs.Crosses.{HashMap-send}
use Rattle.ocm_base.specs.contracts.traces.Trace as trace
use Rattle.ocm_base.proofs.traces.Trace.TheLaws.TheKnot.{send-Trace}
use Rattle.ocm_pump.proofs.machines.Delivery.TheSendSync as delivery
use Rattle.ocm_net_waits.proofs.bells.Bell.TheSendSync as bell
use Rattle.ocm_net_waits.proofs.sets.Set.TheSendSync as set
use Rattle.ocm_net_sockets.proofs.servings.Serving.TheSendSync as serving
use Rattle.ocm_schedule.proofs.schedules.Schedule.TheSendSync as schedule
use Rattle.ocm_net_posts.proofs.hosts.Hosts.TheSendSync as hosts
use Rattle.ocm_net_posts.proofs.notes.Note.TheSendSync as note
use Rattle.ocm_net_posts.proofs.owners.Owners.TheSendSync as owners
use Rattle.ocm_net_posts.proofs.rounds.Rounds.TheSendSync as rounds
use Rattle.ocm_net_posts.proofs.seats.Hall.TheSendSync as hall
use Rattle.ocm_net_posts.proofs.seats.Seat.TheSendSync as seat
use Rattle.ocm_net_posts.proofs.works.State.TheSendSync as state
use Rattle.ocm_net_posts.specs.contracts.delivering.Delivering as delivering
use Rattle.ocm_net_posts.specs.contracts.noted.Exchanges as exchanges
use Rattle.ocm_net_posts.specs.contracts.noted.Exchanges.TheInside as inner
use Rattle.ocm_net_posts.specs.contracts.noted.Noted as noted
use Rattle.ocm_net_posts.specs.contracts.noted.Noted.TheInside as core
use Rattle.ocm_net_posts.specs.contracts.posts.Posts as deliveries
use Rattle.ocm_net_posts.specs.contracts.tables.Table as table
use Rattle.ocm_net_posts.specs.contracts.works.Work as work
use Rattle.ocm_server.proofs.returned.Back.TheSendSync as backs
use Rattle.ocm_server.specs.contracts.returned.Back as back
use Rattle.ocm_net_adapters.proofs.conns.StreamConn.TheSendSync as conns
use Rattle.ocm_net_adapters.specs.contracts.books.Book as book
use Rattle.ocm_net_adapters.specs.contracts.books.Book.TheInside as shelf
use Rattle.ocm_net_adapters.specs.contracts.conns.StreamConn as conn
use Rattle.ocm_net_adapters.specs.contracts.doors.Gives as gives
use Rattle.ocm_net_adapters.specs.contracts.doors.NetDoor as door
use Rattle.ocm_net_adapters.specs.contracts.posts.TcpPost as post

pub trace-send : (T : RattleType) → IsSend T → IsSend (trace.the_row T)
trace-send T s = send-Trace T (search (sendable, crosses)) (λ h hs. search (sendable, crosses))

-- ---- deliveries, which note their exchanges

exchanges-send : IsSend exchanges.the_row
exchanges-send = view_send inner.the_row _ _ _ _ (declared_send inner.the_type (search (sendable, crosses), tt))

noted-send : IsSend noted.the_row
noted-send = view_send core.the_row _ _ _ _ (declared_send core.the_type (delivery.the_send, (exchanges-send, tt)))

work-send : IsSend work.the_row
work-send = declared_send work.the_type (noted-send, (search sendable, (state.the_send, (search sendable, (search sendable, tt)))))

table-send : IsSend table.the_row
table-send = declared_send table.the_type (search (sendable, crosses), (schedule.the_send, (hosts.the_send, (owners.the_send, (search (sendable, crosses, HashMap-send, work-send) depth 20, (hall.the_send, (search (sendable, crosses, seat.the_send) depth 20, (search (sendable, crosses) depth 20, (search (sendable, crosses, note.the_send) depth 20, (search sendable, (search sendable, (rounds.the_send, tt))))))))))))

posts-send : (ℓ : _) (R : RattleType) → IsSync R → IsSend (deliveries.the_row ℓ R)
posts-send ℓ R s = declared_send (deliveries.the_type ℓ R) (search (sendable, crosses, s), (set.the_send, (search (sendable, crosses, bell.the_send, bell.the_sync), (search (sendable, crosses, bell.the_send, bell.the_sync), (search (sendable, crosses, table-send), tt)))))

posts-sync : (ℓ : _) (R : RattleType) → IsSync R → IsSync (deliveries.the_row ℓ R)
posts-sync ℓ R s = declared_sync (deliveries.the_type ℓ R) (search (sendable, crosses, s), (set.the_sync, (search (sendable, crosses, bell.the_send, bell.the_sync), (search (sendable, crosses, bell.the_send, bell.the_sync), (search (sendable, crosses, table-send), tt)))))

shared-send : (ℓ : _) (R : RattleType) → IsSync R → IsSend (delivering.the_row ℓ R)
shared-send ℓ R s = declared_send (delivering.the_type ℓ R) (Arc-send (deliveries.the_row ℓ R) (posts-send ℓ R s) (posts-sync ℓ R s), (search sendable, tt))

-- ---- doors and posts

pub book-send : (T : RattleType) → IsSend T → IsSend (book.the_row T)
book-send T s = view_send (shelf.the_row T) _ _ _ _ (declared_send (shelf.the_type T) (trace-send T s, (trace-send (back.the_row T) (backs.the_send T s), (search sendable, tt))))

gives-send : (ℓ : _) (R : RattleType) → IsSync R → IsSend (gives.the_row ℓ R)
gives-send ℓ R s = variants_send (gives.enum ℓ R) ((serving.the_send ℓ R s, tt), ((shared-send ℓ R s, tt), tt))

pub door-send : (ℓ : _) (R : RattleType) → IsSync R → IsSend (door.the_row ℓ R)
door-send ℓ R s = declared_send (door.the_type ℓ R) (gives-send ℓ R s, (book-send (conn.the_row ℓ R) (conns.the_send ℓ R s), tt))

pub post-send : (ℓ : _) (R : RattleType) → IsSync R → IsSend (post.the_row ℓ R)
post-send ℓ R s = declared_send (post.the_type ℓ R) (options.the_send _ (Arc-send (deliveries.the_row ℓ R) (posts-send ℓ R s) (posts-sync ℓ R s)), (trace-send exchanges.the_row exchanges-send, tt))
