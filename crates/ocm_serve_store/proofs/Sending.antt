-- A store that is followed goes to another thread where its disk does.
use denote.Param.Send.{IsSend, sendable}
use denote.Param.SendFields.{declared_send, variants_send}
use denote.RattleType.{RattleType}
use Rattle.std.proofs.Crossing.{crosses}
use Rattle.ocm_disk.specs.declared.disk.Disk.{Ghosts}
use Rattle.ocm_history.proofs.histories.History.TheSendSync as history
use Rattle.ocm_serve_store.specs.contracts.followed.Followed as followed
use Rattle.ocm_serve_store.specs.contracts.followed.StoreOrFront as parts
use Rattle.ocm_store.proofs.stores.Store.TheSendSync as store
use Rattle.ocm_store.specs.contracts.apart.Front as front
use Rattle.ocm_store.specs.contracts.apart.Mark as mark

-- the mark of a change
mark-send : (T : RattleType) (d : Ghosts T.Denot) → IsSend T → IsSend (mark.the_row T d)
mark-send T d s = declared_send (mark.the_type T d) (search (sendable, crosses), (search (sendable, crosses), tt))

-- the memory of a store
front-send : (T : RattleType) (d : Ghosts T.Denot) → IsSend T → IsSend (front.the_row T d)
front-send T d s = declared_send (front.the_type T d) (history.the_send, (mark-send T d s, tt))

-- a store, or its memory alone
parts-send : (T : RattleType) (d : Ghosts T.Denot) → IsSend T → IsSend (parts.the_row T d)
parts-send T d s = variants_send (parts.enum T d) ((store.the_send T d s, tt), ((front-send T d s, tt), tt))

pub followed-send : (T : RattleType) (d : Ghosts T.Denot) → IsSend T → IsSend (followed.the_row T d)
followed-send T d s = declared_send (followed.the_type T d) (parts-send T d s, (search (sendable, crosses), tt))
