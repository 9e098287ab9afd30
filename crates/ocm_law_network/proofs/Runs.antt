-- A server that ran has made the calls of a session.
use Rattle.std.proofs.Common.{◌≡◌, ℕ, List, [], ◌∷◌, inl, inr, sym, ap, ◌∙◌, subst, append-nil, Some, None}
use Rattle.std.specs.Prelude.{◌⊎◌, slice_index_or}
use Rattle.ocm_disk.specs.Disk.{LeavesOnly}
use Rattle.ocm_disk.specs.declared.disk.Disk.{Ghosts}
use Rattle.ocm_entry.specs.declared.entries.Entry.{Entry}
use Rattle.ocm_journal.proofs.Moving.{weaker}
use Rattle.ocm_serve_store.specs.Following.{store_of}
use Rattle.ocm_serve_store.specs.Runs.{LeavesInRun}
use Rattle.ocm_serve_store.specs.declared.followed.Origin.{Origin}
use Rattle.ocm_server.specs.Objects.{Shares}
use Rattle.ocm_store.specs.Acts.{StandsLegally}
use Rattle.ocm_store.specs.Courses.{LeavesAlong}
use Rattle.ocm_store.specs.Opening.{IsImageIn, IsOfArea, OpensTo}
use Rattle.ocm_store.specs.Stores.{IsLegalUnder, LeavesNext, area_of, disk_of, terms_of}
use Rattle.ocm_store.specs.declared.terms.Terms.{Terms}
use Rattle.ocm_store.proofs.Opens.{loaded-area, opens-once}
use Rattle.ocm_store.proofs.Runs.{courses-stand}
use Rattle.ocm_law_sessions.specs.Crashes.{IsNext}
use Rattle.ocm_law_network.specs.Serving.{MayFollow}
use Rattle.ocm_law_network.specs.Runs.{HasRun, HasWorked, LeavesWithin, OpensNext, OpensWithin, RunsFollow, RunsMakeSessions, RunsOpenNext}
use Rattle.ocm_law_network.proofs.Histories.{shifts-settle}
use Rattle.ocm_law_network.proofs.Workers.{worker-backed}

-- what a store of this host knows that has areas of this size
abbrev terms : List ℕ → ℕ → Terms
terms host size = record { host = host; area = size }

-- what a crash leaves of a store along its calls opens to what may follow a beginning of them
along-within : (host : List ℕ) (size : ℕ) (base history : List Entry) (c : List ℕ) → LeavesAlong (terms host size) base [] history c → OpensWithin host size base history c
along-within host size base [] c left = left
along-within host size base (e ∷ before) c (inl here) =
    let now = subst (λ h. LeavesNext (terms host size) base h (Some e.ask) c) (append-nil before) here in (now.0, now.1, inl now.2)
along-within host size base (e ∷ before) c (inr earlier) = let rest = along-within host size base before c earlier in (rest.0, rest.1, inr rest.2)

pub runs-make-sessions : {D : Type 0} (disk : Ghosts D) (C : Type 0) → RunsMakeSessions disk C
runs-make-sessions {D} disk C plan area limit before after calls own sides workers draws old new ran =
    let s = ran.served in
    let service = s.service in
    let base = s.first.base in
    let history = service.history in
    let size = area_of ran.store in
    let same : terms_of ran.store ≡ terms plan.host size = ap (λ h. terms h size) ran.host_is in
    let stood = courses-stand disk ran.store (store_of s.left) base [] history (record { stands = s.stands; legal = s.lawful }) s.course in
    let ground : terms_of (store_of s.left) ≡ terms plan.host size = stood.0 ∙ same in
    let end : StandsLegally disk (store_of s.left) base history = subst (λ h. StandsLegally disk (store_of s.left) base h) (append-nil history) stood.1 in
    let run : HasRun disk plan.host area before after calls = record {
      size = size;
      base = base;
      history = history;
      session = subst (λ (t : Terms). IsLegalUnder t base history) ground end.legal;
      settles = shifts-settle C (Origin D disk) sides ran.config s.gate s.first workers draws old new _ service.all history own service.each service.shares (service.all_own ∙ service.counted);
      counted = service.counted;
      loaded = disk_of ran.store;
      opened = λ tells faithful. (s.is_base tells faithful).1;
      sized = ran.area_is;
      reads = λ tells.
          subst (λ d. LeavesNext (terms plan.host size) base history None (disk.seen d)) (sym s.back)
          (subst (λ (t : Terms). LeavesNext t base history None (disk.seen (disk_of (store_of s.left)))) ground (end.stands.reads tells));
      leaves = λ tells c may. subst (λ (t : Terms). LeavesNext t base history None c) ground (end.stands.leaves tells c (subst (λ d. disk.may_leave d c) s.back may));
      any_moment = λ tells faithful.
          weaker disk.moment disk.left_since before after (LeavesInRun disk plan.host area before (terms plan.host size) base history) (LeavesWithin disk plan.host area before size base history)
          (subst (λ (t : Terms). LeavesOnly disk.moment disk.left_since before after (LeavesInRun disk plan.host area before t base history)) same (ran.any_moment tells faithful)) within;
    } in
    let worked : HasWorked history workers old new = record {
      all = service.all;
      shares = subst (Shares history service.all) (service.all_own ∙ service.counted) service.shares;
      each = λ i below. worker-backed C (Origin D disk) sides ran.config s.gate s.first (draws i) (old i) (new i) (slice_index_or service.all i []) _ (service.each.1 i below);
    } in
    (run, worked)
  where
    within : (c : List ℕ) → LeavesInRun disk plan.host area before (terms plan.host (area_of ran.store)) ran.served.first.base ran.served.service.history c
        → LeavesWithin disk plan.host area before (area_of ran.store) ran.served.first.base ran.served.service.history c
    within c (inl had) = inl had
    within c (inr (inl stays)) = inr (inl stays)
    within c (inr (inr along)) = inr (inr (along-within plan.host (area_of ran.store) ran.served.first.base ran.served.service.history c along))

-- what a run opened is what its disk is an image of
opened-image : (host : List ℕ) (area size own : ℕ) (base next : List Entry) (bytes : List ℕ) → OpensTo host area base bytes → IsOfArea host area own bytes → IsImageIn host size next bytes → (own ≡ size) × (next ≡ base)
opened-image host area size own base next bytes opens sized image =
    (loaded-area host area own size next bytes sized image, opens-once host area next base bytes (inr (size, image)) opens)

pub runs-follow : {D E : Type 0} (disk : Ghosts D) (other : Ghosts E) → RunsFollow disk other
runs-follow disk other host area before after from to calls more run later tells faithful =
    let same = λ (next : List Entry) (image : IsImageIn host run.size next (other.seen from)).
    opened-image host area run.size later.size later.base next (other.seen from) (later.opened tells faithful) (later.sized tells faithful) image in (
      (λ opens. let at = same opens.0 opens.1 in (at.0, subst (λ k. MayFollow host run.base run.history k) at.1 opens.2)),
      (λ opens. let at = same opens.0 opens.1 in (at.0, subst (λ k. IsNext host run.base run.history None k) at.1 opens.2)),
    )

pub runs-open-next : {D : Type 0} (disk : Ghosts D) → RunsOpenNext disk
runs-open-next disk host area before after calls run bytes next tells opens = (at_end, λ within. subst (MayFollow host run.base run.history) (same within.0 within.1) within.2)
  where
    same : (k : List Entry) → IsImageIn host run.size k bytes → k ≡ next
    same k image = opens-once host area k next bytes (inr (run.size, image)) opens

    by : OpensNext host run.size run.base run.history bytes → IsNext host run.base run.history None next
    by found = subst (IsNext host run.base run.history None) (same found.0 found.1) found.2

    at_end : (bytes ≡ disk.seen after) ⊎ disk.may_leave after bytes → IsNext host run.base run.history None next
    at_end (inl seen) = by (subst (OpensNext host run.size run.base run.history) (sym seen) (run.reads tells))
    at_end (inr left) = by (run.leaves tells bytes left)
