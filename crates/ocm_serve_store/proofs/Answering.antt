-- What an answer makes of a store that is followed.
use Rattle.std.proofs.Common.{◌≡◌, ◌≢◌, ℕ, List, ◌∷◌, Option, Some, None, unwrap_or, refl, sym, ap, subst}
use Rattle.std.specs.Prelude.{IfSome, IfOk, IfErr, Result, Ok, Err}
use Rattle.ocm_disk.specs.declared.disk.Disk.{Ghosts}
use Rattle.ocm_entry.specs.declared.asks.Ask.{Ask}
use Rattle.ocm_entry.specs.declared.entries.Entry.{Entry}
use Rattle.ocm_entry.specs.declared.replies.Reply.{Reply}
use Rattle.ocm_entry.specs.declared.replies.Reply.TheVariants as replies
use Rattle.ocm_serve_store.specs.Following.{CameSince, HasToWait, IsLegalSince, StandsSince, mark_in, origin_of, store_of}
use Rattle.ocm_serve_store.specs.declared.followed.Followed.{Followed}
use Rattle.ocm_serve_store.specs.declared.followed.Origin.{Origin}
use Rattle.ocm_store.proofs.Exits.{acts-wanting}
use Rattle.ocm_store.specs.Acts.{Acts}
use Rattle.ocm_store.specs.Courses.{Course, CourseAt}
use Rattle.ocm_store.specs.Stores.{Stands, disk_of, terms_of}
use Rattle.ocm_store.specs.declared.stores.Store.{Store}
use Rattle.ocm_store.specs.Parting.{IsFor, mark_of}
use Rattle.ocm_store.specs.declared.apart.Mark.{Mark}
use Rattle.ocm_store.specs.declared.apart.Writing.{Writing}
use Rattle.ocm_turn.specs.Begun.{IfReplied, IfApart, IfBusy, IsNoReply}
use Rattle.ocm_turn.specs.Calls.{entry}
use Rattle.ocm_turn.specs.declared.dated.Begun.{Begun}
use Rattle.ocm_turn.specs.declared.dated.Begun.TheVariants.{Replied, Apart, Busy}

module _ {D : Type 0} (disk : Ghosts D) (old new : Followed D disk) (ask : Ask) (reply : Reply) (acts : Acts disk (store_of old) (store_of new) ask reply) (born : new.born ≡ old.born) where
  pub origin-stays : origin_of new ≡ origin_of old
  origin-stays = λ i. record { terms = acts.terms i; born = born i }

  same-birth : old.born.value ≡ new.born.value
  same-birth = ap (λ (o : Origin D disk). o.born.value) (sym origin-stays)

  pub stands-since : (k h : List Entry) → StandsSince disk old k h → IsLegalSince disk (origin_of old) k h → StandsSince disk new k (entry ask reply ∷ h)
  stands-since k h s legal = (acts.stands k h (record { stands = s.0; legal = legal }), (store_of old, subst (λ (b : Store D disk). Course disk b h (store_of old)) same-birth s.1, acts))

  pub legal-since : (k h : List Entry) → StandsSince disk old k h → IsLegalSince disk (origin_of old) k h → IsLegalSince disk (origin_of old) k (entry ask reply ∷ h)
  legal-since k h s legal = acts.legal k h (record { stands = s.0; legal = legal })

  pub came-since : (k h : List Entry) (moments : List ℕ) → CameSince disk old k h moments → CameSince disk new k (entry ask reply ∷ h) (disk.moment (disk_of (store_of new)) ∷ moments)
  came-since k h moments came = (store_of old, subst (λ (b : Store D disk). CourseAt disk b h moments (store_of old)) same-birth came, acts, refl)

-- beside a change that is being written an ask is answered as by the store before it, or there is no memory
pub answered-beside : {D : Type 0} (disk : Ghosts D) (only_now : (d : D) (c : List ℕ) → disk.left_since d (disk.moment d) c → disk.may_leave d c) (store : Store D disk) (ask : Ask) (told : Option Reply)
    → IfSome told (λ reply. Acts disk store store ask reply) → Acts disk store store ask (unwrap_or told replies.NoMemory)
answered-beside disk only_now store ask (Some reply) acts = acts
answered-beside disk only_now store ask None acts = acts-wanting disk only_now store ask

-- one mark is the other where both are awaited
pub same-mark : {D : Type 0} {disk : Ghosts D} (a b : Mark D disk) → Some a ≡ Some b → a ≡ b
same-mark {D} {disk} a b same = ap (λ (o : Option (Mark D disk)). unwrap_or o a) same

-- a followed store that is the same store, with the same birth, stands and came to be as before
module _ {D : Type 0} (disk : Ghosts D) (old new : Followed D disk) (same : store_of new ≡ store_of old) (born : new.born ≡ old.born) where
  pub stays-origin : origin_of new ≡ origin_of old
  stays-origin = λ i. record { terms = terms_of (same i); born = born i }

  pub stays-stands : (k h : List Entry) → StandsSince disk old k h → StandsSince disk new k h
  stays-stands k h s = subst (λ (p : Store D disk × Store D disk). Stands disk p.0 k h × Course disk p.1 h p.0) (λ i. (sym same i, ap (λ (o : Origin D disk). o.born.value) (sym stays-origin) i)) s

  pub stays-came : (k h : List Entry) (moments : List ℕ) → CameSince disk old k h moments → CameSince disk new k h moments
  stays-came k h moments came = subst (λ (p : Store D disk × Store D disk). CourseAt disk p.1 h moments p.0) (λ i. (sym same i, ap (λ (o : Origin D disk). o.born.value) (sym stays-origin) i)) came

-- what a call makes of a store that is followed, where it is answered within its turn
module _ {D : Type 0} (disk : Ghosts D) (old new : Followed D disk) (ask : Ask) (born : new.born ≡ old.born) where
  pub ok-since : (told : Result Reply Ask) → IfOk told (λ reply. Acts disk (store_of old) (store_of new) ask reply × (mark_in new.held ≡ mark_in old.held))
      → IfOk told (λ reply. (mark_in new.held ≡ mark_in old.held)
      × ((k h : List Entry) → StandsSince disk old k h → IsLegalSince disk (origin_of old) k h → StandsSince disk new k (entry ask reply ∷ h) × IsLegalSince disk (origin_of old) k (entry ask reply ∷ h)
      × ((moments : List ℕ) → CameSince disk old k h moments → CameSince disk new k (entry ask reply ∷ h) (disk.moment (disk_of (store_of new)) ∷ moments))))
  ok-since (Ok reply) did = (
    did.1,
    λ k h s legal. (
      stands-since disk old new ask reply did.0 born k h s legal,
      legal-since disk old new ask reply did.0 born k h s legal,
      came-since disk old new ask reply did.0 born k h,
    ),
  )
  ok-since (Err again) did = tt

  -- an ask that comes back leaves all as it was
  pub err-since : (told : Result Reply Ask) → IfErr told (λ again. HasToWait disk old new ask again)
      → IfErr told (λ again. (again ≡ ask) × (mark_in new.held ≡ mark_in old.held) × (mark_in old.held ≢ None))
  err-since (Ok reply) waits = tt
  err-since (Err again) waits = (waits.0, ap (λ (f : Followed D disk). mark_in f.held) waits.1, waits.2)

  pub err-stays : (told : Result Reply Ask) → IfErr told (λ again. HasToWait disk old new ask again)
      → IfErr told (λ again. (k h : List Entry) → StandsSince disk old k h → IsLegalSince disk (origin_of old) k h → StandsSince disk new k h × ((moments : List ℕ) → CameSince disk old k h moments → CameSince disk new k h moments))
  err-stays (Ok reply) waits = tt
  err-stays (Err again) waits = let same = ap (λ (f : Followed D disk). store_of f) waits.1 in
      λ k h s legal. (stays-stands disk old new same born k h s, stays-came disk old new same born k h)

  pub told-terms : (told : Result Reply Ask) → IfOk told (λ reply. Acts disk (store_of old) (store_of new) ask reply × (mark_in new.held ≡ mark_in old.held))
      → IfErr told (λ again. HasToWait disk old new ask again) → origin_of new ≡ origin_of old
  told-terms (Ok reply) did waits = origin-stays disk old new ask reply did.0 born
  told-terms (Err again) did waits = stays-origin disk old new (ap (λ (f : Followed D disk). store_of f) waits.1) born

-- what a call that was begun makes of a store that is followed
module _ {D : Type 0} (disk : Ghosts D) (old new : Followed D disk) (ask : Ask) (born : new.born ≡ old.born) where
  pub replied-since : (begun : Begun (Writing D disk)) → IfReplied begun (λ reply. Acts disk (store_of old) (store_of new) ask reply × (mark_in new.held ≡ mark_in old.held))
      → IfReplied begun (λ reply. (mark_in new.held ≡ mark_in old.held)
      × ((k h : List Entry) → StandsSince disk old k h → IsLegalSince disk (origin_of old) k h → StandsSince disk new k (entry ask reply ∷ h) × IsLegalSince disk (origin_of old) k (entry ask reply ∷ h)
      × ((moments : List ℕ) → CameSince disk old k h moments → CameSince disk new k (entry ask reply ∷ h) (disk.moment (disk_of (store_of new)) ∷ moments))))
  replied-since (Replied reply) did = (
    did.1,
    λ k h s legal. (
      stands-since disk old new ask reply did.0 born k h s legal,
      legal-since disk old new ask reply did.0 born k h s legal,
      came-since disk old new ask reply did.0 born k h,
    ),
  )
  replied-since (Apart work) did = tt
  replied-since (Busy again) did = tt

  -- a call that goes on leaves the store as it was
  pub same-store : (begun : Begun (Writing D disk)) → IfApart begun (λ work. (mark_in old.held ≡ None) × (mark_in new.held ≡ Some (mark_of work)) × IsFor work ask × (store_of new ≡ store_of old))
      → IfBusy begun (λ again. HasToWait disk old new ask again) → IsNoReply begun → store_of new ≡ store_of old
  same-store (Replied reply) apart busy goes = absurd goes
  same-store (Apart work) apart busy goes = apart.3
  same-store (Busy again) apart busy goes = ap (λ (f : Followed D disk). store_of f) busy.1

  -- a reply leaves the terms as they were, and so does a call that goes on
  pub terms-stay : (begun : Begun (Writing D disk)) → IfReplied begun (λ reply. Acts disk (store_of old) (store_of new) ask reply × (mark_in new.held ≡ mark_in old.held))
      → (IsNoReply begun → store_of new ≡ store_of old) → origin_of new ≡ origin_of old
  terms-stay (Replied reply) did same = origin-stays disk old new ask reply did.0 born
  terms-stay (Apart work) did same = stays-origin disk old new (same tt) born
  terms-stay (Busy again) did same = stays-origin disk old new (same tt) born

  -- what is told of a call's work, and of an ask that comes back
  pub apart-since : (begun : Begun (Writing D disk)) → IfApart begun (λ work. (mark_in old.held ≡ None) × (mark_in new.held ≡ Some (mark_of work)) × IsFor work ask × (store_of new ≡ store_of old))
      → IfApart begun (λ work. (mark_in old.held ≡ None) × (mark_in new.held ≡ Some (mark_of work)) × IsFor work ask)
  apart-since (Replied reply) told = tt
  apart-since (Apart work) told = (told.0, told.1, told.2)
  apart-since (Busy again) told = tt

  pub busy-since : (begun : Begun (Writing D disk)) → IfBusy begun (λ again. HasToWait disk old new ask again)
      → IfBusy begun (λ again. (again ≡ ask) × (mark_in new.held ≡ mark_in old.held) × (mark_in old.held ≢ None))
  busy-since (Replied reply) told = tt
  busy-since (Apart work) told = tt
  busy-since (Busy again) told = (told.0, ap (λ (f : Followed D disk). mark_in f.held) told.1, told.2)
