-- The parts of a delivery put together.
use Rattle.std.proofs.Common.{◌≡◌, ℕ, List, [], ◌++◌, Option, Some, None, Result, Ok, Err, refl, subst}
use Rattle.ocm_types.specs.declared.letters.Letter.{Letter}
use Rattle.ocm_types.specs.declared.letters.Numbered.{Numbered}
use Rattle.ocm_http.specs.declared.messages.Message.{Message}
use Rattle.ocm_pump.specs.declared.exchanges.Exchange.{Exchange}
use Rattle.ocm_pump.specs.declared.sites.Site.{Site}
use Rattle.ocm_pump.specs.declared.deliveries.Answered.{Answered}
use Rattle.ocm_pump.specs.declared.faults.PumpFault.{PumpFault}
use Rattle.ocm_pump.specs.declared.faults.PumpFault.TheVariants.{NoMemory}
use Rattle.ocm_pump.specs.Exchanges.{AddsSome, missing}
use Rattle.ocm_pump.specs.Replies.{Sends, Gives, short}
use Rattle.ocm_pump.specs.Delivery.{first_place, second_place, document_request, site_in, Asks, found_at_last, AsksLast, Discovers, at_first, stopped, at_second, post_request, answer_in, Posts, Delivers, undiscovered, posted}
use Rattle.ocm_pump.proofs.Additions.{adds_none, adds_more}

-- nothing was sent
pub unasked : (old : Option (List Exchange)) (host place : List ℕ) → AddsSome old old (λ added. Asks host place added (Err NoMemory))
unasked old host place = ([], adds_none old, (Err NoMemory, short (missing refl) refl, tt))

pub unposted : (old : Option (List Exchange)) (site : Site) (letter : Letter) → AddsSome old old (λ added. Posts site letter added (Err NoMemory))
unposted old site letter = ([], adds_none old, (Err NoMemory, short (missing refl) refl, tt))

-- what was sent was read
pub asked : (old new : Option (List Exchange)) (host place request : List ℕ) (s : Result Message PumpFault) (found : Result (Option Site) PumpFault)
    → request ≡ document_request host place → AddsSome old new (λ added. Sends host request added s) → Gives found (site_in s)
    → AddsSome old new (λ added. Asks host place added found)
asked old new host place request s found e made gives = (made.0, made.1, (s, subst (λ (q : List ℕ). Sends host q made.0 s) e made.2, gives))

pub answered : (old new : Option (List Exchange)) (site : Site) (letter : Letter) (request : List ℕ) (s : Result Message PumpFault) (result : Result Answered PumpFault)
    → request ≡ post_request site letter → AddsSome old new (λ added. Sends site.host request added s) → Gives result (answer_in letter s)
    → AddsSome old new (λ added. Posts site letter added result)
answered old new site letter request s result e made gives = (made.0, made.1, (s, subst (λ (q : List ℕ). Sends site.host q made.0 s) e made.2, gives))

-- the search
pub asked_last : (old new : Option (List Exchange)) (host : List ℕ) (found : Result (Option Site) PumpFault) (result : Result Site PumpFault)
    → AddsSome old new (λ added. Asks host second_place added found) → result ≡ found_at_last found
    → AddsSome old new (λ added. AsksLast host added result)
asked_last old new host found result made e = (made.0, made.1, (found, made.2, e))

pub found_first : (old new : Option (List Exchange)) (host : List ℕ) (found : Option Site) (site : Site) → found ≡ Some site
    → AddsSome old new (λ added. Asks host first_place added (Ok found)) → AddsSome old new (λ added. Discovers host added (Ok site))
found_first old new host found site e made =
    (made.0, made.1, at_first site (subst (λ (o : Option Site). Asks host first_place made.0 (Ok o)) e made.2) refl)

pub stopped_first : (old new : Option (List Exchange)) (host : List ℕ) (fault : PumpFault)
    → AddsSome old new (λ added. Asks host first_place added (Err fault)) → AddsSome old new (λ added. Discovers host added (Err fault))
stopped_first old new host fault made = (made.0, made.1, stopped fault made.2 refl)

pub went_on : (old between new : Option (List Exchange)) (host : List ℕ) (found : Option Site) (result : Result Site PumpFault) → found ≡ None
    → AddsSome old between (λ added. Asks host first_place added (Ok found)) → AddsSome between new (λ added. AsksLast host added result)
    → AddsSome old new (λ added. Discovers host added result)
went_on old between new host found result e made more = (
  more.0 ++ made.0,
  adds_more old between new made.0 more.0 made.1 more.1,
  at_second made.0 more.0 (subst (λ (o : Option Site). Asks host first_place made.0 (Ok o)) e made.2) more.2 refl,
)

-- the delivery
pub stopped_early : (old new : Option (List Exchange)) (message : Numbered) (fault : PumpFault)
    → AddsSome old new (λ added. Discovers message.to added (Err fault)) → AddsSome old new (λ added. Delivers message added (Err fault))
stopped_early old new message fault made = (made.0, made.1, undiscovered fault made.2 refl)

pub delivered : (old between new : Option (List Exchange)) (message : Numbered) (site : Site) (result : Result Answered PumpFault)
    → AddsSome old between (λ added. Discovers message.to added (Ok site)) → AddsSome between new (λ added. Posts site message.letter added result)
    → AddsSome old new (λ added. Delivers message added result)
delivered old between new message site result made more =
    (more.0 ++ made.0, adds_more old between new made.0 more.0 made.1 more.1, posted made.0 more.0 site made.2 more.2 refl)
