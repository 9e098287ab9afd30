-- The machine of a delivery makes deliveries, and each delivery is a run of it.
use Rattle.std.proofs.Common.{◌≡◌, ℕ, List, [], ◌∷◌, ◌++◌, Option, Some, None, Result, Ok, Err, refl, sym, ap, subst, ◌∙◌, append_assoc, append-nil}
use Rattle.ocm_types.specs.declared.letters.Numbered.{Numbered}
use Rattle.ocm_http.specs.declared.messages.Message.{Message}
use Rattle.ocm_pump.specs.declared.exchanges.Exchange.{Exchange}
use Rattle.ocm_pump.specs.declared.exchanges.DialEnd.{DialEnd}
use Rattle.ocm_pump.specs.declared.exchanges.DialEnd.TheVariants as ends
use Rattle.ocm_pump.specs.declared.sites.Site.{Site}
use Rattle.ocm_pump.specs.declared.deliveries.Answered.{Answered}
use Rattle.ocm_pump.specs.declared.faults.PumpFault.{PumpFault}
use Rattle.ocm_pump.specs.declared.stages.Stage.{Stage}
use Rattle.ocm_pump.specs.declared.stages.Stage.TheVariants.{First, Last, Found, Done}
use Rattle.ocm_pump.specs.Exchanges.{exchanged, missing}
use Rattle.ocm_pump.specs.Replies.{Sends, answered, failed, short, Gives}
use Rattle.ocm_pump.specs.Delivery.{first_place, second_place, document_request, site_in, Asks, AsksLast, found_at_last, Discovers, at_first, stopped, at_second, post_request, answer_in, Posts, Delivers, undiscovered, posted}
use Rattle.ocm_pump.specs.Machines.{asked, asks_by, Heard, after_first, after_last, Went, Goes, IsSuch, Runs, IsUnderWay, MachineDelivers, DeliveriesAreRuns}

-- the exchange that was asked for, with what was read of it
sends : (host request : List ℕ) (reply : Result (List ℕ) DialEnd) (one : List Exchange) (sent : Result Message PumpFault) → IsSuch host request reply one → Heard reply sent → Sends host request one sent
sends host request (Ok bytes) one sent i h = answered bytes i h
sends host request (Err ends.Failed) one sent i h = failed i h
sends host request (Err ends.NoMemory) one sent i h = short i h

-- where a host and a request were asked for, they are those of the stage
sends_at : (host request asked_host asked : List ℕ) (one : List Exchange) (sent : Result Message PumpFault) → host ≡ asked_host → request ≡ asked → Sends host request one sent → Sends asked_host asked one sent
sends_at host request asked_host asked one sent e f s =
    subst (λ (r : List ℕ). Sends asked_host r one sent) f (subst (λ (h : List ℕ). Sends h request one sent) e s)

pair_of : Option (List ℕ × List ℕ) → List ℕ × List ℕ
pair_of None = ([], [])
pair_of (Some pair) = pair

same_host : (host request asked_host asked_request : List ℕ) → asked asked_host asked_request ≡ asked host request → host ≡ asked_host
unfolding pair_of
same_host host request asked_host asked_request e = sym (ap (λ o. (pair_of o).0) e)

same_request : (host request asked_host asked_request : List ℕ) → asked asked_host asked_request ≡ asked host request → request ≡ asked_request
unfolding pair_of
same_request host request asked_host asked_request e = sym (ap (λ o. (pair_of o).1) e)

-- nothing follows where it is done
done_runs : (m : Numbered) (old answer : Result Answered PumpFault) (replies : List (Result (List ℕ) DialEnd)) (added : List Exchange) → Runs m (Done old) replies added (Done answer) → (added ≡ []) × (answer ≡ old)
done_runs m old answer [] added r = let e = r.1 in (r.0, cc)
done_runs m old answer (reply ∷ replies) added (mid, host, request, one, rest, a, i, g, r, e) = absurd cc

-- one exchange more, and then nothing
alone : (rest one added : List Exchange) → rest ≡ [] → added ≡ rest ++ one → added ≡ one
alone rest one added e f = f ∙ ap (λ (xs : List Exchange). xs ++ one) e

post_runs : (m : Numbered) (site : Site) (answer : Result Answered PumpFault) (replies : List (Result (List ℕ) DialEnd)) (added : List Exchange) → Runs m (Found site) replies added (Done answer) → Posts site m.letter added answer
post_runs m site answer [] added r = let e = r.1 in absurd cc
post_runs m site answer (reply ∷ replies) added (mid, host, request, one, rest, a, i, (sent, h, (given, gives, is)), r, e) =
    let d = done_runs m given answer replies rest (subst (λ (s : Stage). Runs m s replies rest (Done answer)) is r) in
    let x : host ≡ site.host = same_host host request site.host (post_request site m.letter) a in
    let y : request ≡ post_request site m.letter = same_request host request site.host (post_request site m.letter) a in
    let s = sends_at host request site.host (post_request site m.letter) one sent x y (sends host request reply one sent i h) in (
      sent,
      subst (λ (xs : List Exchange). Sends site.host (post_request site m.letter) xs sent) (sym (alone rest one added d.0 e)) s,
      subst (λ (z : Result Answered PumpFault). Gives z (answer_in m.letter sent)) (sym d.1) gives,
    )

-- what is left once the document was found, or not
abbrev Rest : Numbered → Result Site PumpFault → List Exchange → Result Answered PumpFault → Type 0
Rest m (Ok site) after answer = Posts site m.letter after answer
Rest m (Err fault) after answer = (after ≡ []) × (answer ≡ Err fault)

rest_runs : (m : Numbered) (found : Result Site PumpFault) (answer : Result Answered PumpFault) (replies : List (Result (List ℕ) DialEnd)) (added : List Exchange) → Runs m (after_last found) replies added (Done answer) → Rest m found added answer
rest_runs m (Ok site) answer replies added r = post_runs m site answer replies added r
rest_runs m (Err fault) answer replies added r = done_runs m (Err fault) answer replies added r

-- a document was asked for at a place
asks_at : (m : Numbered) (place : List ℕ) (host request : List ℕ) (reply : Result (List ℕ) DialEnd) (one : List Exchange) (sent : Result Message PumpFault) (found : Result (Option Site) PumpFault)
    → asked m.to (document_request m.to place) ≡ asked host request → IsSuch host request reply one → Heard reply sent → Gives found (site_in sent) → Asks m.to place one found
asks_at m place host request reply one sent found a i h gives =
    let x : host ≡ m.to = same_host host request m.to (document_request m.to place) a in
    let y : request ≡ document_request m.to place = same_request host request m.to (document_request m.to place) a in
    (sent, sends_at host request m.to (document_request m.to place) one sent x y (sends host request reply one sent i h), gives)

record AtLast (m : Numbered) (added : List Exchange) (answer : Result Answered PumpFault) : Type 0 where
  found : Result Site PumpFault
  before : List Exchange
  after : List Exchange
  asks : AsksLast m.to before found
  goes : Rest m found after answer
  both : added ≡ after ++ before

last_runs : (m : Numbered) (answer : Result Answered PumpFault) (replies : List (Result (List ℕ) DialEnd)) (added : List Exchange) → Runs m Last replies added (Done answer) → AtLast m added answer
last_runs m answer [] added r = let e = r.1 in absurd cc
last_runs m answer (reply ∷ replies) added (mid, host, request, one, rest, a, i, (sent, h, (found, gives, is)), r, e) =
    record {
      found = found_at_last found;
      before = one;
      after = rest;
      asks = (found, asks_at m second_place host request reply one sent found a i h gives, refl);
      goes = rest_runs m (found_at_last found) answer replies rest (subst (λ (s : Stage). Runs m s replies rest (Done answer)) is r);
      both = e;
    }

-- from the second place on, behind the first
second : (m : Numbered) (answer : Result Answered PumpFault) (one rest added before after : List Exchange) (found : Result Site PumpFault) → Asks m.to first_place one (Ok None) → AsksLast m.to before found → Rest m found after answer
    → rest ≡ after ++ before → added ≡ rest ++ one → Delivers m added answer
second m answer one rest added before after (Ok site) first asks goes both e =
    posted (before ++ one) after site (at_second one before first asks refl) goes (e ∙ ap (λ (xs : List Exchange). xs ++ one) both ∙ append_assoc after before one)
second m answer one rest added before after (Err fault) first asks goes both e =
    let same : added ≡ before ++ one = e ∙ ap (λ (xs : List Exchange). xs ++ one) (both ∙ ap (λ (xs : List Exchange). xs ++ before) goes.0) in
    undiscovered fault (at_second one before first asks same) goes.1

-- behind the first place, by what was found there
first_found : (m : Numbered) (answer : Result Answered PumpFault) (replies : List (Result (List ℕ) DialEnd)) (one rest added : List Exchange) (found : Result (Option Site) PumpFault) → Asks m.to first_place one found
    → Runs m (after_first found) replies rest (Done answer) → added ≡ rest ++ one → Delivers m added answer
first_found m answer replies one rest added (Ok (Some site)) asks r e = posted one rest site (at_first site asks refl) (post_runs m site answer replies rest r) e
first_found m answer replies one rest added (Ok None) asks r e =
    let l = last_runs m answer replies rest r in second m answer one rest added l.before l.after l.found asks l.asks l.goes l.both e
first_found m answer replies one rest added (Err fault) asks r e =
    let d = done_runs m (Err fault) answer replies rest r in
    undiscovered fault (stopped fault (subst (λ (xs : List Exchange). Asks m.to first_place xs (Err fault)) (sym (alone rest one added d.0 e)) asks) refl) d.1

pub delivers : MachineDelivers
delivers m [] added answer r = let e = r.1 in absurd cc
delivers m (reply ∷ replies) added answer (mid, host, request, one, rest, a, i, (sent, h, (found, gives, is)), r, e) =
    first_found m answer replies one rest added found (asks_at m first_place host request reply one sent found a i h gives)
    (subst (λ (s : Stage). Runs m s replies rest (Done answer)) is r) e

-- ---- the stages that a delivery comes to

-- an exchange that had such an end
such : (host request : List ℕ) (reply : Result (List ℕ) DialEnd) → (one : List Exchange) × IsSuch host request reply one
such host request (Ok bytes) = (exchanged host request (Some bytes), refl)
such host request (Err ends.Failed) = (exchanged host request None, refl)
such host request (Err ends.NoMemory) = ([], missing refl)

-- one exchange more behind others
runs_more : (m : Numbered) (old mid new : Stage) (replies : List (Result (List ℕ) DialEnd)) (added : List Exchange) (reply : Result (List ℕ) DialEnd) (host request : List ℕ) (one : List Exchange)
    → Runs m old replies added mid → asks_by m mid ≡ Some (host, request) → IsSuch host request reply one → Goes m.letter mid reply new
    → Runs m old (replies ++ reply ∷ []) (one ++ added) new
runs_more m old mid new [] added reply host request one r a i g =
    let e : one ++ added ≡ one = ap (λ (xs : List Exchange). one ++ xs) r.0 ∙ append-nil one in (
      new,
      host,
      request,
      one,
      [],
      subst (λ (s : Stage). asks_by m s ≡ Some (host, request)) r.1 a,
      i,
      subst (λ (s : Stage). Goes m.letter s reply new) r.1 g,
      (refl, refl),
      e,
    )
runs_more m old mid new (first ∷ replies) added reply host request one (s, h, q, o, rest, a', i', g', r, e) a i g = (
  s,
  h,
  q,
  o,
  one ++ rest,
  a',
  i',
  g',
  runs_more m s mid new replies rest reply host request one r a i g,
  ap (λ (xs : List Exchange). one ++ xs) e ∙ sym (append_assoc one rest o),
)

-- one exchange more of a delivery that is under way
goes_more : (m : Numbered) (old new : Stage) (reply : Result (List ℕ) DialEnd) (host request : List ℕ) → IsUnderWay m old → asks_by m old ≡ Some (host, request) → Goes m.letter old reply new → IsUnderWay m new
goes_more m old new reply host request u a g =
    let one = such host request reply in
    (u.0 ++ reply ∷ [], one.0 ++ u.1, runs_more m First old new u.0 u.1 reply host request one.0 u.2 a one.1 g)

pub begins : (m : Numbered) → IsUnderWay m First
begins m = ([], [], (refl, refl))

pub goes_on : (m : Numbered) (old new : Stage) (reply : Result (List ℕ) DialEnd) → IsUnderWay m old → Goes m.letter old reply new → IsUnderWay m new
goes_on m First new reply u g = goes_more m First new reply m.to (document_request m.to first_place) u refl g
goes_on m Last new reply u g = goes_more m Last new reply m.to (document_request m.to second_place) u refl g
goes_on m (Found site) new reply u g = goes_more m (Found site) new reply site.host (post_request site m.letter) u refl g
goes_on m (Done answer) new reply u g = subst (λ (s : Stage). IsUnderWay m s) (sym g.2) u

-- the answer of one that is done
pub done_delivers : (m : Numbered) (answer : Result Answered PumpFault) → IsUnderWay m (Done answer) → (added : List Exchange) × Delivers m added answer
done_delivers m answer u = (u.1, delivers m u.0 u.1 answer u.2)

-- ---- each delivery is a run

-- some replies lead there
abbrev Ran : Numbered → Stage → List Exchange → Stage → Type 0
Ran m old added new = (replies : List (Result (List ℕ) DialEnd)) × Runs m old replies added new

-- what was read came back
came : (host request : List ℕ) (one : List Exchange) (sent : Result Message PumpFault) → Sends host request one sent → (reply : Result (List ℕ) DialEnd) × IsSuch host request reply one × Heard reply sent
came host request one sent (answered bytes i h) = (Ok bytes, i, h)
came host request one sent (failed i h) = (Err ends.Failed, i, h)
came host request one sent (short i h) = (Err ends.NoMemory, i, h)

-- an exchange, and then others
ran : (m : Numbered) (old mid new : Stage) (host request : List ℕ) (one rest : List Exchange) (sent : Result Message PumpFault)
    → asks_by m old ≡ Some (host, request) → Sends host request one sent → Went m.letter old sent mid → Ran m mid rest new → Ran m old (rest ++ one) new
ran m old mid new host request one rest sent a s w later =
    let c = came host request one sent s in
    (c.0 ∷ later.0, (mid, host, request, one, rest, a, c.1, (sent, c.2, w), later.1, refl))

post_ran : (m : Numbered) (site : Site) (added : List Exchange) (answer : Result Answered PumpFault) → Posts site m.letter added answer → Ran m (Found site) added (Done answer)
post_ran m site added answer (sent, s, gives) =
    ran m (Found site) (Done answer) (Done answer) site.host (post_request site m.letter) added [] sent refl s (answer, gives, refl) ([], (refl, refl))

rest_ran : (m : Numbered) (found : Result Site PumpFault) (added : List Exchange) (answer : Result Answered PumpFault) → Rest m found added answer → Ran m (after_last found) added (Done answer)
rest_ran m (Ok site) added answer rest = post_ran m site added answer rest
rest_ran m (Err fault) added answer rest = ([], (rest.0, ap Done rest.1))

last_ran : (m : Numbered) (before after : List Exchange) (found : Result Site PumpFault) (answer : Result Answered PumpFault) → AsksLast m.to before found → Rest m found after answer → Ran m Last (after ++ before) (Done answer)
last_ran m before after found answer (first, (sent, s, gives), is) rest =
    ran m Last (after_last (found_at_last first)) (Done answer) m.to (document_request m.to second_place) before after sent refl s (first, gives, refl)
    (rest_ran m (found_at_last first) after answer (subst (λ (f : Result Site PumpFault). Rest m f after answer) is rest))

search_ran : (m : Numbered) (before after : List Exchange) (found : Result Site PumpFault) (answer : Result Answered PumpFault) → Discovers m.to before found → Rest m found after answer → Ran m First (after ++ before) (Done answer)
search_ran m before after found answer (at_first site (sent, s, gives) is) rest =
    ran m First (Found site) (Done answer) m.to (document_request m.to first_place) before after sent refl s (Ok (Some site), gives, refl)
    (post_ran m site after answer (subst (λ (f : Result Site PumpFault). Rest m f after answer) is rest))
search_ran m before after found answer (stopped fault (sent, s, gives) is) rest =
    ran m First (Done (Err fault)) (Done answer) m.to (document_request m.to first_place) before after sent refl s (Err fault, gives, refl)
    (rest_ran m (Err fault) after answer (subst (λ (f : Result Site PumpFault). Rest m f after answer) is rest))
search_ran m before after found answer (at_second one last (sent, s, gives) asks e) rest =
    let all = ran m First Last (Done answer) m.to (document_request m.to first_place) one (after ++ last) sent refl s (Ok None, gives, refl) (last_ran m last after found answer asks rest) in
    subst (λ (xs : List Exchange). Ran m First xs (Done answer)) (append_assoc after last one ∙ ap (λ (xs : List Exchange). after ++ xs) (sym e)) all

pub is_run : DeliveriesAreRuns
is_run m added answer (undiscovered fault search is) = search_ran m added [] (Err fault) answer search (refl, is)
is_run m added answer (posted before after site search post e) =
    subst (λ (xs : List Exchange). Ran m First xs (Done answer)) (sym e) (search_ran m before after (Ok site) answer search post)
