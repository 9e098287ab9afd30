-- The exchanges that a delivery made, one after another.
use Rattle.std.proofs.Common.{◌≡◌, ℕ, List, [], ◌∷◌, ◌++◌, Option, Some, None, Result, Ok, Err, refl, sym, ap, subst, ◌∙◌, append_assoc, append-nil}
use Rattle.std.specs.Result.{result_ok}
use Rattle.ocm_types.specs.declared.letters.Numbered.{Numbered}
use Rattle.ocm_pump.specs.declared.exchanges.Exchange.{Exchange}
use Rattle.ocm_pump.specs.declared.exchanges.DialEnd.{DialEnd}
use Rattle.ocm_pump.specs.declared.exchanges.DialEnd.TheVariants as ends
use Rattle.ocm_pump.specs.declared.stages.Stage.{Stage}
use Rattle.ocm_pump.specs.declared.stages.Stage.TheVariants.{First, Last, Found, Done}
use Rattle.ocm_pump.specs.Delivery.{first_place, second_place, document_request, post_request, Delivers}
use Rattle.ocm_pump.specs.Exchanges.{exchanged, there}
use Rattle.ocm_pump.specs.Machines.{asks_by, Goes, IsSuch, Runs}
use Rattle.ocm_pump.specs.declared.deliveries.Answered.{Answered}
use Rattle.ocm_pump.specs.declared.faults.PumpFault.{PumpFault}
use Rattle.ocm_pump.proofs.MachineLemmas.{delivers}
use Rattle.ocm_net_posts.specs.Exchanges.{made, HasMade}

-- an exchange that is noted in each case had that end
such : (host request : List ℕ) (reply : Result (List ℕ) DialEnd) → IsSuch host request reply (exchanged host request (result_ok reply))
such host request (Ok bytes) = refl
such host request (Err ends.Failed) = refl
such host request (Err ends.NoMemory) = there None refl

-- one exchange more behind others
runs_more : (m : Numbered) (old mid new : Stage) (replies : List (Result (List ℕ) DialEnd)) (added : List Exchange) (reply : Result (List ℕ) DialEnd) (host request : List ℕ) (one : List Exchange)
    → Runs m old replies added mid → asks_by m mid ≡ Some (host, request) → IsSuch host request reply one → Goes m.letter mid reply new
    → Runs m old (replies ++ reply ∷ []) (one ++ added) new
runs_more m old mid new [] added reply host request one r a i g =
    let e : one ++ added ≡ one = ap (λ (xs : List Exchange). one ++ xs) r.0 ∙ append-nil one in (
      new,
      host,
      request,
      one,
      [],
      subst (λ (s : Stage). asks_by m s ≡ Some (host, request)) r.1 a,
      i,
      subst (λ (s : Stage). Goes m.letter s reply new) r.1 g,
      (refl, refl),
      e,
    )
runs_more m old mid new (first ∷ replies) added reply host request one (s, h, q, o, rest, a', i', g', r, e) a i g = (
  s,
  h,
  q,
  o,
  one ++ rest,
  a',
  i',
  g',
  runs_more m s mid new replies rest reply host request one r a i g,
  ap (λ (xs : List Exchange). one ++ xs) e ∙ sym (append_assoc one rest o),
)

more : (m : Numbered) (old new : Stage) (reply : Result (List ℕ) DialEnd) (host request : List ℕ) (exchanges : List Exchange) → HasMade m old exchanges → asks_by m old ≡ Some (host, request) → Goes m.letter old reply new
    → HasMade m new (exchanged host request (result_ok reply) ++ exchanges)
more m old new reply host request exchanges h a g =
    (h.0 ++ reply ∷ [], runs_more m First old new h.0 exchanges reply host request (exchanged host request (result_ok reply)) h.1 a (such host request reply) g)

one_more : (m : Numbered) (old new : Stage) (reply : Result (List ℕ) DialEnd) (exchanges : List Exchange) → HasMade m old exchanges → Goes m.letter old reply new → HasMade m new (made m old reply ++ exchanges)
one_more m First new reply exchanges h g = more m First new reply m.to (document_request m.to first_place) exchanges h refl g
one_more m Last new reply exchanges h g = more m Last new reply m.to (document_request m.to second_place) exchanges h refl g
one_more m (Found site) new reply exchanges h g = more m (Found site) new reply site.host (post_request site m.letter) exchanges h refl g
one_more m (Done answer) new reply exchanges h g = subst (λ (s : Stage). HasMade m s exchanges) (sym g.2) h

-- what came back is noted, and the delivery goes on by it
pub goes_on : (m n : Numbered) (old new : Stage) (reply : Result (List ℕ) DialEnd) (exchanges after : List Exchange) → HasMade m old exchanges → Goes m.letter old reply new → n ≡ m → after ≡ made m old reply ++ exchanges → HasMade n new after
goes_on m n old new reply exchanges after h g same noted =
    subst (λ (xs : List Exchange). HasMade n new xs) (sym noted)
    (subst (λ (k : Numbered). HasMade k new (made m old reply ++ exchanges)) (sym same) (one_more m old new reply exchanges h g))

-- the answer of one that is done is that of the exchanges that it made
pub done_delivers : (m : Numbered) (stage : Stage) (exchanges given : List Exchange) (answer : Result Answered PumpFault) → HasMade m stage exchanges → stage ≡ Done answer → given ≡ exchanges → Delivers m given answer
done_delivers m stage exchanges given answer h done same =
    subst (λ (xs : List Exchange). Delivers m xs answer) (sym same)
    (delivers m h.0 exchanges answer (subst (λ (s : Stage). Runs m First h.0 exchanges s) done h.1))
