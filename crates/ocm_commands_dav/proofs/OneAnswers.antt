-- What a task answers is fixed by its exchanges.
use Rattle.std.proofs.Common.{◌≡◌, ℕ, List, [], ◌∷◌, ◌++◌, Result, Ok, Err, sym, ap, subst, ◌∙◌}
use Rattle.std.specs.Prelude.{codes}
use Rattle.ocm_path.specs.Paths.{Segments}
use Rattle.ocm_pump.proofs.OneAnswers.{IsOne, sends_single, discovers_apart, ends}
use Rattle.ocm_pump.specs.declared.exchanges.Exchange.{Exchange}
use Rattle.ocm_pump.specs.declared.faults.PumpFault.{PumpFault}
use Rattle.ocm_davclient.proofs.OneAnswers.{finds_one, fetches_one, changes_one}
use Rattle.ocm_davclient.specs.Client.{Access, Finds, Fetches, Changes, client_in, request, body_in, success_in}
use Rattle.ocm_davclient.specs.declared.faults.ClientFault.{ClientFault}
use Rattle.ocm_davclient.specs.declared.faults.ClientFault.TheVariants.{NoMemory}
use Rattle.ocm_commands_dav.specs.Exchanges.{Calls, Told, Works, called, unfound, without_status}
use Rattle.ocm_commands_dav.specs.declared.tasks.Task.{Task}
use Rattle.ocm_commands_dav.specs.declared.verbs.Verb.{Verb}
use Rattle.ocm_commands_dav.specs.declared.verbs.Verb.TheVariants as verbs

-- an answer other than want of memory
abbrev Known : {A : Type 0} → Result A ClientFault → Type 0
Known result = result ≡ Err NoMemory → ⊥

finds_apart : (host secret : List ℕ) (added before : List Exchange) (z : Exchange) (fault : ClientFault) (client : Access) → added ≡ z ∷ before
    → Finds host secret added (Err fault) → (fault ≡ NoMemory → ⊥) → Finds host secret before (Ok client) → ⊥
finds_apart host secret added before z fault client is (Ok site, x, e) k (found, y, f) = cc
finds_apart host secret added before z fault client is (Err other, x, e) k (Err stop, y, f) = cc
finds_apart host secret added before z fault client is (Err other, x, e) k (Ok site, y, f) =
    discovers_apart host added before z other site is x (λ o. let n = e ∙ ap (λ (p : PumpFault). client_in (Err p) secret) o in k cc) y

-- ---- the call

fetches_single : (client : Access) (method : List ℕ) (want : ℕ) (path : Segments) (added : List Exchange) (a : Result (List ℕ) ClientFault)
    → Fetches client method want path added a → Known a → IsOne added
fetches_single client method want path added a (s, x, e) ka =
    sends_single client.site.host (request client method path []) added s x (λ m. ka (e ∙ ap (body_in want) m))

changes_single : (client : Access) (method : List ℕ) (path : Segments) (body : List ℕ) (added : List Exchange) (a : Result (List ℕ) ClientFault)
    → Told (λ changed. Changes client method path body added changed) a → Known a → IsOne added
changes_single client method path body added a (changed, (s, x, e), f) ka =
    sends_single client.site.host (request client method path body) added s x (λ m. ka (f ∙ ap without_status (e ∙ ap success_in m)))

told_one : (client : Access) (method : List ℕ) (path : Segments) (body : List ℕ) (added : List Exchange) (a b : Result (List ℕ) ClientFault)
    → Told (λ changed. Changes client method path body added changed) a → Told (λ changed. Changes client method path body added changed) b → Known a → Known b → a ≡ b
told_one client method path body added a b (c, x, e) (d, y, f) ka kb =
    e ∙ ap without_status (changes_one client method path body added c d x y (λ m. ka (e ∙ ap without_status m)) (λ m. kb (f ∙ ap without_status m))) ∙ sym f

calls_single : (client : Access) (verb : Verb) (path : Segments) (body : List ℕ) (added : List Exchange) (a : Result (List ℕ) ClientFault)
    → Calls client verb path body added a → Known a → IsOne added
calls_single client verbs.Get path body added a x ka = fetches_single client (codes "GET") 200 path added a x ka
calls_single client verbs.List path body added a x ka = fetches_single client (codes "PROPFIND") 207 path added a x ka
calls_single client verbs.Put path body added a x ka = changes_single client (codes "PUT") path body added a x ka
calls_single client verbs.Delete path body added a x ka = changes_single client (codes "DELETE") path [] added a x ka
calls_single client verbs.MakeCollection path body added a x ka = changes_single client (codes "MKCOL") path [] added a x ka

calls_one : (client : Access) (verb : Verb) (path : Segments) (body : List ℕ) (added : List Exchange) (a b : Result (List ℕ) ClientFault)
    → Calls client verb path body added a → Calls client verb path body added b → Known a → Known b → a ≡ b
calls_one client verbs.Get path body added a b x y ka kb = fetches_one client (codes "GET") 200 path added a b x y ka kb
calls_one client verbs.List path body added a b x y ka kb = fetches_one client (codes "PROPFIND") 207 path added a b x y ka kb
calls_one client verbs.Put path body added a b x y ka kb = told_one client (codes "PUT") path body added a b x y ka kb
calls_one client verbs.Delete path body added a b x y ka kb = told_one client (codes "DELETE") path [] added a b x y ka kb
calls_one client verbs.MakeCollection path body added a b x y ka kb = told_one client (codes "MKCOL") path [] added a b x y ka kb

-- ---- both

mixed : (task : Task) (body : List ℕ) (added : List Exchange) (a b : Result (List ℕ) ClientFault) (fault : ClientFault) (before after : List Exchange) (client : Access)
    → Finds task.host task.secret added (Err fault) → a ≡ Err fault → Finds task.host task.secret before (Ok client) → Calls client task.verb task.path body after b → added ≡ after ++ before
    → Known a → Known b → ⊥
mixed task body added a b fault before after client x e y p f ka kb =
    let s = calls_single client task.verb task.path body after b p kb in
    finds_apart task.host task.secret added before s.0 fault client (ends before after added s.0 s.1 f) x (λ m. ka (e ∙ ap (λ (q : ClientFault). Err q) m)) y

both : (task : Task) (body : List ℕ) (added : List Exchange) (a b : Result (List ℕ) ClientFault) (before after before' after' : List Exchange) (client client' : Access)
    → Finds task.host task.secret before (Ok client) → Calls client task.verb task.path body after a → added ≡ after ++ before
    → Finds task.host task.secret before' (Ok client') → Calls client' task.verb task.path body after' b → added ≡ after' ++ before'
    → Known a → Known b → a ≡ b
both task body added a b before after before' after' client client' x p e y q f ka kb =
    let s = calls_single client task.verb task.path body after a p ka in
    let t = calls_single client' task.verb task.path body after' b q kb in
    let u : added ≡ s.0 ∷ before = ends before after added s.0 s.1 e in
    let v : added ≡ t.0 ∷ before' = ends before' after' added t.0 t.1 f in
    let earlier : before' ≡ before = cc in
    let later : after' ≡ after = cc in
    let found = finds_one task.host task.secret before (Ok client') (Ok client) (subst (λ (l : List Exchange). Finds task.host task.secret l (Ok client')) earlier y) x (λ n. cc) (λ n. cc) in
    let same : client' ≡ client = cc in
    calls_one client task.verb task.path body after a b p (subst (λ (l : List Exchange). Calls client task.verb task.path body l b) later (subst (λ (w : Access). Calls w task.verb task.path body after' b) same q)) ka kb

pub works_one : (task : Task) (body : List ℕ) (added : List Exchange) (a b : Result (List ℕ) ClientFault) → Works task body added a → Works task body added b → Known a → Known b → a ≡ b
works_one task body added a b (unfound f x e) (unfound g y h) ka kb =
    let same = finds_one task.host task.secret added (Err f) (Err g) x y (λ m. ka (let n : f ≡ NoMemory = cc in e ∙ ap (λ (q : ClientFault). Err q) n)) (λ m. kb (let n : g ≡ NoMemory = cc in h ∙ ap (λ (q : ClientFault). Err q) n)) in
    let faults : f ≡ g = cc in
    e ∙ ap (λ (q : ClientFault). Err q) faults ∙ sym h
works_one task body added a b (called before after client x p e) (called before' after' client' y q f) ka kb =
    both task body added a b before after before' after' client client' x p e y q f ka kb
works_one task body added a b (unfound fault x e) (called before after client y p f) ka kb =
    absurd (mixed task body added a b fault before after client x e y p f ka kb)
works_one task body added a b (called before after client y p f) (unfound fault x e) ka kb =
    absurd (mixed task body added b a fault before after client x e y p f kb ka)
