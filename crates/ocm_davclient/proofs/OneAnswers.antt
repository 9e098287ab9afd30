-- What a call answers is fixed by its exchanges.
use Rattle.std.proofs.Common.{◌≡◌, ℕ, List, [], Result, Err, sym, ap, ◌∙◌}
use Rattle.ocm_path.specs.Paths.{Segments}
use Rattle.ocm_pump.proofs.OneAnswers.{sends_one, discovers_one}
use Rattle.ocm_pump.specs.declared.exchanges.Exchange.{Exchange}
use Rattle.ocm_pump.specs.declared.faults.PumpFault.{PumpFault}
use Rattle.ocm_pump.specs.declared.sites.Site.{Site}
use Rattle.ocm_davclient.specs.declared.faults.ClientFault.{ClientFault}
use Rattle.ocm_davclient.specs.declared.faults.ClientFault.TheVariants as clients
use Rattle.ocm_davclient.specs.Client.{Access, client_in, Finds, request, body_in, success_in, Fetches, Changes}

pub fetches_one : (client : Access) (method : List ℕ) (want : ℕ) (path : Segments) (added : List Exchange) (a b : Result (List ℕ) ClientFault)
    → Fetches client method want path added a → Fetches client method want path added b → (a ≡ Err clients.NoMemory → ⊥) → (b ≡ Err clients.NoMemory → ⊥) → a ≡ b
fetches_one client method want path added a b (s, x, e) (t, y, f) ka kb =
    e ∙ ap (body_in want) (sends_one client.site.host (request client method path []) added s t x y (λ m. ka (e ∙ ap (body_in want) m)) (λ m. kb (f ∙ ap (body_in want) m))) ∙ sym f

pub changes_one : (client : Access) (method : List ℕ) (path : Segments) (body : List ℕ) (added : List Exchange) (a b : Result ℕ ClientFault)
    → Changes client method path body added a → Changes client method path body added b → (a ≡ Err clients.NoMemory → ⊥) → (b ≡ Err clients.NoMemory → ⊥) → a ≡ b
changes_one client method path body added a b (s, x, e) (t, y, f) ka kb =
    e ∙ ap success_in (sends_one client.site.host (request client method path body) added s t x y (λ m. ka (e ∙ ap success_in m)) (λ m. kb (f ∙ ap success_in m))) ∙ sym f

pub finds_one : (host secret : List ℕ) (added : List Exchange) (a b : Result Access ClientFault)
    → Finds host secret added a → Finds host secret added b → (a ≡ Err clients.NoMemory → ⊥) → (b ≡ Err clients.NoMemory → ⊥) → a ≡ b
finds_one host secret added a b (s, x, e) (t, y, f) ka kb =
    let answer : Result Site PumpFault → Result Access ClientFault = λ found. client_in found secret in
    e ∙ ap answer (discovers_one host added s t x y (λ m. ka (e ∙ ap answer m)) (λ m. kb (f ∙ ap answer m))) ∙ sym f
