-- What a delivery answers is fixed by its exchanges.
use Rattle.std.proofs.Common.{◌≡◌, ℕ, true, List, [], ◌∷◌, ◌++◌, Option, Some, None, Result, Ok, Err, refl, sym, ap, subst, ◌∙◌}
use Rattle.ocm_limits.specs.Limits.{most_reply_bytes}
use Rattle.ocm_types.specs.declared.letters.Letter.{Letter}
use Rattle.ocm_types.specs.declared.letters.Numbered.{Numbered}
use Rattle.ocm_http.specs.declared.messages.Kind.TheVariants.{Replies}
use Rattle.ocm_http.specs.declared.messages.Message.{Message}
use Rattle.ocm_http.proofs.Unique.{frame_one}
use Rattle.ocm_pump.specs.declared.exchanges.Exchange.{Exchange}
use Rattle.ocm_pump.specs.declared.sites.Site.{Site}
use Rattle.ocm_pump.specs.declared.deliveries.Answered.{Answered}
use Rattle.ocm_pump.specs.declared.faults.PumpFault.{PumpFault}
use Rattle.ocm_pump.specs.declared.faults.PumpFault.TheVariants.{DialFault, NoDiscovery, BadReply, NoMemory}
use Rattle.ocm_pump.specs.Exchanges.{exchanged}
use Rattle.ocm_pump.specs.Replies.{reply_in, Reads, whole, wanting, Sends, answered, failed, short, Gives}
use Rattle.ocm_pump.specs.Delivery.{first_place, second_place, document_request, site_in, Asks, found_at_last, Discovers, at_first, stopped, at_second, post_request, answer_in, Posts, Delivers, undiscovered, posted}

-- an answer other than want of memory
abbrev pub Known : {A : Type 0} → Result A PumpFault → Type 0
Known result = result ≡ Err NoMemory → ⊥

-- ---- one exchange

reads_one : (bytes : List ℕ) (a b : Result Message PumpFault) → Reads bytes a → Reads bytes b → Known a → Known b → a ≡ b
reads_one bytes a b (whole f is_f e) (whole g is_g h) ka kb =
    e ∙ ap reply_in (frame_one Replies most_reply_bytes 0 bytes true f g is_f is_g) ∙ sym h
reads_one bytes a b (wanting e) y ka kb = absurd (ka e)
reads_one bytes a b (whole f is_f e) (wanting h) ka kb = absurd (kb h)

-- what came back in the newest exchange
last_reply : List Exchange → Option (List ℕ)
last_reply [] = None
last_reply (e ∷ es) = e.reply

same_bytes : (host request : List ℕ) (x y : Option (List ℕ)) (added : List Exchange) → added ≡ exchanged host request x → added ≡ exchanged host request y → x ≡ y
unfolding last_reply
same_bytes host request x y added e f = ap last_reply (sym e ∙ f)

-- what one exchange gave is fixed by it
pub sends_one : (host request : List ℕ) (added : List Exchange) (a b : Result Message PumpFault) → Sends host request added a → Sends host request added b → Known a → Known b → a ≡ b
sends_one host request added a b (answered x e r) (answered y f s) ka kb =
    let same : y ≡ x = let o = same_bytes host request (Some x) (Some y) added e f in cc in
    reads_one x a b r (subst (λ (z : List ℕ). Reads z b) same s) ka kb
sends_one host request added a b (answered x e r) (failed f s) ka kb =
    let o = same_bytes host request (Some x) None added e f in absurd cc
sends_one host request added a b (failed e r) (answered y f s) ka kb =
    let o = same_bytes host request None (Some y) added e f in absurd cc
sends_one host request added a b (failed e r) (failed f s) ka kb = r ∙ sym s
sends_one host request added a b (short m e) y ka kb = absurd (ka e)
sends_one host request added a b (answered x e r) (short m f) ka kb = absurd (kb f)
sends_one host request added a b (failed e r) (short m f) ka kb = absurd (kb f)

-- one exchange was added
abbrev pub IsOne : List Exchange → Type 0
IsOne added = (x : Exchange) × (added ≡ x ∷ [])

pub sends_single : (host request : List ℕ) (added : List Exchange) (a : Result Message PumpFault) → Sends host request added a → Known a → IsOne added
sends_single host request added a (answered x e r) ka = (record { host = host; request = request; reply = Some x }, e)
sends_single host request added a (failed e r) ka = (record { host = host; request = request; reply = None }, e)
sends_single host request added a (short m e) ka = absurd (ka e)

gives_known : {A : Type 0} → (a given : Result A PumpFault) → Gives a given → Known a → a ≡ given
gives_known (Ok x) given g ka = sym g
gives_known (Err DialFault) given g ka = sym g
gives_known (Err NoDiscovery) given g ka = sym g
gives_known (Err (BadReply place)) given g ka = sym g
gives_known (Err NoMemory) given g ka = absurd (ka refl)

-- what is read of a known answer is known to have been sent
asks_known : (s : Result Message PumpFault) (found : Result (Option Site) PumpFault) → Gives found (site_in s) → Known found → Known s
asks_known s found g k e = k (gives_known found (site_in s) g k ∙ ap site_in e)

asks_one : (host place : List ℕ) (added : List Exchange) (f g : Result (Option Site) PumpFault) → Asks host place added f → Asks host place added g → Known f → Known g → f ≡ g
asks_one host place added f g (s, x, u) (t, y, v) kf kg =
    gives_known f (site_in s) u kf
    ∙ ap site_in (sends_one host (document_request host place) added s t x y (asks_known s f u kf) (asks_known t g v kg))
    ∙ sym (gives_known g (site_in t) v kg)

asks_single : (host place : List ℕ) (added : List Exchange) (f : Result (Option Site) PumpFault) → Asks host place added f → Known f → IsOne added
asks_single host place added f (s, x, u) kf = sends_single host (document_request host place) added s x (asks_known s f u kf)

posts_known : (letter : Letter) (s : Result Message PumpFault) (a : Result Answered PumpFault) → Gives a (answer_in letter s) → Known a → Known s
posts_known letter s a g k e = k (gives_known a (answer_in letter s) g k ∙ ap (answer_in letter) e)

posts_one : (site : Site) (letter : Letter) (added : List Exchange) (a b : Result Answered PumpFault) → Posts site letter added a → Posts site letter added b → Known a → Known b → a ≡ b
posts_one site letter added a b (s, x, u) (t, y, v) ka kb =
    gives_known a (answer_in letter s) u ka
    ∙ ap (answer_in letter) (sends_one site.host (post_request site letter) added s t x y (posts_known letter s a u ka) (posts_known letter t b v kb))
    ∙ sym (gives_known b (answer_in letter t) v kb)

posts_single : (site : Site) (letter : Letter) (added : List Exchange) (a : Result Answered PumpFault) → Posts site letter added a → Known a → IsOne added
posts_single site letter added a (s, x, u) ka = sends_single site.host (post_request site letter) added s x (posts_known letter s a u ka)

-- ---- the search

-- its one exchange or its two
data Shape (host : List ℕ) (added : List Exchange) (result : Result Site PumpFault) : Type 0 where
  one : (x : Exchange) (found : Result (Option Site) PumpFault) → added ≡ x ∷ [] → Asks host first_place (x ∷ []) found
      → (found ≡ Ok None → ⊥) → Known found → result ≡ found_at_last found → Shape host added result
  two : (x y : Exchange) (found : Result (Option Site) PumpFault) → added ≡ y ∷ x ∷ []
      → Asks host first_place (x ∷ []) (Ok None) → Asks host second_place (y ∷ []) found
      → Known found → result ≡ found_at_last found → Shape host added result

moved : (host place : List ℕ) (added : List Exchange) (found : Result (Option Site) PumpFault) (x : Exchange) → added ≡ x ∷ [] → Asks host place added found → Asks host place (x ∷ []) found
moved host place added found x e a = subst (λ (l : List Exchange). Asks host place l found) e a

shape : (host : List ℕ) (added : List Exchange) (result : Result Site PumpFault) → Discovers host added result → Known result → Shape host added result
shape host added result (at_first site a e) k =
    let s = asks_single host first_place added (Ok (Some site)) a (λ f. cc) in
    one s.0 (Ok (Some site)) s.1 (moved host first_place added (Ok (Some site)) s.0 s.1 a) (λ f. cc) (λ f. cc) e
shape host added result (stopped fault a e) k =
    let known : Known {A = Option Site} (Err fault) = λ f. k (let g : fault ≡ NoMemory = cc in e ∙ ap (λ (p : PumpFault). Err p) g) in
    let s = asks_single host first_place added (Err fault) a known in
    one s.0 (Err fault) s.1 (moved host first_place added (Err fault) s.0 s.1 a) (λ f. cc) known e
shape host added result (at_second before after a (found, b, r) e) k =
    let known : Known found = λ f. k (r ∙ ap found_at_last f) in
    let s = asks_single host first_place before (Ok None) a (λ f. cc) in
    let t = asks_single host second_place after found b known in
    two s.0 t.0 found
    (e ∙ ap (λ (l : List Exchange). l ++ before) t.1 ∙ ap (λ (l : List Exchange). t.0 ∷ l) s.1)
    (moved host first_place before (Ok None) s.0 s.1 a) (moved host second_place after found t.0 t.1 b) known r

shapes_one : (host : List ℕ) (added : List Exchange) (a b : Result Site PumpFault) → Shape host added a → Shape host added b → a ≡ b
shapes_one host added a b (one x f e asked other known r) (one y g h asked' other' known' s) =
    let same : y ≡ x = cc in
    r ∙ ap found_at_last (asks_one host first_place (x ∷ []) f g asked (subst (λ (z : Exchange). Asks host first_place (z ∷ []) g) same asked') known known') ∙ sym s
shapes_one host added a b (two x y f e asked later known r) (two v w g h asked' later' known' s) =
    let same : w ≡ y = cc in
    r ∙ ap found_at_last (asks_one host second_place (y ∷ []) f g later (subst (λ (z : Exchange). Asks host second_place (z ∷ []) g) same later') known known') ∙ sym s
shapes_one host added a b (one x f e asked other known r) (two v w g h asked' later' known' s) = absurd cc
shapes_one host added a b (two x y f e asked later known r) (one v g h asked' other' known' s) = absurd cc

pub discovers_one : (host : List ℕ) (added : List Exchange) (a b : Result Site PumpFault) → Discovers host added a → Discovers host added b → Known a → Known b → a ≡ b
discovers_one host added a b x y ka kb = shapes_one host added a b (shape host added a x ka) (shape host added b y kb)

apart : (host : List ℕ) (added before : List Exchange) (z : Exchange) (fault : PumpFault) (site : Site) → added ≡ z ∷ before
    → Shape host added (Err fault) → Shape host before (Ok site) → ⊥
apart host added before z fault site e (one x f h asked other known r) (one v g i asked' other' known' s) = cc
apart host added before z fault site e (one x f h asked other known r) (two v w g i asked' later' known' s) = cc
apart host added before z fault site e (two x y f h asked later known r) (two v w g i asked' later' known' s) = cc
apart host added before z fault site e (two x y f h asked later known r) (one v g i asked' other' known' s) =
    let same : v ≡ x = cc in
    other' (asks_one host first_place (x ∷ []) g (Ok None) (subst (λ (u : Exchange). Asks host first_place (u ∷ []) g) same asked') asked known' (λ n. cc))

-- a search that fails after one more exchange found no site before it
pub discovers_apart : (host : List ℕ) (added before : List Exchange) (z : Exchange) (fault : PumpFault) (site : Site) → added ≡ z ∷ before
    → Discovers host added (Err fault) → (fault ≡ NoMemory → ⊥) → Discovers host before (Ok site) → ⊥
discovers_apart host added before z fault site e x k y =
    apart host added before z fault site e (shape host added (Err fault) x (λ g. k (let h : fault ≡ NoMemory = cc in h))) (shape host before (Ok site) y (λ n. cc))

-- ---- the delivery

pub ends : (before after added : List Exchange) (z : Exchange) → after ≡ z ∷ [] → added ≡ after ++ before → added ≡ z ∷ before
ends before after added z s e = e ∙ ap (λ (l : List Exchange). l ++ before) s

delivers_mixed : (message : Numbered) (added : List Exchange) (a b : Result Answered PumpFault) (fault : PumpFault) (before after : List Exchange) (site : Site)
    → Discovers message.to added (Err fault) → a ≡ Err fault → Discovers message.to before (Ok site) → Posts site message.letter after b → added ≡ after ++ before
    → Known a → Known b → ⊥
delivers_mixed message added a b fault before after site x e y p f ka kb =
    let s = posts_single site message.letter after b p kb in
    discovers_apart message.to added before s.0 fault site (ends before after added s.0 s.1 f) x (λ h. ka (e ∙ ap (λ (q : PumpFault). Err q) h)) y

delivers_both : (message : Numbered) (added : List Exchange) (a b : Result Answered PumpFault) (before after before' after' : List Exchange) (site site' : Site)
    → Discovers message.to before (Ok site) → Posts site message.letter after a → added ≡ after ++ before
    → Discovers message.to before' (Ok site') → Posts site' message.letter after' b → added ≡ after' ++ before'
    → Known a → Known b → a ≡ b
delivers_both message added a b before after before' after' site site' x p e y q f ka kb =
    let s = posts_single site message.letter after a p ka in
    let t = posts_single site' message.letter after' b q kb in
    let u : added ≡ s.0 ∷ before = ends before after added s.0 s.1 e in
    let v : added ≡ t.0 ∷ before' = ends before' after' added t.0 t.1 f in
    let earlier : before' ≡ before = cc in
    let later : after' ≡ after = cc in
    let found = discovers_one message.to before (Ok site') (Ok site) (subst (λ (l : List Exchange). Discovers message.to l (Ok site')) earlier y) x (λ n. cc) (λ n. cc) in
    let same : site' ≡ site = cc in
    posts_one site message.letter after a b p (subst (λ (l : List Exchange). Posts site message.letter l b) later (subst (λ (w : Site). Posts w message.letter after' b) same q)) ka kb

pub delivers_one : (message : Numbered) (added : List Exchange) (a b : Result Answered PumpFault)
    → Delivers message added a → Delivers message added b → (a ≡ Err NoMemory → ⊥) → (b ≡ Err NoMemory → ⊥) → a ≡ b
delivers_one message added a b (undiscovered f x e) (undiscovered g y h) ka kb =
    let known : Known {A = Site} (Err f) = λ n. ka (let m : f ≡ NoMemory = cc in e ∙ ap (λ (q : PumpFault). Err q) m) in
    let known' : Known {A = Site} (Err g) = λ n. kb (let m : g ≡ NoMemory = cc in h ∙ ap (λ (q : PumpFault). Err q) m) in
    let same = discovers_one message.to added (Err f) (Err g) x y known known' in
    let faults : f ≡ g = cc in
    e ∙ ap (λ (q : PumpFault). Err q) faults ∙ sym h
delivers_one message added a b (posted before after site x p e) (posted before' after' site' y q f) ka kb =
    delivers_both message added a b before after before' after' site site' x p e y q f ka kb
delivers_one message added a b (undiscovered fault x e) (posted before after site y p f) ka kb =
    absurd (delivers_mixed message added a b fault before after site x e y p f ka kb)
delivers_one message added a b (posted before after site y p f) (undiscovered fault x e) ka kb =
    absurd (delivers_mixed message added b a fault before after site x e y p f kb ka)
