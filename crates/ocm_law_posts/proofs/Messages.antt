-- A post to a server of this program spells one message.
use Rattle.std.proofs.Common.{ℕ, true, List, [], ◌∷◌, ◌++◌, length, map, codes, None, sym, subst, append-nil}
use Rattle.std.proofs.lemmas.List.Elements.{All-nil, All-cons}
use Rattle.ocm_limits.specs.Limits.{most_body_bytes}
use Rattle.ocm_http_heads.specs.declared.fields.Field.{Field}
use Rattle.ocm_http_heads.specs.declared.fields.Head.TheVariants.{Request}
use Rattle.ocm_dav.specs.declared.configs.Config.{Config}
use Rattle.ocm_entry.specs.Deliveries.{letter_ask}
use Rattle.ocm_types.specs.declared.letters.Letter.{Letter}
use Rattle.ocm_types.specs.declared.letters.Letter.TheVariants as letters
use Rattle.ocm_http.specs.Written.{written_request}
use Rattle.ocm_http.specs.Frames.{Frames, Over}
use Rattle.ocm_http.specs.declared.messages.Kind.TheVariants.{Requests}
use Rattle.ocm_http.specs.declared.messages.Message.{Message}
use Rattle.ocm_http.proofs.ReadStreams.{stream_of_messages}
use Rattle.ocm_http.specs.ReadBack.{ReadsAs, lower, request_fields, request_message}
use Rattle.ocm_pump.specs.Delivery.{letter_bytes, letter_end, post_request}
use Rattle.ocm_law_posts.specs.Posts.{Asks, IsRequestOf, post_message, PostsAreMessages, PostsAreDeliveries}
use Rattle.ocm_law_posts.proofs.EndPoints.{host-parts}
use Rattle.ocm_law_posts.proofs.Fitting.{host-short}
use Rattle.ocm_law_posts.proofs.Heads.{IsTarget, shares-target, notifications-target, post-read}
use Rattle.ocm_law_posts.proofs.Routes.{letter-asked}
use Rattle.ocm_law_posts.proofs.Sites.{end_points-ours}
use Rattle.ocm_law_posts.proofs.Written.{letter-back}

letter-target : (letter : Letter) → IsTarget (codes "POST") (codes "/ocm" ++ letter_end letter)
letter-target (letters.Offer o) = shares-target
letter-target (letters.Notice n) = notifications-target

-- a request with this path
abbrev at_path : List ℕ → Letter → List ℕ → Type 0
at_path host letter path =
    let target = path ++ letter_end letter in
    IsRequestOf (written_request host (codes "POST") target None (letter_bytes letter)) (request_message host (codes "POST") target None (letter_bytes letter))

-- a message with this path
abbrev asked_at : Config → Letter → List Field → List ℕ → List ℕ → Type 0
asked_at config letter fields fresh path =
    Asks config (record { head = Request (codes "POST") (path ++ letter_end letter) true fields; body = letter_bytes letter }) fresh (letter_ask letter fresh)

pub post-message : PostsAreMessages
unfolding post_request
post-message site letter ours h =
    let few = host-short site.host (host-parts site.host ours.host) in
    subst (at_path site.host letter) (sym ours.path) (post-read site.host (codes "/ocm" ++ letter_end letter) (letter_bytes letter) ours.host few (letter-target letter) (letter-back letter h).0)

-- what is read as one message is that stream
one-message : (bytes : List ℕ) (message : Message) → IsRequestOf bytes message → Frames Requests most_body_bytes 0 bytes true (message ∷ []) Over
one-message bytes message read =
    let reads : List ℕ × Message → Type 0 = λ w. ReadsAs Requests most_body_bytes w.0 w.1 in
    subst (λ (l : List ℕ). Frames Requests most_body_bytes 0 l true (message ∷ []) Over) (append-nil bytes)
    (stream_of_messages Requests most_body_bytes 0 ((bytes, message) ∷ []) true (All-cons reads (bytes, message) [] read (All-nil reads)))

pub post-delivers : PostsAreDeliveries
post-delivers target document site letter config fresh is point e h =
    let ours = end_points-ours target document site is point e in
    let read = post-message site letter ours h in
    let fields = map lower (request_fields site.host (codes "POST") None (length (letter_bytes letter))) in
    record {
      message = post_message site letter;
      read = read;
      alone = one-message (post_request site letter) (post_message site letter) read;
      asks = subst (asked_at config letter fields fresh) (sym ours.path) (letter-asked config letter fields fresh h);
    }
