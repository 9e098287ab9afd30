use Rattle.std.proofs.Common.{◌≡◌, Bool, true, false, [], ap, true≢false}
use Rattle.ocm_limits.specs.Limits.{most_body_bytes}
use Rattle.ocm_types.specs.declared.letters.Letter.{Letter}
use Rattle.ocm_http_heads.specs.declared.fields.Head.{Head}
use Rattle.ocm_http_heads.specs.declared.fields.Head.TheVariants.{Request}
use Rattle.ocm_http.specs.Frames.{Frame, Given}
use Rattle.ocm_http.specs.declared.messages.Kind.TheVariants.{Requests}
use Rattle.ocm_http.proofs.Unique.{frame_one}
use Rattle.ocm_pump.specs.Delivery.{post_request}
use Rattle.ocm_pump.specs.declared.sites.Site.{Site}
use Rattle.ocm_law_posts.specs.Letters.{IsLetter}
use Rattle.ocm_law_posts.specs.Posts.{IsOurs, IsRequestOf, post_message}
use Rattle.ocm_law_posts.specs.Wrong.{open_message}
use Rattle.ocm_law_posts.proofs.Messages.{post-message}
use Rattle.ocm_law_posts.proofs.wrong.posts_close_their_connection.Goals as goal

closes : Head → Bool
closes (Request method target closing fields) = closing
closes _ = false

given-closes : Frame → Bool
given-closes (Given message rest) = closes message.head
given-closes _ = false

not_open : (site : Site) (letter : Letter) → IsOurs site → IsLetter letter → IsRequestOf (post_request site letter) (open_message site letter) → ⊥
unfolding closes given-closes
not_open site letter ours h read =
    let same = frame_one Requests most_body_bytes 0 (post_request site letter) true (Given (post_message site letter) []) (Given (open_message site letter) []) (post-message site letter ours h 0 true) (read 0 true) in
    let both : true ≡ false = ap given-closes same in
    true≢false both

pub returns : goal.returns
returns c = not_open
