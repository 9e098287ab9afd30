-- What the sender of a letter is told is the answer that is under way.
use Rattle.std.specs.Prelude.{◌≡◌, ℕ, ◌^◌, ◌<◌, Bool, true, false, not, List, Ok, IsUtf8}
use Rattle.ocm_limits.specs.Limits.{most_reply_bytes}
use Rattle.ocm_types.specs.Texts.{is_name}
use Rattle.ocm_types.specs.declared.letters.Letter.{Letter}
use Rattle.ocm_types.specs.declared.letters.Letter.TheVariants as letters
use Rattle.ocm_entry.specs.declared.replies.Reply.{Reply}
use Rattle.ocm_entry.specs.declared.replies.Reply.TheVariants as replies
use Rattle.ocm_http.specs.ReadBack.{ReadsAs}
use Rattle.ocm_http.specs.declared.messages.Kind.TheVariants.{Replies}
use Rattle.ocm_http.specs.declared.messages.Message.{Message}
use Rattle.ocm_dav_pages.specs.Pages.{page_of}
use Rattle.ocm_pump.specs.Delivery.{answer_in, asks_share}
use Rattle.ocm_entry.specs.declared.entries.Entry.{Entry}
use Rattle.ocm_law_sessions.specs.Sessions.{IsReply as IsSessionReply}
use Rattle.ocm_entry.specs.Deliveries.{delivered_id, delivered_status, letter_ask}
use Rattle.ocm_law_posts.specs.Posts.{post_shape}

-- whether a letter is an offer
abbrev pub is_offer : Letter → Bool
is_offer (letters.Offer offer) = true
is_offer (letters.Notice notice) = false

-- whether a reply may answer a letter: a recipient an offer, the id of a further share a request for one, and word that
-- it was taken any other notification; each may be refused, or not be kept
abbrev pub may_answer : Letter → Reply → Bool
may_answer letter (replies.Recipient user) = is_offer letter
may_answer letter replies.Noticed = not (asks_share letter)
may_answer letter (replies.Child id) = asks_share letter
may_answer letter (replies.Refused why) = true
may_answer letter replies.JournalFull = true
may_answer letter replies.NoMemory = true
may_answer letter (replies.DiskFault count) = true
may_answer letter (replies.Stopped count) = true
may_answer letter _ = false

-- a reply whose parts are values of their types
abbrev pub IsSound : Reply → Type 0
IsSound (replies.Recipient user) = (is_name user ≡ true) × IsUtf8 user
IsSound (replies.Child id) = id < 2 ^ 32
IsSound (replies.DiskFault count) = count < 2 ^ 64
IsSound (replies.Stopped count) = count < 2 ^ 64
IsSound _ = Unit {0}

-- bytes are one reply, whether the input ends with them or not, by which the sender of a letter is told the status and the id
-- of this reply
pub record Tells (letter : Letter) (reply : Reply) (bytes : List ℕ) : Type 0 where
  pub message : Message
  pub read : ReadsAs Replies most_reply_bytes bytes message
  pub told : answer_in letter (Ok message) ≡ Ok (record { status = delivered_status reply; id = delivered_id reply })

-- the page of a reply to a letter tells its sender that answer
abbrev pub AnswersAreTold : Type 0
AnswersAreTold = (letter : Letter) (reply : Reply) → may_answer letter reply ≡ true → IsSound reply → Tells letter reply (page_of reply post_shape).bytes

-- What a session allows as the reply to a letter may answer it: so the answer to each delivery is told to its sender.
abbrev pub RepliesAnswer : Type 0
RepliesAnswer =
    (host : List ℕ) (area : ℕ) (base calls : List Entry) (letter : Letter) (fresh : List ℕ) (reply : Reply)
    → IsSessionReply host area base calls (letter_ask letter fresh) reply → may_answer letter reply ≡ true
