-- What stands in a log, and what it was when it came to stand there.
use Rattle.std.proofs.Common.{◌≡◌, ℕ, suc, zero, List, [], ◌∷◌, ◌++◌, false, sym, ap, ◌∙◌, subst}
use Rattle.std.specs.Prelude.{Bool, Option, Some, ◌⊎◌, IsTrue, if◌then◌else◌, option_map}
use mathlib.Core.Logic.{inl, inr}
use Rattle.ocm_types.specs.Hosts.{is_host}
use Rattle.ocm_entry.specs.declared.entries.Entry.{Entry}
use Rattle.ocm_pump.specs.declared.deliveries.Answered.{Answered}
use Rattle.ocm_rules.specs.Numbers.{at_number, same_text}
use Rattle.ocm_rules.proofs.Numbering.{at_number-more}
use Rattle.ocm_rules.proofs.Searches.{some-same}
use Rattle.ocm_law_posts.specs.Documents.{own_site}
use Rattle.ocm_law_posts.specs.Letters.{IsLetter}
use Rattle.ocm_law_world.specs.World.{Session, reopened, with_call}
use Rattle.ocm_law_world.proofs.Texts.{text-same}
use Rattle.ocm_law_sessions.specs.Sessions.{IsReply as IsSessionReply}
use Rattle.ocm_law_network.specs.Network.{Along, ComesBy, Event, Has, IsTheirs, IsAnswerFrom, IsLog, IsTold, MayHappen, Post, RepliesAreTheirs, is_decisive, posts, session_of}
use Rattle.ocm_law_network.specs.Network.Event.{Begins, Called, Posted, Returned, Settled, Crashed}

-- ---- posts

-- what stands in a list with one item behind it
front-or-last : {X : Type 0} (xs : List X) (y : X) (i : ℕ) (x : X) → at_number (xs ++ y ∷ []) i ≡ Some x → (at_number xs i ≡ Some x) ⊎ (y ≡ x)
front-or-last xs y zero x is = absurd (cc)
front-or-last [] y (suc zero) x is = inr (some-same y x is)
front-or-last [] y (suc (suc i)) x is = absurd (cc)
front-or-last (first ∷ xs) y (suc zero) x is = inl is
front-or-last (first ∷ xs) y (suc (suc i)) x is = front-or-last xs y (suc i) x is

-- a post keeps its number
pub posts-on : (event : Event) (log : List Event) (n : ℕ) (post : Post) → at_number (posts log) n ≡ Some post → at_number (posts (event ∷ log)) n ≡ Some post
posts-on (Begins host area) log n post is = is
posts-on (Called host on call) log n post is = is
posts-on (Posted new) log n post is = at_number-more (posts log) (new ∷ []) n post is
posts-on (Returned connection bytes) log n post is = is
posts-on (Settled host connection call) log n post is = is
posts-on (Crashed host flight next) log n post is = is

-- and is an earlier one, or the one that is made
pub posts-were : (event : Event) (log : List Event) (n : ℕ) (post : Post) → at_number (posts (event ∷ log)) n ≡ Some post → (at_number (posts log) n ≡ Some post) ⊎ (event ≡ Posted post)
posts-were (Begins host area) log n post is = inl is
posts-were (Called host on call) log n post is = inl is
posts-were (Posted new) log n post is = by_case (front-or-last (posts log) new n post is)
  where
    by_case : (at_number (posts log) n ≡ Some post) ⊎ (new ≡ post) → (at_number (posts log) n ≡ Some post) ⊎ (Posted new ≡ Posted post)
    by_case (inl old) = inl old
    by_case (inr same) = inr (ap Posted same)
posts-were (Returned connection bytes) log n post is = inl is
posts-were (Settled host connection call) log n post is = inl is
posts-were (Crashed host flight next) log n post is = inl is

-- there is one post of a number
pub one-post : (log : List Event) (n : ℕ) (a b : Post) → at_number (posts log) n ≡ Some a → at_number (posts log) n ≡ Some b → a ≡ b
one-post log n a b is also = some-same a b (sym is ∙ also)

-- what holds of each post when it is made
pub posts-with : (May : List Event → Event → Type 0) (P : Post → Type 0) → ((log : List Event) (post : Post) → May log (Posted post) → P post) → (log : List Event) → Along May log → (n : ℕ) (post : Post) → at_number (posts log) n ≡ Some post → P post
posts-with May P made [] along zero post there = absurd (cc)
posts-with May P made [] along (suc n) post there = absurd (cc)
posts-with May P made (event ∷ log) along n post there = by_case (posts-with May P made log along.1 n post) (posts-were event log n post there)
  where
    by_case : (at_number (posts log) n ≡ Some post → P post) → (at_number (posts log) n ≡ Some post) ⊎ (event ≡ Posted post) → P post
    by_case before (inl old) = before old
    by_case before (inr same) = made log post (subst (May log) same along.0)

-- its letter and its target are values of their types
pub record Sound (post : Post) : Type 0 where
  pub letter : IsLetter post.message.letter
  pub target : IsTrue (is_host post.message.to)

pub posts-sound : (foreign : List ℕ → Bool) (log : List Event) → IsLog foreign log → (n : ℕ) (post : Post) → at_number (posts log) n ≡ Some post → Sound post
posts-sound foreign = posts-with (MayHappen foreign) Sound (λ log post may. record { letter = may.letter; target = may.target })

-- and goes to its target's own site, where that is not foreign
abbrev pub GoesHome : (List ℕ → Bool) → Post → Type 0
GoesHome foreign post = foreign post.message.to ≡ false → post.site ≡ own_site post.message.to

pub posts-home : (foreign : List ℕ → Bool) (log : List Event) → RepliesAreTheirs foreign log → (n : ℕ) (post : Post) → at_number (posts log) n ≡ Some post → GoesHome foreign post
posts-home foreign = posts-with (IsTheirs foreign) (GoesHome foreign) (λ log post from. from)

-- ---- calls on connections

-- a call came on the connection of a post, and its server replied what a session of it allowed
pub record IsCall (log : List Event) (host : List ℕ) (connection : ℕ) (call : Entry) : Type 0 where
  pub post : Post
  pub posted : at_number (posts log) connection ≡ Some post
  pub comes : ComesBy post host call
  pub session : Session
  pub told : IsSessionReply host session.area session.base session.calls call.ask call.reply

pub called-on : (foreign : List ℕ → Bool) (log : List Event) → IsLog foreign log → (host : List ℕ) (connection : ℕ) (call : Entry) → Has log (Called host (Some connection) call) → IsCall log host connection call
called-on foreign [] is host connection call there = absurd there
called-on foreign (event ∷ log) is host connection call there = by_case (called-on foreign log is.1 host connection call) there
  where
    new : MayHappen foreign log (Called host (Some connection) call) → IsCall (event ∷ log) host connection call
    new may =
        let on = may.2 in
        record { post = on.0; posted = posts-on event log connection on.0 on.1; comes = on.2; session = may.0.session; told = may.0.told }

    old : IsCall log host connection call → IsCall (event ∷ log) host connection call
    old call = record { post = call.post; posted = posts-on event log connection call.post call.posted; comes = call.comes; session = call.session; told = call.told }

    by_case : (Has log (Called host (Some connection) call) → IsCall log host connection call) → (event ≡ Called host (Some connection) call) ⊎ Has log (Called host (Some connection) call) → IsCall (event ∷ log) host connection call
    by_case before (inl same) = new (subst (MayHappen foreign log) same is.0)
    by_case before (inr earlier) = old (before earlier)

-- a call was replied to as a session of its server allowed
pub called-legal : (foreign : List ℕ → Bool) (log : List Event) → IsLog foreign log → (host : List ℕ) (on : Option ℕ) (call : Entry) → Has log (Called host on call)
    → (s : Session) × IsSessionReply host s.area s.base s.calls call.ask call.reply
called-legal foreign [] is host on call there = absurd there
called-legal foreign (event ∷ log) is host on call there = by_case (called-legal foreign log is.1 host on call) there
  where
    Goal : Type 0
    Goal = (s : Session) × IsSessionReply host s.area s.base s.calls call.ask call.reply

    new : MayHappen foreign log (Called host on call) → Goal
    new may = (may.0.session, may.0.told)

    by_case : (Has log (Called host on call) → Goal) → (event ≡ Called host on call) ⊎ Has log (Called host on call) → Goal
    by_case before (inl same) = new (subst (MayHappen foreign log) same is.0)
    by_case before (inr earlier) = before earlier

-- ---- what came back

pub returned-on : (foreign : List ℕ → Bool) (log : List Event) → IsLog foreign log → (connection : ℕ) (bytes : List ℕ) → Has log (Returned connection bytes) → (post : Post) × (at_number (posts log) connection ≡ Some post)
returned-on foreign [] is connection bytes there = absurd there
returned-on foreign (event ∷ log) is connection bytes there = by_case (returned-on foreign log is.1 connection bytes) there
  where
    on : (post : Post) × (at_number (posts log) connection ≡ Some post) → (post : Post) × (at_number (posts (event ∷ log)) connection ≡ Some post)
    on (post, posted) = (post, posts-on event log connection post posted)

    by_case : (Has log (Returned connection bytes) → (post : Post) × (at_number (posts log) connection ≡ Some post)) → (event ≡ Returned connection bytes) ⊎ Has log (Returned connection bytes)
        → (post : Post) × (at_number (posts (event ∷ log)) connection ≡ Some post)
    by_case before (inl same) = on (subst (MayHappen foreign log) same is.0)
    by_case before (inr earlier) = on (before earlier)

-- what the premise says of bytes that came back on a connection
abbrev pub AreTheirs : (List ℕ → Bool) → List Event → Post → ℕ → List ℕ → Type 0
AreTheirs foreign log post connection bytes =
    (answered : Answered) → foreign post.message.to ≡ false → IsTold post.message.letter bytes answered → IsTrue (is_decisive answered.status) → IsAnswerFrom log connection post.message.to answered

theirs-on : (foreign : List ℕ → Bool) (event : Event) (log : List Event) (post : Post) (connection : ℕ) (bytes : List ℕ) → AreTheirs foreign log post connection bytes → AreTheirs foreign (event ∷ log) post connection bytes
theirs-on foreign event log post connection bytes theirs answered ours told well =
    let page = theirs answered ours told well in
    record { call = page.call; called = inr page.called; is = page.is }

pub came-back : (foreign : List ℕ → Bool) (log : List Event) → IsLog foreign log → RepliesAreTheirs foreign log → (connection : ℕ) (bytes : List ℕ) (post : Post) → Has log (Returned connection bytes) → at_number (posts log) connection ≡ Some post
    → AreTheirs foreign log post connection bytes
came-back foreign [] is theirs connection bytes post there posted = absurd there
came-back foreign (event ∷ log) is theirs connection bytes post there posted = by_case (λ first earlier old. came-back foreign log is.1 theirs.1 connection bytes first earlier old) there
  where
    -- the post is one of the log before
    before : (first : Post) → at_number (posts log) connection ≡ Some first → first ≡ post
    before first old = one-post (event ∷ log) connection first post (posts-on event log connection first old) posted

    new : (first : Post) × (at_number (posts log) connection ≡ Some first) → IsTheirs foreign log (Returned connection bytes) → AreTheirs foreign (event ∷ log) post connection bytes
    new (first, old) from =
        let same : first ≡ post = before first old in
        subst (λ p. AreTheirs foreign (event ∷ log) p connection bytes) same
        (theirs-on foreign event log first connection bytes (λ answered ours told well. from first answered old ours told well))

    Known : Type 0
    Known = (first : Post) → Has log (Returned connection bytes) → at_number (posts log) connection ≡ Some first → AreTheirs foreign log first connection bytes

    older : Known → Has log (Returned connection bytes) → AreTheirs foreign (event ∷ log) post connection bytes
    older known earlier =
        let first = returned-on foreign log is.1 connection bytes earlier in
        subst (λ p. AreTheirs foreign (event ∷ log) p connection bytes) (before first.0 first.1)
        (theirs-on foreign event log first.0 connection bytes (known first.0 earlier first.1))

    by_case : Known → (event ≡ Returned connection bytes) ⊎ Has log (Returned connection bytes) → AreTheirs foreign (event ∷ log) post connection bytes
    by_case known (inl same) = new (subst (MayHappen foreign log) same is.0) (subst (IsTheirs foreign log) same theirs.0)
    by_case known (inr earlier) = older known earlier

-- ---- sessions

-- after a call
pub called-there : (log : List Event) (host : List ℕ) (call : Entry) (s : Session) → session_of log host ≡ Some s
    → (if same_text host host then option_map (λ t. with_call t call.ask call.reply) (session_of log host) else session_of log host) ≡ Some (with_call s call.ask call.reply)
called-there log host call s there =
    ap (λ b. if b then option_map (λ t. with_call t call.ask call.reply) (session_of log host) else session_of log host) (text-same host)
    ∙ ap (option_map (λ t. with_call t call.ask call.reply)) there

-- after a file is opened again
pub opened-there : (log : List Event) (host : List ℕ) (next : List Entry) (s : Session) → session_of log host ≡ Some s
    → (if same_text host host then option_map (λ t. reopened t next) (session_of log host) else session_of log host) ≡ Some (reopened s next)
opened-there log host next s there = ap (λ b. if b then option_map (λ t. reopened t next) (session_of log host) else session_of log host) (text-same host) ∙ ap (option_map (λ t. reopened t next)) there
