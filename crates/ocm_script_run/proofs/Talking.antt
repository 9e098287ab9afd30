-- What is said on a connection of a script, message by message.
use Rattle.std.proofs.Common.{◌≡◌, inl, inr, ℕ, ◌+◌, List, [], ◌∷◌, ◌++◌, length, Bool, true, false, Option, Some, None, refl, sym, ◌∙◌, ap, subst, append_assoc, append-nil, IsTrue, Result, Ok, Err, IfOk, IfErr, if◌then◌else◌, eq-eqb}
use Rattle.std.specs.Prelude.{unwrap_or, is_some, codes}
use Rattle.ocm_types.specs.Draws.{fresh_plus}
use Rattle.ocm_entry.specs.declared.asks.Ask.{Ask}
use Rattle.ocm_entry.specs.declared.asks.Ask.TheVariants as asks
use Rattle.ocm_entry.specs.declared.entries.Entry.{Entry}
use Rattle.ocm_entry.specs.declared.replies.Reply.{Reply}
use Rattle.ocm_entry.specs.declared.replies.Reply.TheVariants as replies
use Rattle.ocm_http.specs.Frames.{Frame, Given, Refused, Over, IsFrame}
use Rattle.ocm_http.specs.Places.{past}
use Rattle.ocm_http.specs.Readers.{Reads, ReadsMessage, ReaderState}
use Rattle.ocm_http.specs.declared.messages.Kind.{Kind}
use Rattle.ocm_http.specs.declared.messages.Kind.TheVariants.{Requests}
use Rattle.ocm_http.specs.declared.messages.Message.{Message}
use Rattle.ocm_http.specs.declared.messages.FrameFault.{FrameFault}
use Rattle.ocm_http.specs.declared.messages.FrameFault.TheVariants as faults
use Rattle.ocm_http.proofs.Stable.{frame_stays}
use Rattle.ocm_base.specs.Outside.{Takes, flow}
use Rattle.ocm_dav.specs.declared.configs.Config.{Config}
use Rattle.ocm_dav.specs.declared.wants.Wanted.{Wanted}
use Rattle.ocm_dav.specs.declared.wants.Wanted.TheVariants as wants
use Rattle.ocm_dav_pages.specs.Pages.{page_of}
use Rattle.ocm_dav_pages.specs.declared.shapes.Page.{Page}
use Rattle.ocm_dav_pages.specs.declared.shapes.Shape.{Shape}
use Rattle.ocm_server_connections.specs.Sides.{IsRequests}
use Rattle.ocm_server_connections.specs.Talk as spoken
use Rattle.ocm_server_connections.specs.Talk.{Answers, EndsWith, Stops, bad, ending_after, is_done, is_no_memory, no_memory, place_of, ticked, wanted_at}
use Rattle.ocm_server_connections.specs.declared.endings.Ended.{Ended}
use Rattle.ocm_server_connections.specs.declared.endings.Ended.TheVariants as endings
use Rattle.ocm_server_connections.specs.declared.endings.Missed.{Missed}
use Rattle.ocm_server_connections.specs.declared.endings.Missed.TheVariants as misses
use Rattle.ocm_script_run.specs.Servers.{Server, reply_of, server_after, with_call}
use Rattle.ocm_script_run.specs.Running.{Answering, Makes, Replying, Shows, bad_lines, is_last, no_memory_lines, page_lines, refused_lines}
use Rattle.ocm_script_run.specs.Talks.{AreTimes, IsTalk, Replies, after_calls, bytes_alone, end_line, ending_text, last_pages, raw_line, talk_lines}

-- what the bytes of a connection are from a place on, behind which its input ends
abbrev pub AreRequests : ℕ → List ℕ → Frame → Type 0
AreRequests place bytes frame = IsFrame Requests 1048576 place bytes true frame

-- ---- reading

-- a reader of requests
pub record IsOpen (reader : ReaderState) : Type 0 where
  pub kind : reader.kind ≡ Requests
  pub max : reader.max ≡ 1048576

some_same : {X : Type 0} (x y : X) → Some x ≡ Some y → x ≡ y
some_same x y e = ap (λ o. unwrap_or o x) e

-- what was taken of a source that told what it has left
took : (old new got : List ℕ) → Takes (Some old) (Some new) got → old ≡ got ++ new
took old new got takes = some_same old (got ++ new) takes

rest_same : (held got old new : List ℕ) → old ≡ got ++ new → (held ++ got) ++ new ≡ held ++ old
rest_same held got old new is = append_assoc held got new ∙ ap (λ b. held ++ b) (sym is)

end_same : (held got old new : List ℕ) → old ≡ got ++ new → new ≡ [] → held ++ got ≡ held ++ old
end_same held got old new is none = ap (λ b. held ++ b) (sym (append-nil got) ∙ ap (λ n. got ++ n) (sym none) ∙ sym is)

-- a message was given
pub record Comes (reader after : ReaderState) (old new : List ℕ) (message : Message) : Type 0 where
  pub is : AreRequests reader.place (reader.held ++ old) (Given message (after.held ++ new))
  pub front : List ℕ
  pub split : reader.held ++ old ≡ front ++ (after.held ++ new)
  pub place : after.place ≡ past reader.place (length front)

given_frame : (place : ℕ) (held got old new left : List ℕ) (message : Message) (ended : Bool) → old ≡ got ++ new → (IsTrue ended → new ≡ [])
    → IsFrame Requests 1048576 place (held ++ got) ended (Given message left) → AreRequests place (held ++ old) (Given message (left ++ new))
given_frame place held got old new left message false is none frame =
    subst (λ b. AreRequests place b (Given message (left ++ new))) (rest_same held got old new is) (frame_stays Requests 1048576 place (held ++ got) new true (Given message left) frame tt)
given_frame place held got old new left message true is none frame =
    let stop = none refl in
    let same_left : left ≡ left ++ new = sym (append-nil left) ∙ ap (λ n. left ++ n) (sym stop) in
    subst (λ (z : List ℕ × List ℕ). AreRequests place z.0 (Given message z.1)) (λ i. (end_same held got old new is stop i, same_left i)) frame

refused_frame : (place : ℕ) (held got old new : List ℕ) (fault : FrameFault) (ended : Bool) → old ≡ got ++ new → (IsTrue ended → new ≡ [])
    → IsFrame Requests 1048576 place (held ++ got) ended (Refused fault) → AreRequests place (held ++ old) (Refused fault)
refused_frame place held got old new fault false is none frame =
    subst (λ b. AreRequests place b (Refused fault)) (rest_same held got old new is) (frame_stays Requests 1048576 place (held ++ got) new true (Refused fault) frame tt)
refused_frame place held got old new fault true is none frame = subst (λ b. AreRequests place b (Refused fault)) (end_same held got old new is (none refl)) frame

as_requests : (reader : ReaderState) (bytes : List ℕ) (ended : Bool) (frame : Frame) → IsOpen reader → IsFrame reader.kind reader.max reader.place bytes ended frame → IsFrame Requests 1048576 reader.place bytes ended frame
as_requests reader bytes ended frame open_still is = subst (λ (z : Kind × ℕ). IsFrame z.0 z.1 reader.place bytes ended frame) (λ i. (open_still.kind i, open_still.max i)) is

pub comes : (reader after : ReaderState) (old new : List ℕ) (message : Message) → IsOpen reader
    → ReadsMessage reader (flow (Some old) None) (flow (Some new) None) (Given message after.held) after.held after.place → Comes reader after old new message
comes reader after old new message open_still reads =
    let is = took old new reads.reading.got reads.reading.taken.0 in
    record {
      is = given_frame reader.place reader.held reads.reading.got old new after.held message reads.ended is reads.reading.told (as_requests reader (reader.held ++ reads.reading.got) reads.ended (Given message after.held) open_still reads.reading.is_frame);
      front = reads.of_message;
      split = sym (rest_same reader.held reads.reading.got old new is) ∙ ap (λ b. b ++ new) reads.split ∙ append_assoc reads.of_message after.held new;
      place = reads.counted;
    }

pub comes-over : (reader : ReaderState) (old new : List ℕ) → IsOpen reader → Reads reader (flow (Some old) None) (flow (Some new) None) true Over → AreRequests reader.place (reader.held ++ old) Over
comes-over reader old new open_still reads =
    let is = took old new reads.got reads.taken.0 in
    subst (λ b. AreRequests reader.place b Over) (end_same reader.held reads.got old new is (reads.told refl)) (as_requests reader (reader.held ++ reads.got) true Over open_still reads.is_frame)

pub comes-refused : (reader : ReaderState) (old new : List ℕ) (fault : FrameFault) (ended : Bool) → IsOpen reader → Reads reader (flow (Some old) None) (flow (Some new) None) ended (Refused fault) → AreRequests reader.place (reader.held ++ old) (Refused fault)
comes-refused reader old new fault ended open_still reads =
    let is = took old new reads.got reads.taken.0 in
    refused_frame reader.place reader.held reads.got old new fault ended is reads.told (as_requests reader (reader.held ++ reads.got) ended (Refused fault) open_still reads.is_frame)

-- ---- calls

-- calls, and more behind them
pub after-more : (server : Server) (older newer : List Entry) → after_calls (after_calls server older) newer ≡ after_calls server (newer ++ older)
after-more server older [] = refl
after-more server older (call ∷ newer) = ap (λ s. with_call s call.ask call.reply) (after-more server older newer)

pub replies-more : (server : Server) (older newer : List Entry) → Replies server older → Replies (after_calls server older) newer → Replies server (newer ++ older)
replies-more server older [] first second = first
replies-more server older (call ∷ newer) first (before, wanting, is) = (
  replies-more server older newer first before,
  wanting,
  is ∙ ap (λ s. reply_of wanting s call.ask) (after-more server older newer),
)

-- a call changes neither what the last `clock` line told nor the host
pub same-clock : (server : Server) (calls : List Entry) → (after_calls server calls).clock ≡ server.clock
same-clock server [] = refl
same-clock server (call ∷ older) = same-clock server older

pub same-host : (server : Server) (calls : List Entry) → (after_calls server calls).host ≡ server.host
same-host server [] = refl
same-host server (call ∷ older) = same-host server older

-- they stand behind those that it had, in the same session
pub calls-added : (server : Server) (calls : List Entry) → (after_calls server calls).calls ≡ calls ++ server.calls
calls-added server [] = refl
calls-added server (call ∷ older) = ap (λ (l : List Entry). call ∷ l) (calls-added server older)

pub same-base : (server : Server) (calls : List Entry) → (after_calls server calls).base ≡ server.base
same-base server [] = refl
same-base server (call ∷ older) = same-base server older

-- ---- talks

over-talk : (config : Config) (line : ℕ) (fresh : List ℕ) (number place : ℕ) (bytes : List ℕ) (server : Server) (ending : Ended) (written text : List ℕ)
    → Stops bytes_alone place bytes true written ending → text ≡ talk_lines line (last_pages ending written) ending
    → IsTalk config line fresh number place bytes server server text
over-talk config line fresh number place bytes server ending written text stops shown = record {
  drawn = [];
  clocks = [];
  calls = [];
  written = written;
  ending = ending;
  talk = spoken.silent number place bytes true written ending stops;
  are_drawn = tt;
  are_times = tt;
  replies = tt;
  is_after = refl;
  is_text = shown;
}

-- no message comes
pub talk-over : (config : Config) (line : ℕ) (fresh : List ℕ) (number place : ℕ) (bytes : List ℕ) (server : Server) → AreRequests place bytes Over
    → IsTalk config line fresh number place bytes server server (end_line line (codes "closed"))
unfolding Stops IsRequests
talk-over config line fresh number place bytes server is = over-talk config line fresh number place bytes server endings.Closed [] _ (refl, is) refl

-- there is no memory to read on
pub talk-stuck : (config : Config) (line : ℕ) (fresh : List ℕ) (number place : ℕ) (bytes : List ℕ) (server : Server) → IsTalk config line fresh number place bytes server server (no_memory_lines line)
unfolding Stops no_memory
talk-stuck config line fresh number place bytes server = over-talk config line fresh number place bytes server endings.NoMemory no_memory _ (inl refl) refl

-- bytes are refused at a place
talk-bad : (config : Config) (line : ℕ) (fresh : List ℕ) (number place : ℕ) (bytes : List ℕ) (server : Server) (fault : FrameFault) (at : ℕ) → place_of fault ≡ Some at → AreRequests place bytes (Refused fault)
    → IsTalk config line fresh number place bytes server server (bad_lines line at)
unfolding Stops IsRequests bad
talk-bad config line fresh number place bytes server fault at there is = over-talk config line fresh number place bytes server (endings.Bad at) bad _ (refl, fault, is, there) refl

-- what comes is no message
talk-refused : (config : Config) (line : ℕ) (fresh : List ℕ) (number place : ℕ) (bytes : List ℕ) (server : Server) (fault : FrameFault) → AreRequests place bytes (Refused fault)
    → IsTalk config line fresh number place bytes server server (refused_lines line fault)
unfolding Stops IsRequests
talk-refused config line fresh number place bytes server faults.Cut is = over-talk config line fresh number place bytes server endings.Cut [] _ (refl, is) refl
talk-refused config line fresh number place bytes server faults.ReadFault is = talk-stuck config line fresh number place bytes server
talk-refused config line fresh number place bytes server faults.NoMemory is = talk-stuck config line fresh number place bytes server
talk-refused config line fresh number place bytes server (faults.BadHead at) is = talk-bad config line fresh number place bytes server (faults.BadHead at) at refl is
talk-refused config line fresh number place bytes server (faults.HeadTooLong at) is = talk-bad config line fresh number place bytes server (faults.HeadTooLong at) at refl is
talk-refused config line fresh number place bytes server (faults.BadLength at) is = talk-bad config line fresh number place bytes server (faults.BadLength at) at refl is
talk-refused config line fresh number place bytes server (faults.BothLengths at) is = talk-bad config line fresh number place bytes server (faults.BothLengths at) at refl is
talk-refused config line fresh number place bytes server (faults.BadChunk at) is = talk-bad config line fresh number place bytes server (faults.BadChunk at) at refl is
talk-refused config line fresh number place bytes server (faults.BodyTooLong at) is = talk-bad config line fresh number place bytes server (faults.BodyTooLong at) at refl is

-- how a connection ends that ends with a page
ends_closed : (after : Option Ended) → is_some after ≡ true → ((ending : Ended) → after ≡ Some ending → codes "closed" ≡ ending_text ending) → (ending : Ended) × (after ≡ Some ending) × (codes "closed" ≡ ending_text ending)
ends_closed None ends shows = absurd (cc)
ends_closed (Some ending) ends shows = (ending, refl, shows ending refl)

closed-text : (number : ℕ) (message : Message) (ending : Ended) → ending_after number message ≡ Some ending → codes "closed" ≡ ending_text ending
unfolding ending_after
closed-text number message ending is = by_test (spoken.is_last number) (spoken.closes message.head) is
  where
    by_test : (last closing : Bool) → (if last then Some endings.Quota else if closing then Some endings.Closed else None) ≡ Some ending → codes "closed" ≡ ending_text ending
    by_test true closing is = ap (λ (o : Option Ended). ending_text (unwrap_or o endings.Closed)) is
    by_test false true is = ap (λ (o : Option Ended). ending_text (unwrap_or o endings.Closed)) is
    by_test false false is = absurd (cc)

module _ (config : Config) (line : ℕ) (fresh : List ℕ) (number place : ℕ) (bytes rest : List ℕ) (message : Message) (server : Server) (calls : List Entry) (is : AreRequests place bytes (Given message rest)) (made : Replies server calls) where
  -- a message comes, and ends the connection
  last-talk : (answer : Result Page Missed) (written : List ℕ) (ending : Ended) (text : List ℕ) → Answers (wanted_at config number message (fresh_plus fresh number)) server.clock calls answer
      → EndsWith false (ending_after number message) answer written ending → spoken.is_spent answer ≡ false → text ≡ talk_lines line (written ∷ []) ending
      → IsTalk config line fresh number place bytes server (after_calls server calls) text
  unfolding IsRequests
  last-talk answer written ending text answers ends spent shown = record {
    drawn = fresh_plus fresh number ∷ [];
    clocks = server.clock ∷ [];
    calls = calls;
    written = written;
    ending = ending;
    talk = spoken.last number place bytes rest true message (fresh_plus fresh number) server.clock calls answer written ending is answers ends spent;
    are_drawn = (refl, tt);
    are_times = (refl, tt);
    replies = made;
    is_after = refl;
    is_text = shown ∙ ap (λ (b : Bool). talk_lines line (if b then [] else written ∷ []) ending) (sym spent);
  }

  -- a message was answered, and the connection ends with it
  pub talk-end : (text : List ℕ) → Shows (wanted_at config number message (fresh_plus fresh number)) line (is_last number message) server.clock calls text true
      → IsTalk config line fresh number place bytes server (after_calls server calls) text
  unfolding EndsWith no_memory
  talk-end text (inl (page, answers, ends, shown)) =
      let at = ends_closed (ending_after number message) (sym ends) (closed-text number message) in
      last-talk (Ok page) page.bytes at.0 text answers (inl (at.1, refl)) refl
      (shown ∙ ap (page_lines line page.bytes) (sym ends) ∙ ap (λ t. raw_line line page.bytes ++ end_line line t) at.2)
  talk-end text (inr (answers, ends, shown)) = last-talk (Err misses.NoMemory) no_memory endings.NoMemory text answers (refl, inl refl) refl shown

  -- a message was answered, and then the rest
  pub talk-next : (front : List ℕ) (page : Page) (after : Server) (text : List ℕ) → bytes ≡ front ++ rest
      → Answers (wanted_at config number message (fresh_plus fresh number)) server.clock calls (Ok page) → ending_after number message ≡ None
      → IsTalk config line fresh (number + 1) (past place (length front)) rest (after_calls server calls) after text
      → IsTalk config line fresh number place bytes server after (raw_line line page.bytes ++ text)
  unfolding IsRequests
  talk-next front page after text split answers goes_on later = record {
    drawn = fresh_plus fresh number ∷ later.drawn;
    clocks = server.clock ∷ later.clocks;
    calls = later.calls ++ calls;
    written = page.bytes ++ later.written;
    ending = later.ending;
    talk = spoken.next number place bytes front rest true message (fresh_plus fresh number) server.clock calls page later.drawn later.clocks later.calls later.written later.ending is split answers goes_on later.talk;
    are_drawn = (refl, later.are_drawn);
    are_times = (refl, subst (λ (time : ℕ). AreTimes time later.clocks) (same-clock server calls) later.are_times);
    replies = replies-more server calls later.calls made later.replies;
    is_after = later.is_after ∙ after-more server calls later.calls;
    is_text = ap (λ t. raw_line line page.bytes ++ t) later.is_text;
  }

-- ---- saying

-- whatever is said from here on, is said behind this text from the start on
pub record SaidSo (config : Config) (line : ℕ) (fresh bytes : List ℕ) (server : Server) (number place : ℕ) (rest : List ℕ) (mid : Server) (text : List ℕ) : Type 0 where
  pub on : (after : Server) (more : List ℕ) → IsTalk config line fresh number place rest mid after more → IsTalk config line fresh 0 0 bytes server after (text ++ more)

pub said-first : (config : Config) (line : ℕ) (fresh bytes : List ℕ) (server : Server) → SaidSo config line fresh bytes server 0 0 bytes server []
said-first config line fresh bytes server = record { on = λ after more talks. talks }

-- the same, where the reader has read nothing and the source has all bytes
pub said-fresh : (config : Config) (line : ℕ) (fresh bytes : List ℕ) (server : Server) (place : ℕ) (held left text : List ℕ) → place ≡ 0 → held ≡ [] → left ≡ bytes → text ≡ []
    → SaidSo config line fresh bytes server 0 place (held ++ left) server text
said-fresh config line fresh bytes server place held left text at none all empty =
    subst (λ (z : ℕ × List ℕ × List ℕ × List ℕ). SaidSo config line fresh bytes server 0 z.0 (z.1 ++ z.2) server z.3) (λ i. (sym at i, sym none i, sym all i, sym empty i)) (said-first config line fresh bytes server)

-- the connection ends with these lines
pub said-last : (config : Config) (line : ℕ) (fresh bytes : List ℕ) (server : Server) (number place : ℕ) (rest : List ℕ) (mid after : Server) (text more all : List ℕ)
    → SaidSo config line fresh bytes server number place rest mid text → IsTalk config line fresh number place rest mid after more → all ≡ text ++ more → IsTalk config line fresh 0 0 bytes server after all
said-last config line fresh bytes server number place rest mid after text more all so talks is = subst (λ t. IsTalk config line fresh 0 0 bytes server after t) (sym is) (so.on after more talks)

goes_on : (after : Option Ended) → is_some after ≡ false → after ≡ None
goes_on None is = refl
goes_on (Some ending) is = absurd (cc)

-- a message was answered, and the connection goes on
pub said-more : (config : Config) (line : ℕ) (fresh bytes : List ℕ) (server : Server) (number place : ℕ) (old front rest : List ℕ) (message : Message) (mid : Server) (calls : List Entry) (text more : List ℕ)
    → SaidSo config line fresh bytes server number place old mid text → AreRequests place old (Given message rest) → old ≡ front ++ rest → Replies mid calls
    → Shows (wanted_at config number message (fresh_plus fresh number)) line (is_last number message) mid.clock calls more false
    → SaidSo config line fresh bytes server (number + 1) (past place (length front)) rest (after_calls mid calls) (text ++ more)
said-more config line fresh bytes server number place old front rest message mid calls text more so is split made (inl (page, answers, ends, shown)) = record {
  on = λ final t talks.
      let one = talk-next config line fresh number place old rest message mid calls is made front page final t split answers (goes_on (ending_after number message) (sym ends)) talks in
      subst (λ z. IsTalk config line fresh 0 0 bytes server final z)
      (ap (λ m. text ++ (m ++ t)) (sym (shown ∙ ap (page_lines line page.bytes) (sym ends))) ∙ sym (append_assoc text more t)) (so.on final (raw_line line page.bytes ++ t) one);
}
said-more config line fresh bytes server number place old front rest message mid calls text more so is split made (inr (answers, ends, shown)) = absurd (let e : false ≡ true = ends in cc)

-- a connection ends with its last message
pub not_last : (wanted : Wanted) (line : ℕ) (message : Message) (clock : ℕ) (calls : List Entry) (text : List ℕ) (number : ℕ)
    → Shows wanted line (is_last number message) clock calls text false → number ≡ 999 → ⊥
unfolding ending_after
not_last wanted line message clock calls text number (inl (page, answers, ends, shown)) is =
    let last : is_last number message ≡ true =
    ap (λ (b : Bool). is_some (if b then Some endings.Quota else if spoken.closes message.head then Some endings.Closed else None)) (eq-eqb number 999 is) in
    let e : false ≡ true = ends ∙ last in cc
not_last wanted line message clock calls text number (inr (answers, ends, shown)) is = let e : false ≡ true = ends in cc

-- bytes that are no message end the connection
pub talk-stops : (config : Config) (line : ℕ) (fresh : List ℕ) (number : ℕ) (reader : ReaderState) (old new : List ℕ) (server : Server) (fault : FrameFault) → IsOpen reader
    → ((fault ≡ faults.ReadFault → ⊥) → (fault ≡ faults.NoMemory → ⊥) → (ended : Bool) × Reads reader (flow (Some old) None) (flow (Some new) None) ended (Refused fault))
    → IsTalk config line fresh number reader.place (reader.held ++ old) server server (refused_lines line fault)
talk-stops config line fresh number reader old new server faults.ReadFault open_still h = talk-stuck config line fresh number reader.place (reader.held ++ old) server
talk-stops config line fresh number reader old new server faults.NoMemory open_still h = talk-stuck config line fresh number reader.place (reader.held ++ old) server
talk-stops config line fresh number reader old new server (faults.BadHead place) open_still h =
    let r = h (λ e. cc) (λ e. cc) in talk-refused config line fresh number reader.place (reader.held ++ old) server (faults.BadHead place) (comes-refused reader old new (faults.BadHead place) r.0 open_still r.1)
talk-stops config line fresh number reader old new server (faults.HeadTooLong place) open_still h =
    let r = h (λ e. cc) (λ e. cc) in talk-refused config line fresh number reader.place (reader.held ++ old) server (faults.HeadTooLong place) (comes-refused reader old new (faults.HeadTooLong place) r.0 open_still r.1)
talk-stops config line fresh number reader old new server (faults.BadLength place) open_still h =
    let r = h (λ e. cc) (λ e. cc) in talk-refused config line fresh number reader.place (reader.held ++ old) server (faults.BadLength place) (comes-refused reader old new (faults.BadLength place) r.0 open_still r.1)
talk-stops config line fresh number reader old new server (faults.BothLengths place) open_still h =
    let r = h (λ e. cc) (λ e. cc) in talk-refused config line fresh number reader.place (reader.held ++ old) server (faults.BothLengths place) (comes-refused reader old new (faults.BothLengths place) r.0 open_still r.1)
talk-stops config line fresh number reader old new server (faults.BadChunk place) open_still h =
    let r = h (λ e. cc) (λ e. cc) in talk-refused config line fresh number reader.place (reader.held ++ old) server (faults.BadChunk place) (comes-refused reader old new (faults.BadChunk place) r.0 open_still r.1)
talk-stops config line fresh number reader old new server (faults.BodyTooLong place) open_still h =
    let r = h (λ e. cc) (λ e. cc) in talk-refused config line fresh number reader.place (reader.held ++ old) server (faults.BodyTooLong place) (comes-refused reader old new (faults.BodyTooLong place) r.0 open_still r.1)
talk-stops config line fresh number reader old new server faults.Cut open_still h =
    let r = h (λ e. cc) (λ e. cc) in talk-refused config line fresh number reader.place (reader.held ++ old) server faults.Cut (comes-refused reader old new faults.Cut r.0 open_still r.1)

-- ---- asking

done_is : (reply : Reply) → is_done reply ≡ true → reply ≡ replies.Done
done_is replies.Done e = refl
done_is _ e = absurd (cc)

module _ {S : Type 0} (stands : S → Server → Type 0) where
  -- one call more
  makes-more : (server : Server) (older : List Entry) (ask : Ask) (reply : Reply) (new : S) → Replies server older
      → (wanting : Bool) × (reply ≡ reply_of wanting (after_calls server older) ask) × stands new (server_after wanting (after_calls server older) ask)
      → Makes stands server new (record { ask = ask; reply = reply } ∷ older)
  makes-more server older ask reply new made (wanting, is, so) =
      ((made, wanting, is), subst (stands new) (ap (with_call (after_calls server older) ask) (sym is)) so)

  -- what an ask comes to at each server for which a value stands
  abbrev pub Acted : S → S → Ask → Reply → Type 0
  Acted old new ask reply = (server : Server) → stands old server → (wanting : Bool) × (reply ≡ reply_of wanting server ask) × stands new (server_after wanting server ask)

  -- a tick that is done, and then an ask
  pub replying-done : (ask : Ask) (clock : ℕ) (server : Server) (old mid new : S) (told reply : Reply) → Acted old mid (asks.Tick clock) told → Acted mid new ask reply → is_done told ≡ true → stands old server
      → Replying stands ask clock server new reply
  unfolding spoken.Replied
  replying-done ask clock server old mid new told reply first second done so =
      let one = makes-more server [] (asks.Tick clock) told mid tt (first server so) in
      let two = makes-more server (ticked clock told ∷ []) ask reply new one.0 (second (after_calls server (ticked clock told ∷ [])) one.1) in
      (record { ask = ask; reply = reply } ∷ ticked clock told ∷ [], two, inr (ap (λ (t : Reply). record { ask = ask; reply = reply } ∷ ticked clock t ∷ []) (done_is told done)))

  -- a tick that is not done
  pub replying-else : (ask : Ask) (clock : ℕ) (server : Server) (old new : S) (told : Reply) → Acted old new (asks.Tick clock) told → is_done told ≡ false → stands old server
      → Replying stands ask clock server new told
  unfolding spoken.Replied
  replying-else ask clock server old new told first undone so = (ticked clock told ∷ [], makes-more server [] (asks.Tick clock) told new tt (first server so), inl (refl, undone))

  -- the page of a reply, or none where there was no memory
  pub answering-reply : (ask : Ask) (shape : Shape) (server : Server) (new : S) (reply : Reply) (page : Result Page Missed) → Replying stands ask server.clock server new reply
      → IfOk page (λ p. (is_no_memory reply ≡ false) × (p ≡ page_of reply shape)) → IfErr page (λ missed. missed ≡ misses.NoMemory)
      → Answering stands (wants.Ask ask shape) server new page
  unfolding Answers
  answering-reply ask shape server new reply (Ok page) (calls, made, replied) had none = (calls, made, (reply, replied, had.0, had.1))
  answering-reply ask shape server new reply (Err missed) (calls, made, replied) had none =
      (calls, made, subst (λ (m : Missed). Answers (wants.Ask ask shape) server.clock calls (Err m)) (sym none) (inr (reply, replied)))

  -- a page that comes at once
  pub answering-once : (wanted : Wanted) (page : Page) (server : Server) (value : S) → wants.Page page ≡ wanted → stands value server → Answering stands wanted server value (Ok page)
  unfolding Answers
  answering-once wanted page server value is so = ([], (tt, so), subst (λ (w : Wanted). Answers w server.clock [] (Ok page)) is (refl, refl))

  -- there was no memory for an ask
  pub answering-nothing : (wanted : Wanted) (server : Server) (value : S) → stands value server → Answering stands wanted server value (Err misses.NoMemory)
  unfolding Answers
  answering-nothing (wants.Page page) server value so = ([], (tt, so), refl)
  answering-nothing (wants.Ask ask shape) server value so = ([], (tt, so), inl refl)
