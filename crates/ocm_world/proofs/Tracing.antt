-- The transcript and the log of one run: which reads the log misses.
use Rattle.std.proofs.Common.{◌≡◌, ◌≤◌, ◌⊎◌, inl, inr, ℕ, ◌+◌, ◌/◌, ◌%◌, List, [], ◌∷◌, ◌++◌, ◌&&◌, ◌==◌, length, drop, get_or, Bool, true, false, if◌then◌else◌, Option, Some, None, refl, sym, ◌∙◌, ap, subst, append_assoc, append-nil, lit≤, arith}
use Rattle.std.specs.Prelude.{MatchBool, codes, decimal, option_map}
use Rattle.std.specs.List.{flat_map}
use Rattle.std.specs.Option.{option_map_or}
use Rattle.std.proofs.Math.Seq.{drop-append_seam, drop-nil}
use Rattle.std.proofs.lemmas.Fmt.{decimal_digit, decimal_step}
use Rattle.std.proofs.lemmas.Slice.Eq.{bytes_eq-Decides}
use Rattle.ocm_path.specs.Paths.{Segments}
use Rattle.ocm_entry.specs.Refusals as refusals
use Rattle.ocm_entry.specs.declared.asks.Ask.{Ask}
use Rattle.ocm_entry.specs.declared.asks.Ask.TheVariants as asks
use Rattle.ocm_entry.specs.declared.asks.Method.{Method}
use Rattle.ocm_entry.specs.declared.asks.Method.TheVariants.{Get, Head, List0, List1, Put, Delete, Mkcol}
use Rattle.ocm_entry.specs.declared.entries.Entry.{Entry}
use Rattle.ocm_entry.specs.declared.listings.DavItem.{DavItem}
use Rattle.ocm_entry.specs.declared.refusals.Why.{Why}
use Rattle.ocm_entry.specs.declared.refusals.Why.TheVariants.{Limit, NotPermitted}
use Rattle.ocm_entry.specs.declared.replies.Reply.{Reply}
use Rattle.ocm_entry.specs.declared.replies.Reply.TheVariants as replies
use Rattle.ocm_entry.specs.declared.rows.Grant.{Grant}
use Rattle.ocm_entry.specs.declared.rows.Place.{Place}
use Rattle.ocm_entry.specs.declared.rows.Standing.{Standing}
use Rattle.ocm_entry.specs.declared.rows.Standing.TheVariants.{Collection, File}
use Rattle.ocm_rules.specs.Answers.{dav_reply, get_reply, items_in, list_reply, method_reply, refused}
use Rattle.ocm_rules.specs.Files.{below}
use Rattle.ocm_rules.specs.Holders.{permits}
use Rattle.ocm_rules.specs.History.{changes_in, kept, writes}
use Rattle.ocm_rules.specs.Lean.{count}
use Rattle.ocm_rules.specs.Messages.{view_of}
use Rattle.ocm_rules.specs.Numbers.{same_text}
use Rattle.ocm_rules.specs.Shares.{moment}
use Rattle.ocm_rules.specs.Views.{View, grant_in}
use Rattle.ocm_law_sessions.specs.Sessions.{heard, would_change}
use Rattle.ocm_access_log.specs.Lines.{is_reading, log_line}
use Rattle.ocm_access_log.specs.Truth.{status_of}
use Rattle.ocm_transcript.specs.Texts.{file_text, further, further_line, line_text, refusal_text, reply_lines, reply_text}
use Rattle.ocm_script.specs.declared.events.Event.{Event}
use Rattle.ocm_script.specs.declared.events.Event.TheVariants as events
use Rattle.ocm_script_run.specs.Asked.{shows_digits}
use Rattle.ocm_script_run.specs.Servers.{Server, World, history, reply_of, server_at, told_reply}
use Rattle.ocm_script_run.specs.Deliveries.{Run, next_wanting}
use Rattle.ocm_script_run.specs.Traces.{IsLogged, Logged, logged, logged_at}
use Rattle.ocm_script_run.specs.Transcript.{IsRun, Transcript}
use Rattle.ocm_world.specs.Traces.{Shows, ShowsRead, Traced, no_memory_line}

-- ---- the replies to reads

-- the reply has the status of a read's
abbrev HasStatus : Reply → Type 0
HasStatus reply = (status : ℕ) × (status_of reply ≡ Some status)

got : (o : Option Standing) → HasStatus (get_reply o)
got None = (404, refl)
got (Some Collection) = (405, refl)
got (Some (File body)) = (200, refl)

listed : (inside : List DavItem) (path : Segments) (o : Option Standing) → HasStatus (list_reply inside path o)
listed inside path None = (404, refl)
listed inside path (Some standing) = (207, refl)

at_place : (v : View) (method : Method) (place : Place) (path : Segments) → is_reading method ≡ true → HasStatus (method_reply v method place path [])
at_place v Get place path reads = got (v.stands place)
at_place v Head place path reads = got (v.stands place)
at_place v List0 place path reads = listed [] path (v.stands place)
at_place v List1 place path reads = listed (items_in v.nodes place path) path (v.stands place)
at_place v _ place path reads = absurd (cc)

by_grant : (v : View) (o : Option Grant) (method : Method) (path : Segments) → is_reading method ≡ true → HasStatus (dav_reply v o method path [])
by_grant v None method path reads = (401, refl)
by_grant v (Some grant) method path reads = by_right (permits grant.rights method)
  where
    by_right : (b : Bool) → HasStatus (if b then method_reply v method (below grant.root path) path [] else refused NotPermitted)
    by_right true = at_place v method (below grant.root path) path reads
    by_right false = (403, refl)

-- a method that reads changes nothing
reads-only : (method : Method) → is_reading method ≡ true → writes method ≡ false
reads-only Put reads = absurd (cc)
reads-only Delete reads = absurd (cc)
reads-only Mkcol reads = absurd (cc)
reads-only _ reads = refl

changes-nothing : (v : View) (secret : List ℕ) (method : Method) (path : Segments) (reply : Reply) → writes method ≡ false → changes_in v (asks.Dav secret method path []) reply ≡ false
changes-nothing v secret method path replies.Created none = none
changes-nothing v secret method path replies.Replaced none = none
changes-nothing v secret method path replies.Removed none = none
changes-nothing v secret method path _ none = refl

-- a server tells a reader that memory ran out, or replies with a status
replied : (wanting : Bool) (server : Server) (method : Method) (secret : List ℕ) (path : Segments) → is_reading method ≡ true
    → (reply_of wanting server (asks.Dav secret method path []) ≡ replies.NoMemory) ⊎ HasStatus (reply_of wanting server (asks.Dav secret method path []))
replied true server method secret path reads = inl refl
replied false server method secret path reads =
    let ask : Ask = asks.Dav secret method path [] in
    let v : View = view_of server.host (kept server.host (history server)) in
    let idle : would_change server.host (history server) ask ≡ false =
    changes-nothing v secret method path (heard server.host (history server) ask).reply (reads-only method reads) in
    inr (subst HasStatus (sym (ap (λ b. told_reply b server ask) idle)) (by_grant v (grant_in v secret) method path reads))

-- ---- what is shown of them

-- whether a text begins with a space and `500`, by the first and last of the digits
abbrev begins_with_500 : List ℕ → Bool
begins_with_500 text = (get_or text 1 0 == 53) && (get_or text 3 0 == 48)

three_digits : (n : ℕ) → 100 ≤ n → n ≤ 999 → decimal n ≡ (48 + n / 10 / 10) ∷ (48 + n / 10 % 10) ∷ (48 + n % 10) ∷ []
three_digits n least most =
    decimal_step n (omega arith) (omega arith)
    ∙ ap (λ (digits : List ℕ). digits ++ (48 + n % 10) ∷ [])
    (decimal_step (n / 10) (omega arith) (omega arith) ∙ ap (λ (digits : List ℕ). digits ++ (48 + n / 10 % 10) ∷ []) (decimal_digit (n / 10 / 10) (omega arith)))

-- the status of a refusal has three digits, and is another than 500
refusal-digits : (why : Why) → (100 ≤ refusals.status_of why) × (refusals.status_of why ≤ 999)
refusal-digits (Limit which) = (lit≤ tt, lit≤ tt)
refusal-digits _ = (lit≤ tt, lit≤ tt)

refusal-other : (why : Why) → ((48 + refusals.status_of why / 10 / 10 == 53) && (48 + refusals.status_of why % 10 == 48)) ≡ false
refusal-other (Limit which) = refl
refusal-other _ = refl

refusal-apart : (why : Why) (rest : List ℕ) → begins_with_500 (32 ∷ (refusal_text why ++ rest)) ≡ false
refusal-apart why rest =
    let n : ℕ = refusals.status_of why in
    let sized = refusal-digits why in
    ap (λ (digits : List ℕ). begins_with_500 (32 ∷ ((digits ++ 32 ∷ refusals.message_of why) ++ rest))) (three_digits n sized.0 sized.1) ∙ refusal-other why

file-apart : (digits : Bool) (body rest : List ℕ) → begins_with_500 (32 ∷ (file_text digits body ++ rest)) ≡ false
file-apart digits [] rest = refl
file-apart true (b ∷ bytes) rest = refl
file-apart false (b ∷ bytes) rest = refl

reply-apart : (digits : Bool) (reply : Reply) (rest : List ℕ) → HasStatus reply → begins_with_500 (32 ∷ (reply_text digits reply ++ rest)) ≡ false
reply-apart digits (replies.File body) rest has = file-apart digits body rest
reply-apart digits (replies.Items items) rest has = refl
reply-apart digits (replies.Refused why) rest has = refusal-apart why rest
reply-apart digits _ rest has = (let none = has.1 in absurd (cc))

-- what stands behind the number of a line
behind_number : (number : ℕ) (text more : List ℕ) → drop (length (decimal number)) (line_text number text ++ more) ≡ 32 ∷ (text ++ (10 ∷ more))
behind_number number text more =
    ap (drop (length (decimal number))) (append_assoc (decimal number) (32 ∷ (text ++ 10 ∷ [])) more)
    ∙ drop-append_seam (decimal number) (32 ∷ ((text ++ 10 ∷ []) ++ more)) ∙ ap (λ l. 32 ∷ l) (append_assoc text (10 ∷ []) more)

-- lines of a reply with a status don't tell that memory ran out
lines-apart : (number : ℕ) (digits : Bool) (reply : Reply) → HasStatus reply → reply_lines number digits reply ≡ no_memory_line number → ⊥
lines-apart number digits reply has same =
    let more : List ℕ = flat_map further_line (further reply) in
    let text : List ℕ = codes "500 no memory" in
    let test : List ℕ → Bool = λ l. begins_with_500 (drop (length (decimal number)) l) in
    let told : test (reply_lines number digits reply) ≡ false = ap begins_with_500 (behind_number number (reply_text digits reply) more) ∙ reply-apart digits reply (10 ∷ more) has in
    let other : test (no_memory_line number ++ []) ≡ true = ap begins_with_500 (behind_number number text []) in
    let wrong : false ≡ true = sym told ∙ ap test (same ∙ sym (append-nil (no_memory_line number))) ∙ other in
    absurd (cc)

-- they are some
lines-some : (number : ℕ) (text more : List ℕ) → line_text number text ++ more ≡ [] → ⊥
lines-some number text more none =
    let behind : 32 ∷ (text ++ (10 ∷ more)) ≡ drop (length (decimal number)) [] = sym (behind_number number text more) ∙ ap (drop (length (decimal number))) none in
    let nothing : 32 ∷ (text ++ (10 ∷ more)) ≡ [] = behind ∙ drop-nil {A = ℕ} (length (decimal number)) in
    absurd (cc)

shows-reply : (number : ℕ) (digits : Bool) (server : Server) (method : Method) (secret : List ℕ) (path : Segments) (reply : Reply) → (reply ≡ replies.NoMemory) ⊎ HasStatus reply
    → ShowsRead number method secret path (Some server) (reply_lines number digits reply) (logged server method secret path reply)
shows-reply number digits server method secret path reply (inl wanting) =
    inl (ap (logged server method secret path) wanting, inl (ap (reply_lines number digits) wanting ∙ append-nil (no_memory_line number)))
shows-reply number digits server method secret path reply (inr has) =
    let g : List Entry = kept server.host (history server) in
    inr (
      count server.host (history server),
      moment g,
      has.0,
      ap (λ o. option_map_or (λ status. log_line (count server.host (history server)) (moment g) method secret path status) o []) has.1,
      lines-apart number digits reply has,
      lines-some number (reply_text digits reply) (flat_map further_line (further reply)),
    )

-- ---- lines of a script

-- what a read prints, and what is logged of it, where this is the server of its host, if there is one
abbrev printed_by : ℕ → Bool → Bool → Ask → Option Server → List ℕ
printed_by number digits wanting ask found = option_map_or (λ reply. reply_lines number digits reply) (option_map (λ server. reply_of wanting server ask) found) []

abbrev logged_by_read : Bool → Method → List ℕ → Segments → Option Server → List ℕ
logged_by_read wanting method secret path found = option_map_or (λ server. logged server method secret path (reply_of wanting server (asks.Dav secret method path []))) found []

at_server : (number : ℕ) (digits wanting : Bool) (method : Method) (secret : List ℕ) (path : Segments) (found : Option Server) → is_reading method ≡ true
    → ShowsRead number method secret path found (printed_by number digits wanting (asks.Dav secret method path []) found) (logged_by_read wanting method secret path found)
at_server number digits wanting method secret path None reads = inl (refl, inr (refl, refl))
at_server number digits wanting method secret path (Some server) reads =
    shows-reply number digits server method secret path (reply_of wanting server (asks.Dav secret method path [])) (replied wanting server method secret path reads)

shows : (world : World) (number : ℕ) (host : List ℕ) (e : Event) (line : Run) (log : List ℕ) → IsLogged world number host e line log → Shows world host number e line.text log
shows world number host (events.Dav at secret method path) line log is = by (same_text at host) (is_reading method) refl refl is.2
  where
    wanting : Bool
    wanting = next_wanting is.0

    by : (a b : Bool) → same_text at host ≡ a → is_reading method ≡ b → log ≡ (if a && b then logged_at wanting world host method secret path else [])
        → MatchBool (a && b) (ShowsRead number method secret path (server_at world host) line.text log) (log ≡ [])
    by true true here reads logs =
        let digits : Bool = shows_digits (events.Dav at secret method path) in
        let same : at ≡ host = (bytes_eq-Decides at host).0 here in
        let prints : line.text ≡ printed_by number digits wanting (asks.Dav secret method path []) (server_at world host) =
        ap (λ (r : Run). r.text) is.1 ∙ ap (λ (h : List ℕ). printed_by number digits wanting (asks.Dav secret method path []) (server_at world h)) same in
        subst (λ (z : List ℕ × List ℕ). ShowsRead number method secret path (server_at world host) z.0 z.1) (λ i. (sym prints i, sym logs i))
        (at_server number digits wanting method secret path (server_at world host) reads)
    by true false here reads logs = logs
    by false b here reads logs = logs
shows world number host (events.Raw at fresh bytes) line log is = is.1
shows world number host _ line log is = is.2

-- what is logged of a run is traced of it
pub logged-traced : (world : World) (number : ℕ) (host : List ℕ) (es : List Event) (log : List ℕ) (final : World) → Logged world number host es log final → (text : List ℕ) × Traced world number host es text log final
logged-traced world number host [] log final h = ([], (refl, h.0, h.1))
logged-traced world number host (e ∷ es) log final h =
    let rest = logged-traced h.0.world (number + 1) host es h.2 final h.5 in
    (h.0.text ++ rest.0, (h.0, h.1, rest.0, h.2, h.3, shows world number host e h.0 h.1 h.3, refl, h.4, rest.1))

pub traced-logged : (world : World) (number : ℕ) (host : List ℕ) (es : List Event) (text log : List ℕ) (final : World) → Traced world number host es text log final → Logged world number host es log final
traced-logged world number host [] text log final h = (h.1, h.2)
traced-logged world number host (e ∷ es) text log final h = (h.0, h.1, h.3, h.4, h.7, traced-logged h.0.world (number + 1) host es h.2 h.3 final h.8)

is_run : (world : World) (number : ℕ) (host : List ℕ) (e : Event) (line : Run) (log : List ℕ) → IsLogged world number host e line log → IsRun world number e line
is_run world number host (events.Raw at fresh bytes) line log is = is.0
is_run world number host _ line log is = (is.0, is.1)

-- what it printed is the transcript of a run
pub traced-run : (world : World) (number : ℕ) (host : List ℕ) (es : List Event) (text log : List ℕ) (final : World) → Traced world number host es text log final → Transcript world number es text final
traced-run world number host [] text log final h = (h.0, h.2)
traced-run world number host (e ∷ es) text log final h =
    (h.0, h.2, is_run world number host e h.0 h.1 h.4, h.6, traced-run h.0.world (number + 1) host es h.2 h.3 final h.8)
