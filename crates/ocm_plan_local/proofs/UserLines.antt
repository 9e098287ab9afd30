use Rattle.std.proofs.Common.{◌≡◌, ℕ, zero, suc, ◌+◌, ◌<◌, List, [], ◌∷◌, ◌++◌, length, map, take, get_or, Bool, true, false, Option, Some, None, refl, sym, ap, ◌∙◌, nat_eq, if◌then◌else◌, append-nil, append_assoc}
use Rattle.std.specs.Prelude.{cond, filter, filter_map, option_and_then, option_map, option_to_list}
use Rattle.std.specs.List.{cons_option, range_with_len}
use Rattle.std.specs.Option.{option_map_or}
use Rattle.std.proofs.lemmas.List.{length-map, take_more}
use Rattle.std.proofs.lemmas.List.Elements.{filter_map-append}
use Rattle.std.proofs.lemmas.Option.{slice_get-map}
use Rattle.ocm_types.specs.declared.letters.Offer.{Offer}
use Rattle.ocm_types.specs.declared.phases.Phase.TheVariants.{Pending}
use Rattle.ocm_types.specs.declared.phases.RequestPhase.TheVariants.{Asked}
use Rattle.ocm_types.specs.declared.rights.Rights.{Rights}
use Rattle.ocm_entry.specs.declared.listings.Line.{Line}
use Rattle.ocm_entry.specs.declared.listings.Line.TheVariants as lines
use Rattle.ocm_entry.specs.declared.rows.Share.{Share}
use Rattle.ocm_entry.specs.declared.rows.Request.{Request}
use Rattle.ocm_incoming.specs.declared.rows.Record.{Record}
use Rattle.ocm_rules.specs.declared.rows.ReceivedRow.{ReceivedRow}
use Rattle.ocm_rules.specs.Answers.{lines_of, record_line, request_line, share_line}
use Rattle.ocm_rules.specs.Numbers.{at_number, numbers, same_text}
use Rattle.ocm_rules.specs.Requests.{Reshare}
use Rattle.ocm_rules.specs.State.{State, asked_in, view_in}
use Rattle.ocm_rules.specs.Users.{name_of}
use Rattle.ocm_rules.specs.Views.{record_of_user, request_of_user, share_of_owner}
use Rattle.ocm_tables.specs.Tables.{is_offer_for, is_request_for, record_in}
use Rattle.ocm_plan_local.specs.Told.{record_told, request_told, share_told, told_offer}

-- the one of a number, of a list whose items are changed
at_number-map : {X Y : Type 0} (f : X → Y) (xs : List X) (n : ℕ) → at_number (map f xs) n ≡ option_map f (at_number xs n)
at_number-map f xs zero = refl
at_number-map f xs (suc i) = slice_get-map f xs i

-- ---- one line more

cons_option-none : {Y : Type 0} (o : Option Y) → cons_option o [] ≡ option_to_list o
cons_option-none None = refl
cons_option-none (Some y) = refl

filter_map-more : {X Y : Type 0} (h : X → Option Y) (xs : List X) (i : ℕ) (d : X) → i < length xs → filter_map h (take (i + 1) xs) ≡ filter_map h (take i xs) ++ option_to_list (h (get_or xs i d))
filter_map-more h xs i d below = rw (take_more xs i d below, filter_map-append h (take i xs) (get_or xs i d ∷ []), cons_option-none (h (get_or xs i d))) refl

-- the lines so far, and one more
pub lines-more : (told : ℕ → Option Line) (ids : List ℕ) (i : ℕ) (before so_far more : List Line) → i < length ids → so_far ≡ before ++ filter_map told (take i ids) → more ≡ so_far ++ option_to_list (told (get_or ids i 0))
    → more ≡ before ++ filter_map told (take (i + 1) ids)
lines-more told ids i before so_far more below old new =
    rw (new, old, filter_map-more told ids i 0 below) (append_assoc before (filter_map told (take i ids)) (option_to_list (told (get_or ids i 0))))

-- ---- those of a user among all

kept-line : {X Y : Type 0} (b : Bool) (f : X → Option Y) (x : X) (rest : List X) (o : Option Y) (ys : List Y) → (if b then f x else None) ≡ o → filter_map f rest ≡ ys → filter_map f (cond b (x ∷ rest) rest) ≡ cons_option o ys
kept-line true f x rest o ys e r = rw (← e, ← r) refl
kept-line false f x rest o ys e r = rw (← e) r

-- what those that pass tell is what a function tells that tells nothing of the others
filtered-lines : {X Y : Type 0} (p : X → Bool) (f g : X → Option Y) (xs : List X) → ((x : X) → (if p x then f x else None) ≡ g x) → filter_map f (filter p xs) ≡ filter_map g xs
filtered-lines p f g [] same = refl
filtered-lines p f g (x ∷ xs) same = kept-line (p x) f x (filter p xs) (g x) (filter_map g xs) (same x) (filtered-lines p f g xs same)

some-line : {X Y : Type 0} (b : Bool) (line : X → Y) (x : X) → (if b then Some (line x) else None) ≡ option_map line (if b then Some x else None)
some-line true line x = refl
some-line false line x = refl

passing-line : {X Y : Type 0} (q : X → Bool) (line : X → Y) (o : Option X) → (if option_map_or q o false then option_map line o else None) ≡ option_map line (option_and_then (λ x. if q x then Some x else None) o)
passing-line q line None = refl
passing-line q line (Some x) = some-line (q x) line x

-- the lines of a user's shares
pub shares-told : (st : State) (user : ℕ) (ids : List ℕ) → ids ≡ filter (λ id. option_map_or (λ (share : Share). nat_eq share.owner user) (at_number (view_in st).shares id) false) (numbers (view_in st).shares)
    → filter_map (share_told st) ids ≡ lines_of (share_of_owner (view_in st) user) (share_line (view_in st)) (numbers (view_in st).shares)
shares-told st user ids found =
    ap (λ (list : List ℕ). filter_map (share_told st) list) found
    ∙ filtered-lines (λ id. option_map_or (λ (share : Share). nat_eq share.owner user) (at_number (view_in st).shares id) false) (share_told st) (λ id. option_map (share_line (view_in st) id) (share_of_owner (view_in st) user id)) (numbers (view_in st).shares)
    (λ id. passing-line (λ (share : Share). nat_eq share.owner user) (share_line (view_in st) id) (at_number (view_in st).shares id))

-- of the offers that a user received
pub records-told : (st : State) (user : ℕ) (name : List ℕ) (ns : List ℕ) → name ≡ name_of st.users user → ns ≡ filter (is_offer_for (view_in st).offers name) (numbers (view_in st).offers)
    → filter_map (record_told st) ns ≡ lines_of (record_of_user (view_in st) user) (record_line (view_in st)) (numbers (view_in st).offers)
records-told st user name ns named found =
    let test : List ℕ → Offer → Bool = λ text offer. same_text offer.with.user text in
    ap (λ (list : List ℕ). filter_map (record_told st) list) (found ∙ ap (λ (text : List ℕ). filter (is_offer_for (view_in st).offers text) (numbers (view_in st).offers)) named)
    ∙ filtered-lines (is_offer_for (view_in st).offers (name_of st.users user)) (record_told st) (λ n. option_map (record_line (view_in st) n) (record_of_user (view_in st) user n)) (numbers (view_in st).offers)
    (λ n. passing-line (test (name_of st.users user)) (record_line (view_in st) n) (at_number (view_in st).offers n))

-- ---- requests

if-same : {Y : Type 0} (b : Bool) (offer : Offer) (request : Reshare) (line : Reshare → Y) → (if b then Some (line request) else None) ≡ option_map line (option_map (λ (o : Offer). request) (if b then Some offer else None))
if-same true offer request line = refl
if-same false offer request line = refl

asked-line : {Y : Type 0} (q : Offer → Bool) (o : Option Offer) (request : Reshare) (line : Reshare → Y)
    → (if option_map_or q o false then Some (line request) else None) ≡ option_map line (option_map (λ (offer : Offer). request) (option_and_then (λ offer. if q offer then Some offer else None) o))
asked-line q None request line = refl
asked-line q (Some offer) request line = if-same (q offer) offer request line

row-line : (st : State) (user r : ℕ) (o : Option Request)
    → (if option_map_or (λ (request : Request). is_offer_for (view_in st).offers (name_of st.users user) request.received) o false then option_map (λ (request : Request). lines.Request r request.received request.with request.perms request.state) o else None)
    ≡ option_map (λ (request : Reshare). lines.Request r request.received request.with request.perms (option_map_or (λ (row : Request). row.state) o Asked))
    (option_and_then (λ (request : Reshare). option_map (λ (offer : Offer). request) (record_of_user (view_in st) user request.received)) (option_map asked_in o))
row-line st user r None = refl
row-line st user r (Some row) =
    let test : Offer → Bool = λ offer. same_text offer.with.user (name_of st.users user) in
    asked-line test (at_number (view_in st).offers row.received) (asked_in row) (λ (request : Reshare). lines.Request r request.received request.with request.perms row.state)

-- of the requests of a user
pub requests-told : (st : State) (user : ℕ) (name : List ℕ) (rs : List ℕ) → name ≡ name_of st.users user → rs ≡ filter (is_request_for (view_in st).offers st.requests name) (numbers st.requests)
    → filter_map (request_told st) rs ≡ lines_of (request_of_user (view_in st) user) (request_line (view_in st)) (numbers (view_in st).requests)
requests-told st user name rs named found =
    let v = view_in st in
    let line : ℕ → Option Reshare → Option Line = λ r o. option_map (request_line v r) (option_and_then (λ (request : Reshare). option_map (λ (offer : Offer). request) (record_of_user v user request.received)) o) in
    ap (λ (list : List ℕ). filter_map (request_told st) list) (found ∙ ap (λ (text : List ℕ). filter (is_request_for v.offers st.requests text) (numbers st.requests)) named)
    ∙ filtered-lines (is_request_for v.offers st.requests (name_of st.users user)) (request_told st) (λ r. line r (at_number v.requests r)) (numbers st.requests)
    (λ r. row-line st user r (at_number st.requests r) ∙ ap (line r) (sym (at_number-map asked_in st.requests r)))
    ∙ ap (λ (ns : List ℕ). filter_map (λ r. line r (at_number v.requests r)) ns) (numbers-map st.requests)
  where
    numbers-map : (rows : List Request) → numbers rows ≡ numbers (map asked_in rows)
    numbers-map rows = ap (λ n. range_with_len 1 n) (sym (length-map rows asked_in))

-- ---- what a line says

row-told : (n : ℕ) (o : Option ReceivedRow) (received : Record) (perms : Rights) → option_map record_in o ≡ Some received
    → option_map (λ (offer : Offer). lines.Received n (told_offer offer perms) (option_map_or (λ (row : ReceivedRow). row.phase) o Pending)) (option_map (λ (row : ReceivedRow). row.offer) o) ≡ Some (lines.Received n (told_offer received.offer perms) received.phase)
row-told n None received perms e = absurd (cc)
row-told n (Some row) received perms e =
    let same : record_in row ≡ received = cc in
    ap (λ (r : Record). Some (lines.Received n (told_offer r.offer perms) r.phase)) same

-- the line of a received offer that is there
pub record-told : (st : State) (n : ℕ) (received : Record) (perms : Rights) → option_map record_in (at_number st.received n) ≡ Some received → perms ≡ ((view_in st).told n).perms
    → record_told st n ≡ Some (lines.Received n (told_offer received.offer perms) received.phase)
record-told st n received perms there told =
    let line : Offer → Line = λ offer. lines.Received n (told_offer offer ((view_in st).told n).perms) ((view_in st).phase n) in
    ap (λ (o : Option Offer). option_map line o) (at_number-map (λ (row : ReceivedRow). row.offer) st.received n)
    ∙ row-told n (at_number st.received n) received ((view_in st).told n).perms there
    ∙ ap (λ (rights : Rights). Some (lines.Received n (told_offer received.offer rights) received.phase)) (sym told)

no-row : (n : ℕ) (line : Offer → Line) (o : Option ReceivedRow) → option_map record_in o ≡ None → option_map line (option_map (λ (row : ReceivedRow). row.offer) o) ≡ None
no-row n line None e = refl
no-row n line (Some row) e = absurd (cc)

-- and of one that isn't
pub record-not_told : (st : State) (n : ℕ) → option_map record_in (at_number st.received n) ≡ None → record_told st n ≡ None
record-not_told st n absent =
    ap (λ (o : Option Offer). option_map (record_line (view_in st) n) o) (at_number-map (λ (row : ReceivedRow). row.offer) st.received n)
    ∙ no-row n (record_line (view_in st) n) (at_number st.received n) absent

-- ---- what is added

pub line-added : (before after : List Line) (line same : Line) (told : Option Line) → after ≡ before ++ line ∷ [] → line ≡ same → told ≡ Some same → after ≡ before ++ option_to_list told
line-added before after line same told e f g = rw (e, f, g) refl

pub none-added : (before : List Line) (told : Option Line) → told ≡ None → before ≡ before ++ option_to_list told
none-added before told e = rw e (sym (append-nil before))

-- the lines of three lists
pub all-added : (none one two three a b c d e f : List Line) → none ≡ [] → one ≡ none ++ a → two ≡ one ++ b → three ≡ two ++ c → a ≡ d → b ≡ e → c ≡ f → three ≡ d ++ e ++ f
all-added none one two three a b c d e f p q r s t u v = rw (s, r, q, p, t, u, v) refl
