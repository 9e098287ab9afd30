-- The page of a reply to a letter tells its sender the answer that is under way.
use Rattle.std.proofs.Common.{◌≡◌, ℕ, ◌^◌, ◌<◌, ◌≤◌, Bool, true, false, cond, not, ◌&&◌, ◌==◌, nat_le, nat_lt, List, [], ◌∷◌, ◌++◌, length, Option, Some, None, Ok, IsUtf8, codes, decimal, refl, sym, ap, ◌∙◌, subst, arith, length-append, lit≤, lit<, All, leb-true, le-leb, true≢false}
use Rattle.std.specs.Fmt.{digits}
use Rattle.std.specs.List.{list_all}
use Rattle.std.specs.Char.{is_ascii_digit}
use Rattle.std.proofs.lemmas.Bool.{and_parts, and_from, or_parts, both_ways, not-true, ltb-true, cond_both}
use Rattle.std.proofs.lemmas.Bool.Decides.{nat_tests}
use Rattle.std.proofs.lemmas.Fmt.{length-decimal-le, decimal_nonempty, IsAscii-decimal}
use Rattle.std.proofs.lemmas.Str.{IsUtf8-from_ascii, IsUtf8-append}
use Rattle.std.proofs.lemmas.List.Elements.{All-nil, All-cons}
use Rattle.std.proofs.lemmas.List.Sums.{AllPass-from_list_all}
use Rattle.httparse.specs.Grammar.{is_token_byte, is_value_byte, trim_ows}
use Rattle.json.proofs.Printed.Utf8.{are_ascii, IsUtf8-are_ascii}
use Rattle.serde_json.specs.Data.{Data, object, no_members}
use Rattle.serde_json.specs.Written.{compact_text}
use Rattle.ocm_limits.specs.Limits.{most_reply_bytes}
use Rattle.ocm_types.specs.Texts.{has_length, is_allowed, is_provider_id}
use Rattle.ocm_types.specs.declared.letters.Letter.{Letter}
use Rattle.ocm_types.specs.declared.letters.Letter.TheVariants as letters
use Rattle.ocm_entry.specs.Refusals.{status_of, message_of}
use Rattle.ocm_entry.specs.declared.refusals.AddressField.TheVariants as places
use Rattle.ocm_entry.specs.declared.refusals.Why.{Why}
use Rattle.ocm_entry.specs.declared.refusals.Why.TheVariants.{Unauthorized, NotPermitted, RootStays, UnknownShare, ShareClosed, NotFound, NotAllowed, ParentMissing, WrongPhase, UserExists, Collision, BodyRefused, Limit, SenderIdReused, NotOurHost, UnknownUser, OwnHost, SamePlace, Occupied}
use Rattle.ocm_entry.specs.declared.replies.Reply.{Reply}
use Rattle.ocm_entry.specs.declared.replies.Reply.TheVariants as replies
use Rattle.ocm_http_heads.specs.Endings.{lines}
use Rattle.ocm_http_heads.specs.declared.fields.Field.{Field}
use Rattle.ocm_http_heads.proofs.Heads.{lines-append}
use Rattle.ocm_http.specs.declared.messages.Kind.TheVariants.{Replies}
use Rattle.ocm_http.specs.Written.{line_end, with_fields, with_length, with_close, status_line, reply_head, written_reply, fixed}
use Rattle.ocm_http.specs.ReadBack.{ReadsAs, IsGiven, IsWithinLimits, has_no_body, reply_message}
use Rattle.ocm_http.specs.declared.writing.Fixed.TheVariants.{NoMemory}
use Rattle.ocm_http.proofs.ReadReplies.{reply_is_read_back, fixed_are_written}
use Rattle.ocm_http.proofs.Values.{all_pass, visible_clear, decimal_digits}
use Rattle.ocm_records.specs.Rows.{record_of}
use Rattle.ocm_records.specs.Written.{error_data}
use Rattle.ocm_records.proofs.ReadBack.{fits as few_bytes, record_again}
use Rattle.ocm_dav_pages.specs.Bodies.{one_text}
use Rattle.ocm_dav_pages.specs.Errors.{plain, noted, about, refused_field, refusal}
use Rattle.ocm_dav_pages.specs.Fields.{content_type, challenge, allowed, status_fields}
use Rattle.ocm_dav_pages.specs.Pages.{json, page, page_of, message_page}
use Rattle.ocm_dav_pages.specs.declared.shapes.Allow.TheVariants.{Post}
use Rattle.ocm_pump.specs.Delivery.{answer_of, asks_share, child, with_child}
use Rattle.ocm_rules.specs.Settlements.{is_success}
use Rattle.ocm_entry.specs.Deliveries.{delivered_id, delivered_status}
use Rattle.ocm_law_posts.specs.Answers.{is_offer, Tells, AnswersAreTold}
use Rattle.ocm_law_posts.proofs.Spelled.{text-short, text-read}
use Rattle.ocm_law_posts.proofs.Fitting.{Fits, text-few, string-fits, literal-fits, object-fits, array-fits, nothing-fits, member-fits, item-fits, no_items-fit, roomy}
use Rattle.ocm_law_posts.proofs.Pages.{few-lines}

-- ---- heads

-- the fields of a page with a JSON value, by its status
abbrev fields : ℕ → List Field
fields status = content_type json ∷ status_fields status Post

-- the head up to its length
abbrev front : ℕ → List ℕ
front status = with_fields (status_line status) (fields status)

-- whether a page with a status can be read: it is final, it may have a body, and its head is short
abbrev is_usable : ℕ → Bool
is_usable status = nat_le 200 status && nat_lt status 1000 && not (has_no_body status) && nat_le (length (front status)) 2000 && nat_le (lines (front status)) 20

given-type : IsGiven (content_type json)
unfolding is_token_byte
given-type = (visible_clear (codes "Content-Type") json (lit< tt, AllPass-from_list_all is_token_byte (codes "Content-Type") refl) refl, refl)

given-allowed : IsGiven (allowed Post)
unfolding is_token_byte allowed
given-allowed = (visible_clear (codes "Allow") (codes "POST") (lit< tt, AllPass-from_list_all is_token_byte (codes "Allow") refl) refl, refl)

given-challenge : IsGiven challenge
unfolding is_token_byte challenge trim_ows
given-challenge = (
  record {
    name = (lit< tt, AllPass-from_list_all is_token_byte (codes "WWW-Authenticate") refl);
    value = AllPass-from_list_all is_value_byte (codes "Basic realm=\"ocm\"") refl;
    trimmed = refl;
  },
  refl,
)

given : (status : ℕ) → All IsGiven (fields status)
given status =
    All-cons IsGiven (content_type json) (status_fields status Post) given-type
    (cond_both (status == 401) (challenge ∷ []) (cond (status == 405) (allowed Post ∷ []) []) (All IsGiven)
    (λ e. All-cons IsGiven challenge [] given-challenge (All-nil IsGiven))
    (λ e. cond_both (status == 405) (allowed Post ∷ []) [] (All IsGiven) (λ f. All-cons IsGiven (allowed Post) [] given-allowed (All-nil IsGiven)) (λ f. All-nil IsGiven)))

-- what ends such a head
abbrev ending : List ℕ → ℕ → List ℕ
ending text n = with_close (with_length text n) ++ line_end

within : (text : List ℕ) (n : ℕ) → length text ≤ 2000 → lines text ≤ 20 → n ≤ 65536 → IsWithinLimits (ending text n)
within text n short few small =
    let digits = length-decimal-le 5 n (lit≤ tt) (omega arith) (omega arith) in
    (simp length-append (omega (arith, short, digits)), simp lines-append (omega (arith, few, few-lines (decimal n), digits)))

page-read : (status : ℕ) (body : List ℕ) → is_usable status ≡ true → length body ≤ 65536
    → ReadsAs Replies most_reply_bytes (written_reply status (fields status) body false true) (reply_message status (fields status) body true)
page-read status body usable short =
    let a = and_parts (nat_le 200 status && nat_lt status 1000 && not (has_no_body status) && nat_le (length (front status)) 2000) (nat_le (lines (front status)) 20) usable in
    let b = and_parts (nat_le 200 status && nat_lt status 1000 && not (has_no_body status)) (nat_le (length (front status)) 2000) a.0 in
    let c = and_parts (nat_le 200 status && nat_lt status 1000) (not (has_no_body status)) b.0 in
    let d = and_parts (nat_le 200 status) (nat_lt status 1000) c.0 in
    let bodied : has_no_body status ≡ false = not-true (has_no_body status) c.1 in
    let counted : (status == 204) ≡ false = (or_parts (status == 204) (status == 304) bodied).0 in
    let head : reply_head status (fields status) (length body) true ≡ ending (front status) (length body) =
    ap (λ t. with_close (cond t (front status) (with_length (front status) (length body))) ++ line_end) counted in
    let limits = subst IsWithinLimits (sym head) (within (front status) (length body) (leb-true (length (front status)) 2000 b.1) (leb-true (lines (front status)) 20 a.1) short) in
    reply_is_read_back status (fields status) body false true (ltb-true status 1000 d.1) 33554432 (leb-true 200 status d.0) (given status) refl (λ none. absurd (both_ways (has_no_body status) bodied none)) limits (omega (arith, short), omega (arith, short))

-- ---- bodies

body-short : (d : Data) → Fits d 65536 → length (compact_text d) ≤ 65536
body-short d h = omega (arith, text-short d h.spelled, h.few)

plain-fits : (message : List ℕ) → IsUtf8 message → length message ≤ 64 → Fits (error_data (plain message)) 65536
plain-fits message utf8 short = roomy 65536 (lit≤ tt) (object-fits (member-fits (codes "message") refl (string-fits 64 utf8 short) nothing-fits))

noted-fits : (reason name : List ℕ) → IsUtf8 reason → length reason ≤ 64 → are_ascii name ≡ true → length name ≤ 64 → Fits (error_data (noted reason name)) 65536
noted-fits reason name utf8 short ascii few =
    let note = object-fits (member-fits (codes "message") refl (string-fits 64 utf8 short) (member-fits (codes "name") refl (string-fits 64 (IsUtf8-are_ascii name ascii) few) nothing-fits)) in
    roomy 65536 (lit≤ tt)
    (object-fits
    (member-fits (codes "message") refl (literal-fits (codes "bad request") refl)
    (member-fits (codes "validationErrors") refl (array-fits (item-fits note no_items-fit)) nothing-fits)))

-- a field that is named by few letters
abbrev IsNamed : Option (List ℕ) → Type 0
IsNamed None = Unit {0}
IsNamed (Some name) = (are_ascii name ≡ true) × (length name ≤ 64)

about-fits : (reason : List ℕ) (o : Option (List ℕ)) → IsUtf8 reason → length reason ≤ 64 → IsNamed o → Fits (error_data (about reason o)) 65536
about-fits reason None utf8 short named = plain-fits reason utf8 short
about-fits reason (Some name) utf8 short named = noted-fits reason name utf8 short named.0 named.1

-- words and a number behind them
count-fits : (words : List ℕ) (n : ℕ) → are_ascii words ≡ true → length words ≤ 32 → n < 2 ^ 64 → Fits (error_data (plain (words ++ decimal n))) 65536
count-fits words n ascii short fits =
    let digits = length-decimal-le 20 n (lit≤ tt) (omega arith) fits in
    plain-fits (words ++ decimal n) (IsUtf8-append words (decimal n) (IsUtf8-are_ascii words ascii) (IsUtf8-from_ascii (decimal n) (IsAscii-decimal n fits))) (omega (arith, length-append words (decimal n), digits, short))

-- ---- refusals

record Refuses (why : Why) : Type 0 where
  pub usable : is_usable (status_of why) ≡ true
  pub fails : is_success (status_of why) ≡ false
  pub ascii : are_ascii (message_of why) ≡ true
  pub short : length (message_of why) ≤ 64
  pub named : IsNamed (refused_field why)

refuses : (why : Why) → Refuses why
unfolding digits challenge allowed
refuses Unauthorized = record { usable = refl; fails = refl; ascii = refl; short = lit≤ tt; named = tt }
refuses NotPermitted = record { usable = refl; fails = refl; ascii = refl; short = lit≤ tt; named = tt }
refuses RootStays = record { usable = refl; fails = refl; ascii = refl; short = lit≤ tt; named = tt }
refuses UnknownShare = record { usable = refl; fails = refl; ascii = refl; short = lit≤ tt; named = tt }
refuses ShareClosed = record { usable = refl; fails = refl; ascii = refl; short = lit≤ tt; named = tt }
refuses NotFound = record { usable = refl; fails = refl; ascii = refl; short = lit≤ tt; named = tt }
refuses NotAllowed = record { usable = refl; fails = refl; ascii = refl; short = lit≤ tt; named = tt }
refuses ParentMissing = record { usable = refl; fails = refl; ascii = refl; short = lit≤ tt; named = tt }
refuses WrongPhase = record { usable = refl; fails = refl; ascii = refl; short = lit≤ tt; named = tt }
refuses UserExists = record { usable = refl; fails = refl; ascii = refl; short = lit≤ tt; named = tt }
refuses Collision = record { usable = refl; fails = refl; ascii = refl; short = lit≤ tt; named = tt }
refuses BodyRefused = record { usable = refl; fails = refl; ascii = refl; short = lit≤ tt; named = tt }
refuses (Limit which) = record { usable = refl; fails = refl; ascii = refl; short = lit≤ tt; named = tt }
refuses SenderIdReused = record { usable = refl; fails = refl; ascii = refl; short = lit≤ tt; named = tt }
refuses NotOurHost = record { usable = refl; fails = refl; ascii = refl; short = lit≤ tt; named = (refl, lit≤ tt) }
refuses UnknownUser = record { usable = refl; fails = refl; ascii = refl; short = lit≤ tt; named = (refl, lit≤ tt) }
refuses (OwnHost places.ShareWith) = record { usable = refl; fails = refl; ascii = refl; short = lit≤ tt; named = (refl, lit≤ tt) }
refuses (OwnHost places.Owner) = record { usable = refl; fails = refl; ascii = refl; short = lit≤ tt; named = (refl, lit≤ tt) }
refuses SamePlace = record { usable = refl; fails = refl; ascii = refl; short = lit≤ tt; named = tt }
refuses Occupied = record { usable = refl; fails = refl; ascii = refl; short = lit≤ tt; named = tt }

usable-201 : is_usable 201 ≡ true
unfolding digits
usable-201 = refl

usable-503 : is_usable 503 ≡ true
unfolding digits
usable-503 = refl

usable-507 : is_usable 507 ≡ true
unfolding digits
usable-507 = refl

-- ---- what is told

neither : (b : Bool) → (b && false) ≡ false
neither true = refl
neither false = refl

told-failure : (letter : Letter) (status : ℕ) (body : List ℕ) → is_success status ≡ false → answer_of letter status body ≡ Ok (record { status = status; id = None })
told-failure letter status body fails =
    ap (λ b. cond (asks_share letter && b) (with_child status (record_of child body)) (Ok (record { status = status; id = None }))) fails
    ∙ ap (λ b. cond b (with_child status (record_of child body)) (Ok (record { status = status; id = None }))) (neither (asks_share letter))

told-taken : (letter : Letter) (body : List ℕ) → asks_share letter ≡ false → answer_of letter 201 body ≡ Ok (record { status = 201; id = None })
told-taken letter body other = ap (λ b. cond (b && true) (with_child 201 (record_of child body)) (Ok (record { status = 201; id = None }))) other

told-child : (letter : Letter) (body id : List ℕ) → asks_share letter ≡ true → record_of child body ≡ Ok id → answer_of letter 201 body ≡ Ok (record { status = 201; id = Some id })
told-child letter body id asks read =
    ap (λ b. cond (b && true) (with_child 201 (record_of child body)) (Ok (record { status = 201; id = None }))) asks ∙ ap (with_child 201) read

-- ---- pages

told-by : (letter : Letter) (reply : Reply) (status : ℕ) (value : Data) → is_usable status ≡ true → Fits value 65536
    → answer_of letter status (compact_text value) ≡ Ok (record { status = delivered_status reply; id = delivered_id reply })
    → Tells letter reply (written_reply status (fields status) (compact_text value) false true)
told-by letter reply status value usable h told = record {
  message = reply_message status (fields status) (compact_text value) true;
  read = page-read status (compact_text value) usable (body-short value h);
  told = told;
}

-- a page without memory
memory-limits : IsWithinLimits (reply_head 500 [] 0 true)
unfolding digits
memory-limits = (lit≤ tt, lit≤ tt)

told-no_memory : (letter : Letter) → Tells letter replies.NoMemory (fixed NoMemory)
told-no_memory letter = record {
  message = reply_message 500 [] [] true;
  read = subst (λ (l : List ℕ). ReadsAs Replies most_reply_bytes l (reply_message 500 [] [] true)) (sym (fixed_are_written NoMemory))
      (reply_is_read_back 500 [] [] false true (lit< tt) 33554432 (lit≤ tt) (All-nil IsGiven) refl (λ none. refl) memory-limits (lit≤ tt, lit< tt));
  told = told-failure letter 500 [] refl;
}

recipient-fits : (user : List ℕ) → IsUtf8 user → length user ≤ 64 → Fits (one_text (codes "recipientDisplayName") user) 65536
recipient-fits user utf8 short = roomy 65536 (lit≤ tt) (object-fits (member-fits (codes "recipientDisplayName") refl (string-fits 64 utf8 short) nothing-fits))

offer-asks : (letter : Letter) → is_offer letter ≡ true → asks_share letter ≡ false
offer-asks (letters.Offer o) is = refl
offer-asks (letters.Notice n) is = absurd (true≢false (sym is))

-- ---- the id of a further share

abbrev child_data : ℕ → Data
child_data id = one_text (codes "providerId") (decimal id)

child-fits : (id : ℕ) → id < 2 ^ 32 → Fits (child_data id) 65536
child-fits id small =
    let wide : id < 2 ^ 64 = omega (arith, small) in
    let short = length-decimal-le 20 id (lit≤ tt) (omega arith) wide in
    roomy 65536 (lit≤ tt) (object-fits (member-fits (codes "providerId") refl (string-fits 20 (IsUtf8-from_ascii (decimal id) (IsAscii-decimal id wide)) short) nothing-fits))

digit-allowed : (b : ℕ) → is_ascii_digit b ≡ true → is_allowed None b ≡ true
digit-allowed b h = grind (arith, nat_tests)

id-is : (id : ℕ) → id < 2 ^ 32 → is_provider_id (decimal id) ≡ true
id-is id small =
    let wide : id < 2 ^ 64 = omega (arith, small) in
    let some = decimal_nonempty id wide in
    let short = length-decimal-le 20 id (lit≤ tt) (omega arith) wide in
    let low : nat_le 1 (length (decimal id)) ≡ true = le-leb 1 (length (decimal id)) (omega arith) in
    let high : nat_le (length (decimal id)) 255 ≡ true = le-leb (length (decimal id)) 255 (omega arith) in
    and_from (has_length 1 255 (decimal id)) (list_all (is_allowed None) (decimal id)) (and_from _ _ low high) (all_pass is_ascii_digit (is_allowed None) digit-allowed (decimal id) (decimal_digits id wide))

child-again : (id : List ℕ) → is_provider_id id ≡ true → child (one_text (codes "providerId") id) ≡ Ok id
unfolding child
child-again id is = rw (few_bytes 255 None id is (lit≤ tt), is) refl

child-read : (id : ℕ) → id < 2 ^ 32 → record_of child (compact_text (child_data id)) ≡ Ok (decimal id)
child-read id small =
    let d = child_data id in
    record_again child (compact_text d) d (text-read d (child-fits id small).spelled refl (lit≤ tt)) refl ∙ child-again (decimal id) (id-is id small)

-- ---- the law

pub answers-told : AnswersAreTold
unfolding page_of page message_page
answers-told letter (replies.Recipient user) may sound =
    let value = one_text (codes "recipientDisplayName") user in
    told-by letter (replies.Recipient user) 201 value usable-201 (recipient-fits user sound.1 (text-few 64 (Some 47) user sound.0)) (told-taken letter (compact_text value) (offer-asks letter may))
answers-told letter replies.Noticed may sound =
    told-by letter replies.Noticed 201 (object no_members) usable-201 (roomy 65536 (lit≤ tt) (object-fits nothing-fits)) (told-taken letter (compact_text (object no_members)) (not-true (asks_share letter) may))
answers-told letter (replies.Child id) may sound =
    told-by letter (replies.Child id) 201 (child_data id) usable-201 (child-fits id sound) (told-child letter (compact_text (child_data id)) (decimal id) may (child-read id sound))
answers-told letter (replies.Refused why) may sound =
    let r = refuses why in
    let value = error_data (refusal why) in
    let h = about-fits (message_of why) (refused_field why) (IsUtf8-are_ascii (message_of why) r.ascii) r.short r.named in
    told-by letter (replies.Refused why) (status_of why) value r.usable h (told-failure letter (status_of why) (compact_text value) r.fails)
answers-told letter replies.JournalFull may sound =
    let value = error_data (plain (codes "journal full")) in
    told-by letter replies.JournalFull 507 value usable-507 (plain-fits (codes "journal full") (IsUtf8-are_ascii (codes "journal full") refl) (lit≤ tt)) (told-failure letter 507 (compact_text value) refl)
answers-told letter replies.NoMemory may sound = told-no_memory letter
answers-told letter (replies.DiskFault count) may sound =
    let value = error_data (plain (codes "disk fault " ++ decimal count)) in
    told-by letter (replies.DiskFault count) 503 value usable-503 (count-fits (codes "disk fault ") count refl (lit≤ tt) sound) (told-failure letter 503 (compact_text value) refl)
answers-told letter (replies.Stopped count) may sound =
    let value = error_data (plain (codes "stopped " ++ decimal count)) in
    told-by letter (replies.Stopped count) 503 value usable-503 (count-fits (codes "stopped ") count refl (lit≤ tt) sound) (told-failure letter 503 (compact_text value) refl)
answers-told letter _ may sound = absurd (true≢false (sym may))
