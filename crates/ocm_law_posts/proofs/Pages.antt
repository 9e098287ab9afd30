-- The page with the discovery document is read as one reply, by which a search for a site ends.
use Rattle.std.proofs.Common.{ℕ, ◌+◌, ◌≤◌, ◌==◌, Bool, true, false, cond, List, [], ◌∷◌, length, None, Ok, codes, decimal, refl, sym, ap, arith, length-append, lit≤, lit<, All, true≢false}
use Rattle.std.specs.Fmt.{digits}
use Rattle.std.proofs.lemmas.Fmt.{length-decimal-le}
use Rattle.std.proofs.lemmas.List.Elements.{All-nil, All-cons}
use Rattle.std.proofs.lemmas.List.Sums.{AllPass-from_list_all}
use Rattle.httparse.specs.Grammar.{is_token_byte}
use Rattle.ocm_http_heads.specs.Endings.{lines}
use Rattle.ocm_http_heads.specs.declared.fields.Field.{Field}
use Rattle.ocm_http_heads.proofs.Heads.{lines-append}
use Rattle.ocm_http.specs.Written.{reply_head, written_reply}
use Rattle.ocm_http.specs.ReadBack.{IsGiven, IsWithinLimits, ReadsAs, reply_message}
use Rattle.ocm_http.specs.declared.messages.Kind.TheVariants.{Replies}
use Rattle.ocm_http.proofs.ReadReplies.{reply_is_read_back}
use Rattle.ocm_http.proofs.Values.{visible_clear}
use Rattle.ocm_dav_pages.specs.Fields.{content_type}
use Rattle.ocm_dav_pages.specs.Pages.{page, discovery_page, json}
use Rattle.ocm_dav_pages.specs.declared.shapes.Allow.TheVariants.{Discovery}
use Rattle.ocm_dav.specs.Shapes.{shape_of}
use Rattle.ocm_pump.specs.Delivery.{document_request}
use Rattle.ocm_law_posts.specs.Documents.{DocumentsAreFound}
use Rattle.ocm_http.specs.ReadBack.{request_message}
use Rattle.ocm_law_posts.proofs.EndPoints.{host-parts}
use Rattle.ocm_law_posts.proofs.Fitting.{host-short}
use Rattle.ocm_law_posts.proofs.Heads.{document-target, get-read}
use Rattle.ocm_law_posts.proofs.Documents.{document_text, document-short, document-home}

-- the one field of the page, beside the length and the end of the connection
abbrev pub fields : List Field
fields = content_type json ∷ []

given : All IsGiven fields
unfolding is_token_byte
given =
    let clear = visible_clear (codes "Content-Type") json (lit< tt, AllPass-from_list_all is_token_byte (codes "Content-Type") refl) refl in
    All-cons IsGiven (content_type json) [] (clear, refl) (All-nil IsGiven)

pub few-lines : (text : List ℕ) → lines text ≤ length text
few-lines [] = lit≤ tt
few-lines (b ∷ text) = by (b == 10) (few-lines text)
  where
    by : (t : Bool) → lines text ≤ length text → cond t 1 0 + lines text ≤ length (b ∷ text)
    by true h = omega arith
    by false h = omega arith

-- its head is within the limits
limits : (n : ℕ) → n ≤ 65536 → IsWithinLimits (reply_head 200 fields n true)
unfolding digits
limits n small =
    let few = length-decimal-le 5 n (lit≤ tt) (omega arith) (omega arith) in
    (simp length-append (omega (arith, few)), simp lines-append (omega (arith, few-lines (decimal n), few)))

pub document-reply : (body : List ℕ) → length body ≤ 65536 → ReadsAs Replies 33554432 (written_reply 200 fields body false true) (reply_message 200 fields body true)
document-reply body short =
    reply_is_read_back 200 fields body false true (lit< tt) 33554432 (lit≤ tt) given refl (λ none. absurd (true≢false (sym none))) (limits (length body) short) (omega (arith, short), omega (arith, short))

pub document-found : DocumentsAreFound
unfolding document_request discovery_page page
document-found config fresh is stands =
    let p = host-parts config.host is in
    let body = document_text config.host in
    record {
      message = request_message config.host (codes "GET") (codes "/.well-known/ocm") None [];
      read = get-read config.host (codes "/.well-known/ocm") is (host-short config.host p) document-target;
      page = discovery_page config.host (shape_of (codes "GET") true Discovery);
      wanted = refl;
      reply = reply_message 200 fields body true;
      replied = document-reply body (document-short config.host p) 0 true;
      found = ap Ok (document-home config.host is stands);
    }
