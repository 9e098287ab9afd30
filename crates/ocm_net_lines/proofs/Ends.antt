-- What a head announces that stands at the front of bytes.
use Rattle.std.proofs.Common.{◌≡◌, ℕ, ◌≤◌, ◌==◌, List, [], ◌∷◌, length, take, drop, Bool, true, Option, Some, None, Result, Ok, Err, refl, sym, ap, ◌∙◌, subst, arith}
use Rattle.std.specs.Prelude.{is_err, option_map}
use Rattle.std.specs.Result.{result_ok}
use Rattle.std.proofs.lemmas.List.{length-take-le}
use Rattle.ocm_limits.specs.Limits.{most_body_bytes}
use Rattle.ocm_http_heads.specs.declared.endings.Found.{Found}
use Rattle.ocm_http_heads.specs.declared.endings.Found.TheVariants as finds
use Rattle.ocm_http_heads.specs.declared.endings.Look.{Look}
use Rattle.ocm_http_heads.specs.declared.fields.Field.{Field}
use Rattle.ocm_http_heads.specs.declared.fields.Head.{Head}
use Rattle.ocm_http_heads.specs.declared.fields.Head.TheVariants.{Request, Reply}
use Rattle.ocm_http_heads.specs.declared.lengths.Length.{Length}
use Rattle.ocm_http_heads.specs.declared.lengths.LengthFault.{LengthFault}
use Rattle.ocm_http_heads.specs.Endings.{found, of_head, blanks}
use Rattle.ocm_http_heads.specs.Lengths.{request_length}
use Rattle.ocm_http_heads.proofs.Looks.{whole_within}
use Rattle.ocm_http.specs.Messages.{length_of}
use Rattle.ocm_http.specs.ReadHeads.{HeadState}
use Rattle.ocm_http.specs.Fronts.{FrontTo, IsRefused}
use Rattle.ocm_http.specs.declared.fronts.Front.TheVariants as fronts
use Rattle.ocm_net_lines.specs.Bodies.{AnnouncesTo, announced, announced_with}

blanks_within : (text : List ℕ) → blanks text ≤ length text
blanks_within [] = omega arith
blanks_within (b ∷ text) =
    let rest : blanks text ≤ length text = blanks_within text in
    grind arith

-- where a head lies in the bytes at whose front it stands
pub record Lies (bytes : List ℕ) (h : HeadState) : Type 0 where
  pub within : h.size ≤ length bytes
  pub skips : h.skipped ≤ length (take h.size bytes)

pub lies : (f : Found) (bytes : List ℕ) (h : HeadState) → found of_head bytes ≡ f → FrontTo f bytes (fronts.Whole h) → Lies bytes h
lies (finds.Whole n) bytes h at is =
    let inside : n ≤ length bytes = (whole_within of_head bytes n at).length in
    let size : length (take n bytes) ≡ n = length-take-le n bytes inside in
    let blank : blanks (take n bytes) ≤ length (take n bytes) = blanks_within (take n bytes) in
    let all = is.size in
    let skipped = is.skipped in
    let within : h.size ≤ length bytes = omega arith in
    let whole : length (take h.size bytes) ≡ h.size = length-take-le h.size bytes within in
    record { within = within; skips = omega arith }
lies (finds.TooLong bare) bytes h at is = cc
lies finds.Unfinished bytes h at is = cc

known_length : (text : List ℕ) (fields : List Field) (all : Bool) (r : Result Length LengthFault) (body : Length) → r ≡ Ok body → Some (announced_with text fields all body) ≡ option_map (announced_with text fields all) (result_ok r)
known_length text fields all r body e = rw e refl

pub announces_whole : (f : Found) (bytes : List ℕ) (h : HeadState) (method target : List ℕ) (closing : Bool) (fields : List Field) (text : List ℕ) (all : Bool) → found of_head bytes ≡ f
    → FrontTo f bytes (fronts.Whole h) → h.head ≡ Request method target closing fields → text ≡ drop h.skipped (take h.size bytes) → all ≡ (length (take h.size bytes) == length bytes)
    → AnnouncesTo f bytes (Some (announced_with text fields all h.body))
announces_whole (finds.Whole n) bytes h method target closing fields text all at is request of_text is_all =
    let inside : n ≤ length bytes = (whole_within of_head bytes n at).length in
    let size : h.size ≡ n = is.size ∙ length-take-le n bytes inside in
    let whole : text ≡ drop (blanks (take n bytes)) (take n bytes) = of_text ∙ (ap (λ m. drop h.skipped (take m bytes)) size ∙ ap (λ k. drop k (take n bytes)) is.skipped) in
    let all_of : all ≡ (n == length bytes) = is_all ∙ (ap (λ m. length (take m bytes) == length bytes) size ∙ ap (λ m. m == length bytes) (length-take-le n bytes inside)) in
    let known : request_length most_body_bytes fields ≡ Ok h.body = sym (ap (length_of most_body_bytes) request) ∙ is.told in
    let told = known_length text fields all (request_length most_body_bytes fields) h.body known in (
      Some h.head,
      is.says,
      subst (λ head. Some (announced_with text fields all h.body) ≡ announced (drop (blanks (take n bytes)) (take n bytes)) (n == length bytes) (Some head)) (sym request)
          (subst (λ (z : List ℕ × Bool). Some (announced_with text fields all h.body) ≡ announced z.0 z.1 (Some (Request method target closing fields))) (λ i. (whole i, all_of i)) told),
    )
announces_whole (finds.TooLong bare) bytes h method target closing fields text all at is request of_text is_all = cc
announces_whole finds.Unfinished bytes h method target closing fields text all at is request of_text is_all = cc

-- the head of a request is no reply's
pub no_reply : (f : Found) (bytes : List ℕ) (h : HeadState) (status : ℕ) (fields : List Field) → FrontTo f bytes (fronts.Whole h) → h.head ≡ Reply status fields → ⊥
no_reply (finds.Whole n) bytes h status fields is reply =
    let request = is.says.2 in
    cc
no_reply (finds.TooLong bare) bytes h status fields is reply = cc
no_reply finds.Unfinished bytes h status fields is reply = cc

unknown_length : (text : List ℕ) (fields : List Field) (all : Bool) (r : Result Length LengthFault) → is_err r ≡ true → None ≡ option_map (announced_with text fields all) (result_ok r)
unknown_length text fields all (Ok length) h = cc
unknown_length text fields all (Err fault) h = refl

refused_tells : (text : List ℕ) (all : Bool) (read : Option Head) → IsRefused read → None ≡ announced text all read
refused_tells text all None h = refl
refused_tells text all (Some (Request method target closing fields)) h = unknown_length text fields all (request_length most_body_bytes fields) h
refused_tells text all (Some (Reply status fields)) h = refl

-- what is refused announces nothing
pub announces_refused : (f : Found) (bytes : List ℕ) → FrontTo f bytes fronts.Refused → AnnouncesTo f bytes None
announces_refused (finds.Whole n) bytes is = (is.0, is.1, refused_tells (drop (blanks (take n bytes)) (take n bytes)) (n == length bytes) is.0 is.2)
announces_refused (finds.TooLong bare) bytes is = refl
announces_refused finds.Unfinished bytes is = refl

-- what isn't whole announces nothing
pub announces_unfinished : (f : Found) (bytes : List ℕ) (look : Look) → FrontTo f bytes (fronts.Unfinished look) → AnnouncesTo f bytes None
announces_unfinished (finds.Whole n) bytes look is = absurd is
announces_unfinished (finds.TooLong bare) bytes look is = refl
announces_unfinished finds.Unfinished bytes look is = refl
