-- The escaped text of a path is read as that path.
use Rattle.std.specs.Prelude.{◌==◌}
use Rattle.std.proofs.Common.{◌≡◌, ◌≢◌, ℕ, ◌+◌, ◌-◌, ◌/◌, ◌%◌, ◌<◌, ◌≤◌, arith, List, [], ◌∷◌, ◌++◌, length, get_or, Bool, true, false, not, cond, ltb, ◌&&◌, ◌||◌, All, Result, Ok, Err, Option, None, refl, ap, sym, subst, ◌∙◌, ⊎_elim, append-nil, length-append}
use Rattle.std.specs.List.{list_all, list_any, slice_split}
use Rattle.std.specs.Char.{is_ascii_hexdigit, encode_utf8}
use Rattle.std.specs.Fmt.{digit_glyph}
use Rattle.std.specs.Str.{is_utf8, encode_utf8_all, all_scalars}
use Rattle.std.proofs.lemmas.Bool.{agree_below_at, and_parts, and_from, cond-false, cond_both, both_ways, ne_eqb, le-ltb, ltb-true, leb-true, not-true, not_from_true}
use Rattle.std.proofs.lemmas.List.{get_or-append_right}
use Rattle.std.proofs.lemmas.List.Elements.{All-nil, All-cons, All-append, All-get_or}
use Rattle.std.proofs.lemmas.List.Splits.{slice_split_none, slice_split_at}
use Rattle.std.proofs.lemmas.Str.{IsUtf8-from_is_utf8}
use lib.Utf8.{scalar, scalar_cases}
use Rattle.ocm_limits.specs.Limits.{most_asked_path_bytes}
use Rattle.percent_encoding.specs.AsciiSet.{should_percent_encode}
use Rattle.percent_encoding.specs.Percent.{percent_encode_byte, percent_decode}
use Rattle.percent_encoding.proofs.PercentLemmas.{IsByte, IsEscapeByte, All-percent_encode, percent_encode_nonempty, round_trip}
use Rattle.ocm_path.specs.declared.faults.PathFault.{PathFault}
use Rattle.ocm_path.specs.declared.faults.PathFault.TheVariants.{NotText}
use Rattle.ocm_path.specs.declared.escapes.TheConstants.{ESCAPED}
use Rattle.ocm_path.specs.Escapes.{is_unreserved, escape, begins_with_digits, are_escapes}
use Rattle.ocm_path.specs.Paths.{Segments, is_slash, is_barred, is_dots, is_segment, is_path, joined_escaped, path_text, path_escaped, text_fault, unless, segment_of, before, segments_of, within_limit, path_below, path_of}
use Rattle.ocm_path.proofs.Joining.{is_root-cons}
use Rattle.ocm_path.proofs.Kept.{percent_encode-ESCAPED}

-- ---- the bytes of a text

bytes_one : (a : ℕ) → a < 256 → All IsByte (a ∷ [])
bytes_one a first = All-cons IsByte a [] first (All-nil IsByte)

bytes_two : (a b : ℕ) → a < 256 → b < 256 → All IsByte (a ∷ b ∷ [])
bytes_two a b first second = All-cons IsByte a (b ∷ []) first (bytes_one b second)

bytes_three : (a b c : ℕ) → a < 256 → b < 256 → c < 256 → All IsByte (a ∷ b ∷ c ∷ [])
bytes_three a b c first second third = All-cons IsByte a (b ∷ c ∷ []) first (bytes_two b c second third)

bytes_four : (a b c d : ℕ) → a < 256 → b < 256 → c < 256 → d < 256 → All IsByte (a ∷ b ∷ c ∷ d ∷ [])
bytes_four a b c d first second third fourth = All-cons IsByte a (b ∷ c ∷ d ∷ []) first (bytes_three b c d second third fourth)

later_byte-small : (bits : ℕ) → 128 + bits % 64 < 256
later_byte-small bits = omega arith

encode_utf8-bytes : (c : ℕ) → c < 1114112 → All IsByte (encode_utf8 c)
unfolding encode_utf8
encode_utf8-bytes c small =
    cond_both (ltb c 128) (c ∷ []) (cond (ltb c 2048) ((192 + c / 64) ∷ (128 + c % 64) ∷ []) (cond (ltb c 65536) ((224 + c / 4096) ∷ (128 + c / 64 % 64) ∷ (128 + c % 64) ∷ []) ((240 + c / 262144) ∷ (128 + c / 4096 % 64) ∷ (128 + c / 64 % 64) ∷ (128 + c % 64) ∷ []))) (All IsByte)
    (λ h. let less = ltb-true c 128 h in bytes_one c (omega arith))
    (λ _. cond_both (ltb c 2048) ((192 + c / 64) ∷ (128 + c % 64) ∷ []) (cond (ltb c 65536) ((224 + c / 4096) ∷ (128 + c / 64 % 64) ∷ (128 + c % 64) ∷ []) ((240 + c / 262144) ∷ (128 + c / 4096 % 64) ∷ (128 + c / 64 % 64) ∷ (128 + c % 64) ∷ [])) (All IsByte)
    (λ h. let less = ltb-true c 2048 h in bytes_two _ _ (let first : 192 + c / 64 < 256 = omega arith in first) (later_byte-small c))
    (λ _. cond_both (ltb c 65536) ((224 + c / 4096) ∷ (128 + c / 64 % 64) ∷ (128 + c % 64) ∷ []) ((240 + c / 262144) ∷ (128 + c / 4096 % 64) ∷ (128 + c / 64 % 64) ∷ (128 + c % 64) ∷ []) (All IsByte)
    (λ h. let less = ltb-true c 65536 h in bytes_three _ _ _ (let first : 224 + c / 4096 < 256 = omega arith in first) (later_byte-small (c / 64)) (later_byte-small c))
    (λ _. bytes_four _ _ _ _ (let first : 240 + c / 262144 < 256 = omega arith in first) (later_byte-small (c / 4096)) (later_byte-small (c / 64)) (later_byte-small c))))

scalar-small : (c : ℕ) → scalar c ≡ true → c < 1114112
scalar-small c h = ⊎_elim (λ low. omega (arith, low)) (λ high. high.1) (scalar_cases c h)

encodes-bytes : (cs : List ℕ) → all_scalars cs ≡ true → All IsByte (encode_utf8_all cs)
encodes-bytes [] h = All-nil IsByte
encodes-bytes (c ∷ cs) h =
    let parts = and_parts (scalar c) (all_scalars cs) h in
    All-append IsByte (encode_utf8 c) (encode_utf8_all cs) (encode_utf8-bytes c (scalar-small c parts.0)) (encodes-bytes cs parts.1)

-- a text's bytes are below 256
pub is_utf8-bytes : (s : List ℕ) → is_utf8 s ≡ true → All IsByte s
is_utf8-bytes s text = let chars = IsUtf8-from_is_utf8 s text in subst (All IsByte) chars.1.1 (encodes-bytes chars.0 chars.1.0)

-- ---- one segment

escape-kept : (s : List ℕ) → All IsByte s → percent_decode (escape s) ≡ s
escape-kept s small = ap percent_decode (sym (percent_encode-ESCAPED s small)) ∙ round_trip ESCAPED s refl small

escape-nonempty : (s : List ℕ) → All IsByte s → 0 < length s → 0 < length (escape s)
escape-nonempty s small some = subst (λ x. 0 < length x) (percent_encode-ESCAPED s small) (percent_encode_nonempty ESCAPED s some)

slash-escaped : should_percent_encode ESCAPED 47 ≡ true
unfolding should_percent_encode
slash-escaped = refl

kept-not_slash : (b : ℕ) → should_percent_encode ESCAPED b ≡ false → is_slash b ≡ false
kept-not_slash b kept = ne_eqb b 47 (λ slash. both_ways _ kept (ap (should_percent_encode ESCAPED) slash ∙ slash-escaped))

escape_byte-not_slash : (b : ℕ) → IsEscapeByte b → is_slash b ≡ false
escape_byte-not_slash b h = ne_eqb b 47 (λ slash. grind arith)

-- no `/` stands in an escaped segment
escape-not_slash : (s : List ℕ) → All IsByte s → All (λ b. is_slash b ≡ false) (escape s)
escape-not_slash s small = subst (All (λ b. is_slash b ≡ false)) (percent_encode-ESCAPED s small) (All-percent_encode (λ b. is_slash b ≡ false) ESCAPED s kept-not_slash escape_byte-not_slash)

glyph-hexadecimal : (d : ℕ) → d < 16 → is_ascii_hexdigit (digit_glyph true d) ≡ true
glyph-hexadecimal d small = agree_below_at (λ x. is_ascii_hexdigit (digit_glyph true x)) (λ _. true) 16 d refl small

glyph-not_percent : (d : ℕ) → d < 16 → digit_glyph true d ≢ 37
glyph-not_percent d small percent = both_ways (is_ascii_hexdigit 37) refl (ap is_ascii_hexdigit (sym percent) ∙ glyph-hexadecimal d small)

are_escapes-not_percent : (b : ℕ) (rest : List ℕ) → b ≢ 37 → are_escapes (b ∷ rest) ≡ are_escapes rest
are_escapes-not_percent b rest other = ap (λ (x : Bool). (not x || begins_with_digits rest) && are_escapes rest) (ne_eqb b 37 other)

are_escapes-percent : (high low : ℕ) (rest : List ℕ) → high < 16 → low < 16 → are_escapes (37 ∷ digit_glyph true high ∷ digit_glyph true low ∷ rest) ≡ are_escapes rest
are_escapes-percent high low rest high_small low_small =
    ap (λ (x : Bool). x && are_escapes (digit_glyph true high ∷ digit_glyph true low ∷ rest)) (and_from _ _ (glyph-hexadecimal high high_small) (glyph-hexadecimal low low_small))
    ∙ are_escapes-not_percent (digit_glyph true high) (digit_glyph true low ∷ rest) (glyph-not_percent high high_small)
    ∙ are_escapes-not_percent (digit_glyph true low) rest (glyph-not_percent low low_small)

are_escapes-encoded : (b : ℕ) (rest : List ℕ) → are_escapes (percent_encode_byte b ++ rest) ≡ are_escapes rest
unfolding percent_encode_byte
are_escapes-encoded b rest = are_escapes-percent (b / 16 % 16) (b % 16) rest (omega arith) (omega arith)

unreserved-not_percent : (b : ℕ) → is_unreserved b ≡ true → b ≢ 37
unreserved-not_percent b kept percent = both_ways (is_unreserved 37) refl (ap is_unreserved (sym percent) ∙ kept)

-- each `%` of an escaped segment has its digits
are_escapes-escape : (s : List ℕ) → are_escapes (escape s) ≡ true
are_escapes-escape [] = refl
are_escapes-escape (b ∷ s) =
    cond_both (is_unreserved b) (b ∷ []) (percent_encode_byte b) (λ x. are_escapes (x ++ escape s) ≡ true)
    (λ kept. are_escapes-not_percent b (escape s) (unreserved-not_percent b kept) ∙ are_escapes-escape s)
    (λ _. are_escapes-encoded b (escape s) ∙ are_escapes-escape s)

-- what a segment passes
pub record IsSound (s : List ℕ) : Type 0 where
  pub text : is_utf8 s ≡ true
  pub some : (length s == 0) ≡ false
  pub plain : is_dots s ≡ false
  pub clean : list_any is_barred s ≡ false
  pub short : length s ≤ 255

pub IsSound-segment : (s : List ℕ) → is_segment s ≡ true → IsSound s
IsSound-segment s sound =
    let last = and_parts (is_utf8 s && not (length s == 0) && not (is_dots s) && not (list_any is_barred s)) _ sound in
    let third = and_parts (is_utf8 s && not (length s == 0) && not (is_dots s)) _ last.0 in
    let second = and_parts (is_utf8 s && not (length s == 0)) _ third.0 in
    let first = and_parts (is_utf8 s) _ second.0 in
    record { text = first.0; some = not-true _ first.1; plain = not-true _ second.1; clean = not-true _ third.1; short = leb-true _ 255 last.1 }

text_fault-sound : (s : List ℕ) → IsSound s → text_fault s ≡ None
text_fault-sound s sound =
    cond-false _ _ _ sound.some ∙ cond-false _ _ _ sound.plain ∙ cond-false _ _ _ sound.clean ∙ cond-false _ _ _ (le-ltb 255 (length s) sound.short)

IsSound-nonempty : (s : List ℕ) → IsSound s → 0 < length s
IsSound-nonempty [] sound = absurd (both_ways _ sound.some refl)
IsSound-nonempty (b ∷ s) sound = omega arith

-- an escaped segment is read as that segment
segment_of-escape : (s : List ℕ) → IsSound s → segment_of (escape s) ≡ Ok s
segment_of-escape s sound =
    cond-false _ _ _ (not_from_true _ (are_escapes-escape s))
    ∙ ap (λ (d : List ℕ). cond (not (is_utf8 d)) (Err NotText) (unless (text_fault d) d)) (escape-kept s (is_utf8-bytes s sound.text))
    ∙ cond-false _ _ _ (not_from_true _ sound.text)
    ∙ ap (λ (fault : Option PathFault). unless fault s) (text_fault-sound s sound)

-- ---- segments in a row

pub segments_of-joined : (s : List ℕ) (ss : Segments) → list_all is_segment (s ∷ ss) ≡ true → segments_of (slice_split is_slash (escape s ++ joined_escaped ss)) ≡ Ok (s ∷ ss)
segments_of-joined s [] sound =
    let mine = IsSound-segment s (and_parts (is_segment s) _ sound).0 in
    let whole = slice_split_none is_slash (escape s) (escape-not_slash s (is_utf8-bytes s mine.text)) in
    ap (λ (text : List ℕ). segments_of (slice_split is_slash text)) (append-nil (escape s))
    ∙ ap segments_of whole
    ∙ ap (λ (r : Result (List ℕ) PathFault). before r (Ok [])) (segment_of-escape s mine)
segments_of-joined s (t ∷ ts) sound =
    let parts = and_parts (is_segment s) _ sound in
    let mine = IsSound-segment s parts.0 in
    ap segments_of (slice_split_at is_slash (escape s) 47 (escape t ++ joined_escaped ts) (escape-not_slash s (is_utf8-bytes s mine.text)) refl)
    ∙ ap (λ (r : Result (List ℕ) PathFault). before r (segments_of (slice_split is_slash (escape t ++ joined_escaped ts)))) (segment_of-escape s mine)
    ∙ ap (before (Ok s)) (segments_of-joined t ts parts.1)

-- a text that is not empty and doesn't end with `/`
record EndsWell (text : List ℕ) : Type 0 where
  some : 0 < length text
  ends : is_slash (get_or text (length text - 1) 0) ≡ false

EndsWell-append : (xs ys : List ℕ) → EndsWell ys → EndsWell (xs ++ ys)
EndsWell-append xs ys well =
    let lengths = length-append xs ys in
    let some = well.some in
    let place : length (xs ++ ys) - 1 - length xs ≡ length ys - 1 = omega arith in
    record {
      some = omega arith;
      ends = ap is_slash (get_or-append_right xs ys (length xs) (length (xs ++ ys) - 1) 0 refl (omega arith) ∙ ap (λ (i : ℕ). get_or ys i 0) place) ∙ well.ends;
    }

EndsWell-escape : (s : List ℕ) → IsSound s → EndsWell (escape s)
EndsWell-escape s sound =
    let small = is_utf8-bytes s sound.text in
    let some = escape-nonempty s small (IsSound-nonempty s sound) in
    record { some = some; ends = All-get_or (λ b. is_slash b ≡ false) (escape s) (length (escape s) - 1) 0 (omega arith) (escape-not_slash s small) }

EndsWell-joined : (s : List ℕ) (ss : Segments) → list_all is_segment (s ∷ ss) ≡ true → EndsWell (escape s ++ joined_escaped ss)
EndsWell-joined s [] sound = subst EndsWell (sym (append-nil (escape s))) (EndsWell-escape s (IsSound-segment s (and_parts (is_segment s) _ sound).0))
EndsWell-joined s (t ∷ ts) sound =
    let rest = escape t ++ joined_escaped ts in
    EndsWell-append (escape s) (47 ∷ rest) (EndsWell-append (47 ∷ []) rest (EndsWell-joined t ts (and_parts (is_segment s) _ sound).1))

-- ---- the path

path_below-joined : (s : List ℕ) (ss : Segments) → list_all is_segment (s ∷ ss) ≡ true → length (path_text (s ∷ ss)) ≤ most_asked_path_bytes → path_below (escape s ++ joined_escaped ss) ≡ Ok (s ∷ ss)
path_below-joined s ss sound short =
    let well = EndsWell-joined s ss sound in
    let some = well.some in
    cond-false _ _ _ (ne_eqb (length (escape s ++ joined_escaped ss)) 0 (λ none. omega arith))
    ∙ ap (λ (text : List ℕ). within_limit (segments_of (slice_split is_slash text))) (cond-false _ _ _ well.ends)
    ∙ ap within_limit (segments_of-joined s ss sound)
    ∙ cond-false _ _ _ (le-ltb most_asked_path_bytes (length (path_text (s ∷ ss))) short)

-- the escaped text of a path is read as that path
pub path_of-path_escaped : (path : Segments) → is_path path ≡ true → length (path_text path) ≤ most_asked_path_bytes → path_of (path_escaped path) ≡ Ok path
path_of-path_escaped [] sound short = refl
path_of-path_escaped (s ∷ ss) sound short =
    ap path_of (cond-false _ _ (joined_escaped (s ∷ ss)) (is_root-cons s ss))
    ∙ path_below-joined s ss (and_parts (list_all is_segment (s ∷ ss)) _ sound).0 short
