-- JSON values whose texts are UTF-8 and whose numbers are whole: their text is UTF-8, has a bounded length, and is read
-- back.
use Rattle.std.proofs.Common.{◌≡◌, ℕ, suc, ◌+◌, ◌*◌, ◌^◌, ◌<◌, ◌≤◌, max, Bool, true, false, cond, List, [], ◌∷◌, ◌++◌, length, Some, None, ◌/◌, ◌%◌, nat_lt, option_and_then, IsUtf8, decimal, refl, sym, ap, ◌∙◌, arith, append-nil, length-append, lit≤}
use Rattle.std.specs.Prelude.{⊤}
use Rattle.std.proofs.lemmas.Bool.{cond_both}
use Rattle.std.proofs.lemmas.Str.{IsUtf8-append, IsUtf8-nil, IsUtf8-from_ascii, is_utf8-from_IsUtf8}
use Rattle.std.proofs.lemmas.Fmt.{IsAscii-decimal, length-decimal-le}
use Rattle.json.specs.Token.{Token}
use Rattle.json.specs.Lex.{tokens}
use Rattle.std.specs.Char.{digit_char}
use Rattle.json.specs.Print.{escape_letter, escape_byte, escape, quoted, token_text}
use Rattle.json.specs.Json as json
use Rattle.json.specs.Tree as tree
use Rattle.json.proofs.Printed.Utf8.{IsUtf8-are_ascii, IsUtf8-quoted, IsUtf8-boolean}
use Rattle.json.proofs.Printed.Decimals.{IsNumber-decimal}
use Rattle.json.proofs.Printed.Tokens.{tokens-print}
use Rattle.json.proofs.Printed.Trees.{value-json_tokens, ArePrintable-json_tokens}
use Rattle.serde_json.specs.Data.{Num, unsigned, negative, float, Data, null, boolean, number, string, array, object, Items, no_items, item, Members, no_members, member, depth, items_depth, members_depth}
use Rattle.serde_json.specs.Read.{of_json, max_depth, read}
use Rattle.serde_json.specs.Written.{number_text, outline, items_outline, members_outline, comma_if, compact_text, items_text, members_text}
use Rattle.serde_json.proofs.Texts.{print-outline}
use Rattle.ocm_json.specs.Json.{json_of}

-- ---- what such values are

-- a whole number below 2^64
abbrev pub IsWhole : Num → Type 0
IsWhole (unsigned n) = n < 2 ^ 64
IsWhole (negative z) = ⊥
IsWhole (float x) = ⊥

-- each text is UTF-8, and each number is whole
abbrev mutual
  pub IsSpelled : Data → Type 0
  IsSpelled null = ⊤
  IsSpelled (boolean b) = ⊤
  IsSpelled (number n) = IsWhole n
  IsSpelled (string s) = IsUtf8 s
  IsSpelled (array ds) = ItemsAreSpelled ds
  IsSpelled (object ms) = MembersAreSpelled ms

  pub ItemsAreSpelled : Items → Type 0
  ItemsAreSpelled no_items = ⊤
  ItemsAreSpelled (item d ds) = IsSpelled d × ItemsAreSpelled ds

  pub MembersAreSpelled : Members → Type 0
  MembersAreSpelled no_members = ⊤
  MembersAreSpelled (member k d ms) = IsUtf8 k × IsSpelled d × MembersAreSpelled ms

-- ---- the text is UTF-8

number-utf8 : (n : Num) → IsWhole n → IsUtf8 (number_text n)
number-utf8 (unsigned n) h = IsUtf8-from_ascii (decimal n) (IsAscii-decimal n h)
number-utf8 (negative z) h = absurd h
number-utf8 (float x) h = absurd h

comma-utf8 : (later : Bool) → IsUtf8 (comma_if later)
comma-utf8 true = IsUtf8-are_ascii (44 ∷ []) refl
comma-utf8 false = IsUtf8-nil

byte-then : (b : ℕ) (s : List ℕ) → IsUtf8 (b ∷ []) → IsUtf8 s → IsUtf8 (b ∷ s)
byte-then b s h k = IsUtf8-append (b ∷ []) s h k

mutual
  pub text-utf8 : (d : Data) → IsSpelled d → IsUtf8 (compact_text d)
  text-utf8 null h = IsUtf8-are_ascii (token_text Token.null) refl
  text-utf8 (boolean b) h = IsUtf8-boolean b
  text-utf8 (number n) h = number-utf8 n h
  text-utf8 (string s) h = IsUtf8-quoted s h
  text-utf8 (array ds) h = byte-then 91 (items_text false ds) (IsUtf8-are_ascii (91 ∷ []) refl) (items-utf8 false ds h)
  text-utf8 (object ms) h = byte-then 123 (members_text false ms) (IsUtf8-are_ascii (123 ∷ []) refl) (members-utf8 false ms h)

  items-utf8 : (later : Bool) (ds : Items) → ItemsAreSpelled ds → IsUtf8 (items_text later ds)
  items-utf8 later no_items h = IsUtf8-are_ascii (93 ∷ []) refl
  items-utf8 later (item d ds) h =
      IsUtf8-append (comma_if later) _ (comma-utf8 later) (IsUtf8-append (compact_text d) _ (text-utf8 d h.0) (items-utf8 true ds h.1))

  members-utf8 : (later : Bool) (ms : Members) → MembersAreSpelled ms → IsUtf8 (members_text later ms)
  members-utf8 later no_members h = IsUtf8-are_ascii (125 ∷ []) refl
  members-utf8 later (member k d ms) h =
      IsUtf8-append (comma_if later) _ (comma-utf8 later)
      (IsUtf8-append (quoted k) _ (IsUtf8-quoted k h.0)
      (byte-then 58 _ (IsUtf8-are_ascii (58 ∷ []) refl) (IsUtf8-append (compact_text d) _ (text-utf8 d h.1) (members-utf8 true ms h.2))))

-- ---- its length

-- an escape has 6 bytes at most
escape_byte-short : (x : ℕ) → length (escape_byte x) ≤ 6
unfolding escape_byte
escape_byte-short x =
    let P : List ℕ → Type 0 = λ l. length l ≤ 6 in
    let hex : List ℕ = 92 ∷ 117 ∷ 48 ∷ 48 ∷ digit_char (x / 16) ∷ digit_char (x % 16) ∷ [] in
    cond_both (nat_lt 0 (escape_letter x)) (92 ∷ escape_letter x ∷ []) (cond (nat_lt x 32) hex (x ∷ [])) P (λ e. lit≤ tt)
    (λ e. cond_both (nat_lt x 32) hex (x ∷ []) P (λ f. lit≤ tt) (λ f. lit≤ tt))

escape-short : (s : List ℕ) → length (escape s) ≤ 6 * length s
escape-short [] = lit≤ tt
escape-short (x ∷ s) = omega (arith, length-append (escape_byte x) (escape s), escape_byte-short x, escape-short s)

quoted-short : (s : List ℕ) → length (quoted s) ≤ 6 * length s + 2
quoted-short s = omega (arith, length-append (escape s) (34 ∷ []), escape-short s)

comma-short : (later : Bool) → length (comma_if later) ≤ 1
comma-short true = lit≤ tt
comma-short false = lit≤ tt

boolean-short : (b : Bool) → length (token_text (Token.boolean b)) ≤ 5
boolean-short true = lit≤ tt
boolean-short false = lit≤ tt

number-short : (n : Num) → IsWhole n → length (number_text n) ≤ 20
number-short (unsigned n) h = length-decimal-le 20 n (lit≤ tt) (omega arith) h
number-short (negative z) h = absurd h
number-short (float x) h = absurd h

-- so many bytes at most
abbrev mutual
  pub size : Data → ℕ
  size null = 4
  size (boolean b) = 5
  size (number n) = 20
  size (string s) = 6 * length s + 2
  size (array ds) = 1 + items_size ds
  size (object ms) = 1 + members_size ms

  pub items_size : Items → ℕ
  items_size no_items = 1
  items_size (item d ds) = 1 + size d + items_size ds

  pub members_size : Members → ℕ
  members_size no_members = 1
  members_size (member k d ms) = 6 * length k + 4 + size d + members_size ms

mutual
  pub text-short : (d : Data) → IsSpelled d → length (compact_text d) ≤ size d
  text-short null h = lit≤ tt
  text-short (boolean b) h = boolean-short b
  text-short (number n) h = number-short n h
  text-short (string s) h = quoted-short s
  text-short (array ds) h = omega (arith, items-short false ds h)
  text-short (object ms) h = omega (arith, members-short false ms h)

  items-short : (later : Bool) (ds : Items) → ItemsAreSpelled ds → length (items_text later ds) ≤ items_size ds
  items-short later no_items h = lit≤ tt
  items-short later (item d ds) h =
      omega (arith, length-append (comma_if later) (compact_text d ++ items_text true ds), length-append (compact_text d) (items_text true ds), comma-short later, text-short d h.0, items-short true ds h.1)

  members-short : (later : Bool) (ms : Members) → MembersAreSpelled ms → length (members_text later ms) ≤ members_size ms
  members-short later no_members h = lit≤ tt
  members-short later (member k d ms) h =
      let after = compact_text d ++ members_text true ms in
      omega (arith, length-append (comma_if later) (quoted k ++ 58 ∷ after), length-append (quoted k) (58 ∷ after), length-append (compact_text d) (members_text true ms), comma-short later, quoted-short k, text-short d h.1, members-short true ms h.2)

-- ---- it is read back

mutual
  numbers : (d : Data) → IsSpelled d → tree.HasNumbers (outline d)
  numbers null h = tt
  numbers (boolean b) h = tt
  numbers (number (unsigned n)) h = IsNumber-decimal n h
  numbers (number (negative z)) h = absurd h
  numbers (number (float x)) h = absurd h
  numbers (string s) h = tt
  numbers (array ds) h = items-numbers ds h
  numbers (object ms) h = members-numbers ms h

  items-numbers : (ds : Items) → ItemsAreSpelled ds → tree.ItemsHaveNumbers (items_outline ds)
  items-numbers no_items h = tt
  items-numbers (item d ds) h = (numbers d h.0, items-numbers ds h.1)

  members-numbers : (ms : Members) → MembersAreSpelled ms → tree.MembersHaveNumbers (members_outline ms)
  members-numbers no_members h = tt
  members-numbers (member k d ms) h = (numbers d h.1, members-numbers ms h.2)

mutual
  outline-depth : (d : Data) → tree.depth (outline d) ≡ depth d
  outline-depth null = refl
  outline-depth (boolean b) = refl
  outline-depth (number n) = refl
  outline-depth (string s) = refl
  outline-depth (array ds) = ap suc (items-depth ds)
  outline-depth (object ms) = ap suc (members-depth ms)

  items-depth : (ds : Items) → tree.items_depth (items_outline ds) ≡ items_depth ds
  items-depth no_items = refl
  items-depth (item d ds) = λ i. max (outline-depth d i) (items-depth ds i)

  members-depth : (ms : Members) → tree.members_depth (members_outline ms) ≡ members_depth ms
  members-depth no_members = refl
  members-depth (member k d ms) = λ i. max (outline-depth d i) (members-depth ms i)

-- where the members go in as they stand, the text is read as the value
pub text-read : (d : Data) → IsSpelled d → of_json (outline d) ≡ Some d → depth d ≤ 127 → json_of (compact_text d) ≡ Some d
text-read d h same shallow =
    let j = outline d in
    let few : tree.depth j ≤ 127 = omega (arith, outline-depth d) in
    let printed : tokens (compact_text d) ≡ tree.json_tokens j ++ [] =
    ap tokens (sym (print-outline d)) ∙ (tokens-print (tree.json_tokens j) (ArePrintable-json_tokens j (numbers d h)) ∙ sym (append-nil (tree.json_tokens j))) in
    let whole : read (compact_text d) ≡ Some d =
    ap (λ o. option_and_then of_json (option_and_then (λ p. json.if_last p.0 p.1) o)) (ap (json.value max_depth) printed ∙ value-json_tokens j max_depth [] few) ∙ same in
    ap (λ b. cond b (read (compact_text d)) None) (is_utf8-from_IsUtf8 (compact_text d) (text-utf8 d h)) ∙ whole
