-- An address's text reads as itself.
use Rattle.std.proofs.Common.{◌≡◌, ℕ, ◌+◌, ◌<◌, ◌≤◌, true, cond, List, [], ◌∷◌, ◌++◌, length, take, drop, Option, Some, None, Result, Ok, Err, refl, sym, ap, subst, ◌∙◌, arith, eq-eqb, ne_eqb, Bor, MatchOption}
use Rattle.std.specs.Option.{ok_or}
use Rattle.std.specs.Str.{bytes_eq}
use Rattle.std.specs.Str.Pattern.{RFindsChar}
use Rattle.std.proofs.lemmas.Bool.{and_parts, cond-true, cond-false, true_from_ne_false}
use Rattle.std.proofs.lemmas.List.{take-append-drop}
use Rattle.std.proofs.lemmas.Slice.Eq.{bytes_eq-Decides}
use Rattle.std.proofs.lemmas.Str.Pattern.{NoCharPasses-char, drop_at_char}
use Rattle.ocm_types.specs.declared.address_faults.AddressFault.{AddressFault}
use Rattle.ocm_types.specs.declared.address_faults.AddressFault.TheVariants as faults
use Rattle.ocm_types.specs.declared.addresses.Address.{Address}
use Rattle.ocm_types.specs.Texts.{has_length, is_name}
use Rattle.ocm_types.specs.Hosts.{◌>>=◌, Gives, is_host, host_of}
use Rattle.ocm_types.specs.Addresses.{with_byte, cut_at_last, found, parts_of, user_of, address_of, address_text, spelled_as, canonical_address_of}
use Rattle.ocm_types.proofs.HostTexts.{Lacks, Lacks-from_reads}
use Rattle.ocm_types.proofs.HostReading.{is_host-lacks, host_of-same, host_of-canonical, guard_ok, ok_is, bind_ok}

-- a text without a separator is not cut
pub cut_at_last-none : (c : ℕ) (xs : List ℕ) → Lacks c xs → cut_at_last c xs ≡ None
cut_at_last-none c [] h = refl
cut_at_last-none c (x ∷ xs) h = ap (with_byte c x xs) (cut_at_last-none c xs h.1) ∙ cond-false _ _ _ (ne_eqb x c h.0)

-- a text is cut at the last separator
pub cut_at_last-at : (c : ℕ) (xs ys : List ℕ) → Lacks c ys → cut_at_last c (xs ++ c ∷ ys) ≡ Some (xs, ys)
cut_at_last-at c [] ys h = ap (with_byte c c ys) (cut_at_last-none c ys h) ∙ cond-true _ _ _ (eq-eqb c c refl)
cut_at_last-at c (x ∷ xs) ys h = ap (with_byte c x (xs ++ c ∷ ys)) (cut_at_last-at c xs ys h)

-- what `rsplit_once` gives
pub parts_of-finds : (text : List ℕ) (r : Option (Bor (List ℕ) × Bor (List ℕ)))
    → MatchOption r (RFindsChar 64 text None) (λ x. (i : ℕ) × (j : ℕ) × RFindsChar 64 text (Some (i, j)) × (x.0.now ≡ take i text) × (x.1.now ≡ drop j text) × (i ≤ j) × (length x.0.now ≡ i) × (length x.1.now + j ≡ length text))
    → Gives (λ (x : Bor (List ℕ) × Bor (List ℕ)). (x.0.now, x.1.now)) (ok_or r faults.NoAt) (parts_of text)
parts_of-finds text None h =
    let low : 64 < 128 = omega arith in
    ap found (cut_at_last-none 64 text (Lacks-from_reads 64 text (λ i. NoCharPasses-char 64 text i h low)))
parts_of-finds text (Some x) h =
    let low : 64 < 128 = omega arith in
    let i = h.0 in
    let j = h.1 in
    let whole : text ≡ take i text ++ 64 ∷ drop j text = sym (take-append-drop i text) ∙ ap (λ (l : List ℕ). take i text ++ l) (drop_at_char 64 text i j h.2.1 low) in
    let lacks : Lacks 64 (drop j text) = Lacks-from_reads 64 (drop j text) (λ k. NoCharPasses-char 64 (drop j text) k h.2.0 low) in
    let cut : cut_at_last 64 text ≡ Some (x.0.now, x.1.now) = rw (h.3, h.4) (ap (cut_at_last 64) whole ∙ cut_at_last-at 64 (take i text) (drop j text) lacks) in
    ap found cut

-- a name reads as itself
user_of-same : (user : List ℕ) → is_name user ≡ true → user_of user ≡ Ok user
user_of-same user h = cond-true _ _ _ (and_parts (has_length 1 64 user) _ h).0 ∙ cond-true _ _ _ h

-- an address's own text reads as that address
pub address_of-same : (address : Address) → is_name address.user ≡ true → is_host address.host ≡ true → address_of (address_text address) ≡ Ok address
address_of-same address user host =
    let lacks = is_host-lacks 64 refl refl (λ e. omega (arith, e)) address.host host in
    let parts : parts_of (address_text address) ≡ Ok (address.user, address.host) = ap found (cut_at_last-at 64 address.user address.host lacks) in
    rw (parts, user_of-same address.user user, host_of-same address.host host) refl

-- and for the strict reader
pub canonical_address_of-from : (text : List ℕ) (address : Address) → address_of text ≡ Ok address → text ≡ address_text address → canonical_address_of text ≡ Some address
canonical_address_of-from text address read own_text =
    let same : bytes_eq (address_text address) text ≡ true = (bytes_eq-Decides (address_text address) text).1 (sym own_text) in
    rw (read, same) refl

pub canonical_address_of-same : (address : Address) → is_name address.user ≡ true → is_host address.host ≡ true → canonical_address_of (address_text address) ≡ Some address
canonical_address_of-same address user host = canonical_address_of-from (address_text address) address (address_of-same address user host) refl

-- what is read as a user's name is one
user_of-is : (text user : List ℕ) → user_of text ≡ Ok user → is_name user ≡ true
user_of-is text user e =
    let a = guard_ok (has_length 1 64 text) faults.UserLength (cond (is_name text) (Ok text) (Err faults.UserChar)) user e in
    let b = guard_ok (is_name text) faults.UserChar (Ok text) user a.1 in
    subst (λ (n : List ℕ). is_name n ≡ true) (ok_is text user b.1) b.0

-- the parts of what is read meet their rules
pub address_of-parts : (text : List ℕ) (address : Address) → address_of text ≡ Ok address → (is_name address.user ≡ true) × (is_host address.host ≡ true)
address_of-parts text address e =
    let a = bind_ok (parts_of text) (λ parts. user_of parts.0 >>= λ user. host_of parts.1 >>= λ host. Ok (record { user = user; host = host })) address e in
    let b = bind_ok (user_of a.0.0) (λ user. host_of a.0.1 >>= λ host. Ok (record { user = user; host = host })) address a.2 in
    let c = bind_ok (host_of a.0.1) (λ host. Ok (record { user = b.0; host = host })) address b.2 in
    subst (λ (x : Address). (is_name x.user ≡ true) × (is_host x.host ≡ true)) (ok_is (record { user = b.0; host = c.0 }) address c.2) (user_of-is a.0.0 b.0 b.1, host_of-canonical a.0.1 c.0 c.1)

-- what was compared is the same
spelled_as-same : (text : List ℕ) (address : Address) (r : Result Address AddressFault) → spelled_as text r ≡ Some address → (address_text address ≡ text) × (r ≡ Ok address)
spelled_as-same text address (Err fault) e = absurd cc
spelled_as-same text address (Ok read) e =
    let same : bytes_eq (address_text read) text ≡ true = true_from_ne_false (bytes_eq (address_text read) text) (λ f. some_is_none address (sym e ∙ rw f refl)) in
    let is : read ≡ address = some_is read address (sym (cond-true (bytes_eq (address_text read) text) (Some read) None same) ∙ e) in
    (ap address_text (sym is) ∙ (bytes_eq-Decides (address_text read) text).0 same, ap (λ (a : Address). Ok a) is)
  where
    some_is : (x y : Address) → Some x ≡ Some y → x ≡ y
    some_is x y e = cc

    some_is_none : (x : Address) → Some x ≡ None → ⊥
    some_is_none x e = cc

-- the strict reader gives an address for its own text alone
pub canonical_address_of-is : (text : List ℕ) (address : Address) → canonical_address_of text ≡ Some address → (text ≡ address_text address) × (address_of text ≡ Ok address)
canonical_address_of-is text address e =
    let read = spelled_as-same text address (address_of text) e in
    (sym read.0, read.1)
