-- The fields of asks, each with its spelling.
use Rattle.std.proofs.Common.{◌≡◌, ℕ, ◌^◌, ◌<◌, ◌≤◌, Bool, true, false, cond, ltb, eqb, List, [], ◌∷◌, ◌++◌, length, Option, Some, None, Ok, Err, refl, sym, ap, subst, ◌∙◌, append_assoc, arith, IfSome, IsTrue, inl, inr}
use Rattle.std.specs.Int.{w16, w32, w64}
use Rattle.std.specs.Str.{is_utf8}
use Rattle.std.proofs.lemmas.Bool.{ltb-false, le-ltb, eqb-true, agree_below, agree_below_at}
use Rattle.ocm_types.specs.declared.rights.Rights.{Rights}
use Rattle.ocm_types.specs.Addresses.{address_text, canonical_address_of}
use Rattle.ocm_types.specs.Rights.{is_any, perms_from}
use Rattle.ocm_types.specs.Texts.{is_name, is_share_name, is_provider_id, is_sender_id, is_secret, name_of, share_name_of, provider_id_of, sender_id_of, secret_of}
use Rattle.ocm_types.proofs.AddressReading.{canonical_address_of-is}
use Rattle.ocm_path.specs.Paths.{path_text}
use Rattle.ocm_path.specs.PathTexts.{path_with_text}
use Rattle.ocm_entry_bytes.specs.declared.entry_faults.EntryFault.TheVariants as faults
use Rattle.ocm_entry_bytes.specs.Spells.{AreBytes, two_bytes, four_bytes, eight_bytes, text, counted, rights, rights_number, optional, carry_number, carry_byte, IsOwnText, itself, IsName, IsShareName, IsProviderId, IsSenderId, IsSecret, IsAddress, IsShortPath, IsPerms, IsFresh, IsBody}
use Rattle.ocm_entry_bytes.specs.Reading.{◌>>=◌, Reading, reads1, found, byte_at, bytes_at, two_bytes_at, four_bytes_at, eight_bytes_at, text_at, text_as, name_at, share_name_at, provider_id_at, sender_id_at, secret_at, address_at, path_at, body_at, fresh_at, has_bit, rights_of_number, perms_of_number, perms_at, flag_at, optional_at, carry_of_number, carry_byte_at}
use Rattle.ocm_entry_bytes.proofs.FieldLaws.{AreBytes-tail, bind_ok, guard_ok, guard_passed, chosen_ok, found_ok, done, ok_is, Takes, IsField, bytes_take, bytes_again, byte_take, byte_again, number_field, wide16, wide32, wide64}
use Rattle.ocm_entry_bytes.proofs.PathText.{path_with_text-is}

pub two_bytes_field : IsField two_bytes_at two_bytes (λ n. n < 2 ^ 16)
unfolding two_bytes_at two_bytes
two_bytes_field = let f = number_field w16 (2 ^ 16) wide16 in record { takes = f.takes; again = f.again }

pub four_bytes_field : IsField four_bytes_at four_bytes (λ n. n < 2 ^ 32)
unfolding four_bytes_at four_bytes
four_bytes_field = let f = number_field w32 (2 ^ 32) wide32 in record { takes = f.takes; again = f.again }

pub eight_bytes_field : IsField eight_bytes_at eight_bytes (λ n. n < 2 ^ 64)
unfolding eight_bytes_at eight_bytes
eight_bytes_field = let f = number_field w64 (2 ^ 64) wide64 in record { takes = f.takes; again = f.again }

-- ---- texts

pub record TakesText (bytes : List ℕ) (x : List ℕ × List ℕ) : Type 0 where
  pub parts : bytes ≡ text x.0 ++ x.1
  pub utf8 : is_utf8 x.0 ≡ true
  pub short : length x.0 < 2 ^ 16

text_take : (bytes : List ℕ) (x : List ℕ × List ℕ) → AreBytes bytes → text_at bytes ≡ Ok x → TakesText bytes x
unfolding text_at text
text_take bytes x fits e =
    let a = bind_ok (two_bytes_at bytes) (λ n. bytes_at n.0 n.1 >>= λ t. cond (is_utf8 t.0) (Ok t) (Err faults.Value)) x e in
    let b = bind_ok (bytes_at a.0.0 a.0.1) (λ t. cond (is_utf8 t.0) (Ok t) (Err faults.Value)) x a.2 in
    let g = guard_passed (is_utf8 b.0.0) faults.Value b.0 x b.2 in
    let n = two_bytes_field.takes bytes a.0 fits a.1 in
    let t = bytes_take a.0.0 a.0.1 b.0 b.1 in
    let whole : bytes ≡ (two_bytes (length b.0.0) ++ b.0.0) ++ b.0.1 =
    n.parts ∙ ap (λ (l : List ℕ). two_bytes a.0.0 ++ l) t.0 ∙ sym (append_assoc (two_bytes a.0.0) b.0.0 b.0.1) ∙ ap (λ (k : ℕ). (two_bytes k ++ b.0.0) ++ b.0.1) (sym t.1) in
    let below : length b.0.0 < 2 ^ 16 = subst (λ (k : ℕ). k < 2 ^ 16) (sym t.1) n.holds in
    subst (TakesText bytes) g.1 (record { parts = whole; utf8 = g.0; short = below })

text_again : (s rest : List ℕ) → is_utf8 s ≡ true → length s < 2 ^ 16 → text_at (text s ++ rest) ≡ Ok (s, rest)
unfolding text_at text
text_again s rest utf8 short =
    let number = two_bytes_field.again (length s) (s ++ rest) short in
    let regrouped : (two_bytes (length s) ++ s) ++ rest ≡ two_bytes (length s) ++ (s ++ rest) = append_assoc (two_bytes (length s)) s rest in
    ap text_at regrouped ∙ rw (number, bytes_again (length s) s rest refl, utf8) refl

-- a value by its text, where reading gives a value for its own text alone
pub text_field : {A : Type 0} (read : List ℕ → Option A) (own_text : A → List ℕ) → ((s : List ℕ) (v : A) → read s ≡ Some v → s ≡ own_text v) → IsField (text_as read) (λ v. text (own_text v)) (IsOwnText read own_text)
text_field {A} read own_text is = record { takes = takes; again = again }
  where
    takes : (bytes : List ℕ) (x : A × List ℕ) → AreBytes bytes → text_as read bytes ≡ Ok x → Takes (λ v. text (own_text v)) (IsOwnText read own_text) bytes x
    takes bytes x fits e =
        let a = bind_ok (text_at bytes) (λ t. found (read t.0) t.1) x e in
        let t = text_take bytes a.0 fits a.1 in
        let f = found_ok (read a.0.0) a.0.1 x a.2 in
        let same : a.0.0 ≡ own_text f.0 = is a.0.0 f.0 f.1 in
        let held : IsOwnText read own_text f.0 = record {
          utf8 = subst (λ (s : List ℕ). is_utf8 s ≡ true) same t.utf8;
          short = subst (λ (s : List ℕ). length s < 2 ^ 16) same t.short;
          own = subst (λ (s : List ℕ). read s ≡ Some f.0) same f.1;
        } in
        let whole : bytes ≡ text (own_text f.0) ++ a.0.1 = t.parts ∙ ap (λ (s : List ℕ). text s ++ a.0.1) same in
        subst (Takes (λ v. text (own_text v)) (IsOwnText read own_text) bytes) f.2 (record { parts = whole; holds = held })

    again : (v : A) (rest : List ℕ) → IsOwnText read own_text v → text_as read (text (own_text v) ++ rest) ≡ Ok (v, rest)
    again v rest held = rw (text_again (own_text v) rest held.utf8 held.short, held.own) refl

-- what passes a test is the text itself
passed : (b : Bool) (s v : List ℕ) → cond b (Some s) None ≡ Some v → s ≡ v
passed true s v e = cc
passed false s v e = absurd cc

pub name_field : IsField name_at text IsName
unfolding name_at
name_field = let f = text_field name_of itself (λ s v e. passed (is_name s) s v e) in record { takes = f.takes; again = f.again }

pub share_name_field : IsField share_name_at text IsShareName
unfolding share_name_at
share_name_field = let f = text_field share_name_of itself (λ s v e. passed (is_share_name s) s v e) in record { takes = f.takes; again = f.again }

pub provider_id_field : IsField provider_id_at text IsProviderId
unfolding provider_id_at
provider_id_field = let f = text_field provider_id_of itself (λ s v e. passed (is_provider_id s) s v e) in record { takes = f.takes; again = f.again }

pub sender_id_field : IsField sender_id_at text IsSenderId
unfolding sender_id_at
sender_id_field = let f = text_field sender_id_of itself (λ s v e. passed (is_sender_id s) s v e) in record { takes = f.takes; again = f.again }

pub secret_field : IsField secret_at text IsSecret
unfolding secret_at
secret_field = let f = text_field secret_of itself (λ s v e. passed (is_secret s) s v e) in record { takes = f.takes; again = f.again }

pub address_field : IsField address_at (λ a. text (address_text a)) IsAddress
unfolding address_at
address_field = let f = text_field canonical_address_of address_text (λ s v e. (canonical_address_of-is s v e).0) in record { takes = f.takes; again = f.again }

pub path_field : IsField path_at (λ p. text (path_text p)) IsShortPath
unfolding path_at
path_field = let f = text_field path_with_text path_text path_with_text-is in record { takes = f.takes; again = f.again }

-- ---- bodies and drawn bytes

pub body_field : (most : ℕ) → IsField (body_at most) counted (IsBody most)
unfolding body_at counted
body_field most = record { takes = takes; again = again }
  where
    takes : (bytes : List ℕ) (x : List ℕ × List ℕ) → AreBytes bytes → body_at most bytes ≡ Ok x → Takes counted (IsBody most) bytes x
    takes bytes x fits e =
        let a = bind_ok (four_bytes_at bytes) (λ n. bytes_at n.0 n.1 >>= λ b. cond (ltb most n.0) (Err faults.Value) (Ok b)) x e in
        let b = bind_ok (bytes_at a.0.0 a.0.1) (λ t. cond (ltb most a.0.0) (Err faults.Value) (Ok t)) x a.2 in
        let g = guard_ok (ltb most a.0.0) faults.Value b.0 x b.2 in
        let n = four_bytes_field.takes bytes a.0 fits a.1 in
        let t = bytes_take a.0.0 a.0.1 b.0 b.1 in
        let whole : bytes ≡ (four_bytes (length b.0.0) ++ b.0.0) ++ b.0.1 =
        n.parts ∙ ap (λ (l : List ℕ). four_bytes a.0.0 ++ l) t.0 ∙ sym (append_assoc (four_bytes a.0.0) b.0.0 b.0.1) ∙ ap (λ (k : ℕ). (four_bytes k ++ b.0.0) ++ b.0.1) (sym t.1) in
        let within : IsBody most b.0.0 = subst (λ (k : ℕ). (k ≤ most) × (k < 2 ^ 32)) (sym t.1) (ltb-false _ _ g.0, n.holds) in
        subst (Takes counted (IsBody most) bytes) g.1 (record { parts = whole; holds = within })

    again : (body rest : List ℕ) → IsBody most body → body_at most (counted body ++ rest) ≡ Ok (body, rest)
    again body rest held =
        let number = four_bytes_field.again (length body) (body ++ rest) held.1 in
        let regrouped : (four_bytes (length body) ++ body) ++ rest ≡ four_bytes (length body) ++ (body ++ rest) = append_assoc (four_bytes (length body)) body rest in
        ap (body_at most) regrouped ∙ rw (number, bytes_again (length body) body rest refl, le-ltb most (length body) held.0) refl

pub fresh_field : IsField fresh_at (λ fresh. fresh) IsFresh
unfolding fresh_at
fresh_field = record {
  takes = λ bytes x fits e. let t = bytes_take 16 bytes x e in record { parts = t.0; holds = t.1 };
  again = λ fresh rest held. bytes_again 16 fresh rest held;
}

-- ---- a byte that stands for a value

-- one byte, by a table below a limit
byte_field : {A : Type 0} (of : ℕ → Option A) (number : A → ℕ) (Holds : A → Type 0)
    → ((b : ℕ) (v : A) → of b ≡ Some v → (b ≡ number v) × Holds v)
    → ((v : A) → Holds v → of (number v) ≡ Some v)
    → IsField (λ bytes. byte_at bytes >>= λ b. found (of b.0) b.1) (λ v. number v ∷ []) Holds
byte_field {A} of number Holds is back = record { takes = takes; again = again }
  where
    takes : (bytes : List ℕ) (x : A × List ℕ) → AreBytes bytes → (byte_at bytes >>= λ b. found (of b.0) b.1) ≡ Ok x → Takes (λ v. number v ∷ []) Holds bytes x
    takes bytes x fits e =
        let a = bind_ok (byte_at bytes) (λ b. found (of b.0) b.1) x e in
        let t = byte_take bytes a.0 a.1 in
        let f = found_ok (of a.0.0) a.0.1 x a.2 in
        let v = is a.0.0 f.0 f.1 in
        let whole : bytes ≡ number f.0 ∷ a.0.1 = t ∙ ap (λ (b : ℕ). b ∷ a.0.1) v.0 in
        subst (Takes (λ v. number v ∷ []) Holds bytes) f.2 (record { parts = whole; holds = v.1 })

    again : (v : A) (rest : List ℕ) → Holds v → (byte_at (number v ∷ rest) >>= λ b. found (of b.0) b.1) ≡ Ok (v, rest)
    again v rest held = rw (byte_again (number v) rest, back v held) refl

past_limit : {A : Type 0} (b : Bool) (o : Option A) (v : A) → cond b None o ≡ Some v → (b ≡ false) × (o ≡ Some v)
past_limit true o v e = absurd cc
past_limit false o v e = (refl, e)

is_one : {A : Type 0} (b : Bool) (x v : A) → cond b (Some x) None ≡ Some v → (b ≡ true) × (x ≡ v)
is_one true x v e = (refl, cc)
is_one false x v e = absurd cc

rights_table : agree_below (λ b. eqb (rights_number (rights_of_number b)) b) (λ b. true) 8 ≡ true
rights_table = refl

perms_is : (b : ℕ) (r : Rights) → perms_of_number b ≡ Some r → (b ≡ rights_number r) × IsPerms r
perms_is b r e =
    let low = past_limit (ltb 7 b) (perms_from (rights_of_number b)) r e in
    let any = is_one (is_any (rights_of_number b)) (rights_of_number b) r low.1 in
    let small : b ≤ 7 = ltb-false 7 b low.0 in
    let number : rights_number (rights_of_number b) ≡ b = eqb-true _ _ (agree_below_at (λ n. eqb (rights_number (rights_of_number n)) n) (λ n. true) 8 b rights_table (omega arith)) in
    subst (λ (v : Rights). (b ≡ rights_number v) × IsPerms v) any.1 (sym number, any.0)

perms_back : (read write share : Bool) → IsTrue (is_any (record { read = read; write = write; share = share }))
    → perms_of_number (rights_number (record { read = read; write = write; share = share })) ≡ Some (record { read = read; write = write; share = share })
perms_back true true true h = refl
perms_back true true false h = refl
perms_back true false true h = refl
perms_back true false false h = refl
perms_back false true true h = refl
perms_back false true false h = refl
perms_back false false true h = refl
perms_back false false false h = absurd cc

pub perms_field : IsField perms_at rights IsPerms
unfolding perms_at rights
perms_field =
    let f = byte_field perms_of_number rights_number IsPerms perms_is (λ r h. perms_back r.read r.write r.share h) in
    record { takes = f.takes; again = f.again }

abbrev pub carry_spelled : Bool × Bool → List ℕ
carry_spelled how = carry_byte how.0 how.1

abbrev pub IsAny : Bool × Bool → Type 0
IsAny how = Unit {0}

carry_table : agree_below (λ b. eqb (carry_number (has_bit 1 b) (has_bit 2 b)) b) (λ b. true) 4 ≡ true
carry_table = refl

carry_is : (b : ℕ) (how : Bool × Bool) → carry_of_number b ≡ Some how → (b ≡ carry_number how.0 how.1) × IsAny how
carry_is b how e =
    let low = past_limit (ltb 3 b) (Some (has_bit 1 b, has_bit 2 b)) how e in
    let small : b ≤ 3 = ltb-false 3 b low.0 in
    let number : carry_number (has_bit 1 b) (has_bit 2 b) ≡ b = eqb-true _ _ (agree_below_at (λ n. eqb (carry_number (has_bit 1 n) (has_bit 2 n)) n) (λ n. true) 4 b carry_table (omega arith)) in
    let same : (has_bit 1 b, has_bit 2 b) ≡ how = some_is (has_bit 1 b, has_bit 2 b) how low.1 in
    (sym number ∙ ap (λ (v : Bool × Bool). carry_number v.0 v.1) same, tt)
  where
    some_is : (x y : Bool × Bool) → Some x ≡ Some y → x ≡ y
    some_is x y h = cc

carry_back : (moving overwrite : Bool) → carry_of_number (carry_number moving overwrite) ≡ Some (moving, overwrite)
carry_back true true = refl
carry_back true false = refl
carry_back false true = refl
carry_back false false = refl

pub carry_field : IsField carry_byte_at carry_spelled IsAny
unfolding carry_byte_at carry_byte
carry_field =
    let f = byte_field carry_of_number (λ how. carry_number how.0 how.1) IsAny carry_is (λ how h. carry_back how.0 how.1) in
    record { takes = f.takes; again = f.again }

-- ---- what may be left out

abbrev flag_number : Bool → ℕ
flag_number some = cond some 1 0

flag_rest : (b : ℕ) (rest : List ℕ) (x : Bool × List ℕ) → cond (eqb b 0) (Ok (false, rest)) (cond (eqb b 1) (Ok (true, rest)) (Err faults.Value)) ≡ Ok x → b ∷ rest ≡ flag_number x.0 ∷ x.1
flag_rest b rest x e =
    elim (chosen_ok (eqb b 0) (Ok (false, rest)) (cond (eqb b 1) (Ok (true, rest)) (Err faults.Value)) (Ok x) e) [
      | inl none ↦ at_flag false none.1 (eqb-true b 0 none.0)
      | inr more ↦ let one = guard_passed (eqb b 1) faults.Value (true, rest) x more.1 in at_pair true one.1 (eqb-true b 1 one.0)
    ]
  where
    at_pair : (some : Bool) → (some, rest) ≡ x → b ≡ flag_number some → b ∷ rest ≡ flag_number x.0 ∷ x.1
    at_pair some is number = ap (λ (n : ℕ). n ∷ rest) number ∙ ap (λ (p : Bool × List ℕ). flag_number p.0 ∷ p.1) is

    at_flag : (some : Bool) → done (some, rest) ≡ done x → b ≡ flag_number some → b ∷ rest ≡ flag_number x.0 ∷ x.1
    at_flag some is number = at_pair some (ok_is (some, rest) x is) number

flag_take : (bytes : List ℕ) (x : Bool × List ℕ) → flag_at bytes ≡ Ok x → bytes ≡ flag_number x.0 ∷ x.1
unfolding flag_at
flag_take bytes x e =
    let a = bind_ok (byte_at bytes) (λ b. cond (eqb b.0 0) (Ok (false, b.1)) (cond (eqb b.0 1) (Ok (true, b.1)) (Err faults.Value))) x e in
    byte_take bytes a.0 a.1 ∙ flag_rest a.0.0 a.0.1 x a.2

flag_again : (some : Bool) (rest : List ℕ) → flag_at (flag_number some ∷ rest) ≡ Ok (some, rest)
unfolding flag_at byte_at
flag_again true rest = refl
flag_again false rest = refl

pub optional_field : {A : Type 0} {read : Reading A} {spell : A → List ℕ} {Holds : A → Type 0} → IsField read spell Holds → IsField (optional_at read) (optional spell) (λ o. IfSome o Holds)
unfolding optional_at optional
optional_field {A} {read} {spell} {Holds} field = record { takes = takes; again = again }
  where
    from_flag : (some : Bool) (bytes rest : List ℕ) (x : Option A × List ℕ) → AreBytes bytes → bytes ≡ flag_number some ∷ rest → cond some (reads1 Some read rest) (Ok (None, rest)) ≡ Ok x → Takes (optional spell) (λ o. IfSome o Holds) bytes x
    from_flag true bytes rest x fits parts e =
        let a = bind_ok (read rest) (λ y. Ok (Some y.0, y.1)) x e in
        let t = field.takes rest a.0 (AreBytes-tail 1 rest (subst AreBytes parts fits)) a.1 in
        subst (Takes (optional spell) (λ o. IfSome o Holds) bytes) (ok_is (Some a.0.0, a.0.1) x a.2) (record { parts = parts ∙ ap (λ (l : List ℕ). 1 ∷ l) t.parts; holds = t.holds })
    from_flag false bytes rest x fits parts e =
        subst (Takes (optional spell) (λ o. IfSome o Holds) bytes) (ok_is (None, rest) x e) (record { parts = parts; holds = tt })

    takes : (bytes : List ℕ) (x : Option A × List ℕ) → AreBytes bytes → optional_at read bytes ≡ Ok x → Takes (optional spell) (λ o. IfSome o Holds) bytes x
    takes bytes x fits e =
        let a = bind_ok (flag_at bytes) (λ some. cond some.0 (reads1 Some read some.1) (Ok (None, some.1))) x e in
        from_flag a.0.0 bytes a.0.1 x fits (flag_take bytes a.0 a.1) a.2

    again : (o : Option A) (rest : List ℕ) → IfSome o Holds → optional_at read (optional spell o ++ rest) ≡ Ok (o, rest)
    again None rest held = rw (flag_again false rest) refl
    again (Some v) rest held = rw (flag_again true (spell v ++ rest), field.again v rest held) refl
