use Rattle.std.proofs.Common.{◌≡◌, ℕ, zero, suc, ◌+◌, ◌-◌, ◌<◌, ◌≤◌, List, [], ◌∷◌, ◌++◌, length, get_or, map, Bool, true, false, cond, refl, sym, ap, subst, ◌∙◌, ◌⊎◌, inl, inr, arith}
use Rattle.std.specs.Prelude.{Option, Some, None, nat_eq, slice_get, unwrap_or, option_map, filter, reverse, if◌then◌else◌}
use Rattle.std.specs.Option.{option_map_or}
use Rattle.std.specs.List.{range_with_len}
use Rattle.std.specs.HashMap as hash
use Rattle.std.specs.HashMap.{HashMap}
use Rattle.std.specs.declared.hash.FoldHasher.{FoldHasher}
use Rattle.std.specs.declared.hash.BuildHasherDefault.{BuildHasherDefault}
use Rattle.std.proofs.lemmas.List.{length-append, map-append, append-nil, append_assoc, length-map, reverse-append}
use Rattle.std.proofs.lemmas.Option.{slice_get-map, slice_get_within, slice_get-get_or}
use Rattle.std.proofs.lemmas.List.Elements.{filter-append}
use Rattle.std.proofs.lemmas.Bool.{cases_lt, eqb-true}
use Rattle.ocm_entry.specs.declared.rows.Share.{Share}
use Rattle.ocm_rules.specs.declared.rows.ShareRow.{ShareRow}
use Rattle.ocm_chain.specs.Lists.{made_of, is_owned_by, owned_by}
use Rattle.ocm_rules.proofs.Searches.{some-same}
use Rattle.ocm_chain.specs.declared.owners.OwnedLink.{OwnedLink}
use Rattle.ocm_chain.specs.Owners.{owners_of, owns_at, numbers_up, last_up, IsOwnerIndex}
use Rattle.ocm_chain.proofs.Places.{slice_get-front, slice_get-last}

-- ---- the last of an owner's numbers

last-front : (owners : List ℕ) (x owner n : ℕ) → n ≤ length owners → last_up (owners ++ x ∷ []) owner n ≡ last_up owners owner n
last-front owners x owner zero low = refl
last-front owners x owner (suc k) low =
    let same = ap (λ o. option_map_or (λ other. nat_eq other owner) o false) (slice_get-front owners x k (omega (arith, low))) in
    ap (λ t. cond t (suc k) (last_up (owners ++ x ∷ []) owner k)) same ∙ ap (λ m. cond (owns_at owners owner k) (suc k) m) (last-front owners x owner k (omega (arith, low)))

pub last-within : (owners : List ℕ) (owner n : ℕ) → last_up owners owner n ≤ n
last-within owners owner zero = omega arith
last-within owners owner (suc k) = by_case (owns_at owners owner k) (last-within owners owner k)
  where
    by_case : (b : Bool) → last_up owners owner k ≤ k → cond b (suc k) (last_up owners owner k) ≤ suc k
    by_case true h = omega arith
    by_case false h = omega (arith, h)

-- it is the owner's
pub last-owned : (owners : List ℕ) (owner n : ℕ) → 0 < last_up owners owner n → owns_at owners owner (last_up owners owner n - 1) ≡ true
last-owned owners owner zero some = absurd (omega (arith, some))
last-owned owners owner (suc k) some = by_case (owns_at owners owner k) refl (last-owned owners owner k) some
  where
    by_case : (b : Bool) → owns_at owners owner k ≡ b → (0 < last_up owners owner k → owns_at owners owner (last_up owners owner k - 1) ≡ true) → 0 < cond b (suc k) (last_up owners owner k)
        → owns_at owners owner (cond b (suc k) (last_up owners owner k) - 1) ≡ true
    by_case true e again h = let one : suc k - 1 ≡ k = omega arith in ap (owns_at owners owner) one ∙ e
    by_case false e again h = again h

-- up to the last there are all
pub numbers-last : (owners : List ℕ) (owner n : ℕ) → numbers_up owners owner n ≡ numbers_up owners owner (last_up owners owner n)
numbers-last owners owner zero = refl
numbers-last owners owner (suc k) = by_case (owns_at owners owner k) refl (numbers-last owners owner k)
  where
    by_case : (b : Bool) → owns_at owners owner k ≡ b → numbers_up owners owner k ≡ numbers_up owners owner (last_up owners owner k)
        → numbers_up owners owner k ++ (if b then suc k ∷ [] else []) ≡ numbers_up owners owner (cond b (suc k) (last_up owners owner k))
    by_case true e again = ap (λ t. numbers_up owners owner k ++ (if t then suc k ∷ [] else [])) (sym e)
    by_case false e again = append-nil (numbers_up owners owner k) ∙ again

-- ---- one number more is collected

pub collected-more : (owners : List ℕ) (owner number earlier : ℕ) (all numbers : List ℕ) → 0 < number → owns_at owners owner (number - 1) ≡ true → earlier ≡ last_up owners owner (number - 1)
    → all ≡ numbers_up owners owner number ++ reverse numbers → all ≡ numbers_up owners owner earlier ++ reverse (numbers ++ number ∷ [])
collected-more owners owner zero earlier all numbers some here e h = absurd (omega (arith, some))
collected-more owners owner (suc k) earlier all numbers some here e h =
    let one : suc k - 1 ≡ k = omega arith in
    let owned : owns_at owners owner k ≡ true = ap (owns_at owners owner) (sym one) ∙ here in
    let before : earlier ≡ last_up owners owner k = e ∙ ap (last_up owners owner) one in
    let up = numbers_up owners owner k in
    let taken : numbers_up owners owner (suc k) ≡ up ++ suc k ∷ [] = ap (λ t. up ++ (if t then suc k ∷ [] else [])) owned in
    h ∙ (ap (λ ns. ns ++ reverse numbers) taken ∙ (append_assoc up (suc k ∷ []) (reverse numbers)
    ∙ (ap (λ ns. ns ++ (suc k ∷ reverse numbers)) (numbers-last owners owner k ∙ ap (numbers_up owners owner) (sym before))
    ∙ ap (λ ns. numbers_up owners owner earlier ++ ns) (sym (reverse-append numbers (suc k ∷ []))))))

-- the link at an owner's number leads to the number before it
pub earlier-here : (links : List OwnedLink) (last : HashMap ℕ ℕ (BuildHasherDefault FoldHasher)) (owner k : ℕ) (link : OwnedLink) → IsOwnerIndex links last → slice_get links k ≡ Some link
    → owns_at (owners_of links) owner k ≡ true → link.earlier ≡ last_up (owners_of links) owner k
earlier-here links last owner k link h at here =
    let own = slice_get-map (λ (l : OwnedLink). l.owner) links k ∙ ap (λ o. option_map (λ (l : OwnedLink). l.owner) o) at in
    let test : nat_eq link.owner owner ≡ true = ap (λ o. option_map_or (λ other. nat_eq other owner) o false) (sym own) ∙ here in
    h.earlier k link at ∙ ap (λ o. last_up (owners_of links) o k) (eqb-true link.owner owner test)

-- ---- one share more

pub owners-more : (links : List OwnedLink) (link : OwnedLink) → owners_of (links ++ link ∷ []) ≡ owners_of links ++ link.owner ∷ []
owners-more links link = map-append (λ (l : OwnedLink). l.owner) links (link ∷ [])

unwrap-cond : (b : Bool) (n : ℕ) (o : Option ℕ) → unwrap_or (cond b (Some n) o) 0 ≡ cond b n (unwrap_or o 0)
unwrap-cond true n o = refl
unwrap-cond false n o = refl

pub owners-index-more : (links : List OwnedLink) (last more : HashMap ℕ ℕ (BuildHasherDefault FoldHasher)) (link : OwnedLink) (number : ℕ) → IsOwnerIndex links last → length links < 65536
    → number ≡ length links + 1 → link.earlier ≡ unwrap_or (hash.get nat_eq last link.owner) 0
    → ((q : ℕ) → hash.get nat_eq more q ≡ cond (nat_eq link.owner q) (Some number) (hash.get nat_eq last q)) → IsOwnerIndex (links ++ link ∷ []) more
owners-index-more links last more link number h few new e put = record {
  few = omega (arith, longer, few);
  lasts = λ owner. ap (λ o. unwrap_or o 0) (put owner) ∙ (unwrap-cond (nat_eq link.owner owner) number (hash.get nat_eq last owner)
      ∙ (ap (λ m. cond (nat_eq link.owner owner) number m) (h.lasts owner) ∙ sym (last-new owner)));
  earlier = λ k l at. by_case k l at (cases_lt k (length links));
}
  where
    owners : List ℕ
    owners = owners_of links

    many : length (owners_of links) ≡ length links
    many = length-map links (λ (l : OwnedLink). l.owner)

    longer : length (links ++ link ∷ []) ≡ length links + 1
    longer = length-append links (link ∷ [])

    here : (owner : ℕ) → owns_at (owners_of links ++ link.owner ∷ []) owner (length links) ≡ nat_eq link.owner owner
    here owner = ap (λ o. option_map_or (λ other. nat_eq other owner) o false) (ap (slice_get (owners_of links ++ link.owner ∷ [])) (sym many) ∙ slice_get-last (owners_of links) link.owner)

    last-new : (owner : ℕ) → last_up (owners_of (links ++ link ∷ [])) owner (length (links ++ link ∷ [])) ≡ cond (nat_eq link.owner owner) number (last_up (owners_of links) owner (length links))
    last-new owner =
        let next : length (links ++ link ∷ []) ≡ suc (length links) = omega (arith, longer) in
        let numbered : suc (length links) ≡ number = omega (arith, new) in
        ap (λ n. last_up (owners_of (links ++ link ∷ [])) owner n) next
        ∙ (ap (λ os. last_up os owner (suc (length links))) (owners-more links link)
        ∙ (ap (λ t. cond t (suc (length links)) (last_up (owners_of links ++ link.owner ∷ []) owner (length links))) (here owner)
        ∙ (ap (λ n. cond (nat_eq link.owner owner) n (last_up (owners_of links ++ link.owner ∷ []) owner (length links))) numbered
        ∙ ap (λ m. cond (nat_eq link.owner owner) number m) (last-front (owners_of links) link.owner owner (length links) (omega (arith, many))))))

    same : (owner k : ℕ) → k ≤ length links → last_up (owners_of (links ++ link ∷ [])) owner k ≡ last_up (owners_of links) owner k
    same owner k low = ap (λ os. last_up os owner k) (owners-more links link) ∙ last-front (owners_of links) link.owner owner k (omega (arith, low, many))

    by_case : (k : ℕ) (l : OwnedLink) → slice_get (links ++ link ∷ []) k ≡ Some l → (k < length links) ⊎ (length links ≤ k) → l.earlier ≡ last_up (owners_of (links ++ link ∷ [])) l.owner k
    by_case k l at (inl lt) = h.earlier k l (sym (slice_get-front links link k lt) ∙ at) ∙ sym (same l.owner k (omega (arith, lt)))
    by_case k l at (inr ge) =
        let below = slice_get_within (links ++ link ∷ []) k l at in
        let last_place : k ≡ length links = omega (arith, ge, below, longer) in
        let this : link ≡ l = some-same link l (sym (slice_get-last links link) ∙ ap (slice_get (links ++ link ∷ [])) (sym last_place) ∙ at) in
        let P : OwnedLink → Type 0 = λ x. x.earlier ≡ last_up (owners_of (links ++ link ∷ [])) x.owner k in
        subst P this (e ∙ (h.lasts link.owner ∙ (ap (last_up (owners_of links) link.owner) (sym last_place) ∙ sym (same link.owner k (omega (arith, last_place))))))

-- what is read at a place stands there
pub link-read : (links : List OwnedLink) (k : ℕ) (link : OwnedLink) → k < length links → link ≡ get_or links k link → slice_get links k ≡ Some link
link-read links k link within read = slice_get-get_or links k link within ∙ ap (λ (l : OwnedLink). Some l) (sym read)

-- an owner's numbers above one are collected, from the last down
pub record Collected (owners : List ℕ) (owner n number : ℕ) (numbers : List ℕ) : Type 0 where
  pub within : number ≤ n
  pub here : 0 < number → owns_at owners owner (number - 1) ≡ true
  pub rest : numbers_up owners owner n ≡ numbers_up owners owner number ++ reverse numbers

pub collected-first : (owners : List ℕ) (owner n number : ℕ) (numbers : List ℕ) → number ≡ last_up owners owner n → numbers ≡ [] → Collected owners owner n number numbers
collected-first owners owner n number numbers e none =
    let P : ℕ → Type 0 = λ m. Collected owners owner n m numbers in
    subst P (sym e) (record {
      within = last-within owners owner n;
      here = last-owned owners owner n;
      rest = numbers-last owners owner n ∙ (sym (append-nil (numbers_up owners owner (last_up owners owner n))) ∙ ap (λ ns. numbers_up owners owner (last_up owners owner n) ++ reverse ns) (sym none));
    })

pub collected-next : (owners : List ℕ) (owner n number earlier : ℕ) (numbers more : List ℕ) → 0 < number → number ≤ n → owns_at owners owner (number - 1) ≡ true
    → numbers_up owners owner n ≡ numbers_up owners owner number ++ reverse numbers → earlier ≡ last_up owners owner (number - 1) → more ≡ numbers ++ number ∷ [] → Collected owners owner n earlier more
collected-next owners owner n number earlier numbers more some within here rest e items =
    let low = last-within owners owner (number - 1) in
    let P : List ℕ → Type 0 = λ ns. Collected owners owner n earlier ns in
    let owned : 0 < earlier → owns_at owners owner (earlier - 1) ≡ true = λ h.
    let positive : 0 < last_up owners owner (number - 1) = omega (arith, h, e) in
    ap (λ m. owns_at owners owner (m - 1)) e ∙ last-owned owners owner (number - 1) positive in
    subst P (sym items) (record {
      within = omega (arith, e, low, within);
      here = owned;
      rest = collected-more owners owner number earlier (numbers_up owners owner n) numbers some here e rest;
    })

-- ---- the numbers by a test

range-push : (a n : ℕ) → range_with_len a (suc n) ≡ range_with_len a n ++ (a + n) ∷ []
range-push a zero = let e : a ≡ a + 0 = omega arith in ap (λ m. m ∷ []) e
range-push a (suc n) = let e : a + 1 + n ≡ a + suc n = omega arith in ap (λ ns. a ∷ ns) (range-push (a + 1) n ∙ ap (λ m. range_with_len (a + 1) n ++ m ∷ []) e)

-- a filter of the numbers up to one more
pub filter-push : (test : ℕ → Bool) (n : ℕ) → filter test (range_with_len 1 (suc n)) ≡ filter test (range_with_len 1 n) ++ (if test (suc n) then suc n ∷ [] else [])
filter-push test n =
    let e : 1 + n ≡ suc n = omega arith in
    ap (filter test) (range-push 1 n ∙ ap (λ m. range_with_len 1 n ++ m ∷ []) e) ∙ filter-append test (range_with_len 1 n) (suc n ∷ [])

-- an owner's numbers are those that pass the test
pub numbers-filter : (owners : List ℕ) (owner : ℕ) (test : ℕ → Bool) → ((k : ℕ) → owns_at owners owner k ≡ test (suc k)) → (n : ℕ) → numbers_up owners owner n ≡ filter test (range_with_len 1 n)
numbers-filter owners owner test same zero = refl
numbers-filter owners owner test same (suc k) =
    ap (λ ns. ns ++ (if owns_at owners owner k then suc k ∷ [] else [])) (numbers-filter owners owner test same k)
    ∙ (ap (λ t. filter test (range_with_len 1 k) ++ (if t then suc k ∷ [] else [])) (same k) ∙ sym (filter-push test k))

unwrapped : (o : Option Share) (owner : ℕ) → option_map_or (λ other. nat_eq other owner) (option_map (λ (s : Share). s.owner) o) false ≡ option_map_or (λ (s : Share). nat_eq s.owner owner) o false
unwrapped None owner = refl
unwrapped (Some share) owner = refl

-- an owner's numbers are those of the owner's shares
pub owned-numbers : (shares : List ShareRow) (owners : List ℕ) (owner : ℕ) → owners ≡ map (λ (share : Share). share.owner) (made_of shares) → numbers_up owners owner (length owners) ≡ owned_by shares owner
owned-numbers shares owners owner e =
    numbers-filter owners owner (is_owned_by shares owner) same (length owners) ∙ ap (λ n. filter (is_owned_by shares owner) (range_with_len 1 n)) (ap length e ∙ length-map (made_of shares) (λ (share : Share). share.owner))
  where
    same : (k : ℕ) → owns_at owners owner k ≡ is_owned_by shares owner (suc k)
    same k =
        ap (λ os. owns_at os owner k) e
        ∙ (ap (λ o. option_map_or (λ other. nat_eq other owner) o false) (slice_get-map (λ (s : Share). s.owner) (made_of shares) k) ∙ unwrapped (slice_get (made_of shares) k) owner)

-- one number more is one step more
pub spent-more : (xs ys : List ℕ) (n : ℕ) → ys ≡ xs ++ n ∷ [] → length ys ≡ length xs + 1
spent-more xs ys n e = ap length e ∙ length-append xs (n ∷ [])
