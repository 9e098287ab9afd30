-- Histories, and calls of one's own in them.
use Rattle.std.proofs.Common.{◌≡◌, ◌≢◌, ℕ, suc, ◌+◌, ◌<◌, ◌≤◌, ◌++◌, List, [], ◌∷◌, length, Bool, true, false, cond, Option, Some, None, sym, refl, arith, ap, subst, ◌∙◌, append_assoc, length-append, eq-eqb, ne_eqb}
use Rattle.std.proofs.lemmas.Bool.{ltb-true, ltb-false, eqb-true}
use Rattle.std.specs.Prelude.{nat_lt, nat_eq}
use Rattle.ocm_entry.specs.declared.entries.Entry.{Entry}
use Rattle.ocm_turn.specs.declared.view.Call.{Call}
use Rattle.ocm_turn.specs.Calls.{IsOlderPart, entry_at, Each, StandIn, InOrder, Disjoint, placed, merged, longer, shorter, moments_of_longer, moments_of_shorter}

pub none_some : {A : Type 0} → (a : A) → None ≡ Some a → ⊥
none_some {A} a e = subst (λ (o : Option A). elim o as (λ _. Type 0) [ None ↦ Unit {0} | Some _ ↦ ⊥ ]) e tt

-- a place at which an entry stands lies in the history
pub inside : (h : List Entry) (n : ℕ) (e : Entry) → entry_at h n ≡ Some e → n < length h
inside [] n e at = absurd (none_some e at)
inside (x ∷ h) n e at = elim (nat_eq n (length h)) as (λ b. nat_eq n (length h) ≡ b → cond b (Some x) (entry_at h n) ≡ Some e → n < suc (length h)) [
  | true ↦ λ same _. let s = eqb-true n (length h) same in omega (arith, s)
  | false ↦ λ _ before. let s = inside h n e before in omega (arith, s)
] refl at

-- one entry more changes no place
pub at_newer : (h : List Entry) (n : ℕ) (e x : Entry) → entry_at h n ≡ Some e → entry_at (x ∷ h) n ≡ Some e
at_newer h n e x at =
    let low = inside h n e at in
    let other : nat_eq n (length h) ≡ false = ne_eqb n (length h) (λ same. omega (arith, low, same)) in
    ap (λ (b : Bool). cond b (Some x) (entry_at h n)) other ∙ at

pub at_more : (newer h : List Entry) (n : ℕ) (e : Entry) → entry_at h n ≡ Some e → entry_at (newer ++ h) n ≡ Some e
at_more [] h n e at = at
at_more (x ∷ newer) h n e at = at_newer (newer ++ h) n e x (at_more newer h n e at)

-- the newest entry stands behind all before it
pub at_front : (h : List Entry) (e : Entry) → entry_at (e ∷ h) (length h) ≡ Some e
at_front h e = ap (λ (b : Bool). cond b (Some e) (entry_at h (length h))) (eq-eqb (length h) (length h) refl)

pub older_self : {A : Type 0} → (h : List A) → IsOlderPart h h
older_self h = ([], refl)

pub older_through : {A : Type 0} → (a b c : List A) → IsOlderPart a b → IsOlderPart b c → IsOlderPart a c
older_through {A} a b c p q = (q.0 ++ p.0, q.1 ∙ (ap (λ (l : List A). q.0 ++ l) p.1 ∙ sym (append_assoc q.0 p.0 a)))

pub older_length : {A : Type 0} → (a b : List A) → IsOlderPart a b → length a ≤ length b
older_length a b p = let n : length b ≡ length p.0 + length a = ap length p.1 ∙ length-append p.0 a in omega (arith, n)

-- of two older parts of one list the shorter is one of the longer
pub older_both : {A : Type 0} → (newer other a b : List A) → newer ++ a ≡ other ++ b → length b ≤ length a → IsOlderPart b a
older_both {A} [] other a b e le = (other, e)
older_both {A} (x ∷ newer) [] a b e le = let n : length b ≡ suc (length newer + length a) = sym (ap length e) ∙ ap suc (length-append newer a) in absurd (omega (arith, n))
older_both {A} (x ∷ newer) (y ∷ other) a b e le = older_both newer other a b (ap (λ (l : List A). elim l as (λ _. List A) [ [] ↦ [] | z ∷ zs ↦ zs ]) e) le

pub older_two : {A : Type 0} → (a b whole : List A) → IsOlderPart a whole → IsOlderPart b whole → length b ≤ length a → IsOlderPart b a
older_two {A} a b whole p q le = older_both p.0 q.0 a b (sym p.1 ∙ q.1) le

-- an older part that is as long is the whole
pub older_whole : (a b : List Entry) → IsOlderPart a b → length b ≤ length a → a ≡ b
older_whole a b p le = let q : IsOlderPart b a = older_two a b b p (older_self b) le in all q.0 q.1 where
  all : (newer : List Entry) → a ≡ newer ++ b → a ≡ b
  all [] e = e
  all (x ∷ newer) e = let n : length a ≡ suc (length newer + length b) = ap length e ∙ ap suc (length-append newer b) in let m = older_length a b p in absurd (omega (arith, n, m))

module _ (P Q : Call → Type 0) where
  pub each_map : (cs : List Call) → ((c : Call) → P c → Q c) → Each P cs → Each Q cs
  each_map [] f h = tt
  each_map (c ∷ cs) f h = (f c h.0, each_map cs f h.1)

module _ (P : Call → Type 0) where
  pub each_placed : (c : Call) (ds : List Call) → P c → Each P ds → Each P (placed c ds)
  each_placed c [] h k = (h, tt)
  each_placed c (d ∷ ds) h k = elim (nat_lt d.place c.place) as (λ b. Each P (cond b (c ∷ d ∷ ds) (d ∷ placed c ds))) [
    | true ↦ (h, k)
    | false ↦ (k.0, each_placed c ds h k.1)
  ]

  pub each_merged : (xs ys : List Call) → Each P xs → Each P ys → Each P (merged xs ys)
  each_merged [] ys h k = k
  each_merged (x ∷ xs) ys h k = each_placed x (merged xs ys) h.0 (each_merged xs ys h.1 k)

-- what stands in an older part stands in the whole
pub stand_older : (a b : List Entry) (cs : List Call) → IsOlderPart a b → StandIn a cs → StandIn b cs
stand_older a b cs p h = each_map (λ c. entry_at a c.place ≡ Some c.entry) (λ c. entry_at b c.place ≡ Some c.entry) cs
    (λ c at. ap (λ (l : List Entry). entry_at l c.place) p.1 ∙ at_more p.0 a c.place c.entry at) h

-- what stands in a history stands below its length
pub stand_below : (h : List Entry) (cs : List Call) → StandIn h cs → Each (λ c. c.place < length h) cs
stand_below h cs = each_map (λ c. entry_at h c.place ≡ Some c.entry) (λ c. c.place < length h) cs (λ c at. inside h c.place c.entry at)

-- calls at different places below a number are no more than it
pub length_in_order : (cs : List Call) (n : ℕ) → InOrder cs → Each (λ c. c.place < n) cs → length cs ≤ n
length_in_order [] n h k = omega arith
length_in_order (c ∷ cs) n h k = let s = length_in_order cs c.place h.1 h.0 in let below : c.place < n = k.0 in omega (arith, s, below)

pub length_placed : (c : Call) (ds : List Call) → length (placed c ds) ≡ suc (length ds)
length_placed c [] = refl
length_placed c (d ∷ ds) = elim (nat_lt d.place c.place) as (λ b. length (cond b (c ∷ d ∷ ds) (d ∷ placed c ds)) ≡ suc (suc (length ds))) [
  | true ↦ refl
  | false ↦ ap suc (length_placed c ds)
]

pub length_merged : (xs ys : List Call) → length (merged xs ys) ≡ length xs + length ys
length_merged [] ys = omega arith
length_merged (x ∷ xs) ys = let a = length_placed x (merged xs ys) in let b = length_merged xs ys in omega (arith, a, b)

pub disjoint_sym : (xs ys : List Call) → Disjoint xs ys → Disjoint ys xs
disjoint_sym xs [] h = tt
disjoint_sym xs (y ∷ ys) h = (
  each_map (λ x. Each (λ z. x.place ≢ z.place) (y ∷ ys)) (λ x. y.place ≢ x.place) xs (λ x g e. g.0 (sym e)) h,
  disjoint_sym xs ys (each_map (λ x. Each (λ z. x.place ≢ z.place) (y ∷ ys)) (λ x. Each (λ z. x.place ≢ z.place) ys) xs (λ x g. g.1) h),
)

pub disjoint_none : (xs : List Call) → Disjoint xs []
disjoint_none [] = tt
disjoint_none (x ∷ xs) = (tt, disjoint_none xs)

in_order_placed : (c : Call) (ds : List Call) → InOrder ds → Each (λ d. c.place ≢ d.place) ds → InOrder (placed c ds)
in_order_placed c [] h k = (tt, tt)
in_order_placed c (d ∷ ds) h k =
    let other : c.place ≢ d.place = k.0 in
    elim (nat_lt d.place c.place) as (λ b. nat_lt d.place c.place ≡ b → InOrder (cond b (c ∷ d ∷ ds) (d ∷ placed c ds))) [
      | true ↦ λ e. let less : d.place < c.place = ltb-true d.place c.place e in ((less, each_map (λ x. x.place < d.place) (λ x. x.place < c.place) ds (λ x g. omega (arith, g, less)) h.0), h)
      | false ↦ λ e. let not_less = ltb-false d.place c.place e in let more : c.place < d.place = omega (arith, not_less, other) in (each_placed (λ x. x.place < d.place) c ds more h.0, in_order_placed c ds h.1 k.1)
    ] refl

pub in_order_merged : (xs ys : List Call) → InOrder xs → InOrder ys → Disjoint xs ys → InOrder (merged xs ys)
in_order_merged [] ys h k apart = k
in_order_merged (x ∷ xs) ys h k apart = in_order_placed x (merged xs ys) (in_order_merged xs ys h.1 k apart.1)
    (each_merged (λ d. x.place ≢ d.place) xs ys (each_map (λ d. d.place < x.place) (λ d. x.place ≢ d.place) xs (λ d g e. omega (arith, g, e)) h.0) apart.0)

-- the shorter of two older parts of one list is an older part of the longer
pub shorter_longer : (a b whole : List Entry) → IsOlderPart a whole → IsOlderPart b whole → IsOlderPart (shorter a b) (longer a b)
shorter_longer a b whole p q = elim (nat_lt (length a) (length b)) as (λ c. nat_lt (length a) (length b) ≡ c → IsOlderPart (cond c a b) (cond c b a)) [
  | true ↦ λ e. let less = ltb-true (length a) (length b) e in older_two b a whole q p (omega (arith, less))
  | false ↦ λ e. older_two a b whole p q (ltb-false (length a) (length b) e)
] refl

-- so are the moments of the shorter one of those of the longer
pub shorter_longer_moments : (a b : List Entry) (of_a of_b whole : List ℕ) → length of_a ≡ length a → length of_b ≡ length b → IsOlderPart of_a whole → IsOlderPart of_b whole
    → IsOlderPart (moments_of_shorter a b of_a of_b) (moments_of_longer a b of_a of_b)
shorter_longer_moments a b of_a of_b whole n m p q = elim (nat_lt (length a) (length b)) as (λ c. nat_lt (length a) (length b) ≡ c → IsOlderPart (cond c of_a of_b) (cond c of_b of_a)) [
  | true ↦ λ e. let less = ltb-true (length a) (length b) e in older_two of_b of_a whole q p (omega (arith, less, n, m))
  | false ↦ λ e. let less = ltb-false (length a) (length b) e in older_two of_a of_b whole p q (omega (arith, less, n, m))
] refl

pub longer_either : (P : List Entry → Type 0) (a b : List Entry) → P a → P b → P (longer a b)
longer_either P a b x y = elim (nat_lt (length a) (length b)) as (λ c. P (cond c b a)) [ true ↦ y | false ↦ x ]

-- both are older parts of the longer
pub left_older : (a b whole : List Entry) → IsOlderPart a whole → IsOlderPart b whole → IsOlderPart a (longer a b)
left_older a b whole p q = elim (nat_lt (length a) (length b)) as (λ c. nat_lt (length a) (length b) ≡ c → IsOlderPart a (cond c b a)) [
  | true ↦ λ e. let less = ltb-true (length a) (length b) e in older_two b a whole q p (omega (arith, less))
  | false ↦ λ e. older_self a
] refl

pub right_older : (a b whole : List Entry) → IsOlderPart a whole → IsOlderPart b whole → IsOlderPart b (longer a b)
right_older a b whole p q = elim (nat_lt (length a) (length b)) as (λ c. nat_lt (length a) (length b) ≡ c → IsOlderPart b (cond c b a)) [
  | true ↦ λ e. older_self b
  | false ↦ λ e. older_two a b whole p q (ltb-false (length a) (length b) e)
] refl

-- the longer of two older parts, of which one is the whole
pub longer_left : (a b whole : List Entry) → IsOlderPart b whole → a ≡ whole → longer a b ≡ whole
longer_left a b whole q e = elim (nat_lt (length a) (length b)) as (λ c. nat_lt (length a) (length b) ≡ c → cond c b a ≡ whole) [
  | true ↦ λ less. let l = ltb-true (length a) (length b) less in let m = older_length b whole q in let n : length a ≡ length whole = ap length e in absurd (omega (arith, l, m, n))
  | false ↦ λ _. e
] refl

pub longer_right : (a b whole : List Entry) → IsOlderPart a whole → b ≡ whole → longer a b ≡ whole
longer_right a b whole p e = elim (nat_lt (length a) (length b)) as (λ c. nat_lt (length a) (length b) ≡ c → cond c b a ≡ whole) [
  | true ↦ λ _. e
  | false ↦ λ less. let l = ltb-false (length a) (length b) less in let n : length b ≡ length whole = ap length e in older_whole a whole p (omega (arith, l, n))
] refl
