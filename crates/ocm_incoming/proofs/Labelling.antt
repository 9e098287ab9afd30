use Rattle.std.proofs.Common.{◌≡◌, ℕ, suc, ◌+◌, ◌<◌, ◌≤◌, List, [], ◌∷◌, ◌++◌, length, map, Bool, true, false, cond, Option, Some, None, refl, sym, ap, ◌∙◌, arith}
use Rattle.std.specs.Prelude.{nat_eq, ◌||◌, is_some, unwrap_or}
use Rattle.std.specs.List.{list_any}
use Rattle.std.specs.Bool.{Decides}
use Rattle.std.proofs.lemmas.Bool.Decides.{nat_tests}
use Rattle.std.proofs.lemmas.List.{map-append, length-map}
use Rattle.ocm_rules.specs.Numbers.{number_from, number_of}
use Rattle.ocm_rules.specs.State.{map_numbered, changed_at}
use Rattle.ocm_incoming.specs.Index.{label, labelled}
use Rattle.ocm_incoming.proofs.Firsts.{or_else, number_from-push}

-- ---- the first that passes

bounds-step : (b : Bool) (n g len : ℕ) (rest : Option ℕ) → (rest ≡ Some g → (n + 1 ≤ g) × (g < n + 1 + len)) → cond b (Some n) rest ≡ Some g → (n ≤ g) × (g < n + suc len)
bounds-step true n g len rest ih e = let same : n ≡ g = cc in (omega (arith, same), omega (arith, same))
bounds-step false n g len rest ih e = let later = ih e in (omega (arith, later), omega (arith, later))

number_from-bounds : {X : Type 0} (p : X → Bool) (n : ℕ) (xs : List X) (g : ℕ) → number_from p n xs ≡ Some g → (n ≤ g) × (g < n + length xs)
number_from-bounds p n [] g e = absurd (cc)
number_from-bounds p n (x ∷ xs) g e = bounds-step (p x) n g (length xs) (number_from p (n + 1) xs) (number_from-bounds p (n + 1) xs g) e

-- it has a number of one of the list
pub number_of-bounds : {X : Type 0} (p : X → Bool) (xs : List X) (g : ℕ) → number_of p xs ≡ Some g → (0 < g) × (g ≤ length xs)
number_of-bounds p xs g e = let b = number_from-bounds p 1 xs g e in (omega (arith, b), omega (arith, b))

-- one that passes both tests
record Both {X : Type 0} (p q : X → Bool) : Type 0 where
  one : X
  first : p one ≡ true
  second : q one ≡ true

both-step : {X : Type 0} (p q : X → Bool) (n : ℕ) (x : X) (xs : List X) (g : ℕ) (b c : Bool) → p x ≡ b → q x ≡ c → cond b (Some n) (number_from p (n + 1) xs) ≡ Some g → cond c (Some n) (number_from q (n + 1) xs) ≡ Some g → (number_from p (n + 1) xs ≡ Some g → number_from q (n + 1) xs ≡ Some g → Both p q) → Both p q
both-step p q n x xs g true true e f hp hq ih = record { one = x; first = e; second = f }
both-step p q n x xs g true false e f hp hq ih = let same : n ≡ g = cc in let later = number_from-bounds q (n + 1) xs g hq in absurd (omega (arith, same, later))
both-step p q n x xs g false true e f hp hq ih = let same : n ≡ g = cc in let later = number_from-bounds p (n + 1) xs g hp in absurd (omega (arith, same, later))
both-step p q n x xs g false false e f hp hq ih = ih hp hq

-- the first of two tests, where it has the same number, passes both
both-pass : {X : Type 0} (p q : X → Bool) (n : ℕ) (xs : List X) (g : ℕ) → number_from p n xs ≡ Some g → number_from q n xs ≡ Some g → Both p q
both-pass p q n [] g hp hq = absurd (cc)
both-pass p q n (x ∷ xs) g hp hq = both-step p q n x xs g (p x) (q x) refl refl hp hq (both-pass p q (n + 1) xs g)

-- ---- labels

same-bool : (a b : Bool) → (a ≡ true → b ≡ true) → (b ≡ true → a ≡ true) → a ≡ b
same-bool true true f g = refl
same-bool true false f g = sym (f refl)
same-bool false true f g = g refl
same-bool false false f g = refl

labelled-some : (o : Option ℕ) (g : ℕ) → 0 < g → unwrap_or o 0 ≡ g → o ≡ Some g
labelled-some None g h e = absurd (omega (arith, h, e))
labelled-some (Some m) g h e = ap (λ k. Some k) e

same-keys : {K : Type 0} (eq : K → K → Bool) → ((a b : K) → Decides (eq a b) (a ≡ b)) → (y x k : K) → eq y x ≡ true → eq y k ≡ true → x ≡ k
same-keys eq dec y x k e f = sym ((dec y x).0 e) ∙ (dec y k).0 f

-- keys have the label of a key exactly where they are the same
pub label-is : {K : Type 0} (eq : K → K → Bool) → ((a b : K) → Decides (eq a b) (a ≡ b)) → (ks : List K) (k x : K) (g : ℕ) → number_of (λ j. eq j k) ks ≡ Some g → nat_eq (label eq ks x) g ≡ eq x k
label-is {K} eq dec ks k x g found =
    let low = (number_of-bounds (λ j. eq j k) ks g found).0 in
    let to : nat_eq (label eq ks x) g ≡ true → eq x k ≡ true = λ t.
    let same : label eq ks x ≡ g = grind (arith, nat_tests) in
    let at = labelled-some (number_of (λ j. eq j x) ks) g low same in
    let both = both-pass (λ j. eq j k) (λ j. eq j x) 1 ks g found at in
    (dec x k).1 (same-keys eq dec both.one x k both.second both.first) in
    let from : eq x k ≡ true → nat_eq (label eq ks x) g ≡ true = λ t.
    let same : label eq ks x ≡ g = ap (λ y. label eq ks y) ((dec x k).0 t) ∙ ap (λ o. unwrap_or o 0) found in
    grind (arith, nat_tests) in
    same-bool (nat_eq (label eq ks x) g) (eq x k) to from

nat_eq-sym : (i j : ℕ) → nat_eq i j ≡ nat_eq j i
nat_eq-sym i j = grind (arith, nat_tests)

pub is-label : {K : Type 0} (eq : K → K → Bool) → ((a b : K) → Decides (eq a b) (a ≡ b)) → (ks : List K) (k x : K) (g : ℕ) → number_of (λ j. eq j k) ks ≡ Some g → nat_eq g (label eq ks x) ≡ eq x k
is-label eq dec ks k x g found = nat_eq-sym g (label eq ks x) ∙ label-is eq dec ks k x g found

-- ---- one row more

found-step : (b : Bool) (n : ℕ) (o : Option ℕ) (any : Bool) → is_some o ≡ any → is_some (cond b (Some n) o) ≡ (b || any)
found-step true n o any e = refl
found-step false n o any e = e

-- one has a number exactly where one passes
pub number_from-found : {X : Type 0} (p : X → Bool) (n : ℕ) (xs : List X) → is_some (number_from p n xs) ≡ list_any p xs
number_from-found p n [] = refl
number_from-found p n (x ∷ xs) = found-step (p x) n _ _ (number_from-found p (n + 1) xs)

-- the key of each row is among these
abbrev AreAmong : {K X : Type 0} → (K → K → Bool) → (X → K) → List K → List X → Type 0
AreAmong eq key ks [] = Unit {0}
AreAmong eq key ks (x ∷ xs) = (list_any (λ j. eq j (key x)) ks ≡ true) × AreAmong eq key ks xs

or-true : (b c : Bool) → c ≡ true → (b || c) ≡ true
or-true true c e = refl
or-true false c e = e

or-left : (b c : Bool) → b ≡ true → (b || c) ≡ true
or-left true c e = refl
or-left false c e = absurd (cc)

more-among : {K X : Type 0} (eq : K → K → Bool) (key : X → K) (k : K) (ks : List K) (xs : List X) → AreAmong eq key ks xs → AreAmong eq key (k ∷ ks) xs
more-among eq key k ks [] h = tt
more-among eq key k ks (x ∷ xs) h = (or-true (eq k (key x)) (list_any (λ j. eq j (key x)) ks) h.0, more-among eq key k ks xs h.1)

all-among : {K X : Type 0} (eq : K → K → Bool) → ((a b : K) → Decides (eq a b) (a ≡ b)) → (key : X → K) (xs : List X) → AreAmong eq key (map key xs) xs
all-among eq dec key [] = tt
all-among eq dec key (x ∷ xs) = (or-left (eq (key x) (key x)) (list_any (λ j. eq j (key x)) (map key xs)) ((dec (key x) (key x)).1 refl), more-among eq key (key x) (map key xs) xs (all-among eq dec key xs))

or_else-found : (o last : Option ℕ) → is_some o ≡ true → or_else o last ≡ o
or_else-found None last e = absurd (cc)
or_else-found (Some n) last e = refl

label-stays : {K : Type 0} (eq : K → K → Bool) (ks : List K) (more k : K) → list_any (λ j. eq j k) ks ≡ true → label eq (ks ++ more ∷ []) k ≡ label eq ks k
label-stays eq ks more k among =
    let pushed = number_from-push (λ j. eq j k) 1 ks more (1 + length ks) refl in
    let found : is_some (number_of (λ j. eq j k) ks) ≡ true = number_from-found (λ j. eq j k) 1 ks ∙ among in
    ap (λ o. unwrap_or o 0) (pushed ∙ or_else-found (number_of (λ j. eq j k) ks) _ found)

stays : {K X Y : Type 0} (eq : K → K → Bool) (key : X → K) (f : ℕ → X → Y) (ks : List K) (more : K) (xs : List X) → AreAmong eq key ks xs → map (λ x. f (label eq (ks ++ more ∷ []) (key x)) x) xs ≡ map (λ x. f (label eq ks (key x)) x) xs
stays eq key f ks more [] h = refl
stays eq key f ks more (x ∷ xs) h =
    let one = label-stays eq ks more (key x) h.0 in
    let rest = stays eq key f ks more xs h.1 in
    rw (one, rest) refl

unwrap-or_else : (o : Option ℕ) (last : ℕ) → unwrap_or (or_else o (Some last)) 0 ≡ unwrap_or o last
unwrap-or_else None last = refl
unwrap-or_else (Some n) last = refl

label-new : {K : Type 0} (eq : K → K → Bool) → ((a b : K) → Decides (eq a b) (a ≡ b)) → (ks : List K) (k : K) (last : ℕ) → last ≡ length ks + 1 → label eq (ks ++ k ∷ []) k ≡ unwrap_or (number_of (λ j. eq j k) ks) last
label-new eq dec ks k last e =
    let pushed = number_from-push (λ j. eq j k) 1 ks k last (omega arith) in
    let own : eq k k ≡ true = (dec k k).1 refl in
    let new = rw own at pushed in
    ap (λ o. unwrap_or o 0) new ∙ unwrap-or_else (number_of (λ j. eq j k) ks) last

-- the labels of rows with one more
pub labelled-push : {K X Y : Type 0} (eq : K → K → Bool) → ((a b : K) → Decides (eq a b) (a ≡ b)) → (key : X → K) (f : ℕ → X → Y) (xs : List X) (x : X) (last g : ℕ) → last ≡ length xs + 1 → g ≡ unwrap_or (number_of (λ j. eq j (key x)) (map key xs)) last → labelled eq key f xs ++ f g x ∷ [] ≡ labelled eq key f (xs ++ x ∷ [])
labelled-push eq dec key f xs x last g e l =
    let old = stays eq key f (map key xs) (key x) xs (all-among eq dec key xs) in
    let long : last ≡ length (map key xs) + 1 = rw length-map e in
    let new = label-new eq dec (map key xs) (key x) last long in
    let keys : map key (xs ++ x ∷ []) ≡ map key xs ++ key x ∷ [] = map-append key xs (x ∷ []) in
    sym (rw (keys, map-append, old, new, l) refl)

-- ---- a row changed

pub map-changed : {X Y : Type 0} (f : X → Y) (change : X → X) (other : Y → Y) (n k : ℕ) (xs : List X) → ((x : X) → f (change x) ≡ other (f x)) → map f (map_numbered (λ j x. cond (nat_eq n j) (change x) x) k xs) ≡ map_numbered (λ j y. cond (nat_eq n j) (other y) y) k (map f xs)
map-changed f change other n k [] h = refl
map-changed f change other n k (x ∷ xs) h =
    let rest = map-changed f change other n (k + 1) xs h in
    let one = changed-one (nat_eq n k) in
    rw (rest, one) refl
  where
    changed-one : (b : Bool) → f (cond b (change x) x) ≡ cond b (other (f x)) (f x)
    changed-one true = h x
    changed-one false = refl

unchanged : {Y : Type 0} (n k : ℕ) (ys : List Y) → map_numbered (λ j y. cond (nat_eq n j) y y) k ys ≡ ys
unchanged n k [] = refl
unchanged n k (y ∷ ys) = let rest = unchanged n (k + 1) ys in let one = alike (nat_eq n k) in rw (rest, one) refl
  where
    alike : (b : Bool) → cond b y y ≡ y
    alike true = refl
    alike false = refl

-- a part that a change leaves
pub map-unchanged : {X Y : Type 0} (f : X → Y) (change : X → X) (n : ℕ) (xs : List X) → ((x : X) → f (change x) ≡ f x) → map f (changed_at n change xs) ≡ map f xs
map-unchanged f change n xs h = map-changed f change (λ y. y) n 1 xs h ∙ unchanged n 1 (map f xs)

-- the labels of rows where one is changed that keeps its key
pub labelled-changed : {K X Y : Type 0} (eq : K → K → Bool) (key : X → K) (f : ℕ → X → Y) (change : X → X) (other : Y → Y) (n : ℕ) (xs : List X) → ((x : X) → key (change x) ≡ key x) → ((m : ℕ) (x : X) → f m (change x) ≡ other (f m x)) → labelled eq key f (changed_at n change xs) ≡ changed_at n other (labelled eq key f xs)
labelled-changed {K} {X} eq key f change other n xs h g =
    let keys = map-unchanged key change n xs h in
    let each = λ (x : X). ap (λ (k : K). f (label eq (map key xs) k) (change x)) (h x) ∙ g (label eq (map key xs) (key x)) x in
    rw keys (map-changed (λ x. f (label eq (map key xs) (key x)) x) change other n 1 xs each)

pub labelled-unchanged : {K X Y : Type 0} (eq : K → K → Bool) (key : X → K) (f : ℕ → X → Y) (change : X → X) (n : ℕ) (xs : List X) → ((x : X) → key (change x) ≡ key x) → ((m : ℕ) (x : X) → f m (change x) ≡ f m x) → labelled eq key f (changed_at n change xs) ≡ labelled eq key f xs
labelled-unchanged eq key f change n xs h g = labelled-changed eq key f change (λ y. y) n xs h g ∙ unchanged n 1 (labelled eq key f xs)
