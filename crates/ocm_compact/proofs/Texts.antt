-- The records of asks with their moments tell these asks and moments.
use Rattle.std.proofs.Common.{◌≡◌, ℕ, ◌^◌, ◌<◌, List, [], ◌∷◌, ◌++◌, take, drop, refl, sym, ap, ◌∙◌, Some}
use Rattle.std.specs.Int.{w64, from_be_bytes, to_be_bytes}
use Rattle.std.proofs.lemmas.List.{take_at, drop_at}
use Rattle.std.proofs.lemmas.Nat.{from_be_bytes-to_be_bytes_8}
use Rattle.ocm_entry.specs.declared.asks.Ask.{Ask}
use Rattle.ocm_entry_bytes.specs.Spells.{Fits, eight_bytes, spelling}
use Rattle.ocm_journal_records.specs.Stamps.{spelled}
use Rattle.ocm_law_alike.specs.Others.{Dated}
use Rattle.ocm_law_sessions.proofs.Stamping.{spelled-spelling}
use Rattle.ocm_compact.specs.Texts.{AllFit, dated_text, dated_texts}

none-behind : {X : Type 0} (xs : List X) (x : X) → [] ≡ xs ++ x ∷ [] → ⊥
none-behind [] x h = cc
none-behind (y ∷ xs) x h = cc

first-same : {X : Type 0} (x y : X) (xs ys : List X) → x ∷ xs ≡ y ∷ ys → (x ≡ y) × (xs ≡ ys)
first-same x y xs ys h = (cc, cc)

cons-same : {X : Type 0} (x y : X) (xs ys : List X) → x ≡ y → xs ≡ ys → x ∷ xs ≡ y ∷ ys
cons-same x y xs ys e f = rw (e, f) refl

-- lists with one item more behind them are the same where both parts are
last-same : {X : Type 0} (xs ys : List X) (x y : X) → xs ++ x ∷ [] ≡ ys ++ y ∷ [] → (xs ≡ ys) × (x ≡ y)
last-same [] [] x y h = (refl, (first-same x y [] [] h).0)
last-same [] (z ∷ zs) x y h = absurd (none-behind zs y (first-same x z [] (zs ++ y ∷ []) h).1)
last-same (w ∷ ws) [] x y h = absurd (none-behind ws x (sym (first-same w y (ws ++ x ∷ []) [] h).1))
last-same (w ∷ ws) (z ∷ zs) x y h =
    let parts = first-same w z (ws ++ x ∷ []) (zs ++ y ∷ []) h in
    let rest = last-same ws zs x y parts.1 in
    (cons-same w z ws zs parts.0 rest.0, rest.1)

some-same : (a b : Ask) → Some a ≡ Some b → a ≡ b
some-same a b h = cc

-- a record tells its ask and its moment
text-same : (m n : ℕ) (a b : Ask) → m < 2 ^ 64 → n < 2 ^ 64 → Fits a → Fits b → dated_text m a ≡ dated_text n b → (m ≡ n) × (a ≡ b)
unfolding dated_text eight_bytes
text-same m n a b small few fits also h =
    let front : to_be_bytes w64 m ≡ to_be_bytes w64 n = sym (take_at (to_be_bytes w64 m) (spelling a) 8 refl) ∙ ap (take 8) h ∙ take_at (to_be_bytes w64 n) (spelling b) 8 refl in
    let rest : spelling a ≡ spelling b = sym (drop_at (to_be_bytes w64 m) (spelling a) 8 refl) ∙ ap (drop 8) h ∙ drop_at (to_be_bytes w64 n) (spelling b) 8 refl in (
      sym (from_be_bytes-to_be_bytes_8 m small) ∙ ap (from_be_bytes w64) front ∙ from_be_bytes-to_be_bytes_8 n few,
      some-same a b (sym (spelled-spelling a fits) ∙ ap spelled rest ∙ spelled-spelling b also),
    )

dated-same : (a b : Dated) → a.moment ≡ b.moment → a.ask ≡ b.ask → a ≡ b
dated-same a b e f = λ i. record { moment = e i; ask = f i }

-- the same records are those of the same asks at the same moments
pub texts-same : (dated others : List Dated) → AllFit dated → AllFit others → dated_texts dated ≡ dated_texts others → dated ≡ others
texts-same [] [] fit also h = refl
texts-same [] (b ∷ others) fit also h = absurd (none-behind (dated_texts others) (dated_text b.moment b.ask) h)
texts-same (a ∷ dated) [] fit also h = absurd (none-behind (dated_texts dated) (dated_text a.moment a.ask) (sym h))
texts-same (a ∷ dated) (b ∷ others) fit also h =
    let parts = last-same (dated_texts dated) (dated_texts others) (dated_text a.moment a.ask) (dated_text b.moment b.ask) h in
    let first = text-same a.moment b.moment a.ask b.ask fit.0 also.0 fit.1 also.1 parts.1 in
    cons-same a b dated others (dated-same a b first.0 first.1) (texts-same dated others fit.2 also.2 parts.0)
