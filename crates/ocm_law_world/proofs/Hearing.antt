-- What a guest was told of its permissions was said by the owner.
use Rattle.std.proofs.Common.{◌≡◌, ℕ, ◌+◌, ◌<◌, List, [], ◌∷◌, length, Bool, true, false, ◌&&◌, ◌||◌, refl, sym, ap, ◌∙◌, subst, arith, eq-eqb}
use Rattle.std.specs.Prelude.{Option, Some, None, ◌⊎◌, if◌then◌else◌, nat_le, nat_lt, nat_eq, decimal, filter_map}
use Rattle.std.specs.List.{cons_option, list_any}
use Rattle.std.specs.Option.{option_map_or}
use Rattle.std.proofs.lemmas.Bool.{ltb-true}
use mathlib.Core.Logic.{inl, inr}
use Rattle.ocm_types.specs.declared.letters.Letter.TheVariants as letters
use Rattle.ocm_types.specs.declared.letters.Notice.TheVariants as notices
use Rattle.ocm_types.specs.declared.letters.Offer.{Offer}
use Rattle.ocm_entry.specs.declared.asks.Ask.{Ask}
use Rattle.ocm_entry.specs.declared.asks.Ask.TheVariants as asks
use Rattle.ocm_entry.specs.declared.entries.Entry.{Entry}
use Rattle.ocm_entry.specs.declared.rows.Share.{Share}
use Rattle.ocm_rules.specs.declared.rows.Message.{Message}
use Rattle.ocm_rules.specs.declared.rows.Told.{Told}
use Rattle.ocm_rules.specs.Equal.{same_rights}
use Rattle.ocm_rules.specs.Numbers.{at_number}
use Rattle.ocm_rules.specs.Offers.{greatest, is_of, offers, since_offer, told, told_by, told_first}
use Rattle.ocm_rules.specs.Shares.{address_of, effective, made, named}
use Rattle.ocm_rules.specs.Users.{users}
use Rattle.ocm_rules.specs.Views.{limits}
use Rattle.ocm_rules.specs.Messages.{is_change, out}
use Rattle.ocm_rules.specs.History.{IsAnswered}
use Rattle.ocm_rules.proofs.Lists.{count_by-cons}
use Rattle.ocm_rules.proofs.Searches.{some-same}
use Rattle.ocm_law_grants.proofs.Permissions.{within-itself}
use Rattle.ocm_law_world.specs.Guests.{HearsOwnerAlone, IsAfterLimit, IsMade, IsSaid, tells}
use Rattle.ocm_law_world.specs.World.{IsReached, Session, World, kept_at}
use Rattle.ocm_law_world.proofs.Changes.{changes-limited, id-names, made-later}
use Rattle.ocm_law_world.proofs.Laws.{answered-reached}

-- ---- what was told last

-- an entry that tells something, tells it
tells-it : (offer : Offer) (new : Told) (ask : Ask) → told_by offer ask ≡ Some new → tells offer new ask ≡ true
tells-it offer new (asks.Notice (notices.Changed id secret serial perms) fresh) h = by_test (is_of id secret offer) h
  where
    it : Told
    it = record { serial = serial; perms = perms }

    by_test : (b : Bool) → (if b then Some it else None) ≡ Some new → (b && nat_eq serial new.serial && same_rights perms new.perms) ≡ true
    by_test true k =
        let same : it ≡ new = some-same it new k in
        let itself : nat_eq serial serial ≡ true = eq-eqb serial serial refl in
        let within = within-itself perms in
        let P : Told → Type 0 = λ t. (true && nat_eq serial t.serial && same_rights perms t.perms) ≡ true in
        subst P same (rw (itself, within) refl)
    by_test false k = absurd (cc)
tells-it offer new _ h = absurd (cc)

-- what was told last is what the offer said, or was told by one of the entries
WasHeard : Offer → Told → List Entry → Type 0
WasHeard offer last g = (last ≡ told_first offer) ⊎ (list_any (λ (e : Entry). tells offer last e.ask) g ≡ true)

heard-more : (offer : Offer) (last : Told) (e : Entry) (g : List Entry) → WasHeard offer last g → WasHeard offer last (e ∷ g)
unfolding WasHeard
heard-more offer last e g (inl first) = inl first
heard-more offer last e g (inr any) = inr (either (tells offer last e.ask) any)
  where
    either : (b : Bool) → list_any (λ (x : Entry). tells offer last x.ask) g ≡ true → (b || list_any (λ (x : Entry). tells offer last x.ask) g) ≡ true
    either true h = refl
    either false h = h

last-heard : (offer : Offer) (n : ℕ) (g : List Entry) → WasHeard offer (greatest (told_first offer) (filter_map (λ (e : Entry). told_by offer e.ask) (since_offer n g))) g
unfolding WasHeard
last-heard offer n [] = inl refl
last-heard offer n (e ∷ before) = by_place (heard-more offer (before_it) e before (last-heard offer n before)) (nat_le n (length (offers before)))
  where
    tops : List Entry → Told
    tops l = greatest (told_first offer) (filter_map (λ (x : Entry). told_by offer x.ask) l)

    before_it : Told
    before_it = tops (since_offer n before)

    by_order : (new : Told) → told_by offer e.ask ≡ Some new → (WasHeard offer before_it (e ∷ before)) → (b : Bool) → WasHeard offer (if b then new else before_it) (e ∷ before)
    by_order new is older true = inr (rw (tells-it offer new e.ask is) refl)
    by_order new is older false = older

    by_telling : WasHeard offer before_it (e ∷ before) → (o : Option Told) → told_by offer e.ask ≡ o → WasHeard offer (greatest (told_first offer) (cons_option o (filter_map (λ (x : Entry). told_by offer x.ask) (since_offer n before)))) (e ∷ before)
    by_telling older None is = older
    by_telling older (Some new) is = by_order new is older (nat_lt before_it.serial new.serial)

    by_place : WasHeard offer before_it (e ∷ before) → (b : Bool) → WasHeard offer (tops (if b then e ∷ since_offer n before else [])) (e ∷ before)
    by_place older true = by_telling older (told_by offer e.ask) refl
    by_place older false = inl refl

told-heard : (g : List Entry) (n : ℕ) (offer : Offer) → at_number (offers g) n ≡ Some offer → WasHeard offer (told g n) g
told-heard g n offer is =
    let P : Option Offer → Type 0 = λ o. WasHeard offer (option_map_or (λ offer. greatest (told_first offer) (filter_map (λ (e : Entry). told_by offer e.ask) (since_offer n g))) o (record { serial = 0; perms = record { read = false; write = false; share = false } })) g in
    subst P (sym is) (last-heard offer n g)

-- ---- what the owner said

-- what a message tells is what its share permits after a limit
said-limited : (host : List ℕ) (g : List Entry) (offer : Offer) (said : Told) (number : ℕ) (m : Message) → IsAnswered host g → at_number (out host g) number ≡ Some m
    → m.letter ≡ letters.Notice (notices.Changed offer.id offer.secret said.serial said.perms) → IsAfterLimit host g offer said
said-limited host g offer said number m answered sent letter =
    let l = changes-limited host g number m sent (ap is_change letter) in
    let there = subst (λ k. at_number (made host k) l.id ≡ Some l.share) (sym l.stands) (made-later host l.later (l.limit ∷ l.before) l.id l.share l.made) in
    let same : letters.Notice (notices.Changed (decimal l.id) l.share.secret (limits (l.limit ∷ l.before)) (effective host (l.limit ∷ l.before) l.id)) ≡ letters.Notice (notices.Changed offer.id offer.secret said.serial said.perms) =
    sym (ap (λ (k : Message). k.letter) l.message) ∙ letter in
    let id : decimal l.id ≡ offer.id = cc in
    let secret : l.share.secret ≡ offer.secret = cc in
    let serial : limits (l.limit ∷ l.before) ≡ said.serial = cc in
    let perms : effective host (l.limit ∷ l.before) l.id ≡ said.perms = cc in
    record {
      id = l.id;
      share = l.share;
      named = ap named (sym id) ∙ id-names host g l.id l.share answered there;
      made = l.made;
      secret = secret;
      later = l.later;
      limit = l.limit;
      before = l.before;
      stands = l.stands;
      is_limit = l.is_limit;
      number = serial;
      perms = sym perms;
    }

-- a limit counts
pub limit-counts : (e : Entry) (before : List Entry) → Rattle.ocm_rules.specs.Views.is_limit e.ask ≡ true → 0 < limits (e ∷ before)
limit-counts e before is =
    let counted = count_by-cons (λ (x : Entry). Rattle.ocm_rules.specs.Views.is_limit x.ask) e before ∙ ap (λ b. if b then limits before + 1 else limits before) is in
    omega (arith, counted)

-- ---- the two together

-- the offer's owner has a session, after a limit of which the guest was told this
abbrev SaidAfterLimit : World → Offer → Told → Type 0
SaidAfterLimit w offer last = (s : Session) × (w.session offer.owner.host ≡ Some s) × IsAfterLimit offer.owner.host (kept_at offer.owner.host s) offer last

said-after : (w : World) (offer : Offer) (last : Told) → IsReached w → IsSaid w offer last → SaidAfterLimit w offer last
said-after w offer last reached (s, number, message, is, sent, letter) =
    (s, is, said-limited offer.owner.host (kept_at offer.owner.host s) offer last number message (answered-reached w offer.owner.host s reached is) sent letter)

either-told : (w : World) (host : List ℕ) (s : Session) (n : ℕ) (offer : Offer) → IsReached w → at_number (offers (kept_at host s)) n ≡ Some offer → HearsOwnerAlone w host s offer
    → (told (kept_at host s) n ≡ told_first offer) ⊎ SaidAfterLimit w offer (told (kept_at host s) n)
unfolding WasHeard
either-told w host s n offer reached there alone = by_case (told-heard (kept_at host s) n offer there)
  where
    last : Told
    last = told (kept_at host s) n

    by_case : (last ≡ told_first offer) ⊎ (list_any (λ (e : Entry). tells offer last e.ask) (kept_at host s) ≡ true) → (last ≡ told_first offer) ⊎ SaidAfterLimit w offer last
    by_case (inl first) = inl first
    by_case (inr any) = inr (said-after w offer last reached (alone last any))

-- of what was told with the serial 0 the greatest is what stood at the beginning
greatest-first : (start : Told) (l : List Told) → (greatest start l).serial ≡ 0 → greatest start l ≡ start
greatest-first start [] none = refl
greatest-first start (new ∷ older) none = by_order (nat_lt before.serial new.serial) refl none (greatest-first start older)
  where
    before : Told
    before = greatest start older

    by_order : (b : Bool) → nat_lt before.serial new.serial ≡ b → (if b then new else before).serial ≡ 0 → (before.serial ≡ 0 → before ≡ start) → (if b then new else before) ≡ start
    by_order true less zero_serial old = let above = ltb-true before.serial new.serial less in absurd (omega arith)
    by_order false less zero_serial old = old zero_serial

pub told-first : (g : List Entry) (n : ℕ) (offer : Offer) → at_number (offers g) n ≡ Some offer → (told g n).serial ≡ 0 → (told g n).perms ≡ offer.perms
told-first g n offer there =
    let news : List Told = filter_map (λ (e : Entry). told_by offer e.ask) (since_offer n g) in
    let P : Option Offer → Type 0 = λ o. let last : Told = option_map_or (λ offer. greatest (told_first offer) (filter_map (λ (e : Entry). told_by offer e.ask) (since_offer n g))) o (record { serial = 0; perms = record { read = false; write = false; share = false } }) in last.serial ≡ 0 → last.perms ≡ offer.perms in
    subst P (sym there) (λ none. ap (λ (t : Told). t.perms) (greatest-first (told_first offer) news none))

pub told-later : (w : World) (host : List ℕ) (s : Session) (n : ℕ) (offer : Offer) → IsReached w → w.session host ≡ Some s → at_number (offers (kept_at host s)) n ≡ Some offer → HearsOwnerAlone w host s offer
    → 0 < (told (kept_at host s) n).serial → SaidAfterLimit w offer (told (kept_at host s) n)
told-later w host s n offer reached is there alone some_serial = by_case (either-told w host s n offer reached there alone)
  where
    last : Told
    last = told (kept_at host s) n

    by_case : (last ≡ told_first offer) ⊎ SaidAfterLimit w offer last → SaidAfterLimit w offer last
    by_case (inl first) = let none = ap (λ (t : Told). t.serial) first in absurd (omega arith)
    by_case (inr said) = said

-- the share of a confirmed record that was told something is the one that the owner made for it
pub told-share : (w : World) (offer : Offer) (last : Told) (s : Session) (l : IsAfterLimit offer.owner.host (kept_at offer.owner.host s) offer last) → w.session offer.owner.host ≡ Some s → IsMade w offer
    → (address_of offer.owner.host (users (kept_at offer.owner.host s)) l.share.owner ≡ offer.owner) × (l.share.with ≡ offer.with)
told-share w offer last s l is (t, at, made) =
    let same : t ≡ s = some-same t s (sym at ∙ is) in
    let id : made.id ≡ l.id = some-same made.id l.id (sym made.named ∙ l.named) in
    let host = offer.owner.host in
    let there = subst (λ k. at_number (Rattle.ocm_rules.specs.Shares.made host k) l.id ≡ Some l.share) (sym l.stands) (made-later host l.later (l.limit ∷ l.before) l.id l.share l.made) in
    let P : Session → Type 0 = λ u. at_number (Rattle.ocm_rules.specs.Shares.made offer.owner.host (kept_at offer.owner.host u)) made.id ≡ Some made.share in
    let share : made.share ≡ l.share = some-same made.share l.share (sym (subst P same made.made) ∙ ap (λ i. at_number (Rattle.ocm_rules.specs.Shares.made offer.owner.host (kept_at offer.owner.host s)) i) id ∙ there) in
    let Q : Session → Type 0 = λ u. address_of offer.owner.host (users (kept_at offer.owner.host u)) made.share.owner ≡ offer.owner in
    let R : Share → Type 0 = λ m. address_of offer.owner.host (users (kept_at offer.owner.host s)) m.owner ≡ offer.owner in
    let S : Share → Type 0 = λ m. m.with ≡ offer.with in
    (subst R share (subst Q same made.owner), subst S share made.guest)
