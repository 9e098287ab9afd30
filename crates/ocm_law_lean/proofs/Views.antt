use Rattle.std.proofs.Common.{◌≡◌, ℕ, ◌+◌, ◌≤◌, List, [], ◌∷◌, ◌++◌, length, Bool, true, false, refl, sym, ap, ◌∙◌, arith}
use Rattle.std.specs.Prelude.{Option, Some, None, ◌&&◌, ◌||◌, if◌then◌else◌, nat_le, is_some, filter_map, option_and_then}
use Rattle.std.specs.List.{list_any, cons_option}
use Rattle.std.specs.Option.{option_map_or}
use Rattle.std.proofs.lemmas.List.{append-nil, length-append}
use Rattle.std.proofs.lemmas.Bool.{leb-false, leb-true}
use Rattle.ocm_types.specs.declared.letters.Letter.{Letter}
use Rattle.ocm_types.specs.declared.letters.Offer.{Offer}
use Rattle.ocm_types.specs.declared.letters.Notice.TheVariants as notices
use Rattle.ocm_entry.specs.declared.asks.Ask.{Ask}
use Rattle.ocm_entry.specs.declared.asks.Ask.TheVariants as asks
use Rattle.ocm_entry.specs.declared.asks.Cmd.TheVariants as commands
use Rattle.ocm_entry.specs.declared.replies.Reply.{Reply}
use Rattle.ocm_entry.specs.declared.entries.Entry.{Entry}
use Rattle.ocm_entry.specs.declared.rows.Place.{Place}
use Rattle.ocm_entry.specs.declared.rows.Node.{Node}
use Rattle.ocm_entry.specs.declared.rows.Standing.{Standing}
use Rattle.ocm_rules.specs.declared.rows.Message.{Message}
use Rattle.ocm_rules.specs.declared.rows.Told.{Told}
use Rattle.ocm_rules.specs.declared.rows.Subject.{Subject}
use Rattle.ocm_rules.specs.declared.rows.Subject.TheVariants as subjects
use Rattle.ocm_rules.specs.Numbers.{added, at_number, number_of}
use Rattle.ocm_rules.specs.Shares.{made, perms_among}
use Rattle.ocm_rules.specs.Files.{at, nodes}
use Rattle.ocm_rules.specs.Settlements.{settled_by, settlement, outcome, same_subject, is_acceptance, wants_id}
use Rattle.ocm_rules.specs.Offers.{offers, offer_by, since_offer, declines, accepts, unshares, is_declined, is_accepted, is_removed, phase_from, phase_among, told, told_by, told_first, later, greatest}
use Rattle.ocm_rules.specs.Requests.{requests, request_by, undoes, is_undone, state_among}
use Rattle.ocm_rules.specs.Views.{View, view_with, is_limit, limits}
use Rattle.ocm_rules.specs.Messages.{sends, out, view_of}
use Rattle.ocm_rules.specs.Lean.{emptied_unless}
use Rattle.ocm_entry.specs.Ticks.{is_tick}
use Rattle.ocm_rules.proofs.Lists.{count_by-cons}
use Rattle.ocm_law_lean.proofs.Thin.{kept_ask, thin_cons, thin, same_kept, of_tick, thin-read}
use Rattle.ocm_law_lean.proofs.Readings.{thin-users, thin-latest, thin-any, thin-perms, thin-made, thin-moment, thin-goes_on}

-- ---- readings of asks alone

pub thin-offers : (keep : ℕ → Bool) (first : Bool) (l : List Entry) → offers (thin keep first l) ≡ offers l
thin-offers keep first l =
    thin-read offers (λ ask reply os. added os (offer_by ask)) (λ ask reply l. refl)
    (λ keeps ask reply os. same_kept (λ a. added os (offer_by a)) (λ secret path body. refl) keeps ask)
    (λ ask reply os is. of_tick (λ a. added os (offer_by a) ≡ os) (λ clock. refl) ask is) keep first l

pub thin-requests : (keep : ℕ → Bool) (first : Bool) (l : List Entry) → requests (thin keep first l) ≡ requests l
thin-requests keep first l =
    thin-read requests (λ ask reply rs. added rs (request_by ask)) (λ ask reply l. refl)
    (λ keeps ask reply rs. same_kept (λ a. added rs (request_by a)) (λ secret path body. refl) keeps ask)
    (λ ask reply rs is. of_tick (λ a. added rs (request_by a) ≡ rs) (λ clock. refl) ask is) keep first l

abbrev limit_step : Ask → Reply → ℕ → ℕ
limit_step ask reply n = if is_limit ask then n + 1 else n

pub thin-limits : (keep : ℕ → Bool) (first : Bool) (l : List Entry) → limits (thin keep first l) ≡ limits l
thin-limits keep first l =
    thin-read limits limit_step (λ ask reply l. count_by-cons (λ (e : Entry). is_limit e.ask) (record { ask = ask; reply = reply }) l)
    (λ keeps ask reply n. same_kept (λ a. limit_step a reply n) (λ secret path body. refl) keeps ask)
    (λ ask reply n is. of_tick (λ a. limit_step a reply n ≡ n) (λ clock. refl) ask is) keep first l

pub thin-settlement : (m : ℕ) (keep : ℕ → Bool) (first : Bool) (l : List Entry) → settlement (thin keep first l) m ≡ settlement l m
thin-settlement m keep first l =
    thin-latest (settled_by m) (λ keeps ask. same_kept (settled_by m) (λ secret path body. refl) keeps ask) (λ ask is. of_tick (λ a. settled_by m a ≡ None) (λ clock. refl) ask is) keep first l

thin-declined : (n : ℕ) (keep : ℕ → Bool) (first : Bool) (l : List Entry) → is_declined (thin keep first l) n ≡ is_declined l n
thin-declined n keep first l =
    thin-any (declines n) (λ keeps ask. same_kept (declines n) (λ secret path body. refl) keeps ask) (λ ask is. of_tick (λ a. declines n a ≡ false) (λ clock. refl) ask is) keep first l

thin-accepted : (n : ℕ) (keep : ℕ → Bool) (first : Bool) (l : List Entry) → is_accepted (thin keep first l) n ≡ is_accepted l n
thin-accepted n keep first l =
    thin-any (accepts n) (λ keeps ask. same_kept (accepts n) (λ secret path body. refl) keeps ask) (λ ask is. of_tick (λ a. accepts n a ≡ false) (λ clock. refl) ask is) keep first l

thin-undone : (r : ℕ) (keep : ℕ → Bool) (first : Bool) (l : List Entry) → is_undone (thin keep first l) r ≡ is_undone l r
thin-undone r keep first l =
    thin-any (undoes r) (λ keeps ask. same_kept (undoes r) (λ secret path body. refl) keeps ask) (λ ask is. of_tick (λ a. undoes r a ≡ false) (λ clock. refl) ask is) keep first l

-- ---- readings since an offer

length-more : (os : List Offer) (o : Option Offer) → length os ≤ length (added os o)
length-more os None = omega arith
length-more os (Some offer) = let l = length-append os (offer ∷ []) in omega arith

-- nothing stands after an offer that did not come
since-none : (n : ℕ) (l : List Entry) → nat_le n (length (offers l)) ≡ false → since_offer n l ≡ []
since-none n [] h = refl
since-none n (e ∷ before) h = cases (nat_le n (length (offers before))) refl
  where
    cases : (b : Bool) → nat_le n (length (offers before)) ≡ b → (if b then e ∷ since_offer n before else []) ≡ []
    cases false k = refl
    cases true k =
        let more = length-more (offers before) (offer_by e.ask) in
        let low = leb-true n (length (offers before)) k in
        let high = leb-false n (length (offers (e ∷ before))) h in
        absurd (omega arith)

-- what is read of the entries since an offer, entry by entry, and neither of ticks nor of bodies
thin-since : {X : Type 0} (read : List Entry → X) (step : Ask → X → X)
    → ((ask : Ask) (reply : Reply) (l : List Entry) → read (record { ask = ask; reply = reply } ∷ l) ≡ step ask (read l))
    → ((keeps : Bool) (ask : Ask) (x : X) → step (kept_ask keeps ask) x ≡ step ask x)
    → ((ask : Ask) (x : X) → is_tick ask ≡ true → step ask x ≡ x)
    → (n : ℕ) (keep : ℕ → Bool) (first : Bool) (l : List Entry) → read (since_offer n (thin keep first l)) ≡ read (since_offer n l)
thin-since read step steps bodies ticks n keep first [] = refl
thin-since {X = X} read step steps bodies ticks n keep first (e ∷ before) = cases (thin-since read step steps bodies ticks n keep (is_tick e.ask) before) first (is_tick e.ask) refl
  where
    keeps : Bool
    keeps = keep (length before + 1)

    rest : List Entry
    rest = thin keep (is_tick e.ask) before

    Older : Type 0
    Older = read (since_offer n rest) ≡ read (since_offer n before)

    chosen : Bool → Entry → List Entry → X
    chosen b x l = read (if b then x ∷ since_offer n l else [])

    same : Older → (b : Bool) → chosen b (emptied_unless keeps e) rest ≡ chosen b e before
    same older true = steps (kept_ask keeps e.ask) e.reply (since_offer n rest) ∙ bodies keeps e.ask (read (since_offer n rest)) ∙ ap (λ x. step e.ask x) older ∙ sym (steps e.ask e.reply (since_offer n before))
    same older false = refl

    stays : Older → read (since_offer n (emptied_unless keeps e ∷ rest)) ≡ read (since_offer n (e ∷ before))
    stays older = ap (λ os. chosen (nat_le n (length os)) (emptied_unless keeps e) rest) (thin-offers keep (is_tick e.ask) before) ∙ same older (nat_le n (length (offers before)))

    passed : is_tick e.ask ≡ true → (b : Bool) → nat_le n (length (offers before)) ≡ b → read (since_offer n before) ≡ chosen b e before
    passed is true k = sym (steps e.ask e.reply (since_offer n before) ∙ ticks e.ask (read (since_offer n before)) is)
    passed is false k = ap read (since-none n before k)

    cases : Older → (f b : Bool) → is_tick e.ask ≡ b → read (since_offer n (thin_cons (f && b) (emptied_unless keeps e) rest)) ≡ read (since_offer n (e ∷ before))
    cases older true true is = older ∙ passed is (nat_le n (length (offers before))) refl
    cases older true false is = stays older
    cases older false b is = stays older

abbrev told_step : Offer → Ask → Told → Told
told_step offer ask old = option_map_or (λ new. later new old) (told_by offer ask) old

abbrev told_read : Offer → List Entry → Told
told_read offer l = greatest (told_first offer) (filter_map (λ (e : Entry). told_by offer e.ask) l)

told-steps : (offer : Offer) (ask : Ask) (reply : Reply) (l : List Entry) → told_read offer (record { ask = ask; reply = reply } ∷ l) ≡ told_step offer ask (told_read offer l)
told-steps offer ask reply l = by_option (told_by offer ask)
  where
    by_option : (o : Option Told) → greatest (told_first offer) (cons_option o (filter_map (λ (e : Entry). told_by offer e.ask) l)) ≡ option_map_or (λ new. later new (told_read offer l)) o (told_read offer l)
    by_option None = refl
    by_option (Some new) = refl

abbrev nothing_told : Told
nothing_told = told [] 0

thin-told : (keep : ℕ → Bool) (first : Bool) (l : List Entry) (n : ℕ) → told (thin keep first l) n ≡ told l n
thin-told keep first l n =
    ap (λ os. option_map_or (λ offer. told_read offer (since_offer n (thin keep first l))) (at_number os n) nothing_told) (thin-offers keep first l)
    ∙ by_offer (at_number (offers l) n)
  where
    by_offer : (o : Option Offer) → option_map_or (λ offer. told_read offer (since_offer n (thin keep first l))) o nothing_told ≡ option_map_or (λ offer. told_read offer (since_offer n l)) o nothing_told
    by_offer None = refl
    by_offer (Some offer) =
        thin-since (told_read offer) (told_step offer) (λ ask reply l. told-steps offer ask reply l)
        (λ keeps ask x. same_kept (λ a. told_step offer a x) (λ secret path body. refl) keeps ask)
        (λ ask x is. of_tick (λ a. told_step offer a x ≡ x) (λ clock. refl) ask is) n keep first l

abbrev unshared_read : Offer → List Entry → Bool
unshared_read offer l = list_any (λ (e : Entry). unshares offer e.ask) l

thin-removed : (keep : ℕ → Bool) (first : Bool) (l : List Entry) (n : ℕ) → is_removed (thin keep first l) n ≡ is_removed l n
thin-removed keep first l n =
    ap (λ os. option_map_or (λ offer. unshared_read offer (since_offer n (thin keep first l))) (at_number os n) false) (thin-offers keep first l)
    ∙ by_offer (at_number (offers l) n)
  where
    by_offer : (o : Option Offer) → option_map_or (λ offer. unshared_read offer (since_offer n (thin keep first l))) o false ≡ option_map_or (λ offer. unshared_read offer (since_offer n l)) o false
    by_offer None = refl
    by_offer (Some offer) =
        thin-since (unshared_read offer) (λ ask x. unshares offer ask || x) (λ ask reply l. refl)
        (λ keeps ask x. same_kept (λ a. unshares offer a || x) (λ secret path body. refl) keeps ask)
        (λ ask x is. of_tick (λ a. (unshares offer a || x) ≡ x) (λ clock. refl) ask is) n keep first l

-- ---- readings by messages

thin-outcome : (messages : List Message) (is_letter : Letter → Bool) (subject : Subject) (keep : ℕ → Bool) (first : Bool) (l : List Entry) → outcome messages (thin keep first l) is_letter subject ≡ outcome messages l is_letter subject
thin-outcome messages is_letter subject keep first l = by_number (number_of (λ (m : Message). is_letter m.letter && same_subject m.subject subject) messages)
  where
    by_number : (o : Option ℕ) → option_and_then (settlement (thin keep first l)) o ≡ option_and_then (settlement l) o
    by_number None = refl
    by_number (Some m) = thin-settlement m keep first l

thin-phase : (messages : List Message) (keep : ℕ → Bool) (first : Bool) (l : List Entry) (n : ℕ) → phase_among messages (thin keep first l) n ≡ phase_among messages l n
thin-phase messages keep first l n =
    ap (λ b. phase_from b (is_removed (thin keep first l) n) (outcome messages (thin keep first l) is_acceptance (subjects.Received n)) (is_accepted (thin keep first l) n)) (thin-declined n keep first l)
    ∙ ap (λ b. phase_from (is_declined l n) b (outcome messages (thin keep first l) is_acceptance (subjects.Received n)) (is_accepted (thin keep first l) n)) (thin-removed keep first l n)
    ∙ ap (λ o. phase_from (is_declined l n) (is_removed l n) o (is_accepted (thin keep first l) n)) (thin-outcome messages is_acceptance (subjects.Received n) keep first l)
    ∙ ap (λ b. phase_from (is_declined l n) (is_removed l n) (outcome messages l is_acceptance (subjects.Received n)) b) (thin-accepted n keep first l)

thin-state : (messages : List Message) (keep : ℕ → Bool) (first : Bool) (l : List Entry) (r : ℕ) → state_among messages (thin keep first l) r ≡ state_among messages l r
thin-state messages keep first l r = rw (thin-undone r keep first l, thin-outcome messages wants_id (subjects.Request r) keep first l) refl

-- ---- the view

-- what is read, with other files
abbrev pub with_files : View → (Place → Option Standing) → List Node → View
with_files v stands ns = record v { stands = stands; nodes = ns }

-- all but the files is read alike of a thin list and of the list
pub thin-view_with : (host : List ℕ) (messages : List Message) (keep : ℕ → Bool) (l : List Entry)
    → view_with host (thin keep false l) messages ≡ with_files (view_with host l messages) (at host (thin keep false l)) (nodes host (thin keep false l))
thin-view_with host messages keep l = λ i. record {
  host = host;
  moment = thin-moment keep l i;
  users = thin-users keep false l i;
  shares = thin-made host keep false l i;
  goes_on = λ j. thin-goes_on keep l j i;
  perms = λ j. (ap (λ ms. perms_among ms (thin keep false l) j) (thin-made host keep false l) ∙ thin-perms (made host l) j keep false l) i;
  limits = thin-limits keep false l i;
  stands = at host (thin keep false l);
  nodes = nodes host (thin keep false l);
  offers = thin-offers keep false l i;
  phase = λ j. thin-phase messages keep false l j i;
  told = λ j. thin-told keep false l j i;
  requests = thin-requests keep false l i;
  state = λ j. thin-state messages keep false l j i;
  messages = messages;
  is_settled = λ j. ap (λ o. is_some o) (thin-settlement j keep false l) i;
}

-- no message depends on files
pub sends-files : (v : View) (stands : Place → Option Standing) (ns : List Node) (ask : Ask) → sends (with_files v stands ns) ask ≡ sends v ask
sends-files v stands ns (asks.Local key (commands.Share path with perms fresh)) = refl
sends-files v stands ns (asks.Local key (commands.Unshare id)) = refl
sends-files v stands ns (asks.Local key (commands.Limit id perms)) = refl
sends-files v stands ns (asks.Local key (commands.Accept number)) = refl
sends-files v stands ns (asks.Local key (commands.Decline number)) = refl
sends-files v stands ns (asks.Local key (commands.Reshare number with perms)) = refl
sends-files v stands ns (asks.Local key (commands.Undo request)) = refl
sends-files v stands ns (asks.Notice (notices.Declined id secret) fresh) = refl
sends-files v stands ns (asks.Notice (notices.ReshareRequest id secret with sender_id asked) fresh) = refl
sends-files v stands ns (asks.Notice (notices.ReshareUndo id secret) fresh) = refl
sends-files v stands ns _ = refl

-- the same messages are sent
pub thin-out : (host : List ℕ) (keep : ℕ → Bool) (first : Bool) (l : List Entry) → out host (thin keep first l) ≡ out host l
thin-out host keep first [] = refl
thin-out host keep first (e ∷ before) = cases first (is_tick e.ask) refl (thin-out host keep (is_tick e.ask) before)
  where
    keeps : Bool
    keeps = keep (length before + 1)

    Older : Bool → Type 0
    Older b = out host (thin keep b before) ≡ out host before

    quiet : (v : View) → is_tick e.ask ≡ true → sends v e.ask ≡ []
    quiet v is = of_tick (λ a. sends v a ≡ []) (λ clock. refl) e.ask is

    quiet_last : is_tick e.ask ≡ true → out host (e ∷ before) ≡ out host before
    quiet_last is = ap (λ ms. out host before ++ ms) (quiet (view_with host before (out host before)) is) ∙ append-nil (out host before)

    bodies : (v : View) → sends v (kept_ask keeps e.ask) ≡ sends v e.ask
    bodies v = same_kept (sends v) (λ secret path body. refl) keeps e.ask

    tick_stays : is_tick e.ask ≡ true → Older true → out host (emptied_unless keeps e ∷ thin keep true before) ≡ out host (e ∷ before)
    tick_stays is older =
        ap (λ ms. out host (thin keep true before) ++ ms) (bodies (view_of host (thin keep true before)) ∙ quiet (view_of host (thin keep true before)) is)
        ∙ append-nil (out host (thin keep true before)) ∙ older ∙ sym (quiet_last is)

    other_stays : Older false → out host (emptied_unless keeps e ∷ thin keep false before) ≡ out host (e ∷ before)
    other_stays older =
        let now = thin keep false before in
        ap (λ ms. ms ++ sends (view_with host now ms) (kept_ask keeps e.ask)) older
        ∙ ap (λ ms. out host before ++ ms)
        (bodies (view_with host now (out host before))
        ∙ ap (λ v. sends v e.ask) (thin-view_with host (out host before) keep before)
        ∙ sends-files (view_of host before) (at host now) (nodes host now) e.ask)

    cases : (f b : Bool) → is_tick e.ask ≡ b → Older b → out host (thin_cons (f && b) (emptied_unless keeps e) (thin keep b before)) ≡ out host (e ∷ before)
    cases true true is older = older ∙ sym (quiet_last is)
    cases true false is older = other_stays older
    cases false true is older = tick_stays is older
    cases false false is older = other_stays older

-- all but the files is read alike
pub thin-view : (host : List ℕ) (keep : ℕ → Bool) (l : List Entry)
    → view_of host (thin keep false l) ≡ with_files (view_of host l) (at host (thin keep false l)) (nodes host (thin keep false l))
thin-view host keep l =
    ap (λ ms. view_with host (thin keep false l) ms) (thin-out host keep false l) ∙ thin-view_with host (out host l) keep l
