-- Reading gives an ask exactly for its spelling, and no spelling begins another.
use Rattle.std.proofs.Common.{◌≡◌, ℕ, ◌≤◌, true, cond, eqb, List, [], ◌++◌, length, Result, Ok, Err, refl, sym, ap, subst, ◌∙◌, append-nil, IfOk}
use Rattle.std.proofs.lemmas.Bool.{eqb-true, le-leb, and_from}
use Rattle.std.proofs.lemmas.List.{nil_from_length}
use Rattle.ocm_path.specs.Paths.{Segments, path_text}
use Rattle.ocm_entry.specs.declared.asks.Ask.{Ask}
use Rattle.ocm_entry.specs.declared.asks.Ask.TheVariants as asks
use Rattle.ocm_entry.specs.declared.asks.Cmd.{Cmd}
use Rattle.ocm_entry.specs.declared.asks.Cmd.TheVariants as commands
use Rattle.ocm_entry.specs.declared.asks.Method.{Method}
use Rattle.ocm_entry.specs.declared.asks.Method.TheVariants as methods
use Rattle.ocm_entry_bytes.specs.declared.entry_faults.EntryFault.{EntryFault}
use Rattle.ocm_entry_bytes.specs.declared.entry_faults.EntryFault.TheVariants as faults
use Rattle.ocm_entry.specs.Proper.{is_short}
use Rattle.ocm_entry_bytes.specs.Spells.{AreBytes, spelling, Fits, FitsCommand, Spells, IsShortPath, IsKept, most_of, has_kept_body, command_has_spelling, has_spelling}
use Rattle.ocm_entry_bytes.specs.Reading.{Gives, ask_at, ask_of}
use Rattle.ocm_entry_bytes.proofs.FieldLaws.{bind_ok, guard_passed, ok_is}
use Rattle.ocm_entry_bytes.proofs.AskRows.{ask_field}
use Rattle.ocm_entry_bytes.proofs.PathText.{path_with_text-bounded}

pub ask_of-spells : (bytes : List ℕ) (ask : Ask) → AreBytes bytes → ask_of bytes ≡ Ok ask → Spells ask bytes
unfolding ask_of
ask_of-spells bytes ask fits e =
    let a = bind_ok (ask_at bytes) (λ x. cond (eqb (length x.1) 0) (Ok x.0) (Err faults.Rest)) ask e in
    let g = guard_passed (eqb (length a.0.1) 0) faults.Rest a.0.0 ask a.2 in
    let t = ask_field.takes bytes a.0 fits a.1 in
    let nothing : a.0.1 ≡ [] = nil_from_length a.0.1 (eqb-true _ _ g.0) in
    let whole : bytes ≡ spelling a.0.0 = t.parts ∙ ap (λ (l : List ℕ). spelling a.0.0 ++ l) nothing ∙ append-nil (spelling a.0.0) in
    subst (λ (x : Ask). Spells x bytes) g.1 (record { fits = t.holds; text = whole })

pub ask_of-spelling : (bytes : List ℕ) (ask : Ask) → Spells ask bytes → ask_of bytes ≡ Ok ask
unfolding ask_of
ask_of-spelling bytes ask spells =
    let whole : ask_at bytes ≡ Ok (ask, []) = ap ask_at (spells.text ∙ sym (append-nil (spelling ask))) ∙ ask_field.again ask [] spells.fits in
    rw whole refl

-- no spelling begins another, and bytes spell one ask at most
pub spelling-begins : (a b : Ask) (bytes front rest : List ℕ) → Spells a front → Spells b bytes → bytes ≡ front ++ rest → (a ≡ b) × (rest ≡ [])
spelling-begins a b bytes front rest first second parts =
    let shorter : ask_at bytes ≡ Ok (a, rest) = ap ask_at (parts ∙ ap (λ (l : List ℕ). l ++ rest) first.text) ∙ ask_field.again a rest first.fits in
    let longer : ask_at bytes ≡ Ok (b, []) = ap ask_at (second.text ∙ sym (append-nil (spelling b))) ∙ ask_field.again b [] second.fits in
    let same : (a, rest) ≡ (b, []) = ok_is (a, rest) (b, []) (sym shorter ∙ longer) in
    (ap (λ (x : Ask × List ℕ). x.0) same, ap (λ (x : Ask × List ℕ). x.1) same)

pub one_ask : (a b : Ask) (bytes : List ℕ) → Spells a bytes → Spells b bytes → a ≡ b
one_ask a b bytes first second = (spelling-begins a b bytes bytes [] first second (sym (append-nil bytes))).0

pub is_found : (bytes : List ℕ) (r : Result Ask EntryFault) → AreBytes bytes → Gives (λ a. a) r (ask_of bytes) → IfOk r (λ ask. Spells ask bytes)
is_found bytes (Ok ask) fits given = ask_of-spells bytes ask fits given
is_found bytes (Err e) fits given = tt

-- ---- what fits passes the test

short_path : (path : Segments) → IsShortPath path → is_short path ≡ true
short_path path held = le-leb _ 1024 (path_with_text-bounded (path_text path) path held.own)

command_has_spelling-fits : (c : Cmd) → FitsCommand c → command_has_spelling c ≡ true
command_has_spelling-fits (commands.Share path with perms fresh) h = short_path path h.0
command_has_spelling-fits (commands.Unshare id) h = refl
command_has_spelling-fits (commands.Limit id perms) h = refl
command_has_spelling-fits (commands.Accept number) h = refl
command_has_spelling-fits (commands.Decline number) h = refl
command_has_spelling-fits (commands.Reshare number with perms) h = refl
command_has_spelling-fits (commands.Undo request) h = refl
command_has_spelling-fits commands.List h = absurd h
command_has_spelling-fits (commands.Expire id until) h = refl

body_fits : (method : Method) (body : List ℕ) → IsKept method → length body ≤ most_of method → has_kept_body method body ≡ true
body_fits methods.Put body kept h = le-leb _ _ h
body_fits methods.Delete body kept h = le-leb _ _ h
body_fits methods.Mkcol body kept h = le-leb _ _ h
body_fits methods.Get body kept h = absurd kept
body_fits methods.Head body kept h = absurd kept
body_fits methods.List0 body kept h = absurd kept
body_fits methods.List1 body kept h = absurd kept

pub has_spelling-fits : (ask : Ask) → Fits ask → has_spelling ask ≡ true
has_spelling-fits (asks.AddUser name fresh) h = refl
has_spelling-fits (asks.Local key cmd) h = command_has_spelling-fits cmd h.1
has_spelling-fits (asks.Offer o) h = refl
has_spelling-fits (asks.Notice n fresh) h = refl
has_spelling-fits (asks.Dav secret method path body) h = and_from _ _ (short_path path h.2) (body_fits method body h.0 h.3.0)
has_spelling-fits asks.Due h = absurd h
has_spelling-fits (asks.Settle number status id) h = refl
has_spelling-fits (asks.Tick clock) h = refl
has_spelling-fits (asks.Carry secret from to moving overwrite) h = and_from _ _ (short_path from h.1) (short_path to h.2)
