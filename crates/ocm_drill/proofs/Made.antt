-- How many events a script has, and that their paths are short.
use Rattle.std.proofs.Common.{◌≡◌, ◌+◌, ◌∙◌, ℕ, zero, suc, List, [], ◌∷◌, ◌++◌, length, Bool, true, false, if◌then◌else◌, length-append, add-one, nat_eq, append_assoc, ap, sym, refl}
use Rattle.std.specs.List.{list_all}
use Rattle.std.proofs.lemmas.List.Folds.{list_all-append}
use Rattle.std.proofs.lemmas.Bool.{and_from}
use Rattle.ocm_script.specs.declared.events.Event.{Event}
use Rattle.ocm_script.specs.Events.{has_short_paths}
use Rattle.ocm_drill.specs.Draws.{Drawn, give, pick}
use Rattle.ocm_drill.specs.Script.{accepted, drawn_events, event_of, got, limited, crashed, made_script, of_kind, opened, opening, pumped, reshared, shared, unshared}

-- the drawn events with one more
drawn_next : (events j number : ℕ) → (drawn_events events (j + 1) number).0 ≡ (drawn_events events j number).0 ++ (event_of events (j + 1) (drawn_events events j number).1).0 ∷ []
unfolding drawn_events
drawn_next events j number = rw add-one refl

-- the state after it
state_next : (events j number : ℕ) → (drawn_events events (j + 1) number).1 ≡ (event_of events (j + 1) (drawn_events events j number).1).1
unfolding drawn_events
state_next events j number = rw add-one refl

-- the events so far with one more, and the state after it
pub drawn_more : (front made : List Event) (event : Event) (events j number state : ℕ) → made ≡ front ++ (drawn_events events j number).0 → state ≡ (drawn_events events j number).1
    → event ≡ (event_of events (j + 1) state).0 → made ++ event ∷ [] ≡ front ++ (drawn_events events (j + 1) number).0
drawn_more front made event events j number state so_far at is =
    let before : List Event = (drawn_events events j number).0 in
    let last : event ≡ (event_of events (j + 1) (drawn_events events j number).1).0 = is ∙ ap (λ s. (event_of events (j + 1) s).0) at in
    ap (λ list. list ++ event ∷ []) so_far ∙ (append_assoc front before (event ∷ []) ∙ ap (λ list. front ++ list) (ap (λ e. before ++ e ∷ []) last ∙ sym (drawn_next events j number)))

pub state_more : (events j number state new : ℕ) → state ≡ (drawn_events events j number).1 → new ≡ (event_of events (j + 1) state).1 → new ≡ (drawn_events events (j + 1) number).1
state_more events j number state new at is = is ∙ (ap (λ s. (event_of events (j + 1) s).1) at ∙ sym (state_next events j number))

length-drawn : (events j number : ℕ) → length (drawn_events events j number).0 ≡ j
unfolding drawn_events
length-drawn events zero number = refl
length-drawn events (suc j) number =
    length-append (drawn_events events j number).0 ((event_of events (suc j) (drawn_events events j number).1).0 ∷ []) ∙ (ap (λ n. n + 1) (length-drawn events j number) ∙ add-one j)

-- how many events a script has
pub length_made : (number events : ℕ) → length (made_script number events) ≡ 16 + events
length_made number events = length-append opening (drawn_events events events number).0 ∙ ap (λ n. 16 + n) (length-drawn events events number)

-- the paths of one of two events are short
short_either : (b : Bool) (x y : Drawn Event) (state : ℕ) → has_short_paths (x state).0 ≡ true → has_short_paths (y state).0 ≡ true → has_short_paths ((if b then x else y) state).0 ≡ true
short_either true x y state first second = first
short_either false x y state first second = second

-- the paths of a drawn event are short
short_kind : (events j i kind state : ℕ) → has_short_paths (of_kind events j i kind state).0 ≡ true
unfolding of_kind shared accepted reshared unshared got limited
short_kind events j i kind state =
    short_either (nat_eq kind 0) (shared j i) _ state refl
    (short_either (nat_eq kind 1) (give (pumped j i)) _ state refl
    (short_either (nat_eq kind 2) (accepted i) _ state refl
    (short_either (nat_eq kind 3) (reshared i) _ state refl
    (short_either (nat_eq kind 4) (unshared i) _ state refl
    (short_either (nat_eq kind 5) (got events i) _ state refl
    (short_either (nat_eq kind 6) (limited i) (give (crashed i)) state refl refl))))))

-- the paths of two lists of events are short
all_short : (xs ys : List Event) → list_all has_short_paths xs ≡ true → list_all has_short_paths ys ≡ true → list_all has_short_paths (xs ++ ys) ≡ true
all_short xs ys first second = list_all-append has_short_paths xs ys ∙ and_from (list_all has_short_paths xs) (list_all has_short_paths ys) first second

short_drawn : (events j number : ℕ) → list_all has_short_paths (drawn_events events j number).0 ≡ true
unfolding drawn_events event_of
short_drawn events zero number = refl
short_drawn events (suc j) number =
    let before : ℕ = (drawn_events events j number).1 in
    let last : has_short_paths (event_of events (suc j) before).0 ≡ true = short_kind events (suc j) (pick 4 (pick 8 before).1).0 (pick 8 before).0 (pick 4 (pick 8 before).1).1 in
    all_short (drawn_events events j number).0 ((event_of events (suc j) before).0 ∷ []) (short_drawn events j number) (and_from _ true last refl)

-- the paths of a script are short
pub short_made : (number events : ℕ) → list_all has_short_paths (made_script number events) ≡ true
unfolding opened
short_made number events = all_short opening (drawn_events events events number).0 refl (short_drawn events events number)
