-- Jobs begin in the order in which they came.
use Rattle.std.proofs.Common.{◌≡◌, ℕ, ◌<◌, Bool, true, false, List, [], ◌∷◌, ◌++◌, length, refl, sym, ap, ◌∙◌, inl, inr, get_or, Some, None, Option, append_assoc}
use Rattle.std.specs.Prelude.{◌&&◌, ◌==◌, nat_lt, if◌then◌else◌, option_to_list}
use Rattle.std.proofs.Math.ListN.{set}
use Rattle.std.proofs.lemmas.Bool.{cases_eq, false≢true, ltb-true}
use Rattle.std.proofs.lemmas.List.{get_or-set_same, get_or-set_other, append-nil}
use Rattle.ocm_schedule.specs.declared.schedules.Ending.{Ending}
use Rattle.ocm_schedule.specs.declared.schedules.Ending.TheVariants.{Failed}
use Rattle.ocm_schedule.specs.Schedules.{State, is_idle, given, given_if, assigned, first_lane, Peer, nobody, host_at, is_none, first_job, left_jobs, IsSchedule, with_job, with_seat, without_seat, added, next_lane}
use Rattle.ocm_schedule.specs.Runs.{World, Event, Adds, Due, Asks, Ended, Blames, Renews, Passes, who, begins, hands, settles, blames, renews, happens, run, started}
use Rattle.ocm_schedule.specs.Jobs.{waiting_jobs, job_of, begin_as, come_as, begin_in, come_in, JobsInOrder}
use Rattle.ocm_schedule.proofs.ScheduleLemmas.{blamed_is, renewed_is, handed_is, seated_is, settled_is, first_waits, waits_parts, known_if, known_busy, test_same, test_other}
use Rattle.ocm_schedule.proofs.MakeLemmas.{made_is, added_is, new_at}
use Rattle.ocm_schedule.proofs.RunLemmas.{peer_same, who_parts, lane_known}

-- ---- schedules stay what they are in every run

keeps_hands : (b : Bool) (h job : ℕ) (w : World) → nat_lt h (length w.state.hosts) ≡ b → IsSchedule w.state → IsSchedule (hands b h job w).state
keeps_hands false h job w e i = i
keeps_hands true h job w e i = handed_is w.state h job w.now (ltb-true h (length w.state.hosts) e) i

keeps_begins : (o : Option ℕ) (limit l : ℕ) (w : World) → who w.now w.state l ≡ o → IsSchedule w.state → IsSchedule (begins o limit l w).state
keeps_begins None limit l w e i = i
keeps_begins (Some h) limit l w e i =
    let m = who_parts w.now w.state l h e in seated_is w.state l h w.now m.0 (lane_known w.state l w.now m.0) m.1 i

keeps_settles : (b : Bool) (h : ℕ) (how : Ending) (stays : Bool) (w : World) → (host_at w.state h).busy ≡ b → IsSchedule w.state → IsSchedule (settles b h how stays w).state
keeps_settles false h how stays w e i = i
keeps_settles true h how stays w e i = settled_is w.state h how stays w.now e i

keeps_blames : (b : Bool) (h : ℕ) (w : World) → nat_lt h (length w.state.hosts) ≡ b → IsSchedule w.state → IsSchedule (blames b h w).state
keeps_blames false h w e i = i
keeps_blames true h w e i = blamed_is w.state h (ltb-true h (length w.state.hosts) e) i

keeps_renews : (b : Bool) (h owner : ℕ) (w : World) → nat_lt h (length w.state.hosts) ≡ b → IsSchedule w.state → IsSchedule (renews b h owner w).state
keeps_renews false h owner w e i = i
keeps_renews true h owner w e i = renewed_is w.state h owner (ltb-true h (length w.state.hosts) e) i

pub keeps_happens : (limit : ℕ) (w : World) (e : Event) → IsSchedule w.state → IsSchedule (happens limit w e).state
keeps_happens limit w (Adds owner) i = added_is w.state owner i
keeps_happens limit w (Due h job) i = keeps_hands (nat_lt h (length w.state.hosts)) h job w refl i
keeps_happens limit w (Asks l) i = keeps_begins (who w.now w.state l) limit l w refl i
keeps_happens limit w (Ended h how stays) i = keeps_settles (host_at w.state h).busy h how stays w refl i
keeps_happens limit w (Blames h) i = keeps_blames (nat_lt h (length w.state.hosts)) h w refl i
keeps_happens limit w (Renews h owner) i = keeps_renews (nat_lt h (length w.state.hosts)) h owner w refl i
keeps_happens limit w (Passes time) i = i

pub keeps_run : (limit : ℕ) (w : World) (es : List Event) → IsSchedule w.state → IsSchedule (run limit w es).state
keeps_run limit w [] i = i
keeps_run limit w (e ∷ es) i = keeps_run limit (happens limit w e) es (keeps_happens limit w e i)

-- ---- one host's jobs

abbrev waiting_at : World → ℕ → List ℕ
waiting_at w h = waiting_jobs (host_at w.state h)

none_behind : (xs : List ℕ) → xs ++ [] ≡ xs
none_behind xs = append-nil xs

-- with one more
one_more_job : (b : Bool) (js : List ℕ) (job : ℕ) → (b ≡ true → is_none js ≡ false) → (if b then left_jobs false js else js) ++ job ∷ [] ≡ (if b then left_jobs false (js ++ job ∷ []) else js ++ job ∷ [])
one_more_job false js job h = refl
one_more_job true [] job h = absurd (false≢true (sym (h refl)))
one_more_job true (j ∷ js) job h = refl

first_left : (js : List ℕ) → js ≡ option_to_list (first_job js) ++ left_jobs false js
first_left [] = refl
first_left (j ∷ js) = refl

stays_or_not : (stays : Bool) (js : List ℕ) → left_jobs false js ++ (if stays then option_to_list (first_job js) else []) ≡ left_jobs stays js
stays_or_not true [] = refl
stays_or_not true (j ∷ js) = refl
stays_or_not false [] = refl
stays_or_not false (j ∷ js) = none_behind js

-- what a host waits with that changed, and the others
at_same : (hosts : List Peer) (g h : ℕ) (v : Peer) → g < length hosts → h ≡ g → waiting_jobs (get_or (set hosts g v) h nobody) ≡ waiting_jobs v
at_same hosts g h v i e = ap (λ n. waiting_jobs (get_or (set hosts g v) n nobody)) e ∙ ap waiting_jobs (get_or-set_same hosts g v nobody i)

at_other : (hosts : List Peer) (g h : ℕ) (v : Peer) → (h ≡ g → ⊥) → waiting_jobs (get_or (set hosts g v) h nobody) ≡ waiting_jobs (get_or hosts h nobody)
at_other hosts g h v n = ap waiting_jobs (get_or-set_other hosts g h v nobody n)

step_adds : (w : World) (owner h : ℕ) → waiting_at w h ++ [] ≡ waiting_jobs (host_at (added w.state owner) h)
step_adds w owner h =
    none_behind (waiting_at w h) ∙ (elim (new_at w.state.hosts owner (first_lane (length w.state.lanes)) h) [
      | inl same ↦ ap waiting_jobs (sym same)
      | inr new ↦ (ap waiting_jobs new.0 ∙ ap waiting_jobs (sym new.1))
    ])

step_hands : (b : Bool) (g job h : ℕ) (w : World) → nat_lt g (length w.state.hosts) ≡ b → IsSchedule w.state
    → waiting_at w h ++ (if b && (g == h) then job ∷ [] else []) ≡ waiting_at (hands b g job w) h
step_hands false g job h w e i = none_behind (waiting_at w h)
step_hands true g job h w e i =
    let inside : g < length w.state.hosts = ltb-true g (length w.state.hosts) e in
    let p : Peer = host_at w.state g in
    elim (cases_eq h g) [
      | inl same ↦
          (ap (λ t. waiting_at w h ++ (if t then job ∷ [] else [])) (test_same g h same)
          ∙ ap (λ n. waiting_at w n ++ job ∷ []) same
          ∙ one_more_job p.busy p.jobs job (i.held g)
          ∙ sym (at_same w.state.hosts g h (with_job p job) inside same))
      | inr other ↦
          (ap (λ t. waiting_at w h ++ (if t then job ∷ [] else [])) (test_other g h other)
          ∙ none_behind (waiting_at w h)
          ∙ sym (at_other w.state.hosts g h (with_job p job) other))
    ]

step_begins : (o : Option ℕ) (limit l h : ℕ) (w : World) → who w.now w.state l ≡ o → IsSchedule w.state
    → waiting_at w h ++ [] ≡ job_of w.state h o ++ waiting_at (begins o limit l w) h
step_begins None limit l h w e i = none_behind (waiting_at w h)
step_begins (Some g) limit l h w e i =
    let m = who_parts w.now w.state l g e in
    let x = waits_parts l (host_at w.state g) (first_waits w.state l w.now g i m.1) in
    let inside : g < length w.state.hosts = known_if w.state g x.2 in
    let p : Peer = host_at w.state g in
    elim (cases_eq h g) [
      | inl same ↦
          (none_behind (waiting_at w h) ∙ ap (λ n. waiting_at w n) same
          ∙ ap (λ b. if b then left_jobs false p.jobs else p.jobs) x.1
          ∙ first_left p.jobs
          ∙ ap (λ ys. option_to_list (first_job p.jobs) ++ ys) (sym (at_same w.state.hosts g h (with_seat p) inside same))
          ∙ ap (λ t. (if t then option_to_list (first_job p.jobs) else []) ++ waiting_at (begins (Some g) limit l w) h) (sym (test_same g h same)))
      | inr other ↦
          (none_behind (waiting_at w h) ∙ sym (at_other w.state.hosts g h (with_seat p) other)
          ∙ ap (λ t. (if t then option_to_list (first_job p.jobs) else []) ++ waiting_at (begins (Some g) limit l w) h) (sym (test_other g h other)))
    ]

step_settles : (b : Bool) (g h : ℕ) (how : Ending) (stays : Bool) (w : World) → (host_at w.state g).busy ≡ b → IsSchedule w.state
    → waiting_at w h ++ (if b && ((g == h) && stays) then option_to_list (first_job (host_at w.state g).jobs) else []) ≡ waiting_at (settles b g how stays w) h
step_settles false g h how stays w e i = none_behind (waiting_at w h)
step_settles true g h how stays w e i =
    let inside : g < length w.state.hosts = known_busy w.state g e in
    let p : Peer = host_at w.state g in
    let q : Peer = without_seat p (next_lane how p.lane (length w.state.lanes)) stays in
    elim (cases_eq h g) [
      | inl same ↦
          (ap (λ t. waiting_at w h ++ (if t && stays then option_to_list (first_job p.jobs) else [])) (test_same g h same)
          ∙ ap (λ n. waiting_at w n ++ (if stays then option_to_list (first_job p.jobs) else [])) same
          ∙ ap (λ b. (if b then left_jobs false p.jobs else p.jobs) ++ (if stays then option_to_list (first_job p.jobs) else [])) e
          ∙ stays_or_not stays p.jobs
          ∙ sym (at_same w.state.hosts g h q inside same))
      | inr other ↦
          (ap (λ t. waiting_at w h ++ (if t && stays then option_to_list (first_job p.jobs) else [])) (test_other g h other)
          ∙ none_behind (waiting_at w h)
          ∙ sym (at_other w.state.hosts g h q other))
    ]

given_waits : (b : Bool) (s : State) (g owner l h : ℕ) → g < length s.hosts → waiting_jobs (get_or (given_if b s.hosts g owner l) h nobody) ≡ waiting_jobs (host_at s h)
given_waits false s g owner l h i = refl
given_waits true s g owner l h i = peer_same waiting_jobs s.hosts g h (given (host_at s g) owner l) i refl

step_assigned : (g owner l h : ℕ) (s : State) → g < length s.hosts → waiting_jobs (host_at s h) ++ [] ≡ waiting_jobs (host_at (assigned s g owner l) h)
step_assigned g owner l h s i = none_behind (waiting_jobs (host_at s h)) ∙ sym (given_waits (is_idle (host_at s g)) s g owner l h i)

step_blames : (b : Bool) (g h : ℕ) (w : World) → nat_lt g (length w.state.hosts) ≡ b → waiting_at w h ++ [] ≡ waiting_at (blames b g w) h
step_blames false g h w e = none_behind (waiting_at w h)
step_blames true g h w e =
    let p : Peer = host_at w.state g in
    step_assigned g p.owner (next_lane Failed p.lane (length w.state.lanes)) h w.state (ltb-true g (length w.state.hosts) e)

step_renews : (b : Bool) (g owner h : ℕ) (w : World) → nat_lt g (length w.state.hosts) ≡ b → waiting_at w h ++ [] ≡ waiting_at (renews b g owner w) h
step_renews false g owner h w e = none_behind (waiting_at w h)
step_renews true g owner h w e = step_assigned g owner (first_lane (length w.state.lanes)) h w.state (ltb-true g (length w.state.hosts) e)

step : (limit h : ℕ) (w : World) (e : Event) → IsSchedule w.state → waiting_at w h ++ come_as w h e ≡ begin_as w h e ++ waiting_at (happens limit w e) h
step limit h w (Adds owner) i = step_adds w owner h
step limit h w (Due g job) i = step_hands (nat_lt g (length w.state.hosts)) g job h w refl i
step limit h w (Asks l) i = step_begins (who w.now w.state l) limit l h w refl i
step limit h w (Ended g how stays) i = step_settles (host_at w.state g).busy g h how stays w refl i
step limit h w (Blames g) i = step_blames (nat_lt g (length w.state.hosts)) g h w refl
step limit h w (Renews g owner) i = step_renews (nat_lt g (length w.state.hosts)) g owner h w refl
step limit h w (Passes time) i = none_behind (waiting_at w h)

steps : (limit h : ℕ) (es : List Event) (w : World) → IsSchedule w.state → waiting_at w h ++ come_in limit w h es ≡ begin_in limit w h es ++ waiting_at (run limit w es) h
steps limit h [] w i = none_behind (waiting_at w h)
steps limit h (e ∷ es) w i =
    let u : World = happens limit w e in
    sym (append_assoc (waiting_at w h) (come_as w h e) (come_in limit u h es))
    ∙ ap (λ ys. ys ++ come_in limit u h es) (step limit h w e i)
    ∙ append_assoc (begin_as w h e) (waiting_at u h) (come_in limit u h es)
    ∙ ap (λ ys. begin_as w h e ++ ys) (steps limit h es u (keeps_happens limit w e i))
    ∙ sym (append_assoc (begin_as w h e) (begin_in limit u h es) (waiting_at (run limit u es) h))

pub jobs_in_order : JobsInOrder
jobs_in_order plans limit h before after some =
    steps limit h after (run limit (started plans) before) (keeps_run limit (started plans) before (made_is plans some))
