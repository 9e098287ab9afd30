-- What holds of every schedule in a run.
use Rattle.std.proofs.Common.{◌≡◌, ℕ, ◌+◌, ◌<◌, ◌≤◌, Bool, true, false, List, [], ◌∷◌, length, refl, sym, ap, ◌∙◌, arith, subst, inl, inr, get_or, Some, None, Option}
use Rattle.std.specs.Prelude.{◌==◌, nat_lt, if◌then◌else◌}
use Rattle.std.proofs.Math.ListN.{set}
use Rattle.std.proofs.lemmas.Bool.{and_right, cases_eq, cases_lt, false≢true, ltb-true}
use Rattle.std.proofs.lemmas.List.{get_or-set_same, get_or-set_other, get_or_past}
use Rattle.ocm_schedule.specs.declared.schedules.Ending.{Ending}
use Rattle.ocm_schedule.specs.declared.schedules.Ending.TheVariants.{Failed}
use Rattle.ocm_schedule.specs.declared.schedules.Plan.{Plan}
use Rattle.ocm_schedule.specs.Lanes.{may_begin, first_host}
use Rattle.ocm_schedule.specs.Schedules.{is_idle, given, given_if, assigned, first_lane, Peer, State, no_lane, nobody, lane_at, host_at, IsSchedule, is_busy_in, with_job, with_seat, without_seat, added, seated, settled, next_lane}
use Rattle.ocm_schedule.specs.Runs.{World, Event, Adds, Due, Asks, Ended, Blames, Renews, Passes, who, begins, hands, settles, blames, renews, happens, run, Keeps, IsPunctual, started}
use Rattle.ocm_schedule.proofs.ScheduleLemmas.{idle_parts, idle_busy, blamed_is, renewed_is, handed_is, seated_is, settled_is, first_waits, waits_parts, known_if, known_busy, test_same, test_other}
use Rattle.ocm_schedule.proofs.MakeLemmas.{made_is, added_is, new_at}

pub record IsSound (lane limit : ℕ) (w : World) : Type 0 where
  pub schedule : IsSchedule w.state
  pub future : (h : ℕ) → is_busy_in lane (host_at w.state h) ≡ true → w.now ≤ w.ends h
  pub soon : (h : ℕ) → is_busy_in lane (host_at w.state h) ≡ true → w.ends h ≤ w.now + limit

-- ---- a lane in which an exchange may begin

who_split : (b : Bool) (o : Option ℕ) (h : ℕ) → (if b then o else None) ≡ Some h → (b ≡ true) × (o ≡ Some h)
who_split true o h e = (refl, e)
who_split false o h e = cc

pub who_parts : (now : ℕ) (s : State) (l h : ℕ) → who now s l ≡ Some h → (may_begin now (lane_at s l) ≡ true) × (first_host now (lane_at s l) ≡ Some h)
who_parts now s l h e = who_split (may_begin now (lane_at s l)) (first_host now (lane_at s l)) h e

pub lane_known : (s : State) (l now : ℕ) → may_begin now (lane_at s l) ≡ true → l < length s.lanes
lane_known s l now m =
    elim (cases_lt l (length s.lanes)) [
      | inl inside ↦ inside
      | inr past ↦ absurd (false≢true (sym (ap (may_begin now) (get_or_past s.lanes l no_lane past)) ∙ m))
    ]

-- ---- the hosts

-- what is as before of a host that changed is as before of each
pub peer_same : {B : Type 0} (f : Peer → B) (hosts : List Peer) (h g : ℕ) (v : Peer) → h < length hosts → f v ≡ f (get_or hosts h nobody)
    → f (get_or (set hosts h v) g nobody) ≡ f (get_or hosts g nobody)
peer_same f hosts h g v i e =
    elim (cases_eq g h) [
      | inl same ↦ (ap (λ n. f (get_or (set hosts h v) n nobody)) same ∙ ap f (get_or-set_same hosts h v nobody i) ∙ e ∙ ap (λ n. f (get_or hosts n nobody)) (sym same))
      | inr other ↦ ap f (get_or-set_other hosts h g v nobody other)
    ]

added_busy : (n : ℕ) (s : State) (owner g : ℕ) → is_busy_in n (host_at (added s owner) g) ≡ true → is_busy_in n (host_at s g) ≡ true
added_busy n s owner g b =
    let lane : ℕ = first_lane (length s.lanes) in
    elim (new_at s.hosts owner lane g) [
      | inl same ↦ (sym (ap (is_busy_in n) same) ∙ b)
      | inr new ↦ absurd (false≢true (sym (and_right (lane == n) false refl) ∙ sym (ap (is_busy_in n) new.1) ∙ b))
    ]

ended_busy : (n : ℕ) (s : State) (h g : ℕ) (how : Ending) (stays : Bool) (now : ℕ) → h < length s.hosts → is_busy_in n (host_at (settled s h how stays now) g) ≡ true → is_busy_in n (host_at s g) ≡ true
ended_busy n s h g how stays now i b =
    let lane : ℕ = next_lane how (host_at s h).lane (length s.lanes) in
    let v : Peer = without_seat (host_at s h) lane stays in
    elim (cases_eq g h) [
      | inl same ↦
          absurd (false≢true (sym (ap (λ j. is_busy_in n (get_or (set s.hosts h v) j nobody)) same ∙ ap (is_busy_in n) (get_or-set_same s.hosts h v nobody i) ∙ and_right (lane == n) false refl) ∙ b))
      | inr other ↦ (sym (ap (is_busy_in n) (get_or-set_other s.hosts h g v nobody other)) ∙ b)
    ]

-- a host that began has its time, and the others theirs
began_future : (n : ℕ) (limit l h : ℕ) (w : World) → h < length w.state.hosts → IsSound n limit w → (g : ℕ) → is_busy_in n (host_at (seated w.state l w.now h) g) ≡ true
    → (w.now ≤ (if h == g then w.now + limit else w.ends g)) × ((if h == g then w.now + limit else w.ends g) ≤ w.now + limit)
began_future n limit l h w i s g b =
    let v : Peer = with_seat (host_at w.state h) in
    elim (cases_eq g h) [
      | inl same ↦
          subst (λ (t : Bool). (w.now ≤ (if t then w.now + limit else w.ends g)) × ((if t then w.now + limit else w.ends g) ≤ w.now + limit)) (sym (test_same h g same)) (omega arith, omega arith)
      | inr other ↦
          (let old : is_busy_in n (host_at w.state g) ≡ true = sym (ap (is_busy_in n) (get_or-set_other w.state.hosts h g v nobody other)) ∙ b in
          subst (λ (t : Bool). (w.now ≤ (if t then w.now + limit else w.ends g)) × ((if t then w.now + limit else w.ends g) ≤ w.now + limit)) (sym (test_other h g other)) (s.future g old, s.soon g old))
    ]

-- ---- each step

pub sound_hands : (n : ℕ) (b : Bool) (limit h job : ℕ) (w : World) → nat_lt h (length w.state.hosts) ≡ b → IsSound n limit w → IsSound n limit (hands b h job w)
sound_hands n false limit h job w e s = s
sound_hands n true limit h job w e s =
    let i : h < length w.state.hosts = ltb-true h (length w.state.hosts) e in
    record {
      schedule = handed_is w.state h job w.now i s.schedule;
      future = λ g b. s.future g (sym (peer_same (is_busy_in n) w.state.hosts h g (with_job (host_at w.state h) job) i refl) ∙ b);
      soon = λ g b. s.soon g (sym (peer_same (is_busy_in n) w.state.hosts h g (with_job (host_at w.state h) job) i refl) ∙ b);
    }

pub sound_begins : (n : ℕ) (o : Option ℕ) (limit l : ℕ) (w : World) → who w.now w.state l ≡ o → IsSound n limit w → IsSound n limit (begins o limit l w)
sound_begins n None limit l w e s = s
sound_begins n (Some h) limit l w e s =
    let m = who_parts w.now w.state l h e in
    let x = waits_parts l (host_at w.state h) (first_waits w.state l w.now h s.schedule m.1) in
    let i : h < length w.state.hosts = known_if w.state h x.2 in
    record {
      schedule = seated_is w.state l h w.now m.0 (lane_known w.state l w.now m.0) m.1 s.schedule;
      future = λ g b. (began_future n limit l h w i s g b).0;
      soon = λ g b. (began_future n limit l h w i s g b).1;
    }

pub sound_settles : (n : ℕ) (b : Bool) (limit h : ℕ) (how : Ending) (stays : Bool) (w : World) → (host_at w.state h).busy ≡ b → IsSound n limit w → IsSound n limit (settles b h how stays w)
sound_settles n false limit h how stays w e s = s
sound_settles n true limit h how stays w e s =
    let i : h < length w.state.hosts = known_busy w.state h e in
    record {
      schedule = settled_is w.state h how stays w.now e s.schedule;
      future = λ g b. s.future g (ended_busy n w.state h g how stays w.now i b);
      soon = λ g b. s.soon g (ended_busy n w.state h g how stays w.now i b);
    }

-- who was given to another lane has a seat where it had one
given_busy : (b : Bool) (n : ℕ) (s : State) (h owner l g : ℕ) → is_idle (host_at s h) ≡ b → h < length s.hosts
    → is_busy_in n (get_or (given_if b s.hosts h owner l) g nobody) ≡ is_busy_in n (host_at s g)
given_busy false n s h owner l g e i = refl
given_busy true n s h owner l g e i =
    let p : Peer = host_at s h in peer_same (is_busy_in n) s.hosts h g (given p owner l) i (idle_busy n owner l p (idle_parts p e).0)

sound_assigned : (n limit h owner l : ℕ) (w : World) → h < length w.state.hosts → IsSchedule (assigned w.state h owner l) → IsSound n limit w
    → IsSound n limit (record { state = assigned w.state h owner l; now = w.now; ends = w.ends })
sound_assigned n limit h owner l w i v s =
    let same = λ (g : ℕ). given_busy (is_idle (host_at w.state h)) n w.state h owner l g refl i in
    record { schedule = v; future = λ g b. s.future g (sym (same g) ∙ b); soon = λ g b. s.soon g (sym (same g) ∙ b) }

pub sound_blames : (n : ℕ) (b : Bool) (limit h : ℕ) (w : World) → nat_lt h (length w.state.hosts) ≡ b → IsSound n limit w → IsSound n limit (blames b h w)
sound_blames n false limit h w e s = s
sound_blames n true limit h w e s =
    let i : h < length w.state.hosts = ltb-true h (length w.state.hosts) e in
    let p : Peer = host_at w.state h in
    sound_assigned n limit h p.owner (next_lane Failed p.lane (length w.state.lanes)) w i (blamed_is w.state h i s.schedule) s

pub sound_renews : (n : ℕ) (b : Bool) (limit h owner : ℕ) (w : World) → nat_lt h (length w.state.hosts) ≡ b → IsSound n limit w → IsSound n limit (renews b h owner w)
sound_renews n false limit h owner w e s = s
sound_renews n true limit h owner w e s =
    let i : h < length w.state.hosts = ltb-true h (length w.state.hosts) e in
    sound_assigned n limit h owner (first_lane (length w.state.lanes)) w i (renewed_is w.state h owner i s.schedule) s

pub sound_happens : (n : ℕ) (limit : ℕ) (w : World) (e : Event) → Keeps n w e → IsSound n limit w → IsSound n limit (happens limit w e)
sound_happens n limit w (Adds owner) k s =
    record { schedule = added_is w.state owner s.schedule; future = λ g b. s.future g (added_busy n w.state owner g b); soon = λ g b. s.soon g (added_busy n w.state owner g b) }
sound_happens n limit w (Due h job) k s = sound_hands n (nat_lt h (length w.state.hosts)) limit h job w refl s
sound_happens n limit w (Asks l) k s = sound_begins n (who w.now w.state l) limit l w refl s
sound_happens n limit w (Ended h how stays) k s = sound_settles n (host_at w.state h).busy limit h how stays w refl s
sound_happens n limit w (Blames h) k s = sound_blames n (nat_lt h (length w.state.hosts)) limit h w refl s
sound_happens n limit w (Renews h owner) k s = sound_renews n (nat_lt h (length w.state.hosts)) limit h owner w refl s
sound_happens n limit w (Passes time) k s =
    record { schedule = s.schedule; future = k.1; soon = λ g b. omega (arith, s.soon g b) }

pub sound_run : (n : ℕ) (limit : ℕ) (w : World) (es : List Event) → IsPunctual n limit w es → IsSound n limit w → IsSound n limit (run limit w es)
sound_run n limit w [] k s = s
sound_run n limit w (e ∷ es) k s = sound_run n limit (happens limit w e) es k.1 (sound_happens n limit w e k.0 s)

pub sound_started : (n : ℕ) (limit : ℕ) (plans : List Plan) → 0 < length plans → IsSound n limit (started plans)
sound_started n limit plans h =
    record {
      schedule = made_is plans h;
      future = λ g b. omega arith;
      soon = λ g b. omega arith;
    }
