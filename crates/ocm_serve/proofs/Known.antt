-- A run of workers is a run of what contracts see of them.
use Rattle.std.proofs.Common.{◌≡◌, ◌∙◌, ℕ, ◌<◌, List, [], ◌∷◌, length, ap, sym, subst, arith}
use Rattle.std.specs.Prelude.{◌+◌, ◌^◌, Bool, IfSome, Option, map, slice_index_or}
use Rattle.std.proofs.lemmas.List.{get_or-map, length-map}
use Rattle.std.proofs.lemmas.List.Elements.{All-map}
use Rattle.ocm_dav.specs.declared.configs.Config.{Config}
use Rattle.ocm_disk.specs.declared.disk.Disk.{Ghosts}
use Rattle.ocm_journal.specs.Openings.{new_area}
use Rattle.ocm_limits.specs.Limits.{served_disk_bytes}
use Rattle.ocm_serve.specs.Runs.{DoesTell, EachWorked, LogsTo, RunFrom, ServesTo}
use Rattle.ocm_serve_log.specs.Logs.{IsLogOf}
use Rattle.ocm_serve_options.specs.declared.plans.Plan.{Plan}
use Rattle.ocm_serve_store.specs.Runs.{HasServed, IsUnserved, Ran, RunsTo}
use Rattle.ocm_serve_store.specs.declared.followed.Origin.{Origin}
use Rattle.ocm_serve_system.specs.Openings.{IsOpenedWith}
use Rattle.ocm_server.specs.Objects.{EachShift, Past, Shift, draw_at}
use Rattle.ocm_server.specs.Statuses.{status_of}
use Rattle.ocm_server.specs.Visits.{Work}
use Rattle.ocm_server.specs.declared.served.Served.{Served}
use Rattle.ocm_server.specs.declared.workers.Rounds.TheVariants as rounds
use Rattle.ocm_server_connections.specs.Sides.{Sides}
use Rattle.ocm_turn.specs.Passes.{Gate, Known}
use Rattle.ocm_turn.specs.declared.view.Call.{Call}

-- where there is a place there is an element
some_of : {W : Type 0} (all : List W) (i : ℕ) → i < length all → W
some_of [] i below = let no : ⊥ = omega (arith, below) in absurd no
some_of (w ∷ all) i below = w

module _ {D W C : Type 0} (disk : Ghosts D) (sides : C → Sides) (key : List ℕ) (as_work : W → Work C (Origin D disk)) where
  -- each worker that was left stands at its place
  abbrev IsEach : List W → List W → Config → Gate → Known (Origin D disk) → Past → List (List Call) → Type 0
  IsEach old new config gate first past all = EachShift sides config key old new as_work gate first past all

  each-known : (old new : List W) → length new ≡ length old → (config : Config) (gate : Gate) (first : Known (Origin D disk)) (past : Past) (all : List (List Call))
      → IsEach old new config gate first past all → EachWorked sides key (map as_work old) (map as_work new) config gate first past all
  each-known old new same config gate first past all (counted, each) = (counted ∙ sym (length-map old as_work), shift)
    where
      shift : (i : ℕ) (d : Work C (Origin D disk)) → i < length (map as_work old) → Shift sides config gate first (draw_at key i) (slice_index_or (map as_work old) i d) (slice_index_or (map as_work new) i d) (slice_index_or all i []) past
      shift i d below =
          let many = length-map old as_work in
          let was : i < length old = omega (arith, many, below) in
          let is : i < length new = omega (arith, same, was) in
          let some = some_of old i was in
          subst (λ w. Shift sides config gate first (draw_at key i) w (slice_index_or (map as_work new) i d) (slice_index_or all i []) past) (sym (get_or-map as_work old i some d was))
          (subst (λ w. Shift sides config gate first (draw_at key i) (as_work (slice_index_or old i some)) w (slice_index_or all i []) past) (sym (get_or-map as_work new i some d is)) (each i some was))

  ran-known : (plan : Plan) (area limit : ℕ) (before after : D) (calls own : ℕ) (old new : List W) → length new ≡ length old
      → Ran disk plan area limit before after calls own (IsEach old new) → Ran disk plan area limit before after calls own (EachWorked sides key (map as_work old) (map as_work new))
  ran-known plan area limit before after calls own old new same ran =
      let s = ran.served in
      let service = s.service in
      record {
        config = ran.config;
        config_is = ran.config_is;
        store = ran.store;
        host_is = ran.host_is;
        area_is = ran.area_is;
        served = record {
          gate = s.gate;
          first = s.first;
          begun = s.begun;
          left = s.left;
          begins = s.begins;
          is_base = s.is_base;
          stands = s.stands;
          lawful = s.lawful;
          service = record {
            history = service.history;
            moments = service.moments;
            all = service.all;
            each = each-known old new same ran.config s.gate s.first _ service.all service.each;
            shares = service.shares;
            stands_for = service.stands_for;
            came_by = service.came_by;
            paired = service.paired;
            lawful = service.lawful;
            same_terms = service.same_terms;
            counted = service.counted;
            all_own = service.all_own;
            whole = service.whole;
          };
          course = s.course;
          course_at = s.course_at;
          back = s.back;
        };
        all_own = ran.all_own;
        any_moment = ran.any_moment;
        kept = ran.kept;
        since = ran.since;
      }

  runs-known : (plan : Plan) (area limit : ℕ) (before : D) (workers : List W) (came : Served) (r : RunsTo disk plan area limit IsEach (λ w. (as_work w).end) before workers came) → length r.left ≡ length workers
      → RunsTo disk plan area limit (EachWorked sides key) (λ w. w.end) before (map as_work workers) came
  runs-known plan area limit before workers came r same =
      record {
        after = r.after;
        left = map as_work r.left;
        ran = λ calls own has. ran-known plan area limit before r.after calls own workers r.left same (r.ran calls own has);
        ended = λ calls own is i d below.
            let low : i < length r.left = subst (λ n. i < n) many below in
            let some = some_of r.left i low in
            subst (λ w. w.end ≡ rounds.Ended) (sym (get_or-map as_work r.left i some d low)) (r.ended calls own is i some low);
        fault = λ calls own is.
            let at = r.fault calls own is in
            let some = some_of r.left at.0 at.1 in
            (at.0, subst (λ n. at.0 < n) (sym many) at.1, λ d. subst (λ w. w.end ≡ rounds.DoorFault) (sym (get_or-map as_work r.left at.0 some d at.1)) (at.2 some));
        said = r.said;
        counted = r.counted;
        unfailing = r.unfailing;
        unasked = λ unserved. ap (map as_work) (r.unasked unserved);
        unserved = r.unserved;
        kept = r.kept;
      }
    where
      many : length (map as_work r.left) ≡ length r.left
      many = length-map r.left as_work

  -- what came of serving by workers that are lent as a slice
  pub serves-to : (plan : Plan) (before : D) (slice items : List W) (came : Served) → slice ≡ items
      → (r : RunsTo disk plan (new_area served_disk_bytes) (2 ^ 63) IsEach (λ w. (as_work w).end) before slice came) → length r.left ≡ length slice
      → ServesTo disk sides plan key before (map as_work items) came
  serves-to plan before slice items came are r same =
      subst (λ (workers : List W). ServesTo disk sides plan key before (map as_work workers) came) are (runs-known plan _ _ before slice came r same)

  -- ... with a log
  pub logs-to : (plan : Plan) (before : D) (slice items : List W) (came : Served) → slice ≡ items
      → (r : RunsTo disk plan (new_area served_disk_bytes) (2 ^ 63) IsEach (λ w. (as_work w).end) before slice came) → length r.left ≡ length slice
      → {K : Type 0} (taken : K → Option (List ℕ)) (faults : K → ℕ) (sink : K) (left_out : ℕ) (out_of_memory : Bool)
      → ((calls own : ℕ) (has : HasServed came calls own) → (let s = (r.ran calls own has).served in IsLogOf (taken sink) (faults sink) left_out out_of_memory plan.host s.first.base s.service.history))
      → (IsUnserved came → IfSome (taken sink) (λ bytes. bytes ≡ []) × (left_out ≡ 0))
      → LogsTo disk sides taken faults plan key before (map as_work items) came
  unfolding runs-known ran-known
  logs-to plan before slice items came are r same taken faults sink left_out out_of_memory log unlogged =
      subst (λ (workers : List W). LogsTo disk sides taken faults plan key before (map as_work workers) came) are
      (record { runs = runs-known plan _ _ before slice came r same; sink = sink; left_out = left_out; out_of_memory = out_of_memory; log = log; unlogged = unlogged })

-- A run of a program, by what is known of its disk, of its workers, each of which tells, and of what came.
pub run-from : {D W C : Type 0} (disk : Ghosts D) (plan : Plan) (holds : List ℕ) (Comes : List ℕ → D → List (Work C (Origin D disk)) → Served → Type 0) (status : ℕ) (as_work : W → Work C (Origin D disk)) (before : D) (workers : List W) (key : List ℕ)
    → ((came : Served) × (status ≡ status_of came) × Comes key before (map as_work workers) came) → ((w : W) → DoesTell (as_work w)) → IsOpenedWith disk holds before → length workers ≡ plan.workers + 1 → RunFrom disk plan holds Comes status
run-from disk plan holds Comes status as_work before workers key (came, is, comes) tells opened many =
    record {
      before = before;
      opened = opened;
      workers = map as_work workers;
      counted = length-map workers as_work ∙ many;
      tell = All-map DoesTell as_work workers (λ i d below. tells (slice_index_or workers i d));
      key = key;
      came = came;
      runs = comes;
      status_is = is;
    }
