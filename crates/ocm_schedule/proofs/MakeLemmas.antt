-- Schedules as they are made, and as hosts are added.
use Rattle.std.proofs.Common.{◌≡◌, ℕ, zero, suc, ◌<◌, false, List, [], ◌∷◌, ◌++◌, length, refl, sym, ap, ◌∙◌, arith, subst, inl, inr, ◌⊎◌, get_or}
use Rattle.std.proofs.lemmas.Bool.{false≢true, and_right}
use Rattle.std.specs.Prelude.{◌==◌, map, count_by}
use Rattle.std.proofs.lemmas.List.Sums.{sum_by_push}
use Rattle.std.proofs.lemmas.List.{length-map}
use Rattle.ocm_schedule.specs.declared.schedules.Plan.{Plan}
use Rattle.ocm_schedule.specs.Lanes.{Queue, IsLane, places_of}
use Rattle.ocm_schedule.specs.Schedules.{Peer, State, no_lane, nobody, waits_in, is_busy_in, is_place_of, one_if, IsSchedule, planned, unasked, added, first_lane}
use Rattle.ocm_schedule.proofs.ScheduleLemmas.{Holds, idle_waits, first_lane_inside}

-- what holds of a lane as it is planned, and of none, holds of each of these
pub each_planned : (P : Queue → Type 0) → ((p : Plan) → P (planned p)) → P no_lane → (plans : List Plan) (k : ℕ) → P (get_or (map planned plans) k no_lane)
each_planned P f n [] k = n
each_planned P f n (p ∷ ps) zero = f p
each_planned P f n (p ∷ ps) (suc k) = each_planned P f n ps k

empty_lane : (seats pause : ℕ) → IsLane (record { resting = []; circle = []; latest = 0; busy = 0; seats = seats; pause = pause })
empty_lane seats pause = record { fits = omega arith; order = tt; past = tt }

pub made_is : (plans : List Plan) → 0 < length plans → IsSchedule (record { lanes = map planned plans; hosts = [] })
made_is plans h =
    record {
      some = omega (arith, h, length-map plans planned);
      lane = each_planned IsLane (λ p. empty_lane p.seats p.pause) (empty_lane 0 0) plans;
      inside = λ g. omega (arith, h, length-map plans planned);
      held = λ g b. absurd (false≢true b);
      waits = λ l g.
          ap (count_by (is_place_of g)) (each_planned (λ q. places_of q ≡ []) (λ p. refl) refl plans l) ∙ sym (ap one_if (idle_waits l nobody refl));
      busy = each_planned (λ q. q.busy ≡ 0) (λ p. refl) refl plans;
    }

-- who stands where once a host was added: as before, or nobody did and now the new one
pub new_at : (hosts : List Peer) (owner lane g : ℕ) → (get_or (hosts ++ unasked owner lane ∷ []) g nobody ≡ get_or hosts g nobody)
    ⊎ ((get_or hosts g nobody ≡ nobody) × (get_or (hosts ++ unasked owner lane ∷ []) g nobody ≡ unasked owner lane))
new_at [] owner lane zero = inr (refl, refl)
new_at [] owner lane (suc g) = inl refl
new_at (p ∷ ps) owner lane zero = inl refl
new_at (p ∷ ps) owner lane (suc g) = new_at ps owner lane g

pub added_is : (s : State) (owner : ℕ) → IsSchedule s → IsSchedule (added s owner)
added_is s owner i =
    let lane : ℕ = first_lane (length s.lanes) in
    record {
      some = i.some;
      lane = i.lane;
      inside = λ g. elim (new_at s.hosts owner lane g) [
        | inl same ↦ subst (λ (p : Peer). p.lane < length s.lanes) (sym same) (i.inside g)
        | inr new ↦ subst (λ (p : Peer). p.lane < length s.lanes) (sym new.1) (first_lane_inside (length s.lanes) i.some)
      ];
      held = λ g. elim (new_at s.hosts owner lane g) [
        | inl same ↦ subst Holds (sym same) (i.held g)
        | inr new ↦ subst Holds (sym new.1) (λ b. absurd (false≢true b))
      ];
      waits = λ l g. elim (new_at s.hosts owner lane g) [
        | inl same ↦ (i.waits l g ∙ ap (λ p. one_if (waits_in l p)) (sym same))
        | inr new ↦
            (i.waits l g ∙ ap (λ p. one_if (waits_in l p)) new.0 ∙ ap one_if (idle_waits l nobody refl ∙ sym (idle_waits l (unasked owner lane) refl))
            ∙ ap (λ p. one_if (waits_in l p)) (sym new.1))
      ];
      busy = λ l.
          let none : one_if (is_busy_in l (unasked owner lane)) ≡ 0 = ap one_if (and_right (lane == l) false refl) in
          omega (arith, i.busy l, none, sum_by_push (λ (p : Peer). one_if (is_busy_in l p)) s.hosts (unasked owner lane));
    }
