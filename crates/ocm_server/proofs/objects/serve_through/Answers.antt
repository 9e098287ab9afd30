use Rattle.std.proofs.Common.{◌≡◌, ◌∙◌, ℕ, ◌<◌, List, [], length, map, get_or, ap, arith}
use Rattle.std.proofs.lemmas.List.{get_or-map, length-map}
use Rattle.ocm_turn.specs.Passes.{Known}
use Rattle.ocm_turn.proofs.MoveLemmas.{ground_then}
use Rattle.ocm_turn.specs.declared.view.Call.{Call}
use Rattle.ocm_server.specs.Objects.{draw_at, mine_of, gathered, parts_of, past_of, Past}
use Rattle.ocm_server.specs.Visits.{Work, work}
use Rattle.ocm_server.specs.declared.workers.Worker.{Worker}
use Rattle.ocm_server.proofs.Dealing.{knows_through}
use Rattle.ocm_server.proofs.Serving.{order_of, orders, same_parts, service, shift}
use Rattle.ocm_server.proofs.objects.serve_through.Goals as goal

pub returns-clause-service : goal.returns-clause-service
returns-clause-service g c =
    let W : Type 0 = Worker g.row.T.Denot g.row.L.Denot g.row.N.Denot g.row.K.Denot g.row.T-Work.Denot g.row.T-Mark.Denot g.row.T-Terms.Denot g.row.L-Conn.Denot in
    let view : W → Work g.row.L-Conn.Denot g.row.T-Terms.Denot = λ w. work (g.L.Door.told w.door) (g.L.Door.faults w.door) (g.N.Post.exchanges w.post) (g.N.Post.faults w.post) (g.N.Post.delivers w.post) w.draw (g.K.Clock.given w.clock) w.pass w.end in
    let mine : W → List Call = λ w. mine_of w.pass in
    let dealt : (i : ℕ) → i < length c.args.workers.now → i < length c.deal.new.workers = λ i below. let a = c.deal.auto.workers in omega (arith, below, a) in
    let served : (i : ℕ) → i < length c.args.workers.now → i < length c.serve_all-rounds.new.workers = λ i below. let a = c.deal.auto.workers in let b = c.serve_all-rounds.auto.workers in omega (arith, below, a, b) in
    let many : length (map mine c.serve_all-rounds.new.workers) ≡ length c.args.workers.now = let n = length-map c.serve_all-rounds.new.workers mine in let a = c.deal.auto.workers in let b = c.serve_all-rounds.auto.workers in omega (arith, n, a, b) in
    let began : (i : ℕ) → i < length c.serve_all-rounds.new.workers → i < length c.deal.new.workers = λ i below. let b = c.serve_all-rounds.auto.workers in omega (arith, below, b) in
    let same = c.deal.ensures.same in
    let h = c.close-shut.ensures.history in
    let past : Past = record { history = h.0; moments = h.6 } in
    service g.T.Object.terms g.T.Object.stands g.T.Dated.came g.T.Object.legal c.args.node c.args.pass c.gather.new.pass c.close-shut.result.value c.close-shut.result.calls c.calls-own.result _ (map mine c.serve_all-rounds.new.workers) h.0 h.6
    (ground_then c.args.pass c.deal.new.pass c.gather.new.pass (record { turnstile = ap (λ (p : Known g.row.T-Terms.Denot). p.turnstile) same; base = ap (λ (p : Known g.row.T-Terms.Denot). p.base) same; terms = ap (λ (p : Known g.row.T-Terms.Denot). p.terms) same }) c.gather.ensures.ground)
    c.requires.uncalled
    (c.gather.ensures.mine ∙ ap (λ (p : Known g.row.T-Terms.Denot). gathered p.mine (map mine c.serve_all-rounds.new.workers)) same) (
      many,
      λ i d below. shift g.L.Conn.Conn.sides c.args.config.now c.args.node c.args.pass (draw_at c.args.draw_key i)
          (view (get_or c.args.workers.now i d)) (view (get_or c.deal.new.workers i d)) (view (get_or c.serve_all-rounds.new.workers i d)) (view (get_or c.gather.new.workers i d))
          (get_or (map mine c.serve_all-rounds.new.workers) i []) past
          (ap view (c.deal.ensures.dealt i d below)) (c.serve_all-rounds.ensures.each i d (dealt i below)) (ap view (c.gather.ensures.taken i d (served i below))) (get_or-map mine c.serve_all-rounds.new.workers i d [] (served i below))
          (knows_through (get_or c.serve_all-rounds.new.workers i d).pass (past_of c.gather.new.pass) past (c.gather.ensures.knows i d (served i below)) (record { history = h.3; moments = h.8 }))
          (let low = c.gather.ensures.drawn i d (served i below) in let high = c.close-shut.ensures.drawn in let count = h.5 in omega (arith, low, high, count)),
    )
    h.1 h.7 h.9 h.2 (c.close-shut.ensures.terms) h.5 h.4
    (orders mine c.serve_all-rounds.new.workers (λ i d below. order_of g.L.Conn.Conn.sides c.args.config.now c.args.node (view (get_or c.deal.new.workers i d)) (view (get_or c.serve_all-rounds.new.workers i d)) (c.serve_all-rounds.ensures.each i d (began i below))))
    c.calls-own.ensures.stand.1 c.calls-own.ensures.number
    (c.close-shut.ensures.whole (let given = c.deal.ensures.parts in let back = c.gather.ensures.parts in let a = c.deal.auto.workers in let b = c.serve_all-rounds.auto.workers in omega (arith, given, back, a, b)))

pub gather-requires-clause-one : goal.gather-requires-clause-one
gather-requires-clause-one g c = λ i d below.
    let W : Type 0 = Worker g.row.T.Denot g.row.L.Denot g.row.N.Denot g.row.K.Denot g.row.T-Work.Denot g.row.T-Mark.Denot g.row.T-Terms.Denot g.row.L-Conn.Denot in
    let view : W → Work g.row.L-Conn.Denot g.row.T-Terms.Denot = λ w. work (g.L.Door.told w.door) (g.L.Door.faults w.door) (g.N.Post.exchanges w.post) (g.N.Post.faults w.post) (g.N.Post.delivers w.post) w.draw (g.K.Clock.given w.clock) w.pass w.end in
    let a = c.deal.auto.workers in
    let b = c.serve_all-rounds.auto.workers in
    same_parts g.L.Conn.Conn.sides c.args.config.now c.args.node (view (get_or c.deal.new.workers i d)) (view (get_or c.serve_all-rounds.new.workers i d)) (c.serve_all-rounds.ensures.each i d (omega (arith, below, b)))
    ∙ ap (λ (w : W). parts_of w.pass) (c.deal.ensures.dealt i d (omega (arith, below, a, b)))

pub returns-clause-ended : goal.returns-clause-ended
returns-clause-ended g c = λ is i d below.
    let W : Type 0 = Worker g.row.T.Denot g.row.L.Denot g.row.N.Denot g.row.K.Denot g.row.T-Work.Denot g.row.T-Mark.Denot g.row.T-Terms.Denot g.row.L-Conn.Denot in
    let a = c.gather.auto.workers in
    let within : i < length c.serve_all-rounds.new.workers = omega (arith, below, a) in
    ap (λ (w : W). w.end) (c.gather.ensures.taken i d within) ∙ c.serve_all-rounds.ensures.ended is i d within

pub returns-clause-fault : goal.returns-clause-fault
returns-clause-fault g c = λ is.
    let W : Type 0 = Worker g.row.T.Denot g.row.L.Denot g.row.N.Denot g.row.K.Denot g.row.T-Work.Denot g.row.T-Mark.Denot g.row.T-Terms.Denot g.row.L-Conn.Denot in
    let a = c.gather.auto.workers in
    let one = c.serve_all-rounds.ensures.fault is in
    (one.0, omega (arith, one.1, a), λ d. ap (λ (w : W). w.end) (c.gather.ensures.taken one.0 d one.1) ∙ one.2 d)
