use Rattle.std.proofs.Common.{ap, sym, arith, List, ℕ, Option}
use Rattle.ocm_types.proofs.HostTexts.{cut_at_first-found, cut_at_first-none_found}
use Rattle.ocm_types.proofs.hosts.name_and_port.Goals as goal

pub returns-in-Some-clause-name : goal.returns-in-Some-clause-name
returns-in-Some-clause-name c = ap (λ (p : List ℕ × Option (List ℕ)). p.0) (sym (cut_at_first-found 58 c.args.s.now c.in-Some.name c.in-Some.port c.in-Some.ensures.cases (omega arith)))

pub returns-in-Some-clause-port : goal.returns-in-Some-clause-port
returns-in-Some-clause-port c = ap (λ (p : List ℕ × Option (List ℕ)). p.1) (sym (cut_at_first-found 58 c.args.s.now c.in-Some.name c.in-Some.port c.in-Some.ensures.cases (omega arith)))

pub returns-in-None-clause-name : goal.returns-in-None-clause-name
returns-in-None-clause-name c = ap (λ (p : List ℕ × Option (List ℕ)). p.0) (sym (cut_at_first-none_found 58 c.args.s.now c.in-None.ensures.cases (omega arith)))

pub returns-in-None-clause-port : goal.returns-in-None-clause-port
returns-in-None-clause-port c = ap (λ (p : List ℕ × Option (List ℕ)). p.1) (sym (cut_at_first-none_found 58 c.args.s.now c.in-None.ensures.cases (omega arith)))
